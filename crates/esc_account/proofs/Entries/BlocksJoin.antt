-- Blocks of a stream, one after another.
use Rattle.std.proofs.Common.{ℕ, ◌≡◌, true, List, [], ◌∷◌, ◌++◌, refl, ap, sym, ◌∙◌, subst, append_assoc}
use Rattle.std.proofs.lemmas.List.{append-nil}
use Rattle.esc_frame.specs.Segments.{Segment as Shape, AreSegments, HasShape, IsCut, bytes_of, is_finished, joined_bytes}
use Rattle.esc_frame.specs.Leads.{AreFinished}
use Rattle.esc_frame.specs.Stream.{IsAtGround}
use Rattle.esc_frame.proofs.Steps.CutGrows.{finished_before}
use Rattle.esc_account.specs.Accounts.{GoesOn, IsAccount, Rule, begun, run, step}
use Rattle.esc_account.specs.declared.account.Account.{Account}
use Rattle.esc_account.proofs.Entries.LedgerIsGiven.{HasCut, OneCut}

pub joined-append : (gs hs : List Shape) → joined_bytes (gs ++ hs) ≡ joined_bytes gs
    ++ joined_bytes hs
joined-append [] hs = refl
joined-append (g ∷ gs) hs = ap (λ x. bytes_of g ++ x) (joined-append gs hs)
    ∙ sym (append_assoc (bytes_of g) (joined_bytes gs) (joined_bytes hs))

-- segments are finished whatever more follows
pub stay_finished : (gs : List Shape) (t b : List ℕ) → AreFinished gs t → AreFinished gs (t ++ b)
stay_finished gs t [] h = subst (AreFinished gs) (sym (append-nil t)) h
stay_finished gs t (x ∷ b) h =
    subst (AreFinished gs) (append_assoc t (x ∷ []) b)
    (stay_finished gs (t ++ x ∷ []) b (finished_before gs t x h))

one_more : (g : Shape) (gs : List Shape) → HasShape g (joined_bytes gs)
    → is_finished g (joined_bytes gs) ≡ true → AreSegments gs → AreSegments (g ∷ gs)
one_more g [] shape finished each = shape
one_more g (h ∷ gs) shape finished each = (shape, finished, each)

pub are_joined : (gs hs : List Shape) → AreFinished gs (joined_bytes hs) → AreSegments hs
    → AreSegments (gs ++ hs)
are_joined [] hs f each = each
are_joined (g ∷ gs) hs (shape, finished, rest) each =
    let e = sym (joined-append gs hs) in
    one_more g (gs ++ hs) (subst (HasShape g) e shape)
    (subst (λ x. is_finished g x ≡ true) e finished) (are_joined gs hs rest each)

-- the cut of a stream with nothing unfinished, and then that of what follows it
cut_joined : (s b : List ℕ) (gs hs : List Shape) → IsCut s gs → AreFinished gs [] → IsCut b hs
    → IsCut (s ++ b) (gs ++ hs)
cut_joined s b gs hs c f d = record {
  whole = ap (λ x. x ++ b) c.whole ∙ ap (λ x. joined_bytes gs ++ x) d.whole
      ∙ sym (joined-append gs hs);
  each = are_joined gs hs (stay_finished gs [] (joined_bytes hs) f) d.each;
}

run_joined : (r : Rule) (x : Account) (gs hs : List Shape) → AreFinished gs []
    → AreFinished gs (joined_bytes hs) → run r x (gs ++ hs) ≡ run r (run r x gs) hs
run_joined r x [] hs f k = refl
run_joined r x (g ∷ gs) hs (s, f, m) (t, k, n) =
    let short : is_finished g (joined_bytes gs) ≡ true =
    ap (is_finished g) (sym (append-nil (joined_bytes gs))) ∙ f in
    let long : is_finished g (joined_bytes (gs ++ hs)) ≡ true =
    ap (is_finished g) (joined-append gs hs) ∙ k in
    ap (λ b. run r (step r x g b) (gs ++ hs)) (long ∙ sym short)
    ∙ run_joined r (step r x g (is_finished g (joined_bytes gs))) gs hs m n

pub blocks : HasCut → OneCut → (r : Rule) (s b : List ℕ) (x y : Account) → IsAtGround s
    → IsAccount r s x → GoesOn r x b y → IsAccount r (s ++ b) y
blocks has once r s b x y (fs, cf, fin) (gs, cg, e) goes =
    let d = has b in
    let same : fs ≡ gs = once s fs gs cf cg in
    let f : AreFinished gs [] = subst (λ z. AreFinished z []) same fin in (
      gs ++ d.0,
      cut_joined s b gs d.0 cg f d.1,
      goes d.0 d.1 ∙ ap (λ z. run r z d.0) e
          ∙ sym (run_joined r begun gs d.0 f (stay_finished gs [] (joined_bytes d.0) f)),
    )
