-- The text that was written for the values that pass, and the changes that were noted.
use Rattle.std.proofs.Common.{◌≡◌, Option, ℕ, Bool, true, false, not, ◌&&◌, cond, if◌then◌else◌, List, [], ◌∷◌, ◌++◌, refl, sym, subst, ap, ◌∙◌, append_assoc, append-nil}
use Rattle.std.specs.List.{FoldsTo, filter}
use Rattle.esc_parse.specs.Given.{At}
use Rattle.esc_actions.specs.Meaning.{yield_within}
use Rattle.esc_actions.specs.Texts.{texts_after}
use Rattle.esc_actions.specs.Values.{Value, value_of}
use Rattle.esc_actions.specs.declared.action.Action.{Action}
use Rattle.esc_filter.specs.Closing.{after_values}
use Rattle.esc_filter.specs.Pens.{pen_after, start_pen}
use Rattle.esc_filter.specs.Fed.{Takes}
use Rattle.esc_filter.specs.Noted.{HasNoted, Writes, written_of}
use Rattle.esc_filter.proofs.Output.TextsGrow.{added_as, after_more, end_longer, last_longer, left_longer, pens_longer, pens_more, text_longer_as}
use Rattle.esc_normal.proofs.Texts.{ends_more, texts_more}
use Rattle.esc_filter.proofs.Output.DeceivingCharacters.{in_more, in_none, last_more}
use Rattle.esc_filter.specs.Characters.{in_guard, in_values_after, last_after}
use Rattle.esc_filter.specs.declared.guard.Guard.{Guard}
use Rattle.esc_filter.specs.Passing.{in_lines, is_line_feed, is_whole, passed_as, passed_text_as, passes}
use Rattle.esc_normal.specs.Texts.{ends_in_string}
use Rattle.esc_filter.specs.declared.written.Written.{Written}

module _ {A : Type 0} where
  -- one list after another
  writes_both : (p j q : Written A) (vs ws : List (Value A)) → Writes p vs j → Writes j ws q
      → Writes p (vs ++ ws) q
  writes_both p j q vs ws (t, e, o, b, u, l, m) (t', e', o', b', u', l', m') =
      let f = p.spell.follows_string in (
        t'
            ∙ ap (λ x. x ++ texts_after j.spell.follows_string ws) t
            ∙ append_assoc p.spell.text (texts_after f vs)
            (texts_after j.spell.follows_string ws)
            ∙ ap (λ x. p.spell.text ++ (texts_after f vs ++ texts_after x ws)) e
            ∙ ap (λ x. p.spell.text ++ x) (sym (texts_more f vs ws)),
        e' ∙ ap (λ x. ends_in_string x ws) e ∙ sym (ends_more f vs ws),
        o' ∙ ap (after_values ws) o ∙ sym (after_more vs ws p.left),
        b' ∙ b,
        u' ∙ u,
        l' ∙ ap (λ x. last_after x ws) l ∙ sym (last_more p.before vs ws),
        m' ∙ ap (pen_after ws) m ∙ sym (pens_more vs ws p.pen),
      )

  -- a value that passes, or not, and is dropped, or not
  gives_one : (u : Guard) (x f y : Bool) (p j q : Written A) (v : Value A) (vs : List (Value A))
      → y ≡ (x && not f)
      → (x ≡ true → Writes p (if f then [] else in_guard u p.before v) j) × (x ≡ false → j ≡ p)
      → Writes j (in_values_after u j.before vs) q
      → Writes p (in_values_after u p.before (cond y (v ∷ vs) vs)) q
  gives_one u true true true p j q v vs e w g = absurd cc
  gives_one u true true false p j q v vs e w g =
      let h = w.0 refl in
      writes_both p j q [] (in_values_after u p.before vs) h
      (subst (λ l. Writes j (in_values_after u l vs) q) h.5 g)
  gives_one u true false true p j q v vs e w g =
      let h = w.0 refl in
      let x = in_guard u p.before v in
      subst (λ ws. Writes p ws q) (sym (in_more u p.before v vs))
      (writes_both p j q x (in_values_after u (last_after p.before x) vs) h
      (subst (λ l. Writes j (in_values_after u l vs) q) h.5 g))
  gives_one u true false false p j q v vs e w g = absurd cc
  gives_one u false f true p j q v vs e w g = absurd cc
  gives_one u false f false p j q v vs e w g =
      subst (λ x. Writes x (in_values_after u x.before vs) q) (w.1 refl) g

  -- how it writes stays
  ways_same : (x : Bool) (p j : Written A) (ws : List (Value A))
      → (x ≡ true → Writes p ws j) × (x ≡ false → j ≡ p)
      → (j.by_lines ≡ p.by_lines) × (j.guard ≡ p.guard)
  ways_same true p j ws w = let h = w.0 refl in (h.3, h.4)
  ways_same false p j ws w = (ap (λ x. x.by_lines) (w.1 refl), ap (λ x. x.guard) (w.1 refl))

-- the values that pass, but for a line feed that is dropped
but_feeds : (b w f a : Bool) → (w && (not f && a)) ≡ ((w && a) && not (f && true))
but_feeds b true true true = refl
but_feeds b true true false = refl
but_feeds b true false true = refl
but_feeds b true false false = refl
but_feeds b false f a = refl

all_of : (w f a : Bool) → (w && a) ≡ ((w && a) && not (f && false))
all_of true true true = refl
all_of true true false = refl
all_of true false true = refl
all_of true false false = refl
all_of false f a = refl

passes_lines : {A : Type 0} (b c : Bool) (admits : Value A → Bool) (v : Value A) → c ≡ b
    → passes (in_lines b admits) v ≡ (passes admits v && not (is_line_feed v && c))
passes_lines true true admits v e = but_feeds true (is_whole v) (is_line_feed v) (admits v)
passes_lines false false admits v e = all_of (is_whole v) (is_line_feed v) (admits v)
passes_lines true false admits v e = absurd cc
passes_lines false true admits v e = absurd cc

-- the text of a part, if the text of those before it ended so
fed_more : {A : Type 0} (u : Guard) (limit : Option ℕ) (b : Bool) (admits : Value A → Bool)
    (s bs : List ℕ) (p q : Written A) → p.spell.text ≡ []
    → HasNoted b u (passed_as u limit admits s) p
    → Writes p (added_as u limit admits s bs) q
    → HasNoted b u (passed_as u limit admits (s ++ bs)) q
    × (passed_text_as u limit admits (s ++ bs)
    ≡ passed_text_as u limit admits s ++ q.spell.text)
fed_more u limit b admits s bs p q none (e, o, l, c, k, m) g =
    let vs = added_as u limit admits s bs in (
      (
        g.1 ∙ ap (λ x. ends_in_string x vs) e ∙ sym (end_longer u limit admits s bs),
        g.2 ∙ ap (after_values vs) o ∙ sym (left_longer u limit admits s bs),
        g.3 ∙ l,
        g.4 ∙ c,
        g.5 ∙ ap (λ x. last_after x vs) k ∙ sym (last_longer u limit admits s bs),
        g.6 ∙ ap (pen_after vs) m ∙ sym (pens_longer u limit admits s bs (start_pen b)),
      ),
      text_longer_as u limit admits s bs
          ∙ ap (λ t. passed_text_as u limit admits s ++ t)
          (sym (g.0 ∙ ap (λ t. t ++ texts_after p.spell.follows_string vs) none
          ∙ ap (λ x. texts_after x vs) e)),
    )

-- All of them: a receiver S holds the writer of the actions and a policy K, which stays.
module _ {S K A : Type 0} (admits : K → Value A → Bool) (policy : S → K) (written : S → Written A)
    (b : Bool) (u : Guard) where
  abbrev pub TakesBy : S → Action A → S → Type 0
  TakesBy p a q = Takes (admits (policy p)) (written p) a (written q) × (policy q ≡ policy p)

  abbrev kept_by : K → Option ℕ → List (Value A) → List (Value A)
  kept_by k l vs = in_values_after u l (filter (passes (in_lines b (admits k))) vs)

  -- the effect of an action on the writer, by the kind of the action, and how it writes
  taken_as : (k : K) (p j : Written A) (a : Action A) (v : Value A) → value_of a ≡ v
      → p.by_lines ≡ b → p.guard ≡ u → Takes (admits k) p a j
      → (passes (admits k) v ≡ true → Writes p (written_of b u p.before v) j)
      × (passes (admits k) v ≡ false → j ≡ p)
  taken_as k p j a v is l c w =
      subst (λ y. (passes (admits k) y ≡ true → Writes p (written_of b u p.before y) j)
      × (passes (admits k) y ≡ false → j ≡ p)) is
      (subst (λ x. (passes (admits k) (value_of a) ≡ true
      → Writes p (written_of b x p.before (value_of a)) j)
      × (passes (admits k) (value_of a) ≡ false → j ≡ p)) c
      (subst (λ x. (passes (admits k) (value_of a) ≡ true
      → Writes p (written_of x p.guard p.before (value_of a)) j)
      × (passes (admits k) (value_of a) ≡ false → j ≡ p)) l w))

  gives_all : (p : S) (vs : List (Value A)) (q : S) → (written p).by_lines ≡ b
      → (written p).guard ≡ u → FoldsTo (At value_of TakesBy) p vs q
      → (policy q ≡ policy p)
      × Writes (written p) (kept_by (policy p) (written p).before vs) (written q)
  gives_all p [] q l c e = (
    ap policy (sym e),
    subst (λ ws. Writes (written p) ws (written q)) (sym (in_none u (written p).before)) (
      ap (λ x. (written x).spell.text) (sym e) ∙ sym (append-nil ((written p).spell.text)),
      ap (λ x. (written x).spell.follows_string) (sym e),
      ap (λ x. (written x).left) (sym e),
      ap (λ x. (written x).by_lines) (sym e),
      ap (λ x. (written x).guard) (sym e),
      ap (λ x. (written x).before) (sym e),
      ap (λ x. (written x).pen) (sym e),
    ),
  )
  gives_all p (v ∷ vs) q l c (j, (a, is, w), rest) =
      let k = policy p in
      let x = passes (admits k) v in
      let t = taken_as k (written p) (written j) a v is l c w.0 in
      let m = ways_same x (written p) (written j) (written_of b u (written p).before v) t in
      let r = gives_all j vs q (m.0 ∙ l) (m.1 ∙ c) rest in (
        r.0 ∙ w.1,
        gives_one u x (is_line_feed v && b) (passes (in_lines b (admits k)) v) (written p)
            (written j) (written q) v (filter (passes (in_lines b (admits k))) vs)
            (passes_lines b b (admits k) v refl) t
            (subst (λ y. Writes (written j) (kept_by y (written j).before vs) (written q)) w.1
            r.1),
      )

  -- the text that a call adds
  pub fed_all : (limit : Option ℕ) (s bs : List ℕ) (p q : S) → (written p).spell.text ≡ []
      → HasNoted b u (passed_as u limit (in_lines b (admits (policy p))) s) (written p)
      → FoldsTo (At value_of TakesBy) p (yield_within limit s bs) q
      → HasNoted b u (passed_as u limit (in_lines b (admits (policy p))) (s ++ bs)) (written q)
      × (passed_text_as u limit (in_lines b (admits (policy p))) (s ++ bs)
      ≡ passed_text_as u limit (in_lines b (admits (policy p))) s ++ (written q).spell.text)
  fed_all limit s bs p q none h folds =
      fed_more u limit b (in_lines b (admits (policy p))) s bs (written p) (written q) none h
      (subst (λ l. Writes (written p) (kept_by (policy p) l (yield_within limit s bs)) (written q))
      h.4 (gives_all p (yield_within limit s bs) q h.2 h.3 folds).1)
