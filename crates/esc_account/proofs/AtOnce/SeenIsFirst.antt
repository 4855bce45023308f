-- Segments that are seen at once are the first of the cut.
use Rattle.std.proofs.Common.{ℕ, zero, suc, ◌≡◌, ◌+◌, ◌<◌, ◌≤◌, ◌-◌, ◌==◌, Bool, true, false, cond, inl, inr, List, [], ◌∷◌, ◌++◌, length, take, drop, get_or, refl, sym, ap, ◌∙◌, subst, append-nil, arith, length-append, length-drop}
use Rattle.std.proofs.lemmas.Bool.{and_parts}
use Rattle.std.proofs.lemmas.Bool.Decides.{nat_tests}
use Rattle.std.proofs.lemmas.List.{length-take-le, take-append-drop}
use Rattle.std.specs.List.{list_all, prefix_len}
use Rattle.esc_frame.specs.Classes.{class_of, ends_csi, in_osc}
use Rattle.esc_frame.specs.Leads.{AreFinished}
use Rattle.esc_frame.specs.Scans.{is_data_byte}
use Rattle.esc_frame.specs.Segments.{Segment as Shape, AreOscUnits, HasShape, IsCut, OscUnit, breaks_text, bytes_of, is_finished, joined_bytes, text_bytes}
use Rattle.esc_frame.specs.Segments.Ending.{Open, Rung}
use Rattle.esc_frame.specs.Segments.Opener.{Long}
use Rattle.esc_frame.specs.Segments.OscUnit.{One}
use Rattle.esc_frame.specs.Segments.Segment.{Csi, Osc}
use Rattle.esc_frame.proofs.Emits.SequencesSay.{body_in, body_of}
use Rattle.esc_segments.specs.declared.item.Segment.{Segment as Item}
use Rattle.esc_segments.specs.declared.kind.SegmentKind.TheVariants as kinds
use Rattle.esc_segments.specs.Items.{IsHead, kind_of}
use Rattle.esc_account.specs.AtOnce.{IsCommand, IsEnded, IsOther, IsSeen, IsSequence, IsTextOf, is_text_end}
use Rattle.esc_account.proofs.Entries.BlocksJoin.{are_joined}
use Rattle.esc_account.proofs.Entries.LedgerIsGiven.{HasCut, OneCut}
use Rattle.esc_account.proofs.Segments.ShortSequenceEvent.{all_taken}

-- ---- the first of the cut

pub head_seen : HasCut → OneCut → (s : List ℕ) (x : Item) → IsSeen s x → (gs : List Shape)
    → IsCut s gs → IsHead s gs x (drop (length x.bytes.now) s)
head_seen has one s x h gs cut =
    let t = drop (length x.bytes.now) s in
    let c = has t in
    let hs = c.0 in
    let g = h.head in
    let ends : AreFinished (g ∷ []) (joined_bytes hs) = (
      subst (HasShape g) c.1.whole h.shape,
      sym (ap (is_finished g) c.1.whole) ∙ h.over,
      tt,
    ) in
    let own : IsCut s (g ∷ hs) = record {
      whole = h.whole ∙ ap (λ v. v ++ t) h.bytes_are ∙ ap (λ v. bytes_of g ++ v) c.1.whole;
      each = are_joined (g ∷ []) hs ends c.1.each;
    } in record {
      head = g;
      others = hs;
      first = one s gs (g ∷ hs) cut own;
      item = record {
        kind = h.kind;
        bytes = h.bytes_are;
        finished = h.finished ∙ sym h.over;
      };
      place = h.whole;
      rest = c.1;
    }

pub seen_few : (s : List ℕ) (x : Item) → IsSeen s x
    → (0 < length x.bytes.now) × (length x.bytes.now ≤ length s)
seen_few s x h =
    let both = length-append x.bytes.now (drop (length x.bytes.now) s) in
    (h.some, omega (arith, ap length h.whole, both))

-- ---- its bytes

two_first : (s : List ℕ) (a b : ℕ) → 3 ≤ length s → get_or s 0 0 ≡ a → get_or s 1 0 ≡ b
    → (k n : ℕ) → k ≡ n + 2 → take k s ≡ a ∷ b ∷ take n (drop 2 s)
two_first [] a b l e f k n h = absurd (omega (arith, l))
two_first (c ∷ []) a b l e f k n h = absurd (omega (arith, l))
two_first (c ∷ d ∷ s) a b l e f k n h =
    let two : k ≡ suc (suc n) = omega (arith, h) in
    ap (λ m. take m (c ∷ d ∷ s)) two ∙ ap (λ v. v ∷ d ∷ take n s) e
    ∙ ap (λ v. a ∷ v ∷ take n s) f

none_dropped : (n : ℕ) → ◌≡◌ {A = List ℕ} (drop n []) []
none_dropped zero = refl
none_dropped (suc n) = refl

dropped_twice : (s : List ℕ) (n : ℕ) → drop (suc (suc n)) s ≡ drop n (drop 2 s)
dropped_twice [] n = sym (none_dropped n)
dropped_twice (a ∷ []) n = sym (none_dropped n)
dropped_twice (a ∷ b ∷ s) n = refl

two_dropped : (s : List ℕ) (k n : ℕ) → k ≡ n + 2 → drop k s ≡ drop n (drop 2 s)
two_dropped s k n h =
    let two : k ≡ suc (suc n) = omega (arith, h) in
    ap (λ m. drop m s) two ∙ dropped_twice s n

seen_by : (s : List ℕ) (k : ℕ) (x : Item) (g : Shape) → 0 < k → k ≤ length s
    → x.bytes.now ≡ take k s → take k s ≡ bytes_of g → x.kind ≡ kind_of g → x.finished ≡ true
    → HasShape g (drop k s) → is_finished g (drop k s) ≡ true → IsSeen s x
seen_by s k x g some few is same kind done shape over =
    let n : length x.bytes.now ≡ k = ap length is ∙ length-take-le k s few in record {
      head = g;
      some = omega (arith, some, n);
      whole = sym (take-append-drop k s) ∙ ap (λ v. v ++ drop k s) (sym is)
          ∙ ap (λ m. x.bytes.now ++ drop m s) (sym n);
      shape = subst (λ m. HasShape g (drop m s)) (sym n) shape;
      over = ap (λ m. is_finished g (drop m s)) n ∙ over;
      kind = kind;
      bytes_are = is ∙ same;
      finished = done;
    }

-- ---- a control sequence

pub final_is : (f : ℕ) → 0x40 ≤ f → f ≤ 0x7e → ends_csi (class_of f) ≡ true
unfolding class_of
final_is f low high = grind (arith, nat_tests)

pub sequence_seen : (s : List ℕ) (k n f : ℕ) (x : Item) → 3 ≤ length s → get_or s 0 0 ≡ 0x1b
    → get_or s 1 0 ≡ 0x5b → k ≡ n + 2 → k ≤ length s → IsSequence (take n (drop 2 s)) f
    → x.kind ≡ kinds.Csi → x.bytes.now ≡ take k s → x.finished ≡ true → IsSeen s x
sequence_seen s k n f x l a b e few q kind is done =
    seen_by s k x (Csi (Long []) q.body f) (omega (arith, e)) few is
    (two_first s 0x1b 0x5b l a b k n e ∙ ap (λ v. 0x1b ∷ 0x5b ∷ v) q.whole) kind done
    (refl, body_in q.body (body_of q.body q.each), final_is f q.low q.high) refl

-- ---- an operating system command

abbrev pub units : List ℕ → List OscUnit
units [] = []
units (b ∷ t) = One b ∷ units t

pub units_text : (t : List ℕ) → text_bytes (units t) ≡ t
units_text [] = refl
units_text (b ∷ t) = ap (λ v. b ∷ v) (units_text t)

data_class : (b : ℕ) → is_data_byte b ≡ true → in_osc (class_of b) ≡ true
unfolding class_of
data_class b h = grind (arith, nat_tests)

pub units_are : (t after : List ℕ) → list_all is_data_byte t ≡ true → AreOscUnits (units t) after
units_are [] after h = tt
units_are (b ∷ t) after h =
    let p = and_parts (is_data_byte b) (list_all is_data_byte t) h in
    (data_class b p.0, units_are t after p.1)

escape_breaks : (t : List ℕ) → breaks_text (0x1b ∷ t) ≡ true
unfolding class_of
escape_breaks t = refl

escape_ends : (after : List ℕ) → after ≡ 0x1b ∷ drop 1 after → breaks_text after ≡ true
escape_ends after e = ap breaks_text e ∙ escape_breaks (drop 1 after)

pub command_seen : (s : List ℕ) (k n : ℕ) (x : Item) → 3 ≤ length s → get_or s 0 0 ≡ 0x1b
    → get_or s 1 0 ≡ 0x5d → k ≡ n + 2 → k ≤ length s
    → IsCommand (take n (drop 2 s)) (drop n (drop 2 s))
    → x.kind ≡ kinds.Osc → x.bytes.now ≡ take k s → x.finished ≡ true → IsSeen s x
command_seen s k n x l a b e few q kind is done = by q.ended
  where
    t : List ℕ
    t = q.text

    first : take k s ≡ 0x1b ∷ 0x5d ∷ take n (drop 2 s)
    first = two_first s 0x1b 0x5d l a b k n e

    by : IsEnded t (take n (drop 2 s)) (drop n (drop 2 s)) → IsSeen s x
    by (inl rung) =
        seen_by s k x (Osc (Long []) (units t) Rung) (omega (arith, e)) few is
        (first ∙ ap (λ v. 0x1b ∷ 0x5d ∷ v) (rung ∙ ap (λ v. v ++ 0x07 ∷ []) (sym (units_text t))))
        kind done (refl, units_are t (0x07 ∷ drop k s) q.each, tt) refl
    by (inr (same, follows)) =
        seen_by s k x (Osc (Long []) (units t) Open) (omega (arith, e)) few is
        (first ∙ ap (λ v. 0x1b ∷ 0x5d ∷ v) (same ∙ sym (units_text t) ∙ sym
        (append-nil (text_bytes (units t))))) kind done
        (refl, units_are t (drop k s) q.each, tt)
        (escape_ends (drop k s)
        (subst (λ v. v ≡ 0x1b ∷ drop 1 v) (sym (two_dropped s k n e)) follows))

-- ---- how far it goes

run_goes : (p : ℕ → Bool) (b : ℕ) (x : List ℕ) (t : Bool) → p b ≡ t
    → list_all p (take (prefix_len p x) x) ≡ true
    → cond t (1 + prefix_len p x) 0 ≡ prefix_len p (b ∷ x)
    → list_all p (take (prefix_len p (b ∷ x)) (b ∷ x)) ≡ true
run_goes p b x false e h k = subst (λ n. list_all p (take n (b ∷ x)) ≡ true) k refl
run_goes p b x true e h k =
    let one : suc (prefix_len p x) ≡ prefix_len p (b ∷ x) = omega (arith, k) in
    subst (λ n. list_all p (take n (b ∷ x)) ≡ true) one (rw (e, h) refl)

pub run_all : (p : ℕ → Bool) (x : List ℕ) → list_all p (take (prefix_len p x) x) ≡ true
run_all p [] = refl
run_all p (b ∷ x) = run_goes p b x (p b) refl (run_all p x) refl

from_here : (n : ℕ) (s : List ℕ) → n < length s → drop n s ≡ get_or s n 0 ∷ drop 1 (drop n s)
from_here n [] h = absurd (omega (arith, h))
from_here zero (b ∷ s) h = refl
from_here (suc n) (b ∷ s) h = from_here n s (omega (arith, h))

taken_last : (n k : ℕ) (s : List ℕ) → n < length s → k ≡ n + 1
    → take k s ≡ take n s ++ get_or s n 0 ∷ []
taken_last n k s h e =
    let one : k ≡ suc n = omega (arith, e) in ap (λ m. take m s) one ∙ by n s h
  where
    by : (n : ℕ) (s : List ℕ) → n < length s → take (suc n) s ≡ take n s ++ get_or s n 0 ∷ []
    by n [] h = absurd (omega (arith, h))
    by zero (b ∷ s) h = refl
    by (suc n) (b ∷ s) h = ap (λ v. b ∷ v) (by n s (omega (arith, h)))

pub rung_is : (n : ℕ) (s : List ℕ) → n < length s → n ≡ prefix_len is_data_byte s
    → get_or s n 0 ≡ 0x07 → IsCommand (take (n + 1) s) (drop (n + 1) s)
rung_is n s few run bell = record {
  text = take n s;
  each = subst (λ m. list_all is_data_byte (take m s) ≡ true) (sym run) (run_all is_data_byte s);
  ended = inl (taken_last n (n + 1) s few refl ∙ ap (λ b. take n s ++ b ∷ []) bell);
}

pub open_is : (n : ℕ) (s : List ℕ) → n < length s → n ≡ prefix_len is_data_byte s
    → get_or s n 0 ≡ 0x1b → IsCommand (take n s) (drop n s)
open_is n s few run escape = record {
  text = take n s;
  each = subst (λ m. list_all is_data_byte (take m s) ≡ true) (sym run) (run_all is_data_byte s);
  ended = inr (refl, from_here n s few ∙ ap (λ b. b ∷ drop 1 (drop n s)) escape);
}

-- ---- by its bytes

pub other_is : (s : List ℕ) (n f : ℕ) → 3 ≤ length s → get_or s 0 0 ≡ 0x1b → get_or s 1 0 ≡ 0x5b
    → IsSequence (take n (drop 2 s)) f → (f == 0x6d) ≡ false → IsOther (take (n + 2) s)
other_is s n f l a b q other =
    (take n (drop 2 s), f, two_first s 0x1b 0x5b l a b (n + 2) n refl, q, other)

pub other_whole : (s : List ℕ) (n : ℕ) → n ≡ length s → IsOther (take n s) → IsOther s
other_whole s n e h = subst IsOther (all_taken n s (omega (arith, e))) h

pub text_is : (s : List ℕ) (n : ℕ) → 3 ≤ length s → get_or s 0 0 ≡ 0x1b → get_or s 1 0 ≡ 0x5d
    → is_text_end (drop n (drop 2 s)) ≡ true → IsTextOf s (take n (drop 2 s))
text_is s n l a b e = (
  drop n (drop 2 s),
  sym (all_taken (length s) s (omega arith))
      ∙ two_first s 0x1b 0x5d l a b (length s) (length s - 2) (omega (arith, l))
      ∙ ap (λ v. 0x1b ∷ 0x5d ∷ v)
      (all_taken (length s - 2) (drop 2 s) (omega (arith, length-drop 2 s))
      ∙ sym (take-append-drop n (drop 2 s))),
  e,
)
