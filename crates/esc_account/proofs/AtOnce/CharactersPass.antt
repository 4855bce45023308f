-- Characters and controls that pass at once.
use Rattle.std.proofs.Common.{ℕ, zero, suc, ◌≡◌, ◌+◌, ◌≤◌, ◌<◌, Bool, true, false, ◌&&◌, cond, List, [], ◌∷◌, ◌++◌, length, take, get_or, bytes_eq, refl, sym, ap, ◌∙◌, subst, append-nil, arith, ◌==◌, if◌then◌else◌, Option, None, Some}
use Rattle.std.specs.List.{list_all, prefix_len}
use Rattle.std.specs.Char.{encode_utf8}
use Rattle.std.proofs.lemmas.Bool.{and_parts}
use Rattle.std.proofs.lemmas.Bool.Decides.{nat_tests}
use Rattle.std.proofs.lemmas.Slice.Eq.{bytes_eq-Decides}
use Rattle.std.proofs.lemmas.Str.{encode_ascii}
use Rattle.unicode_visibility.specs.Characters.{is_deceiving}
use Rattle.unicode_visibility.proofs.Ranges.{low_plain}
use Rattle.esc_frame.proofs.Cut.WellFormedIsUtf8.{spelled}
use Rattle.esc_frame.proofs.Emits.SegmentsSay.{text_from}
use Rattle.esc_frame.specs.Classes.{class_of}
use Rattle.esc_frame.specs.Scans.{is_data_byte}
use Rattle.esc_frame.specs.Segments.{Segment as Shape, joined_bytes}
use Rattle.esc_frame.specs.Segments.Segment.{Character, Control, Wide}
use Rattle.esc_frame.specs.Sequences.{is_pair, is_sequence, number_of}
use Rattle.esc_actions.specs.ControlCodes.{code_of}
use Rattle.esc_actions.specs.Texts.{list_text}
use Rattle.esc_actions.specs.Values.{Value, control, print}
use Rattle.esc_actions.specs.declared.control_code.ControlCode.TheVariants as code
use Rattle.esc_filter.specs.Rules.{is_shown, is_text}
use Rattle.esc_filter.specs.declared.guard.Guard.{Guard}
use Rattle.esc_account.specs.Accounts.{Rule}
use Rattle.esc_account.specs.Passing.{AllPass, IsPassing, passed_as, says}
use Rattle.esc_account.specs.Rules.{drops, drops_returns, rule_of, shows_returns}
use Rattle.esc_account.proofs.Entries.BlocksJoin.{joined-append}

no : (x : Bool) → (x && false) ≡ false
no true = refl
no false = refl

same : (x : List ℕ) → bytes_eq x x ≡ true
same x = (bytes_eq-Decides x x).1 refl

ascii_text : (b : ℕ) → b < 128 → encode_utf8 b ++ [] ≡ b ∷ []
ascii_text b l = append-nil (encode_utf8 b) ∙ encode_ascii b l

-- the last of the bytes, or this one where there is none
abbrev pub last_byte : Option ℕ → List ℕ → Option ℕ
last_byte o [] = o
last_byte o (b ∷ x) = last_byte (Some b) x

pub last_taken : (o : Option ℕ) (n : ℕ) (x : List ℕ) → n < length x
    → last_byte o (take (suc n) x) ≡ Some (get_or x n 0)
last_taken o n [] few = absurd (omega (arith, few))
last_taken o zero (b ∷ x) few = refl
last_taken o (suc n) (b ∷ x) few = last_taken (Some b) n x (omega (arith, few))

-- ---- values that a policy is known to admit

shown : (b : ℕ) → is_data_byte b ≡ true → is_shown b ≡ true
shown b h = grind (arith, nat_tests)

pub known_admits : {A : Type 0} (admits : Value A → Bool)
    → ((v : Value A) → is_text v ≡ true → admits v ≡ true) → (x : List ℕ)
    → list_all is_data_byte x ≡ true → list_all (λ c. admits (print c)) x ≡ true
known_admits admits known [] h = refl
known_admits admits known (b ∷ x) h =
    let p = and_parts (is_data_byte b) (list_all is_data_byte x) h in
    rw (known (print b) (shown b p.0), known_admits admits known x p.1) refl

-- ---- one

module _ {A : Type 0} (by_lines : Bool) (u : Guard) (limit : ℕ) (admits : Value A → Bool) where
  abbrev r : Rule
  r = rule_of by_lines u limit admits

  narrow_by : (l : Bool) (o : Option ℕ) (b : ℕ) → is_deceiving b ≡ false → admits (print b) ≡ true
      → list_text {A = A} (print b ∷ []) ≡ b ∷ [] → bytes_eq (b ∷ []) (b ∷ []) ≡ true
      → rule_of l u limit admits o (Character b) true ≡ passed_as (Some b)
  narrow_by true o b d h t e = rw (d, h, t, e, no (drops u.characters)) refl
  narrow_by false o b d h t e = rw (d, h, t, e, no (drops u.characters)) refl

  wide_by : (l : Bool) (o : Option ℕ) (x : List ℕ) → is_deceiving (number_of x) ≡ false
      → admits (print (number_of x)) ≡ true
      → list_text {A = A} (print (number_of x) ∷ []) ≡ x → bytes_eq x x ≡ true
      → rule_of l u limit admits o (Wide x) true ≡ passed_as (Some (number_of x))
  wide_by true o x d h t e = rw (d, h, t, e, no (drops u.characters)) refl
  wide_by false o x d h t e = rw (d, h, t, e, no (drops u.characters)) refl

  feed_by : (l : Bool) (o : Option ℕ) → admits (control code.LineFeed) ≡ true
      → list_text {A = A} (control code.LineFeed ∷ []) ≡ 0x0a ∷ []
      → rule_of l u limit admits o (Control 0x0a) true ≡ passed_as None
  unfolding code_of
  feed_by true o h t = rw (h, t, no (shows_returns u.returns)) refl
  feed_by false o h t = rw (h, t, no (drops_returns u.returns), no (shows_returns u.returns)) refl

  tab_by : (l : Bool) (o : Option ℕ) → admits (control code.HorizontalTab) ≡ true
      → list_text {A = A} (control code.HorizontalTab ∷ []) ≡ 0x09 ∷ []
      → rule_of l u limit admits o (Control 0x09) true ≡ passed_as None
  unfolding code_of
  tab_by true o h t = rw (h, t, no (drops_returns u.returns), no (shows_returns u.returns)) refl
  tab_by false o h t = rw (h, t, no (drops_returns u.returns), no (shows_returns u.returns)) refl

  pub feed_passes : admits (control code.LineFeed) ≡ true → (o : Option ℕ)
      → IsPassing r o (0x0a ∷ []) None
  unfolding class_of
  feed_passes h o = (
    Control 0x0a ∷ [],
    refl,
    ((refl, refl), feed_by by_lines o h (ascii_text 0x0a (omega arith)), refl),
  )

  pub tab_passes : admits (control code.HorizontalTab) ≡ true → (o : Option ℕ)
      → IsPassing r o (0x09 ∷ []) None
  unfolding class_of
  tab_passes h o = (
    Control 0x09 ∷ [],
    refl,
    ((refl, refl), tab_by by_lines o h (ascii_text 0x09 (omega arith)), refl),
  )

  pub wide_passes : (x : List ℕ) (c : ℕ) → is_sequence x ≡ true → is_pair x ≡ false
      → c ≡ number_of x → is_deceiving c ≡ false → admits (print c) ≡ true
      → (o : Option ℕ) → IsPassing r o x (Some c)
  wide_passes x c s p e d h o =
      let text : list_text {A = A} (print (number_of x) ∷ []) ≡ x =
      append-nil (encode_utf8 (number_of x)) ∙ (spelled x s p).1 in (
        Wide x ∷ [],
        sym (append-nil x),
        (
          (s, p),
          wide_by by_lines o x (ap is_deceiving (sym e) ∙ d)
              (ap (λ n. admits (print n)) (sym e) ∙ h) text (same x),
          ap Some (sym e),
        ),
      )

  -- ---- a run

  low : (b : ℕ) → is_data_byte b ≡ true → (0x20 ≤ b) × (b < 0x80)
  low b h = (grind (arith, nat_tests), grind (arith, nat_tests))

  pub data_passes : (o : Option ℕ) (x : List ℕ) → list_all is_data_byte x ≡ true
      → list_all (λ c. admits (print c)) x ≡ true → IsPassing r o x (last_byte o x)
  data_passes o [] h a = ([], refl, refl)
  data_passes o (b ∷ x) h a =
      let p = and_parts (is_data_byte b) (list_all is_data_byte x) h in
      let q = and_parts (admits (print b)) (list_all (λ c. admits (print c)) x) a in
      let l = low b p.0 in
      let more = data_passes (Some b) x p.1 q.1 in (
        Character b ∷ more.0,
        ap (λ y. b ∷ y) more.1,
        (
          text_from b l.0 l.1,
          narrow_by by_lines o b (low_plain b (omega (arith, l))) q.0 (ascii_text b l.1)
              (same (b ∷ [])),
          more.2,
        ),
      )

-- ---- some, and then others

pub none_pass : (r : Rule) (o : Option ℕ) → IsPassing r o [] o
none_pass r o = ([], refl, refl)

all_both : (r : Rule) (o m n : Option ℕ) (gs hs : List Shape) → AllPass r o gs m
    → AllPass r m hs n → AllPass r o (gs ++ hs) n
all_both r o m n [] hs a b = subst (λ k. AllPass r k hs n) (sym a) b
all_both r o m n (g ∷ gs) hs a b = (a.0, a.1, all_both r (says g) m n gs hs a.2 b)

pub both_pass : (r : Rule) (o m n : Option ℕ) (x y : List ℕ) → IsPassing r o x m
    → IsPassing r m y n → IsPassing r o (x ++ y) n
both_pass r o m n x y (gs, e, a) (hs, f, b) = (
  gs ++ hs,
  ap (λ z. z ++ y) e ∙ ap (λ z. joined_bytes gs ++ z) f ∙ sym (joined-append gs hs),
  all_both r o m n gs hs a b,
)

-- the bytes of a run pass, of those that are looked at
run_goes_on : (p : ℕ → Bool) (b : ℕ) (x : List ℕ) (n : ℕ) (t : Bool) → p b ≡ t
    → list_all p (take n x) ≡ true → list_all p (take (cond t (1 + n) 0) (b ∷ x)) ≡ true
run_goes_on p b x n false e h = refl
run_goes_on p b x n true e h =
    let one : suc n ≡ 1 + n = omega arith in
    subst (λ k. list_all p (take k (b ∷ x)) ≡ true) one
    (subst (λ t. (t && list_all p (take n x)) ≡ true) (sym e) h)

pub run_ahead : (p : ℕ → Bool) (most : ℕ) (x : List ℕ)
    → list_all p (take (prefix_len p (take most x)) x) ≡ true
run_ahead p zero x = refl
run_ahead p (suc most) [] = refl
run_ahead p (suc most) (b ∷ x) =
    run_goes_on p b x (prefix_len p (take most x)) (p b) refl (run_ahead p most x)

-- one byte, or none
pub one_ahead : (r : Rule) (o : Option ℕ) (n : ℕ) (s : List ℕ) (b : ℕ) → n ≤ 1 → 0 < length s
    → get_or s 0 0 ≡ b → (0 < n → IsPassing r o (b ∷ []) None)
    → IsPassing r o (take n s) (if n == 0 then o else None)
one_ahead r o zero s b few some e h = none_pass r o
one_ahead r o (suc zero) [] b few some e h = absurd (omega (arith, some))
one_ahead r o (suc zero) (c ∷ s) b few some e h =
    subst (λ v. IsPassing r o (v ∷ []) None) (sym e) (h (omega arith))
one_ahead r o (suc (suc n)) s b few some e h = absurd (omega (arith, few))
