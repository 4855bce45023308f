-- Characters from U+00A0 on that do not deceive, as bytes of a line.
use Rattle.std.proofs.Common.{ℕ, ◌≡◌, ◌≤◌, nat_le, nat_lt, if◌then◌else◌, ◌+◌, ◌-◌, ◌*◌, inl, inr, Bool, true, false, not, ◌&&◌, List, [], ◌∷◌, ◌++◌, arith, refl, ap, sym, ◌∙◌, subst, append-nil, ◌==◌, get_or, length, take}
use Rattle.std.specs.Char.{encode_utf8}
use Rattle.std.specs.List.{list_all, list_any}
use Rattle.std.specs.Str.{IsUtf8, encode_utf8_all}
use Rattle.std.proofs.lemmas.Bool.{and_parts, cases_lt}
use Rattle.std.proofs.lemmas.Bool.Decides.{nat_tests}
use Rattle.std.proofs.lemmas.Str.{IsUtf8-append, IsUtf8-encode, IsUtf8-nil, encode_ascii, encodes-append}
use lib.Utf8.{scalar}
use Rattle.esc_values.specs.Params.{is_from}
use Rattle.unicode_visibility.specs.Characters.{is_deceiving}
use Rattle.unicode_visibility.proofs.Ranges.{fifth_far, second_far, sixth_far, third_far}
use Rattle.esc_values.proofs.Clear.PlainPartsAreClear.{all_append}
use Rattle.esc_frame.specs.Machine.Characters.{IsCharacter}
use Rattle.esc_frame.specs.Sequences.{is_pair, is_sequence, number_of}
use Rattle.esc_frame.proofs.Cut.WellFormedIsUtf8.{clear_cases, four_is, none_five, number_three, number_two, none_none, none_one, spelled, spells_clear, three_is, two_is}
use Rattle.esc_filter.specs.Lines.{AreWide, has_line_feed, is_line_feed, is_plain_three, is_plain_two, is_return, is_wide}
use Rattle.esc_filter.specs.Rules.{is_shown}

abbrev pub has_return : List ℕ → Bool
has_return s = list_any is_return s

-- UTF-8, without a line feed and a carriage return
abbrev pub AreInner : List ℕ → Type 0
AreInner s = IsUtf8 s × (has_line_feed s ≡ false) × (has_return s ≡ false)

-- ---- characters from U+00A0 on

high_feed : (b : ℕ) → 0x80 ≤ b → is_line_feed b ≡ false
high_feed b h = grind (arith, nat_tests)

high_return : (b : ℕ) → 0x80 ≤ b → is_return b ≡ false
high_return b h = grind (arith, nat_tests)

-- no byte of a sequence ends a line
sequence_inner : (x : List ℕ) → is_sequence x ≡ true
    → (has_line_feed x ≡ false) × (has_return x ≡ false)
sequence_inner [] h = absurd (none_none h)
sequence_inner (a ∷ []) h = absurd (none_one a h)
sequence_inner (a ∷ b ∷ []) h =
    let q = two_is a b h in
    let l : 0x80 ≤ a = omega (arith, q.0) in (
      rw (high_feed a l, high_feed b q.2) refl,
      rw (high_return a l, high_return b q.2) refl,
    )
sequence_inner (a ∷ b ∷ c ∷ []) h =
    let q = three_is a b c h in
    let l : 0x80 ≤ a = omega (arith, q.0) in
    let m : 0x80 ≤ b = omega (arith, q.2) in
    let n : 0x80 ≤ c = omega (arith, q.6) in (
      rw (high_feed a l, high_feed b m, high_feed c n) refl,
      rw (high_return a l, high_return b m, high_return c n) refl,
    )
sequence_inner (a ∷ b ∷ c ∷ d ∷ []) h =
    let q = four_is a b c d h in
    let l : 0x80 ≤ a = omega (arith, q.0) in
    let m : 0x80 ≤ b = omega (arith, q.2) in
    let n : 0x80 ≤ c = omega (arith, q.6) in
    let o : 0x80 ≤ d = omega (arith, q.8) in (
      rw (high_feed a l, high_feed b m, high_feed c n, high_feed d o) refl,
      rw (high_return a l, high_return b m, high_return c n, high_return d o) refl,
    )
sequence_inner (a ∷ b ∷ c ∷ d ∷ e ∷ x) h = absurd (none_five a b c d e x h)

-- the facts about such a character
pub record Wide (c : ℕ) : Type 0 where
  pub is : IsCharacter (encode_utf8 c) c
  pub shown : is_shown c ≡ true
  pub plain : is_deceiving c ≡ false
  pub inner : AreInner (encode_utf8 c)

far : (c : ℕ) → nat_le 0xa0 c ≡ true → 0xa0 ≤ c
far c h = grind (arith, nat_tests)

far_shown : (c : ℕ) → 0xa0 ≤ c → is_shown c ≡ true
far_shown c h = grind (arith, nat_tests)

far_le : (c : ℕ) → 0xa0 ≤ c → nat_le 0xa0 c ≡ true
far_le c h = grind (arith, nat_tests)

not_false : (b : Bool) → not b ≡ true → b ≡ false
not_false false h = refl
not_false true h = absurd cc

pub wide_is : (c : ℕ) → is_wide c ≡ true → Wide c
wide_is c h =
    let q = and_parts (scalar c) (nat_le 0xa0 c && not (is_deceiving c)) h in
    let r = and_parts (nat_le 0xa0 c) (not (is_deceiving c)) q.1 in
    let l = far c r.0 in
    let s = spells_clear c q.0 l in
    let bytes = sequence_inner (encode_utf8 c) s.0 in
    record {
      is = (s.0, s.1, sym s.2);
      shown = far_shown c l;
      plain = not_false (is_deceiving c) r.1;
      inner = (IsUtf8-encode c q.0, bytes.0, bytes.1);
    }

pub all_utf8 : (cs : List ℕ) → list_all is_wide cs ≡ true → IsUtf8 (encode_utf8_all cs)
all_utf8 [] h = IsUtf8-nil
all_utf8 (c ∷ cs) h =
    let q = and_parts (is_wide c) (list_all is_wide cs) h in
    IsUtf8-append (encode_utf8 c) (encode_utf8_all cs) (wide_is c q.0).inner.0 (all_utf8 cs q.1)

-- one that comes first
pub wide_one : (x : List ℕ) (c : ℕ) → IsCharacter x c → is_deceiving c ≡ false → AreWide x
wide_one x c (s, p, e) h =
    let n = number_of x in
    let q = spelled x s p in
    let k = clear_cases n q.0 in
    let l : 0xa0 ≤ n = elim k.1 [
      | inl m ↦ absurd (none_one n
          (subst (λ y. is_sequence y ≡ true) (sym q.1 ∙ encode_ascii n m.1) s))
      | inr m ↦ m
    ] in
    let plain : is_deceiving n ≡ false = ap is_deceiving (sym e) ∙ h in
    (n ∷ [], rw (k.0, far_le n l, plain) refl, append-nil (encode_utf8 n) ∙ q.1)

-- the number of a sequence of two bytes, and of three
two_whole : (a b : ℕ) → 0xc3 ≤ a → a ≤ 0xd7 → 0x80 ≤ b → b ≤ 0xbf
    → (is_sequence (a ∷ b ∷ []) ≡ true) × (is_pair (a ∷ b ∷ []) ≡ false)
unfolding is_sequence is_pair
two_whole a b l m n o = (grind (arith, nat_tests), grind (arith, nat_tests))

three_whole : (a b c : ℕ) → 0xe2 ≤ a → a ≤ 0xec → 0x80 ≤ b → b ≤ 0xbf → 0x80 ≤ c → c ≤ 0xbf
    → (is_sequence (a ∷ b ∷ c ∷ []) ≡ true) × (is_pair (a ∷ b ∷ c ∷ []) ≡ false)
unfolding is_sequence is_pair
three_whole a b c l m n o p q = (grind (arith, nat_tests), refl)

pub two_wide : (a b : ℕ) → 0xc3 ≤ a → a ≤ 0xd7 → (a ≡ 0xcd → ⊥) → 0x80 ≤ b → b ≤ 0xbf
    → AreWide (a ∷ b ∷ [])
two_wide a b l m other n o =
    let x = a ∷ b ∷ [] in
    let w = two_whole a b l m n o in
    let is = number_two a b in
    let plain : is_deceiving (number_of x) ≡ false = elim (cases_lt a 0xcd) [
      | inl k ↦ second_far (number_of x) (omega (arith, is, l, n)) (omega (arith, is, k, o))
      | inr k ↦ third_far (number_of x) (omega (arith, is, above k, n)) (omega (arith, is, m, o))
    ] in
    wide_one x (number_of x) (w.0, w.1, refl) plain
  where
    above : 0xcd ≤ a → 0xce ≤ a
    above k = elim (cases_lt a 0xce) [ inl h ↦ absurd (other (omega (arith, h, k))) | inr h ↦ h ]

three_wide : (a b c : ℕ) → 0xe2 ≤ a → a ≤ 0xec → 0x80 ≤ b → b ≤ 0xbf → 0x80 ≤ c → c ≤ 0xbf
    → is_deceiving ((a - 0xe0) * 4096 + (b - 0x80) * 64 + (c - 0x80)) ≡ false
    → AreWide (a ∷ b ∷ c ∷ [])
three_wide a b c l m n o p q plain =
    let x = a ∷ b ∷ c ∷ [] in
    let w = three_whole a b c l m n o p q in
    wide_one x (number_of x) (w.0, w.1, refl) (ap is_deceiving (number_three a b c) ∙ plain)

-- as most are
from_is : (l h b : ℕ) → is_from l h b ≡ true → (l ≤ b) × (b ≤ h)
from_is l h b e = (grind (arith, nat_tests), grind (arith, nat_tests))

other_is : (a n : ℕ) → not (a == n) ≡ true → a ≡ n → ⊥
other_is a n h e = grind (arith, nat_tests)

pub plain_two : (a b : ℕ) → is_plain_two a b ≡ true → AreWide (a ∷ b ∷ [])
plain_two a b h =
    let q = and_parts (is_from 0xc3 0xd7 a) (not (a == 0xcd) && is_from 0x80 0xbf b) h in
    let r = and_parts (not (a == 0xcd)) (is_from 0x80 0xbf b) q.1 in
    let k = from_is 0xc3 0xd7 a q.0 in
    let l = from_is 0x80 0xbf b r.1 in
    two_wide a b k.0 k.1 (other_is a 0xcd r.0) l.0 l.1

three_from : (a l h b c : ℕ) → (is_from l h b && is_from 0x80 0xbf c) ≡ true
    → (l ≤ b) × (b ≤ h) × (0x80 ≤ c) × (c ≤ 0xbf)
three_from a l h b c e =
    let q = and_parts (is_from l h b) (is_from 0x80 0xbf c) e in
    let k = from_is l h b q.0 in
    let m = from_is 0x80 0xbf c q.1 in
    (k.0, k.1, m.0, m.1)

is_two : (a : ℕ) → (a == 0xe2) ≡ true → a ≡ 0xe2
is_two a h = grind (arith, nat_tests)

is_three : (a : ℕ) → (a == 0xe3) ≡ true → a ≡ 0xe3
is_three a h = grind (arith, nat_tests)

not_below : (a : ℕ) → nat_lt a 0xe4 ≡ false → 0xe4 ≤ a
not_below a h = grind (arith, nat_tests)

at_most : (a : ℕ) → nat_le a 0xec ≡ true → a ≤ 0xec
at_most a h = grind (arith, nat_tests)

pub plain_three : (a b c : ℕ) → is_plain_three a b c ≡ true → AreWide (a ∷ b ∷ c ∷ [])
plain_three a b c h = by (nat_lt a 0xe4) refl (a == 0xe3) refl h
  where
    from_two : (a == 0xe2) ≡ true → (is_from 0x82 0xbf b && is_from 0x80 0xbf c) ≡ true
        → AreWide (a ∷ b ∷ c ∷ [])
    from_two e k =
        let r = three_from a 0x82 0xbf b c k in
        let is = is_two a e in
        three_wide a b c (omega (arith, is)) (omega (arith, is)) (omega (arith, r.0)) r.1 r.2 r.3
        (fifth_far _ (omega (arith, is, r.0, r.2)) (omega (arith, is, r.1, r.3)))

    from_three : (a == 0xe3) ≡ true → (is_from 0x80 0x84 b && is_from 0x80 0xbf c) ≡ true
        → AreWide (a ∷ b ∷ c ∷ [])
    from_three e k =
        let r = three_from a 0x80 0x84 b c k in
        let is = is_three a e in
        three_wide a b c (omega (arith, is)) (omega (arith, is)) r.0 (omega (arith, r.1)) r.2 r.3
        (fifth_far _ (omega (arith, is, r.0, r.2)) (omega (arith, is, r.1, r.3)))

    from_more : nat_lt a 0xe4 ≡ false → nat_le a 0xec ≡ true
        → (is_from 0x80 0xbf b && is_from 0x80 0xbf c) ≡ true → AreWide (a ∷ b ∷ c ∷ [])
    from_more e m k =
        let r = three_from a 0x80 0xbf b c k in
        let l = not_below a e in
        let n = at_most a m in
        three_wide a b c (omega (arith, l)) n r.0 r.1 r.2 r.3
        (sixth_far _ (omega (arith, l, r.0, r.2)) (omega (arith, n, r.1, r.3)))

    by : (t : Bool) → nat_lt a 0xe4 ≡ t → (u : Bool) → (a == 0xe3) ≡ u
        → (if t then (if u then is_from 0x80 0x84 b && is_from 0x80 0xbf c
        else (a == 0xe2) && (is_from 0x82 0xbf b && is_from 0x80 0xbf c))
        else nat_le a 0xec && (is_from 0x80 0xbf b && is_from 0x80 0xbf c)) ≡ true
        → AreWide (a ∷ b ∷ c ∷ [])
    by true e true f k = from_three f k
    by true e false f k =
        let q = and_parts (a == 0xe2) (is_from 0x82 0xbf b && is_from 0x80 0xbf c) k in
        from_two q.0 q.1
    by false e u f k =
        let q = and_parts (nat_le a 0xec) (is_from 0x80 0xbf b && is_from 0x80 0xbf c) k in
        from_more e q.0 q.1

pub taken_two : (s : List ℕ) → 2 ≤ length s → take 2 s ≡ get_or s 0 0 ∷ get_or s 1 0 ∷ []
taken_two [] l = absurd (omega (arith, l))
taken_two (a ∷ []) l = absurd (omega (arith, l))
taken_two (a ∷ b ∷ s) l = refl

pub taken_three : (s : List ℕ) → 3 ≤ length s
    → take 3 s ≡ get_or s 0 0 ∷ get_or s 1 0 ∷ get_or s 2 0 ∷ []
taken_three [] l = absurd (omega (arith, l))
taken_three (a ∷ []) l = absurd (omega (arith, l))
taken_three (a ∷ b ∷ []) l = absurd (omega (arith, l))
taken_three (a ∷ b ∷ c ∷ s) l = refl

-- one after another
pub wide_more : (x y : List ℕ) → AreWide x → AreWide y → AreWide (x ++ y)
wide_more x y (cs, h, e) (ds, k, f) = (
  cs ++ ds,
  all_append is_wide cs ds h k,
  encodes-append cs ds ∙ ap (λ z. z ++ encode_utf8_all ds) e ∙ ap (λ z. x ++ z) f,
)
