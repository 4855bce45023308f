-- The first character of a text, read off its bytes.
use Rattle.std.proofs.Common.{ℕ, ◌≡◌, ◌+◌, ◌-◌, ◌*◌, ◌<◌, ◌≤◌, true, List, [], ◌∷◌, ◌++◌, length, drop, get_or, refl, ap, sym, ◌∙◌, subst, arith, inl, inr}
use Rattle.std.specs.List.{list_all}
use Rattle.std.specs.Char.{encode_utf8}
use Rattle.std.specs.Str.{chars, encode_utf8_all}
use Rattle.std.proofs.lemmas.Bool.{and_parts}
use Rattle.std.proofs.lemmas.Str.{encode_ascii, encodes-chars, char_from_byte}
use lib.Utf8.{scalar}
use Rattle.esc_values.specs.Clear.{is_clear}
use Rattle.esc_frame.specs.Scans.{StartsFrom}
use Rattle.esc_frame.specs.Sequences.{is_sequence, number_of}
use Rattle.esc_frame.specs.Machine.Texts.{IsClearText, IsNext}
use Rattle.std.proofs.Common.{take, length-drop}
use Rattle.esc_frame.proofs.ByteRuns.ManyBytes.{tail_is}
use Rattle.esc_frame.proofs.Cut.WellFormedIsUtf8.{clear_cases, spells_clear, two_is, three_is, four_is, number_two, number_three, number_four, none_none}
use Rattle.esc_frame.proofs.Cut.WellFormedIsUtf8.{none_one, none_five}

-- it begins with a clear character
abbrev Lead : List ℕ → Type 0
Lead x = (c : ℕ) × (r : List ℕ) × (x ≡ encode_utf8 c ++ r) × (is_clear c ≡ true)

lead_of : (cs x : List ℕ) → encode_utf8_all cs ≡ x → list_all is_clear cs ≡ true → 0 < length x
    → Lead x
lead_of [] x e h l = absurd (omega (arith, ap length e, l))
lead_of (c ∷ cs) x e h l =
    (c, encode_utf8_all cs, sym e, (and_parts (is_clear c) (list_all is_clear cs) h).0)

lead : (x : List ℕ) → IsClearText x → 0 < length x → Lead x
lead x t l = lead_of (chars x) x (encodes-chars x t.0) t.1 l

pub next_one : (x : List ℕ) → IsClearText x → 0 < length x → get_or x 0 0 < 0x80
    → IsNext x (get_or x 0 0) 1
next_one x t some l =
    let (c, r, e, k) = lead x t some in
    let same : c ≡ get_or x 0 0 = char_from_byte x r c e l some in
    let low : c < 128 = omega (arith, same, l) in
    let is : x ≡ c ∷ r = e ∙ ap (λ y. y ++ r) (encode_ascii c low) in
    subst (λ d. IsNext x d 1) same (
      e ∙ ap (λ y. encode_utf8 c ++ y) (sym (ap (drop 1) is)),
      omega (arith, some),
    )

-- more than one byte
wide : (x r : List ℕ) (c : ℕ) → x ≡ encode_utf8 c ++ r → is_clear c ≡ true → 0x80 ≤ get_or x 0 0
    → (scalar c ≡ true) × (is_sequence (encode_utf8 c) ≡ true) × (number_of (encode_utf8 c) ≡ c)
wide x r c e k l = let q = clear_cases c k in elim q.1 [
  | inl m ↦
      let is : x ≡ c ∷ r = e ∙ ap (λ y. y ++ r) (encode_ascii c m.1) in
      absurd (omega (arith, m.1, l, ap (λ y. get_or y 0 0) is))
  | inr m ↦ let s = spells_clear c q.0 m in (q.0, s.0, s.2)
]

two_first : (y r : List ℕ) → is_sequence y ≡ true → get_or (y ++ r) 0 0 < 0xe0
    → (2 ≤ length (y ++ r)) × (0xc0 ≤ get_or (y ++ r) 0 0) × (0x80 ≤ get_or (y ++ r) 1 0)
    × (number_of y ≡ (get_or (y ++ r) 0 0 - 0xc0) * 64 + (get_or (y ++ r) 1 0 - 0x80))
    × (drop 2 (y ++ r) ≡ r)
two_first [] r h l = absurd (none_none h)
two_first (a ∷ []) r h l = absurd (none_one a h)
two_first (a ∷ b ∷ []) r h l = let q = two_is a b h in
    (omega arith, omega (arith, q.0), q.2, number_two a b, refl)
two_first (a ∷ b ∷ c ∷ []) r h l = absurd (omega (arith, (three_is a b c h).0, l))
two_first (a ∷ b ∷ c ∷ d ∷ []) r h l = absurd (omega (arith, (four_is a b c d h).0, l))
two_first (a ∷ b ∷ c ∷ d ∷ e ∷ y) r h l = absurd (none_five a b c d e y h)

three_first : (y r : List ℕ) → is_sequence y ≡ true → 0xe0 ≤ get_or (y ++ r) 0 0
    → get_or (y ++ r) 0 0 < 0xf0
    → (3 ≤ length (y ++ r)) × (0x80 ≤ get_or (y ++ r) 1 0) × (0x80 ≤ get_or (y ++ r) 2 0)
    × (number_of y ≡ (get_or (y ++ r) 0 0 - 0xe0) * 4096 + (get_or (y ++ r) 1 0 - 0x80) * 64
    + (get_or (y ++ r) 2 0 - 0x80)) × (drop 3 (y ++ r) ≡ r)
three_first [] r h l m = absurd (none_none h)
three_first (a ∷ []) r h l m = absurd (none_one a h)
three_first (a ∷ b ∷ []) r h l m = absurd (omega (arith, (two_is a b h).1, l))
three_first (a ∷ b ∷ c ∷ []) r h l m = let q = three_is a b c h in
    (omega arith, q.2, q.6, number_three a b c, refl)
three_first (a ∷ b ∷ c ∷ d ∷ []) r h l m = absurd (omega (arith, (four_is a b c d h).0, m))
three_first (a ∷ b ∷ c ∷ d ∷ e ∷ y) r h l m = absurd (none_five a b c d e y h)

four_first : (y r : List ℕ) → is_sequence y ≡ true → 0xf0 ≤ get_or (y ++ r) 0 0
    → (4 ≤ length (y ++ r)) × (0x80 ≤ get_or (y ++ r) 1 0) × (0x80 ≤ get_or (y ++ r) 2 0)
    × (0x80 ≤ get_or (y ++ r) 3 0)
    × (number_of y ≡ (get_or (y ++ r) 0 0 - 0xf0) * 262144 + (get_or (y ++ r) 1 0 - 0x80) * 4096
    + (get_or (y ++ r) 2 0 - 0x80) * 64
    + (get_or (y ++ r) 3 0 - 0x80)) × (drop 4 (y ++ r) ≡ r)
four_first [] r h l = absurd (none_none h)
four_first (a ∷ []) r h l = absurd (none_one a h)
four_first (a ∷ b ∷ []) r h l = absurd (omega (arith, (two_is a b h).1, l))
four_first (a ∷ b ∷ c ∷ []) r h l = absurd (omega (arith, (three_is a b c h).1, l))
four_first (a ∷ b ∷ c ∷ d ∷ []) r h l = let q = four_is a b c d h in
    (omega arith, q.2, q.6, q.8, number_four a b c d, refl)
four_first (a ∷ b ∷ c ∷ d ∷ e ∷ y) r h l = absurd (none_five a b c d e y h)

-- a character that is this number, in n bytes
next_as : (x r : List ℕ) (c m n : ℕ) → x ≡ encode_utf8 c ++ r → scalar c ≡ true → m ≡ c
    → drop n x ≡ r → n ≤ length x → (scalar m ≡ true) × IsNext x m n
next_as x r c m n e s is d l =
    subst (λ k. (scalar k ≡ true)
    × IsNext x k n) (sym is) (s, (e ∙ ap (λ y. encode_utf8 c ++ y) (sym d), l))

pub next_two : (x : List ℕ) → IsClearText x → StartsFrom 0x80 0xdf x
    → (2 ≤ length x) × (0xc0 ≤ get_or x 0 0) × (0x80 ≤ get_or x 1 0)
    × ((scalar ((get_or x 0 0 - 0xc0) * 64 + (get_or x 1 0 - 0x80)) ≡ true)
    × IsNext x ((get_or x 0 0 - 0xc0) * 64 + (get_or x 1 0 - 0x80)) 2)
next_two x t starts =
    let some = starts.some in
    let l = starts.low in
    let h : get_or x 0 0 < 0xe0 = omega (arith, starts.high) in
    let (c, r, e, k) = lead x t some in
    let w = wide x r c e k l in
    let P : List ℕ → Type 0 = λ z. get_or z 0 0 < 0xe0 → (2 ≤ length z) × (0xc0 ≤ get_or z 0 0)
    × (0x80 ≤ get_or z 1 0)
    × (number_of (encode_utf8 c) ≡ (get_or z 0 0 - 0xc0) * 64 + (get_or z 1 0 - 0x80))
    × (drop 2 z ≡ r) in
    let q = subst P (sym e) (two_first (encode_utf8 c) r w.1) h in
    (q.0, q.1, q.2, next_as x r c _ 2 e w.0 (sym q.3 ∙ w.2) q.4 q.0)

pub next_three : (x : List ℕ) → IsClearText x → StartsFrom 0xe0 0xef x
    → (3 ≤ length x) × (0x80 ≤ get_or x 1 0) × (0x80 ≤ get_or x 2 0)
    × ((scalar ((get_or x 0 0 - 0xe0) * 4096 + (get_or x 1 0 - 0x80) * 64 + (get_or x 2 0 - 0x80))
    ≡ true)
    × IsNext x ((get_or x 0 0 - 0xe0) * 4096 + (get_or x 1 0 - 0x80) * 64 + (get_or x 2 0 - 0x80))
    3)
next_three x t starts =
    let some = starts.some in
    let l = starts.low in
    let h : get_or x 0 0 < 0xf0 = omega (arith, starts.high) in
    let (c, r, e, k) = lead x t some in
    let w = wide x r c e k (omega (arith, l)) in
    let P : List ℕ → Type 0 = λ z. 0xe0 ≤ get_or z 0 0 → get_or z 0 0 < 0xf0 → (3 ≤ length z)
    × (0x80 ≤ get_or z 1 0) × (0x80 ≤ get_or z 2 0)
    × (number_of (encode_utf8 c) ≡ (get_or z 0 0 - 0xe0) * 4096 + (get_or z 1 0 - 0x80) * 64
    + (get_or z 2 0 - 0x80)) × (drop 3 z ≡ r) in
    let q = subst P (sym e) (three_first (encode_utf8 c) r w.1) l h in
    (q.0, q.1, q.2, next_as x r c _ 3 e w.0 (sym q.3 ∙ w.2) q.4 q.0)

pub next_four : (x : List ℕ) → IsClearText x → 0 < length x → 0xf0 ≤ get_or x 0 0
    → (4 ≤ length x) × (0x80 ≤ get_or x 1 0) × (0x80 ≤ get_or x 2 0) × (0x80 ≤ get_or x 3 0)
    × ((scalar ((get_or x 0 0 - 0xf0) * 262144 + (get_or x 1 0 - 0x80) * 4096
    + (get_or x 2 0 - 0x80) * 64 + (get_or x 3 0 - 0x80)) ≡ true)
    × IsNext x ((get_or x 0 0 - 0xf0) * 262144 + (get_or x 1 0 - 0x80) * 4096
    + (get_or x 2 0 - 0x80) * 64 + (get_or x 3 0 - 0x80)) 4)
next_four x t some l =
    let (c, r, e, k) = lead x t some in
    let w = wide x r c e k (omega (arith, l)) in
    let P : List ℕ → Type 0 = λ z. 0xf0 ≤ get_or z 0 0 → (4 ≤ length z) × (0x80 ≤ get_or z 1 0)
    × (0x80 ≤ get_or z 2 0) × (0x80 ≤ get_or z 3 0)
    × (number_of (encode_utf8 c) ≡ (get_or z 0 0 - 0xf0) * 262144 + (get_or z 1 0 - 0x80) * 4096
    + (get_or z 2 0 - 0x80) * 64 + (get_or z 3 0 - 0x80))
    × (drop 4 z ≡ r) in
    let q = subst P (sym e) (four_first (encode_utf8 c) r w.1) l in
    (q.0, q.1, q.2, q.3, next_as x r c _ 4 e w.0 (sym q.4 ∙ w.2) q.5 q.0)

-- ---- the bytes from a place on

pub tail_some : (x : List ℕ) (at : ℕ) → at < length x
    → 0 < length (take (length x - at) (drop at x))
tail_some x at l = omega (arith, ap length (tail_is x at), length-drop at x, l)

pub tail_clear : (x : List ℕ) (at : ℕ) → IsClearText (drop at x)
    → IsClearText (take (length x - at) (drop at x))
tail_clear x at t = subst IsClearText (sym (tail_is x at)) t

pub tail_next : (x : List ℕ) (at c n : ℕ) → IsNext (take (length x - at) (drop at x)) c n
    → IsNext (drop at x) c n
tail_next x at c n h = subst (λ y. IsNext y c n) (tail_is x at) h

pub next_within : (x : List ℕ) (at c n : ℕ) → at < length x
    → IsNext (take (length x - at) (drop at x)) c n → at + n ≤ length x
next_within x at c n l h = omega (arith, (tail_next x at c n h).1, length-drop at x)
