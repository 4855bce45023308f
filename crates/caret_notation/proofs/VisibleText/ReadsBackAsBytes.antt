-- Visible text is read back as the bytes that it shows.
use Rattle.std.proofs.Common.{ℕ, ◌≡◌, ◌<◌, ◌≤◌, ◌+◌, ◌-◌, ◌*◌, ◌/◌, ◌%◌, ◌==◌, ◌||◌, inl, inr, Bool, true, false, nat_lt, if◌then◌else◌, List, [], ◌∷◌, ◌++◌, map, arith, refl, ap, sym, ◌∙◌, subst, append_assoc}
use Rattle.std.specs.List.{list_all}
use Rattle.std.proofs.lemmas.Bool.{cases_lt}
use Rattle.unicode_visibility.specs.Characters.{digit_at, four_digits, is_shown, number_text}
use Rattle.esc_frame.specs.Sequences.{is_pair, is_sequence, number_of}
use Rattle.esc_frame.proofs.Cut.WellFormedIsUtf8.{four_is, none_five, none_none, none_one, number_four, number_three, number_two, spelled, three_is, two_is}
use Rattle.std.specs.Char.{encode_utf8}
use Rattle.std.specs.Fmt.{digit_glyph}
use Rattle.std.proofs.lemmas.Bool.Decides.{nat_tests}
use Rattle.std.proofs.lemmas.List.{append-nil}
use Rattle.caret_notation.proofs.VisibleText.PartByPart.{AreHigh, all_parts}
use Rattle.caret_notation.specs.ReadBack.{digit_value, is_byte, read_back, read_from, value_after}
use Rattle.caret_notation.specs.ReadBack.Reading.{Plain, Name}
use Rattle.caret_notation.specs.Visible.{ascii_text, character_text, hex_byte, printed_text, quoted_text, single_text, stray_text, visible_text}

-- whatever follows this text, it is read as these bytes
abbrev pub IsRead : List ℕ → List ℕ → Type 0
IsRead t bs = (after : List ℕ) → read_from Plain (t ++ after) ≡ bs ++ read_from Plain after

pub read_nothing : IsRead [] []
read_nothing after = refl

pub read_both : (t u bs cs : List ℕ) → IsRead t bs → IsRead u cs → IsRead (t ++ u) (bs ++ cs)
read_both t u bs cs h k after =
    ap (read_from Plain) (append_assoc t u after) ∙ h (u ++ after)
    ∙ ap (λ x. bs ++ x) (k after) ∙ sym (append_assoc bs cs (read_from Plain after))

-- ---- digits

digit_back : (n : ℕ) → n < 16 → digit_value (digit_glyph true n) ≡ n
digit_back n h = grind (arith, nat_tests)

no_end : (n : ℕ) → n < 16 → (digit_glyph true n == 0x3e) ≡ false
no_end n h = grind (arith, nat_tests)

no_letter : (n : ℕ) → n < 16 → (digit_glyph true n == 0x55) ≡ false
no_letter n h = grind (arith, nat_tests)

-- ---- a byte by its number

pub read_hex : (b : ℕ) → b < 0x100 → IsRead (hex_byte b) (b ∷ [])
read_hex b h after =
    let hi : b / 16 < 16 = omega arith in
    let lo : b % 16 < 16 = omega arith in
    rw (no_end (b / 16) hi, no_end (b % 16) lo, no_letter (b / 16) hi)
    (ap (λ n. n ∷ read_from Plain after)
    (ap (λ x. (0 * 16 + x) * 16 + digit_value (digit_glyph true (b % 16))) (digit_back (b / 16) hi)
    ∙ ap (λ x. (0 * 16 + b / 16) * 16 + x) (digit_back (b % 16) lo) ∙ omega arith))

-- ---- a byte below 80

read_control : (b : ℕ) → b < 0x20 → IsRead (0x5e ∷ (0x40 + b) ∷ []) (b ∷ [])
read_control b h after =
    let other : ((0x40 + b) == 0x3f) ≡ false = grind (arith, nat_tests) in
    rw other (ap (λ n. n ∷ read_from Plain after) (omega arith))

pub read_itself : (b : ℕ) → (b == 0x3c) ≡ false → (b == 0x5e) ≡ false → IsRead (b ∷ []) (b ∷ [])
read_itself b h k after = rw (h, k) refl

read_quoted : (b : ℕ) → b < 0x80 → IsRead (quoted_text b) (b ∷ [])
read_quoted b h = by_mark (b == 0x3c) (b == 0x5e) refl refl
  where
    by_mark : (x y : Bool) → (b == 0x3c) ≡ x → (b == 0x5e) ≡ y
        → IsRead (if x || y then hex_byte b else b ∷ []) (b ∷ [])
    by_mark true y e f = read_hex b (omega arith)
    by_mark false true e f = read_hex b (omega arith)
    by_mark false false e f = read_itself b e f

eq_of : (b c : ℕ) → (b == c) ≡ true → b ≡ c
eq_of b c h = grind (arith, nat_tests)

read_printed : (b : ℕ) → b < 0x80 → IsRead (printed_text b) (b ∷ [])
read_printed b h = by_delete (b == 0x7f) refl
  where
    by_delete : (x : Bool) → (b == 0x7f) ≡ x
        → IsRead (if x then 0x5e ∷ 0x3f ∷ [] else quoted_text b) (b ∷ [])
    by_delete true e = λ after. ap (λ n. n ∷ read_from Plain after) (sym (eq_of b 0x7f e))
    by_delete false e = read_quoted b h

pub lt_of : (b c : ℕ) → nat_lt b c ≡ true → b < c
lt_of b c h = grind (arith, nat_tests)

pub ge_of : (b c : ℕ) → nat_lt b c ≡ false → c ≤ b
ge_of b c h = grind (arith, nat_tests)

read_ascii : (b : ℕ) → b < 0x80 → IsRead (ascii_text b) (b ∷ [])
read_ascii b h = by_control (nat_lt b 0x20) refl
  where
    by_control : (x : Bool) → nat_lt b 0x20 ≡ x
        → IsRead (if x then 0x5e ∷ (0x40 + b) ∷ [] else printed_text b) (b ∷ [])
    by_control true e = read_control b (lt_of b 0x20 e)
    by_control false e = read_printed b h

pub read_single : (b : ℕ) → b < 0x100 → IsRead (single_text b) (b ∷ [])
read_single b h = by_high (nat_lt b 0x80) refl
  where
    by_high : (x : Bool) → nat_lt b 0x80 ≡ x
        → IsRead (if x then ascii_text b else hex_byte b) (b ∷ [])
    by_high true e = read_ascii b (lt_of b 0x80 e)
    by_high false e = read_hex b h

-- ---- a character by its number

-- the values of digits, and their number
abbrev AreDigits : List ℕ → Type 0
AreDigits [] = Unit {0}
AreDigits (k ∷ ks) = (k < 16) × AreDigits ks

abbrev number_after : ℕ → List ℕ → ℕ
number_after n [] = n
number_after n (k ∷ ks) = number_after (n * 16 + k) ks

digits_name : (ks n after : List ℕ) → AreDigits ks
    → read_from (Name n) (map (digit_glyph true) ks ++ after)
    ≡ read_from (Name (n ++ map (digit_glyph true) ks)) after
digits_name [] n after h = ap (λ x. read_from (Name x) after) (sym (append-nil n))
digits_name (k ∷ ks) n after h =
    let d = digit_glyph true k in
    rw (no_end k h.0)
    (digits_name ks (n ++ d ∷ []) after h.1
    ∙ ap (λ x. read_from (Name x) after) (append_assoc n (d ∷ []) (map (digit_glyph true) ks)))

digits_value : (ks : List ℕ) (n : ℕ) → AreDigits ks
    → value_after n (map (digit_glyph true) ks) ≡ number_after n ks
digits_value [] n h = refl
digits_value (k ∷ ks) n h =
    ap (λ x. value_after (n * 16 + x) (map (digit_glyph true) ks)) (digit_back k h.0)
    ∙ digits_value ks (n * 16 + k) h.1

read_digits : (ks : List ℕ) (c : ℕ) → AreDigits ks → number_after 0 ks ≡ c
    → IsRead (0x3c ∷ 0x55 ∷ 0x2b ∷ (map (digit_glyph true) ks ++ 0x3e ∷ [])) (encode_utf8 c)
read_digits ks c h e after =
    let start = 0x55 ∷ 0x2b ∷ [] in
    ap (read_from (Name start)) (append_assoc (map (digit_glyph true) ks) (0x3e ∷ []) after)
    ∙ digits_name ks start (0x3e ∷ after) h
    ∙ ap (λ n. encode_utf8 n ++ read_from Plain after) (digits_value ks 0 h ∙ e)

abbrev low_keys : ℕ → List ℕ
low_keys c = c / 4096 % 16 ∷ c / 256 % 16 ∷ c / 16 % 16 ∷ c % 16 ∷ []

low_small : (c : ℕ) → AreDigits (low_keys c)
low_small c = (omega arith, (omega arith, (omega arith, (omega arith, tt))))

abbrev marked : List ℕ → ℕ → List ℕ
marked high c = 0x3c ∷ 0x55 ∷ 0x2b ∷ (high ++ (four_digits c ++ 0x3e ∷ []))

pub read_number : (c : ℕ) → c < 0x110000 → IsRead (number_text c) (encode_utf8 c)
unfolding number_text
read_number c h = by_four (nat_lt c 0x10000) refl
  where
    by_five : (x : Bool) → nat_lt c 0x100000 ≡ x → 0x10000 ≤ c
        → IsRead (marked (if x then digit_at 0x10000 c ∷ []
        else digit_at 0x100000 c ∷ digit_at 0x10000 c ∷ []) c) (encode_utf8 c)
    by_five true e l =
        let few = lt_of c 0x100000 e in
        read_digits (c / 0x10000 % 16 ∷ low_keys c) c (omega arith, low_small c)
        (omega (arith, few))
    by_five false e l =
        read_digits (c / 0x100000 % 16 ∷ c / 0x10000 % 16 ∷ low_keys c) c
        (omega arith, (omega arith, low_small c)) (omega (arith, h))

    by_four : (x : Bool) → nat_lt c 0x10000 ≡ x
        → IsRead (marked (if x then [] else if nat_lt c 0x100000 then digit_at 0x10000 c ∷ []
        else digit_at 0x100000 c ∷ digit_at 0x10000 c ∷ []) c) (encode_utf8 c)
    by_four true e =
        let few = lt_of c 0x10000 e in
        read_digits (low_keys c) c (low_small c) (omega (arith, few))
    by_four false e = by_five (nat_lt c 0x100000) refl (ge_of c 0x10000 e)

-- ---- bytes from 80 on

pub sequence_high : (x : List ℕ) → is_sequence x ≡ true → AreHigh x
sequence_high [] h = tt
sequence_high (a ∷ []) h = absurd (none_one a h)
sequence_high (a ∷ b ∷ []) h = let q = two_is a b h in
    (omega (arith, q), omega (arith, q), (omega (arith, q), omega (arith, q), tt))
sequence_high (a ∷ b ∷ c ∷ []) h = let q = three_is a b c h in (
  omega (arith, q.0),
  omega (arith, q.1),
  (omega (arith, q.2), omega (arith, q.3), (omega (arith, q.6), omega (arith, q.7), tt)),
)
sequence_high (a ∷ b ∷ c ∷ d ∷ []) h = let q = four_is a b c d h in (
  omega (arith, q.0),
  omega (arith, q.1),
  (
    omega (arith, q.2),
    omega (arith, q.3),
    (omega (arith, q.6), omega (arith, q.7), (omega (arith, q.8), omega (arith, q.9), tt)),
  ),
)
sequence_high (a ∷ b ∷ c ∷ d ∷ e ∷ x) h = absurd (none_five a b c d e x h)

high_itself : (b : ℕ) → 0x80 ≤ b → IsRead (b ∷ []) (b ∷ [])
high_itself b l = read_itself b (grind (arith, nat_tests)) (grind (arith, nat_tests))

pub read_high : (x : List ℕ) → AreHigh x → IsRead x x
read_high [] h = read_nothing
read_high (b ∷ x) h = read_both (b ∷ []) x (b ∷ []) x (high_itself b h.0) (read_high x h.2)

pub read_stray : (f : List ℕ) → AreHigh f → IsRead (stray_text f) f
read_stray [] h = read_nothing
read_stray (b ∷ f) h = read_both (hex_byte b) (stray_text f) (b ∷ []) f (read_hex b h.1)
    (read_stray f h.2)

-- ---- a character

encode_pair : (n a b : ℕ) → 128 ≤ n → n < 2048 → 192 + n / 64 ≡ a → 128 + n % 64 ≡ b
    → encode_utf8 n ≡ a ∷ b ∷ []
unfolding encode_utf8
encode_pair n a b l h e f =
    let one : nat_lt n 128 ≡ false = grind (arith, nat_tests) in
    let two : nat_lt n 2048 ≡ true = grind (arith, nat_tests) in
    rw (one, two, e, f) refl

pair_back : (x : List ℕ) → is_sequence x ≡ true → is_pair x ≡ true
    → encode_utf8 (number_of x) ≡ x
unfolding is_pair
pair_back [] h p = absurd cc
pair_back (a ∷ []) h p = absurd cc
pair_back (a ∷ b ∷ []) h p =
    let q = two_is a b h in
    let n = (a - 0xc0) * 64 + (b - 0x80) in
    ap encode_utf8 (number_two a b)
    ∙ encode_pair n a b (omega (arith, q)) (omega (arith, q)) (omega (arith, q)) (omega (arith, q))
pair_back (a ∷ b ∷ c ∷ x) h p = absurd cc

pub encoded_back : (x : List ℕ) → is_sequence x ≡ true → encode_utf8 (number_of x) ≡ x
encoded_back x h = by_pair (is_pair x) refl
  where
    by_pair : (p : Bool) → is_pair x ≡ p → encode_utf8 (number_of x) ≡ x
    by_pair true e = pair_back x h e
    by_pair false e = (spelled x h e).1

pub number_small : (x : List ℕ) → is_sequence x ≡ true → number_of x < 0x110000
number_small [] h = absurd (none_none h)
number_small (a ∷ []) h = absurd (none_one a h)
number_small (a ∷ b ∷ []) h = let q = two_is a b h in omega (arith, q, number_two a b)
number_small (a ∷ b ∷ c ∷ []) h = let q = three_is a b c h in
    omega (arith, q.0, q.1, q.2, q.3, q.6, q.7, number_three a b c)
number_small (a ∷ b ∷ c ∷ d ∷ []) h =
    let q = four_is a b c d h in
    elim (cases_lt a 0xf4) [
      | inl l ↦ omega (arith, q.3, q.7, q.9, number_four a b c d)
      | inr l ↦ let e : a ≡ 0xf4 = omega (arith, q.1) in let k = q.5 e in
          omega (arith, k, e, q.7, q.9, number_four a b c d)
    ]
number_small (a ∷ b ∷ c ∷ d ∷ e ∷ x) h = absurd (none_five a b c d e x h)

pub read_character : (x : List ℕ) → is_sequence x ≡ true → IsRead (character_text x) x
read_character x h = by_shown (is_shown (number_of x))
  where
    by_shown : (s : Bool) → IsRead (if s then x else number_text (number_of x)) x
    by_shown true = read_high x (sequence_high x h)
    by_shown false = subst (IsRead (number_text (number_of x))) (encoded_back x h)
        (read_number (number_of x) (number_small x h))

-- ---- all bytes

pub reads_back : (s : List ℕ) → list_all is_byte s ≡ true → read_back (visible_text s) ≡ s
reads_back s h =
    ap (read_from Plain) (sym (append-nil (visible_text s)))
    ∙ all_parts IsRead read_nothing read_both read_single read_stray read_character s h []
    ∙ append-nil s
