-- Bytes by which no character deceives.
use Rattle.std.proofs.Common.{arith, ◌≡◌, ℕ, zero, suc, ◌+◌, ◌-◌, ◌<◌, ◌≤◌, ◌==◌, ◌&&◌, ◌||◌, not, nat_le, nat_lt, ◌/◌, ◌%◌, Bool, true, false, List, [], ◌∷◌, ◌++◌, length, take, drop, IsUtf8, refl, sym, ap, ◌∙◌}
use Rattle.std.specs.Char.{encode_utf8}
use Rattle.std.specs.Str.{chars, encode_utf8_all}
use Rattle.std.specs.List.{list_any}
use Rattle.std.proofs.lemmas.Bool.{false≢true}
use Rattle.std.proofs.lemmas.Bool.Decides.{nat_tests}
use Rattle.std.proofs.lemmas.List.{drop-drop, length-drop, take_all}
use Rattle.std.proofs.lemmas.Str.{encodes-chars}
use Rattle.ucd_table.specs.Rows.{Range, in_ranges}
use Rattle.ucd_derived.specs.Binary.{is_default_ignorable_code_point}
use Rattle.ucd_derived.specs.DefaultIgnorableCodePointRanges.{default_ignorable_code_point_ranges}
use Rattle.ucd_props.specs.Binary.{is_bidi_control}
use Rattle.ucd_props.specs.Ranges.{bidi_control_ranges}
use Rattle.unicode_visibility.specs.Characters.{is_among, is_deceiving}
use Rattle.unicode_visibility.specs.Signs.{begins_hint, begins_sign, has_hint, has_sign, is_dash, is_hint, is_sign}

-- ---- parts of bytes

-- a text has none if the bytes before a place and one more have none, and those from there on have
-- none
hint_parts : (n : ℕ) (s : List ℕ) → has_hint (take (suc n) s) ≡ false
    → has_hint (drop n s) ≡ false → has_hint s ≡ false
hint_parts n [] h k = refl
hint_parts zero (a ∷ s) h k = k
hint_parts (suc n) (a ∷ []) h k = refl
hint_parts (suc n) (a ∷ b ∷ s) h k = by (is_hint a b) h (λ e. hint_parts n (b ∷ s) e k)
  where
    by : (t : Bool) → (t || has_hint (take (suc n) (b ∷ s))) ≡ false
        → (has_hint (take (suc n) (b ∷ s)) ≡ false → has_hint (b ∷ s) ≡ false)
        → (t || has_hint (b ∷ s)) ≡ false
    by true h rest = absurd cc
    by false h rest = rest h

-- the same for a block and the bytes from its last one on
pub next_block : (s : List ℕ) (at : ℕ) → has_hint (take 33 (drop at s)) ≡ false
    → has_hint (drop (at + 32) s) ≡ false → has_hint (drop at s) ≡ false
next_block s at h k = hint_parts 32 (drop at s) h (ap has_hint (drop-drop 32 at s) ∙ k)

-- all bytes from a place on are its last block
pub last_block : (n : ℕ) (s : List ℕ)
    → has_hint (drop n s) ≡ has_hint (take (length s - n) (drop n s))
last_block n s = ap has_hint (sym (take_all (length s - n) (drop n s) short))
  where
    short : length (drop n s) ≤ length s - n
    short = rw (length-drop n s) (omega arith)

-- a byte alone has none
pub one_byte : (n : ℕ) (s : List ℕ) → length s ≡ suc n → has_hint (drop n s) ≡ false
one_byte n [] e = absurd (omega (arith, e))
one_byte zero (a ∷ []) e = refl
one_byte zero (a ∷ b ∷ s) e = absurd (omega (arith, e))
one_byte (suc n) (a ∷ s) e = one_byte n s (omega (arith, e))

-- if bytes from a place on have none, those from each later one on have none
pub hint_later : (n m : ℕ) (s : List ℕ) → n ≤ m → has_hint (drop n s) ≡ false
    → has_hint (drop m s) ≡ false
hint_later zero zero s l h = h
hint_later zero (suc m) [] l h = refl
hint_later zero (suc m) (a ∷ s) l h =
    hint_later zero m s (omega arith) (rest (begins_hint a s) (has_hint s) h)
  where
    rest : (x y : Bool) → (x || y) ≡ false → y ≡ false
    rest true y e = absurd cc
    rest false y e = e
hint_later (suc n) zero s l h = absurd (omega (arith, l))
hint_later (suc n) (suc m) [] l h = refl
hint_later (suc n) (suc m) (a ∷ s) l h = hint_later n m s (omega (arith, l)) h

-- ---- a sign is a hint

sign_hint : (a b : ℕ) → is_hint a b ≡ false → is_sign a b ≡ false
sign_hint a b h = grind (arith, nat_tests)

pub no_sign : (s : List ℕ) → has_hint s ≡ false → has_sign s ≡ false
no_sign [] h = refl
no_sign (a ∷ []) h = refl
no_sign (a ∷ b ∷ s) h = by (is_hint a b) refl h (λ e. no_sign (b ∷ s) e)
  where
    by : (t : Bool) → is_hint a b ≡ t → (t || has_hint (b ∷ s)) ≡ false
        → (has_hint (b ∷ s) ≡ false → has_sign (b ∷ s) ≡ false)
        → ((is_sign a b && not (is_dash a b s)) || has_sign (b ∷ s)) ≡ false
    by true e h rest = absurd cc
    by false e h rest = rw (sign_hint a b e) (rest h)

-- ---- a character that deceives has a sign

begins : (a b : ℕ) (s : List ℕ) → is_sign a b ≡ true → is_dash a b s ≡ false
    → has_sign (a ∷ b ∷ s) ≡ true
begins a b s h k = rw (h, k) refl

encode_two : (c a b : ℕ) → 128 ≤ c → c < 2048 → 192 + c / 64 ≡ a → 128 + c % 64 ≡ b
    → encode_utf8 c ≡ a ∷ b ∷ []
unfolding encode_utf8
encode_two c a b l h e f =
    let one : nat_lt c 128 ≡ false = grind (arith, nat_tests) in
    let two : nat_lt c 2048 ≡ true = grind (arith, nat_tests) in
    rw (one, two, e, f) refl

encode_three : (c a b : ℕ) → 2048 ≤ c → c < 65536 → 224 + c / 4096 ≡ a
    → 128 + c / 64 % 64 ≡ b → encode_utf8 c ≡ a ∷ b ∷ (128 + c % 64) ∷ []
unfolding encode_utf8
encode_three c a b l h e f =
    let one : nat_lt c 128 ≡ false = grind (arith, nat_tests) in
    let two : nat_lt c 2048 ≡ false = grind (arith, nat_tests) in
    let three : nat_lt c 65536 ≡ true = grind (arith, nat_tests) in
    rw (one, two, three, e, f) refl

encode_four : (c a b : ℕ) → 65536 ≤ c → 240 + c / 262144 ≡ a → 128 + c / 4096 % 64 ≡ b
    → encode_utf8 c ≡ a ∷ b ∷ (128 + c / 64 % 64) ∷ (128 + c % 64) ∷ []
unfolding encode_utf8
encode_four c a b l e f =
    let one : nat_lt c 128 ≡ false = grind (arith, nat_tests) in
    let two : nat_lt c 2048 ≡ false = grind (arith, nat_tests) in
    let three : nat_lt c 65536 ≡ false = grind (arith, nat_tests) in
    rw (one, two, three, e, f) refl

-- its bytes have one, whatever follows them
abbrev HasSign : ℕ → Type 0
HasSign c = (r : List ℕ) → has_sign (encode_utf8 c ++ r) ≡ true

no_dash : (a b : ℕ) (r : List ℕ) → (a == 0xe2) ≡ false → is_dash a b r ≡ false
no_dash a b [] h = refl
no_dash a b (c ∷ r) h = rw h refl

two : (c a b : ℕ) → 128 ≤ c → c < 2048 → 192 + c / 64 ≡ a → 128 + c % 64 ≡ b
    → is_sign a b ≡ true → (a == 0xe2) ≡ false → HasSign c
two c a b l h e f s d r = ap (λ z. has_sign (z ++ r)) (encode_two c a b l h e f)
    ∙ begins a b r s (no_dash a b r d)

three : (c a b : ℕ) → 2048 ≤ c → c < 65536 → 224 + c / 4096 ≡ a → 128 + c / 64 % 64 ≡ b
    → is_sign a b ≡ true → ((a == 0xe2) && ((b == 0x80) && is_among 0x90 0xa7 (128 + c % 64)))
    ≡ false → HasSign c
three c a b l h e f s d r = ap (λ z. has_sign (z ++ r)) (encode_three c a b l h e f)
    ∙ begins a b ((128 + c % 64) ∷ r) s d

four : (c a b : ℕ) → 65536 ≤ c → 240 + c / 262144 ≡ a → 128 + c / 4096 % 64 ≡ b
    → is_sign a b ≡ true → (a == 0xe2) ≡ false → HasSign c
four c a b l e f s d r = ap (λ z. has_sign (z ++ r)) (encode_four c a b l e f)
    ∙ begins a b ((128 + c / 64 % 64) ∷ (128 + c % 64) ∷ r) s
    (no_dash a b ((128 + c / 64 % 64) ∷ (128 + c % 64) ∷ r) d)

-- ---- in each range of characters that deceive

abbrev AllIn : List Range → Type 0
AllIn [] = Unit {0}
AllIn (r ∷ rs) = ((c : ℕ) → r.0 ≤ c → c ≤ r.1 → HasSign c) × AllIn rs

nat_le_true : (a b : ℕ) → nat_le a b ≡ true → a ≤ b
nat_le_true a b h = grind (arith, nat_tests)

of_ranges : (rs : List Range) → AllIn rs → (c : ℕ) → in_ranges rs c ≡ true → HasSign c
unfolding in_ranges
of_ranges [] all c h = absurd cc
of_ranges (r ∷ rs) all c h =
    by (nat_le r.0 c) refl (nat_le c r.1) refl h (λ e. of_ranges rs all.1 c e)
  where
    by : (t : Bool) → nat_le r.0 c ≡ t → (u : Bool) → nat_le c r.1 ≡ u
        → ((t && u) || in_ranges rs c) ≡ true → (in_ranges rs c ≡ true → HasSign c) → HasSign c
    by true e true f h rest = all.0 c (nat_le_true r.0 c e) (nat_le_true c r.1 f)
    by true e false f h rest = rest h
    by false e u f h rest = rest h

between : (d : ℕ) → d < 0x90 → is_among 0x90 0xa7 d ≡ false
between d h = grind (arith, nat_tests)

above : (d : ℕ) → 0xa7 < d → is_among 0x90 0xa7 d ≡ false
above d h = grind (arith, nat_tests)

soft_hyphen : (c : ℕ) → 0xad ≤ c → c ≤ 0xad → HasSign c
soft_hyphen c l m = two c 0xc2 0xad (omega (arith, l)) (omega (arith, m)) (omega (arith, l, m))
    (omega (arith, l, m)) refl refl

joiner : (c : ℕ) → 0x34f ≤ c → c ≤ 0x34f → HasSign c
joiner c l m = two c 0xcd 0x8f (omega (arith, l)) (omega (arith, m)) (omega (arith, l, m))
    (omega (arith, l, m)) refl refl

arabic : (c : ℕ) → 0x61c ≤ c → c ≤ 0x61c → HasSign c
arabic c l m = two c 0xd8 0x9c (omega (arith, l)) (omega (arith, m)) (omega (arith, l, m))
    (omega (arith, l, m)) refl refl

fillers : (c : ℕ) → 0x115f ≤ c → c ≤ 0x1160 → HasSign c
fillers c l m = three c 0xe1 0x85 (omega (arith, l)) (omega (arith, m)) (omega (arith, l, m))
    (omega (arith, l, m)) refl refl

khmer : (c : ℕ) → 0x17b4 ≤ c → c ≤ 0x17b5 → HasSign c
khmer c l m = three c 0xe1 0x9e (omega (arith, l)) (omega (arith, m)) (omega (arith, l, m))
    (omega (arith, l, m)) refl refl

mongolian : (c : ℕ) → 0x180b ≤ c → c ≤ 0x180f → HasSign c
mongolian c l m = three c 0xe1 0xa0 (omega (arith, l)) (omega (arith, m)) (omega (arith, l, m))
    (omega (arith, l, m)) refl refl

spaces : (c : ℕ) → 0x200b ≤ c → c ≤ 0x200f → HasSign c
spaces c l m = three c 0xe2 0x80 (omega (arith, l)) (omega (arith, m)) (omega (arith, l, m))
    (omega (arith, l, m)) refl (between (128 + c % 64) (omega (arith, l, m)))

lines : (c : ℕ) → 0x2028 ≤ c → c ≤ 0x202e → HasSign c
lines c l m = three c 0xe2 0x80 (omega (arith, l)) (omega (arith, m)) (omega (arith, l, m))
    (omega (arith, l, m)) refl (above (128 + c % 64) (omega (arith, l, m)))

operators : (c : ℕ) → 0x2060 ≤ c → c ≤ 0x206f → HasSign c
operators c l m = three c 0xe2 0x81 (omega (arith, l)) (omega (arith, m)) (omega (arith, l, m))
    (omega (arith, l, m)) refl refl

hangul : (c : ℕ) → 0x3164 ≤ c → c ≤ 0x3164 → HasSign c
hangul c l m = three c 0xe3 0x85 (omega (arith, l)) (omega (arith, m)) (omega (arith, l, m))
    (omega (arith, l, m)) refl refl

variations : (c : ℕ) → 0xfe00 ≤ c → c ≤ 0xfe0f → HasSign c
variations c l m = three c 0xef 0xb8 (omega (arith, l)) (omega (arith, m)) (omega (arith, l, m))
    (omega (arith, l, m)) refl refl

mark : (c : ℕ) → 0xfeff ≤ c → c ≤ 0xfeff → HasSign c
mark c l m = three c 0xef 0xbb (omega (arith, l)) (omega (arith, m)) (omega (arith, l, m))
    (omega (arith, l, m)) refl refl

half : (c : ℕ) → 0xffa0 ≤ c → c ≤ 0xffa0 → HasSign c
half c l m = three c 0xef 0xbe (omega (arith, l)) (omega (arith, m)) (omega (arith, l, m))
    (omega (arith, l, m)) refl refl

specials : (c : ℕ) → 0xfff0 ≤ c → c ≤ 0xfff8 → HasSign c
specials c l m = three c 0xef 0xbf (omega (arith, l)) (omega (arith, m)) (omega (arith, l, m))
    (omega (arith, l, m)) refl refl

shorthand : (c : ℕ) → 0x1bca0 ≤ c → c ≤ 0x1bca3 → HasSign c
shorthand c l m = four c 0xf0 0x9b (omega (arith, l)) (omega (arith, l, m))
    (omega (arith, l, m)) refl refl

music : (c : ℕ) → 0x1d173 ≤ c → c ≤ 0x1d17a → HasSign c
music c l m = four c 0xf0 0x9d (omega (arith, l)) (omega (arith, l, m))
    (omega (arith, l, m)) refl refl

tags : (c : ℕ) → 0xe0000 ≤ c → c ≤ 0xe0fff → HasSign c
tags c l m = four c 0xf3 0xa0 (omega (arith, l)) (omega (arith, l, m))
    (omega (arith, l, m)) refl refl

upper : AllIn ((0x3164, 0x3164) ∷ (0xfe00, 0xfe0f) ∷ (0xfeff, 0xfeff) ∷ (0xffa0, 0xffa0)
    ∷ (0xfff0, 0xfff8) ∷ (0x1bca0, 0x1bca3) ∷ (0x1d173, 0x1d17a) ∷ (0xe0000, 0xe0fff) ∷ [])
upper = (hangul, (variations, (mark, (half, (specials, (shorthand, (music, (tags, tt))))))))

embeddings : (c : ℕ) → 0x202a ≤ c → c ≤ 0x202e → HasSign c
embeddings c l m = lines c (omega (arith, l)) m

middle : AllIn ((0x180b, 0x180f) ∷ (0x200b, 0x200f) ∷ (0x202a, 0x202e) ∷ (0x2060, 0x206f)
    ∷ (0x3164, 0x3164) ∷ (0xfe00, 0xfe0f) ∷ (0xfeff, 0xfeff) ∷ (0xffa0, 0xffa0)
    ∷ (0xfff0, 0xfff8) ∷ (0x1bca0, 0x1bca3) ∷ (0x1d173, 0x1d17a) ∷ (0xe0000, 0xe0fff) ∷ [])
middle = (mongolian, (spaces, (embeddings, (operators, upper))))

ignorable : AllIn default_ignorable_code_point_ranges
unfolding default_ignorable_code_point_ranges
ignorable = (soft_hyphen, (joiner, (arabic, (fillers, (khmer, middle)))))

marks : (c : ℕ) → 0x200e ≤ c → c ≤ 0x200f → HasSign c
marks c l m = spaces c (omega (arith, l)) m

isolates : (c : ℕ) → 0x2066 ≤ c → c ≤ 0x2069 → HasSign c
isolates c l m = operators c (omega (arith, l)) (omega (arith, m))

directions : AllIn bidi_control_ranges
unfolding bidi_control_ranges
directions = (arabic, (marks, (embeddings, (isolates, tt))))

deceives : (c : ℕ) → is_deceiving c ≡ true → HasSign c
unfolding is_deceiving is_default_ignorable_code_point is_bidi_control
deceives c h = by (in_ranges default_ignorable_code_point_ranges c) refl
    (in_ranges bidi_control_ranges c) refl (c == 0x2028) refl (c == 0x2029) refl h
  where
    by : (x : Bool) → in_ranges default_ignorable_code_point_ranges c ≡ x
        → (y : Bool) → in_ranges bidi_control_ranges c ≡ y
        → (z : Bool) → (c == 0x2028) ≡ z → (w : Bool) → (c == 0x2029) ≡ w
        → (x || (y || (z || w))) ≡ true → HasSign c
    by true e y f z g w i h = of_ranges default_ignorable_code_point_ranges ignorable c e
    by false e true f z g w i h = of_ranges bidi_control_ranges directions c f
    by false e false f true g w i h = lines c (grind (arith, nat_tests)) (grind (arith, nat_tests))
    by false e false f false g true i h =
        lines c (grind (arith, nat_tests)) (grind (arith, nat_tests))
    by false e false f false g false i h = absurd cc

-- ---- a text without a sign

later : (s t : List ℕ) → has_sign (s ++ t) ≡ false → has_sign t ≡ false
later [] t h = h
later (a ∷ s) t h = later s t (rest (begins_sign a (s ++ t)) (has_sign (s ++ t)) h)
  where
    rest : (x y : Bool) → (x || y) ≡ false → y ≡ false
    rest true y e = absurd cc
    rest false y e = e

none_in : (cs : List ℕ) → has_sign (encode_utf8_all cs) ≡ false
    → list_any is_deceiving cs ≡ false
none_in [] h = refl
none_in (c ∷ cs) h = by (is_deceiving c) refl
    (none_in cs (later (encode_utf8 c) (encode_utf8_all cs) h))
  where
    by : (t : Bool) → is_deceiving c ≡ t → list_any is_deceiving cs ≡ false
        → (t || list_any is_deceiving cs) ≡ false
    by true e rest = absurd (false≢true (sym h ∙ deceives c e (encode_utf8_all cs)))
    by false e rest = rest

pub none_deceives : (s : List ℕ) → IsUtf8 s → has_sign s ≡ false
    → list_any is_deceiving (chars s) ≡ false
none_deceives s u h = none_in (chars s) (ap has_sign (encodes-chars s u) ∙ h)
