-- Visible text is made of characters that show as themselves.
use Rattle.std.proofs.Common.{ℕ, ◌≡◌, ◌<◌, ◌≤◌, ◌+◌, ◌/◌, ◌%◌, ◌==◌, ◌&&◌, ◌||◌, Bool, true, false, nat_lt, if◌then◌else◌, List, [], ◌∷◌, ◌++◌, arith, refl, ap, ◌∙◌}
use Rattle.std.specs.List.{list_all}
use Rattle.std.specs.Char.{encode_utf8}
use Rattle.std.specs.Fmt.{digit_glyph}
use Rattle.std.specs.Str.{encode_utf8_all}
use Rattle.std.proofs.lemmas.Bool.Decides.{nat_tests}
use Rattle.std.proofs.lemmas.Bool.{and_parts}
use Rattle.std.proofs.lemmas.List.{append-nil}
use Rattle.std.proofs.lemmas.List.Folds.{list_all-append}
use Rattle.std.proofs.lemmas.Str.{encode_ascii, encodes-append}
use Rattle.unicode_visibility.specs.Characters.{digit_at, four_digits, is_among, is_shown, number_text}
use Rattle.esc_frame.specs.Sequences.{is_sequence, number_of}
use Rattle.esc_values.specs.Clear.{IsTextOf}
use Rattle.caret_notation.proofs.VisibleText.PartByPart.{AreHigh, all_parts}
use Rattle.caret_notation.proofs.VisibleText.ReadsBackAsBytes.{encoded_back, ge_of, lt_of}
use Rattle.caret_notation.specs.ReadBack.{is_byte}
use Rattle.caret_notation.specs.Visible.{ascii_text, character_text, hex_byte, printed_text, quoted_text, single_text, stray_text, visible_text}

abbrev IsShown : List ℕ → List ℕ → Type 0
IsShown t x = IsTextOf is_shown t

none : IsShown [] []
none = ([], refl, refl)

both : (t u x y : List ℕ) → IsShown t x → IsShown u y → IsShown (t ++ u) (x ++ y)
both t u x y (cs, all, e) (ds, more, f) = (
  cs ++ ds,
  rw (list_all-append is_shown cs ds, all, more) refl,
  encodes-append cs ds ∙ ap (λ z. z ++ encode_utf8_all ds) e ∙ ap (λ z. t ++ z) f,
)

-- ---- characters from 20 to 7E

abbrev pub is_mere : ℕ → Bool
is_mere c = is_among 0x20 0x7e c

mere_small : (c : ℕ) → is_mere c ≡ true → c < 128
mere_small c h = grind (arith, nat_tests)

all_shown : (t : List ℕ) → list_all is_mere t ≡ true → list_all is_shown t ≡ true
all_shown [] h = refl
all_shown (c ∷ t) h = let q = and_parts (is_mere c) (list_all is_mere t) h in
    rw (q.0, all_shown t q.1) refl

pub all_encode : (t : List ℕ) → list_all is_mere t ≡ true → encode_utf8_all t ≡ t
all_encode [] h = refl
all_encode (c ∷ t) h = let q = and_parts (is_mere c) (list_all is_mere t) h in
    rw (encode_ascii c (mere_small c q.0), all_encode t q.1) refl

mere : (t x : List ℕ) → list_all is_mere t ≡ true → IsShown t x
mere t x h = (t, all_shown t h, all_encode t h)

digit_mere : (n : ℕ) → n < 16 → is_mere (digit_glyph true n) ≡ true
digit_mere n h = grind (arith, nat_tests)

-- ---- single bytes

pub hex_mere : (b : ℕ) → b < 0x100 → list_all is_mere (hex_byte b) ≡ true
hex_mere b h = rw (digit_mere (b / 16) (omega arith), digit_mere (b % 16) (omega arith)) refl

control_mere : (b : ℕ) → b < 0x20 → is_mere (0x40 + b) ≡ true
control_mere b h = grind (arith, nat_tests)

quoted_mere : (b : ℕ) → 0x20 ≤ b → b < 0x80 → (b == 0x7f) ≡ false
    → list_all is_mere (quoted_text b) ≡ true
quoted_mere b l h k = by_mark ((b == 0x3c) || (b == 0x5e))
  where
    itself : is_mere b ≡ true
    itself = grind (arith, nat_tests)

    by_mark : (m : Bool) → list_all is_mere (if m then hex_byte b else b ∷ []) ≡ true
    by_mark true = hex_mere b (omega arith)
    by_mark false = rw itself refl

printed_mere : (b : ℕ) → 0x20 ≤ b → b < 0x80 → list_all is_mere (printed_text b) ≡ true
printed_mere b l h = by_delete (b == 0x7f) refl
  where
    by_delete : (x : Bool) → (b == 0x7f) ≡ x
        → list_all is_mere (if x then 0x5e ∷ 0x3f ∷ [] else quoted_text b) ≡ true
    by_delete true e = refl
    by_delete false e = quoted_mere b l h e

ascii_mere : (b : ℕ) → b < 0x80 → list_all is_mere (ascii_text b) ≡ true
ascii_mere b h = by_control (nat_lt b 0x20) refl
  where
    by_control : (x : Bool) → nat_lt b 0x20 ≡ x
        → list_all is_mere (if x then 0x5e ∷ (0x40 + b) ∷ [] else printed_text b) ≡ true
    by_control true e = rw (control_mere b (lt_of b 0x20 e)) refl
    by_control false e = printed_mere b (ge_of b 0x20 e) h

pub single_mere : (b : ℕ) → b < 0x100 → list_all is_mere (single_text b) ≡ true
single_mere b h = by_high (nat_lt b 0x80) refl
  where
    by_high : (x : Bool) → nat_lt b 0x80 ≡ x
        → list_all is_mere (if x then ascii_text b else hex_byte b) ≡ true
    by_high true e = ascii_mere b (lt_of b 0x80 e)
    by_high false e = hex_mere b h

single : (b : ℕ) → b < 0x100 → IsShown (single_text b) (b ∷ [])
single b h = mere (single_text b) (b ∷ []) (single_mere b h)

stray : (f : List ℕ) → AreHigh f → IsShown (stray_text f) f
stray [] h = none
stray (b ∷ f) h = both (hex_byte b) (stray_text f) (b ∷ []) f
    (mere (hex_byte b) (b ∷ []) (hex_mere b h.1)) (stray f h.2)

-- ---- characters by their numbers

abbrev marked : List ℕ → ℕ → List ℕ
marked high c = 0x3c ∷ 0x55 ∷ 0x2b ∷ (high ++ (four_digits c ++ 0x3e ∷ []))

four_mere : (c : ℕ) → list_all is_mere (four_digits c ++ 0x3e ∷ []) ≡ true
four_mere c = rw (
  digit_mere (c / 4096 % 16) (omega arith),
  digit_mere (c / 256 % 16) (omega arith),
  digit_mere (c / 16 % 16) (omega arith),
  digit_mere (c % 16) (omega arith),
) refl

marked_mere : (high : List ℕ) (c : ℕ) → list_all is_mere high ≡ true
    → list_all is_mere (marked high c) ≡ true
marked_mere high c h =
    list_all-append is_mere high (four_digits c ++ 0x3e ∷ []) ∙ ap (λ x. x
    && list_all is_mere (four_digits c ++ 0x3e ∷ [])) h ∙ four_mere c

pub number_mere : (c : ℕ) → list_all is_mere (number_text c) ≡ true
unfolding number_text
number_mere c = by (nat_lt c 0x10000) (nat_lt c 0x100000)
  where
    fifth : is_mere (digit_at 0x10000 c) ≡ true
    fifth = digit_mere (c / 0x10000 % 16) (omega arith)

    sixth : is_mere (digit_at 0x100000 c) ≡ true
    sixth = digit_mere (c / 0x100000 % 16) (omega arith)

    by : (x y : Bool) → list_all is_mere (marked (if x then [] else if y
        then digit_at 0x10000 c ∷ []
        else digit_at 0x100000 c ∷ digit_at 0x10000 c ∷ []) c) ≡ true
    by true y = marked_mere [] c refl
    by false true = marked_mere (digit_at 0x10000 c ∷ []) c (rw fifth refl)
    by false false =
        marked_mere (digit_at 0x100000 c ∷ digit_at 0x10000 c ∷ []) c (rw (sixth, fifth) refl)

character : (x : List ℕ) → is_sequence x ≡ true → IsShown (character_text x) x
character x h = by_shown (is_shown (number_of x)) refl
  where
    by_shown : (s : Bool) → is_shown (number_of x) ≡ s
        → IsShown (if s then x else number_text (number_of x)) x
    by_shown true e = (
      number_of x ∷ [],
      rw e refl,
      append-nil (encode_utf8 (number_of x)) ∙ encoded_back x h,
    )
    by_shown false e = mere (number_text (number_of x)) x (number_mere (number_of x))

pub shows_characters : (s : List ℕ) → list_all is_byte s ≡ true → IsTextOf is_shown (visible_text s)
shows_characters s h = all_parts IsShown none both single stray character s h
