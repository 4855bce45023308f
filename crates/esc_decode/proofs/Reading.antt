-- Bytes of an 8-bit encoding as characters.
use Rattle.std.proofs.Common.{ℕ, ◌≡◌, ◌<◌, ◌≤◌, ◌-◌, ◌+◌, ◌/◌, ◌%◌, true, false, nat_lt, if◌then◌else◌, List, [], ◌∷◌, ◌++◌, map, get_or, arith, refl, ap, sym, ◌∙◌}
use Rattle.std.specs.List.{list_all}
use Rattle.std.specs.Char.{encode_utf8}
use Rattle.std.specs.Str.{IsAscii, IsUtf8}
use Rattle.std.proofs.lemmas.Bool.Decides.{nat_tests}
use Rattle.std.proofs.lemmas.Bool.{and_parts}
use Rattle.std.proofs.lemmas.List.{map-append}
use Rattle.std.proofs.lemmas.Str.{IsAscii-drop}
use lib.Utf8.{scalars}
use Rattle.esc_frame.specs.Scans.{is_text_byte}
use Rattle.esc_decode.specs.Pages.{has_character, point_in, read_by, read_in, table_of}
use Rattle.esc_decode.specs.Spellings.{no_character, spell_all, spelling}
use Rattle.esc_decode.specs.Masks.{masked_bytes}
use Rattle.esc_decode.proofs.Characters.{spelled_stays}
use Rattle.esc_decode.proofs.Spelled.{spell_append, spells_all, spells_ascii}
use Rattle.esc_decode.specs.declared.code_page.CodePage.{CodePage}

pub read_append : (t x y : List ℕ) → read_in t (x ++ y) ≡ read_in t x ++ read_in t y
read_append t x y = ap spell_all (map-append (point_in t) x y)
    ∙ spell_append (map (point_in t) x) (map (point_in t) y)

-- ---- ASCII

low : (t : List ℕ) (b : ℕ) → b < 0x80 → spelling (point_in t b) ≡ b ∷ []
low t b l =
    let k : nat_lt b 0x80 ≡ true = grind (arith, nat_tests) in
    ap (λ x. spelling (if x then b else get_or t (b - 0x80) no_character)) k
    ∙ spells_ascii b l

text_low : (b : ℕ) → is_text_byte b ≡ true → b < 0x80
text_low b h = grind (arith, nat_tests)

pub read_text : (t x : List ℕ) → list_all is_text_byte x ≡ true → read_in t x ≡ x
read_text t [] h = refl
read_text t (b ∷ x) h =
    let q = and_parts (is_text_byte b) (list_all is_text_byte x) h in
    ap (λ y. y ++ read_in t x) (low t b (text_low b q.0)) ∙ ap (λ y. b ∷ y) (read_text t x q.1)

rest_ascii : (b : ℕ) (x : List ℕ) → IsAscii (b ∷ x) → IsAscii x
rest_ascii b x h = IsAscii-drop (b ∷ x) 1 h

pub read_ascii : (t x : List ℕ) → IsAscii x → read_in t x ≡ x
read_ascii t [] h = refl
read_ascii t (b ∷ x) h = ap (λ y. y ++ read_in t x) (low t b (h 0))
    ∙ ap (λ y. b ∷ y) (read_ascii t x (rest_ascii b x h))

-- ---- UTF-8 of two and three bytes

pub encode_two : (n : ℕ) → 0x80 ≤ n → n < 0x800
    → encode_utf8 n ≡ (192 + n / 64) ∷ (128 + n % 64) ∷ []
unfolding encode_utf8
encode_two n l h =
    let one : nat_lt n 128 ≡ false = grind (arith, nat_tests) in
    let two : nat_lt n 2048 ≡ true = grind (arith, nat_tests) in
    rw (one, two) refl

pub encode_three : (n : ℕ) → 0x800 ≤ n → n < 0x10000
    → encode_utf8 n ≡ (224 + n / 4096) ∷ (128 + n / 64 % 64) ∷ (128 + n % 64) ∷ []
unfolding encode_utf8
encode_three n l h =
    let one : nat_lt n 128 ≡ false = grind (arith, nat_tests) in
    let two : nat_lt n 2048 ≡ false = grind (arith, nat_tests) in
    let three : nat_lt n 65536 ≡ true = grind (arith, nat_tests) in
    rw (one, two, three) refl

-- ---- the text that is read

all_scalars : (p : CodePage) (s : List ℕ) → list_all (has_character p) s ≡ true
    → scalars (map (point_in (table_of p)) s) ≡ true
all_scalars p [] h = refl
all_scalars p (b ∷ s) h =
    let k = and_parts (has_character p b) (list_all (has_character p) s) h in
    rw (k.0, all_scalars p s k.1) refl

pub read_is_text : (p : CodePage) (s : List ℕ) → list_all (has_character p) s ≡ true
    → IsUtf8 (read_by p s)
read_is_text p s h = let ns = map (point_in (table_of p)) s in let k = all_scalars p s h in
    (ns, (k, sym (spells_all ns k)))

pub read_stays : (p : CodePage) (s : List ℕ) → masked_bytes (read_by p s) ≡ read_by p s
read_stays p s = (spelled_stays (map (point_in (table_of p)) s)).0

pub ascii_by : (p : CodePage) (s : List ℕ) → IsAscii s → read_by p s ≡ s
ascii_by p s h = read_ascii (table_of p) s h
