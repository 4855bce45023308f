-- Names that are written in hexadecimal read back, and any data is names that can be written.
use Rattle.std.proofs.Common.{◌≡◌, ℕ, suc, ◌/◌, ◌%◌, ◌<◌, ◌==◌, ◌&&◌, not, Bool, true, false, List, [], ◌∷◌}
use Rattle.std.proofs.Common.{length, map, Result, Ok, Err, refl, ap, ◌∙◌, arith, append-nil}
use Rattle.std.proofs.lemmas.List.{length-map}
use Rattle.std.specs.List.{slice_split, slice_index, flat_map, list_all, AllByRecursion as ByRecursion}
use Rattle.std.specs.Fmt.{digit_glyph}
use Rattle.std.specs.Str.{IsUtf8}
use Rattle.std.proofs.lemmas.Str.{utf8_lossy-IsUtf8}
use Rattle.std.proofs.lemmas.Bool.{eqb-true}
use Rattle.std.proofs.lemmas.List.Folds.{list_all-append}
use Rattle.std.proofs.lemmas.List.Splits.{slice_split_at, slice_split_none, length-slice_split}
use Rattle.std.proofs.lemmas.List.Elements.{All-from_recursion}
use Rattle.base64.specs.Tables.{all_below}
use Rattle.base64.proofs.Tables.{all_below_at}
use Rattle.hex.specs.Hex.{encode_lower, encode_with, lower_digits, decode_of, IsBytes}
use Rattle.hex.proofs.HexLemmas.{decode_of-encode_lower}
use Rattle.esc_values.proofs.Codecs.TextBytesAreBytes.{utf8_bytes}
use Rattle.xtgettcap.proofs.LossyTexts.{lossy_is_text}
use Rattle.xtgettcap.specs.Names.{name_by, name_of, names_of, hex_text, names_text, is_query_byte, AreTexts, AreWritable, WritesBack}

-- a test that the sixteen digits pass
abbrev PassDigits : (ℕ → Bool) → Type 0
PassDigits t = all_below (λ d. t (digit_glyph false d)) 16 ≡ true

digits_pass : (t : ℕ → Bool) → PassDigits t → (bs : List ℕ) → IsBytes bs
    → list_all t (hex_text bs) ≡ true
digits_pass t all [] h = refl
digits_pass t all (b ∷ bs) h =
    let first = h 0 in
    rw (
      all_below_at (λ d. t (digit_glyph false d)) 16 (b / 16) all (omega (arith, first)),
      all_below_at (λ d. t (digit_glyph false d)) 16 (b % 16) all (omega arith),
    )
    (digits_pass t all bs (λ i. h (suc i)))

-- the digits are those of the table
abbrev same_digit : ℕ → Bool
same_digit d = digit_glyph false d == slice_index lower_digits d

same_digits : all_below same_digit 16 ≡ true
same_digits = refl

digit_is : (d : ℕ) → d < 16 → digit_glyph false d ≡ slice_index lower_digits d
digit_is d small = eqb-true _ _ (all_below_at same_digit 16 d same_digits small)

hex_is : (bs : List ℕ) → IsBytes bs → hex_text bs ≡ encode_lower bs
unfolding encode_with
hex_is [] h = refl
hex_is (b ∷ bs) h =
    let first = h 0 in
    rw (digit_is (b / 16) (omega (arith, first)), digit_is (b % 16) (omega arith))
    (ap (λ r. slice_index lower_digits (b / 16) ∷ slice_index lower_digits (b % 16) ∷ r)
    (hex_is bs (λ i. h (suc i))))

-- no digit is a separator
abbrev is_other : ℕ → Bool
is_other b = not (b == 0x3b)

other_first : (t : Bool) (bs : List ℕ) → (not t && list_all is_other bs) ≡ true
    → (list_all is_other bs ≡ true → ByRecursion (λ b. (b == 0x3b) ≡ false) bs)
    → (t ≡ false) × ByRecursion (λ b. (b == 0x3b) ≡ false) bs
other_first false bs h more = (refl, more h)
other_first true bs h more = cc

others : (bs : List ℕ) → list_all is_other bs ≡ true → ByRecursion (λ b. (b == 0x3b) ≡ false) bs
others [] h = tt
others (b ∷ bs) h = other_first (b == 0x3b) bs h (others bs)

hex_lacks : (n : List ℕ) → IsUtf8 n → ByRecursion (λ b. (b == 0x3b) ≡ false) (hex_text n)
hex_lacks n h = others (hex_text n) (digits_pass is_other refl n (utf8_bytes n h))

hex_split : (n : List ℕ) (ns : List (List ℕ)) → AreTexts (n ∷ ns)
    → slice_split (λ c. c == 0x3b) (names_text (n ∷ ns)) ≡ map hex_text (n ∷ ns)
hex_split n [] h =
    rw (append-nil (hex_text n)) (slice_split_none (λ c. c == 0x3b) (hex_text n)
    (All-from_recursion _ (hex_text n) (hex_lacks n h.0)))
hex_split n (m ∷ ns) h =
    slice_split_at (λ c. c == 0x3b) (hex_text n) 0x3b (names_text (m ∷ ns))
    (All-from_recursion _ (hex_text n) (hex_lacks n h.0)) refl
    ∙ ap (λ (r : List (List ℕ)). hex_text n ∷ r) (hex_split m ns h.1)

name_back : (n : List ℕ) → IsUtf8 n → name_of (hex_text n) ≡ n
name_back n h =
    let d : decode_of (hex_text n) ≡ Ok n =
    ap decode_of (hex_is n (utf8_bytes n h)) ∙ decode_of-encode_lower n (utf8_bytes n h) in
    rw d (utf8_lossy-IsUtf8 n h)

names_back : (ns : List (List ℕ)) → AreTexts ns → map name_of (map hex_text ns) ≡ ns
names_back [] h = refl
names_back (n ∷ ns) h = rw (name_back n h.0, names_back ns h.1) refl

-- every byte of the text is a digit or a separator
hex_bytes : (n : List ℕ) → IsUtf8 n → list_all is_query_byte (hex_text n) ≡ true
hex_bytes n h = digits_pass is_query_byte refl n (utf8_bytes n h)

more_bytes : (ns : List (List ℕ)) → AreTexts ns
    → list_all is_query_byte (flat_map (λ m. 0x3b ∷ hex_text m) ns) ≡ true
more_bytes [] h = refl
more_bytes (n ∷ ns) h =
    rw (
      list_all-append is_query_byte (hex_text n) (flat_map (λ m. 0x3b ∷ hex_text m) ns),
      hex_bytes n h.0,
      more_bytes ns h.1,
    ) refl

names_bytes : (ns : List (List ℕ)) → AreTexts ns → list_all is_query_byte (names_text ns) ≡ true
names_bytes [] h = refl
names_bytes (n ∷ ns) h =
    rw (
      list_all-append is_query_byte (hex_text n) (flat_map (λ m. 0x3b ∷ hex_text m) ns),
      hex_bytes n h.0,
      more_bytes ns h.1,
    ) refl

pub writes_back : (ns : List (List ℕ)) → AreWritable ns → WritesBack ns
writes_back [] h = absurd (h.0 refl)
writes_back (n ∷ ns) h =
    (names_bytes (n ∷ ns) h.1, ap (map name_of) (hex_split n ns h.1) ∙ names_back (n ∷ ns) h.1)

-- a name that is read can be written
name_is_text : {E : Type 0} (p : List ℕ) (r : Result (List ℕ) E) → IsUtf8 (name_by p r)
name_is_text p (Ok bytes) = lossy_is_text bytes
name_is_text p (Err e) = lossy_is_text p

are_texts : (ps : List (List ℕ)) → AreTexts (map name_of ps)
are_texts [] = tt
are_texts (p ∷ ps) = (name_is_text p (decode_of p), are_texts ps)

pub data_is_writable : (bs : List ℕ) → AreWritable (names_of bs)
data_is_writable bs =
    let slices = slice_split (λ c. c == 0x3b) bs in (
      λ e. omega (
        arith,
        ap length e,
        length-map slices name_of,
        length-slice_split (λ c. c == 0x3b) bs,
      ),
      are_texts slices,
    )
