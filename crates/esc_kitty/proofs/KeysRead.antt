-- Keys that are written are read as they are.
use Rattle.std.proofs.Common.{ℕ, ℤ, pos, negsuc, suc, ◌≡◌, ◌+◌, ◌-◌, ◌<◌, ◌≤◌, ◌==◌, Bool, true, false, not, ◌&&◌, List, []}
use Rattle.std.proofs.Common.{◌∷◌, ◌++◌, length, get_or, map, Option, Some, None, refl, ap, ◌∙◌, append-nil, arith}
use Rattle.std.proofs.lemmas.Bool.{and_parts}
use Rattle.std.specs.Fmt.{decimal, signed_decimal}
use Rattle.std.specs.List.{list_all, slice_split}
use Rattle.std.specs.Option.{unwrap_or}
use Rattle.std.proofs.lemmas.Fmt.{decimal_is_IsNumeral}
use Rattle.std.proofs.lemmas.Str.Parse.{digit_at}
use Rattle.base64.specs.Tables.{all_below}
use Rattle.base64.proofs.Tables.{all_below_at}
use Rattle.esc_values.specs.Clear.{IsClearPart}
use Rattle.esc_values.specs.Cuts.{Pairs, cut_at, pair_text, pairs_in}
use Rattle.esc_values.specs.Fields.{Entry, is_bare, values_of, with_value, present_pairs}
use Rattle.esc_values.specs.Scalars.{IsSigned}
use Rattle.esc_values.proofs.Clear.ClearPairs.{key_back}
use Rattle.esc_values.proofs.Clear.CutAtCharacter.{Free, free_passes, cut_there, split_free}
use Rattle.esc_values.proofs.Clear.PlainPartsAreClear.{is_part_plain, plain_part, all_append}
use Rattle.esc_values.proofs.Codecs.FieldsReadBack.{find, written_values}
use Rattle.esc_kitty.specs.Images.{image_in, image_of, image_with, keys_and_payload}
use Rattle.esc_kitty.specs.Keys.{keys_of}
use Rattle.esc_kitty.specs.Texts.{keys_text}

-- from space to delete, but neither `;` nor `,`
abbrev pub is_word : ℕ → Bool
is_word c = is_part_plain c && not (c == 0x2c)

abbrev pub IsWord : List ℕ → Type 0
IsWord t = list_all is_word t ≡ true

-- a text that passes a test passes one that follows from it
pub passes : (f g : ℕ → Bool) → ((c : ℕ) → f c ≡ true → g c ≡ true) → (t : List ℕ)
    → list_all f t ≡ true → list_all g t ≡ true
passes f g more [] h = refl
passes f g more (c ∷ t) h = let q = and_parts (f c) (list_all f t) h in
    rw (more c q.0, passes f g more t q.1) refl

word_plain : (c : ℕ) → is_word c ≡ true → is_part_plain c ≡ true
word_plain c h = (and_parts (is_part_plain c) (not (c == 0x2c)) h).0

word_clear : (t : List ℕ) → IsWord t → IsClearPart t
word_clear t h = plain_part t (passes is_word is_part_plain word_plain t h)

-- numbers are words
abbrev digit_test : ℕ → Bool
digit_test i = is_word (i + 48)

digits_are : all_below digit_test 10 ≡ true
digits_are = refl

digit_word : (c : ℕ) → 48 ≤ c → c ≤ 57 → is_word c ≡ true
digit_word c low high =
    let here = all_below_at digit_test 10 (c - 48) digits_are (omega arith) in
    let same : c - 48 + 48 ≡ c = omega arith in
    rw same at here

digits_word : (ds : List ℕ) → ((k : ℕ) → k < length ds → (48 ≤ get_or ds k 0)
    × (get_or ds k 0 ≤ 57)) → IsWord ds
digits_word [] h = refl
digits_word (d ∷ ds) h =
    let here = h 0 (omega arith) in
    rw (digit_word d here.0 here.1, digits_word ds (λ k below. h (suc k) (omega arith))) refl

pub decimal_word : (n : ℕ) → n < 4294967296 → IsWord (decimal n)
decimal_word n small =
    let f = decimal_is_IsNumeral n (omega arith) in
    digits_word (decimal n) (λ k below. let range = digit_at (decimal n) k f.0.1 below in
    (omega (arith, range), omega (arith, range)))

pub signed_word : (z : ℤ) → IsSigned 32 z → IsWord (signed_decimal z)
signed_word (pos n) h = decimal_word n (omega arith)
signed_word (negsuc n) h = decimal_word (suc n) (omega arith)

-- a key without `=` and its value, both words
pub record IsPair (e : List ℕ × List ℕ) : Type 0 where
  pub lacks : Free 0x3d e.0
  pub key : IsWord e.0
  pub value : IsWord e.1

abbrev pub ArePairs : Pairs → Type 0
ArePairs [] = Unit {0}
ArePairs (e ∷ es) = IsPair e × ArePairs es

pair_word : (e : List ℕ × List ℕ) → IsPair e → IsWord (pair_text e)
pair_word e h = all_append is_word e.0 (0x3d ∷ e.1) h.key h.value

pair_back : (e : List ℕ × List ℕ) → IsPair e
    → Rattle.esc_values.specs.Cuts.key_and_value (pair_text e) ≡ Some e
pair_back e h = key_back e.0 e.1 (word_clear e.0 h.key) h.lacks (word_clear e.1 h.value)

pairs_back : (es : Pairs) → ArePairs es → pairs_in (map pair_text es) ≡ Some es
pairs_back [] h = refl
pairs_back (e ∷ es) h = rw (pair_back e h.0, pairs_back es h.1) refl

abbrev comma : ℕ → Bool
comma c = c == 0x2c

split_back : (e : List ℕ × List ℕ) (es : Pairs) → ArePairs (e ∷ es)
    → slice_split comma (keys_text (e ∷ es)) ≡ map pair_text (e ∷ es)
split_back e [] h =
    split_free 0x2c (pair_text e) [] [] []
    (free_passes 0x2c is_word refl (pair_text e) (pair_word e h.0)) refl
    ∙ ap (λ (p : List ℕ). p ∷ []) (append-nil (pair_text e))
split_back e (d ∷ es) h =
    split_free 0x2c (pair_text e) (0x2c ∷ keys_text (d ∷ es)) []
    (slice_split comma (keys_text (d ∷ es))) (free_passes 0x2c is_word refl (pair_text e)
    (pair_word e h.0)) refl
    ∙ ap (λ (p : List ℕ). p ∷ slice_split comma (keys_text (d ∷ es))) (append-nil (pair_text e))
    ∙ ap (λ (ps : List (List ℕ)). pair_text e ∷ ps) (split_back d es h.1)

pub keys_back : (e : List ℕ × List ℕ) (es : Pairs) → ArePairs (e ∷ es)
    → keys_of (keys_text (e ∷ es)) ≡ Some (e ∷ es)
keys_back e es h = ap pairs_in (split_back e es h) ∙ pairs_back (e ∷ es) h

-- their text passes a test that words and `,` pass
pub keys_pass : (f : ℕ → Bool) → ((c : ℕ) → is_word c ≡ true → f c ≡ true) → f 0x2c ≡ true
    → (es : Pairs) → ArePairs es → list_all f (keys_text es) ≡ true
keys_pass f words comma [] h = refl
keys_pass f words comma (e ∷ []) h =
    all_append f (pair_text e) [] (passes is_word f words (pair_text e) (pair_word e h.0)) refl
keys_pass f words comma (e ∷ d ∷ es) h =
    let more : list_all f (0x2c ∷ keys_text (d ∷ es)) ≡ true =
    rw (comma, keys_pass f words comma (d ∷ es) h.1) refl in
    all_append f (pair_text e) (0x2c ∷ keys_text (d ∷ es))
    (passes is_word f words (pair_text e) (pair_word e h.0)) more

-- the text has no `;`
keys_free : (es : Pairs) → ArePairs es → Free 0x3b (keys_text es)
keys_free es h =
    free_passes 0x3b is_part_plain refl (keys_text es)
    (keys_pass is_part_plain word_plain refl es h)

-- the image of keys that are written, with and without a payload
with_keys : {A : Type 0} (es : Pairs) (payload : List ℕ) → is_bare es ≡ false → ArePairs es
    → image_with {A = A} (keys_text es) payload ≡ image_in (values_of es) payload
with_keys [] payload some h = absurd cc
with_keys (e ∷ es) payload some h = rw (keys_back e es h) refl

pub with_payload : {A : Type 0} (es : Pairs) (payload : List ℕ) → is_bare es ≡ false → ArePairs es
    → image_of {A = A} (0x47 ∷ (keys_text es ++ 0x3b ∷ payload)) ≡ image_in (values_of es) payload
with_payload {A = A} es payload some h =
    let cut : keys_and_payload (keys_text es ++ 0x3b ∷ payload) ≡ (keys_text es, payload) =
    ap (λ (o : Option (List ℕ × List ℕ)). unwrap_or o (keys_text es ++ 0x3b ∷ payload, []))
    (cut_there 0x3b (keys_text es) payload (keys_free es h)) in
    ap (λ (k : List ℕ × List ℕ). image_with {A = A} k.0 k.1) cut ∙ with_keys es payload some h

pub without_payload : {A : Type 0} (es : Pairs) → is_bare es ≡ false → ArePairs es
    → image_of {A = A} (0x47 ∷ (keys_text es ++ [])) ≡ image_in (values_of es) []
without_payload {A = A} es some h =
    let cut : keys_and_payload (keys_text es) ≡ (keys_text es, []) =
    ap (λ (o : Option (List ℕ × List ℕ)). unwrap_or o (keys_text es, [])) (keys_free es h) in
    rw (append-nil (keys_text es)) (ap (λ (k : List ℕ × List ℕ). image_with {A = A} k.0 k.1) cut
    ∙ with_keys es [] some h)

-- a key without `=`, and its value where it is written: both words
abbrev pub is_name : ℕ → Bool
is_name c = is_word c && not (c == 0x3d)

abbrev pub is_value : Option (List ℕ) → Bool
is_value None = true
is_value (Some v) = list_all is_word v

abbrev pub is_entry : Entry → Bool
is_entry e = list_all is_name e.0 && is_value e.1

name_word : (c : ℕ) → is_name c ≡ true → is_word c ≡ true
name_word c h = (and_parts (is_word c) (not (c == 0x3d)) h).0

with_pairs : (n : List ℕ) (v : Option (List ℕ)) (es : Pairs) → list_all is_name n ≡ true
    → is_value v ≡ true → ArePairs es → ArePairs (with_value n v es)
with_pairs n None es k h r = r
with_pairs n (Some v) es k h r = (
  record {
    lacks = free_passes 0x3d is_name refl n k;
    key = passes is_name is_word name_word n k;
    value = h;
  },
  r,
)

pub written_pairs : (es : List Entry) → list_all is_entry es ≡ true → ArePairs (present_pairs es)
written_pairs [] h = tt
written_pairs (e ∷ es) h =
    let q = and_parts (is_entry e) (list_all is_entry es) h in
    let k = and_parts (list_all is_name e.0) (is_value e.1) q.0 in
    with_pairs e.0 e.1 (present_pairs es) k.0 k.1 (written_pairs es q.1)

-- written keys are read as this image
pub entries_image : {A : Type 0} (es : List Entry) (payload : List ℕ)
    → image_in {A = A} (values_of (present_pairs es)) payload ≡ image_in (λ k. find k es) payload
entries_image {A = A} es payload =
    ap (λ v. image_in {A = A} v payload) (written_values es)
