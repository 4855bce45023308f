-- Slices of keys with their values: how they are read.
use Rattle.std.proofs.Common.{ℕ, ◌≡◌, ◌≢◌, Bool, true, false, ◌==◌, if◌then◌else◌, List, [], ◌∷◌, ◌++◌, map, length, codes, Option, Some}
use Rattle.std.proofs.Common.{None, is_some, refl, sym, ap, ◌∙◌, arith}
use Rattle.std.specs.List.{list_all}
use Rattle.std.specs.Option.{option_map}
use Rattle.std.proofs.lemmas.Bool.{ne_eqb, and_parts}
use Rattle.std.proofs.lemmas.List.{append-nil, append_assoc, length-append}
use Rattle.esc_values.specs.Clear.{separated_parts, semicolon_list, IsClearPart, AreClearParts}
use Rattle.esc_values.specs.Cuts.{Pairs, key_and_value, pair_text, pairs_in}
use Rattle.esc_values.specs.Fields.{Entry, with_value, present_pairs}
use Rattle.esc_values.specs.Scalars.{and_then}
use Rattle.esc_values.proofs.Clear.ClearPairs.{key_back}
use Rattle.esc_values.proofs.Clear.CutAtCharacter.{Free, free_passes, cut_there}
use Rattle.esc_values.proofs.Clear.PlainPartsAreClear.{is_part_plain, plain_part, all_append}
use Rattle.esc_values.proofs.Codecs.FieldsReadBack.{is_entry_of}
use Rattle.esc_iterm.specs.Files.{slice_pairs, last_pairs, pairs_of, file_of, file_from}
use Rattle.esc_iterm.proofs.KeyTexts.{is_key_plain, is_name, is_value, key_plain_part, name_plain}

-- the key and its value have plain characters, and the key no `=`
pub record IsSlice (e : List ℕ × List ℕ) : Type 0 where
  pub key : list_all is_name e.0 ≡ true
  pub value : list_all is_key_plain e.1 ≡ true

abbrev pub AreSlices : Pairs → Type 0
AreSlices [] = Unit {0}
AreSlices (e ∷ es) = IsSlice e × AreSlices es

plain_clear : (t : List ℕ) → list_all is_key_plain t ≡ true → IsClearPart t
plain_clear t h = plain_part t (key_plain_part t h)

lacks : (e : List ℕ × List ℕ) → IsSlice e → Free 0x3d e.0
lacks e h = free_passes 0x3d is_name refl e.0 h.key

pair_back : (e : List ℕ × List ℕ) → IsSlice e → key_and_value (pair_text e) ≡ Some e
pair_back e h = key_back e.0 e.1 (plain_clear e.0 (name_plain e.0 h.key)) (lacks e h)
    (plain_clear e.1 h.value)

some_length : (k v : List ℕ) → (length (k ++ 0x3d ∷ v) == 0) ≡ false
some_length k v =
    ne_eqb (length (k ++ 0x3d ∷ v)) 0 (λ e. omega (arith, e, length-append k (0x3d ∷ v)))

one_back : (e : List ℕ × List ℕ) → IsSlice e → slice_pairs (pair_text e) ≡ Some (e ∷ [])
one_back e h = rw (some_length e.0 e.1, pair_back e h) refl

last_back : (e : List ℕ × List ℕ) → IsSlice e → last_pairs (pair_text e) ≡ Some (e ∷ [])
last_back e h =
    ap (λ (c : Option (List ℕ × List ℕ)). if is_some c then pairs_in (pair_text e ∷ []) else Some
    []) (cut_there 0x3d e.0 e.1 (lacks e h))
    ∙ ap (λ (o : Option (List ℕ × List ℕ)). and_then o (λ d. Some (d ∷ []))) (pair_back e h)

pub slice_plain : (e : List ℕ × List ℕ) → IsSlice e → list_all is_key_plain (pair_text e) ≡ true
slice_plain e h = all_append is_key_plain e.0 (0x3d ∷ e.1) (name_plain e.0 h.key) h.value

-- slices, with t after the last
abbrev pub ended : List ℕ → List (List ℕ) → List ℕ → List (List ℕ)
ended p [] t = (p ++ t) ∷ []
ended p (q ∷ ps) t = p ∷ ended q ps t

abbrev pub put_before : Pairs → Option (Pairs × List ℕ) → Option (Pairs × List ℕ)
put_before es o = option_map (λ (m : Pairs × List ℕ). (es ++ m.0, m.1)) o

pairs_more : (p q : List ℕ) (ps : List (List ℕ)) (t : List ℕ)
    → pairs_of (p ∷ ended q ps t) ≡ and_then (slice_pairs p) (λ es.
    put_before es (pairs_of (ended q ps t)))
pairs_more p q [] t = refl
pairs_more p q (r ∷ ps) t = refl

pub pairs_back : (e : List ℕ × List ℕ) (es : Pairs) (b : List ℕ) → IsSlice e → AreSlices es
    → pairs_of (ended (pair_text e) (map pair_text es) (0x3a ∷ b)) ≡ Some (e ∷ es, b)
pairs_back e [] b h k =
    rw (
      cut_there 0x3a (pair_text e) b (free_passes 0x3a is_key_plain refl (pair_text e)
          (slice_plain e h)),
      last_back e h,
    ) refl
pairs_back e (g ∷ es) b h k =
    pairs_more (pair_text e) (pair_text g) (map pair_text es) (0x3a ∷ b)
    ∙ ap (λ o. and_then o (λ xs.
    put_before xs (pairs_of (ended (pair_text g) (map pair_text es) (0x3a ∷ b))))) (one_back e h)
    ∙ ap (put_before (e ∷ [])) (pairs_back g es b k.0 k.1)

-- the parts of a file
pub file_of_ended : {A : Type 0} (p : List ℕ) (ps : List (List ℕ)) (t : List ℕ)
    → file_of {A = A} (ended (codes "File=" ++ p) ps t) ≡ file_from {A = A} (ended p ps t)
file_of_ended p [] t = refl
file_of_ended p (q ∷ ps) t = refl

-- the text of the parts
separated_ended : (p : List ℕ) (ps : List (List ℕ)) (t : List ℕ)
    → separated_parts (ended p ps t) ≡ 0x3b ∷ (p ++ (separated_parts ps ++ t))
separated_ended p [] t = ap (λ u. 0x3b ∷ u) (append-nil (p ++ t))
separated_ended p (q ∷ ps) t =
    ap (λ u. 0x3b ∷ (p ++ u)) (separated_ended q ps t
    ∙ ap (λ u. 0x3b ∷ u) (sym (append_assoc q (separated_parts ps) t)))

pub joined_ended : (p : List ℕ) (ps : List (List ℕ)) (t : List ℕ)
    → semicolon_list (ended p ps t) ≡ p ++ (separated_parts ps ++ t)
joined_ended p [] t = append-nil (p ++ t)
joined_ended p (q ∷ ps) t =
    ap (λ u. p ++ u) (separated_ended q ps t
    ∙ ap (λ u. 0x3b ∷ u) (sym (append_assoc q (separated_parts ps) t)))

pub ended_some : (p : List ℕ) (ps : List (List ℕ)) (t : List ℕ) → ended p ps t ≢ []
ended_some p [] t = λ e. cc
ended_some p (q ∷ ps) t = λ e. cc

-- they are clear
abbrev pub ArePlain : List (List ℕ) → Type 0
ArePlain [] = Unit {0}
ArePlain (p ∷ ps) = (list_all is_part_plain p ≡ true) × ArePlain ps

pub ended_clear : (p : List ℕ) (ps : List (List ℕ)) (t : List ℕ) → list_all is_part_plain p ≡ true
    → ArePlain ps → list_all is_part_plain t ≡ true
    → AreClearParts (ended p ps t)
ended_clear p [] t h k last = (plain_part (p ++ t) (all_append is_part_plain p t h last), tt)
ended_clear p (q ∷ ps) t h k last = (plain_part p h, ended_clear q ps t k.0 k.1 last)

pub slices_plain : (es : Pairs) → AreSlices es → ArePlain (map pair_text es)
slices_plain [] h = tt
slices_plain (e ∷ es) h = (key_plain_part (pair_text e) (slice_plain e h.0), slices_plain es h.1)

-- the keys that are written are slices
abbrev pub is_entry : Entry → Bool
is_entry e = is_entry_of (λ k. list_all is_name k) is_value e

with_slice : (k : List ℕ) (o : Option (List ℕ)) (es : Pairs) → list_all is_name k ≡ true
    → is_value o ≡ true → AreSlices es → AreSlices (with_value k o es)
with_slice k None es h g p = p
with_slice k (Some v) es h g p = (record { key = h; value = g }, p)

pub written_slices : (es : List Entry) → list_all is_entry es ≡ true → AreSlices (present_pairs es)
written_slices [] h = tt
written_slices (e ∷ es) h =
    let q = and_parts (is_entry e) (list_all is_entry es) h in
    let k = and_parts (list_all is_name e.0) (is_value e.1) q.0 in
    with_slice e.0 e.1 (present_pairs es) k.0 k.1 (written_slices es q.1)
