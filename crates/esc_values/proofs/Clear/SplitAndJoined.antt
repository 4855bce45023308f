-- Splitting and joining clear texts.
use Rattle.std.proofs.Common.{ℕ, ◌≡◌, ◌≢◌, Bool, true, not, ◌==◌, List, [], ◌∷◌, ◌++◌, lit<, refl, ap, sym, ◌∙◌, subst}
use Rattle.std.specs.List.{slice_split, list_all, flat_map, join_with_byte}
use Rattle.std.proofs.lemmas.List.{append-nil}
use Rattle.std.proofs.lemmas.List.Folds.{list_all-append}
use Rattle.std.proofs.lemmas.List.Splits.{join_with_byte-slice_split}
use Rattle.std.proofs.lemmas.Bool.{eqb-false, ne_eqb, not-true, and_parts}
use Rattle.std.proofs.lemmas.Str.{encodes-append}
use Rattle.std.specs.Str.{encode_utf8_all}
use Rattle.std.specs.Char.{encode_utf8}
use Rattle.esc_values.specs.Clear.{is_clear, is_part_char, IsClearText, IsClearPart, AreClearParts, AreTextParts, parts_of, semicolon_list}
use Rattle.esc_values.proofs.Clear.CutAtCharacter.{Free, free_append, encode_free, split_free, AreStretchs, SplitsAt, splits}

abbrev semi : ℕ → Bool
semi c = c == 0x3b

-- the parts of a text of clear characters
other_part : (c : ℕ) → is_clear c ≡ true → c ≢ 0x3b → is_part_char c ≡ true
other_part c ok other = rw (ok, ne_eqb c 0x3b other) refl

split_clear : (t : List ℕ) → IsClearText t → SplitsAt 0x3b t
split_clear t h = splits is_clear 0x3b t (lit< tt) other_part h

stretchs_clear : (ps : List (List ℕ)) → AreStretchs 0x3b ps → AreClearParts ps
stretchs_clear [] h = tt
stretchs_clear (p ∷ ps) h = (h.0.0, stretchs_clear ps h.1)

-- joining
joined_is : (xs : List (List ℕ)) → semicolon_list xs ≡ join_with_byte 0x3b xs
joined_is [] = refl
joined_is (x ∷ []) = append-nil x
joined_is (x ∷ y ∷ xs) = ap (λ t. x ++ 0x3b ∷ t) (joined_is (y ∷ xs))

pub joined_split : (t : List ℕ) → semicolon_list (slice_split semi t) ≡ t
joined_split t = joined_is (slice_split semi t) ∙ join_with_byte-slice_split 0x3b t

pub joined_parts : (t : List ℕ) → semicolon_list (parts_of t) ≡ t
joined_parts [] = refl
joined_parts (b ∷ t) = joined_split (b ∷ t)

all_clear : (ps : List (List ℕ)) (t : List ℕ) → SplitsAt 0x3b t → slice_split semi t ≡ ps
    → AreClearParts ps
all_clear ps t (p, more, is, one, rest) e = let P : List (List ℕ) → Type 0 =
    λ xs. AreClearParts xs in subst P (sym is ∙ e) (one.0, stretchs_clear more rest)

pub text_parts : (t : List ℕ) → IsClearText t → AreTextParts (parts_of t)
text_parts [] h = (tt, λ e. cc)
text_parts (b ∷ t) h = (
  all_clear (slice_split semi (b ∷ t)) (b ∷ t) (split_clear (b ∷ t) h) refl,
  λ e.
      let k : b ∷ t ≡ [] = sym (joined_split (b ∷ t)) ∙ ap semicolon_list e in cc,
)

-- a clear part is a clear text without `;`
part_char : (c : ℕ) → is_part_char c ≡ true → (is_clear c ≡ true) × (c ≢ 0x3b)
part_char c h = let q = and_parts (is_clear c) (not (c == 0x3b)) h in
    (q.0, eqb-false c 0x3b (not-true (c == 0x3b) q.1))

chars_clear : (cs : List ℕ) → list_all is_part_char cs ≡ true → list_all is_clear cs ≡ true
chars_clear [] h = refl
chars_clear (c ∷ cs) h = let q = and_parts (is_part_char c) (list_all is_part_char cs) h in
    rw ((part_char c q.0).0, chars_clear cs q.1) refl

chars_free : (cs : List ℕ) → list_all is_part_char cs ≡ true → Free 0x3b (encode_utf8_all cs)
chars_free [] h = refl
chars_free (c ∷ cs) h =
    let q = and_parts (is_part_char c) (list_all is_part_char cs) h in
    free_append 0x3b (encode_utf8 c) (encode_utf8_all cs)
    (encode_free 0x3b c (lit< tt) (part_char c q.0).1) (chars_free cs q.1)

part_free : (p : List ℕ) → IsClearPart p → Free 0x3b p
part_free p (cs, all, e) = let P : List ℕ → Type 0 = λ u. Free 0x3b u in
    subst P e (chars_free cs all)

pub part_clear : (p : List ℕ) → IsClearPart p → IsClearText p
part_clear p (cs, all, e) = (cs, chars_clear cs all, e)

pub clear_append : (x y : List ℕ) → IsClearText x → IsClearText y → IsClearText (x ++ y)
clear_append x y (cs, all, e) (ds, more, f) = (
  cs ++ ds,
  rw (list_all-append is_clear cs ds, all, more) refl,
  encodes-append cs ds ∙ ap (λ t. t ++ encode_utf8_all ds) e ∙ ap (λ t. x ++ t) f,
)

encode_is : encode_utf8_all (0x3b ∷ []) ≡ 0x3b ∷ []
unfolding encode_utf8
encode_is = refl

semi_clear : IsClearText (0x3b ∷ [])
semi_clear = (0x3b ∷ [], refl, encode_is)

after_clear : (ps : List (List ℕ)) → AreClearParts ps → IsClearText (flat_map (λ q. 0x3b ∷ q) ps)
after_clear [] h = ([], refl, refl)
after_clear (q ∷ ps) h =
    clear_append (0x3b ∷ []) (q ++ flat_map (λ q. 0x3b ∷ q) ps) semi_clear
    (clear_append q (flat_map (λ q. 0x3b ∷ q) ps) (part_clear q h.0) (after_clear ps h.1))

pub joined_clear : (ps : List (List ℕ)) → AreClearParts ps → IsClearText (semicolon_list ps)
joined_clear [] h = ([], refl, refl)
joined_clear (p ∷ ps) h =
    clear_append p (flat_map (λ q. 0x3b ∷ q) ps) (part_clear p h.0) (after_clear ps h.1)

pub split_joined : (p : List ℕ) (ps : List (List ℕ)) → AreClearParts (p ∷ ps)
    → slice_split semi (semicolon_list (p ∷ ps)) ≡ p ∷ ps
split_joined p [] h =
    split_free 0x3b p [] [] [] (part_free p h.0) refl ∙ ap (λ t. t ∷ []) (append-nil p)
split_joined p (q ∷ ps) h =
    split_free 0x3b p (0x3b ∷ semicolon_list (q ∷ ps)) []
    (slice_split semi (semicolon_list (q ∷ ps)))
    (part_free p h.0) refl
    ∙ ap (λ t. t ∷ slice_split semi (semicolon_list (q ∷ ps))) (append-nil p)
    ∙ ap (λ ts. p ∷ ts) (split_joined q ps h.1)

back : (ps : List (List ℕ)) → AreTextParts ps → parts_of (semicolon_list ps) ≡ ps
back [] h = refl
back ([] ∷ []) h = absurd (h.1 refl)
back ([] ∷ q ∷ ps) h = split_joined [] (q ∷ ps) h.0
back ((b ∷ p) ∷ ps) h = split_joined (b ∷ p) ps h.0

pub parts_text : (ps : List (List ℕ)) → AreTextParts ps → IsClearText (semicolon_list ps)
    × (parts_of (semicolon_list ps) ≡ ps)
parts_text ps h = (joined_clear ps h.0, back ps h)
