-- Addresses that come in parts.
use Rattle.std.proofs.Common.{ℕ, ◌≡◌, ◌≤◌, nat_le, Bool, true, false, ◌&&◌, ◌||◌, if◌then◌else◌, inl, inr, List, [], ◌∷◌, ◌++◌, codes, length, take, drop, remove, Some, chars, lit<, refl, ap, sym, ◌∙◌, arith}
use Rattle.std.specs.List.{list_all}
use Rattle.std.specs.Str.{IsAscii, IsUtf8, is_utf8, str_eq_ignore_ascii_case}
use Rattle.std.proofs.lemmas.Bool.{and_parts, cases_Bool, leb-true, le-leb, true≢false}
use Rattle.std.proofs.lemmas.List.{length-append, take-append-le}
use Rattle.std.proofs.lemmas.List.Folds.{list_all-append}
use Rattle.std.proofs.lemmas.Str.{IsUtf8-append, IsUtf8-from_ascii, IsUtf8-from_is_utf8, IsUtf8-nil, chars-IsAscii, chars-append, chars-nil, is_utf8-from_IsUtf8}
use Rattle.std.proofs.lemmas.Str.Ascii.{IsAscii-cons, IsAscii-nil}
use Rattle.esc_values.specs.Clear.{semicolon_list, separated_parts}
use Rattle.esc_values.specs.Scalars.{utf8_of}
use Rattle.esc_html.specs.Addresses.{address_in, has_safe_scheme, has_scheme, is_address_char, is_address_part, is_link_code, is_safe_address, is_safe_in_parts, is_short}

-- ---- texts of characters of an address

abbrev IsAddressText : List ℕ → Type 0
IsAddressText t = IsUtf8 t × (list_all is_address_char (chars t) ≡ true)

part_text : (u : List ℕ) → is_address_part u ≡ true → IsAddressText u
part_text u h =
    elim (cases_Bool (is_utf8 u)) [
      | inl is ↦ (IsUtf8-from_is_utf8 u is, rw is at h)
      | inr not ↦ absurd (true≢false (sym h ∙ rw not refl))
    ]

both_texts : (s t : List ℕ) → IsAddressText s → IsAddressText t → IsAddressText (s ++ t)
both_texts s t h k = (
  IsUtf8-append s t h.0 k.0,
  rw (chars-append s t h.0, list_all-append is_address_char (chars s) (chars t), h.1, k.1) refl,
)

semicolon_ascii : IsAscii (0x3b ∷ [])
semicolon_ascii = IsAscii-cons 0x3b [] (lit< tt) IsAscii-nil

semicolon_text : IsAddressText (0x3b ∷ [])
semicolon_text = (
  IsUtf8-from_ascii (0x3b ∷ []) semicolon_ascii,
  ap (list_all is_address_char) (chars-IsAscii (0x3b ∷ []) semicolon_ascii),
)

separated_text : (us : List (List ℕ)) → list_all is_address_part us ≡ true
    → IsAddressText (separated_parts us)
separated_text [] h = (IsUtf8-nil, ap (list_all is_address_char) chars-nil)
separated_text (u ∷ us) h =
    let q = and_parts (is_address_part u) (list_all is_address_part us) h in
    both_texts (0x3b ∷ u) (separated_parts us)
    (both_texts (0x3b ∷ []) u semicolon_text (part_text u q.0)) (separated_text us q.1)

-- ---- schemes

scheme_more : (s u t : List ℕ) → has_scheme s u ≡ true → has_scheme s (u ++ t) ≡ true
scheme_more s u t h =
    let q = and_parts (nat_le (length s) (length u))
    (str_eq_ignore_ascii_case (take (length s) u) s) h in
    let fits = leb-true (length s) (length u) q.0 in
    let more : length s ≤ length (u ++ t) = omega (arith, fits, length-append u t) in
    rw (le-leb (length s) (length (u ++ t)) more, take-append-le (length s) u t fits, q.1) refl

one_more : (x y z a b c : Bool) → (x ≡ true → a ≡ true) → (y ≡ true → b ≡ true)
    → (z ≡ true → c ≡ true) → (x || y || z) ≡ true → (a || b || c) ≡ true
one_more true y z a b c f g k h = rw (f refl) refl
one_more false true z true b c f g k h = refl
one_more false true z false b c f g k h = rw (g refl) refl
one_more false false z true b c f g k h = refl
one_more false false z false true c f g k h = refl
one_more false false z false false c f g k h = k h

safe_scheme_more : (u t : List ℕ) → has_safe_scheme u ≡ true → has_safe_scheme (u ++ t) ≡ true
safe_scheme_more u t h =
    one_more _ _ _ _ _ _ (scheme_more (codes "http://") u t) (scheme_more (codes "https://") u t)
    (scheme_more (codes "mailto:") u t) h

-- ---- safe addresses

pub safe_in_parts : (us : List (List ℕ)) → is_safe_in_parts us ≡ true
    → (is_safe_address (semicolon_list us) ≡ true) × IsUtf8 (semicolon_list us)
safe_in_parts [] h = absurd (true≢false (sym h))
safe_in_parts (u ∷ us) h =
    let q = and_parts (is_short (semicolon_list (u ∷ us)) && has_safe_scheme u)
    (list_all is_address_part (u ∷ us)) h in
    let f = and_parts (is_short (semicolon_list (u ∷ us))) (has_safe_scheme u) q.0 in
    let p = and_parts (is_address_part u) (list_all is_address_part us) q.1 in
    let t = both_texts u (separated_parts us) (part_text u p.0) (separated_text us p.1) in
    (rw (f.0, safe_scheme_more u (separated_parts us) f.1, t.1) refl, t.0)

-- the rest of the parts of a command, after the first two, is the address
pub joined_is : (ps : List (List ℕ)) → is_safe_in_parts (address_in ps) ≡ true
    → utf8_of (semicolon_list (drop 1 (remove ps 0))) ≡ Some (semicolon_list (address_in ps))
joined_is [] h = absurd (true≢false (sym h))
joined_is (p ∷ []) h = absurd (true≢false (sym h))
joined_is (p ∷ q ∷ us) h = by (is_link_code p) h
  where
    by : (b : Bool) → is_safe_in_parts (if b then us else []) ≡ true
        → utf8_of (semicolon_list us) ≡ Some (semicolon_list (if b then us else []))
    by true k = rw (is_utf8-from_IsUtf8 (semicolon_list us) (safe_in_parts us k).1) refl
    by false k = absurd (true≢false (sym k))
