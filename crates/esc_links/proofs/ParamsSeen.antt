-- The parameters of a hyperlink, as pairs of bytes.
use Rattle.std.proofs.Common.{ℕ, ◌≡◌, List, [], ◌∷◌, map, String, string_bytes, Bool, true, false, refl, ap, sym, ◌∙◌}
use Rattle.std.specs.BTreeMap.{insert_entry}
use Rattle.std.specs.Cmp.Lexicographic.{slice_cmp}
use Rattle.std.specs.declared.cmp.Ordering.{Ordering}
use Rattle.std.specs.declared.cmp.Ordering.TheVariants.{Less, Equal, Greater}
use Rattle.std.specs.Map.{lookup}
use Rattle.std.specs.Option.{option_map}
use Rattle.std.specs.Ordering.{is_eq, nat_cmp, match_ordering}
use Rattle.std.specs.String.{string_cmp}
use Rattle.std.proofs.lemmas.Map.Text.{is_eq-slice_cmp}
use Rattle.esc_links.specs.Hyperlinks.{pairs_with, value_at}

module _ {A : Type 0} where
  -- a pair's bytes
  abbrev pub shown : String A × String A → List ℕ × List ℕ
  shown e = (string_bytes e.0, string_bytes e.1)

  shown_by : (o : Ordering) (a b c : List (String A × String A))
      → map shown (match_ordering o a b c) ≡ match_ordering o (map shown a) (map shown b)
      (map shown c)
  shown_by Less a b c = refl
  shown_by Equal a b c = refl
  shown_by Greater a b c = refl

  -- an inserted pair is put
  pub put_shown : (es : List (String A × String A)) (k v : String A)
      → map shown (insert_entry string_cmp es k v) ≡ pairs_with (string_bytes k) (string_bytes v)
      (map shown es)
  put_shown [] k v = refl
  put_shown (e ∷ es) k v =
      shown_by (string_cmp k e.0) _ _ _
      ∙ ap (λ l. match_ordering (string_cmp k e.0) ((string_bytes k, string_bytes v)
      ∷ map shown (e ∷ es))
      ((string_bytes e.0, string_bytes v) ∷ map shown es) (shown e ∷ l)) (put_shown es k v)

  value_by : (q : List ℕ) (e : String A × String A) (es : List (String A × String A)) (b : Bool)
      → option_map string_bytes (lookup (λ k. is_eq (slice_cmp nat_cmp q (string_bytes k))) es)
      ≡ value_at q (map shown es)
      → is_eq (slice_cmp nat_cmp q (string_bytes e.0)) ≡ b
      → option_map string_bytes (lookup (λ k. is_eq (slice_cmp nat_cmp q (string_bytes k)))
      (e ∷ es)) ≡ value_at q (map shown (e ∷ es))
  value_by q e es true h is = rw (is, sym (is_eq-slice_cmp q (string_bytes e.0)) ∙ is) refl
  value_by q e es false h is = rw (is, sym (is_eq-slice_cmp q (string_bytes e.0)) ∙ is) h

  -- the value that is looked up is the one there
  pub value_shown : (q : List ℕ) (es : List (String A × String A))
      → option_map string_bytes (lookup (λ k. is_eq (slice_cmp nat_cmp q (string_bytes k))) es)
      ≡ value_at q (map shown es)
  value_shown q [] = refl
  value_shown q (e ∷ es) =
      value_by q e es (is_eq (slice_cmp nat_cmp q (string_bytes e.0))) (value_shown q es) refl
