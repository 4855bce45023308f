-- A stream of UTF-16 in chunks.
use Rattle.std.proofs.Common.{ℕ, ◌≡◌, ◌++◌, ◌∷◌, ◌∙◌, Bool, List, [], Option, None, Some, refl, sym, ap}
use Rattle.std.proofs.lemmas.List.{append_assoc}
use Rattle.esc_decode.proofs.Spelled.{spell_append}
use Rattle.esc_decode.specs.Spellings.{spell_all}
use Rattle.esc_decode.specs.declared.utf16.Utf16.{Utf16}
use Rattle.esc_decode.specs.Units.{unit_text, after, unit_utf8, given_after, unit_left, left_after, odd_after, unit, units_after}

pub units_append : (little : Bool) (odd : Option ℕ) (s t : List ℕ)
    → units_after little odd (s ++ t)
    ≡ units_after little odd s ++ units_after little (odd_after odd s) t
units_append little odd [] t = refl
units_append little None (b ∷ s) t = units_append little (Some b) s t
units_append little (Some a) (b ∷ s) t =
    ap (λ us. unit little a b ∷ us) (units_append little None s t)

pub odd_append : (odd : Option ℕ) (s t : List ℕ)
    → odd_after odd (s ++ t) ≡ odd_after (odd_after odd s) t
odd_append odd [] t = refl
odd_append None (b ∷ s) t = odd_append (Some b) s t
odd_append (Some a) (b ∷ s) t = odd_append None s t

pub given_append : (h : Option ℕ) (us vs : List ℕ)
    → given_after h (us ++ vs) ≡ given_after h us ++ given_after (left_after h us) vs
given_append h [] vs = refl
given_append h (u ∷ us) vs =
    ap (λ x. unit_utf8 h u ++ x) (given_append (unit_left h u) us vs)
    ∙ sym (append_assoc (unit_utf8 h u) (given_after (unit_left h u) us)
    (given_after (left_after (unit_left h u) us) vs))

pub left_append : (h : Option ℕ) (us vs : List ℕ)
    → left_after h (us ++ vs) ≡ left_after (left_after h us) vs
left_append h [] vs = refl
left_append h (u ∷ us) vs = left_append (unit_left h u) us vs

-- ---- in chunks

pub after_append : (u : Utf16) (s t : List ℕ) → after (after u s) t ≡ after u (s ++ t)
after_append u s t =
    rw (
      odd_append u.odd s t,
      units_append u.is_little u.odd s t,
      left_append u.high (units_after u.is_little u.odd s)
          (units_after u.is_little (odd_after u.odd s) t),
    ) refl

pub added_append : (u : Utf16) (s t : List ℕ)
    → unit_text u (s ++ t) ≡ unit_text u s ++ unit_text (after u s) t
added_append u s t =
    ap (λ us. spell_all (given_after u.high us)) (units_append u.is_little u.odd s t)
    ∙ ap spell_all (given_append u.high (units_after u.is_little u.odd s)
    (units_after u.is_little (odd_after u.odd s) t))
    ∙ spell_append (given_after u.high (units_after u.is_little u.odd s))
    (given_after (left_after u.high (units_after u.is_little u.odd s))
    (units_after u.is_little (odd_after u.odd s) t))
