-- A title is split at `;`, and its parts are joined to it again.
use Rattle.std.proofs.Common.{ℕ, ◌≡◌, Bool, true, false, cond, ◌==◌, List, [], ◌∷◌, Some, refl, sym, ap, ◌∙◌}
use Rattle.std.specs.List.{slice_split, onto_first}
use Rattle.std.specs.Str.{IsUtf8}
use Rattle.std.proofs.lemmas.Str.{is_utf8-from_IsUtf8}
use Rattle.esc_values.specs.Clear.{IsClearText, AreClearParts, semicolon_list, separated_parts}
use Rattle.esc_values.proofs.Clear.PlainPartsAreClear.{plain_part}
use Rattle.esc_values.proofs.Clear.SplitAndJoined.{text_parts, joined_split}
use Rattle.esc_osc_values.specs.Lists.{title_of}

-- every text splits into at least one part
abbrev HasFirst : List (List ℕ) → Type 0
HasFirst qs = (p : List ℕ) × (ps : List (List ℕ)) × (qs ≡ p ∷ ps)

split_more : (b : ℕ) (t : List ℕ) (k : Bool) → HasFirst (slice_split (λ c. c == 0x3b) t)
    → HasFirst (cond k ([] ∷ slice_split (λ c. c == 0x3b) t)
    (onto_first b (slice_split (λ c. c == 0x3b) t)))
split_more b t true s = ([], slice_split (λ c. c == 0x3b) t, refl)
split_more b t false (p, ps, e) = (b ∷ p, ps, ap (onto_first b) e)

split_head : (t : List ℕ) → HasFirst (slice_split (λ c. c == 0x3b) t)
split_head [] = ([], [], refl)
split_head (b ∷ t) = split_more b t (b == 0x3b) (split_head t)

-- a title reads back
pub title_split : (t : List ℕ) → IsUtf8 t → title_of (slice_split (λ c. c == 0x3b) t) ≡ Some t
title_split t u =
    let s = split_head t in
    let j : semicolon_list (s.0 ∷ s.1) ≡ t = ap semicolon_list (sym s.2) ∙ joined_split t in
    rw s.2 (rw (j, is_utf8-from_IsUtf8 t u) refl)

pub title_parts : (t : List ℕ) → IsClearText t → AreClearParts (slice_split (λ c. c == 0x3b) t)
title_parts [] h = (plain_part [] refl, tt)
title_parts (b ∷ t) h = (text_parts (b ∷ t) h).0

pub title_text : (t : List ℕ) → 0x3b ∷ t ≡ separated_parts (slice_split (λ c. c == 0x3b) t)
title_text t =
    let s = split_head t in
    let j : semicolon_list (s.0 ∷ s.1) ≡ t = ap semicolon_list (sym s.2) ∙ joined_split t in
    rw s.2 (ap (λ u. 0x3b ∷ u) (sym j))
