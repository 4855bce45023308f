-- A text is clear if all its characters are.
use Rattle.std.proofs.Common.{ℕ, ◌≡◌, ◌≢◌, ◌↔◌, ◌&&◌, Bool, true, List, [], ◌∷◌, IsUtf8, chars, IsTrue, refl, ap, sym, ◌∙◌}
use Rattle.std.specs.List.{list_all}
use Rattle.std.proofs.lemmas.Bool.{and_from, and_parts}
use Rattle.std.proofs.lemmas.Str.{chars-encodes}
use Rattle.esc_values.specs.Clear.{IsClearText, is_clear}
use lib.Utf8.{scalar, scalars}
use Rattle.std.specs.Prelude.{nat_le, ◌||◌}

scalars_of : (cs : List ℕ) → list_all is_clear cs ≡ true → scalars cs ≡ true
scalars_of [] h = refl
scalars_of (c ∷ cs) h =
    let q = and_parts (is_clear c) (list_all is_clear cs) h in
    and_from (scalar c) (scalars cs)
    (and_parts (scalar c) (nat_le 0x20 c && (nat_le c 0x7f || nat_le 0xa0 c)) q.0).0
    (scalars_of cs q.1)

pub clear_from : (t : List ℕ) → IsUtf8 t → list_all is_clear (chars t) ≡ true → IsClearText t
clear_from t (cs, (sound, e)) h =
    let same : chars t ≡ cs =
    ap chars (sym e) ∙ chars-encodes cs sound in (cs, sym (ap (list_all is_clear) same) ∙ h, e)

pub clear_to : (t : List ℕ) → IsClearText t → list_all is_clear (chars t) ≡ true
clear_to t (cs, all, e) =
    ap (list_all is_clear) (ap chars (sym e) ∙ chars-encodes cs (scalars_of cs all)) ∙ all

pub clear_string : (t : List ℕ) (b : Bool) → IsUtf8 t → t ≢ [] → b ≡ list_all is_clear (chars t)
    → IsTrue b ↔ (IsClearText t × (t ≢ []))
clear_string t b u some e = (λ h. (clear_from t u (sym e ∙ h), some), λ h. e ∙ clear_to t h.0)
