use Rattle.std.proofs.Common.{◌≡◌, Some, [], sym, ap, ◌∙◌, arith, List, ℕ, length, drop, ◌∷◌}
use Rattle.std.proofs.lemmas.Str.{is_utf8-from_IsUtf8, IsUtf8-nil}
use Rattle.esc_values.specs.Scalars.{utf8_of}
use Rattle.esc_osc_values.proofs.read_items.without_first.Goals as goal

empty_title : (t : List ℕ) → length t ≡ 0 → utf8_of (drop 1 t) ≡ Some []
empty_title [] h = rw (is_utf8-from_IsUtf8 [] IsUtf8-nil)
empty_title (x ∷ xs) h = absurd (omega arith)

pub returns-in_default-clause-ok : goal.returns-in_default-clause-ok
returns-in_default-clause-ok g c =
    let none : length c.args.text.now ≡ 0 =
    ap length (sym c.as_bytes-bytes.ensures.value) ∙ c.in_default.ensures.cases in
    ap Some c.new.ensures ∙ sym (empty_title _ none)
