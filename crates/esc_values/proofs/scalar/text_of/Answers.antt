use Rattle.std.proofs.Common.{◌≡◌, Some, ap, ◌∙◌, true, subst, inl, inr, List, ℕ, string_bytes}
use Rattle.std.specs.Str.{is_utf8, IsUtf8}
use Rattle.std.proofs.lemmas.Str.{is_utf8-from_IsUtf8, IsUtf8-from_is_utf8, IsUtf8-string_bytes}
use Rattle.std.proofs.lemmas.Bool.{cases_Bool}
use Rattle.esc_values.proofs.scalar.text_of.Goals as goal

pub returns-in-Ok : goal.returns-in-Ok
returns-in-Ok g c =
    let e : string_bytes c.in-Ok.string ≡ c.args.bytes.items =
    ap (λ v. v.items) c.in-Ok.ensures.ok in
    let P : List ℕ → Type 0 = λ bs. IsUtf8 bs in
    let held : is_utf8 c.args.bytes.items ≡ true =
    is_utf8-from_IsUtf8 _ (subst P e (IsUtf8-string_bytes c.in-Ok.string)) in
    rw held (ap Some (c.from_string.ensures ∙ e))

pub returns : goal.returns
returns g c =
    elim (cases_Bool (is_utf8 c.args.bytes.items)) [
      | inl held ↦ let bad = c.in-Err.ensures.succeeds (IsUtf8-from_is_utf8 _ held) in cc
      | inr failed ↦ rw failed
    ]
