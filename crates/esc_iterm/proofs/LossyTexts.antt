-- The lossy text of a text is that text.
use Rattle.std.proofs.Common.{ℕ, ◌≡◌, inl, inr, List, Some}
use Rattle.std.specs.Str.{is_utf8}
use Rattle.std.specs.Str.Lossy.{utf8_lossy}
use Rattle.std.proofs.lemmas.Str.{utf8_lossy-IsUtf8, IsUtf8-from_is_utf8}
use Rattle.std.proofs.lemmas.Bool.{cases_Bool}
use Rattle.esc_values.specs.Scalars.{utf8_of}

pub text_lossy : (t bs : List ℕ) → Some t ≡ utf8_of bs → utf8_lossy bs ≡ t
text_lossy t bs h =
    elim (cases_Bool (is_utf8 bs)) [
      | inl held ↦
          let found : Some t ≡ Some bs = rw held at h in
          let same : bs ≡ t = cc in
          rw (utf8_lossy-IsUtf8 bs (IsUtf8-from_is_utf8 bs held)) same
      | inr failed ↦ let none = rw failed at h in cc
    ]
