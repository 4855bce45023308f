use Rattle.std.proofs.Common.{◌≡◌, List, ℕ, MatchResult, Result, Ok, Err, inl, inr}
use Rattle.std.specs.Option.{option_map}
use Rattle.std.specs.Result.{result_ok}
use Rattle.std.specs.Str.{IsUtf8, is_utf8}
use Rattle.std.proofs.lemmas.Str.{is_utf8-from_IsUtf8, IsUtf8-from_is_utf8}
use Rattle.std.proofs.lemmas.Bool.{cases_Bool}
use Rattle.esc_values.specs.Scalars.{utf8_of}
use Rattle.esc_values.proofs.scalar.text_in.Goals as goal

text_from_cases : {X E : Type 0} (now : X → List ℕ) (Q : E → Type 0) (bs : List ℕ) (r : Result X E)
    → MatchResult r (λ s. (now s ≡ bs) × IsUtf8 bs) (λ e. (IsUtf8 bs → ⊥) × Q e)
    → option_map now (result_ok r) ≡ utf8_of bs
text_from_cases now Q bs (Ok s) h = rw (h.0, is_utf8-from_IsUtf8 bs h.1)
text_from_cases now Q bs (Err e) h =
    elim (cases_Bool (is_utf8 bs)) [
      | inl held ↦ absurd (h.0 (IsUtf8-from_is_utf8 bs held))
      | inr failed ↦ rw failed
    ]

pub returns : goal.returns
returns c = rw c.ok.ensures.value (text_from_cases (λ t. t.now) _ c.args.bytes.now
    c.from_utf8.result c.from_utf8.ensures.cases)
