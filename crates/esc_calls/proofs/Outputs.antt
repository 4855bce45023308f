-- The output of a call that puts a text into a buffer, or says why there is none.
use Rattle.std.proofs.Common.{ℕ, ◌≡◌, List, Result, Ok, Err, IfOk, IfErr, sym, subst, ◌∙◌}
use Rattle.esc_calls.specs.Output.{Puts, Writes}
use Rattle.esc_calls.specs.Written.{status_of}
use Rattle.esc_calls.specs.declared.TheConstants.{DONE}
use Rattle.esc_calls.specs.declared.refusal.Refusal.{Refusal}
use Rattle.esc_calls.specs.declared.refusal.Refusal.TheVariants as refusal

not_done : (e : Refusal) → status_of e ≡ DONE → ⊥
not_done refusal.NoCommand is = absurd cc
not_done refusal.NotWritable is = absurd cc
not_done refusal.NoMemory is = absurd cc

pub writes_text : (w : Result (List ℕ) Refusal) (P : List ℕ → Type 0) (R : ℕ → Type 0) (status : ℕ)
    (before after : List ℕ × ℕ) → IfOk w P → IfErr w (λ e. R (status_of e))
    → IfOk w (λ t. (status ≡ DONE) × Puts t before.0 after.0 after.1)
    → IfErr w (λ e. (status ≡ status_of e) × (after.0 ≡ before.0) × (after.1 ≡ before.1))
    → Writes P R status before after
writes_text (Ok t) P R status before after holds why put unchanged = record {
  written = λ done. (t, holds, put.1);
  refused = λ differs. absurd (differs put.0);
}
writes_text (Err e) P R status before after holds why put unchanged = record {
  written = λ done. absurd (not_done e (sym unchanged.0 ∙ done));
  refused = λ differs. (subst R (sym unchanged.0) why, unchanged.1, unchanged.2);
}
