-- The meaning of a parser's numbers.
use Rattle.std.specs.Prelude.{ℕ, ◌==◌, if◌then◌else◌, List, [], ◌∷◌}
use Rattle.esc_frame.specs.declared.unfinished.body.Form.{Form}
use Rattle.esc_frame.specs.declared.unfinished.body.Form.TheVariants as form
use Rattle.esc_frame.specs.declared.machine.State.{State}
use Rattle.esc_frame.specs.declared.machine.State.TheVariants as state

abbrev pub state_numbered : ℕ → State
state_numbered n =
    if n == 1 then state.Escape else if n == 2 then state.Csi else if n == 3 then state.Osc else if
    n == 4 then state.Dcs
    else if n == 5 then state.Data else if n == 6 then state.Ignored else if n == 7
    then state.Apc else
    state.Ground

abbrev pub form_numbered : ℕ → Form
form_numbered n = if n == 1 then form.Parameters else if n == 2 then form.Intermediates else if
    n == 3 then form.Malformed else form.Empty

-- the bytes of a character that have come, by their number
abbrev pub begun_bytes : ℕ → ℕ → ℕ → ℕ → List ℕ
begun_bytes count a b c = if count == 1 then a ∷ [] else if count == 2 then a ∷ b
    ∷ [] else if count == 3 then a ∷ b ∷ c ∷ [] else []
