-- A terminal that hands out the rows that are scrolled off.
use Rattle.std.specs.Prelude.{◌≡◌, ◌+◌, ◌-◌, ◌≤◌, ◌&&◌, nat_le, not, ℕ, Bool, false, true, length, List, [], ◌∷◌, OnErr, OnOk, Result, Some}
use Rattle.std.specs.List.{FoldsTo, list_all}
use Rattle.esc_values.specs.Params.{is_from}
use Rattle.esc_actions.specs.Values.{value_of}
use Rattle.esc_actions.specs.Meaning.{yield_within}
use Rattle.esc_actions.specs.declared.action.Action.{Action}
use Rattle.esc_sequences.specs.Csis.{CsiValue}
use Rattle.typed_functions.specs.Functions.{Value as Function}
use Rattle.esc_screen.specs.Grids.{Size}
use Rattle.esc_screen.specs.Screens.{grid_of, size_of}
use Rattle.esc_screen.specs.Scrolled.{off_from}
use Rattle.esc_screen.specs.declared.cell.Cell.{Cell}
use Rattle.esc_screen.specs.declared.step.Step.{Step}
use Rattle.esc_terminal.specs.Fed.{From, StandsAfter, Takes, TakesAll, TakesIn, TakesSequence, TakesSteps, known_in, shown_in}
use Rattle.esc_terminal.specs.Scrolled.{Row, off_after, off_by_value, with_known}
use Rattle.esc_terminal.specs.Steps.{csi_steps, function_steps}
use Rattle.esc_terminal.specs.Streams.{shown_of}
use Rattle.esc_terminal.specs.declared.keeping.Keeping.{Keeping}
use Rattle.esc_terminal.specs.declared.state.State.{State}
use Rattle.esc_terminal.specs.declared.terminal.Terminal.{Terminal}

-- whether a character is one of ASCII that has a column
abbrev pub has_column : ℕ → Bool
has_column c = is_from 0x20 0x7e c

-- the row of the cursor has columns for so many
abbrev pub has_room : {A : Type 0} → ℕ → State A → Bool
has_room n p = not p.screen.cursor.pending
    && nat_le n (p.screen.max_columns - p.screen.cursor.column)

-- each of these characters has one, and that row has as many
pub record HasColumns {A : Type 0} (cs : List ℕ) (p : State A) : Type 0 where
  pub shown : list_all has_column cs ≡ true
  pub ready : p.screen.cursor.pending ≡ false
  pub fits : length cs ≤ p.screen.max_columns - p.screen.cursor.column

-- these rows are handed out, and nothing else is done
abbrev pub HandsOut : {R A : Type 0} → (R → Row → R → Type 0) → Keeping R A → List (List Cell)
    → Keeping R A → Type 0
HandsOut takes p rs q =
    (q.state ≡ p.state) × FoldsTo takes p.rows (with_known (known_in p.state) rs) q.rows

-- it takes a step, and hands out what that scrolls off
abbrev pub KeepsStep : {R A : Type 0} → (R → Row → R → Type 0) → Keeping R A → Step
    → Keeping R A → Type 0
KeepsStep takes p x q = TakesSteps p.state (x ∷ []) q.state
    × FoldsTo takes p.rows (with_known (known_in p.state)
    (off_from (size_of p.state.screen) (grid_of p.state.screen) (x ∷ []))) q.rows

-- the same of a function
abbrev pub KeepsFunction : {R A : Type 0} → (R → Row → R → Type 0) → Keeping R A → Function
    → Keeping R A → Type 0
KeepsFunction takes p f q = TakesAll p.state f q.state
    × FoldsTo takes p.rows (with_known (known_in p.state)
    (off_from (size_of p.state.screen) (grid_of p.state.screen)
    (function_steps (known_in p.state) p.state.screen.cursor f))) q.rows

-- the same for a control sequence
abbrev pub KeepsSequence : {R A : Type 0} → (R → Row → R → Type 0) → Keeping R A → CsiValue
    → Keeping R A → Type 0
KeepsSequence takes p c q = TakesSequence p.state c q.state
    × FoldsTo takes p.rows (with_known (known_in p.state)
    (off_from (size_of p.state.screen) (grid_of p.state.screen)
    (csi_steps (known_in p.state) p.state.screen.cursor c))) q.rows

-- and of an action
abbrev pub KeepsAction : {R A : Type 0} → (R → Row → R → Type 0) → Keeping R A → Action A
    → Keeping R A → Type 0
KeepsAction takes p a q = Takes p.state a q.state
    × FoldsTo takes p.rows (off_by_value (size_of p.state.screen) (shown_in p.state) (value_of a))
    q.rows

-- the terminal, which was fed s, was fed b too, and handed out what b scrolls off
abbrev pub KeepsIn : {R A : Type 0} → (R → Row → R → Type 0) → Size → List ℕ → List ℕ → R
    → Terminal A → R → Type 0
KeepsIn {A = A} takes z s b old t new = TakesIn z s b t
    × FoldsTo takes old
    (off_after z (shown_of A z s) (yield_within {A = A} (Some 0x1000) s b)) new

-- a terminal goes on from what it shows, and hands out what b scrolls off that; or there is a
-- reason why not
pub record KeepsFrom {R A X E : Type 0} (takes : R → Row → R → Type 0) (p : Terminal A)
    (b : List ℕ) (old : R) (r : Result X E) (why : Type 0) (q : Terminal A) (new : R) : Type 0 where
  pub ok : From p (λ z x s. OnOk r (StandsAfter z x s b q
      × FoldsTo takes old (off_after z x (yield_within {A = A} (Some 0x1000) s b)) new))
  pub refused : From p (λ z x s. OnErr r why)
