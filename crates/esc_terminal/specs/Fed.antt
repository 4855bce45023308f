-- Streams that were fed to a terminal.
use Rattle.std.specs.Prelude.{ℕ, ◌≡◌, false, true, List, [], ◌++◌, IsErr, IsSomeAnd, None, OnErr, OnOk, Option, Result, Some}
use Rattle.esc_actions.specs.Meaning.{yield_within}
use Rattle.esc_actions.specs.Values.{Value, value_of}
use Rattle.esc_actions.specs.declared.action.Action.{Action}
use Rattle.esc_terminal.specs.Links.{Known, known_of}
use Rattle.esc_parse.specs.Fed.{ParserHasConsumedWithin}
use Rattle.esc_sequences.specs.Csis.{CsiValue}
use Rattle.typed_functions.specs.Functions.{Value as Function, of_csi}
use Rattle.esc_screen.specs.Grids.{Size}
use Rattle.esc_screen.specs.Screens.{Becomes, grid_of, size_of}
use Rattle.esc_screen.specs.Steps.{grid_from}
use Rattle.esc_screen.specs.declared.screen.Screen.{Screen}
use Rattle.esc_screen.specs.declared.step.Step.{Step}
use Rattle.esc_terminal.specs.Requests.{function_request, request_list, requests_of}
use Rattle.esc_terminal.specs.Steps.{csi_steps, function_known, function_steps, known_by, steps_of}
use Rattle.esc_terminal.specs.Streams.{Names, Shown, asked_by, names_by, shown_after, shown_of}
use Rattle.esc_terminal.specs.declared.request.Request.{Request}
use Rattle.esc_terminal.specs.declared.state.State.{State}
use Rattle.esc_terminal.specs.declared.styles.Styles.{Styles}
use Rattle.esc_terminal.specs.declared.terminal.Terminal.{Terminal}

-- the looks and links that are known, and the requests since they were cleared
abbrev pub known_in : {A : Type 0} → State A → Known
known_in p = known_of p.styles

abbrev pub requests_in : {A : Type 0} → State A → List Request
requests_in p = p.requests.items

abbrev pub names_in : {A : Type 0} → State A → Names
names_in p = record {
  title = p.title;
  icon_name = p.icon_name;
}

abbrev pub shown_in : {A : Type 0} → State A → Shown
shown_in p = record {
  grid = grid_of p.screen;
  known = known_in p;
  names = names_in p;
}

-- The screen takes these steps, so much is known, the names are these, and these requests are
-- added.
pub record Does {A : Type 0} (p : State A) (xs : List Step) (ks : Known)
    (n : Names) (rs : List Request) (q : State A) : Type 0 where
  pub screen : Becomes p.screen (grid_from (size_of p.screen) (grid_of p.screen) xs) q.screen
  pub known : known_in q ≡ ks
  pub names : names_in q ≡ n
  pub requests : requests_in q ≡ requests_in p ++ rs

-- it takes steps alone
abbrev pub TakesSteps : {A : Type 0} → State A → List Step → State A → Type 0
TakesSteps p xs q = Does p xs (known_in p) (names_in p) [] q

-- it takes what a function does to the screen
abbrev pub TakesFunction : {A : Type 0} → State A → Function → State A → Type 0
TakesFunction p f q = Does p (function_steps (known_in p) p.screen.cursor f)
    (function_known (known_in p) p.screen.cursor f) (names_in p) [] q

-- and what it asks for too
abbrev pub TakesAll : {A : Type 0} → State A → Function → State A → Type 0
TakesAll p f q = Does p (function_steps (known_in p) p.screen.cursor f)
    (function_known (known_in p) p.screen.cursor f) (names_in p)
    (request_list (function_request f)) q

-- and so does a control sequence
abbrev pub TakesSequence : {A : Type 0} → State A → CsiValue → State A → Type 0
TakesSequence p c q = Does p (csi_steps (known_in p) p.screen.cursor c)
    (function_known (known_in p) p.screen.cursor (of_csi c)) (names_in p)
    (request_list (function_request (of_csi c))) q

-- a value does what its steps do
abbrev pub TakesValue : {A : Type 0} → State A → Value A → State A → Type 0
TakesValue p v q = Does p (steps_of (known_in p) p.screen.cursor v)
    (known_by (known_in p) p.screen.cursor v) (names_by (names_in p) v) (requests_of v) q

-- and so does an action
abbrev pub Takes : {A : Type 0} → State A → Action A → State A → Type 0
Takes p a q = TakesValue p (value_of a) q

-- it shows this stream
pub record Shows {A : Type 0} (z : Size) (s : List ℕ) (p : State A) : Type 0 where
  pub shown : shown_in p ≡ shown_of A z s
  pub size : size_of p.screen ≡ z

-- the terminal, of this size, was fed these bytes
pub record HasConsumed {A : Type 0} (z : Size) (s : List ℕ) (t : Terminal A) : Type 0 where
  pub parser : ParserHasConsumedWithin (Some 0x1000) s t.parser
  pub state : IsSomeAnd t.state (Shows z s)

-- so many columns and rows
abbrev pub screen_size : ℕ → ℕ → Size
screen_size columns rows = record {
  rows = rows;
  columns = columns;
  returns = false;
}

-- and LF returns to the first column
abbrev pub for_log : ℕ → ℕ → Size
for_log columns rows = record (screen_size columns rows) { returns = true }

-- an earlier call was refused memory
abbrev pub IsBroken : {A : Type 0} → Terminal A → Type 0
IsBroken t = t.state ≡ None

-- the requests of the last call
abbrev pub asked_in : {A : Type 0} → Option (State A) → List Request
asked_in None = []
asked_in (Some p) = requests_in p

abbrev pub requests_now : {A : Type 0} → Terminal A → List Request
requests_now t = asked_in t.state

-- its screen, and how the cells of that look
abbrev pub screen_in : {A : Type 0} → Option (State A) → Option (Screen A)
screen_in None = None
screen_in (Some p) = Some p.screen

abbrev pub styles_in : {A : Type 0} → Option (State A) → Option (Styles A)
styles_in None = None
styles_in (Some p) = Some p.styles

-- its title
abbrev pub title_in : {A : Type 0} → Option (State A) → Option (List ℕ)
title_in None = None
title_in (Some p) = p.title

-- and the name of its icon
abbrev pub icon_name_in : {A : Type 0} → Option (State A) → Option (List ℕ)
icon_name_in None = None
icon_name_in (Some p) = p.icon_name

-- this holds of each stream that the terminal may have been fed
abbrev pub After : {A : Type 0} → Terminal A → (Size → List ℕ → Type 0) → Type 0
After t C = (z : Size) (s : List ℕ) → HasConsumed z s t → C z s

-- the terminal, which was fed s, was fed b too, and has the requests that b adds
abbrev pub TakesIn : {A : Type 0} → Size → List ℕ → List ℕ → Terminal A → Type 0
TakesIn {A} z s b t = HasConsumed z (s ++ b) t
    × (requests_now t ≡ asked_by (yield_within {A = A} (Some 0x1000) s b))

-- ---- from a screen, as after a change of its size

-- it shows this on a screen of this size
pub record IsShown {A : Type 0} (z : Size) (x : Shown) (p : State A) : Type 0 where
  pub shown : shown_in p ≡ x
  pub size : size_of p.screen ≡ z

-- the terminal, of this size, has read these bytes and shows this
pub record Stands {A : Type 0} (z : Size) (x : Shown) (s : List ℕ) (t : Terminal A) : Type 0 where
  pub parser : ParserHasConsumedWithin (Some 0x1000) s t.parser
  pub state : IsSomeAnd t.state (IsShown z x)

-- this holds of all that the terminal may show
abbrev pub From : {A : Type 0} → Terminal A → (Size → Shown → List ℕ → Type 0) → Type 0
From t C = (z : Size) (x : Shown) (s : List ℕ) → Stands z x s t → C z x s

-- it has read b too, shows what b makes of that, and has the requests that b adds
abbrev pub StandsAfter : {A : Type 0} → Size → Shown → List ℕ → List ℕ → Terminal A → Type 0
StandsAfter {A} z x s b t =
    Stands z (shown_after z x (yield_within {A = A} (Some 0x1000) s b)) (s ++ b) t
    × (requests_now t ≡ asked_by (yield_within {A = A} (Some 0x1000) s b))

-- a terminal goes on from what it shows, or there is a reason why not
pub record GoesOnFrom {A X E : Type 0} (p : Terminal A) (b : List ℕ) (r : Result X E)
    (why : Type 0) (q : Terminal A) : Type 0 where
  pub ok : From p (λ z x s. OnOk r (StandsAfter z x s b q))
  pub refused : From p (λ z x s. OnErr r why)

-- an error ends the terminal
pub record Ends {A X E : Type 0} (p : Terminal A) (r : Result X E) (q : Terminal A) : Type 0 where
  -- it is broken then
  pub broken : OnErr r (IsBroken q)
  -- a broken one stays so, and returns an error
  pub failed : IsBroken p → IsErr r × IsBroken q
