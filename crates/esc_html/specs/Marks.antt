-- The characters of a stream, with the looks and the links that hold for them.
use Rattle.std.specs.Prelude.{ℕ, ◌==◌, ◌-◌, Bool, true, false, not, ◌&&◌, ◌||◌, if◌then◌else◌, List, [], ◌∷◌, ◌++◌, Option, Some, None}
use Rattle.std.specs.List.{list_all}
use Rattle.esc_actions.specs.ControlCodes.{code_number}
use Rattle.esc_actions.specs.Values.{Value, print, control, esc, csi, osc}
use Rattle.esc_links.specs.declared.hyperlink.Hyperlink.{Hyperlink}
use Rattle.esc_osc.specs.declared.command.OperatingSystemCommand.{OperatingSystemCommand}
use Rattle.esc_osc.specs.declared.command.OperatingSystemCommand.TheVariants as command
use Rattle.esc_sequences.specs.declared.esc.Esc.{Esc}
use Rattle.esc_sequences.specs.declared.esc.Esc.TheVariants.{Unspecified}
use Rattle.typed_functions.specs.Functions.{Value as Function, renditions, of_csi}
use Rattle.esc_values.specs.Clear.{semicolon_list}
use Rattle.esc_html.specs.Addresses.{address_in, is_safe_address, is_safe_in_parts}
use Rattle.esc_html.specs.Characters.{shown_as}
use Rattle.esc_style.specs.Looks.{look_by_all, plain_look}
use Rattle.esc_html.specs.PageParts.{is_unbroken}
use Rattle.esc_style.specs.declared.look.Look.{Look}

-- the state for the next characters: their look, the address that they lead to, on how many more
-- lines they may, if tags are closed at the end of each, and whether looks are declarations alone
pub record Pen : Type 0 where
  pub look : Look
  pub link : Option (List ℕ)
  pub lines : ℕ
  pub inline : Bool

-- at first
abbrev pub plain_pen : Bool → Pen
plain_pen b = record {
  look = plain_look;
  link = None;
  lines = 0;
  inline = b;
}

-- an address that a page may lead to
abbrev pub is_page_address : List ℕ → Bool
is_page_address a = is_safe_address a && list_all is_unbroken a

abbrev pub address_if : Bool → List ℕ → Option (List ℕ)
address_if true a = Some a
address_if false a = None

-- the target of a link of the stream in the page: none, if its address is not safe
abbrev pub address_of : {A : Type 0} → Option (Hyperlink A) → Option (List ℕ)
address_of None = None
address_of (Some h) = address_if (is_page_address h.uri) h.uri

-- the target of the characters after a link with an address of these parts, if there are any
abbrev pub lead_to : List (List ℕ) → Option (Option (List ℕ))
lead_to [] = None
lead_to (u ∷ us) = Some (address_if (is_safe_in_parts (u ∷ us)) (semicolon_list (u ∷ us)))

-- the target of the characters after a command, if it says one
abbrev pub lead_by : {A : Type 0} → OperatingSystemCommand A → Option (Option (List ℕ))
lead_by (command.SetHyperlink h) = Some (address_of h)
lead_by (command.Unspecified ps) = lead_to (address_in ps)
lead_by _ = None

-- the effect of a value: another look holds from here on, or another address, a character is shown,
-- or nothing
pub data Step : Type 0 where
  restyles : Look → Step
  redirects : Option (List ℕ) → Step
  shows : ℕ → Step
  nothing : Step

-- a printed character is shown, with U+FFFD in the place of noncharacters, but not DEL, for which
-- terminals show nothing
abbrev pub print_step : ℕ → Step
print_step c = if c == 0x7f then nothing else shows (shown_as c)

-- a control that begins a line: line feed, line tabulation, form feed, and IND and NEL of C1
abbrev pub begins_line : ℕ → Bool
begins_line n = n == 0x0a || n == 0x0b || n == 0x0c || n == 0x84 || n == 0x85

-- the same two in a 7-bit code, as ESC D and ESC E
abbrev pub escape_begins_line : Esc → Bool
escape_begins_line (Unspecified None c) = c == 0x44 || c == 0x45
escape_begins_line _ = false

-- a tab is shown, a line feed for each control that begins a line, and no other control
abbrev pub control_step : ℕ → Step
control_step n = if n == 0x09 then shows n
    else if begins_line n then shows 0x0a
    else nothing

abbrev pub escape_step : Esc → Step
escape_step e = if escape_begins_line e then shows 0x0a else nothing

abbrev pub with_look : Pen → Look → Pen
with_look p l = record p { look = l }

-- the number of lines after its first one on which a link is opened, if tags are closed at the end
-- of each line
abbrev pub more_lines : ℕ
more_lines = 15

abbrev pub with_link : Pen → Option (List ℕ) → Pen
with_link p k = record p { link = k; lines = more_lines }

-- at the beginning of the next line, if tags are closed at the end of each
abbrev pub next_line : Pen → Pen
next_line p = if p.lines == 0 then record p { link = None } else record p { lines = p.lines - 1 }

abbrev pub function_step : Pen → Function → Step
function_step p (renditions rs) = restyles (look_by_all p.look rs)
function_step p _ = nothing

abbrev pub lead_step : Option (Option (List ℕ)) → Step
lead_step None = nothing
lead_step (Some k) = redirects k

abbrev pub command_step : {A : Type 0} → Pen → OperatingSystemCommand A → Step
command_step p c = lead_step (lead_by c)

abbrev pub step_of : {A : Type 0} → Pen → Value A → Step
step_of p (print c) = print_step c
step_of p (control c) = control_step (code_number c)
step_of p (esc e) = escape_step e
step_of p (csi c) = function_step p (of_csi c)
step_of p (osc c) = command_step p c
step_of p _ = nothing

-- ---- values that leave something in a page

abbrev pub is_shown_control : ℕ → Bool
is_shown_control n = n == 0x09 || begins_line n

abbrev pub is_shown_function : Function → Bool
is_shown_function (renditions rs) = true
is_shown_function _ = false

-- a link to an address that a page may lead to, or the end of one
abbrev pub leads : {A : Type 0} → Option (Hyperlink A) → Bool
leads None = true
leads (Some h) = is_page_address h.uri

abbrev pub is_shown_command : {A : Type 0} → OperatingSystemCommand A → Bool
is_shown_command (command.SetHyperlink h) = leads h
is_shown_command (command.Unspecified ps) = is_safe_in_parts (address_in ps)
is_shown_command _ = false

-- a page shows the value, or the look or the link that holds after it
abbrev pub is_shown : {A : Type 0} → Value A → Bool
is_shown (print c) = not (c == 0x7f)
is_shown (control c) = is_shown_control (code_number c)
is_shown (esc e) = escape_begins_line e
is_shown (csi c) = is_shown_function (of_csi c)
is_shown (osc c) = is_shown_command c
is_shown _ = false

-- ---- values, one after another

-- a line feed ends a line, if the open tags are closed at the end of each
abbrev pub ends_line : Bool → ℕ → Bool
ends_line per_line c = per_line && c == 0x0a

-- the pen after a character, which ends a line or not
abbrev pub pen_after : Bool → Pen → Pen
pen_after true p = next_line p
pen_after false p = p

-- the pen after a step
abbrev pub pen_by : Bool → Pen → Step → Pen
pen_by per_line p (restyles l) = with_look p l
pen_by per_line p (redirects k) = with_link p k
pen_by per_line p (shows c) = pen_after (ends_line per_line c) p
pen_by per_line p nothing = p

-- the pen that holds for a character: the first one for a line feed that ends a line
abbrev pub pen_at : Bool → Pen → Pen
pen_at true p = plain_pen p.inline
pen_at false p = p

-- the character of a step
abbrev pub marked_character : Bool → Pen → Step → List (ℕ × Pen)
marked_character per_line p (shows c) = (c, pen_at (ends_line per_line c) p) ∷ []
marked_character per_line p (restyles l) = []
marked_character per_line p (redirects k) = []
marked_character per_line p nothing = []

-- the characters of values with the state for each, if this pen holds before them
abbrev pub marks : {A : Type 0} → Bool → Pen → List (Value A) → List (ℕ × Pen)
marks per_line p [] = []
marks per_line p (v ∷ vs) =
    marked_character per_line p (step_of p v) ++ marks per_line (pen_by per_line p (step_of p v)) vs
