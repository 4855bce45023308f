-- Groups of actions, and the decisions of a choice of groups.
use Rattle.std.specs.Prelude.{ℕ, ◌≡◌, Bool, true, false, not, ◌==◌, ◌&&◌, ◌||◌, if◌then◌else◌, List, [], ◌∷◌, get_or, set, Option, Some, None}
use Rattle.std.specs.List.{list_all, list_any}
use Rattle.std.specs.Option.{option_map}
use Rattle.esc_sequences.specs.Csis.{CsiValue, sgr, unspecified}
use Rattle.esc_sequences.specs.declared.esc.Esc.{Esc}
use Rattle.esc_values.specs.declared.csi_param.CsiParam.{CsiParam}
use Rattle.control_functions.specs.Escapes.{escape_of_name as escape_named}
use Rattle.control_functions.specs.Functions.{function_of, sequence_key}
use Rattle.control_functions.specs.declared.control_function.ControlFunction.{ControlFunction}
use Rattle.control_functions.specs.declared.control_function.ControlFunction.TheVariants as function
use Rattle.control_functions.specs.declared.escape_function.EscapeFunction.{EscapeFunction}
use Rattle.control_functions.specs.declared.escape_function.EscapeFunction.TheVariants as escape_function
use Rattle.esc_osc.specs.declared.command.OperatingSystemCommand.{OperatingSystemCommand}
use Rattle.esc_osc.specs.declared.command.OperatingSystemCommand.TheVariants as command
use Rattle.esc_actions.specs.ControlCodes.{code_number}
use Rattle.esc_actions.specs.Values.{Value, print, string, control, esc, csi, osc, kitty, sixel}
use Rattle.esc_filter.specs.Addresses.{address_in, has_parts}
use Rattle.esc_filter.specs.Concealed.{conceals}
use Rattle.esc_filter.specs.Rules.{changes_with, escape_changes_with, is_hyperlink, is_layout, is_link, is_palette, is_plain_param, is_shown}
use Rattle.esc_filter.specs.declared.function_groups.TheConstants.{CURSOR, ERASE, ESCAPE_CHARSETS, ESCAPE_CURSOR, ESCAPE_SCROLL, MODES, SCROLL}
use Rattle.esc_filter.specs.declared.group.Group.{Group}
use Rattle.esc_filter.specs.declared.group.Group.TheVariants as group
use Rattle.esc_filter.specs.declared.groups.Groups.{Groups}
use Rattle.esc_filter.specs.declared.policy.Policy.{Policy}
use Rattle.esc_filter.specs.declared.policy.Policy.TheVariants as policy
use Rattle.esc_filter.specs.Schemes.{leads}
use Rattle.esc_filter.specs.contracts.group.Group.{the_type}
use denote.Enum.Declared.{tag_of}

abbrev pub of_print : ℕ → Group
of_print c = if is_shown c then group.Characters else group.Other

abbrev pub of_text : List ℕ → Group
of_text t = if list_all is_shown t then group.Characters else group.Other

-- HT, LF and CR lay out; BEL, BS, VT and FF are controls; SO and SI shift between character sets
abbrev pub of_control : ℕ → Group
of_control n = if is_layout n then group.Layout
    else if (n == 0x07) || ((n == 0x08) || ((n == 0x0b) || (n == 0x0c))) then group.Controls
    else if (n == 0x0e) || (n == 0x0f) then group.Charsets
    else group.Other

-- The functions that change the screen alone, with some parameters or with all. A sequence of SGR
-- is a rendition, whose parameters say its group.
unfoldable pub of_function : ControlFunction → Group
of_function function.CUU = group.Cursor
of_function function.CUD = group.Cursor
of_function function.CUF = group.Cursor
of_function function.CUB = group.Cursor
of_function function.CNL = group.Cursor
of_function function.CPL = group.Cursor
of_function function.CHA = group.Cursor
of_function function.CUP = group.Cursor
of_function function.CHT = group.Cursor
of_function function.CTC = group.Cursor
of_function function.DECST8C = group.Cursor
of_function function.CBT = group.Cursor
of_function function.HPA = group.Cursor
of_function function.HPR = group.Cursor
of_function function.VPA = group.Cursor
of_function function.VPR = group.Cursor
of_function function.HVP = group.Cursor
of_function function.TBC = group.Cursor
of_function function.HPB = group.Cursor
of_function function.VPB = group.Cursor
of_function function.SCOSC = group.Cursor
of_function function.SCORC = group.Cursor
of_function function.DECSCUSR = group.Cursor
of_function function.XTPUSHSGR = group.Cursor
of_function function.XTPOPSGR = group.Cursor
of_function function.XTPUSHSGR_2 = group.Cursor
of_function function.XTPOPSGR_2 = group.Cursor
of_function function.ICH = group.Erase
of_function function.ED = group.Erase
of_function function.DECSED = group.Erase
of_function function.EL = group.Erase
of_function function.DECSEL = group.Erase
of_function function.IL = group.Erase
of_function function.DL = group.Erase
of_function function.DCH = group.Erase
of_function function.ECH = group.Erase
of_function function.REP = group.Erase
of_function function.DECCARA = group.Erase
of_function function.DECRARA = group.Erase
of_function function.DECCRA = group.Erase
of_function function.DECFRA = group.Erase
of_function function.DECERA = group.Erase
of_function function.DECSERA = group.Erase
of_function function.DECIC = group.Erase
of_function function.DECDC = group.Erase
of_function function.SL = group.Scroll
of_function function.SR = group.Scroll
of_function function.SU = group.Scroll
of_function function.SD = group.Scroll
of_function function.KITTYUNSCROLL = group.Scroll
of_function function.DECSTBM = group.Scroll
of_function function.DECSLRM = group.Scroll
of_function function.SM = group.Modes
of_function function.RM = group.Modes
of_function function.DECSET = group.Modes
of_function function.DECRST = group.Modes
of_function function.SGR = group.Cursor
of_function _ = group.Other

unfoldable pub of_escape_function : EscapeFunction → Group
of_escape_function escape_function.DECSC = group.Cursor
of_escape_function escape_function.DECRC = group.Cursor
of_escape_function escape_function.HTS = group.Cursor
of_escape_function escape_function.DECALN = group.Erase
of_escape_function escape_function.DECBI = group.Scroll
of_escape_function escape_function.DECFI = group.Scroll
of_escape_function escape_function.IND = group.Scroll
of_escape_function escape_function.NEL = group.Scroll
of_escape_function escape_function.RI = group.Scroll
of_escape_function escape_function.GZD4 = group.Charsets
of_escape_function escape_function.G1D4 = group.Charsets
of_escape_function escape_function.G2D4 = group.Charsets
of_escape_function escape_function.G3D4 = group.Charsets
of_escape_function escape_function.DECDHLT = group.Charsets
of_escape_function escape_function.DECDHLB = group.Charsets
of_escape_function escape_function.DECSWL = group.Charsets
of_escape_function escape_function.DECDWL = group.Charsets
of_escape_function _ = group.Other

-- the same by the keys of the tables of functions
abbrev pub is_key : List ℕ → ℕ → Bool
is_key ks k = list_any (λ x. x == k) ks

abbrev pub of_key : ℕ → Group
of_key k = if is_key CURSOR k then group.Cursor
    else if is_key ERASE k then group.Erase
    else if is_key SCROLL k then group.Scroll
    else if is_key MODES k then group.Modes
    else group.Other

abbrev pub of_escape_key : ℕ → Group
of_escape_key k = if is_key ESCAPE_CURSOR k then group.Cursor
    else if is_key ESCAPE_SCROLL k then group.Scroll
    else if is_key ESCAPE_CHARSETS k then group.Charsets
    else if k == 0x12338 then group.Erase
    else group.Other

abbrev pub of_named : Option ControlFunction → List CsiParam → Group
of_named None es = group.Other
of_named (Some f) es = if changes_with f es then of_function f else group.Other

abbrev pub of_escape_named : Option EscapeFunction → Esc → Group
of_escape_named None e = group.Other
of_escape_named (Some f) e = if escape_changes_with f e then of_escape_function f else group.Other

abbrev pub of_escape : Esc → Group
of_escape e = of_escape_named (escape_named e) e

abbrev pub of_rendition : List CsiParam → Group
of_rendition es = if conceals es then group.Hidden else group.Sgr

abbrev pub of_body : List CsiParam → ℕ → Group
of_body es f = if (f == 0x6d) && list_all is_plain_param es then of_rendition es
    else of_named (function_of (sequence_key es f)) es

abbrev pub of_sequence : CsiValue → Group
of_sequence (sgr s) = group.Sgr
of_sequence (unspecified es more f) = of_body es f

abbrev pub of_parts : List (List ℕ) → Group
of_parts ps = if has_parts (address_in ps) then group.Links else group.Other

abbrev pub of_other_command : {A : Type 0} → OperatingSystemCommand A → Group
of_other_command (command.SetHyperlink l) = group.Links
of_other_command (command.Unspecified ps) = of_parts ps
of_other_command (command.SetIconNameAndWindowTitle t) = group.Titles
of_other_command (command.SetIconName t) = group.Titles
of_other_command (command.SetIconNameSun t) = group.Titles
of_other_command (command.SetWindowTitle t) = group.Titles
of_other_command (command.SetWindowTitleSun t) = group.Titles
of_other_command (command.ClearSelection s) = group.Clipboard
of_other_command (command.SetSelection s t) = group.Clipboard
of_other_command _ = group.Other

abbrev pub of_command : {A : Type 0} → OperatingSystemCommand A → Group
of_command c = if is_palette c then group.Palette else of_other_command c

-- the group of a value
abbrev pub group_of : {A : Type 0} → Value A → Group
group_of (print c) = of_print c
group_of (string t) = of_text t
group_of (control c) = of_control (code_number c)
group_of (esc e) = of_escape e
group_of (csi c) = of_sequence c
group_of (osc c) = of_command c
group_of (kitty i) = group.Images
group_of (sixel s) = group.Images
group_of _ = group.Other

-- the place of a group in their order
unfoldable pub place : Group → ℕ
place c = tag_of the_type c

-- whether a group is chosen
abbrev pub has : Groups → Group → Bool
has g c = get_or g.allowed (place c) false

-- the choice with this group, or without it
abbrev pub with_group : Groups → Group → Bool → Groups
with_group g c b = record g { allowed = set g.allowed (place c) b }

-- h is the choice g, but for links, which have to have one of these schemes
abbrev pub IsWithSchemes : Groups → List ℕ → Groups → Type 0
IsWithSchemes g s h = (h.allowed ≡ g.allowed) × (option_map (λ b. b.now) h.schemes ≡ Some s)

-- all links, and of the groups, in their order, the first ones
abbrev pub groups_of : Policy → Groups
groups_of policy.Text = record {
  allowed = true ∷ true ∷ false ∷ false ∷ false ∷ false ∷ false ∷ false
      ∷ false ∷ false ∷ false ∷ false ∷ false ∷ false ∷ false ∷ false
      ∷ [];
  schemes = None;
}
groups_of policy.Color = record {
  allowed = true ∷ true ∷ true ∷ true ∷ true ∷ false ∷ false ∷ false
      ∷ false ∷ false ∷ false ∷ false ∷ false ∷ false ∷ false ∷ false
      ∷ [];
  schemes = None;
}
groups_of policy.Screen = record {
  allowed = true ∷ true ∷ true ∷ true ∷ true ∷ true ∷ true ∷ true
      ∷ true ∷ true ∷ true ∷ true ∷ false ∷ false ∷ false ∷ false
      ∷ [];
  schemes = None;
}
groups_of policy.All = record {
  allowed = true ∷ true ∷ true ∷ true ∷ true ∷ true ∷ true ∷ true
      ∷ true ∷ true ∷ true ∷ true ∷ true ∷ true ∷ true ∷ true
      ∷ [];
  schemes = None;
}

-- the value is no link with DEL or a character that deceives, or these pass too
abbrev pub shows : {A : Type 0} → Bool → Value A → Bool
shows all (osc c) = (not (is_hyperlink c) || is_link c) || all
shows all v = true

-- the values that a choice of groups admits: those of its groups, but for links that lead
-- elsewhere, and those with DEL or a character that deceives, if other actions do not pass
abbrev pub admits_groups : {A : Type 0} → Groups → Value A → Bool
admits_groups g v = leads g.schemes v && (shows (has g group.Other) v && has g (group_of v))

-- the same for control sequences
abbrev pub has_sequence : Groups → CsiValue → Bool
has_sequence g c = has g (of_sequence c)
