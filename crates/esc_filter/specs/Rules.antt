-- The actions that the policies admit.
use Rattle.std.specs.Prelude.{ℕ, ◌≡◌, ◌≢◌, ◌≤◌, Bool, true, false, not, pos, negsuc, ◌==◌, ◌&&◌, ◌||◌, List, [], ◌∷◌, Option, Some, None}
use Rattle.std.specs.List.{list_all, list_any}
use Rattle.std.specs.Str.{chars}
use Rattle.unicode_visibility.specs.Characters.{is_deceiving}
use Rattle.esc_sequences.specs.Csis.{CsiValue, sgr, unspecified}
use Rattle.esc_values.specs.declared.csi_param.CsiParam.{CsiParam}
use Rattle.esc_values.specs.declared.csi_param.CsiParam.TheVariants.{Integer, P}
use Rattle.esc_values.specs.Scalars.{utf8_of}
use Rattle.esc_sequences.specs.declared.esc.Esc.{Esc}
use Rattle.esc_sequences.specs.declared.esc.Esc.TheVariants as esc_variant
use Rattle.control_functions.specs.Controls.{control_of, is_screen as is_screen_c0}
use Rattle.control_functions.specs.Effects.{changes_screen}
use Rattle.control_functions.specs.EscapeEffects.{changes_screen as escape_changes_screen}
use Rattle.control_functions.specs.Escapes.{escape_of_name as escape_named}
use Rattle.control_functions.specs.Functions.{function_of, sequence_key}
use Rattle.control_functions.specs.Modes.{mode_of, is_screen as is_screen_mode}
use Rattle.control_functions.specs.PrivateModes.{mode_of as private_mode_of, is_screen as is_screen_private_mode}
use Rattle.control_functions.specs.declared.control_function.ControlFunction.{ControlFunction}
use Rattle.control_functions.specs.declared.control_function.ControlFunction.TheVariants as function
use Rattle.control_functions.specs.declared.escape_function.EscapeFunction.{EscapeFunction}
use Rattle.control_functions.specs.declared.escape_function.EscapeFunction.TheVariants as escape_function
use Rattle.esc_links.specs.declared.hyperlink.Hyperlink.{Hyperlink}
use Rattle.esc_osc_values.specs.declared.change_color_pair.ChangeColorPair.{ChangeColorPair}
use Rattle.esc_osc_values.specs.declared.color_or_query.ColorOrQuery.{ColorOrQuery}
use Rattle.esc_osc_values.specs.declared.color_or_query.ColorOrQuery.TheVariants as color
use Rattle.esc_osc.specs.declared.command.OperatingSystemCommand.{OperatingSystemCommand}
use Rattle.esc_osc.specs.declared.command.OperatingSystemCommand.TheVariants as command
use Rattle.esc_actions.specs.ControlCodes.{code_number}
use Rattle.esc_actions.specs.Values.{Value, print, string, control, esc, csi, osc}
use Rattle.esc_filter.specs.Addresses.{address_in, has_parts}
use Rattle.esc_filter.specs.declared.policy.Policy.{Policy}
use Rattle.esc_filter.specs.declared.policy.Policy.TheVariants as policy

-- Text: characters, and the controls that lay them out.

-- a character that is shown: any but DEL
abbrev pub is_shown : ℕ → Bool
is_shown c = not (c == 0x7f)

-- tab, line feed or carriage return
abbrev pub is_layout : ℕ → Bool
is_layout n = (n == 0x09) || ((n == 0x0a) || (n == 0x0d))

abbrev pub is_text : {A : Type 0} → Value A → Bool
is_text (print c) = is_shown c
is_text (string t) = list_all is_shown t
is_text (control c) = is_layout (code_number c)
is_text _ = false

-- Color: renditions and links.

-- a number, `;` or `:`, and so neither a private prefix nor an intermediate
abbrev pub is_plain_param : CsiParam → Bool
is_plain_param (Integer n) = true
is_plain_param (P b) = (b == 0x3b) || (b == 0x3a)

-- a graphic rendition: final byte `m`, with plain parameters alone
abbrev pub is_rendition : CsiValue → Bool
is_rendition (sgr s) = true
is_rendition (unspecified es more f) = (f == 0x6d) && list_all is_plain_param es

-- a text without DEL, and without a character that deceives
abbrev pub is_clean : List ℕ → Bool
is_clean t = list_all is_shown t && not (list_any is_deceiving (chars t))

abbrev pub is_clean_pair : List ℕ × List ℕ → Bool
is_clean_pair e = is_clean e.0 && is_clean e.1

-- the end of a link, or a link whose parameters and address are such texts
abbrev pub is_clean_link : {A : Type 0} → Option (Hyperlink A) → Bool
is_clean_link None = true
is_clean_link (Some l) = list_all is_clean_pair l.params && is_clean l.uri

-- bytes that are UTF-8, and such a text
abbrev pub is_clean_text : Option (List ℕ) → Bool
is_clean_text None = false
is_clean_text (Some t) = is_clean t

abbrev pub is_clean_part : List ℕ → Bool
is_clean_part p = is_clean_text (utf8_of p)

-- parts that are those of a link, and such texts
abbrev pub are_clean_link : List (List ℕ) → Bool
are_clean_link ps = has_parts (address_in ps) && list_all is_clean_part ps

-- a link, whatever its parameters and its address are, or the end of one
abbrev pub is_hyperlink : {A : Type 0} → OperatingSystemCommand A → Bool
is_hyperlink (command.SetHyperlink l) = true
is_hyperlink (command.Unspecified ps) = has_parts (address_in ps)
is_hyperlink _ = false

-- the same without DEL, and without a character that deceives
abbrev pub is_link : {A : Type 0} → OperatingSystemCommand A → Bool
is_link (command.SetHyperlink l) = is_clean_link l
is_link (command.Unspecified ps) = are_clean_link ps
is_link _ = false

-- a text that begins with a digit other than 8
abbrev pub BeginsOther : List ℕ → Type 0
BeginsOther t = (b : ℕ) × (rest : List ℕ) × (t ≡ b ∷ rest) × (0x30 ≤ b) × (b ≤ 0x39) × (b ≢ 0x38)

abbrev pub is_color : {A : Type 0} → Value A → Bool
is_color (csi c) = is_rendition c
is_color (osc c) = is_link c
is_color _ = false

-- Screen: actions that move the cursor, erase, scroll, and change the text on the screen.

-- a C0 control that changes the screen alone, or BEL, SO or SI
abbrev pub is_screen_control : ℕ → Bool
is_screen_control n = is_screen_c0 (control_of n)
    || ((n == 0x07) || ((n == 0x0e) || (n == 0x0f)))

-- one parameter, which passes the test
abbrev pub is_lone : (CsiParam → Bool) → List CsiParam → Bool
is_lone test [] = false
is_lone test (e ∷ []) = test e
is_lone test (e ∷ d ∷ es) = false

-- the number of a mode of ECMA-48 that changes the screen alone
abbrev pub is_mode : CsiParam → Bool
is_mode (Integer (pos n)) = is_screen_mode (mode_of n)
is_mode (Integer (negsuc n)) = false
is_mode (P b) = false

-- the number of a private mode that changes the screen alone, or the prefix `?`, or `;`
abbrev pub is_private_mode : CsiParam → Bool
is_private_mode (Integer (pos n)) = is_screen_private_mode (private_mode_of n)
is_private_mode (Integer (negsuc n)) = false
is_private_mode (P b) = (b == 0x3f) || (b == 0x3b)

-- a space, before which there may be a number: a shape of the cursor
abbrev pub is_space : CsiParam → Bool
is_space (Integer n) = false
is_space (P b) = b == 0x20

abbrev pub is_shape : List CsiParam → Bool
is_shape [] = false
is_shape (Integer n ∷ es) = is_lone is_space es
is_shape (P b ∷ es) = is_lone is_space (P b ∷ es)

-- whether a function with these parameters changes the screen alone. Modes do if one is set or
-- reset, and private modes if the table of modes says so of all; a shape of the cursor does if it
-- is one number. For any other function its row says it, whatever its parameters are
unfoldable pub changes_with : ControlFunction → List CsiParam → Bool
changes_with function.SM es = is_lone is_mode es
changes_with function.RM es = is_lone is_mode es
changes_with function.DECSET es = list_all is_private_mode es
changes_with function.DECRST es = list_all is_private_mode es
changes_with function.DECSCUSR es = is_shape es
changes_with f es = changes_screen f

abbrev pub is_screen_function : Option ControlFunction → List CsiParam → Bool
is_screen_function None es = false
is_screen_function (Some f) es = changes_with f es

abbrev pub is_screen_body : List CsiParam → ℕ → Bool
is_screen_body es f = is_screen_function (function_of (sequence_key es f)) es

abbrev pub is_screen_sequence : CsiValue → Bool
is_screen_sequence (sgr s) = true
is_screen_sequence (unspecified es more f) = is_screen_body es f

-- the character sets `0`, `A` and `B`: graphics of DEC, United Kingdom and US-ASCII
abbrev pub is_common_set : Esc → Bool
is_common_set (esc_variant.Unspecified i f) = (f == 0x30) || ((f == 0x41) || (f == 0x42))
is_common_set (esc_variant.Code c) = false

-- whether an escape sequence of this function changes the screen alone: the designation of G0 to G3
-- if the set is one of these, and any other if its row says so
unfoldable pub escape_changes_with : EscapeFunction → Esc → Bool
escape_changes_with escape_function.GZD4 e = is_common_set e
escape_changes_with escape_function.G1D4 e = is_common_set e
escape_changes_with escape_function.G2D4 e = is_common_set e
escape_changes_with escape_function.G3D4 e = is_common_set e
escape_changes_with f e = escape_changes_screen f

abbrev pub is_escape_function : Option EscapeFunction → Esc → Bool
is_escape_function None e = false
is_escape_function (Some f) e = escape_changes_with f e

abbrev pub is_screen_escape : Esc → Bool
is_screen_escape e = is_escape_function (escape_named e) e

-- a colour, and no question for one
abbrev pub is_set : ColorOrQuery → Bool
is_set (color.Color c) = true
is_set color.Query = false

abbrev pub is_set_pair : ChangeColorPair → Bool
is_set_pair p = is_set p.color

-- changes of colours that ask for none
abbrev pub is_palette : {A : Type 0} → OperatingSystemCommand A → Bool
is_palette (command.ChangeColorNumber ps) = list_all is_set_pair ps
is_palette (command.ChangeDynamicColors n cs) = list_all is_set cs
is_palette (command.ResetDynamicColor n) = true
is_palette (command.ResetColors ns) = true
is_palette _ = false

abbrev pub is_screen : {A : Type 0} → Value A → Bool
is_screen (control c) = is_screen_control (code_number c)
is_screen (esc e) = is_screen_escape e
is_screen (csi c) = is_screen_sequence c
is_screen (osc c) = is_palette c
is_screen _ = false

-- the values that a policy admits: each admits all that the one before it does
abbrev pub admits : {A : Type 0} → Policy → Value A → Bool
admits policy.Text v = is_text v
admits policy.Color v = is_text v || is_color v
admits policy.Screen v = is_text v || (is_color v || is_screen v)
admits policy.All v = true
