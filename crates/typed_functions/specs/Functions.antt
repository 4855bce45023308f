-- The typed values of control sequences.
use Rattle.std.specs.Prelude.{ℕ, ◌==◌, true, false, if◌then◌else◌, List, [], ◌∷◌, Option, Some, None, Result, Ok, Err}
use Rattle.esc_values.specs.declared.csi_param.CsiParam.{CsiParam}
use Rattle.esc_values.specs.declared.csi_param.CsiParam.TheVariants.{P}
use Rattle.esc_sequences.specs.Csis.{CsiValue, sgr, unspecified}
use Rattle.esc_sequences.specs.declared.intensity.Intensity.TheVariants as intensity
use Rattle.esc_sequences.specs.declared.sgr.Sgr.{Sgr}
use Rattle.esc_sequences.specs.declared.sgr.Sgr.TheVariants as known
use Rattle.esc_sequences.specs.declared.underline.Underline.TheVariants as underline
use Rattle.control_functions.specs.declared.control_function.ControlFunction.{ControlFunction}
use Rattle.control_functions.specs.declared.control_function.ControlFunction.TheVariants as control
use Rattle.control_functions.specs.Functions.{function_of, sequence_key}
use Rattle.typed_functions.specs.declared.arguments.Arguments.{Arguments}
use Rattle.typed_functions.specs.declared.arguments.Arguments.TheVariants as args
use Rattle.typed_functions.specs.declared.arguments.Kind.{Kind}
use Rattle.typed_functions.specs.declared.arguments.Kind.TheVariants as kind
use Rattle.typed_functions.specs.declared.charset.Charset.{Charset}
use Rattle.typed_functions.specs.declared.cursor.Cursor.{Cursor}
use Rattle.typed_functions.specs.declared.cursor.Cursor.TheVariants as cursors
use Rattle.typed_functions.specs.declared.device.Device.{Device}
use Rattle.typed_functions.specs.declared.device.Device.TheVariants as devices
use Rattle.typed_functions.specs.declared.edit.Edit.{Edit}
use Rattle.typed_functions.specs.declared.edit.Edit.TheVariants as edits
use Rattle.typed_functions.specs.declared.escape.Escape.{Escape}
use Rattle.typed_functions.specs.declared.keyboard.Keyboard.{Keyboard}
use Rattle.typed_functions.specs.declared.keyboard.Keyboard.TheVariants as keyboards
use Rattle.typed_functions.specs.declared.mouse.Mouse.{Mouse}
use Rattle.typed_functions.specs.declared.mouse.Mouse.TheVariants as mouses
use Rattle.typed_functions.specs.declared.mode_change.ModeChange.{ModeChange}
use Rattle.typed_functions.specs.declared.mode_change.ModeChange.TheVariants as change
use Rattle.typed_functions.specs.declared.mode_state.ModeState.{ModeState}
use Rattle.typed_functions.specs.declared.mode_status.ModeStatus.{ModeStatus}
use Rattle.typed_functions.specs.declared.mode_status.ModeStatus.TheVariants as statuses
use Rattle.typed_functions.specs.declared.window.Window.{Window}
use Rattle.typed_functions.specs.declared.function.Function.{Function}
use Rattle.typed_functions.specs.declared.function.Function.TheVariants as function
use Rattle.typed_functions.specs.declared.one_based.Ordinal.{Ordinal}
use Rattle.typed_functions.specs.declared.rendition.Rendition.{Rendition}
use Rattle.typed_functions.specs.declared.tab_change.TabChange.{TabChange}
use Rattle.typed_functions.specs.declared.tab_change.TabChange.TheVariants as tab
use Rattle.typed_functions.specs.declared.unfit.Unfit.{Unfit}
use Rattle.typed_functions.specs.declared.unfit.Unfit.TheVariants as unfit
use Rattle.typed_functions.specs.Arguments.{after_prefix, arguments, in_range}
use Rattle.typed_functions.specs.Choices.{cursor_style_at, cursor_tabulation_control_at, erase_in_display_at, erase_in_line_at, kitty_flags_change_at, mode_state_at, tabulation_clear_at}
use Rattle.typed_functions.specs.Renditions.{number}
use Rattle.typed_functions.specs.Selections.{renditions_left, modes_left, mode_numbers, selections, whole_entries}
use Rattle.typed_functions.specs.Windows.{operation}

-- a typed value, without the place of its parameters in memory
pub data Value : Type 0 where
  cursor : Cursor → Value
  edit : Edit → Value
  device : Device → Value
  keyboard : Keyboard → Value
  mouse : Mouse → Value
  window : Window → Value
  mode_status : ModeStatus → Value
  charset : Charset → Value
  escape : Escape → Value
  modes : ModeChange → List (Option ℕ × List CsiParam) → Value
  tabs : TabChange → List (Option ℕ × List CsiParam) → Value
  renditions : List (Option Rendition × List CsiParam) → Value
  other : Unfit → Value

abbrev pub value_of : Function → Value
value_of (function.Cursor c) = cursor c
value_of (function.Edit e) = edit e
value_of (function.Device d) = device d
value_of (function.Keyboard k) = keyboard k
value_of (function.Mouse m) = mouse m
value_of (function.Window w) = window w
value_of (function.ModeStatus s) = mode_status s
value_of (function.Charset c) = charset c
value_of (function.Escape e) = escape e
value_of (function.Mode c ms) = modes c (modes_left ms)
value_of (function.Tabs c ns) = tabs c (modes_left ns)
value_of (function.Sgr r) = renditions (renditions_left r)
value_of (function.Other u) = other u

-- the parameters of a function, if it has a typed value
abbrev pub kind_of : ControlFunction → Option Kind
kind_of control.CUU = Some kind.Count
kind_of control.CUD = Some kind.Count
kind_of control.CUF = Some kind.Count
kind_of control.CUB = Some kind.Count
kind_of control.CNL = Some kind.Count
kind_of control.CPL = Some kind.Count
kind_of control.CHA = Some kind.Count
kind_of control.CHT = Some kind.Count
kind_of control.CVT = Some kind.Count
kind_of control.CBT = Some kind.Count
kind_of control.HPA = Some kind.Count
kind_of control.HPR = Some kind.Count
kind_of control.VPA = Some kind.Count
kind_of control.VPR = Some kind.Count
kind_of control.HPB = Some kind.Count
kind_of control.VPB = Some kind.Count
kind_of control.ICH = Some kind.Count
kind_of control.IL = Some kind.Count
kind_of control.DL = Some kind.Count
kind_of control.DCH = Some kind.Count
kind_of control.SU = Some kind.Count
kind_of control.SD = Some kind.Count
kind_of control.ECH = Some kind.Count
kind_of control.REP = Some kind.Count
kind_of control.SL = Some kind.Count
kind_of control.SR = Some kind.Count
kind_of control.DECIC = Some kind.Count
kind_of control.DECDC = Some kind.Count
kind_of control.KITTYPOP = Some kind.Count
kind_of control.CUP = Some kind.Place
kind_of control.HVP = Some kind.Place
kind_of control.CPR = Some kind.Place
kind_of control.TBC = Some kind.Selectors
kind_of control.CTC = Some kind.Selectors
kind_of control.DECSCUSR = Some kind.Selector
kind_of control.ED = Some kind.Selector
kind_of control.EL = Some kind.Selector
kind_of control.DECSED = Some kind.Selector
kind_of control.DECSEL = Some kind.Selector
kind_of control.DSR = Some kind.Selector
kind_of control.KITTYPUSH = Some kind.Selector
kind_of control.DECSTBM = Some kind.Margins
kind_of control.DECSLRM = Some kind.Margins
kind_of control.SCOSC = Some kind.Nothing
kind_of control.SCORC = Some kind.Nothing
kind_of control.DECSTR = Some kind.Nothing
kind_of control.KITTYQUERY = Some kind.Nothing
kind_of control.DA1 = Some kind.Zero
kind_of control.DA2 = Some kind.Zero
kind_of control.DA3 = Some kind.Zero
kind_of control.XTVERSION = Some kind.Zero
kind_of control.KITTYSET = Some kind.Flags
kind_of control.MOUSE = Some kind.Report
kind_of control.MOUSEUP = Some kind.Report
kind_of control.XTWINOPS = Some kind.Numbers
kind_of control.DECRQM_ANSI = Some kind.Numbers
kind_of control.DECRQM = Some kind.Numbers
kind_of control.DECRPM_ANSI = Some kind.Numbers
kind_of control.DECRPM = Some kind.Numbers
kind_of control.SM = Some kind.Modes
kind_of control.RM = Some kind.Modes
kind_of control.DECSET = Some kind.Modes
kind_of control.DECRST = Some kind.Modes
kind_of control.XTSAVE = Some kind.Modes
kind_of control.XTRESTORE = Some kind.Modes
kind_of control.SGR = Some kind.Renditions
kind_of _ = None

abbrev pub bare : ControlFunction → Value
bare control.SCOSC = cursor cursors.SaveCursor
bare control.SCORC = cursor cursors.RestoreCursor
bare control.DECSTR = device devices.SoftReset
bare control.KITTYQUERY = keyboard keyboards.QueryKittySupport
bare control.DA1 = device devices.RequestPrimaryDeviceAttributes
bare control.DA2 = device devices.RequestSecondaryDeviceAttributes
bare control.DA3 = device devices.RequestTertiaryDeviceAttributes
bare control.XTVERSION = device devices.RequestTerminalNameAndVersion
bare _ = other unfit.Untyped

abbrev pub count_value : ControlFunction → Ordinal → Value
count_value control.CUU n = cursor (cursors.Up n)
count_value control.CUD n = cursor (cursors.Down n)
count_value control.CUF n = cursor (cursors.Right n)
count_value control.CUB n = cursor (cursors.Left n)
count_value control.CNL n = cursor (cursors.NextLine n)
count_value control.CPL n = cursor (cursors.PrecedingLine n)
count_value control.CHA n = cursor (cursors.CharacterAbsolute n)
count_value control.CHT n = cursor (cursors.ForwardTabulation n)
count_value control.CVT n = cursor (cursors.LineTabulation n)
count_value control.CBT n = cursor (cursors.BackwardTabulation n)
count_value control.HPA n = cursor (cursors.CharacterPositionAbsolute n)
count_value control.HPR n = cursor (cursors.CharacterPositionForward n)
count_value control.VPA n = cursor (cursors.LinePositionAbsolute n)
count_value control.VPR n = cursor (cursors.LinePositionForward n)
count_value control.HPB n = cursor (cursors.CharacterPositionBackward n)
count_value control.VPB n = cursor (cursors.LinePositionBackward n)
count_value control.ICH n = edit (edits.InsertCharacter n)
count_value control.IL n = edit (edits.InsertLine n)
count_value control.DL n = edit (edits.DeleteLine n)
count_value control.DCH n = edit (edits.DeleteCharacter n)
count_value control.SU n = edit (edits.ScrollUp n)
count_value control.SD n = edit (edits.ScrollDown n)
count_value control.ECH n = edit (edits.EraseCharacter n)
count_value control.REP n = edit (edits.Repeat n)
count_value control.SL n = edit (edits.ScrollLeft n)
count_value control.SR n = edit (edits.ScrollRight n)
count_value control.DECIC n = edit (edits.InsertColumn n)
count_value control.DECDC n = edit (edits.DeleteColumn n)
count_value control.KITTYPOP n = keyboard (keyboards.PopKittyState n)
count_value _ n = other unfit.Untyped

abbrev pub place_value : ControlFunction → Ordinal → Ordinal → Value
place_value control.CUP a b = cursor (cursors.Position a b)
place_value control.HVP a b = cursor (cursors.CharacterAndLinePosition a b)
place_value control.CPR a b = cursor (cursors.ActivePositionReport a b)
place_value _ a b = other unfit.Untyped

abbrev pub margins_value : ControlFunction → Ordinal → Option Ordinal → Value
margins_value control.DECSTBM a b = cursor (cursors.SetTopAndBottomMargins a b)
margins_value control.DECSLRM a b = cursor (cursors.SetLeftAndRightMargins a b)
margins_value _ a b = other unfit.Untyped

-- the value of a choice, if there is one
abbrev pub chosen_value : {X : Type 0} → (X → Value) → Option X → Value
chosen_value f None = other unfit.OutOfRange
chosen_value f (Some x) = f x

abbrev pub selector_value : ControlFunction → ℕ → Value
selector_value control.DSR n = if n == 5 then device devices.StatusReport
    else if n == 6 then cursor cursors.RequestActivePositionReport
    else other unfit.OutOfRange
selector_value control.KITTYPUSH n = keyboard (keyboards.PushKittyState n)
selector_value control.TBC n = chosen_value (λ c. cursor (cursors.TabulationClear c))
    (tabulation_clear_at n)
selector_value control.CTC n = chosen_value (λ c. cursor (cursors.TabulationControl c))
    (cursor_tabulation_control_at n)
selector_value control.DECSCUSR n =
    chosen_value (λ c. cursor (cursors.CursorStyle c)) (cursor_style_at n)
selector_value control.ED n =
    chosen_value (λ c. edit (edits.EraseInDisplay c)) (erase_in_display_at n)
selector_value control.EL n = chosen_value (λ c. edit (edits.EraseInLine c)) (erase_in_line_at n)
selector_value control.DECSED n = chosen_value (λ c. edit (edits.SelectiveEraseInDisplay c))
    (erase_in_display_at n)
selector_value control.DECSEL n = chosen_value (λ c. edit (edits.SelectiveEraseInLine c))
    (erase_in_line_at n)
selector_value _ n = other unfit.Untyped

abbrev pub flags_value : ControlFunction → ℕ → ℕ → Value
flags_value control.KITTYSET a b = chosen_value (λ c. keyboard (keyboards.SetKittyState a c))
    (kitty_flags_change_at b)
flags_value _ a b = other unfit.Untyped

abbrev pub report_value : ControlFunction → ℕ → Ordinal → Ordinal → Value
report_value control.MOUSE a b c = mouse (mouses.Pressed a b c)
report_value control.MOUSEUP a b c = mouse (mouses.Released a b c)
report_value _ a b c = other unfit.Untyped

abbrev pub window_value : Result Window Unfit → Value
window_value (Ok w) = window w
window_value (Err u) = other u

-- a mode whose state is asked for
abbrev pub mode_value : ModeStatus → Option ℕ → Option ℕ → Value
mode_value s None None = mode_status s
mode_value s None (Some c) = other unfit.TooMany
mode_value s (Some b) c = other unfit.TooMany

-- the state of a mode, if nothing more is reported
abbrev pub state_of : Option ℕ → Option ℕ → Result ModeState Unfit
state_of None c = Err unfit.TooFew
state_of (Some b) None = in_range (mode_state_at b)
state_of (Some b) (Some c) = Err unfit.TooMany

abbrev pub stated_value : (ModeState → ModeStatus) → Result ModeState Unfit → Value
stated_value f (Ok s) = mode_status (f s)
stated_value f (Err u) = other u

abbrev pub list_value : ControlFunction → ℕ → Option ℕ → Option ℕ → Value
list_value control.XTWINOPS a b c = window_value (operation a b c)
list_value control.DECRQM_ANSI a b c = mode_value (statuses.QueryMode a) b c
list_value control.DECRQM a b c = mode_value (statuses.QueryDecPrivateMode a) b c
list_value control.DECRPM_ANSI a b c = stated_value (statuses.ReportMode a) (state_of b c)
list_value control.DECRPM a b c = stated_value (statuses.ReportDecPrivateMode a)
    (state_of b c)
list_value _ a b c = other unfit.Untyped

-- the value of a function with its parameters
abbrev pub value_with : ControlFunction → Arguments → Value
value_with f args.Nothing = bare f
value_with f (args.Count n) = count_value f n
value_with f (args.Place l c) = place_value f l c
value_with f (args.Margins a b) = margins_value f a b
value_with f (args.Selector n) = selector_value f n
value_with f (args.Flags a b) = flags_value f a b
value_with f (args.Report a b c) = report_value f a b c
value_with f (args.Numbers a b c) = list_value f a b c

-- the operation on modes
abbrev pub change_of : ControlFunction → ModeChange
change_of control.SM = change.SetMode
change_of control.RM = change.ResetMode
change_of control.DECSET = change.SetDecPrivateMode
change_of control.DECRST = change.ResetDecPrivateMode
change_of control.XTSAVE = change.SaveDecPrivateMode
change_of _ = change.RestoreDecPrivateMode

abbrev pub made_of : ControlFunction → Result Arguments Unfit → Value
made_of f (Ok a) = value_with f a
made_of f (Err u) = other u

-- the operation on tab stops
abbrev pub tab_change_of : ControlFunction → TabChange
tab_change_of control.CTC = tab.Control
tab_change_of _ = tab.Clear

-- one choice, or several
abbrev pub several : ControlFunction → List CsiParam → Result Arguments Unfit → Value
several f es (Ok a) = value_with f a
several f es (Err unfit.TooMany) = tabs (tab_change_of f) (mode_numbers es)
several f es (Err u) = other u

abbrev pub of_kind : Option Kind → ControlFunction → List CsiParam → Value
of_kind None f es = other unfit.Untyped
of_kind (Some kind.Renditions) f es = renditions (selections es)
of_kind (Some kind.Modes) f es = modes (change_of f) (mode_numbers (after_prefix es))
of_kind (Some kind.Selectors) f es =
    several f (after_prefix es) (arguments kind.Selector (after_prefix es))
of_kind (Some k) f es = made_of f (arguments k (after_prefix es))

abbrev pub of_named : Option ControlFunction → List CsiParam → Value
of_named None es = other unfit.Unnamed
of_named (Some f) es = of_kind (kind_of f) f es

-- the value of a control sequence of these parameters and this final byte
abbrev pub of_params : List CsiParam → ℕ → Value
of_params es last = of_named (function_of (sequence_key es last)) es

-- the parameters of a rendition that is read alone
abbrev pub known_entries : Sgr → List CsiParam
known_entries known.Reset = number 0 ∷ []
known_entries (known.Intensity intensity.Bold) = number 1 ∷ []
known_entries (known.Intensity intensity.Half) = number 2 ∷ []
known_entries (known.Intensity intensity.Normal) = number 22 ∷ []
known_entries (known.Italic true) = number 3 ∷ []
known_entries (known.Italic false) = number 23 ∷ []
known_entries (known.Underline underline.None) = number 24 ∷ []
known_entries (known.Underline underline.Single) = number 4 ∷ []
known_entries (known.Underline underline.Double) = number 21 ∷ []
known_entries (known.Underline underline.Curly) = number 4 ∷ P 0x3a ∷ number 3 ∷ []
known_entries (known.Underline underline.Dotted) = number 4 ∷ P 0x3a ∷ number 4 ∷ []
known_entries (known.Underline underline.Dashed) = number 4 ∷ P 0x3a ∷ number 5 ∷ []

abbrev pub of_whole : Option (List CsiParam) → ℕ → Value
of_whole None last = other unfit.Truncated
of_whole (Some es) last = of_params es last

-- The value of a control sequence with more entries than these: nobody knows it, since an
-- intermediate may be among those that were left out, but for renditions; of these the whole ones
-- are read.
abbrev pub of_kept : List CsiParam → ℕ → Value
of_kept es last = if last == 0x6d then of_whole (whole_entries es) last else other unfit.Truncated

-- the value of a control sequence
abbrev pub of_csi : CsiValue → Value
of_csi (sgr s) = renditions (selections (known_entries s))
of_csi (unspecified es truncated last) = if truncated then of_kept es last else of_params es last
