-- The steps of a screen for each value of a stream, by the names of ECMA-48, DEC and xterm.
use Rattle.std.specs.Prelude.{ℕ, ℤ, ◌+◌, ◌-◌, ◌==◌, nat_lt, min, pos, negsuc, Bool, true, false, ◌&&◌, ◌||◌, if◌then◌else◌, List, [], ◌∷◌, ◌++◌, length, Option, Some, None}
use Rattle.unicode_width.specs.Width.{char_width}
use Rattle.esc_values.specs.Params.{is_from}
use Rattle.esc_values.specs.declared.csi_param.CsiParam.{CsiParam}
use Rattle.esc_values.specs.declared.csi_param.CsiParam.TheVariants.{Integer, P}
use Rattle.esc_sequences.specs.Csis.{CsiValue, sgr, unspecified}
use Rattle.esc_actions.specs.Values.{Value, print, control, esc, csi, osc}
use Rattle.esc_actions.specs.declared.control_code.ControlCode.{ControlCode}
use Rattle.esc_actions.specs.declared.control_code.ControlCode.TheVariants as code
use Rattle.typed_functions.specs.Choices.{cursor_tabulation_control_at, tabulation_clear_at}
use Rattle.typed_functions.specs.Counts.{one_based}
use Rattle.typed_functions.specs.Escapes.{of_escape}
use Rattle.typed_functions.specs.Functions.{Value as Function, charset, cursor, device, edit, escape, modes, of_csi, renditions, tabs}
use Rattle.typed_functions.specs.declared.charset.Charset.{Charset}
use Rattle.typed_functions.specs.declared.charset.Charset.TheVariants as charsets
use Rattle.typed_functions.specs.declared.charset94.Charset94.{Charset94}
use Rattle.typed_functions.specs.declared.charset94.Charset94.TheVariants as sets
use Rattle.typed_functions.specs.declared.cursor.Cursor.{Cursor}
use Rattle.typed_functions.specs.declared.cursor.Cursor.TheVariants as cursors
use Rattle.typed_functions.specs.declared.cursor_tabulation_control.CursorTabulationControl.{CursorTabulationControl}
use Rattle.typed_functions.specs.declared.cursor_tabulation_control.CursorTabulationControl.TheVariants as tab
use Rattle.typed_functions.specs.declared.device.Device.{Device}
use Rattle.typed_functions.specs.declared.device.Device.TheVariants as devices
use Rattle.typed_functions.specs.declared.edit.Edit.{Edit}
use Rattle.typed_functions.specs.declared.edit.Edit.TheVariants as edits
use Rattle.typed_functions.specs.declared.erase_in_display.EraseInDisplay.{EraseInDisplay}
use Rattle.typed_functions.specs.declared.erase_in_display.EraseInDisplay.TheVariants as display
use Rattle.typed_functions.specs.declared.erase_in_line.EraseInLine.{EraseInLine}
use Rattle.typed_functions.specs.declared.erase_in_line.EraseInLine.TheVariants as line
use Rattle.typed_functions.specs.declared.escape.Escape.{Escape}
use Rattle.typed_functions.specs.declared.escape.Escape.TheVariants as escapes
use Rattle.typed_functions.specs.declared.mode_change.ModeChange.{ModeChange}
use Rattle.typed_functions.specs.declared.mode_change.ModeChange.TheVariants as changes
use Rattle.typed_functions.specs.declared.one_based.Ordinal.{Ordinal}
use Rattle.typed_functions.specs.declared.tab_change.TabChange.{TabChange}
use Rattle.typed_functions.specs.declared.tab_change.TabChange.TheVariants as tab_changes
use Rattle.typed_functions.specs.declared.tabulation_clear.TabulationClear.{TabulationClear}
use Rattle.typed_functions.specs.declared.tabulation_clear.TabulationClear.TheVariants as clear
use Rattle.esc_style.specs.Looks.{look_by_all}
use Rattle.esc_style.specs.declared.look.Look.{Look}
use Rattle.esc_screen.specs.declared.area.Area.{Area}
use Rattle.esc_screen.specs.declared.change.Change.TheVariants as change
use Rattle.esc_screen.specs.declared.cursor.Cursor.{Cursor as Place}
use Rattle.esc_screen.specs.declared.mode.Mode.TheVariants as mode
use Rattle.esc_screen.specs.declared.motion.Motion.TheVariants as motion
use Rattle.esc_screen.specs.declared.setting.Setting.{Setting}
use Rattle.esc_screen.specs.declared.setting.Setting.TheVariants as setting
use Rattle.esc_screen.specs.declared.step.Step.{Step}
use Rattle.esc_screen.specs.declared.step.Step.TheVariants.{Edit as Edited, Mark, Move, Nothing, Print, PrintWide, Repeat, Set}
use Rattle.esc_terminal.specs.Links.{Known, Target, erased_by_look, known_by_lead, known_by_look, known_look, lead_in, number_by_lead, number_by_look}

-- ---- characters

-- one of ASCII takes one column, and any other as many as Unicode has it; one of no column is a
-- mark, and a control is none
abbrev pub width_step : ℕ → Option ℕ → Step
width_step c None = Nothing
width_step c (Some n) = if n == 0 then Mark c else if n == 2 then PrintWide c else Print c

abbrev pub print_step : ℕ → Step
print_step c = if is_from 0x20 0x7e c then Print c else width_step c (char_width false c)

-- ---- control codes

abbrev pub control_step : ControlCode → Step
control_step code.Backspace = Move (motion.Left 1)
control_step code.HorizontalTab = Move (motion.Tab 1)
control_step code.LineFeed = Edited change.LineFeed
control_step code.VerticalTab = Edited change.FormFeed
control_step code.FormFeed = Edited change.FormFeed
control_step code.CarriageReturn = Move motion.RowStart
control_step code.ShiftOut = Set (setting.Shift true)
control_step code.ShiftIn = Set (setting.Shift false)
control_step code.IND = Edited change.Index
control_step code.NEL = Edited change.NextLine
control_step code.HTS = Set setting.SetTab
control_step code.RI = Edited change.ReverseIndex
control_step _ = Nothing

-- ---- control sequences

-- how many, where a screen counts to 65,535
abbrev pub count : Ordinal → ℕ
count n = min (one_based n) 0xffff

-- a row or a column, from 0 on
abbrev pub place : Ordinal → ℕ
place n = min (one_based n - 1) 0xffff

-- the row after the last that scrolls
abbrev pub margin_end : Option Ordinal → ℕ
margin_end None = 0xffff
margin_end (Some n) = count n

abbrev pub margins_step : ℕ → Option Ordinal → Step
margins_step m n = Set (setting.Margins m (margin_end n))

-- TBC and CTC: no tab stop is of a line
abbrev pub clear_step : TabulationClear → Step
clear_step clear.ClearCharacterTabStopAtActivePosition = Set setting.ClearTab
clear_step clear.ClearAllCharacterTabStops = Set setting.ClearTabs
clear_step clear.ClearAllTabStops = Set setting.ClearTabs
clear_step _ = Nothing

abbrev pub tab_step : CursorTabulationControl → Step
tab_step tab.SetCharacterTabStopAtActivePosition = Set setting.SetTab
tab_step tab.ClearCharacterTabStopAtActivePosition = Set setting.ClearTab
tab_step tab.ClearAllCharacterTabStops = Set setting.ClearTabs
tab_step _ = Nothing

-- VPR and VPB go to a row by its number, where the cursor is at such a place: no margin stops them
-- but in origin mode, where it is within the margins
abbrev pub after_step : Place → ℕ → Step
after_step k n = if k.origin then Move (motion.Down n)
    else Move (motion.Row (min (k.row + n) 0xffff))

abbrev pub before_step : Place → ℕ → Step
before_step k n = if k.origin then Move (motion.Up n) else Move (motion.Row (k.row - n))

-- the cursor, and what bounds it
abbrev pub cursor_step : Place → Cursor → Step
cursor_step k (cursors.Up n) = Move (motion.Up (count n))
cursor_step k (cursors.Down n) = Move (motion.Down (count n))
cursor_step k (cursors.Right n) = Move (motion.Right (count n))
cursor_step k (cursors.CharacterPositionForward n) = Move (motion.Right (count n))
cursor_step k (cursors.Left n) = Move (motion.Left (count n))
cursor_step k (cursors.CharacterPositionBackward n) = Move (motion.Left (count n))
cursor_step k (cursors.NextLine n) = Move (motion.DownToStart (count n))
cursor_step k (cursors.PrecedingLine n) = Move (motion.UpToStart (count n))
cursor_step k (cursors.CharacterAbsolute n) = Move (motion.Column (place n))
cursor_step k (cursors.CharacterPositionAbsolute n) = Move (motion.Column (place n))
cursor_step k (cursors.Position m n) = Move (motion.Position (place m) (place n))
cursor_step k (cursors.CharacterAndLinePosition m n) = Move (motion.Position (place m) (place n))
cursor_step k (cursors.ForwardTabulation n) = Move (motion.Tab (count n))
cursor_step k (cursors.BackwardTabulation n) = Move (motion.BackTab (count n))
cursor_step k (cursors.LinePositionAbsolute n) = Move (motion.Row (place n))
cursor_step k (cursors.LinePositionForward n) = after_step k (count n)
cursor_step k (cursors.LinePositionBackward n) = before_step k (count n)
cursor_step k (cursors.TabulationClear c) = clear_step c
cursor_step k (cursors.TabulationControl c) = tab_step c
cursor_step k (cursors.SetTopAndBottomMargins m n) = margins_step (place m) n
cursor_step k cursors.SaveCursor = Set setting.Save
cursor_step k cursors.RestoreCursor = Set setting.Restore
cursor_step k _ = Nothing

-- ED and EL; what scrolled off is none of the screen's
abbrev pub display_step : EraseInDisplay → Step
display_step display.EraseToEndOfDisplay = Edited change.EraseBelow
display_step display.EraseToStartOfDisplay = Edited change.EraseAbove
display_step display.EraseDisplay = Edited change.EraseAll
display_step display.EraseScrollback = Nothing

abbrev pub line_step : EraseInLine → Step
line_step line.EraseToEndOfLine = Edited change.EraseRight
line_step line.EraseToStartOfLine = Edited change.EraseLeft
line_step line.EraseLine = Edited change.EraseRow

-- the step of an insertion, deletion, erasure or scroll; nothing is protected, so DECSED and DECSEL
-- erase as ED and EL do
abbrev pub edit_step : Edit → Step
edit_step (edits.InsertCharacter n) = Edited (change.InsertCells (count n))
edit_step (edits.InsertLine n) = Edited (change.InsertRows (count n))
edit_step (edits.DeleteLine n) = Edited (change.DeleteRows (count n))
edit_step (edits.DeleteCharacter n) = Edited (change.DeleteCells (count n))
edit_step (edits.ScrollUp n) = Edited (change.ScrollUp (count n))
edit_step (edits.ScrollDown n) = Edited (change.ScrollDown (count n))
edit_step (edits.EraseCharacter n) = Edited (change.EraseCells (count n))
edit_step (edits.Repeat n) = Repeat (count n)
edit_step (edits.EraseInDisplay p) = display_step p
edit_step (edits.SelectiveEraseInDisplay p) = display_step p
edit_step (edits.EraseInLine p) = line_step p
edit_step (edits.SelectiveEraseInLine p) = line_step p
edit_step (edits.ScrollLeft n) = Edited (change.ScrollLeft (count n))
edit_step (edits.ScrollRight n) = Edited (change.ScrollRight (count n))
edit_step (edits.InsertColumn n) = Edited (change.InsertColumns (count n))
edit_step (edits.DeleteColumn n) = Edited (change.DeleteColumns (count n))

-- DECSTR
abbrev pub device_step : Device → Step
device_step devices.SoftReset = Set setting.SoftReset
device_step _ = Nothing

-- ---- escape sequences

abbrev pub escape_step : Escape → Step
escape_step escapes.DecSaveCursorPosition = Set setting.Save
escape_step escapes.DecRestoreCursorPosition = Set setting.Restore
escape_step escapes.DecScreenAlignmentDisplay = Edited change.Align
escape_step escapes.Index = Edited change.Index
escape_step escapes.NextLine = Edited change.NextLine
escape_step escapes.HorizontalTabSet = Set setting.SetTab
escape_step escapes.ReverseIndex = Edited change.ReverseIndex
escape_step escapes.FullReset = Set setting.Reset
escape_step escapes.DecBackIndex = Edited change.BackIndex
escape_step escapes.DecForwardIndex = Edited change.ForwardIndex
escape_step _ = Nothing

-- SCS: of a set other than that of line drawing each character is itself
abbrev pub is_drawing : Charset94 → Bool
is_drawing sets.DecSpecialGraphics = true
is_drawing _ = false

abbrev pub charset_step : Charset → Step
charset_step (charsets.G0 c) = Set (setting.G0Draws (is_drawing c))
charset_step (charsets.G1 c) = Set (setting.G1Draws (is_drawing c))
charset_step (charsets.G0Pair c) = Set (setting.G0Draws false)
charset_step (charsets.G0Multibyte c) = Set (setting.G0Draws false)
charset_step (charsets.G1Of96 c) = Set (setting.G1Draws false)
charset_step (charsets.G1Pair c) = Set (setting.G1Draws false)
charset_step (charsets.G1Multibyte c) = Set (setting.G1Draws false)
charset_step _ = Nothing

-- ---- modes and tab stops

-- IRM and LNM
abbrev pub standard_step : Bool → ℕ → Step
standard_step b n = if n == 4 then Set (setting.Mode mode.Insert b)
    else if n == 20 then Set (setting.Mode mode.NewLine b)
    else Nothing

abbrev pub setting_by : Bool → Setting → Setting → Setting
setting_by b x y = if b then x else y

-- DECCOLM, set or reset; DECSCNM, DECOM, DECAWM, DECTCEM; the mode of xterm that allows DECCOLM;
-- the alternate screen and the saved cursor of xterm; synchronized output
abbrev pub private_step : Bool → ℕ → Step
private_step b n = if n == 3 then Set setting.Columns
    else if n == 5 then Set (setting.Mode mode.ReverseVideo b)
    else if n == 6 then Set (setting.Origin b)
    else if n == 7 then Set (setting.Mode mode.AutoWrap b)
    else if n == 25 then Set (setting.Mode mode.ShowCursor b)
    else if n == 40 then Set (setting.Mode mode.Columns b)
    else if n == 47 then Set (setting_by b setting.ShowAlternate setting.ShowMain)
    else if n == 1047 then Set (setting_by b setting.ShowAlternate setting.ClearAlternate)
    else if n == 1048 then Set (setting_by b setting.Save setting.Restore)
    else if n == 1049 then Set (setting_by b setting.EnterAlternate setting.LeaveAlternate)
    else if n == 2026 then Set (setting.Mode mode.Synchronized b)
    else Nothing

-- a mode by its number
abbrev pub numbered_step : ModeChange → ℕ → Step
numbered_step changes.SetMode n = standard_step true n
numbered_step changes.ResetMode n = standard_step false n
numbered_step changes.SetDecPrivateMode n = private_step true n
numbered_step changes.ResetDecPrivateMode n = private_step false n
numbered_step _ n = Nothing

abbrev pub mode_step : ModeChange → Option ℕ → Step
mode_step c None = Nothing
mode_step c (Some n) = numbered_step c n

abbrev pub mode_steps : ModeChange → List (Option ℕ × List CsiParam) → List Step
mode_steps c [] = []
mode_steps c (m ∷ ms) = mode_step c m.0 ∷ mode_steps c ms

-- a choice of tab stops by its number
abbrev pub if_clear : Option TabulationClear → Step
if_clear None = Nothing
if_clear (Some c) = clear_step c

abbrev pub if_tab : Option CursorTabulationControl → Step
if_tab None = Nothing
if_tab (Some c) = tab_step c

abbrev pub numbered_choice : TabChange → ℕ → Step
numbered_choice tab_changes.Clear n = if_clear (tabulation_clear_at n)
numbered_choice tab_changes.Control n = if_tab (cursor_tabulation_control_at n)

abbrev pub choice_step : TabChange → Option ℕ → Step
choice_step c None = Nothing
choice_step c (Some n) = if nat_lt n 256 then numbered_choice c n else Nothing

abbrev pub choice_steps : TabChange → List (Option ℕ × List CsiParam) → List Step
choice_steps c [] = []
choice_steps c (n ∷ ns) = choice_step c n.0 ∷ choice_steps c ns

-- ---- rectangles

-- whether parameters are numbers, with `;` between them, and then `$`
abbrev pub is_dollared : List CsiParam → Bool
is_dollared [] = false
is_dollared (Integer i ∷ es) = is_dollared es
is_dollared (P b ∷ es) = if b == 0x3b then is_dollared es else b == 0x24 && length es == 0

abbrev pub if_dollared : List CsiParam → Step → Step
if_dollared es x = if is_dollared es then x else Nothing

-- a number, where a screen counts to 65,535
abbrev pub counted : ℤ → ℕ
counted (pos n) = min n 0xffff
counted (negsuc n) = 0

-- that of a parameter, or 0 where it has none
abbrev pub number_at : ℕ → List CsiParam → ℕ
number_at k [] = 0
number_at k (Integer i ∷ es) = if k == 0 then counted i else number_at k es
number_at k (P b ∷ es) = if b == 0x3b
    then if k == 0 then 0 else number_at (k - 1) es
    else number_at k es

-- a row or a column, from 0 on: 0 is the first one, and at the end of a rectangle the last one
abbrev pub start_at : ℕ → List CsiParam → ℕ
start_at k es = number_at k es - 1

abbrev pub end_of : ℕ → ℕ
end_of n = if n == 0 then 0xffff else n - 1

abbrev pub end_at : ℕ → List CsiParam → ℕ
end_at k es = end_of (number_at k es)

-- the rectangle of four parameters
abbrev pub area_at : ℕ → List CsiParam → Area
area_at k es = record {
  top = start_at k es;
  left = start_at (k + 1) es;
  bottom = end_at (k + 2) es;
  right = end_at (k + 3) es;
}

-- DECFRA: with a character of one column that is no control
abbrev pub is_fill : ℕ → Bool
is_fill c = is_from 0x20 0x7e c || is_from 0xa0 0xff c

abbrev pub filled_by : Step → Area → Step
filled_by (Print c) r = Edited (change.FillArea c r)
filled_by _ r = Nothing

abbrev pub fill_step : ℕ → Area → Step
fill_step c r = if is_fill c then filled_by (print_step c) r else Nothing

-- by the final byte: DECERA; DECSERA, which erases the same, since nothing is protected; DECFRA
abbrev pub sequence_step : List CsiParam → ℕ → Step
sequence_step es last =
    if last == 0x7a then if_dollared es (Edited (change.EraseArea (area_at 0 es)))
    else if last == 0x7b then if_dollared es (Edited (change.EraseArea (area_at 0 es)))
    else if last == 0x78 then if_dollared es (fill_step (number_at 0 es) (area_at 1 es))
    else Nothing

-- the step of a control sequence, where it changes a rectangle, and none otherwise
abbrev pub csi_step : CsiValue → Step
csi_step (sgr s) = Nothing
csi_step (unspecified es truncated last) = if truncated then Nothing else sequence_step es last

-- ---- values

-- SGR: how the characters look that come, which lead where those before them do
abbrev pub selected_steps : Look → ℕ → Known → List Step
selected_steps l n k = Set (setting.Select (number_by_look l n k) (erased_by_look l k)) ∷ []

-- OSC 8: where the characters lead that come, if a command says that
abbrev pub lead_steps : Place → Known → Option (Option Target) → List Step
lead_steps c k None = []
lead_steps c k (Some t) = Set (setting.Select (number_by_lead t c.look k) c.erased) ∷ []

abbrev pub lead_known : Place → Known → Option (Option Target) → Known
lead_known c k None = k
lead_known c k (Some t) = known_by_lead t c.look k

-- the steps of what a function asks for, of a screen of which so much is known, with this cursor;
-- of any other there are none
abbrev pub function_steps : Known → Place → Function → List Step
function_steps ks k (cursor c) = cursor_step k c ∷ []
function_steps ks k (edit e) = edit_step e ∷ []
function_steps ks k (device d) = device_step d ∷ []
function_steps ks k (charset c) = charset_step c ∷ []
function_steps ks k (escape e) = escape_step e ∷ []
function_steps ks k (modes c ms) = mode_steps c ms
function_steps ks k (tabs c ns) = choice_steps c ns
function_steps ks k (renditions rs) =
    selected_steps (look_by_all (known_look k.look ks) rs) k.look ks
function_steps ks k _ = []

-- the steps of a control sequence: those of its function, and that of a rectangle
abbrev pub csi_steps : Known → Place → CsiValue → List Step
csi_steps ks k c = function_steps ks k (of_csi c) ++ csi_step c ∷ []

-- the step that a function is, where it is one and asks for no look
abbrev pub one_step : Place → Function → Option Step
one_step k (cursor c) = Some (cursor_step k c)
one_step k (edit e) = Some (edit_step e)
one_step k (device d) = Some (device_step d)
one_step k (charset c) = Some (charset_step c)
one_step k (escape e) = Some (escape_step e)
one_step k _ = None

-- and what is known after it
abbrev pub function_known : Known → Place → Function → Known
function_known ks k (renditions rs) =
    known_by_look (look_by_all (known_look k.look ks) rs) k.look ks
function_known ks k _ = ks

-- the steps of a value
abbrev pub steps_of : {A : Type 0} → Known → Place → Value A → List Step
steps_of ks k (print c) = print_step c ∷ []
steps_of ks k (control c) = control_step c ∷ []
steps_of ks k (esc e) = function_steps ks k (of_escape e)
steps_of ks k (csi c) = csi_steps ks k c
steps_of ks k (osc c) = lead_steps k ks (lead_in c)
steps_of ks k _ = []

abbrev pub known_by : {A : Type 0} → Known → Place → Value A → Known
known_by ks k (esc e) = function_known ks k (of_escape e)
known_by ks k (csi c) = function_known ks k (of_csi c)
known_by ks k (osc c) = lead_known k ks (lead_in c)
known_by ks k _ = ks
