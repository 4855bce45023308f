-- Choices by their numbers.
use Rattle.std.specs.Prelude.{ℕ, ◌==◌, if◌then◌else◌, Option, Some, None}
use Rattle.typed_functions.specs.declared.erase_in_display.EraseInDisplay.{EraseInDisplay}
use Rattle.typed_functions.specs.declared.erase_in_display.EraseInDisplay.TheVariants as erase_in_display
use Rattle.typed_functions.specs.declared.erase_in_line.EraseInLine.{EraseInLine}
use Rattle.typed_functions.specs.declared.erase_in_line.EraseInLine.TheVariants as erase_in_line
use Rattle.typed_functions.specs.declared.tabulation_clear.TabulationClear.{TabulationClear}
use Rattle.typed_functions.specs.declared.tabulation_clear.TabulationClear.TheVariants as tabulation_clear
use Rattle.typed_functions.specs.declared.cursor_tabulation_control.CursorTabulationControl.{CursorTabulationControl}
use Rattle.typed_functions.specs.declared.cursor_tabulation_control.CursorTabulationControl.TheVariants as cursor_tabulation_control
use Rattle.typed_functions.specs.declared.kitty_flags_change.KittyFlagsChange.{KittyFlagsChange}
use Rattle.typed_functions.specs.declared.kitty_flags_change.KittyFlagsChange.TheVariants as kitty_flags_change
use Rattle.typed_functions.specs.declared.cursor_style.CursorStyle.{CursorStyle}
use Rattle.typed_functions.specs.declared.cursor_style.CursorStyle.TheVariants as cursor_style
use Rattle.typed_functions.specs.declared.mode_state.ModeState.{ModeState}
use Rattle.typed_functions.specs.declared.mode_state.ModeState.TheVariants as mode_state

abbrev pub erase_in_display_number : EraseInDisplay → ℕ
erase_in_display_number erase_in_display.EraseToEndOfDisplay = 0
erase_in_display_number erase_in_display.EraseToStartOfDisplay = 1
erase_in_display_number erase_in_display.EraseDisplay = 2
erase_in_display_number erase_in_display.EraseScrollback = 3

abbrev pub erase_in_display_at : ℕ → Option EraseInDisplay
erase_in_display_at n = if n == 0 then Some erase_in_display.EraseToEndOfDisplay
    else if n == 1 then Some erase_in_display.EraseToStartOfDisplay
    else if n == 2 then Some erase_in_display.EraseDisplay
    else if n == 3 then Some erase_in_display.EraseScrollback
    else None

abbrev pub erase_in_line_number : EraseInLine → ℕ
erase_in_line_number erase_in_line.EraseToEndOfLine = 0
erase_in_line_number erase_in_line.EraseToStartOfLine = 1
erase_in_line_number erase_in_line.EraseLine = 2

abbrev pub erase_in_line_at : ℕ → Option EraseInLine
erase_in_line_at n = if n == 0 then Some erase_in_line.EraseToEndOfLine
    else if n == 1 then Some erase_in_line.EraseToStartOfLine
    else if n == 2 then Some erase_in_line.EraseLine
    else None

abbrev pub tabulation_clear_number : TabulationClear → ℕ
tabulation_clear_number tabulation_clear.ClearCharacterTabStopAtActivePosition = 0
tabulation_clear_number tabulation_clear.ClearLineTabStopAtActivePosition = 1
tabulation_clear_number tabulation_clear.ClearCharacterTabStopsAtActiveLine = 2
tabulation_clear_number tabulation_clear.ClearAllCharacterTabStops = 3
tabulation_clear_number tabulation_clear.ClearAllLineTabStops = 4
tabulation_clear_number tabulation_clear.ClearAllTabStops = 5

abbrev pub tabulation_clear_at : ℕ → Option TabulationClear
tabulation_clear_at n = if n == 0 then Some tabulation_clear.ClearCharacterTabStopAtActivePosition
    else if n == 1 then Some tabulation_clear.ClearLineTabStopAtActivePosition
    else if n == 2 then Some tabulation_clear.ClearCharacterTabStopsAtActiveLine
    else if n == 3 then Some tabulation_clear.ClearAllCharacterTabStops
    else if n == 4 then Some tabulation_clear.ClearAllLineTabStops
    else if n == 5 then Some tabulation_clear.ClearAllTabStops
    else None

abbrev pub cursor_tabulation_control_number : CursorTabulationControl → ℕ
cursor_tabulation_control_number cursor_tabulation_control.SetCharacterTabStopAtActivePosition = 0
cursor_tabulation_control_number cursor_tabulation_control.SetLineTabStopAtActiveLine = 1
cursor_tabulation_control_number cursor_tabulation_control.ClearCharacterTabStopAtActivePosition = 2
cursor_tabulation_control_number cursor_tabulation_control.ClearLineTabStopAtActiveLine = 3
cursor_tabulation_control_number cursor_tabulation_control.ClearCharacterTabStopsAtActiveLine = 4
cursor_tabulation_control_number cursor_tabulation_control.ClearAllCharacterTabStops = 5
cursor_tabulation_control_number cursor_tabulation_control.ClearAllLineTabStops = 6

abbrev pub cursor_tabulation_control_at : ℕ → Option CursorTabulationControl
cursor_tabulation_control_at n = if n == 0 then Some
    cursor_tabulation_control.SetCharacterTabStopAtActivePosition
    else if n == 1 then Some cursor_tabulation_control.SetLineTabStopAtActiveLine
    else if n == 2 then Some cursor_tabulation_control.ClearCharacterTabStopAtActivePosition
    else if n == 3 then Some cursor_tabulation_control.ClearLineTabStopAtActiveLine
    else if n == 4 then Some cursor_tabulation_control.ClearCharacterTabStopsAtActiveLine
    else if n == 5 then Some cursor_tabulation_control.ClearAllCharacterTabStops
    else if n == 6 then Some cursor_tabulation_control.ClearAllLineTabStops
    else None

abbrev pub kitty_flags_change_number : KittyFlagsChange → ℕ
kitty_flags_change_number kitty_flags_change.AssignAll = 1
kitty_flags_change_number kitty_flags_change.SetSpecified = 2
kitty_flags_change_number kitty_flags_change.ClearSpecified = 3

abbrev pub kitty_flags_change_at : ℕ → Option KittyFlagsChange
kitty_flags_change_at n = if n == 1 then Some kitty_flags_change.AssignAll
    else if n == 2 then Some kitty_flags_change.SetSpecified
    else if n == 3 then Some kitty_flags_change.ClearSpecified
    else None

abbrev pub cursor_style_number : CursorStyle → ℕ
cursor_style_number cursor_style.Default = 0
cursor_style_number cursor_style.BlinkingBlock = 1
cursor_style_number cursor_style.SteadyBlock = 2
cursor_style_number cursor_style.BlinkingUnderline = 3
cursor_style_number cursor_style.SteadyUnderline = 4
cursor_style_number cursor_style.BlinkingBar = 5
cursor_style_number cursor_style.SteadyBar = 6

abbrev pub cursor_style_at : ℕ → Option CursorStyle
cursor_style_at n = if n == 0 then Some cursor_style.Default
    else if n == 1 then Some cursor_style.BlinkingBlock
    else if n == 2 then Some cursor_style.SteadyBlock
    else if n == 3 then Some cursor_style.BlinkingUnderline
    else if n == 4 then Some cursor_style.SteadyUnderline
    else if n == 5 then Some cursor_style.BlinkingBar
    else if n == 6 then Some cursor_style.SteadyBar
    else None

abbrev pub mode_state_number : ModeState → ℕ
mode_state_number mode_state.NotRecognized = 0
mode_state_number mode_state.Set = 1
mode_state_number mode_state.Reset = 2
mode_state_number mode_state.PermanentlySet = 3
mode_state_number mode_state.PermanentlyReset = 4

abbrev pub mode_state_at : ℕ → Option ModeState
mode_state_at n = if n == 0 then Some mode_state.NotRecognized
    else if n == 1 then Some mode_state.Set
    else if n == 2 then Some mode_state.Reset
    else if n == 3 then Some mode_state.PermanentlySet
    else if n == 4 then Some mode_state.PermanentlyReset
    else None
