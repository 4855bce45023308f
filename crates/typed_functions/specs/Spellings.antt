-- The normal spellings of typed values.
use Rattle.std.specs.Prelude.{ℕ, List, [], ◌∷◌, ◌++◌, Option, Some, None}
use Rattle.esc_values.specs.declared.csi_param.CsiParam.{CsiParam}
use Rattle.esc_values.specs.declared.csi_param.CsiParam.TheVariants.{P}
use Rattle.typed_functions.specs.declared.arguments.Arguments.{Arguments}
use Rattle.typed_functions.specs.declared.arguments.Arguments.TheVariants as args
use Rattle.typed_functions.specs.declared.cursor.Cursor.{Cursor}
use Rattle.typed_functions.specs.declared.cursor.Cursor.TheVariants as cursor
use Rattle.typed_functions.specs.declared.device.Device.{Device}
use Rattle.typed_functions.specs.declared.device.Device.TheVariants as device
use Rattle.typed_functions.specs.declared.edit.Edit.{Edit}
use Rattle.typed_functions.specs.declared.edit.Edit.TheVariants as edit
use Rattle.typed_functions.specs.declared.keyboard.Keyboard.{Keyboard}
use Rattle.typed_functions.specs.declared.keyboard.Keyboard.TheVariants as keyboard
use Rattle.typed_functions.specs.declared.mouse.Mouse.{Mouse}
use Rattle.typed_functions.specs.declared.mouse.Mouse.TheVariants as mouse
use Rattle.typed_functions.specs.declared.mode_status.ModeStatus.{ModeStatus}
use Rattle.typed_functions.specs.declared.mode_status.ModeStatus.TheVariants as mode_status
use Rattle.typed_functions.specs.declared.spelling.Spelling.{Spelling}
use Rattle.typed_functions.specs.declared.window.Window.{Window}
use Rattle.typed_functions.specs.declared.window.Window.TheVariants as window
use Rattle.typed_functions.specs.Arguments.{entries_of}
use Rattle.typed_functions.specs.Choices.{cursor_style_number, cursor_tabulation_control_number, erase_in_display_number, erase_in_line_number, kitty_flags_change_number, mode_state_number, tabulation_clear_number}

abbrev pub mark_entries : Option ℕ → List CsiParam
mark_entries None = []
mark_entries (Some b) = P b ∷ []

-- the entries of a spelling: a private prefix, parameters and an intermediate
abbrev pub entries : Spelling → List CsiParam
entries s = mark_entries s.prefix ++ entries_of s.arguments ++ mark_entries s.intermediate

abbrev pub plain : Arguments → ℕ → Spelling
plain a last = record { prefix = None; arguments = a; intermediate = None; last = last }

abbrev pub private : ℕ → Arguments → ℕ → Spelling
private p a last = record { prefix = Some p; arguments = a; intermediate = None; last = last }

abbrev pub intermediate_spelling : Arguments → ℕ → ℕ → Spelling
intermediate_spelling a i last =
    record { prefix = None; arguments = a; intermediate = Some i; last = last }

abbrev pub private_between : ℕ → Arguments → ℕ → ℕ → Spelling
private_between p a i last =
    record { prefix = Some p; arguments = a; intermediate = Some i; last = last }

abbrev pub cursor_spelling : Cursor → Spelling
cursor_spelling (cursor.Up n) = plain (args.Count n) 0x41
cursor_spelling (cursor.Down n) = plain (args.Count n) 0x42
cursor_spelling (cursor.Right n) = plain (args.Count n) 0x43
cursor_spelling (cursor.Left n) = plain (args.Count n) 0x44
cursor_spelling (cursor.NextLine n) = plain (args.Count n) 0x45
cursor_spelling (cursor.PrecedingLine n) = plain (args.Count n) 0x46
cursor_spelling (cursor.CharacterAbsolute n) = plain (args.Count n) 0x47
cursor_spelling (cursor.Position a b) = plain (args.Place a b) 0x48
cursor_spelling (cursor.ForwardTabulation n) = plain (args.Count n) 0x49
cursor_spelling (cursor.LineTabulation n) = plain (args.Count n) 0x59
cursor_spelling (cursor.BackwardTabulation n) = plain (args.Count n) 0x5a
cursor_spelling (cursor.CharacterPositionAbsolute n) = plain (args.Count n) 0x60
cursor_spelling (cursor.CharacterPositionForward n) = plain (args.Count n) 0x61
cursor_spelling (cursor.LinePositionAbsolute n) = plain (args.Count n) 0x64
cursor_spelling (cursor.LinePositionForward n) = plain (args.Count n) 0x65
cursor_spelling (cursor.CharacterAndLinePosition a b) = plain (args.Place a b) 0x66
cursor_spelling (cursor.CharacterPositionBackward n) = plain (args.Count n) 0x6a
cursor_spelling (cursor.LinePositionBackward n) = plain (args.Count n) 0x6b
cursor_spelling (cursor.ActivePositionReport a b) = plain (args.Place a b) 0x52
cursor_spelling (cursor.TabulationClear c) = plain (args.Selector (tabulation_clear_number c)) 0x67
cursor_spelling (cursor.TabulationControl c) = plain (args.Selector
    (cursor_tabulation_control_number c)) 0x57
cursor_spelling (cursor.CursorStyle c) =
    intermediate_spelling (args.Selector (cursor_style_number c)) 0x20 0x71
cursor_spelling (cursor.SetTopAndBottomMargins a b) = plain (args.Margins a b) 0x72
cursor_spelling (cursor.SetLeftAndRightMargins a b) = plain (args.Margins a b) 0x73
cursor_spelling cursor.SaveCursor = plain args.Nothing 0x73
cursor_spelling cursor.RestoreCursor = plain args.Nothing 0x75
cursor_spelling cursor.RequestActivePositionReport = plain (args.Selector 6) 0x6e

abbrev pub device_spelling : Device → Spelling
device_spelling device.RequestPrimaryDeviceAttributes = plain args.Nothing 0x63
device_spelling device.RequestSecondaryDeviceAttributes = private 0x3e args.Nothing 0x63
device_spelling device.RequestTertiaryDeviceAttributes = private 0x3d args.Nothing 0x63
device_spelling device.RequestTerminalNameAndVersion = private 0x3e args.Nothing 0x71
device_spelling device.StatusReport = plain (args.Selector 5) 0x6e
device_spelling device.SoftReset = intermediate_spelling args.Nothing 0x21 0x70

abbrev pub edit_spelling : Edit → Spelling
edit_spelling (edit.InsertCharacter n) = plain (args.Count n) 0x40
edit_spelling (edit.InsertLine n) = plain (args.Count n) 0x4c
edit_spelling (edit.DeleteLine n) = plain (args.Count n) 0x4d
edit_spelling (edit.DeleteCharacter n) = plain (args.Count n) 0x50
edit_spelling (edit.ScrollUp n) = plain (args.Count n) 0x53
edit_spelling (edit.ScrollDown n) = plain (args.Count n) 0x54
edit_spelling (edit.EraseCharacter n) = plain (args.Count n) 0x58
edit_spelling (edit.Repeat n) = plain (args.Count n) 0x62
edit_spelling (edit.ScrollLeft n) = intermediate_spelling (args.Count n) 0x20 0x40
edit_spelling (edit.ScrollRight n) = intermediate_spelling (args.Count n) 0x20 0x41
edit_spelling (edit.InsertColumn n) = intermediate_spelling (args.Count n) 0x27 0x7d
edit_spelling (edit.DeleteColumn n) = intermediate_spelling (args.Count n) 0x27 0x7e
edit_spelling (edit.EraseInDisplay c) = plain (args.Selector (erase_in_display_number c)) 0x4a
edit_spelling (edit.EraseInLine c) = plain (args.Selector (erase_in_line_number c)) 0x4b
edit_spelling (edit.SelectiveEraseInDisplay c) = private 0x3f (args.Selector
    (erase_in_display_number c)) 0x4a
edit_spelling (edit.SelectiveEraseInLine c) = private 0x3f (args.Selector (erase_in_line_number
    c)) 0x4b

abbrev pub keyboard_spelling : Keyboard → Spelling
keyboard_spelling keyboard.QueryKittySupport = private 0x3f args.Nothing 0x75
keyboard_spelling (keyboard.PushKittyState c) = private 0x3e (args.Selector c) 0x75
keyboard_spelling (keyboard.PopKittyState n) = private 0x3c (args.Count n) 0x75
keyboard_spelling (keyboard.SetKittyState a b) = private 0x3d (args.Flags a
    (kitty_flags_change_number b)) 0x75

abbrev pub mouse_spelling : Mouse → Spelling
mouse_spelling (mouse.Pressed a b c) = private 0x3c (args.Report a b c) 0x4d
mouse_spelling (mouse.Released a b c) = private 0x3c (args.Report a b c) 0x6d

abbrev pub window_numbers : Window → Arguments
window_numbers window.DeIconify = args.Numbers 1 None None
window_numbers window.Iconify = args.Numbers 2 None None
window_numbers (window.MoveWindow x y) = args.Numbers 3 (Some x) (Some y)
window_numbers (window.ResizeWindowPixels h w) = args.Numbers 4 h w
window_numbers window.RaiseWindow = args.Numbers 5 None None
window_numbers (window.ReportScreenSizePixelsResponse h w) = args.Numbers 5 (Some h) (Some w)
window_numbers window.LowerWindow = args.Numbers 6 None None
window_numbers (window.ReportCellSizePixelsResponse h w) = args.Numbers 6 (Some h) (Some w)
window_numbers window.RefreshWindow = args.Numbers 7 None None
window_numbers (window.ResizeWindowCells h w) = args.Numbers 8 h w
window_numbers window.RestoreMaximizedWindow = args.Numbers 9 (Some 0) None
window_numbers window.MaximizeWindow = args.Numbers 9 (Some 1) None
window_numbers window.MaximizeWindowVertically = args.Numbers 9 (Some 2) None
window_numbers window.MaximizeWindowHorizontally = args.Numbers 9 (Some 3) None
window_numbers (window.ReportScreenSizeCellsResponse h w) = args.Numbers 9 (Some h) (Some w)
window_numbers window.UndoFullScreenMode = args.Numbers 10 (Some 0) None
window_numbers window.ChangeToFullScreenMode = args.Numbers 10 (Some 1) None
window_numbers window.ToggleFullScreen = args.Numbers 10 (Some 2) None
window_numbers window.ReportWindowState = args.Numbers 11 None None
window_numbers window.ReportWindowPosition = args.Numbers 13 None None
window_numbers window.ReportTextAreaPosition = args.Numbers 13 (Some 2) None
window_numbers window.ReportTextAreaSizePixels = args.Numbers 14 None None
window_numbers window.ReportWindowSizePixels = args.Numbers 14 (Some 2) None
window_numbers window.ReportScreenSizePixels = args.Numbers 15 None None
window_numbers window.ReportCellSizePixels = args.Numbers 16 None None
window_numbers window.ReportTextAreaSizeCells = args.Numbers 18 None None
window_numbers window.ReportScreenSizeCells = args.Numbers 19 None None
window_numbers window.ReportIconLabel = args.Numbers 20 None None
window_numbers window.ReportWindowTitle = args.Numbers 21 None None
window_numbers window.PushIconAndWindowTitle = args.Numbers 22 (Some 0) None
window_numbers window.PushIconTitle = args.Numbers 22 (Some 1) None
window_numbers window.PushWindowTitle = args.Numbers 22 (Some 2) None
window_numbers window.PopIconAndWindowTitle = args.Numbers 23 (Some 0) None
window_numbers window.PopIconTitle = args.Numbers 23 (Some 1) None
window_numbers window.PopWindowTitle = args.Numbers 23 (Some 2) None
window_numbers (window.SetLinesPerPage n) = args.Numbers n None None

abbrev pub window_spelling : Window → Spelling
window_spelling w = plain (window_numbers w) 0x74

abbrev pub mode_status_spelling : ModeStatus → Spelling
mode_status_spelling (mode_status.QueryMode m) =
    intermediate_spelling (args.Numbers m None None) 0x24 0x70
mode_status_spelling (mode_status.QueryDecPrivateMode m) = private_between 0x3f (args.Numbers m None
    None) 0x24 0x70
mode_status_spelling (mode_status.ReportMode m s) =
    intermediate_spelling (args.Numbers m (Some (mode_state_number
    s)) None) 0x24 0x79
mode_status_spelling (mode_status.ReportDecPrivateMode m s) = private_between 0x3f (args.Numbers m
    (Some (mode_state_number s)) None) 0x24 0x79
