-- The operations of a window, by their numbers (xterm's list, XTWINOPS; DECSLPP).
use Rattle.std.specs.Prelude.{ℕ, ◌==◌, ◌≤◌, nat_le, if◌then◌else◌, Option, Some, None, Result, Ok, Err}
use Rattle.typed_functions.specs.declared.unfit.Unfit.{Unfit}
use Rattle.typed_functions.specs.declared.unfit.Unfit.TheVariants as unfit
use Rattle.typed_functions.specs.declared.window.Window.{Window}
use Rattle.typed_functions.specs.declared.window.Window.TheVariants as window

-- an operation that takes no more numbers
abbrev pub lone_window : Window → Option ℕ → Option ℕ → Result Window Unfit
lone_window w None None = Ok w
lone_window w None (Some b) = Err unfit.TooMany
lone_window w (Some a) b = Err unfit.TooMany

-- 3 and a place, which has no default
abbrev pub window_move : Option ℕ → Option ℕ → Result Window Unfit
window_move None y = Err unfit.TooFew
window_move (Some x) None = Err unfit.TooFew
window_move (Some x) (Some y) = Ok (window.MoveWindow x y)

-- 5 and 6 raise and lower it, and report a size if one follows
abbrev pub window_raise : Option ℕ → Option ℕ → Result Window Unfit
window_raise None None = Ok window.RaiseWindow
window_raise None (Some w) = Err unfit.TooFew
window_raise (Some h) None = Err unfit.TooFew
window_raise (Some h) (Some w) = Ok (window.ReportScreenSizePixelsResponse h w)

abbrev pub window_lower : Option ℕ → Option ℕ → Result Window Unfit
window_lower None None = Ok window.LowerWindow
window_lower None (Some w) = Err unfit.TooFew
window_lower (Some h) None = Err unfit.TooFew
window_lower (Some h) (Some w) = Ok (window.ReportCellSizePixelsResponse h w)

-- 9 and a choice, or a size
abbrev pub window_maximize : Option ℕ → Option ℕ → Result Window Unfit
window_maximize None b = Err unfit.TooFew
window_maximize (Some n) None = if n == 0 then Ok window.RestoreMaximizedWindow
    else if n == 1 then Ok window.MaximizeWindow
    else if n == 2 then Ok window.MaximizeWindowVertically
    else if n == 3 then Ok window.MaximizeWindowHorizontally
    else Err unfit.OutOfRange
window_maximize (Some h) (Some w) = Ok (window.ReportScreenSizeCellsResponse h w)

-- 10 and a choice
abbrev pub window_fill : Option ℕ → Option ℕ → Result Window Unfit
window_fill None None = Err unfit.TooFew
window_fill (Some n) None = if n == 0 then Ok window.UndoFullScreenMode
    else if n == 1 then Ok window.ChangeToFullScreenMode
    else if n == 2 then Ok window.ToggleFullScreen
    else Err unfit.OutOfRange
window_fill a (Some b) = Err unfit.TooMany

-- 13 and 14, alone or before 2
abbrev pub window_place : Option ℕ → Option ℕ → Result Window Unfit
window_place None None = Ok window.ReportWindowPosition
window_place (Some n) None =
    if n == 2 then Ok window.ReportTextAreaPosition else Err unfit.OutOfRange
window_place a (Some b) = Err unfit.TooMany

abbrev pub window_size : Option ℕ → Option ℕ → Result Window Unfit
window_size None None = Ok window.ReportTextAreaSizePixels
window_size (Some n) None =
    if n == 2 then Ok window.ReportWindowSizePixels else Err unfit.OutOfRange
window_size a (Some b) = Err unfit.TooMany

-- 22 and 23, and which titles; after that there may be 0
abbrev pub pushed_title : ℕ → Result Window Unfit
pushed_title n = if n == 0 then Ok window.PushIconAndWindowTitle
    else if n == 1 then Ok window.PushIconTitle
    else if n == 2 then Ok window.PushWindowTitle
    else Err unfit.OutOfRange

abbrev pub title_push : Option ℕ → Option ℕ → Result Window Unfit
title_push None b = Err unfit.TooFew
title_push (Some n) None = pushed_title n
title_push (Some n) (Some b) = if b == 0 then pushed_title n else Err unfit.OutOfRange

abbrev pub popped_title : ℕ → Result Window Unfit
popped_title n = if n == 0 then Ok window.PopIconAndWindowTitle
    else if n == 1 then Ok window.PopIconTitle
    else if n == 2 then Ok window.PopWindowTitle
    else Err unfit.OutOfRange

abbrev pub title_pop : Option ℕ → Option ℕ → Result Window Unfit
title_pop None b = Err unfit.TooFew
title_pop (Some n) None = popped_title n
title_pop (Some n) (Some b) = if b == 0 then popped_title n else Err unfit.OutOfRange

-- those of 11 to 21 ask for a report
abbrev pub reports : ℕ → Option ℕ → Option ℕ → Result Window Unfit
reports n a b = if n == 11 then lone_window window.ReportWindowState a b
    else if n == 13 then window_place a b
    else if n == 14 then window_size a b
    else if n == 15 then lone_window window.ReportScreenSizePixels a b
    else if n == 16 then lone_window window.ReportCellSizePixels a b
    else if n == 18 then lone_window window.ReportTextAreaSizeCells a b
    else if n == 19 then lone_window window.ReportScreenSizeCells a b
    else if n == 20 then lone_window window.ReportIconLabel a b
    else if n == 21 then lone_window window.ReportWindowTitle a b
    else Err unfit.OutOfRange

abbrev pub operation_below : ℕ → Option ℕ → Option ℕ → Result Window Unfit
operation_below n a b = if n == 1 then lone_window window.DeIconify a b
    else if n == 2 then lone_window window.Iconify a b
    else if n == 3 then window_move a b
    else if n == 4 then Ok (window.ResizeWindowPixels a b)
    else if n == 5 then window_raise a b
    else if n == 6 then window_lower a b
    else if n == 7 then lone_window window.RefreshWindow a b
    else if n == 8 then Ok (window.ResizeWindowCells a b)
    else if n == 9 then window_maximize a b
    else if n == 10 then window_fill a b
    else if n == 22 then title_push a b
    else if n == 23 then title_pop a b
    else reports n a b

-- the operation of this number, with up to two more: from 24 on it is a count of lines
abbrev pub operation : ℕ → Option ℕ → Option ℕ → Result Window Unfit
operation n a b = if nat_le 24 n then lone_window (window.SetLinesPerPage n) a b
    else operation_below n a b

-- a page has at least 24 lines
abbrev pub IsWindow : Window → Type 0
IsWindow (window.SetLinesPerPage n) = 24 ≤ n
IsWindow _ = Unit {0}
