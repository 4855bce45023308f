-- A terminal, as far as control functions leave it changed.
use Rattle.std.specs.Prelude.{ℕ, Bool, true, false, not, ◌==◌, ◌||◌, pos, negsuc, if◌then◌else◌, List, [], ◌∷◌, Option, None, Some}
use Rattle.esc_values.specs.declared.csi_param.CsiParam.{CsiParam}
use Rattle.esc_values.specs.declared.csi_param.CsiParam.TheVariants.{Integer, P}
use Rattle.control_functions.specs.declared.control_function.ControlFunction.{ControlFunction}
use Rattle.control_functions.specs.declared.control_function.ControlFunction.TheVariants as function
use Rattle.control_functions.specs.declared.escape_function.EscapeFunction.{EscapeFunction}
use Rattle.control_functions.specs.declared.escape_function.EscapeFunction.TheVariants as escape
use Rattle.esc_filter.specs.declared.terminal.Change.{Change}
use Rattle.esc_filter.specs.declared.terminal.Change.TheVariants as change
use Rattle.esc_filter.specs.declared.kept_modes.Modes.{Modes}
use Rattle.esc_filter.specs.declared.saved.Saved.{Saved}
use Rattle.esc_filter.specs.declared.terminal.Screen.{Screen}
use Rattle.esc_filter.specs.declared.terminal.Screen.TheVariants as screen
use Rattle.esc_filter.specs.declared.saved.Sets.{Sets}
use Rattle.esc_filter.specs.declared.terminal.Terminal.{Terminal}

-- ---- as at the start

abbrev pub no_sets : Sets
no_sets = record { g0 = false; g1 = false; g2 = false; g3 = false; shifted = false }

abbrev pub nothing_saved : Saved
nothing_saved = record { rendition = false; origin = false; sets = no_sets }

abbrev pub no_modes : Modes
no_modes = record {
  reverse = false;
  origin = false;
  no_wrap = false;
  hidden = false;
  alternate = false;
  sides = false;
  held = false;
}

abbrev pub as_at_start : Terminal
as_at_start = record {
  rendition = false;
  link = false;
  insert = false;
  origin = false;
  margins = false;
  sides = false;
  hidden = false;
  reverse = false;
  no_wrap = false;
  held = false;
  sets = no_sets;
  screen = screen.Main;
  saved = nothing_saved;
  saved_aside = nothing_saved;
  kept = no_modes;
}

abbrev pub is_main : Screen → Bool
is_main screen.Main = true
is_main _ = false

abbrev pub are_changed_sets : Sets → Bool
are_changed_sets s = s.shifted || (s.g0 || (s.g1 || (s.g2 || s.g3)))

abbrev pub is_changed_saved : Saved → Bool
is_changed_saved s = s.rendition || (s.origin || are_changed_sets s.sets)

-- a mode of the screen, or margins
abbrev pub is_changed_mode : Terminal → Bool
is_changed_mode t =
    t.insert || (t.origin || (t.margins || (t.sides || (t.hidden || (t.reverse || (t.no_wrap
    || t.held))))))

-- Whether anything is changed, but for the state saved on the alternate screen and the modes that
-- XTSAVE kept, which only a user of these sees
abbrev pub is_changed : Terminal → Bool
is_changed t =
    t.rendition || (t.link || (not (is_main t.screen) || (is_changed_mode t
    || (are_changed_sets t.sets || is_changed_saved t.saved))))

-- ---- the state that is saved with the cursor (DECSC and DECRC, in the manual of the VT510)

abbrev pub saved_of : Terminal → Saved
saved_of t = record { rendition = t.rendition; origin = t.origin; sets = t.sets }

-- with that of the main screen, or of the alternate one
abbrev pub saved_on : Bool → Terminal → Terminal
saved_on true t = record t { saved = saved_of t }
saved_on false t = record t { saved_aside = saved_of t }

abbrev pub save : Terminal → Terminal
save t = saved_on (is_main t.screen) t

-- not as at the start, if one of two is not
abbrev pub either_sets : Sets → Sets → Sets
either_sets a b = record {
  g0 = a.g0 || b.g0;
  g1 = a.g1 || b.g1;
  g2 = a.g2 || b.g2;
  g3 = a.g3 || b.g3;
  shifted = a.shifted || b.shifted;
}

-- Not every terminal saves all of it, so a present change is taken to stay.
abbrev pub restored_terminal : Saved → Terminal → Terminal
restored_terminal s t = record t {
  rendition = t.rendition || s.rendition;
  origin = t.origin || s.origin;
  sets = either_sets t.sets s.sets;
}

abbrev pub restored_on : Bool → Terminal → Terminal
restored_on true t = restored_terminal t.saved t
restored_on false t = restored_terminal t.saved_aside t

abbrev pub restore : Terminal → Terminal
restore t = restored_on (is_main t.screen) t

-- ---- modes

-- the alternate screen, by this mode, or the main one
abbrev pub screen_shown : Screen → Bool → Terminal → Terminal
screen_shown s true t = record t { screen = s }
screen_shown s false t = record t { screen = screen.Main }

-- mode 1049 saves the cursor and shows the alternate screen; its reset shows the main one, and
-- restores the cursor
abbrev pub with_cursor : Bool → Terminal → Terminal
with_cursor true t = screen_shown screen.WithCursor true (save t)
with_cursor false t = restore (screen_shown screen.WithCursor false t)

-- mode 1048 saves the cursor, and its reset restores it
abbrev pub cursor_kept : Bool → Terminal → Terminal
cursor_kept true t = save t
cursor_kept false t = restore t

-- after a private mode of this number was set, or reset
abbrev pub after_private : ℕ → Bool → Terminal → Terminal
after_private n b t =
    if n == 5 then record t { reverse = b }
    else if n == 6 then record t { origin = b }
    else if n == 7 then record t { no_wrap = not b }
    else if n == 25 then record t { hidden = not b }
    else if n == 47 then screen_shown screen.Alternate b t
    else if n == 69 then record t { sides = b }
    else if n == 1047 then screen_shown screen.Cleared b t
    else if n == 1048 then cursor_kept b t
    else if n == 1049 then with_cursor b t
    else if n == 2026 then record t { held = b }
    else t

-- the same for a mode of ECMA-48
abbrev pub after_mode : ℕ → Bool → Terminal → Terminal
after_mode n b t = if n == 4 then record t { insert = b } else t

-- after XTSAVE kept the private mode of this number
abbrev pub kept_mode : ℕ → Terminal → Terminal
kept_mode n t =
    if n == 5 then record t { kept = record t.kept { reverse = t.reverse } }
    else if n == 6 then record t { kept = record t.kept { origin = t.origin } }
    else if n == 7 then record t { kept = record t.kept { no_wrap = t.no_wrap } }
    else if n == 25 then record t { kept = record t.kept { hidden = t.hidden } }
    else if (n == 47) || ((n == 1047) || (n == 1049)) then
    record t { kept = record t.kept { alternate = not (is_main t.screen) } }
    else if n == 69 then record t { kept = record t.kept { sides = t.sides } }
    else if n == 2026 then record t { kept = record t.kept { held = t.held } }
    else t

-- whether the mode of this number is set after XTRESTORE restored the modes that were kept
abbrev pub was_set : ℕ → Modes → Bool
was_set n m =
    if n == 5 then m.reverse
    else if n == 6 then m.origin
    else if n == 7 then not m.no_wrap
    else if n == 25 then not m.hidden
    else if n == 69 then m.sides
    else if n == 2026 then m.held
    else m.alternate

-- after XTRESTORE set it as it was kept; of 1048 nothing is
abbrev pub mode_restored : ℕ → Terminal → Terminal
mode_restored n t = if n == 1048 then t else after_private n (was_set n t.kept) t

-- ---- control functions

abbrev pub after_change : Change → ℕ → Terminal → Terminal
after_change (change.Mode b) n t = after_mode n b t
after_change (change.PrivateMode b) n t = after_private n b t
after_change change.Keep n t = kept_mode n t
after_change change.SetAgain n t = mode_restored n t

abbrev pub after_param : Change → CsiParam → Terminal → Terminal
after_param c (Integer (pos n)) t = after_change c n t
after_param c (Integer (negsuc n)) t = t
after_param c (P b) t = t

-- the modes of these numbers, one after another
abbrev pub after_params : Change → List CsiParam → Terminal → Terminal
after_params c [] t = t
after_params c (e ∷ es) t = after_params c es (after_param c e t)

abbrev pub has_params : List CsiParam → Bool
has_params [] = false
has_params (e ∷ es) = true

-- renditions may be on
abbrev pub with_renditions : Terminal → Terminal
with_renditions t = record t { rendition = true }

-- After a control sequence of this function. XTPOPSGR does not know the renditions that XTPUSHSGR
-- put aside; DECSTR lets lines wrap no more (VT510), and all else that it resets is taken for
-- changed.
unfoldable pub after_function : ControlFunction → List CsiParam → Terminal → Terminal
after_function function.SGR es t = with_renditions t
after_function function.SM es t = after_params (change.Mode true) es t
after_function function.RM es t = after_params (change.Mode false) es t
after_function function.DECSET es t = after_params (change.PrivateMode true) es t
after_function function.DECRST es t = after_params (change.PrivateMode false) es t
after_function function.XTSAVE es t = after_params change.Keep es t
after_function function.XTRESTORE es t = after_params change.SetAgain es t
after_function function.DECSTBM es t = record t { margins = has_params es }
after_function function.SCOSC es t = save t
after_function function.SCORC es t = restore t
after_function function.XTPOPSGR es t = with_renditions t
after_function function.XTPOPSGR_2 es t = with_renditions t
after_function function.DECSTR es t = record t { no_wrap = true }
after_function f es t = t

abbrev pub after_named : Option ControlFunction → List CsiParam → Terminal → Terminal
after_named None es t = t
after_named (Some f) es t = after_function f es t

-- whether a final byte designates another character set than US-ASCII
abbrev pub is_other_set : ℕ → Bool
is_other_set b = not (b == 0x42)

-- After an escape sequence of this function with this final byte. A set of 96 characters or of
-- several bytes each is none of those at the start.
unfoldable pub after_escape_function : EscapeFunction → ℕ → Terminal → Terminal
after_escape_function escape.DECSC b t = save t
after_escape_function escape.DECRC b t = restore t
after_escape_function escape.GZD4 b t = record t { sets = record t.sets { g0 = is_other_set b } }
after_escape_function escape.G1D4 b t = record t { sets = record t.sets { g1 = is_other_set b } }
after_escape_function escape.G2D4 b t = record t { sets = record t.sets { g2 = is_other_set b } }
after_escape_function escape.G3D4 b t = record t { sets = record t.sets { g3 = is_other_set b } }
after_escape_function escape.GZDM4 b t = record t { sets = record t.sets { g0 = true } }
after_escape_function escape.G1D6 b t = record t { sets = record t.sets { g1 = true } }
after_escape_function escape.G2D6 b t = record t { sets = record t.sets { g2 = true } }
after_escape_function escape.G3D6 b t = record t { sets = record t.sets { g3 = true } }
after_escape_function escape.LS2 b t = record t { sets = record t.sets { shifted = true } }
after_escape_function escape.LS3 b t = record t { sets = record t.sets { shifted = true } }
after_escape_function f b t = t

abbrev pub after_named_escape : Option EscapeFunction → ℕ → Terminal → Terminal
after_named_escape None b t = t
after_named_escape (Some f) b t = after_escape_function f b t
