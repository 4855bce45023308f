-- The effects of escape sequences and C1 controls, by their names.
use Rattle.std.specs.Prelude.{Bool, true, false}
use Rattle.control_functions.specs.declared.escape_function.EscapeFunction.{EscapeFunction}
use Rattle.control_functions.specs.declared.escape_function.EscapeFunction.TheVariants as variant

-- the escape sequences and C1 controls that change the screen alone
unfoldable pub changes_screen : EscapeFunction → Bool
changes_screen variant.DECDHLT = true
changes_screen variant.DECDHLB = true
changes_screen variant.DECSWL = true
changes_screen variant.DECBI = true
changes_screen variant.DECDWL = true
changes_screen variant.DECSC = true
changes_screen variant.DECRC = true
changes_screen variant.DECALN = true
changes_screen variant.DECFI = true
changes_screen variant.IND = true
changes_screen variant.NEL = true
changes_screen variant.HTS = true
changes_screen variant.RI = true
changes_screen _ = false

-- those that a terminal answers
unfoldable pub is_answered : EscapeFunction → Bool
is_answered variant.DECID = true
is_answered _ = false
