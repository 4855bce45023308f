-- The effects of control functions, by their names.
use Rattle.std.specs.Prelude.{Bool, true, false}
use Rattle.control_functions.specs.declared.effect.Effect.{Effect}
use Rattle.control_functions.specs.declared.effect.Effect.TheVariants as effect
use Rattle.control_functions.specs.declared.control_function.ControlFunction.{ControlFunction}
use Rattle.control_functions.specs.declared.control_function.ControlFunction.TheVariants as variant

abbrev pub is_screen_effect : Effect → Bool
is_screen_effect effect.Screen = true
is_screen_effect _ = false

abbrev pub is_answered_effect : Effect → Bool
is_answered_effect effect.Answered = true
is_answered_effect _ = false

-- the functions that change the screen alone
unfoldable pub changes_screen : ControlFunction → Bool
changes_screen variant.ICH = true
changes_screen variant.SL = true
changes_screen variant.CUU = true
changes_screen variant.SR = true
changes_screen variant.CUD = true
changes_screen variant.CUF = true
changes_screen variant.CUB = true
changes_screen variant.CNL = true
changes_screen variant.CPL = true
changes_screen variant.CHA = true
changes_screen variant.CUP = true
changes_screen variant.CHT = true
changes_screen variant.ED = true
changes_screen variant.DECSED = true
changes_screen variant.EL = true
changes_screen variant.DECSEL = true
changes_screen variant.IL = true
changes_screen variant.DL = true
changes_screen variant.DCH = true
changes_screen variant.SU = true
changes_screen variant.SD = true
changes_screen variant.KITTYUNSCROLL = true
changes_screen variant.CTC = true
changes_screen variant.DECST8C = true
changes_screen variant.ECH = true
changes_screen variant.CBT = true
changes_screen variant.HPA = true
changes_screen variant.HPR = true
changes_screen variant.REP = true
changes_screen variant.VPA = true
changes_screen variant.VPR = true
changes_screen variant.HVP = true
changes_screen variant.TBC = true
changes_screen variant.HPB = true
changes_screen variant.VPB = true
changes_screen variant.SGR = true
changes_screen variant.XTPUSHSGR = true
changes_screen variant.DECSCUSR = true
changes_screen variant.XTPOPSGR = true
changes_screen variant.DECSTBM = true
changes_screen variant.DECCARA = true
changes_screen variant.SCOSC = true
changes_screen variant.DECSLRM = true
changes_screen variant.DECRARA = true
changes_screen variant.SCORC = true
changes_screen variant.DECCRA = true
changes_screen variant.DECFRA = true
changes_screen variant.DECERA = true
changes_screen variant.XTPUSHSGR_2 = true
changes_screen variant.DECSERA = true
changes_screen variant.XTPOPSGR_2 = true
changes_screen variant.DECIC = true
changes_screen variant.DECDC = true
changes_screen _ = false

-- the functions that a terminal answers
unfoldable pub is_answered : ControlFunction → Bool
is_answered variant.XTREPORTCOLORS = true
is_answered variant.XTTITLEPOS = true
is_answered variant.XTSMGRAPHICS = true
is_answered variant.DA1 = true
is_answered variant.DA3 = true
is_answered variant.DA2 = true
is_answered variant.XTQFMTKEYS = true
is_answered variant.XTQMODKEYS = true
is_answered variant.DSR = true
is_answered variant.DECDSR = true
is_answered variant.DECRQM_ANSI = true
is_answered variant.DECSR = true
is_answered variant.DECRQM = true
is_answered variant.XTVERSION = true
is_answered variant.KITTYCURSORS = true
is_answered variant.XTWINOPS = true
is_answered variant.DECRQTSR = true
is_answered variant.DECRQUPSS = true
is_answered variant.DECRQKT = true
is_answered variant.KITTYQUERY = true
is_answered variant.DECRQDE = true
is_answered variant.DECRQPSR = true
is_answered variant.DECRQKD = true
is_answered variant.DECREQTPARM = true
is_answered variant.DECRQPKFM = true
is_answered variant.DECRQCRA = true
is_answered variant.DECELR = true
is_answered variant.XTREPORTSGR = true
is_answered variant.DECRQLP = true
is_answered _ = false
