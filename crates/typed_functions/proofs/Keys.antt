-- The control functions of the typed values, by their keys.
use Rattle.std.proofs.Common.{◌≡◌, Some, refl}
use Rattle.control_functions.specs.declared.control_function.ControlFunction.TheVariants as control
use Rattle.control_functions.specs.Functions.{function_of, rows_of}

pub CUU : function_of 321 ≡ Some control.CUU
unfolding function_of rows_of
CUU = refl

pub CUD : function_of 322 ≡ Some control.CUD
unfolding function_of rows_of
CUD = refl

pub CUF : function_of 323 ≡ Some control.CUF
unfolding function_of rows_of
CUF = refl

pub CUB : function_of 324 ≡ Some control.CUB
unfolding function_of rows_of
CUB = refl

pub CNL : function_of 325 ≡ Some control.CNL
unfolding function_of rows_of
CNL = refl

pub CPL : function_of 326 ≡ Some control.CPL
unfolding function_of rows_of
CPL = refl

pub CHA : function_of 327 ≡ Some control.CHA
unfolding function_of rows_of
CHA = refl

pub CUP : function_of 328 ≡ Some control.CUP
unfolding function_of rows_of
CUP = refl

pub CHT : function_of 329 ≡ Some control.CHT
unfolding function_of rows_of
CHT = refl

pub CVT : function_of 345 ≡ Some control.CVT
unfolding function_of rows_of
CVT = refl

pub CBT : function_of 346 ≡ Some control.CBT
unfolding function_of rows_of
CBT = refl

pub HPA : function_of 352 ≡ Some control.HPA
unfolding function_of rows_of
HPA = refl

pub HPR : function_of 353 ≡ Some control.HPR
unfolding function_of rows_of
HPR = refl

pub VPA : function_of 356 ≡ Some control.VPA
unfolding function_of rows_of
VPA = refl

pub VPR : function_of 357 ≡ Some control.VPR
unfolding function_of rows_of
VPR = refl

pub HVP : function_of 358 ≡ Some control.HVP
unfolding function_of rows_of
HVP = refl

pub HPB : function_of 362 ≡ Some control.HPB
unfolding function_of rows_of
HPB = refl

pub VPB : function_of 363 ≡ Some control.VPB
unfolding function_of rows_of
VPB = refl

pub CPR : function_of 338 ≡ Some control.CPR
unfolding function_of rows_of
CPR = refl

pub TBC : function_of 359 ≡ Some control.TBC
unfolding function_of rows_of
TBC = refl

pub CTC : function_of 343 ≡ Some control.CTC
unfolding function_of rows_of
CTC = refl

pub DECSCUSR : function_of 73841 ≡ Some control.DECSCUSR
unfolding function_of rows_of
DECSCUSR = refl

pub DECSTBM : function_of 370 ≡ Some control.DECSTBM
unfolding function_of rows_of
DECSTBM = refl

pub DECSLRM : function_of 627 ≡ Some control.DECSLRM
unfolding function_of rows_of
DECSLRM = refl

pub SCOSC : function_of 371 ≡ Some control.SCOSC
unfolding function_of rows_of
SCOSC = refl

pub SCORC : function_of 373 ≡ Some control.SCORC
unfolding function_of rows_of
SCORC = refl

pub ICH : function_of 320 ≡ Some control.ICH
unfolding function_of rows_of
ICH = refl

pub IL : function_of 332 ≡ Some control.IL
unfolding function_of rows_of
IL = refl

pub DL : function_of 333 ≡ Some control.DL
unfolding function_of rows_of
DL = refl

pub DCH : function_of 336 ≡ Some control.DCH
unfolding function_of rows_of
DCH = refl

pub SU : function_of 339 ≡ Some control.SU
unfolding function_of rows_of
SU = refl

pub SD : function_of 340 ≡ Some control.SD
unfolding function_of rows_of
SD = refl

pub ECH : function_of 344 ≡ Some control.ECH
unfolding function_of rows_of
ECH = refl

pub REP : function_of 354 ≡ Some control.REP
unfolding function_of rows_of
REP = refl

pub SL : function_of 73792 ≡ Some control.SL
unfolding function_of rows_of
SL = refl

pub SR : function_of 73793 ≡ Some control.SR
unfolding function_of rows_of
SR = refl

pub DECIC : function_of 75645 ≡ Some control.DECIC
unfolding function_of rows_of
DECIC = refl

pub DECDC : function_of 75646 ≡ Some control.DECDC
unfolding function_of rows_of
DECDC = refl

pub ED : function_of 330 ≡ Some control.ED
unfolding function_of rows_of
ED = refl

pub EL : function_of 331 ≡ Some control.EL
unfolding function_of rows_of
EL = refl

pub DECSED : function_of 81738 ≡ Some control.DECSED
unfolding function_of rows_of
DECSED = refl

pub DECSEL : function_of 81739 ≡ Some control.DECSEL
unfolding function_of rows_of
DECSEL = refl

pub DSR : function_of 366 ≡ Some control.DSR
unfolding function_of rows_of
DSR = refl

pub DA1 : function_of 355 ≡ Some control.DA1
unfolding function_of rows_of
DA1 = refl

pub DA2 : function_of 81507 ≡ Some control.DA2
unfolding function_of rows_of
DA2 = refl

pub DA3 : function_of 81251 ≡ Some control.DA3
unfolding function_of rows_of
DA3 = refl

pub XTVERSION : function_of 81521 ≡ Some control.XTVERSION
unfolding function_of rows_of
XTVERSION = refl

pub DECSTR : function_of 74096 ≡ Some control.DECSTR
unfolding function_of rows_of
DECSTR = refl

pub KITTYQUERY : function_of 81781 ≡ Some control.KITTYQUERY
unfolding function_of rows_of
KITTYQUERY = refl

pub KITTYPUSH : function_of 81525 ≡ Some control.KITTYPUSH
unfolding function_of rows_of
KITTYPUSH = refl

pub KITTYPOP : function_of 81013 ≡ Some control.KITTYPOP
unfolding function_of rows_of
KITTYPOP = refl

pub KITTYSET : function_of 81269 ≡ Some control.KITTYSET
unfolding function_of rows_of
KITTYSET = refl

pub MOUSE : function_of 80973 ≡ Some control.MOUSE
unfolding function_of rows_of
MOUSE = refl

pub MOUSEUP : function_of 81005 ≡ Some control.MOUSEUP
unfolding function_of rows_of
MOUSEUP = refl

pub XTWINOPS : function_of 372 ≡ Some control.XTWINOPS
unfolding function_of rows_of
XTWINOPS = refl

pub DECRQM_ANSI : function_of 74864 ≡ Some control.DECRQM_ANSI
unfolding function_of rows_of
DECRQM_ANSI = refl

pub DECRQM : function_of 20915312 ≡ Some control.DECRQM
unfolding function_of rows_of
DECRQM = refl

pub DECRPM_ANSI : function_of 74873 ≡ Some control.DECRPM_ANSI
unfolding function_of rows_of
DECRPM_ANSI = refl

pub DECRPM : function_of 20915321 ≡ Some control.DECRPM
unfolding function_of rows_of
DECRPM = refl
