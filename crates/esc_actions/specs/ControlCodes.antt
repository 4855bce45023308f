-- The numbers of the control codes (ECMA-48, 5.2 and 5.3).
use Rattle.std.specs.Prelude.{ℕ, ◌==◌, if◌then◌else◌, List, [], ◌∷◌, Option, Some, None}
use Rattle.esc_actions.specs.declared.control_code.ControlCode.{ControlCode}
use Rattle.esc_actions.specs.declared.control_code.ControlCode.TheVariants as code

abbrev pub code_number : ControlCode → ℕ
code_number code.Null = 0x00
code_number code.StartOfHeading = 0x01
code_number code.StartOfText = 0x02
code_number code.EndOfText = 0x03
code_number code.EndOfTransmission = 0x04
code_number code.Enquiry = 0x05
code_number code.Acknowledge = 0x06
code_number code.Bell = 0x07
code_number code.Backspace = 0x08
code_number code.HorizontalTab = 0x09
code_number code.LineFeed = 0x0a
code_number code.VerticalTab = 0x0b
code_number code.FormFeed = 0x0c
code_number code.CarriageReturn = 0x0d
code_number code.ShiftOut = 0x0e
code_number code.ShiftIn = 0x0f
code_number code.DataLinkEscape = 0x10
code_number code.DeviceControlOne = 0x11
code_number code.DeviceControlTwo = 0x12
code_number code.DeviceControlThree = 0x13
code_number code.DeviceControlFour = 0x14
code_number code.NegativeAcknowledge = 0x15
code_number code.SynchronousIdle = 0x16
code_number code.EndOfTransmissionBlock = 0x17
code_number code.Cancel = 0x18
code_number code.EndOfMedium = 0x19
code_number code.Substitute = 0x1a
code_number code.Escape = 0x1b
code_number code.FileSeparator = 0x1c
code_number code.GroupSeparator = 0x1d
code_number code.RecordSeparator = 0x1e
code_number code.UnitSeparator = 0x1f
code_number code.BPH = 0x82
code_number code.NBH = 0x83
code_number code.IND = 0x84
code_number code.NEL = 0x85
code_number code.SSA = 0x86
code_number code.ESA = 0x87
code_number code.HTS = 0x88
code_number code.HTJ = 0x89
code_number code.VTS = 0x8a
code_number code.PLD = 0x8b
code_number code.PLU = 0x8c
code_number code.RI = 0x8d
code_number code.SS2 = 0x8e
code_number code.SS3 = 0x8f
code_number code.DCS = 0x90
code_number code.PU1 = 0x91
code_number code.PU2 = 0x92
code_number code.STS = 0x93
code_number code.CCH = 0x94
code_number code.MW = 0x95
code_number code.SPA = 0x96
code_number code.EPA = 0x97
code_number code.SOS = 0x98
code_number code.SCI = 0x9a
code_number code.CSI = 0x9b
code_number code.ST = 0x9c
code_number code.OSC = 0x9d
code_number code.PM = 0x9e
code_number code.APC = 0x9f

-- every code
abbrev pub all_codes : List ControlCode
all_codes =
    code.Null ∷ code.StartOfHeading ∷ code.StartOfText ∷ code.EndOfText ∷ code.EndOfTransmission
    ∷ code.Enquiry ∷ code.Acknowledge ∷ code.Bell ∷ code.Backspace
    ∷ code.HorizontalTab ∷ code.LineFeed ∷ code.VerticalTab ∷ code.FormFeed ∷ code.CarriageReturn
    ∷ code.ShiftOut ∷ code.ShiftIn ∷ code.DataLinkEscape
    ∷ code.DeviceControlOne ∷ code.DeviceControlTwo ∷ code.DeviceControlThree
    ∷ code.DeviceControlFour ∷ code.NegativeAcknowledge ∷ code.SynchronousIdle
    ∷ code.EndOfTransmissionBlock ∷ code.Cancel ∷ code.EndOfMedium ∷ code.Substitute ∷ code.Escape
    ∷ code.FileSeparator ∷ code.GroupSeparator
    ∷ code.RecordSeparator ∷ code.UnitSeparator ∷ code.BPH ∷ code.NBH ∷ code.IND ∷ code.NEL
    ∷ code.SSA ∷ code.ESA ∷ code.HTS ∷ code.HTJ ∷ code.VTS ∷ code.PLD
    ∷ code.PLU ∷ code.RI ∷ code.SS2 ∷ code.SS3 ∷ code.DCS ∷ code.PU1 ∷ code.PU2 ∷ code.STS
    ∷ code.CCH ∷ code.MW ∷ code.SPA ∷ code.EPA ∷ code.SOS ∷ code.SCI
    ∷ code.CSI ∷ code.ST ∷ code.OSC ∷ code.PM ∷ code.APC ∷ []

-- the first of these codes with the number b
abbrev pub first_numbered : List ControlCode → ℕ → Option ControlCode
first_numbered [] b = None
first_numbered (c ∷ cs) b = if b == code_number c then Some c else first_numbered cs b

-- the code with the number b: none if that is 80, 81, 99, or past 9F
unfoldable pub code_of : ℕ → Option ControlCode
code_of b = first_numbered all_codes b
