-- Which of iTerm2's proprietary commands read back from their text.
use Rattle.std.specs.Prelude.{ℕ, ◌≡◌, ◌<◌, ◌^◌, List, ◌∷◌, codes, Option, Some, None}
use Rattle.std.specs.Str.{IsUtf8}
use Rattle.esc_values.specs.Clear.{IsClearPart, AreClearParts, semicolon_list}
use Rattle.esc_values.specs.Cuts.{cut_at}
use Rattle.esc_iterm.specs.Files.{IsWritableFile}
use Rattle.esc_iterm.specs.ITerms.{iterm_of, iterm_text}
use Rattle.esc_iterm.specs.declared.proprietary.ITermProprietary.{ITermProprietary}
use Rattle.esc_iterm.specs.declared.proprietary.ITermProprietary.TheVariants as iterm
use Rattle.esc_iterm.specs.declared.unicode_version.ITermUnicodeVersionOp.{ITermUnicodeVersionOp}
use Rattle.esc_iterm.specs.declared.unicode_version.ITermUnicodeVersionOp.TheVariants as version

-- a label is a clear part
abbrev pub IsLabel : Option (List ℕ) → Type 0
IsLabel None = Unit {0}
IsLabel (Some l) = IsClearPart l

-- a number of 8 bits, or a label
abbrev pub IsVersion : {A : Type 0} → ITermUnicodeVersionOp A → Type 0
IsVersion (version.Set n) = n < 2 ^ 8
IsVersion (version.Push l) = IsLabel l
IsVersion (version.Pop l) = IsLabel l

-- a scale has 32 bits
abbrev pub IsScale : Option ℕ → Type 0
IsScale None = Unit {0}
IsScale (Some s) = s < 2 ^ 32

-- directories, profiles and clipboards are clear parts, names of variables clear parts without `=`,
-- texts in base64 any text, numbers of 32 bits; the report of a variable is not read
abbrev pub IsWritableITerm : {A : Type 0} → ITermProprietary A → Type 0
IsWritableITerm (iterm.CurrentDir t) = IsClearPart t
IsWritableITerm (iterm.SetProfile t) = IsClearPart t
IsWritableITerm (iterm.CopyToClipboard t) = IsClearPart t
IsWritableITerm (iterm.ReportCellSize h w s) = (h < 2 ^ 32) × (w < 2 ^ 32) × IsScale s
IsWritableITerm (iterm.Copy t) = IsUtf8 t
IsWritableITerm (iterm.ReportVariable t) = ⊥
IsWritableITerm (iterm.SetUserVar n t) = IsClearPart n × (cut_at 0x3d n ≡ None) × IsUtf8 t
IsWritableITerm (iterm.SetBadgeFormat t) = IsUtf8 t
IsWritableITerm (iterm.File d) = IsWritableFile d
IsWritableITerm (iterm.UnicodeVersion v) = IsVersion v
IsWritableITerm c = Unit {0}

-- the command is written as its code and clear parts, and these parts mean it
abbrev pub WritesBack : {A : Type 0} → ITermProprietary A → Type 0
WritesBack c = (args : List (List ℕ)) × (iterm_text c ≡ semicolon_list (codes "1337" ∷ args))
    × AreClearParts args × (iterm_of args ≡ Some c)
