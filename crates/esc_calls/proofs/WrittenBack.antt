-- A writable command is written as a clear text that means it.
use Rattle.std.proofs.Common.{ℕ, ◌≡◌, true, List, refl, sym, subst, ◌∙◌, Some}
use Rattle.std.specs.Global.{Global}
use Rattle.std.specs.List.{list_all}
use Rattle.std.specs.Str.{IsUtf8, chars}
use Rattle.std.proofs.lemmas.Str.{chars_from_encodes, encodes-chars, is_utf8-from_IsUtf8}
use Rattle.esc_values.proofs.Clear.ClearTexts.{clear_utf8}
use Rattle.esc_values.specs.Clear.{is_clear, IsClearText}
use Rattle.esc_values.specs.Scalars.{utf8_of}
use Rattle.esc_osc.proofs.ReadsBack.{reads_back, writes_clear}
use Rattle.esc_osc.specs.Commands.{inner_text}
use Rattle.esc_osc.specs.Writable.{IsWritable}
use Rattle.esc_osc.specs.declared.command.OperatingSystemCommand.{OperatingSystemCommand}
use Rattle.flat_values.proofs.Whole.{whole}
use Rattle.flat_values.specs.Fields.{Table}
use Rattle.flat_values.specs.Held.{Has}
use Rattle.esc_calls.specs.OscValues.{command_of}

-- a text whose characters are all clear
pub clear_if : (t : List ℕ) → IsUtf8 t → list_all is_clear (chars t) ≡ true → IsClearText t
clear_if t u all = (chars t, all, encodes-chars t u)

pub clear_only : (t : List ℕ) → IsClearText t → list_all is_clear (chars t) ≡ true
clear_only t h =
    subst (λ cs. list_all is_clear cs ≡ true) (chars_from_encodes h.0 t (clear_utf8 t h) h.2) h.1

pub clear_is_utf8 : (t : List ℕ) → IsClearText t → utf8_of t ≡ Some t
clear_is_utf8 t h = rw (is_utf8-from_IsUtf8 t (clear_utf8 t h)) refl

-- if a writable command has a kind and fields, any command that has them is written like that
pub writable_back : (k : ℕ) (t : Table) (c d : OperatingSystemCommand Global)
    → Has k t c → IsWritable d → Has k t d
    → IsClearText (inner_text c) × Has k t (command_of (inner_text c))
writable_back k t c d of_c writable of_d =
    let same = whole d c (of_d.0 ∙ sym of_c.0) (of_d.1 ∙ sym of_c.1) in
    subst (λ x. IsClearText (inner_text x) × Has k t (command_of (inner_text x))) same
    (writes_clear d writable, subst (λ x. Has k t x) (sym (reads_back d writable)) of_d)
