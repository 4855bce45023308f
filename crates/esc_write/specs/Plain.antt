-- Control sequences and commands whose text is seen at once: the text of the parameters, or the
-- text as it came.
use Rattle.std.specs.Prelude.{ℕ, ℤ, pos, ◌≡◌, ◌≢◌, ◌⊎◌, ◌==◌, Bool, false, List, [], ◌∷◌, ◌++◌, Option, codes}
use Rattle.std.specs.Fmt.{decimal}
use Rattle.std.specs.List.{list_any, slice_split}
use Rattle.esc_values.specs.Clear.{framed_text, parts_of}
use Rattle.esc_sequences.specs.Csis.{csi_of, unspecified}
use Rattle.esc_links.specs.Hyperlinks.{is_colon}
use Rattle.esc_values.specs.declared.csi_param.CsiParam.{CsiParam}
use Rattle.esc_values.specs.declared.csi_param.CsiParam.TheVariants.{Integer, P}
use Rattle.esc_links.specs.declared.hyperlink.Hyperlink.{Hyperlink}
use Rattle.esc_osc.specs.Commands.{command_text}
use Rattle.esc_osc.specs.Reading.{meaning}
use Rattle.esc_osc.specs.declared.command.OperatingSystemCommand.TheVariants as command
use Rattle.esc_write.specs.declared.short_numbers.ShortNumbers.{ShortNumbers}
use Rattle.esc_write.specs.declared.short_numbers.ShortNumbers.TheVariants as short

-- one parameter, which is a number
abbrev pub IsNumber : List CsiParam → Type 0
IsNumber es = (n : ℤ) × (es ≡ Integer n ∷ [])

-- a control sequence whose text is the text of its parameters, by its form
abbrev pub IsPlain : List CsiParam → Bool → ℕ → Type 0
IsPlain es more f = IsNumber es ⊎ (csi_of es more f ≡ unspecified es more f ∷ [])

-- the text of a control sequence of one number, with an ASCII final byte
abbrev pub number_text : ℕ → ℕ → List ℕ
number_text n f = 0x1b ∷ 0x5b ∷ (decimal n ++ f ∷ [])

-- a number, and an ASCII final byte
abbrev pub last_text : ℕ → ℕ → List ℕ
last_text n f = decimal n ++ f ∷ []

-- the text of one of two numbers, with `;` between them
abbrev pub pair_text : ℕ → ℕ → ℕ → List ℕ
pair_text a b f = 0x1b ∷ 0x5b ∷ (decimal a ++ 0x3b ∷ last_text b f)

-- the text of one of three numbers, with `;` between them
abbrev pub indexed_text : ℕ → ℕ → ℕ → ℕ → List ℕ
indexed_text a b c f =
    0x1b ∷ 0x5b ∷ (decimal a ++ 0x3b ∷ (decimal b ++ 0x3b ∷ (decimal c ++ f ∷ [])))

-- the text of one that is known by its numbers
abbrev pub short_text : ShortNumbers → ℕ → List ℕ
short_text short.Nothing f = 0x1b ∷ 0x5b ∷ f ∷ []
short_text (short.Lone n) f = number_text n f
short_text (short.Pair a b) f = pair_text a b f
short_text (short.Palette i) f = indexed_text i.first i.second i.third f

-- the parameters of one that is known by its numbers, with the final byte f
abbrev pub AreParams : ShortNumbers → List CsiParam → ℕ → Type 0
AreParams short.Nothing es f = f ≢ 0x6d
AreParams (short.Lone n) es f = es ≡ Integer (pos n) ∷ []
AreParams (short.Pair a b) es f = f ≢ 0x6d
AreParams (short.Palette i) es f =
    (f ≡ 0x6d) × (es ≡ Integer (pos i.first) ∷ P 0x3b ∷ Integer (pos i.second) ∷ P 0x3b
    ∷ Integer (pos i.third) ∷ [])

-- a text without `;`
abbrev pub IsOnePart : List ℕ → Type 0
IsOnePart t = slice_split (λ c. c == 0x3b) t ≡ t ∷ []

-- a name without `:` and an address, with `;` between them
abbrev pub IsNameAndAddress : List ℕ → Type 0
IsNameAndAddress t = (v : List ℕ) × (u : List ℕ) × (t ≡ v ++ 0x3b ∷ u)
    × (list_any is_colon v ≡ false) × IsOnePart v × IsOnePart u

-- the text of a link without parameters, or of the end of one
abbrev pub IsBareLink : List ℕ → Type 0
IsBareLink t = (u : List ℕ) × (t ≡ codes "8;;" ++ u) × IsOnePart u

-- the text of a link with `id` alone
abbrev pub IsNamedLink : List ℕ → Type 0
IsNamedLink t = (u : List ℕ) × (t ≡ codes "8;id=" ++ u) × IsNameAndAddress u

-- the command of a text is written as the text came, between `ESC ]` and the string terminator
abbrev pub IsVerbatim : (A : Type 0) → List ℕ → Type 0
IsVerbatim A t = command_text (meaning {A = A} (parts_of t)) ≡ framed_text t

-- it is a link, or the end of one, and is written so
abbrev pub IsPlainLink : (A : Type 0) → List ℕ → Type 0
IsPlainLink A t = (link : Option (Hyperlink A))
    × (meaning {A = A} (parts_of t) ≡ command.SetHyperlink link) × IsVerbatim A t
