-- The parameters of control functions, by their kinds: how they are read, and their one normal
-- spelling.
use Rattle.std.specs.Prelude.{ℕ, ◌==◌, ◌<◌, ◌++◌, Bool, false, pos, negsuc, nat_le, if◌then◌else◌, List, [], ◌∷◌, Option, Some, None, Result, Ok, Err}
use Rattle.std.specs.List.{list_all}
use Rattle.esc_values.specs.Params.{is_intermediate_byte, is_private_prefix}
use Rattle.esc_values.specs.declared.csi_param.CsiParam.{CsiParam}
use Rattle.esc_values.specs.declared.csi_param.CsiParam.TheVariants.{Integer, P}
use Rattle.typed_functions.specs.declared.arguments.Arguments.{Arguments}
use Rattle.typed_functions.specs.declared.arguments.Arguments.TheVariants as args
use Rattle.typed_functions.specs.declared.arguments.Kind.{Kind}
use Rattle.typed_functions.specs.declared.arguments.Kind.TheVariants as kind
use Rattle.typed_functions.specs.declared.one_based.Ordinal.{Ordinal}
use Rattle.typed_functions.specs.declared.unfit.Unfit.{Unfit}
use Rattle.typed_functions.specs.declared.unfit.Unfit.TheVariants as unfit
use Rattle.typed_functions.specs.Counts.{one_based, one_based_of}
use Rattle.typed_functions.specs.Renditions.{number}

-- f of a value, if there is one
abbrev pub then_read : {X Y : Type 0} → Result X Unfit → (X → Result Y Unfit) → Result Y Unfit
then_read (Ok x) f = f x
then_read (Err e) f = Err e

-- the entries after a private prefix
abbrev pub after_prefix : List CsiParam → List CsiParam
after_prefix [] = []
after_prefix (Integer n ∷ es) = Integer n ∷ es
after_prefix (P b ∷ es) = if is_private_prefix b then es else P b ∷ es

abbrev pub is_intermediate : CsiParam → Bool
is_intermediate (Integer n) = false
is_intermediate (P b) = is_intermediate_byte b

-- the first number, if one comes first, and the rest
abbrev pub number_first : List CsiParam → Option ℕ × List CsiParam
number_first [] = (None, [])
number_first (Integer (pos n) ∷ es) = (Some n, es)
number_first (Integer (negsuc n) ∷ es) = (None, Integer (negsuc n) ∷ es)
number_first (P b ∷ es) = (None, P b ∷ es)

abbrev pub after_semicolon : List CsiParam → Result (Option (List CsiParam)) Unfit
after_semicolon [] = Err unfit.NoNumbers
after_semicolon (Integer n ∷ es) = Err unfit.NoNumbers
after_semicolon (P b ∷ es) = if b == 0x3b then Ok (Some es) else Err unfit.NoNumbers

-- the rest after a number: intermediates alone, or `;` and more
abbrev pub more : List CsiParam → Result (Option (List CsiParam)) Unfit
more es = if list_all is_intermediate es then Ok None else after_semicolon es

-- the next parameter, a number or nothing, and the rest after its `;`
abbrev pub next : List CsiParam → Result (Option ℕ × Option (List CsiParam)) Unfit
next es = let n = number_first es in then_read (more n.1) (λ rest. Ok (n.0, rest))

-- x, if no more parameters follow
abbrev pub no_more : {X : Type 0} → Option (List CsiParam) → X → Result X Unfit
no_more None x = Ok x
no_more (Some es) x = Err unfit.TooMany

-- the only parameter
abbrev pub only_parameter : List CsiParam → Result (Option ℕ) Unfit
only_parameter es = then_read (next es) (λ a. no_more a.1 a.0)

abbrev pub one_more : Option ℕ → Option (List CsiParam)
    → Result (Option ℕ × Option ℕ) Unfit
one_more first None = Ok (first, None)
one_more first (Some es) = then_read (only_parameter es) (λ second. Ok (first, second))

-- the only two; the second may be missing
abbrev pub two : List CsiParam → Result (Option ℕ × Option ℕ) Unfit
two es = then_read (next es) (λ a. one_more a.0 a.1)

abbrev pub in_range : {X : Type 0} → Option X → Result X Unfit
in_range None = Err unfit.OutOfRange
in_range (Some x) = Ok x

-- ---- by kinds

abbrev pub no_number : Option ℕ → Result Arguments Unfit
no_number None = Ok args.Nothing
no_number (Some n) = Err unfit.TooMany

-- nothing or 0
abbrev pub zero : Option ℕ → Result Arguments Unfit
zero None = Ok args.Nothing
zero (Some n) = if n == 0 then Ok args.Nothing else Err unfit.OutOfRange

abbrev pub count : Option ℕ → Result Arguments Unfit
count n = then_read (in_range (one_based_of n)) (λ n. Ok (args.Count n))

abbrev pub place : Option ℕ → Option ℕ → Result Arguments Unfit
place l c =
    then_read (in_range (one_based_of l)) (λ l.
    then_read (in_range (one_based_of c)) (λ c. Ok (args.Place l c)))

-- the last line or column is that of the screen, if there is none, and if it is 0
abbrev pub last_of : Option ℕ → Result (Option Ordinal) Unfit
last_of None = Ok None
last_of (Some n) = if n == 0 then Ok None
    else then_read (in_range (one_based_of (Some n))) (λ n. Ok (Some n))

abbrev pub margins : Option ℕ → Option ℕ → Result Arguments Unfit
margins a b =
    then_read (in_range (one_based_of a)) (λ a.
    then_read (last_of b) (λ b. Ok (args.Margins a b)))

abbrev pub selector : Option ℕ → Result Arguments Unfit
selector None = Ok (args.Selector 0)
selector (Some n) = if nat_le n 255 then Ok (args.Selector n) else Err unfit.OutOfRange

abbrev pub byte_or : ℕ → Option ℕ → Result ℕ Unfit
byte_or d None = Ok d
byte_or d (Some n) = if nat_le n 255 then Ok n else Err unfit.OutOfRange

-- flags are 0 if they are left out, and the operation on them is 1
abbrev pub flags : Option ℕ → Option ℕ → Result Arguments Unfit
flags a b =
    then_read (byte_or 0 a) (λ a. then_read (byte_or 1 b) (λ b. Ok (args.Flags a b)))

abbrev pub report : Option ℕ → Option ℕ → Option ℕ → Result Arguments Unfit
report a b c =
    then_read (byte_or 0 a) (λ a.
    then_read (in_range (one_based_of b)) (λ b.
    then_read (in_range (one_based_of c)) (λ c. Ok (args.Report a b c))))

-- a number of at most 2 to the power of 32, less 1
abbrev pub word : ℕ → Result ℕ Unfit
word n = if nat_le n 0xffff_ffff then Ok n else Err unfit.OutOfRange

-- one that has no default
abbrev pub first_word : Option ℕ → Result ℕ Unfit
first_word None = Err unfit.TooFew
first_word (Some n) = word n

abbrev pub word_of : Option ℕ → Result (Option ℕ) Unfit
word_of None = Ok None
word_of (Some n) = then_read (word n) (λ n. Ok (Some n))

abbrev pub more_words : Result ℕ Unfit → Option ℕ → Option ℕ → Result Arguments Unfit
more_words a b c =
    then_read a (λ a.
    then_read (word_of b) (λ b.
    then_read (word_of c) (λ c. Ok (args.Numbers a b c))))

-- the only three; those after the first may be missing
abbrev pub two_more : Option ℕ → Option (List CsiParam)
    → Result (Option ℕ × Option ℕ × Option ℕ) Unfit
two_more first None = Ok (first, None, None)
two_more first (Some es) = then_read (two es) (λ p. Ok (first, p.0, p.1))

abbrev pub three : List CsiParam → Result (Option ℕ × Option ℕ × Option ℕ) Unfit
three es = then_read (next es) (λ a. two_more a.0 a.1)

-- the parameters of a kind
abbrev pub arguments : Kind → List CsiParam → Result Arguments Unfit
arguments kind.Nothing es = then_read (only_parameter es) no_number
arguments kind.Zero es = then_read (only_parameter es) zero
arguments kind.Count es = then_read (only_parameter es) count
arguments kind.Place es = then_read (two es) (λ p. place p.0 p.1)
arguments kind.Margins es = then_read (two es) (λ p. margins p.0 p.1)
arguments kind.Selector es = then_read (only_parameter es) selector
arguments kind.Flags es = then_read (two es) (λ p. flags p.0 p.1)
arguments kind.Report es = then_read (three es) (λ p. report p.0 p.1 p.2)
arguments kind.Numbers es = then_read (three es) (λ p. more_words (first_word p.0) p.1 p.2)
arguments kind.Selectors es = Err unfit.Untyped
arguments kind.Renditions es = Err unfit.Untyped
arguments kind.Modes es = Err unfit.Untyped

-- ---- the normal spelling

-- 1 is left out
abbrev pub count_entries : Ordinal → List CsiParam
count_entries n = if n.zero_based == 0 then [] else number (one_based n) ∷ []

abbrev pub more_entries : Ordinal → List CsiParam
more_entries n = if n.zero_based == 0 then [] else P 0x3b ∷ number (one_based n) ∷ []

abbrev pub last_entries : Option Ordinal → List CsiParam
last_entries None = []
last_entries (Some n) = P 0x3b ∷ number (one_based n) ∷ []

abbrev pub word_entries : Option ℕ → List CsiParam
word_entries None = []
word_entries (Some n) = number n ∷ []

abbrev pub more_numbers : Option ℕ → Option ℕ → List CsiParam
more_numbers None None = []
more_numbers (Some b) None = P 0x3b ∷ number b ∷ []
more_numbers b (Some c) = P 0x3b ∷ (word_entries b ++ P 0x3b ∷ number c ∷ [])

-- Counts, lines, columns and choices that are the defaults are left out, but for the first
-- of margins, without which `s` would save the cursor, and for flags and reports, which are whole.
abbrev pub entries_of : Arguments → List CsiParam
entries_of args.Nothing = []
entries_of (args.Count n) = count_entries n
entries_of (args.Place l c) = count_entries l ++ more_entries c
entries_of (args.Margins a b) = number (one_based a) ∷ last_entries b
entries_of (args.Selector n) = if n == 0 then [] else number n ∷ []
entries_of (args.Flags a b) = number a ∷ P 0x3b ∷ number b ∷ []
entries_of (args.Report a b c) = number a
    ∷ P 0x3b ∷ number (one_based b) ∷ P 0x3b ∷ number (one_based c) ∷ []
entries_of (args.Numbers a b c) = number a ∷ more_numbers b c

abbrev pub IsOneBased : Ordinal → Type 0
IsOneBased n = n.zero_based < 0x1_0000_0000

abbrev pub IsLast : Option Ordinal → Type 0
IsLast None = Unit {0}
IsLast (Some n) = IsOneBased n

abbrev pub IsWord : ℕ → Type 0
IsWord n = n < 0x1_0000_0000

abbrev pub IsOptional : Option ℕ → Type 0
IsOptional None = Unit {0}
IsOptional (Some n) = IsWord n

abbrev pub AreArguments : Arguments → Type 0
AreArguments args.Nothing = Unit {0}
AreArguments (args.Count n) = IsOneBased n
AreArguments (args.Place l c) = IsOneBased l × IsOneBased c
AreArguments (args.Margins a b) = IsOneBased a × IsLast b
AreArguments (args.Selector n) = n < 256
AreArguments (args.Flags a b) = (a < 256) × (b < 256)
AreArguments (args.Report a b c) = (a < 256) × IsOneBased b × IsOneBased c
AreArguments (args.Numbers a b c) = IsWord a × IsOptional b × IsOptional c
