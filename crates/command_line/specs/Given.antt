-- The value that an option is given, and the values that it takes.
use Rattle.std.specs.Prelude.{ℕ, ◌≡◌, MatchOption, nat_lt, nat_eq, ◌+◌, ◌/◌, ◌%◌, ◌^◌, ◌==◌, ◌&&◌, ◌||◌, Bool, true, false, not, if◌then◌else◌, List, [], ◌∷◌, length, bit_or, is_some, Option, Some, None}
use denote.Ref.{Bor}
use Rattle.std.specs.Cmp.Lexicographic.{pointwise}
use Rattle.std.specs.List.{fold, list_all, slice_split}
use Rattle.command_line.specs.Sizes.{is_size, size_value}
use Rattle.command_line.specs.declared.reading.Given.{Given}
use Rattle.command_line.specs.declared.table.Known.{Known}
use Rattle.command_line.specs.declared.table.Takes.{Takes}
use Rattle.command_line.specs.declared.table.Takes.TheVariants as takes

-- ---- words of a list

-- the place of a word in a list whose first word has this place: that of the first that it is
abbrev pub place_from : ℕ → List (Bor (List ℕ)) → List ℕ → Option ℕ
place_from n [] w = None
place_from n (x ∷ xs) w = if pointwise nat_eq x.now w then Some n else place_from (n + 1) xs w

abbrev pub place_in : List (Bor (List ℕ)) → List ℕ → Option ℕ
place_in xs w = place_from 0 xs w

abbrev pub is_among : List (Bor (List ℕ)) → List ℕ → Bool
is_among xs w = is_some (place_in xs w)

-- whether it is one of these words, or there are none
abbrev pub is_one_of : List (Bor (List ℕ)) → List ℕ → Bool
is_one_of xs w = (length xs == 0) || is_among xs w

-- the parts of a text, with `,` between them
abbrev pub parts : List ℕ → List (List ℕ)
parts v = slice_split (λ b. b == 0x2c) v

-- ---- their bits

-- the bit of the word at this place: none past the 64th
abbrev pub bit : Option ℕ → ℕ
bit None = 0
bit (Some n) = if nat_lt n 64 then 2 ^ n else 0

abbrev pub bits_of : List (Bor (List ℕ)) → List (List ℕ) → ℕ
bits_of xs ps = fold (λ n p. bit_or n (bit (place_in xs p))) 0 ps

abbrev pub has_bit : ℕ → ℕ → Bool
has_bit i n = (n / 2 ^ i) % 2 == 1

abbrev pub is_place : ℕ → Option ℕ → Bool
is_place i None = false
is_place i (Some n) = n == i

-- ---- values

-- whether an option takes this value
abbrev pub is_value : Takes → List ℕ → Bool
is_value takes.Nothing v = false
is_value takes.Size v = is_size v
is_value (takes.OneOf c ws) v = is_one_of ws.now v
is_value (takes.SomeOf c ws) v = list_all (is_among ws.now) (parts v)
is_value (takes.Maybe c ws) v = is_one_of ws.now v
is_value (takes.MaybeSome c ws) v =
    not (length v == 0) && list_all (is_among ws.now) (parts v)

-- the word that is given, if one or several of some are taken
abbrev pub word_given : Takes → List ℕ → List ℕ
word_given takes.Nothing v = []
word_given takes.Size v = []
word_given (takes.OneOf c ws) v = v
word_given (takes.SomeOf c ws) v = v
word_given (takes.Maybe c ws) v = v
word_given (takes.MaybeSome c ws) v = v

-- the size that is given, if one is taken
abbrev pub size_given : Takes → List ℕ → ℕ
size_given takes.Nothing v = 0
size_given takes.Size v = size_value v
size_given (takes.OneOf c ws) v = 0
size_given (takes.SomeOf c ws) v = 0
size_given (takes.Maybe c ws) v = 0
size_given (takes.MaybeSome c ws) v = 0

-- the bits of the words that are given, if several of some are taken
abbrev pub some_given : Takes → List ℕ → ℕ
some_given takes.Nothing v = 0
some_given takes.Size v = 0
some_given (takes.OneOf c ws) v = 0
some_given (takes.SomeOf c ws) v = bits_of ws.now (parts v)
some_given (takes.Maybe c ws) v = 0
some_given (takes.MaybeSome c ws) v = if length v == 0 then 0 else bits_of ws.now (parts v)

-- ---- options that were read

-- the name of an option that was read, its word, its size and the bits of its words
abbrev pub said_option : Given → List ℕ × List ℕ × ℕ × ℕ
said_option g = (g.name.now, g.word.now, g.size, g.some)

-- those of an option with this value
abbrev pub said_by : Known → List ℕ → List ℕ × List ℕ × ℕ × ℕ
said_by o v = (o.name.now, word_given o.takes v, size_given o.takes v, some_given o.takes v)

-- an option is given exactly if this holds, and then has this name, word, size and bits
abbrev pub Gives : Bool → List ℕ × List ℕ × ℕ × ℕ → Option Given → Type 0
Gives holds said r = MatchOption r (holds ≡ false) (λ g. (holds ≡ true) × (said_option g ≡ said))
