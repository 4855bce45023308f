-- The lines of a page as elements.
use Rattle.std.specs.Prelude.{ℕ, ◌==◌, ◌+◌, min, Bool, true, false, not, if◌then◌else◌, List, [], ◌∷◌, ◌++◌, codes}
use Rattle.std.specs.Fmt.{decimal}

-- the highest number of a line: numbers have 64 bits, and after it all lines have that
abbrev pub highest : ℕ
highest = 18446744073709551615

abbrev pub numeral : ℕ → List ℕ
numeral n = decimal (min n highest)

abbrev pub next_number : ℕ → ℕ
next_number n = min (n + 1) highest

-- The beginning of a line: an element with an id, as L13, and in it an empty link to that, in which
-- a style sheet shows the number.
abbrev pub line_begin : ℕ → List ℕ
line_begin n = codes "<span class=\"es-line\" id=\"L"
    ++ (numeral n ++ (codes "\"><a href=\"#L"
    ++ (numeral n ++ codes "\" tabindex=\"-1\" aria-hidden=\"true\"></a>")))

abbrev pub line_end : List ℕ
line_end = codes "</span>"

-- before a character of a line, which is open or not
abbrev pub begin_unless : Bool → ℕ → List ℕ
begin_unless true n = []
begin_unless false n = line_begin n

-- after the last one
abbrev pub end_if : Bool → List ℕ
end_if true = line_end
end_if false = []

-- A text with each line in an element; this number is that of its first line, whose element may be
-- open. A line feed is in the element of the line that it ends.
abbrev pub lined_page : ℕ → Bool → List ℕ → List ℕ
lined_page n begun [] = []
lined_page n begun (b ∷ t) = begin_unless begun n ++ (b ∷ (if b == 0x0a
    then line_end ++ lined_page (next_number n) false t
    else lined_page n true t))

-- the number of the line that holds after it, and whether its element is open
abbrev pub number_after : ℕ → List ℕ → ℕ
number_after n [] = n
number_after n (b ∷ t) = number_after (if b == 0x0a then next_number n else n) t

abbrev pub open_after : Bool → List ℕ → Bool
open_after begun [] = begun
open_after begun (b ∷ t) = open_after (not (b == 0x0a)) t

-- the same for a text that has ended: the last line too is closed
abbrev pub in_lines : ℕ → List ℕ → List ℕ
in_lines n t = lined_page n false t ++ end_if (open_after false t)

-- how many line feeds it has
abbrev pub feeds : List ℕ → ℕ
feeds [] = 0
feeds (b ∷ t) = (if b == 0x0a then 1 else 0) + feeds t

-- ---- parts of a text that end no line

abbrev pub with_part : ℕ → Bool → List ℕ → List ℕ
with_part n begun [] = []
with_part n begun (b ∷ t) = begin_unless begun n ++ b ∷ t

abbrev pub open_by : Bool → List ℕ → Bool
open_by begun [] = begun
open_by begun (b ∷ t) = true
