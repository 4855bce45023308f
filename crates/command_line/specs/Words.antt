-- Which of a program's words are options, and which are files.
use Rattle.std.specs.Prelude.{ℕ, ◌≡◌, ◌≢◌, MatchResult, Result, nat_lt, nat_eq, ◌==◌, ◌&&◌, ◌||◌, Bool, true, false, not, if◌then◌else◌, List, [], ◌∷◌, ◌++◌, drop, length, codes, slice_index, Option, Some, None}
use Rattle.std.specs.Cmp.Lexicographic.{pointwise}
use Rattle.std.specs.List.{before_first, after_first, starts_with}
use Rattle.command_line.specs.Given.{is_value, said_by}
use Rattle.command_line.specs.declared.table.Known.{Known}
use Rattle.command_line.specs.declared.table.Takes.{Takes}
use Rattle.command_line.specs.declared.table.Takes.TheVariants as takes
use Rattle.command_line.specs.declared.wrong.Wrong.{Wrong}
use Rattle.command_line.specs.declared.wrong.Wrong.TheVariants as wrong

-- `--`, after which all words are files
abbrev pub ends_options : List ℕ → Bool
ends_options w = pointwise nat_eq w (codes "--")

-- `-`, and a word that does not begin with it
abbrev pub is_file : List ℕ → Bool
is_file w = pointwise nat_eq w (codes "-") || not (slice_index w 0 == 0x2d)

-- whether it is this option's name or letter
abbrev pub is_named : Known → List ℕ → Bool
is_named o n = pointwise nat_eq o.name.now n || pointwise nat_eq o.letter.now n

-- the first option of this name or letter
abbrev pub option_named : List Known → List ℕ → Option Known
option_named [] n = None
option_named (o ∷ os) n = if is_named o n then Some o else option_named os n

abbrev pub takes_value : Takes → Bool
takes_value takes.Nothing = false
takes_value takes.Size = true
takes_value (takes.OneOf c ws) = true
takes_value (takes.SomeOf c ws) = true
takes_value (takes.Maybe c ws) = false
takes_value (takes.MaybeSome c ws) = false

-- whether an option takes something, or may take it
abbrev pub may_take : Takes → Bool
may_take takes.Nothing = false
may_take takes.Size = true
may_take (takes.OneOf c ws) = true
may_take (takes.SomeOf c ws) = true
may_take (takes.Maybe c ws) = true
may_take (takes.MaybeSome c ws) = true

abbrev pub some_takes : Option Known → Bool
some_takes None = false
some_takes (Some o) = takes_value o.takes

-- the name in an option's word, which a value may follow after `=`
abbrev pub name_in : List ℕ → List ℕ
name_in w = before_first (λ b. b == 0x3d) w

abbrev pub has_value : List ℕ → Bool
has_value w = nat_lt (length (name_in w)) (length w)

-- whether the option of this word takes the next word: it takes a value, and none follows `=`
abbrev pub takes_next : List Known → List ℕ → Bool
takes_next known w = not (has_value w) && some_takes (option_named known (name_in w))

abbrev pub first_of : List (List ℕ) → List ℕ
first_of [] = []
first_of (w ∷ ws) = w

-- the value of an option of this word, before these words: the text after `=`, or the next word if
-- the option takes it
abbrev pub value_of : List Known → List ℕ → List (List ℕ) → List ℕ
value_of known w ws =
    if has_value w then after_first (λ b. b == 0x3d) w
    else if takes_next known w then first_of ws else []

-- whether it is this option's name without its first `-`, as -output
abbrev pub lacks_dash : Known → List ℕ → Bool
lacks_dash o n = pointwise nat_eq o.name.now (0x2d ∷ n)

-- whether something is joined to this option's letter in a word of this name
abbrev pub is_joined : Known → List ℕ → List ℕ → Bool
is_joined o n w = may_take o.takes && not (length o.letter.now == 0) && not (lacks_dash o n)
    && starts_with nat_eq w o.letter.now

-- the joined value: the text after the letter
abbrev pub joined_value : Known → List ℕ → List ℕ → Option (List ℕ)
joined_value o n w = if is_joined o n w then Some (drop (length o.letter.now) w) else None

-- an option with its value, or else the result so far
abbrev pub with_value : Known → Option (List ℕ) → Option (Known × List ℕ)
    → Option (Known × List ℕ)
with_value o None next = next
with_value o (Some v) next = Some (o, v)

-- the first option with a value joined to its letter, and the value
abbrev pub option_joined : List Known → List ℕ → List ℕ → Option (Known × List ℕ)
option_joined [] n w = None
option_joined (o ∷ os) n w = with_value o (joined_value o n w) (option_joined os n w)

-- the value after `=` in an option's word, if there is one
abbrev pub value_in : List ℕ → Option (List ℕ)
value_in w = if has_value w then Some (after_first (λ b. b == 0x3d) w) else None

-- the option that a word has the name or the letter of, with this value; or else the one to whose
-- letter its value is joined
abbrev pub option_or : Option Known → Option (List ℕ) → Option (Known × List ℕ)
    → Option (Known × Option (List ℕ))
option_or (Some o) v j = Some (o, v)
option_or None v None = None
option_or None v (Some j) = Some (j.0, Some j.1)

-- the option that a word names, and the value in the word, if there is one
abbrev pub option_in : List Known → List ℕ → Option (Known × Option (List ℕ))
option_in known w =
    option_or (option_named known (name_in w)) (value_in w) (option_joined known (name_in w) w)

-- the record of an option that is given with this value
abbrev pub given_of : Option Known → List ℕ → List (List ℕ × List ℕ × ℕ × ℕ)
given_of None v = []
given_of (Some o) v = said_by o v ∷ []

-- the same for the option that a word has the name or the letter of, with this value; or else for
-- the one to whose letter its value is joined
abbrev pub given_or : Option Known → List ℕ → Option (Known × List ℕ)
    → List (List ℕ × List ℕ × ℕ × ℕ)
given_or (Some o) v j = given_of (Some o) v
given_or None v None = []
given_or None v (Some j) = given_of (Some j.0) j.1

-- the same for the option that a word names, before these words
abbrev pub given_by : List Known → List ℕ → List (List ℕ) → List (List ℕ × List ℕ × ℕ × ℕ)
given_by known w ws =
    given_or (option_named known (name_in w)) (value_of known w ws)
    (option_joined known (name_in w) w)

-- the records of the options that these words name; an option takes the first word if that is said
abbrev pub options_of : List Known → Bool → List (List ℕ) → List (List ℕ × List ℕ × ℕ × ℕ)
options_of known is_taken [] = []
options_of known true (w ∷ ws) = options_of known false ws
options_of known false (w ∷ ws) =
    if ends_options w then []
    else if is_file w then options_of known false ws
    else given_by known w ws ++ options_of known (takes_next known w) ws

-- the files that these words name; an option takes the first word if that is said
abbrev pub files_of : List Known → Bool → List (List ℕ) → List (List ℕ)
files_of known is_taken [] = []
files_of known true (w ∷ ws) = files_of known false ws
files_of known false (w ∷ ws) =
    if ends_options w then ws
    else if is_file w then w ∷ files_of known false ws
    else files_of known (takes_next known w) ws

-- ---- which words are right

abbrev pub first_is_value : Takes → List (List ℕ) → Bool
first_is_value t [] = false
first_is_value t (w ∷ ws) = is_value t w

-- whether an option, without a value of its own, has one in the first of these words, if it takes
-- one
abbrev pub next_is_right : Known → List (List ℕ) → Bool
next_is_right o ws = if takes_value o.takes then first_is_value o.takes ws else true

-- whether the option that a word has the name or the letter of takes the value that the word, or
-- the first of these, gives it; or else the one to whose letter its value is joined
abbrev pub right_or : Option Known → List ℕ → List (List ℕ) → Option (Known × List ℕ) → Bool
right_or (Some o) w ws j =
    if has_value w then is_value o.takes (after_first (λ b. b == 0x3d) w) else next_is_right o ws
right_or None w ws None = false
right_or None w ws (Some j) = is_value j.0.takes j.1

-- whether a word names an option, before these words, and gives it a value that it takes
abbrev pub is_right : List Known → List ℕ → List (List ℕ) → Bool
is_right known w ws =
    right_or (option_named known (name_in w)) w ws (option_joined known (name_in w) w)

-- whether a word before these words ends the options, is a file, or names an option and gives it a
-- value that it takes
abbrev pub is_next_right : List Known → List ℕ → List (List ℕ) → Bool
is_next_right known w ws =
    if ends_options w then true else if is_file w then true else is_right known w ws

-- whether each of these words is a file or a right option; an option takes the first word if that
-- is said
abbrev pub are_right : List Known → Bool → List (List ℕ) → Bool
are_right known is_taken [] = true
are_right known true (w ∷ ws) = are_right known false ws
are_right known false (w ∷ ws) =
    if ends_options w then true
    else if is_file w then are_right known false ws
    else is_right known w ws && are_right known (takes_next known w) ws

-- The result is no error if this holds, and if it does not there is one; that memory was refused
-- may come in either case.
abbrev pub Decides : {X : Type 0} → Bool → Result X Wrong → Type 0
Decides holds r = MatchResult r (λ _. holds ≡ true) (λ e. e ≢ wrong.Memory → holds ≡ false)
