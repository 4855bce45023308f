-- Rows of control strings, and which of them a string has.
use Rattle.std.specs.Prelude.{ℕ, ℤ, pos, ◌≡◌, Bool, true, false, ◌+◌, ◌==◌, ◌&&◌, ◌||◌, nat_lt, if◌then◌else◌, List, [], ◌∷◌, map, drop, get_or, length, Option, Some, None, MatchOption}
use Rattle.std.specs.List.{starts_with}
use Rattle.std.specs.Ordering.{int_eq}
use Rattle.std.specs.Str.{bytes_eq}
use Rattle.string_commands.specs.declared.begin.Begin.TheVariants.{Anything, Part, Bytes, Parameter, Key}
use Rattle.string_commands.specs.declared.begin.Begin.{Begin}
use Rattle.string_commands.specs.declared.entry.Entry.{Entry}
use Rattle.string_commands.specs.declared.row.Row.{Row}
use Rattle.string_commands.specs.declared.string_kind.StringKind.{StringKind}
use Rattle.string_commands.specs.declared.string_kind.StringKind.TheVariants.{Osc, Letter, Dcs, Apc}
use Rattle.string_commands.specs.declared.table.TheConstants.{ENTRIES, NAMES, STARTS, WORDS}
use Rattle.string_commands.specs.declared.table.TheConstants.{COUNT}

-- a text begins with these bytes
abbrev pub begins : List ℕ → List ℕ → Bool
begins start text = starts_with (λ a b. a == b) text start

-- a part ends before this text: at `;`, `=` or the end
abbrev pub ends_part : List ℕ → Bool
ends_part [] = true
ends_part (b ∷ _) = (b == 0x3b) || (b == 0x3d)

abbrev pub has_part : List ℕ → List ℕ → Bool
has_part part text = begins part text && ends_part (drop (length part) text)

-- a key ends before this text: at `,`, `;` or the end
abbrev pub ends_key : List ℕ → Bool
ends_key [] = true
ends_key (b ∷ _) = (b == 0x2c) || (b == 0x3b)

abbrev pub is_key : List ℕ → List ℕ → Bool
is_key key text = begins key text && ends_key (drop (length key) text)

-- this is one of the keys of a text, which have `,` between them, up to a `;`; one may begin here,
-- or not
abbrev pub has_key : Bool → List ℕ → List ℕ → Bool
has_key here key [] = false
has_key here key (b ∷ bs) = if here && is_key key (b ∷ bs) then true
    else if b == 0x3b then false else has_key (b == 0x2c) key bs

-- this is the one parameter
abbrev pub is_only : ℤ → List ℤ → Bool
is_only n [] = false
is_only n (m ∷ []) = int_eq m n
is_only n (m ∷ _ ∷ _) = false

-- a string with these parameters, and this text after its key, begins as its entry says
abbrev pub begins_with : Begin → ℤ → List ℕ → List ℤ → List ℕ → Bool
begins_with Anything n start params text = true
begins_with Part n start params text = has_part start text
begins_with Bytes n start params text = begins start text
begins_with Parameter n start params text = is_only n params
begins_with Key n start params text = has_key true start text

abbrev pub begins_so : Entry → List ℕ → List ℤ → List ℕ → Bool
begins_so e start params text = begins_with e.begin e.number start params text

-- each kind has a number
abbrev pub rank : StringKind → ℕ
rank Osc = 0
rank Letter = 1
rank Dcs = 2
rank Apc = 3

-- a string of this kind, this key, these parameters and this text after its key has this entry
abbrev pub fits : StringKind → ℕ → List ℤ → List ℕ → Entry → List ℕ → Bool
fits kind key params text e start =
    if e.key == key then (rank e.kind == rank kind) && begins_so e start params text else false

-- the place of the first of these entries that a string has, counted from i on
abbrev pub first_fit : StringKind → ℕ → List ℤ → List ℕ → List Entry → List (List ℕ) → ℕ
    → Option ℕ
first_fit kind key params text [] starts i = None
first_fit kind key params text (e ∷ es) [] i = None
first_fit kind key params text (e ∷ es) (s ∷ ss) i = if fits kind key params text e s then Some i
    else first_fit kind key params text es ss (i + 1)

-- the place of the first of these names that is this one
abbrev pub first_named : List ℕ → List (List ℕ) → ℕ → Option ℕ
first_named name [] i = None
first_named name (n ∷ ns) i = if bytes_eq n name then Some i else first_named name ns (i + 1)

-- the texts of the rows, in their order
unfoldable pub starts : List (List ℕ)
starts = map (λ s. s.now) STARTS

unfoldable pub names : List (List ℕ)
names = map (λ n. n.now) NAMES

unfoldable pub words : List (List ℕ)
words = map (λ w. w.now) WORDS

-- the place of the row of a string of this kind, this key, these parameters and this text after its
-- key
unfoldable pub place_of : StringKind → ℕ → List ℤ → List ℕ → Option ℕ
place_of kind key params text = first_fit kind key params text ENTRIES starts 0

-- the place of the row of this name
unfoldable pub place_named : List ℕ → Option ℕ
place_named name = first_named name names 0

-- the place, if the table has one
abbrev pub place_below : ℕ → Option ℕ
place_below i = if nat_lt i COUNT then Some i else None

-- the entry in this place
unfoldable pub entry_at : ℕ → Entry
entry_at i = get_or ENTRIES i (record { kind = Osc; key = 0; begin = Anything; number = pos 0 })

-- its parameter, alone, if it begins with one
abbrev pub only_of : Begin → ℤ → List ℤ
only_of Parameter n = n ∷ []
only_of _ n = []

abbrev pub only : Entry → List ℤ
only e = only_of e.begin e.number

-- the row is the one in its place
pub record IsRow (r : Row) : Type 0 where
  pub named : r.name.now ≡ get_or names r.place []
  pub worded : r.words.now ≡ get_or words r.place []
  pub starts_so : r.start.now ≡ get_or starts r.place []
  pub told : r.told ≡ entry_at r.place

-- the result is the row in this place, and nothing if there is no place
abbrev pub Finds : Option ℕ → Option Row → Type 0
Finds o found = MatchOption found (o ≡ None) (λ r. (o ≡ Some r.place) × IsRow r)
