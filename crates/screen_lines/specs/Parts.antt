-- The text of rows: parts, one after another, and their text.
use Rattle.std.specs.Prelude.{ℕ, ◌+◌, ◌-◌, ◌==◌, nat_le, nat_lt, Bool, true, false, not, ◌&&◌, if◌then◌else◌, List, [], ◌∷◌, ◌++◌, codes, length, Option, None, Some}
use Rattle.std.specs.Char.{encode_utf8}
use Rattle.std.specs.List.{list_all}
use Rattle.esc_values.specs.Clear.{is_clear, string_terminator}
use Rattle.esc_filter.specs.declared.unicode.Unicode.{Unicode}
use Rattle.esc_filter.specs.declared.unicode.Unicode.TheVariants.{Drop, Join, Keep, Show}
use Rattle.esc_links.specs.Hyperlinks.{value_at}
use Rattle.esc_sgr.specs.Sgr.{change_text, same_look}
use Rattle.esc_style.specs.declared.look.Look.{Look}
use Rattle.esc_terminal.specs.Links.{Target}
use Rattle.unicode_visibility.specs.Characters.{is_deceiving, number_text}
use Rattle.unicode_visibility.specs.Following.{may_follow}
use Rattle.screen_lines.specs.declared.ink.Ink.{Ink}
use Rattle.screen_lines.specs.declared.spelling.Spelling.{Spelling}
use Rattle.screen_lines.specs.declared.spelling.Spelling.TheVariants.{Absent, AsItIs, ByNumber}

-- A part: a character, the end of a line, what changes one look into another, and where the
-- characters lead that come, if they do.
pub data Part : Type 0 where
  Character : ℕ → Part
  LineEnd : Part
  Change : Look → Look → Part
  Lead : Option Target → Part

-- ---- characters

-- one from U+0020 to U+007E, or from U+00A0 on: no control
abbrev pub is_text : ℕ → Bool
is_text c = is_clear c && not (c == 0x7f)

-- the text in place of a character that deceives, after this character, or none
abbrev pub replacement : Unicode → Option ℕ → ℕ → Spelling
replacement Keep b c = AsItIs
replacement Join b c = if may_follow b c then AsItIs else ByNumber
replacement Show b c = ByNumber
replacement Drop b c = Absent

-- and of any
abbrev pub spelling : Unicode → Option ℕ → ℕ → Spelling
spelling u b c = if is_text c then if is_deceiving c then replacement u b c else AsItIs else Absent

abbrev pub spelled_text : Spelling → ℕ → List ℕ
spelled_text AsItIs c = encode_utf8 c
spelled_text ByNumber c = number_text c
spelled_text Absent c = []

-- links take at most so many bytes before any character, and so many more for each character: so a
-- text with links is no longer than a multiple of what it shows
abbrev pub first_room : ℕ
first_room = 0x100000

abbrev pub most_room : ℕ
most_room = 0x10000000000

abbrev pub more_room : ℕ → ℕ
more_room n = if nat_lt n most_room then n + 0x40 else n

abbrev pub spelled_ink : Spelling → ℕ → Ink → Ink
spelled_ink AsItIs c i = record i { last = Some c; room = more_room i.room }
spelled_ink ByNumber c i = record i { last = Some 0x3e; room = more_room i.room }
spelled_ink Absent c i = i

-- ---- links

-- a character of ASCII that shows, but a space
abbrev pub is_address_char : ℕ → Bool
is_address_char c = nat_lt 0x20 c && nat_lt c 0x7f

abbrev pub is_id : Option (List ℕ) → Bool
is_id None = true
is_id (Some i) = list_all is_address_char i

abbrev pub id_text : Option (List ℕ) → List ℕ
id_text None = []
id_text (Some i) = codes "id=" ++ i

-- the begin of a link with an id, or without one, and an address; with neither, the end of one (OSC
-- 8)
abbrev pub lead_text : Option (List ℕ) → List ℕ → List ℕ
lead_text i a = 0x1b ∷ codes "]8;" ++ (id_text i ++ (0x3b ∷ a ++ string_terminator))

-- the id of a link
abbrev pub id_of : Target → Option (List ℕ)
id_of t = value_at (codes "id") t.0

abbrev pub id_length : Option (List ℕ) → ℕ
id_length None = 0
id_length (Some i) = length i

-- how many bytes it takes at most, with its end
abbrev pub lead_length : Target → ℕ
lead_length t = id_length (id_of t) + length t.1 + 0x20

-- its id and its address have characters of ASCII that show alone
abbrev pub is_writable : Target → Bool
is_writable t = is_id (id_of t) && list_all is_address_char t.1

-- how many bytes links may take after it, where it is written
abbrev pub room_after : ℕ → Target → Option ℕ
room_after n t = if is_writable t
    then if nat_le (lead_length t) n then Some (n - lead_length t) else None
    else None

abbrev pub end_text : Bool → List ℕ
end_text b = if b then lead_text None [] else []

-- where no link is open any more
abbrev pub ended_ink : Ink → Ink
ended_ink i = if i.leads then record i { last = None; leads = false } else i

-- a link of which this is the text, after which so much room is left, or none
abbrev pub begun_text : Ink → List ℕ → Option ℕ → List ℕ
begun_text i t None = end_text i.leads
begun_text i t (Some m) = t

abbrev pub begun_ink : Ink → Option ℕ → Ink
begun_ink i None = ended_ink i
begun_ink i (Some m) = record { last = None; leads = true; room = m }

abbrev pub target_text : Ink → Option Target → List ℕ
target_text i None = end_text i.leads
target_text i (Some t) = begun_text i (lead_text (id_of t) t.1) (room_after i.room t)

abbrev pub target_ink : Ink → Option Target → Ink
target_ink i None = ended_ink i
target_ink i (Some t) = begun_ink i (room_after i.room t)

-- ---- parts

-- the text of a part, where this was written before it
abbrev pub part_text : Unicode → Ink → Part → List ℕ
part_text u i (Character c) = spelled_text (spelling u i.last c) c
part_text u i LineEnd = 0x0a ∷ []
part_text u i (Change a b) = change_text a b
part_text u i (Lead t) = target_text i t

abbrev pub part_ink : Unicode → Ink → Part → Ink
part_ink u i (Character c) = spelled_ink (spelling u i.last c) c i
part_ink u i LineEnd = record i { last = None }
part_ink u i (Change a b) = if same_look a b then i else record i { last = None }
part_ink u i (Lead t) = target_ink i t

-- at first
abbrev pub first_ink : Ink
first_ink = record { last = None; leads = false; room = first_room }

-- The output: the text, the state that it leaves to the next row, whether a line feed comes before
-- the next row, and the text in place of characters that deceive.
pub record Out : Type 0 where
  pub text : List ℕ
  pub ink : Ink
  pub gap : Bool
  pub characters : Unicode

abbrev pub out_by : Out → Part → Out
out_by o p = record {
  text = o.text ++ part_text o.characters o.ink p;
  ink = part_ink o.characters o.ink p;
  gap = o.gap;
  characters = o.characters;
}

-- after parts, one after another
abbrev pub out_from : Out → List Part → Out
out_from o [] = o
out_from o (p ∷ ps) = out_from (out_by o p) ps

abbrev pub first_out : Unicode → Out
first_out u = record { text = []; ink = first_ink; gap = false; characters = u }

-- nothing yet, where this was written before
abbrev pub emptied_out : Out → Out
emptied_out o = record o { text = [] }
