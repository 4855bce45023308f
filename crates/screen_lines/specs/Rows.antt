-- The parts of rows.
use Rattle.std.specs.Prelude.{ℕ, ◌+◌, ◌==◌, Bool, true, false, not, ◌&&◌, ◌||◌, if◌then◌else◌, List, [], ◌∷◌, ◌++◌, replicate, Option, None, Some, is_some}
use Rattle.esc_screen.specs.Cells.{is_joined, is_rest}
use Rattle.esc_screen.specs.declared.cell.Cell.{Cell}
use Rattle.esc_screen.specs.declared.content.Content.{Content}
use Rattle.esc_screen.specs.declared.content.Content.TheVariants as content
use Rattle.esc_screen.specs.declared.marks.Marks.{Marks}
use Rattle.esc_sgr.specs.Sgr.{same_look}
use Rattle.esc_style.specs.Looks.{plain_look}
use Rattle.esc_style.specs.declared.look.Look.{Look}
use Rattle.esc_terminal.specs.Links.{Known, known_look, known_target, link_number}
use Rattle.esc_terminal.specs.Scrolled.{Row}
use Rattle.screen_lines.specs.Parts.{Out, Part, out_from}
use Rattle.screen_lines.specs.Parts.Part.{Change, Character, Lead, LineEnd}
use Rattle.screen_lines.specs.declared.going.Going.{Going}

-- ---- cells

abbrev pub is_blank_content : Content → Bool
is_blank_content content.Blank = true
is_blank_content _ = false

-- nothing is seen of a cell: it is blank, and looks plain, as those of the first number do
abbrev pub is_hidden : Known → Cell → Bool
is_hidden k x = is_blank_content x.content
    && ((x.look == 0) || same_look plain_look (known_look x.look k))

-- a cell as at first, which has the first number
abbrev pub is_unwritten : Cell → Bool
is_unwritten x = is_blank_content x.content && (x.look == 0)

abbrev pub mark_parts : Option ℕ → List Part
mark_parts None = []
mark_parts (Some c) = Character c ∷ []

-- a character and its marks
abbrev pub marked_parts : ℕ → Marks → List Part
marked_parts c m = Character c ∷ (mark_parts m.first ++ mark_parts m.second)

-- the parts of a cell: a space if it is blank, and nothing for the second column of a character
abbrev pub content_parts : Content → List Part
content_parts content.Blank = Character 0x20 ∷ []
content_parts content.Rest = []
content_parts (content.Narrow c m) = marked_parts c m
content_parts (content.Wide c m) = marked_parts c m

-- ---- looks and links, by the number of the cell before, if there is one that is not plain

abbrev pub held_look : Known → Option ℕ → Look
held_look k None = plain_look
held_look k (Some n) = known_look n k

abbrev pub held_link : Known → Option ℕ → Option ℕ
held_link k None = None
held_link k (Some n) = link_number n k.linked

abbrev pub is_same_number : Option ℕ → Option ℕ → Bool
is_same_number None None = true
is_same_number (Some m) (Some n) = m == n
is_same_number _ _ = false

-- to the link of a number
abbrev pub leads_parts : Known → Option ℕ → ℕ → List Part
leads_parts k h n = if is_same_number (held_link k h) (link_number n k.linked) then []
    else Lead (known_target n k) ∷ []

-- to the look and the link of a number
abbrev pub change_parts : Known → Option ℕ → ℕ → List Part
change_parts k h n = if is_same_number h (Some n) then []
    else leads_parts k h n ++ Change (held_look k h) (known_look n k) ∷ []

abbrev pub ended_parts : Bool → List Part
ended_parts b = if b then Lead None ∷ [] else []

-- to the plain look and no link
abbrev pub plain_parts : Known → Option ℕ → List Part
plain_parts k None = []
plain_parts k (Some n) = ended_parts (is_some (link_number n k.linked))
    ++ Change (known_look n k) plain_look ∷ []

-- so many cells of which nothing is seen, before one of which something is
abbrev pub blanks_parts : Known → Option ℕ → ℕ → List Part
blanks_parts k h n = if n == 0 then [] else plain_parts k h ++ replicate n (Character 0x20)

abbrev pub blanks_held : Option ℕ → ℕ → Option ℕ
blanks_held h n = if n == 0 then h else None

-- ---- rows

-- the parts that a cell adds: invisible ones come before the next one that is visible
abbrev pub seen_parts : Known → Going → Cell → List Part
seen_parts k w x = blanks_parts k w.held w.blanks
    ++ (change_parts k (blanks_held w.held w.blanks) x.look ++ content_parts x.content)

abbrev pub cell_parts : Known → Going → Cell → List Part
cell_parts k w x = if is_hidden k x then [] else if is_rest x then [] else seen_parts k w x

abbrev pub going_by : Known → Going → Cell → Going
going_by k w x = if is_hidden k x then record w { blanks = w.blanks + 1 }
    else if is_rest x then w
    else record { held = Some x.look; blanks = 0 }

-- cells, and then the plain look and no link
abbrev pub cells_parts : Known → Going → List Cell → List Part
cells_parts k w [] = plain_parts k w.held
cells_parts k w (x ∷ xs) = cell_parts k w x ++ cells_parts k (going_by k w x) xs

abbrev pub first_going : Going
first_going = record { held = None; blanks = 0 }

abbrev pub gap_parts : Bool → List Part
gap_parts b = if b then LineEnd ∷ [] else []

abbrev pub row_parts : Bool → Row → List Part
row_parts b r = gap_parts b ++ cells_parts r.1 first_going r.0

-- a row more, which ends its line where it does not go on in the next one
abbrev pub out_by_row : Out → Row → Out
out_by_row o r = record (out_from o (row_parts o.gap r)) { gap = not (is_joined r.0) }

abbrev pub out_by_rows : Out → List Row → Out
out_by_rows o [] = o
out_by_rows o (r ∷ rs) = out_by_rows (out_by_row o r) rs
