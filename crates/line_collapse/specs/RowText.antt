-- The text of rows.
use Rattle.std.specs.Prelude.{ℕ, ◌+◌, List, Option, None, Some}
use Rattle.std.specs.Char.{len_utf8}
use Rattle.std.specs.List.{sum_by}
use Rattle.esc_screen.specs.declared.cell.Cell.{Cell}
use Rattle.esc_screen.specs.declared.content.Content.{Content}
use Rattle.esc_screen.specs.declared.content.Content.TheVariants as content
use Rattle.esc_screen.specs.declared.marks.Marks.{Marks}

-- ---- characters

abbrev pub some_chars : Option ℕ → ℕ
some_chars None = 0
some_chars (Some c) = 1

-- one and its marks
abbrev pub marked_chars : Marks → ℕ
marked_chars m = 1 + (some_chars m.first + some_chars m.second)

abbrev pub content_chars : Content → ℕ
content_chars content.Blank = 0
content_chars content.Rest = 0
content_chars (content.Narrow c m) = marked_chars m
content_chars (content.Wide c m) = marked_chars m

abbrev pub cell_chars : Cell → ℕ
cell_chars x = content_chars x.content

abbrev pub row_chars : List Cell → ℕ
row_chars xs = sum_by cell_chars xs

abbrev pub rows_chars : List (List Cell) → ℕ
rows_chars rs = sum_by row_chars rs

-- ---- bytes

abbrev pub some_bytes : Option ℕ → ℕ
some_bytes None = 0
some_bytes (Some c) = len_utf8 c

abbrev pub marked_bytes : ℕ → Marks → ℕ
marked_bytes c m = len_utf8 c + (some_bytes m.first + some_bytes m.second)

abbrev pub content_bytes : Content → ℕ
content_bytes content.Blank = 0
content_bytes content.Rest = 0
content_bytes (content.Narrow c m) = marked_bytes c m
content_bytes (content.Wide c m) = marked_bytes c m

abbrev pub cell_bytes : Cell → ℕ
cell_bytes x = content_bytes x.content

abbrev pub row_bytes : List Cell → ℕ
row_bytes xs = sum_by cell_bytes xs

abbrev pub rows_bytes : List (List Cell) → ℕ
rows_bytes rs = sum_by row_bytes rs
