-- The text of a row.
use Rattle.std.specs.Prelude.{ℕ, ◌+◌, List, [], ◌∷◌, ◌++◌, Option, None, Some, replicate}
use Rattle.std.specs.Char.{encode_utf8}
use Rattle.esc_screen.specs.declared.cell.Cell.{Cell}
use Rattle.esc_screen.specs.declared.content.Content.{Content}
use Rattle.esc_screen.specs.declared.content.Content.TheVariants as content
use Rattle.esc_screen.specs.declared.marks.Marks.{Marks}

-- the marks on a character
abbrev pub mark_text : Option ℕ → List ℕ
mark_text None = []
mark_text (Some c) = encode_utf8 c

abbrev pub marks_text : Marks → List ℕ
marks_text m = mark_text m.first ++ mark_text m.second

-- a character and its marks, after so many blank cells
abbrev pub shown_text : ℕ → ℕ → Marks → List ℕ
shown_text n c m = replicate n 0x20 ++ (encode_utf8 c ++ marks_text m)

-- A cell after so many blank ones, by what comes of those that follow: after one blank more, after
-- as many, and after none.
abbrev pub content_text : ℕ → Content → List ℕ → List ℕ → List ℕ → List ℕ
content_text n content.Blank more same none = more
content_text n content.Rest more same none = same
content_text n (content.Narrow c m) more same none = shown_text n c m ++ none
content_text n (content.Wide c m) more same none = shown_text n c m ++ none

-- Cells after so many blank ones: a blank one is a space, but at the end nothing, and so is the
-- second half of a wide character.
abbrev pub cells_text : ℕ → List Cell → List ℕ
cells_text n [] = []
cells_text n (x ∷ xs) =
    content_text n x.content (cells_text (n + 1) xs) (cells_text n xs) (cells_text 0 xs)

abbrev pub row_text : List Cell → List ℕ
row_text xs = cells_text 0 xs
