-- The text that a writer of lines was given.
use Rattle.std.specs.Prelude.{ℕ, ◌≡◌, List, ◌++◌, false, string_bytes}
use Rattle.esc_html.specs.Lines.{in_lines, lined_page, number_after, open_after}
use Rattle.esc_html.specs.declared.line_writer.LineWriter.{LineWriter}

-- it was given this text, whose first line has this number
pub record WasLined {A : Type 0} (first : ℕ) (s : List ℕ) (w : LineWriter A) : Type 0 where
  pub number : w.number ≡ number_after first s
  pub begun : w.is_open ≡ open_after false s

-- the text that was added last
abbrev pub added_in : {A : Type 0} → LineWriter A → List ℕ
added_in w = string_bytes w.text

-- this holds for each text that it may have been given
abbrev pub AfterLines : {A : Type 0} → LineWriter A → (ℕ → List ℕ → Type 0) → Type 0
AfterLines w C = (first : ℕ) (s : List ℕ) → WasLined first s w → C first s

-- the writer, which was given s, was given t too, and has the text that t adds
abbrev pub TakesLines : {A : Type 0} → ℕ → List ℕ → List ℕ → LineWriter A → Type 0
TakesLines first s t w = WasLined first (s ++ t) w
    × (lined_page first false (s ++ t) ≡ lined_page first false s ++ added_in w)

-- the same if t is the last
abbrev pub EndsLines : {A : Type 0} → ℕ → List ℕ → List ℕ → LineWriter A → Type 0
EndsLines first s t w = in_lines first (s ++ t) ≡ lined_page first false s ++ added_in w
