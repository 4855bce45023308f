-- A filter whose text is a page, and elements of its lines.
use Rattle.std.specs.Prelude.{ℕ, ◌≡◌, List, false}
use Rattle.esc_decode.specs.Decodings.{OnlyAdds}
use Rattle.esc_html.specs.Lines.{in_lines, lined_page}
use Rattle.esc_html.specs.Lining.{WasLined}
use Rattle.esc_normal.specs.declared.feeding.StreamFilter.{Ghosts as Feeder}
use Rattle.eschtml.specs.declared.lined.Lined.{Lined}

-- the text of a stream that goes on, with its lines in elements; and of one that has ended
abbrev pub going_in : ℕ → (List ℕ → List ℕ) → List ℕ → List ℕ
going_in n m s = lined_page n false (m s)

abbrev pub ended_in : ℕ → (List ℕ → List ℕ) → List ℕ → List ℕ
ended_in n c s = in_lines n (c s)

-- The filter was fed this stream, and the lines its text.
pub record FeedsLines {F A : Type 0} (V : Feeder F A) (f : Lined F A) (m c : List ℕ → List ℕ)
    (s : List ℕ) : Type 0 where
  pub inner : List ℕ → List ℕ
  pub inner_end : List ℕ → List ℕ
  pub first : ℕ
  pub adds : OnlyAdds inner inner_end
  pub given : V.gives f.filter inner inner_end s
  pub lines : WasLined first (inner s) f.lines
  pub goes_on : m ≡ going_in first inner
  pub ended : c ≡ ended_in first inner_end
