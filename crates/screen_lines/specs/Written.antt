-- The text that lines have written.
use Rattle.std.specs.Prelude.{List, ℕ, ◌≡◌, string_bytes}
use Rattle.esc_terminal.specs.Scrolled.{Row}
use Rattle.screen_lines.specs.Parts.{Out}
use Rattle.screen_lines.specs.Rows.{out_by_row}
use Rattle.screen_lines.specs.declared.lines.Lines.{Lines}

abbrev pub text_of : {A : Type 0} → Lines A → List ℕ
text_of p = string_bytes p.text

abbrev pub out_of : {A : Type 0} → Lines A → Out
out_of p = record {
  text = text_of p;
  ink = p.ink;
  gap = p.gap;
  characters = p.characters;
}

-- a row is added
abbrev pub WritesRow : {A : Type 0} → Lines A → Row → Lines A → Type 0
WritesRow p r q = out_of q ≡ out_by_row (out_of p) r
