use Rattle.line_collapse.specs.RowText.{row_bytes, row_chars}
use Rattle.line_collapse.proofs.Adding.{item_added}
use Rattle.line_collapse.proofs.tally.Tally.keep.Goals as goal

pub returns : goal.returns
returns g c = λ m n s rs h. record {
  parser = h.parser;
  height = h.height;
  width = h.width;
  printed = h.printed;
  kept = item_added row_chars row_bytes rs c.args.cells.now _ _ h.kept c.add_row.ensures;
}
