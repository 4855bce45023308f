use Rattle.std.proofs.Common.{false, true}
use Rattle.esc_sanitize.proofs.OfParts.{any_parts, collapsed_parts, written_parts}
use Rattle.esc_sanitize.proofs.laws.writes_chunks.Goals as goal

pub returns : goal.returns
returns g c = λ o.
    let A = g.row.A.Denot in
    let V = g.P.Admit in
    let plain = c.writes_plain_text.ensures in
    let color = c.writes_color_text.ensures in
    let left = c.leaves_color_text.ensures in
    record {
      plain = λ none within. written_parts A false plain.goes_on plain.ended plain.by_lines
          plain.ended_by_lines V o none within;
      color = λ within. any_parts A left.final_rows left.all_rows V o
          (λ none. written_parts A true color.goes_on color.ended color.by_lines
          color.ended_by_lines V o none within);
      collapsed = λ n rows. collapsed_parts A left.final_rows left.all_rows V o n rows;
    }
