use Rattle.std.proofs.Common.{◌+◌, ◌≡◌, rules, sym, subst, false, take}
use Rattle.esc_filter.proofs.ByLine.PlainLinesReadBack.{HasRead, read_feed, read_rendition, read_return, read_run, read_tab, read_wide}
use Rattle.esc_filter.proofs.plain_lines.plain_length.Goals as goal

pub loop-at-preserved-in-10-1 : goal.loop-at-preserved-in-10-1
loop-at-preserved-in-10-1 g c =
    let A = g.row.A.Denot in
    let bs = c.args.bytes.now in
    let at = c.loop-at.at + c.data_run-at.result in
    let run = read_run A c.args.renditions c.loop-at.is_on bs c.loop-at.at c.data_run-at.result
    c.loop-at.invariant.read c.data_run-at.ensures.run in
    let off : c.loop-at.is_on ≡ false = search rules in
    let more = read_feed A c.args.renditions bs at (search rules) c.in-10.is
    (subst (λ on. HasRead A c.args.renditions on (take at bs)) off run) in
    record {
      within = search rules;
      last = search rules;
      read =
          subst (λ on. HasRead A c.args.renditions on (take (at + 1) bs)) (sym off) more.0;
      lines = more.1;
    }

pub loop-at-preserved-in-9-1 : goal.loop-at-preserved-in-9-1
loop-at-preserved-in-9-1 g c =
    let A = g.row.A.Denot in
    let bs = c.args.bytes.now in
    let at = c.loop-at.at + c.data_run-at.result in
    let run = read_run A c.args.renditions c.loop-at.is_on bs c.loop-at.at c.data_run-at.result
    c.loop-at.invariant.read c.data_run-at.ensures.run in
    record {
      within = search rules;
      last = search rules;
      read = read_tab A c.args.renditions c.loop-at.is_on bs at (search rules) c.in-9.is run;
      lines = c.loop-at.invariant.lines;
    }

pub loop-at-preserved-then-renditions : goal.loop-at-preserved-then-renditions
loop-at-preserved-then-renditions g c =
    let A = g.row.A.Denot in
    let bs = c.args.bytes.now in
    let at = c.loop-at.at + c.data_run-at.result in
    let run = read_run A c.args.renditions c.loop-at.is_on bs c.loop-at.at c.data_run-at.result
    c.loop-at.invariant.read c.data_run-at.ensures.run in
    record {
      within = search rules;
      last = search rules;
      read =
          read_rendition A c.args.renditions c.loop-at.is_on c.in-Some.found.1 bs at
          c.in-Some.found.0 (search rules) c.in-Some.ensures.1 run;
      lines = c.loop-at.invariant.lines;
    }

pub loop-at-preserved-in-13-1 : goal.loop-at-preserved-in-13-1
loop-at-preserved-in-13-1 g c =
    let A = g.row.A.Denot in
    let bs = c.args.bytes.now in
    let at = c.loop-at.at + c.data_run-at.result in
    let run = read_run A c.args.renditions c.loop-at.is_on bs c.loop-at.at c.data_run-at.result
    c.loop-at.invariant.read c.data_run-at.ensures.run in
    let off : c.loop-at.is_on ≡ false = search rules in
    let more = read_return A c.args.renditions bs at (search rules) c.in-13.is (search rules)
    (subst (λ on. HasRead A c.args.renditions on (take at bs)) off run) in
    record {
      within = search rules;
      last = search rules;
      read =
          subst (λ on. HasRead A c.args.renditions on (take (at + 2) bs)) (sym off) more.0;
      lines = more.1;
    }

pub loop-at-preserved : goal.loop-at-preserved
loop-at-preserved g c =
    let A = g.row.A.Denot in
    let bs = c.args.bytes.now in
    let at = c.loop-at.at + c.data_run-at.result in
    let run = read_run A c.args.renditions c.loop-at.is_on bs c.loop-at.at c.data_run-at.result
    c.loop-at.invariant.read c.data_run-at.ensures.run in
    record {
      within = search rules;
      last = search rules;
      read =
          read_wide A c.args.renditions c.loop-at.is_on bs at c.wide_run-run.result
          c.wide_run-run.ensures.run run;
      lines = c.loop-at.invariant.lines;
    }
