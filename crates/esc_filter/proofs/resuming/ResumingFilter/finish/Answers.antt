use Rattle.std.proofs.Common.{refl, sym, ◌∙◌}
use Rattle.esc_filter.specs.Lines.{policy_of_lines}
use Rattle.esc_filter.specs.Openings.{resumed_stream}
use Rattle.esc_parse.proofs.Lists.StepsOverLists.{on_ok_more}
use Rattle.esc_filter.proofs.Renditions.RenditionsGoOn.{at_none}
use Rattle.esc_filter.proofs.resuming.ResumingFilter.finish.Goals as goal

pub returns-clause-ended : goal.returns-clause-ended
returns-clause-ended g c = λ k u limit s w.
    let admits = g.P.Admit.admits (policy_of_lines c.args.self.now.lines) in
    let d = resumed_stream {A = g.row.A.Denot} k u limit admits s in
    on_ok_more _ _ c.finish.result (λ h. (
      record {
        fed = h.0;
        marks = record {
          resumes = w.marks.resumes;
          begun = refl;
          opening = λ _. c.clear.ensures.bytes ∙ sym (at_none u limit admits k);
        };
      },
      h.1,
    )) (c.finish.ensures.ended u limit d w.fed)

pub returns-clause-refused : goal.returns-clause-refused
returns-clause-refused g c = λ k u limit s w.
    let admits = g.P.Admit.admits (policy_of_lines c.args.self.now.lines) in
    c.finish.ensures.refused u limit (resumed_stream {A = g.row.A.Denot} k u limit admits s) w.fed
