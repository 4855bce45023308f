use Rattle.std.proofs.Common.{Some, false, refl, subst, true}
use Rattle.esc_parse.proofs.Lists.StepsOverLists.{on_ok_more}
use Rattle.esc_sanitize.proofs.Auditing.{audited}
use Rattle.esc_sanitize.proofs.Ending.{going_is, text_is, written_as}
use Rattle.esc_sanitize.specs.Audits.{IsAudited}
use Rattle.esc_sanitize.specs.Stages.{options_of}
use Rattle.esc_sanitize.proofs.stream.sanitize_stream.Goals as goal

pub told-requires : goal.told-requires
told-requires g c =
    (c.sanitizing-staged.ensures.begins c.requires, refl, refl, λ s. refl, λ s. refl)

pub returns-clause-holds : goal.returns-clause-holds
returns-clause-holds g c =
    let V = g.P.Admit in
    let o = c.args.options in
    let lines = c.written_lines_read_back.ensures in
    let whole = c.written_reads_back.ensures in
    let p = V.admits o.policy in
    let begun = c.sanitizing-staged in
    let f = written_as V o (options_of begun.result) begun.ensures.options
    (text_is V o (lines true o.guard o.limit p) (whole.ended o.guard (Some o.limit) p))
    (going_is V o (lines false o.guard o.limit p) (whole.goes_on o.guard (Some o.limit) p)) _ _ _
    c.told.ensures.holds in (
      record {
        read_all = f.read_all;
        written = f.written;
        decided = f.decided;
        endless = f.endless;
        until_refused = f.until_refused;
        beginning = f.beginning;
        read_fault = f.read_fault;
        write_fault = f.write_fault;
      },
      c.writes_chunks.ensures o,
    )

pub returns-clause-account : goal.returns-clause-account
returns-clause-account g c =
    let V = g.P.Admit in
    let k = options_of c.sanitizing-staged.result in
    on_ok_more _ _ c.told.result.outcome
    (λ h. (
      h.0,
      h.2,
      subst (λ o. IsAudited V g.B.Book o c.told.result.auditor h.0)
          c.sanitizing-staged.ensures.options
          (audited V g.B.Book k c.told.result.auditor h.0 h.1.0 h.1.1 h.1.2),
    )) c.told.ensures.heard
