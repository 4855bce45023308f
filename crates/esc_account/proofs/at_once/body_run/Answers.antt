use Rattle.std.proofs.Common.{◌≡◌, true, take, subst}
use Rattle.std.specs.List.{list_all}
use Rattle.esc_frame.specs.Bodies.{is_csi_parameter}
use Rattle.esc_account.proofs.Segments.SequencesWithoutNoise.{body_is}
use Rattle.esc_account.proofs.at_once.body_run.Goals as goal

pub returns-clause-each : goal.returns-clause-each
returns-clause-each c =
    let n = c.parameter_run.result in
    let p = c.prefix_run-prefix in
    (body_is p.result n c.args.bytes.now p.ensures.few.1 p.ensures.few.0 p.ensures.prefix
    (subst (λ v. list_all is_csi_parameter (take n v) ≡ true) c.after.ensures
    c.parameter_run.ensures.each)).0

pub returns-clause-form : goal.returns-clause-form
returns-clause-form c =
    let n = c.parameter_run.result in
    let p = c.prefix_run-prefix in
    (body_is p.result n c.args.bytes.now p.ensures.few.1 p.ensures.few.0 p.ensures.prefix
    (subst (λ v. list_all is_csi_parameter (take n v) ≡ true) c.after.ensures
    c.parameter_run.ensures.each)).1
