use Rattle.std.proofs.Common.{◌≡◌, ◌∙◌, [], take, refl, rules, sym}
use Rattle.std.specs.Prelude.{string_bytes}
use Rattle.esc_filter.specs.Lines.{policy_of_lines}
use Rattle.esc_parse.proofs.Lists.StepsOverLists.{if_ok_more}
use Rattle.esc_filter.proofs.Renditions.RenditionsAreResumed.{nil_of, ok_each, resumes_not, resumes_quiet}
use Rattle.esc_filter.proofs.resuming.ResumingFilter.take_plain.Goals as goal

pub returns-then-is_empty-clause-given : goal.returns-then-is_empty-clause-given
returns-then-is_empty-clause-given g c = λ k u limit d w m ends.
    let admits = g.P.Admit.admits (policy_of_lines c.args.self.now.lines) in
    let none : string_bytes c.args.self.now.opening ≡ [] =
    sym c.as_bytes.ensures.value ∙ nil_of c.as_bytes.result.now (search rules) in
    ok_each _ _ _ c.pass_plain.result
    (λ n h q. resumes_quiet k u limit admits d (take n c.args.bytes.now) c.args.self.now
    (record c.args.self.now { lines = c.pass_plain.new.self }) m ends none (q.1 u limit) h refl refl
    refl)
    (c.pass_plain.ensures.given u limit d w ends) c.pass_plain.ensures.few

pub returns-then-is_empty-clause-few : goal.returns-then-is_empty-clause-few
returns-then-is_empty-clause-few g c =
    if_ok_more _ _ c.pass_plain.result (λ n h. h.0) c.pass_plain.ensures.few

pub returns-else-is_empty-clause-given : goal.returns-else-is_empty-clause-given
returns-else-is_empty-clause-given g c = λ k u limit d w m ends.
    let admits = g.P.Admit.admits (policy_of_lines c.args.self.now.lines) in
    resumes_not k u limit admits d c.args.self.now w m
