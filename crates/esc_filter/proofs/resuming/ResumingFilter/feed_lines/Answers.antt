use Rattle.std.proofs.Common.{rules, ◌≡◌, ◌+◌, ◌-◌, ◌++◌, true, OnErr, OnOk, List, ℕ, length, take, drop, ap, refl, ◌∙◌, subst}
use Rattle.esc_frame.proofs.ByteRuns.CsiRuns.{run_joins}
use Rattle.std.proofs.lemmas.List.{take_rest, take_all}
use Rattle.std.proofs.Common.{take-append-drop}
use Rattle.esc_filter.specs.Lines.{HasConsumedLines, ends_line}
use Rattle.esc_filter.specs.Resumed.{GrowsResumed, IsMarked, policy_of_resuming}
use Rattle.fallible_alloc.specs.Refusals.{Refused}
use Rattle.esc_parse.proofs.Lists.StepsOverLists.{on_err_any, on_ok_more}
use Rattle.esc_filter.proofs.ByLine.BytesOfLines.{line_ended}
use Rattle.esc_filter.proofs.Renditions.RenditionsAreResumed.{fed_grown, resumes_more, resumes_not}
use Rattle.esc_filter.proofs.resuming.ResumingFilter.feed_lines.Goals as goal

-- the bytes from a place on
abbrev tail : List ℕ → ℕ → List ℕ
tail bytes at = take (length bytes - at) (drop at bytes)

all : (bytes : List ℕ) (at : ℕ) → take at bytes ++ tail bytes at ≡ bytes
all bytes at = ap (λ y. take at bytes ++ y) (take_rest bytes at) ∙ take-append-drop at bytes

pub loop-at-init : goal.loop-at-init
loop-at-init g c = record {
  within = search rules;
  policy = refl;
  grown = λ k u limit d w m.
      resumes_not k u limit (g.P.Admit.admits (policy_of_resuming c.args.self.now)) d
      c.args.self.now w m;
}

pub loop-at-preserved : goal.loop-at-preserved
loop-at-preserved g c =
    let bs = c.args.bytes.now in
    let at = c.loop-at.at in
    let inv = c.loop-at.invariant in
    let n = c.in-Some.n in
    let first = c.args.self.now in
    let part = take n (tail bs at) in
    let count = c.in_ok-at-in-Some.field-0 in
    let more = take count (tail bs (at + n)) in
    let policy = c.take_line.ensures.policy ∙ inv.policy in
    record {
      within = search rules;
      policy = c.take_plain.ensures.policy ∙ policy;
      grown = λ k u limit d w m.
          let admits = g.P.Admit.admits (policy_of_resuming first) in
          let before = inv.grown k u limit d w m in
          let (fed, marks, same) =
          fed_grown k u limit admits d (take at bs) first c.loop-at.self before in
          let line = subst (λ x. GrowsResumed k u admits limit d x first c.take_line.new.self)
          (run_joins bs at n)
          (resumes_more k u limit admits d (take at bs) part first c.loop-at.self
          c.take_line.new.self before
          (subst (λ p. HasConsumedLines u limit (g.P.Admit.admits p) (d ++ before.0)
          c.loop-at.self.lines
          → IsMarked k u limit (g.P.Admit.admits p) (d ++ before.0) c.loop-at.self
          → GrowsResumed k u (g.P.Admit.admits p) limit (d ++ before.0) part c.loop-at.self
          c.take_line.new.self) inv.policy
          (c.in_ok-take_line-in-Some.ensures.given k u limit (d ++ before.0)) fed marks)) in
          let (fed2, marks2, same2) =
          fed_grown k u limit admits d (take (at + n) bs) first c.take_line.new.self line in
          let ends : ends_line true (d ++ line.0) ≡ true =
          same2 ∙ line_ended d bs at n c.in-Some.ensures.2 in
          subst (λ x. GrowsResumed k u admits limit d x first c.take_plain.new.self)
          (run_joins bs (at + n) count)
          (resumes_more k u limit admits d (take (at + n) bs) more first c.take_line.new.self
          c.take_plain.new.self line
          (subst (λ p. HasConsumedLines u limit (g.P.Admit.admits p) (d ++ line.0)
          c.take_line.new.self.lines
          → IsMarked k u limit (g.P.Admit.admits p) (d ++ line.0) c.take_line.new.self
          → GrowsResumed k u (g.P.Admit.admits p) limit (d ++ line.0) more c.take_line.new.self
          c.take_plain.new.self) policy
          (λ v h. c.in_ok-at-in-Some.ensures.given k u limit (d ++ line.0) v h ends) fed2
          marks2));
    }

pub returns-in_err-take_line-in-Some-clause-refused :
    goal.returns-in_err-take_line-in-Some-clause-refused
returns-in_err-take_line-in-Some-clause-refused g c = λ k u limit d w m.
    let inv = c.loop-at.invariant in
    let admits = g.P.Admit.admits (policy_of_resuming c.args.self.now) in
    let before = inv.grown k u limit d w m in
    let (fed, marks, same) =
    fed_grown k u limit admits d (take c.loop-at.at c.args.bytes.now) c.args.self.now c.loop-at.self
    before in
    on_err_any _ c.from_residual.result
    (subst (λ p. HasConsumedLines u limit (g.P.Admit.admits p) (d ++ before.0) c.loop-at.self.lines
    → IsMarked k u limit (g.P.Admit.admits p) (d ++ before.0) c.loop-at.self
    → Refused g.row.A.Denot) inv.policy
    (c.in_err-take_line-in-Some.ensures.refused k u limit (d ++ before.0)) fed marks)

pub returns-in-None-clause-given : goal.returns-in-None-clause-given
returns-in-None-clause-given g c = λ k u limit d w m.
    let bs = c.args.bytes.now in
    let at = c.loop-at.at in
    let inv = c.loop-at.invariant in
    let first = c.args.self.now in
    let admits = g.P.Admit.admits (policy_of_resuming first) in
    let before = inv.grown k u limit d w m in
    let (fed, marks, same) =
    fed_grown k u limit admits d (take at bs) first c.loop-at.self before in
    on_ok_more _ _ c.take_open.result
    (λ h. subst (λ x. GrowsResumed k u admits limit d x first c.take_open.new.self) (all bs at)
    (resumes_more k u limit admits d (take at bs) (tail bs at) first c.loop-at.self
    c.take_open.new.self before h))
    (subst (λ p. HasConsumedLines u limit (g.P.Admit.admits p) (d ++ before.0) c.loop-at.self.lines
    → IsMarked k u limit (g.P.Admit.admits p) (d ++ before.0) c.loop-at.self
    → OnOk c.take_open.result (GrowsResumed k u (g.P.Admit.admits p) limit (d ++ before.0)
    (tail bs at) c.loop-at.self c.take_open.new.self)) inv.policy
    (c.take_open.ensures.given k u limit (d ++ before.0)) fed marks)

pub returns-in-None-clause-refused : goal.returns-in-None-clause-refused
returns-in-None-clause-refused g c = λ k u limit d w m.
    let inv = c.loop-at.invariant in
    let admits = g.P.Admit.admits (policy_of_resuming c.args.self.now) in
    let before = inv.grown k u limit d w m in
    let (fed, marks, same) =
    fed_grown k u limit admits d (take c.loop-at.at c.args.bytes.now) c.args.self.now c.loop-at.self
    before in
    subst (λ p. HasConsumedLines u limit (g.P.Admit.admits p) (d ++ before.0) c.loop-at.self.lines
    → IsMarked k u limit (g.P.Admit.admits p) (d ++ before.0) c.loop-at.self
    → OnErr c.take_open.result (Refused g.row.A.Denot)) inv.policy
    (c.take_open.ensures.refused k u limit (d ++ before.0)) fed marks

pub returns-clause-given : goal.returns-clause-given
returns-clause-given g c = λ k u limit d w m.
    let bs = c.args.bytes.now in
    let admits = g.P.Admit.admits (policy_of_resuming c.args.self.now) in
    subst (λ x. GrowsResumed k u admits limit d x c.args.self.now c.loop-at.self)
    (take_all c.loop-at.at bs (search rules)) (c.loop-at.invariant.grown k u limit d w m)
