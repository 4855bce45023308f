use Rattle.std.proofs.Common.{rules, ◌≡◌, ◌+◌, ◌-◌, ◌++◌, true, OnOk, List, ℕ, length, take, drop, refl, sym, ap, ◌∙◌, subst, take-append-drop}
use Rattle.esc_frame.proofs.ByteRuns.CsiRuns.{run_joins}
use Rattle.std.proofs.lemmas.List.{take_rest, take_all}
use Rattle.esc_filter.specs.Lines.{GrowsBy, HasConsumedLines, ends_line, policy_of_lines}
use Rattle.esc_parse.proofs.Lists.StepsOverLists.{on_err_any, on_ok_more}
use Rattle.esc_filter.proofs.ByLine.LinesAreStreams.{grows_more, grows_not}
use Rattle.esc_filter.proofs.ByLine.BytesOfLines.{line_ended}
use Rattle.esc_filter.proofs.line_filter.LineFilter.feed_lines.Goals as goal

-- the bytes from a place on
abbrev tail : List ℕ → ℕ → List ℕ
tail bytes at = take (length bytes - at) (drop at bytes)

all : (bytes : List ℕ) (at : ℕ) → take at bytes ++ tail bytes at ≡ bytes
all bytes at = ap (λ y. take at bytes ++ y) (take_rest bytes at) ∙ take-append-drop at bytes

pub loop-at-init : goal.loop-at-init
loop-at-init g c = record {
  within = search rules;
  policy = refl;
  grown = λ u limit s w.
      grows_not u limit (g.P.Admit.admits (policy_of_lines c.args.self.now)) s c.args.self.now w;
}

pub loop-at-preserved : goal.loop-at-preserved
loop-at-preserved g c =
    let bs = c.args.bytes.now in
    let at = c.loop-at.at in
    let inv = c.loop-at.invariant in
    let n = c.in-Some.n in
    let part = take n (tail bs at) in
    let more = take c.in_ok-at-in-Some.field-0 (tail bs (at + n)) in
    record {
      within = search rules;
      policy = c.pass_plain.ensures.policy ∙ c.feed_line.ensures.policy ∙ inv.policy;
      grown = λ u limit s w.
          let admits = g.P.Admit.admits (policy_of_lines c.args.self.now) in
          let before = inv.grown u limit s w in
          let sx = s ++ take at bs in
          let line = subst (λ x. GrowsBy u admits limit s x c.args.self.now c.feed_line.new.self)
          (run_joins bs at n)
          (grows_more u limit admits s (take at bs) part c.args.self.now c.loop-at.self
          c.feed_line.new.self before
          (subst (λ p. HasConsumedLines u limit (g.P.Admit.admits p) sx c.loop-at.self
          → GrowsBy u (g.P.Admit.admits p) limit sx part c.loop-at.self c.feed_line.new.self)
          inv.policy (c.in_ok-feed_line-in-Some.ensures.given u limit sx) before.1.0)) in
          let sy = s ++ take (at + n) bs in
          let ends : ends_line true sy ≡ true = line_ended s bs at n c.in-Some.ensures.2 in
          subst (λ x. GrowsBy u admits limit s x c.args.self.now c.pass_plain.new.self)
          (run_joins bs (at + n) c.in_ok-at-in-Some.field-0)
          (grows_more u limit admits s (take (at + n) bs) more c.args.self.now
          c.feed_line.new.self c.pass_plain.new.self line
          (subst (λ p. HasConsumedLines u limit (g.P.Admit.admits p) sy c.feed_line.new.self
          → GrowsBy u (g.P.Admit.admits p) limit sy more c.feed_line.new.self
          c.pass_plain.new.self) (c.feed_line.ensures.policy ∙ inv.policy)
          (λ v. c.in_ok-at-in-Some.ensures.given u limit sy v ends) line.1.0));
    }

pub returns-in_err-feed_line-in-Some-clause-refused :
    goal.returns-in_err-feed_line-in-Some-clause-refused
returns-in_err-feed_line-in-Some-clause-refused g c = λ u limit s w.
    let inv = c.loop-at.invariant in
    let sx = s ++ take c.loop-at.at c.args.bytes.now in
    on_err_any _ c.from_residual.result
    (c.in_err-feed_line-in-Some.ensures.refused u limit sx
    (subst (λ p. HasConsumedLines u limit (g.P.Admit.admits p) sx c.loop-at.self) (sym inv.policy)
    (inv.grown u limit s w).1.0))

pub returns-in-None-clause-given : goal.returns-in-None-clause-given
returns-in-None-clause-given g c = λ u limit s w.
    let bs = c.args.bytes.now in
    let at = c.loop-at.at in
    let inv = c.loop-at.invariant in
    let admits = g.P.Admit.admits (policy_of_lines c.args.self.now) in
    let before = inv.grown u limit s w in
    let sx = s ++ take at bs in
    on_ok_more _ _ c.feed_open.result
    (λ h. subst (λ x. GrowsBy u admits limit s x c.args.self.now c.feed_open.new.self) (all bs at)
    (grows_more u limit admits s (take at bs) (tail bs at) c.args.self.now c.loop-at.self
    c.feed_open.new.self before h))
    (subst (λ p. HasConsumedLines u limit (g.P.Admit.admits p) sx c.loop-at.self
    → OnOk c.feed_open.result (GrowsBy u (g.P.Admit.admits p) limit sx (tail bs at) c.loop-at.self
    c.feed_open.new.self)) inv.policy (c.feed_open.ensures.given u limit sx) before.1.0)

pub returns-in-None-clause-refused : goal.returns-in-None-clause-refused
returns-in-None-clause-refused g c = λ u limit s w.
    let inv = c.loop-at.invariant in
    let sx = s ++ take c.loop-at.at c.args.bytes.now in
    c.feed_open.ensures.refused u limit sx
    (subst (λ p. HasConsumedLines u limit (g.P.Admit.admits p) sx c.loop-at.self) (sym inv.policy)
    (inv.grown u limit s w).1.0)

pub returns-clause-given : goal.returns-clause-given
returns-clause-given g c = λ u limit s w.
    let bs = c.args.bytes.now in
    let admits = g.P.Admit.admits (policy_of_lines c.args.self.now) in
    subst (λ x. GrowsBy u admits limit s x c.args.self.now c.loop-at.self)
    (take_all c.loop-at.at bs (search rules)) (c.loop-at.invariant.grown u limit s w)
