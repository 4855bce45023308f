use Rattle.std.proofs.Common.{arith, ◌≡◌, ◌-◌, List, ℕ, false, length, take, drop, sym, ◌∙◌, rules, subst}
use Rattle.esc_frame.proofs.ByteRuns.CsiRuns.{run_joins}
use Rattle.esc_frame.proofs.ByteRuns.ManyBytes.{tail_length}
use Rattle.caret_notation.proofs.Streams.TextOfFedBytes.{grown_more}
use Rattle.caret_notation.proofs.Spans.MoreOfSpan.{open_later}
use Rattle.caret_notation.specs.Fed.{GrowsBy, added_by}
use Rattle.caret_notation.specs.Spans.{rest_after}
use Rattle.caret_notation.specs.Runs.{has_line_end}
use Rattle.caret_notation.proofs.reveal.Reveal.take_open.Goals as goal

-- the bytes from a place on
abbrev tail : List ℕ → ℕ → List ℕ
tail bytes at = take (length bytes - at) (drop at bytes)

pub loop-at-preserved : goal.loop-at-preserved
loop-at-preserved g c =
    let bs = c.args.bytes.now in
    let at = c.loop-at.at in
    let n = c.in_ok-n.n in
    let span = take n (tail bs at) in
    let inv = c.loop-at.invariant in
    let old = c.args.self.now in
    let mid = c.loop-at.self in
    let new = c.take_some.new.self in
    let V = g.P.Admit in
    let l = tail_length bs at in
    record {
      within = omega (arith, c.in_ok-n.ensures.count, l, inv.within);
      rule = c.in_ok-n.ensures.rule ∙ inv.rule;
      grown = λ r h.
          let before = inv.grown r h in
          let m = rest_after old.rule.by_lines r (take at bs) in
          subst (λ x. GrowsBy V old.rule r x (added_by old) (added_by new) new)
          (run_joins bs at n)
          (grown_more V old.rule r (take at bs) span (added_by old) (added_by mid)
          (added_by new) mid new before
          (subst (λ u. GrowsBy V u m span (added_by mid) (added_by new) new) inv.rule
          (c.in_ok-n.ensures.given m before.0)));
    }

pub take_some-requires : goal.take_some-requires
take_some-requires g c =
    let bs = c.args.bytes.now in
    let at = c.loop-at.at in record {
      some = search rules;
      lineless =
          subst (λ u. has_line_end u.by_lines (tail bs at) ≡ false) (sym c.loop-at.invariant.rule)
          (open_later c.args.self.now.rule.by_lines at (length bs - at) bs c.requires);
    }
