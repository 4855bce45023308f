use Rattle.std.proofs.Common.{◌≡◌, rules, refl, subst, true, []}
use Rattle.esc_filter.specs.Lines.{GrowsBy, policy_of_lines}
use Rattle.esc_filter.specs.Openings.{IsQuiet}
use Rattle.esc_filter.proofs.ByLine.LinesAreStreams.{grows_not}
use Rattle.esc_filter.proofs.ByLine.PlainLinesAreKept.{plain_grows}
use Rattle.esc_filter.proofs.line_filter.LineFilter.pass_plain.Goals as goal

pub returns-then-not-passes_text-clause-given : goal.returns-then-not-passes_text-clause-given
returns-then-not-passes_text-clause-given g c = λ u limit s w ends.
    grows_not u limit (g.P.Admit.admits (policy_of_lines c.args.self.now)) s c.args.self.now w

pub returns-then-is_empty-clause-given : goal.returns-then-is_empty-clause-given
returns-then-is_empty-clause-given g c = λ u limit s w ends.
    grows_not u limit (g.P.Admit.admits (policy_of_lines c.args.self.now)) s c.args.self.now w

pub returns-clause-given : goal.returns-clause-given
returns-clause-given g c = λ u limit s w ends.
    let admits = g.P.Admit.admits (policy_of_lines c.args.self.now) in
    let new = record c.args.self.now { text = c.push_str.new.text } in
    let passes : c.passes_text.result ≡ true = search rules in
    subst (λ x. GrowsBy u admits limit s x c.args.self.now new) c.plain_lines-lines.ensures.first
    (plain_grows u limit admits c.passes_renditions.result s c.plain_lines-lines.result.now
    c.args.self.now new (c.passes_text.ensures passes) c.passes_renditions.ensures w ends
    c.plain_lines-lines.ensures.lines refl refl refl c.in_ok-push_str.ensures.bytes)

pub returns-then-not-passes_text-clause-few : goal.returns-then-not-passes_text-clause-few
returns-then-not-passes_text-clause-few g c = (search rules, λ u limit. ([], refl, tt))

pub returns-then-is_empty-clause-few : goal.returns-then-is_empty-clause-few
returns-then-is_empty-clause-few g c = (search rules, λ u limit. ([], refl, tt))

pub returns-clause-few : goal.returns-clause-few
returns-clause-few g c =
    let passes : c.passes_text.result ≡ true = search rules in
    let admits = g.P.Admit.admits (policy_of_lines c.args.self.now) in (
      c.plain_lines-lines.ensures.few,
      λ u limit. subst (IsQuiet u limit admits) c.plain_lines-lines.ensures.first
          (c.plain_lines-lines.ensures.lines.2 u limit admits (c.passes_text.ensures passes)
          c.passes_renditions.ensures).1,
    )
