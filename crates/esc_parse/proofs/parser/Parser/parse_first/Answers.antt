use Rattle.std.proofs.Common.{arith, take, rules}
use Rattle.esc_actions.specs.Values.{control, print}
use Rattle.esc_parse.specs.Calls.{After, YieldsFirst}
use Rattle.esc_parse.specs.Fed.{ParserHasConsumedWithin}
use Rattle.esc_parse.proofs.Values.ExactPrefixes.{char_yields, finds_one, first_handed}
use Rattle.esc_parse.proofs.parser.Parser.parse_first.Goals as goal

pub returns-in-Some : goal.returns-in-Some
unfolding ParserHasConsumedWithin
returns-in-Some g c =
    let bs = c.args.bytes.now in
    let n = c.in-Some.n in
    let is : After c.args.self.now
    (λ limit s. YieldsFirst limit s bs c.args.self.now (print c.in-Some.c) n) =
    λ limit s h.
    let (given, quiet) = c.in-Some.ensures.given limit s h.0 in
    let yields = char_yields limit s (take n bs) c.in-Some.c c.args.self.now h given in
    (yields.0, finds_one limit s bs n _ c.in-Some.ensures.count.1 yields.1 quiet) in record {
      count = search rules;
      some = is;
      handed_out = λ limit s h.
          first_handed g.row.A.Denot c.yield_handed_out.ensures limit s bs _ n (is limit s h).1;
      none = λ limit s h. tt;
      refused = λ limit s h. tt;
      failed = search rules;
    }

pub returns-in-Some-first_control : goal.returns-in-Some-first_control
returns-in-Some-first_control g c =
    let bs = c.args.bytes.now in
    let is : After c.args.self.now
    (λ limit s. YieldsFirst limit s bs c.args.self.now (control c.in-Some-first_control.code) 1) =
    λ limit s h.
    let yields = c.in-Some-first_control.ensures.given limit s h in (
      yields.0,
      finds_one limit s bs 1 _ (omega (arith, c.in-Some-first_control.ensures.count))
          yields.1 (λ k low high. absurd (omega (arith, low, high))),
    ) in record {
      count = search rules;
      some = is;
      handed_out = λ limit s h.
          first_handed g.row.A.Denot c.yield_handed_out.ensures limit s bs _ 1 (is limit s h).1;
      none = λ limit s h. tt;
      refused = λ limit s h. tt;
      failed = search rules;
    }
