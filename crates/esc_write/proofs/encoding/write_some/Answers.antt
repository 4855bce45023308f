use Rattle.std.proofs.Common.{◌<◌, length, map, arith, rules}
use Rattle.std.proofs.lemmas.Grind.{common_steps}
use Rattle.esc_actions.specs.Values.{value_of}
use Rattle.esc_write.proofs.ActionRuns.{rest_have, rest_shorter, run_text}
use Rattle.esc_write.proofs.Results.{on_any_error}
use Rattle.esc_write.proofs.encoding.write_some.Goals as goal

pub returns : goal.returns
returns g c =
    let run = c.gather_eights-rest.new.run in
    let rest = c.gather_eights-rest.result.now in
    let some : 0 < length run = omega (arith, c.len.ensures.len, c.if-len-lt8.false) in record {
      text =
          run_text c.args.follows_string c.args.text.now c.push_str.new.self _ run
          (map value_of c.args.actions.now) (map value_of rest) some
          c.as_str.ensures.ascii c.gather_eights-rest.ensures c.in_ok-push_str.ensures.ok
          c.as_str.ensures.text;
      less =
          rest_shorter value_of c.args.actions.now rest run c.gather_eights-rest.ensures some;
      left = rest_have value_of c.args.actions.now rest run c.gather_eights-rest.ensures;
      refused = search rules;
    }

pub returns-in_err-push_str : goal.returns-in_err-push_str
returns-in_err-push_str g c = record {
  text = grind (arith, common_steps);
  less = grind (arith, common_steps);
  left = grind (arith, common_steps);
  refused = λ _. on_any_error _ c.in_err-push_str.ensures.refused;
}
