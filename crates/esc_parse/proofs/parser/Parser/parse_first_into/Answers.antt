use Rattle.std.proofs.Common.{List, ◌++◌, arith, refl, rules, subst, take}
use Rattle.esc_actions.specs.Values.{Value}
use Rattle.esc_frame.proofs.Cut.CutAtGround.{to_ground}
use Rattle.esc_frame.proofs.Emits.StepsAdd.{character_fed}
use Rattle.esc_parse.proofs.Lists.ListTakesActions.{adds_one}
use Rattle.esc_parse.proofs.Lists.StepsOverLists.{if_some_at}
use Rattle.esc_parse.proofs.Values.ExactPrefixes.{char_yields, stops_one}
use Rattle.esc_parse.specs.Collected.{Adds}
use Rattle.esc_parse.specs.Fed.{ParserHasConsumedWithin}
use Rattle.esc_parse.proofs.parser.Parser.parse_first_into.Goals as goal

pub returns-in-Some : goal.returns-in-Some
unfolding ParserHasConsumedWithin
returns-in-Some g c =
    let bs = c.args.bytes.now in
    let n = c.in-Some.n in
    let had = c.args.actions.now.items in
    let all = c.push_reserved.new.self.items in
    let P : List (Value g.row.A.Denot) → Type 0 = λ vs. Adds had vs all in record {
      count = search rules;
      some = λ limit s h.
          let at = to_ground s ((c.is_ground.ensures.ground limit s h.0).0 c.if-is_ground.true) in
          let (given, quiet) = if_some_at _ _ _ c.in-Some.is (character_fed limit
          c.args.self.now.framer s bs c.first_char.result h.0 at c.first_char.ensures.prints
          (c.first_char.ensures.quiet limit)) in
          let yields = char_yields limit s (take n bs) c.in-Some.c c.args.self.now h given in
          let ground = (c.is_ground.ensures.ground limit (s ++ take n bs) given.0).0
          c.if-is_ground.true in (
            yields.0,
            stops_one limit s bs n _ c.in-Some.ensures.count.1 yields.1 quiet ground,
            subst P yields.1 (adds_one had all _ _ c.push_reserved.ensures.items refl),
          );
      handed_out = λ limit s h k. c.yield_handed_out.ensures limit s (take k bs);
      none = λ limit s h. tt;
      refused = λ limit s h. tt;
      failed = search rules;
    }

pub returns-in-Some-first_control : goal.returns-in-Some-first_control
unfolding ParserHasConsumedWithin
returns-in-Some-first_control g c =
    let bs = c.args.bytes.now in
    let had = c.args.actions.now.items in
    let push = c.push_reserved-in-Some-first_control in
    let P : List (Value g.row.A.Denot) → Type 0 = λ vs. Adds had vs push.new.self.items in record {
      count = search rules;
      some = λ limit s h.
          let yields = c.in-Some-first_control.ensures.given limit s h in
          let ground = (c.is_ground.ensures.ground limit (s ++ take 1 bs) yields.0.0).0
          c.if-is_ground.true in (
            yields.0,
            stops_one limit s bs 1 _ (omega (arith, c.in-Some-first_control.ensures.count))
                yields.1 (λ k low high. absurd (omega (arith, low, high))) ground,
            subst P yields.1 (adds_one had push.new.self.items _ _ push.ensures.items refl),
          );
      handed_out = λ limit s h k. c.yield_handed_out.ensures limit s (take k bs);
      none = λ limit s h. tt;
      refused = λ limit s h. tt;
      failed = search rules;
    }
