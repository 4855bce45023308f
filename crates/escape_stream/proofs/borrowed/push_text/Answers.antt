use Rattle.std.proofs.Common.{◌++◌, ap, chars, arith, map, sym, ◌∙◌}
use Rattle.std.proofs.lemmas.List.{append-nil}
use Rattle.std.proofs.lemmas.Str.{IsUtf8-past_char, chars-nil, chars_past_char}
use Rattle.std.specs.Str.Iter.{chars_rest}
use Rattle.esc_actions.specs.Values.{print, value_of}
use Rattle.esc_parse.proofs.Lists.StepsOverLists.{nothing_left}
use Rattle.escape_stream.proofs.Appended.{pushed, shorter}
use Rattle.escape_stream.proofs.borrowed.push_text.Goals as goal

pub loop-c-preserved : goal.loop-c-preserved
loop-c-preserved g c =
    let at = c.loop-c in
    let step = c.in-Some.ensures.steps.0 in record {
      room =
          omega (
            arith,
            at.invariant.room,
            c.push_reserved.ensures.len,
            c.push_reserved.ensures.capacity,
            shorter _ _ c.in-Some.c step,
          );
      utf8 = IsUtf8-past_char _ _ c.in-Some.c at.invariant.utf8 step;
      grown =
          pushed at.actions.items c.push_reserved.new.self.items c.in-Some.c _
          (chars_rest c.next.new.self) c.push_reserved.ensures.items
          (chars_past_char _ _ c.in-Some.c at.invariant.utf8 step)
          ∙ at.invariant.grown;
    }

pub returns : goal.returns
returns g c =
    let done = nothing_left _ c.in-None.ensures.steps.0.0 in
    sym (ap (λ t. map value_of c.loop-c.actions.items ++ map print (chars t)) done
    ∙ ap (λ cs. map value_of c.loop-c.actions.items ++ map print cs) chars-nil
    ∙ append-nil (map value_of c.loop-c.actions.items)) ∙ c.loop-c.invariant.grown
