use Rattle.std.proofs.Common.{rules}
use Rattle.esc_parse.proofs.Lists.StepsOverLists.{awaits_moved, if_err_parts, moved, moved_prefix, on_ok_second}
use Rattle.std.proofs.Math.Logic.{⊎_map}
use Rattle.std.proofs.Common.{inl, inr}
use Rattle.esc_parse.proofs.parser.Parser.parse.Goals as goal
use Rattle.esc_actions.specs.Values.{value_of}
use Rattle.esc_parse.specs.Calls.{CallsOn, MayCallOn}

pub parse_into-requires : goal.parse_into-requires
parse_into-requires g c =
    ⊎_map (λ r. r) (λ w. elim w [
      | inl broken ↦ inl broken
      | inr fed ↦ inr (
        fed.0,
        fed.1,
        fed.2,
        awaits_moved (λ p. p.callback) value_of (MayCallOn g.F.FnMut) (CallsOn g.F.FnMut) _ _ fed.3,
      )
    ]) (c.requires inl inr)

pub returns : goal.returns
returns g c =
    let into = c.parse_into in record {
      given = λ limit s h.
          on_ok_second _ _ _ into.result.0
          (λ w. (
            into.result.1.callback,
            moved (λ p. p.callback) value_of (CallsOn g.F.FnMut) _ _ _ w,
          ))
          (into.ensures.given limit s h);
      handed_out = λ limit s h. c.yield_handed_out.ensures limit s c.args.bytes.now;
      refused = λ limit s h.
          if_err_parts _ _ _ _ into.result.0 _ _
          (moved_prefix (λ p. p.callback) value_of (CallsOn g.F.FnMut) _ _ _ into.result.1)
          (into.ensures.refused limit s h);
      failed = search rules;
    }
