use Rattle.std.proofs.Common.{inl, inr, rules}
use Rattle.std.proofs.Math.Logic.{⊎_map}
use Rattle.esc_parse.proofs.Lists.StepsOverLists.{if_err_parts, on_ok_second}
use Rattle.escape_stream.proofs.Lent.{awaits_through, gets_through, stops_through}
use Rattle.escape_stream.specs.BorrowedCalls.{CallsOn, MayCallOn}
use Rattle.escape_stream.proofs.parsing.parse_borrowed.Goals as goal

pub parse_borrowed_into-result-requires : goal.parse_borrowed_into-result-requires
parse_borrowed_into-result-requires g c =
    ⊎_map (λ r. r) (λ w. elim w [
      | inl broken ↦ inl broken
      | inr fed ↦ inr (
        fed.0,
        fed.1,
        fed.2,
        awaits_through (λ p. p.callback) (CallsOn g.F.FnMut) (MayCallOn g.F.FnMut) _ _ fed.3,
      )
    ]) (c.requires inl inr)

pub returns : goal.returns
returns g c =
    let into = c.parse_borrowed_into-result in record {
      given = λ limit s h.
          on_ok_second _ _ _ into.result.0
          (λ w. (
            into.result.1.callback,
            gets_through (λ p. p.callback) (CallsOn g.F.FnMut) _ _ _ w,
          ))
          (into.ensures.given limit s h);
      handed_out = λ limit s h. c.yield_handed_out.ensures limit s c.args.bytes.now;
      refused = λ limit s h.
          if_err_parts _ _ _ _ into.result.0 _ _
          (stops_through (λ p. p.callback) (CallsOn g.F.FnMut) _ _ _ into.result.1)
          (into.ensures.refused limit s h);
      failed = search rules;
    }
