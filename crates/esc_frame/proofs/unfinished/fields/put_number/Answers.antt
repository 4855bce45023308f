use Rattle.std.proofs.Common.{rules}
use Rattle.esc_frame.proofs.ByteRuns.DigitRuns.{taken_some}
use Rattle.esc_frame.proofs.ByteRuns.ShortBodies.{number_after}
use Rattle.esc_frame.proofs.unfinished.fields.put_number.Goals as goal

pub returns : goal.returns
returns g c = record {
  some = search rules;
  after = search rules;
  keeps = λ x f.
      let r = c.read_number-number.ensures.reads in
      number_after _ _ x _ _ (taken_some c.args.rest.now _ r.count.0 r.count.1) r.digits r.value
      c.put_integer.ensures f;
}
