use Rattle.std.proofs.Common.{rules, take, refl, arith}
use Rattle.std.proofs.lemmas.List.{length-take-le}
use Rattle.esc_frame.specs.Machine.Moves.{after_all}
use Rattle.heapless_parser.proofs.KeptState.NumbersPastLimit.{kept_noted, limited_noted}
use Rattle.heapless_parser.proofs.advance.by_machine.Goals as goal

pub returns : goal.returns
returns c = record {
  few = search rules;
  fits = search rules;
  some = search rules;
  kept = λ u h ne.
      kept_noted c.of-before.result c.step-taken.new.parser c.note_limited.new.parser
      c.step-taken.new.event c.note_limited.new.event (take c.step-taken.result.0 c.args.bytes.now)
      c.step-taken.new.memory (after_all u (take c.step-taken.result.0 c.args.bytes.now))
      c.note_limited.ensures
      (c.step-taken.ensures.kept u h c.if-has_failed.false);
  says = search rules;
  queued = search rules;
  limited = λ u h k.
      limited_noted c.of-before.result c.args.parser.now c.step-taken.new.parser
      c.note_limited.new.parser c.step-taken.new.event c.note_limited.new.event c.args.memory.now
      c.step-taken.new.memory c.step-taken.new.out u
      (take c.step-taken.result.0 c.args.bytes.now) (
        c.of-before.ensures.state,
        c.of-before.ensures.pending,
        c.of-before.ensures.form,
        c.of-before.ensures.over,
      )
      (omega (
        arith,
        length-take-le c.step-taken.result.0 c.args.bytes.now c.step-taken.ensures.few,
        c.step-taken.ensures.some c.if-has_failed.false,
      ))
      h
      (c.step-taken.ensures.kept u h c.if-has_failed.false)
      (c.step-taken.ensures.emitted u h c.if-has_failed.false)
      (c.if-not-is_sound.ensures.sound refl).1 c.note_limited.ensures k;
  failed = search rules;
  goes_on = search rules;
  sound = search rules;
}
