use Rattle.std.proofs.Common.{rules, ◌≡◌, [], length, take, sym, ◌∙◌, arith}
use Rattle.esc_frame.specs.Leads.Unfinished.{Ground}
use Rattle.esc_frame.specs.Machine.Moves.{after_all}
use Rattle.std.proofs.lemmas.Bool.{false≢true}
use Rattle.heapless_parser.specs.States.{HasConsumed}
use Rattle.heapless_parser.specs.Emitted.{queued_of}
use Rattle.heapless_parser.proofs.InChunks.SeveralStepsAreOne.{adds_fewer, at_more, at_queued, kept_at, says_nothing}
use Rattle.heapless_parser.proofs.next.resume_in.Goals as goal

pub returns-then-give_queued-clause-holds : goal.returns-then-give_queued-clause-holds
returns-then-give_queued-clause-holds c = record {
  few = search rules;
  within = search rules;
  utf8 = search rules;
  given = λ s es h ne.
      at_queued s c.args.bytes.now es c.args.parser.now c.give_queued.new.parser c.args.memory.now _
      c.give_queued.ensures.failed
      (c.give_queued.ensures.emitted c.args.out.now c.args.bytes.now) c.give_queued.ensures.queued
      (c.give_queued.ensures.kept c.args.memory.now) h;
  all = search rules;
  moves = search rules;
  limited = λ s es h k.
      absurd (omega (arith, k, (c.give_queued.ensures.some c.if-give_queued.true).1));
  failed = search rules;
  again = search rules;
}

pub returns-clause-holds : goal.returns-clause-holds
returns-clause-holds c = record {
  few = search rules;
  within = search rules;
  utf8 = search rules;
  given = λ s es h ne.
      let was : queued_of c.args.parser.now.queued_kind c.args.parser.now.queued_value ≡ [] = sym
      (c.give_queued.ensures.emitted c.args.out.now [])
      ∙ says_nothing c.give_queued.new.event c.args.out.now _
      (c.give_queued.ensures.none c.if-give_queued.false) in
      let t = c.advance_to_event in
      at_more s c.args.bytes.now t.result es c.args.parser.now t.new.parser c.args.memory.now
      t.new.memory _ t.auto.memory (t.ensures.goes_on ne ∙ c.give_queued.ensures.failed) was
      (λ u k. t.ensures.kept u (c.give_queued.ensures.kept c.args.memory.now u k) ne)
      (λ u k. t.ensures.says u (c.give_queued.ensures.kept c.args.memory.now u k) ne) h;
  all = search rules;
  moves = search rules;
  limited = λ s es h k.
      adds_fewer (length c.args.memory.now) s (take c.advance_to_event.result c.args.bytes.now)
      (c.advance_to_event.ensures.limited (after_all Ground s)
      (c.give_queued.ensures.kept c.args.memory.now (after_all Ground s)
      (kept_at s es c.args.parser.now c.args.memory.now h)) k);
  failed = search rules;
  again = search rules;
}

pub returns-then-parser-clause-sound : goal.returns-then-parser-clause-sound
unfolding HasConsumed
returns-then-parser-clause-sound c = λ less s es h. absurd (false≢true (sym h.0 ∙ c.if-parser.true))

pub returns-clause-sound : goal.returns-clause-sound
unfolding HasConsumed
returns-clause-sound c = λ less s es h.
    c.advance_to_event.ensures.sound _ (c.give_queued.ensures.kept c.args.memory.now _ h.1) less
