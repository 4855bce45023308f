use Rattle.std.proofs.Common.{rules, ◌≡◌, ◌≤◌, false, length, take, ap, sym, ◌∙◌, subst, Some}
use Rattle.esc_frame.specs.Leads.{Unfinished, Holds}
use Rattle.esc_frame.specs.Machine.Moves.{events_all}
use Rattle.heapless_parser.specs.Noted.{IsSound, GivesSound}
use Rattle.heapless_parser.specs.States.{KeptIn}
use Rattle.heapless_parser.specs.Texts.{KeepsBorrowed}
use Rattle.heapless_parser.specs.Emitted.{is_run, said_events}
use Rattle.heapless_parser.proofs.EventNotes.StepsEmit.{taken_few, took_said, took_sound, said_same, or_parts, or_none}
use Rattle.heapless_parser.proofs.step.step_in.Goals as goal

pub returns-clause-step : goal.returns-clause-step
returns-clause-step g c =
    let old = c.listen-recorder.result in
    let new = c.parse_until_event.new.actor in
    let room = c.requires.lent.size in
    let place = c.requires.lent.noting.size in
    let kind : old.event.now.kind ≡ 0 = ap (λ x. x.kind) c.listen-recorder.ensures.now.1
    ∙ c.requires.asked.none in
    let limit = c.load-machine.result.limit in
    let same = c.load-machine.ensures.limit in
    let n = c.taken_of-taken.result.0 in
    let bs = c.args.bytes.now in
    let holds : (u : Unfinished) → KeptIn c.args.parser.now c.args.memory.now u
    → Holds (λ limit k t. KeepsBorrowed limit k.is_over k.count k.memory.now t) limit
    c.load-machine.result u = λ u h.
    subst (λ l. Holds (λ limit k t. KeepsBorrowed limit k.is_over k.count k.memory.now t) l
    c.load-machine.result u) (sym same) (c.load-machine.ensures.holds u h) in
    let took : (u : Unfinished) → KeptIn c.args.parser.now c.args.memory.now u
    → c.into_parts.result.has_failed ≡ false
    → (said_events new.event.now new.out.now new.queued_kind new.queued_value
    ≡ events_all limit u (take n bs)) × (is_run new.event.now.kind ≡ false) = λ u h f.
    let no = or_parts c.taken_of-taken.result.1 new.is_lost (sym c.into_parts.ensures.failed ∙ f)
    in
    took_said (λ limit k t. KeepsBorrowed limit k.is_over k.count k.memory.now t)
    (λ s. s.event.now) (λ s. s.out.now) (λ s. s.queued_kind) (λ s. s.queued_value)
    (λ s. s.is_lost) g.N.Named.room g.N.Named.place u bs c.parse_until_event.new.self old new kind
    c.listen-recorder.ensures.queued limit c.parse_until_event.result n
    (c.taken_of-taken.ensures.ok no.0) (c.parse_until_event.ensures.took u (holds u h)) no.1
    in record {
      few =
          subst (λ k. k ≤ length bs) (sym c.into_parts.ensures.taken)
          (taken_few (λ s. Unit {0}) c.parse_until_event.result n c.taken_of-taken.result.1 bs
          c.load-machine.result c.parse_until_event.new.self new new c.taken_of-taken.ensures.ok
          c.taken_of-taken.ensures.none c.parse_until_event.ensures.count);
      some = search rules;
      kept = search rules;
      emitted = λ u h f.
          said_same _ _ _ _ _ _ _ _ c.into_parts.ensures.now.2 c.into_parts.ensures.now.1
          c.unload.ensures.due.0 c.unload.ensures.due.1 ∙ (took u h f).0
          ∙ ap (λ l. events_all l u (take n bs)) (same ∙ ap Some (sym room))
          ∙ ap (λ k. events_all (Some (length c.args.memory.now)) u (take k bs))
          (sym c.into_parts.ensures.taken);
      run = λ u h f. ap (λ x. is_run x.kind) c.into_parts.ensures.now.2 ∙ (took u h f).1;
      sound = λ u h less bounds.
          let fits = subst (λ r. r ≤ g.N.Named.place) room
          (subst (λ p. length c.args.memory.now ≤ p) place less) in
          let before = subst (λ p. IsSound old.event.now p) place
          (subst (λ e. IsSound e (length c.args.out.now)) (sym c.listen-recorder.ensures.now.1)
          bounds) in
          let k = took_sound (λ limit k t. KeepsBorrowed limit k.is_over k.count k.memory.now t)
          (λ s. s.event.now) (λ s. s.out.now) (λ s. s.queued_kind) (λ s. s.queued_value)
          (λ s. s.is_lost) g.N.Named.room g.N.Named.place u bs c.parse_until_event.new.self old new
          kind
          c.listen-recorder.ensures.queued limit c.parse_until_event.result same
          (c.parse_until_event.ensures.took u (holds u h))
          (c.parse_until_event.ensures.quiet u (holds u h)) fits
          c.listen-recorder.ensures.lost before in (
            c.into_parts.ensures.failed ∙ or_none c.taken_of-taken.result.1 new.is_lost
                (c.taken_of-taken.ensures.fails k.0 k.1) k.2,
            subst (λ e. GivesSound e c.unload.new.parser.queued_kind (length c.args.out.now))
                (sym c.into_parts.ensures.now.2)
                (subst (λ d. GivesSound new.event.now d (length c.args.out.now))
                (sym c.unload.ensures.due.0)
                (subst (λ p. GivesSound new.event.now new.queued_kind p) (sym place) k.3)),
          );
      failed = search rules;
    }
