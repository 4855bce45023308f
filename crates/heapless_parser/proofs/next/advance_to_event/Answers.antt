use Rattle.std.proofs.Common.{rules, ◌≡◌, ◌++◌, length, take, drop, ◌-◌, ap, sym, ◌∙◌, subst, Some, arith}
use Rattle.esc_frame.specs.Leads.{Unfinished}
use Rattle.esc_frame.specs.Machine.Moves.{after_all, events_all}
use Rattle.heapless_parser.specs.Limited.{IsLimited}
use Rattle.heapless_parser.specs.States.{KeptIn}
use Rattle.heapless_parser.specs.Emitted.{queued_of, is_run}
use Rattle.heapless_parser.proofs.InChunks.SeveralStepsAreOne.{utf8_placed, after_both, events_both, emitted_placed, says_nothing, limited_both}
use Rattle.heapless_parser.proofs.next.advance_to_event.Goals.{then-bytes-ge-MANY+else-first-gt0, else-bytes-ge-MANY}
use Rattle.heapless_parser.proofs.next.advance_to_event.Goals as goal

pub returns-then-event-ne-NONE : goal.returns-then-event-ne-NONE
returns-then-event-ne-NONE c =
    let same : c.if-bytes-ge-MANY.parser ≡ c.args.parser.now = elim c.if-bytes-ge-MANY.branch [
      | then-bytes-ge-MANY+else-first-gt0 w ↦ w.parser-is
          ∙ w.ahead-first.ensures.parser.0 (omega (arith, w.if-first-gt0.false))
      | else-bytes-ge-MANY w ↦ w.parser-is
    ] in
    let memory = c.args.memory.now in
    let begun = λ (u : Unfinished) (h : KeptIn c.args.parser.now memory u).
    c.loop-at.invariant.kept u (subst (λ r. KeptIn r memory u) (sym same) h) in record {
      few = search rules;
      within = search rules;
      utf8 = λ k. utf8_placed c.args.bytes.now c.loop-at.at 0 c.advance-taken.new.event
          (c.advance-taken.ensures.fits.utf8 k);
      some = search rules;
      all = search rules;
      kept = λ u h ne.
          subst (KeptIn c.advance-taken.new.parser c.advance-taken.new.memory)
          (sym (after_both c.args.bytes.now c.loop-at.at c.advance-taken.result u))
          (c.advance-taken.ensures.kept _ (begun u h).0 ne);
      says = λ u h ne.
          let bs = c.args.bytes.now in
          let at = c.loop-at.at in
          let i = begun u h in
          let e = c.advance-taken.new.event in
          ap (λ y. y ++ queued_of c.advance-taken.new.parser.queued_kind
          c.advance-taken.new.parser.queued_value) (emitted_placed bs at 0 e
          c.advance-taken.new.out)
          ∙ c.advance-taken.ensures.says _ i.0 ne
          ∙ ap (λ k. events_all (Some k) (after_all u (take at bs))
          (take c.advance-taken.result (take (length bs - at) (drop at bs)))) c.loop-at.auto.memory
          ∙ sym (events_both bs at c.advance-taken.result (Some (length memory)) u i.1);
      limited = λ u h k.
          let bs = c.args.bytes.now in
          let at = c.loop-at.at in
          limited_both bs at c.advance-taken.result (length memory) u
          (subst (λ m. IsLimited m (after_all u (take at bs))
          (take c.advance-taken.result (take (length bs - at) (drop at bs)))) c.loop-at.auto.memory
          (c.advance-taken.ensures.limited _ (begun u h).0 k));
      failed = search rules;
      goes_on = λ ne.
          c.advance-taken.ensures.goes_on ne ∙ c.loop-at.invariant.failed
          ∙ ap (λ r. r.has_failed) same;
      sound = λ u h less.
          c.advance-taken.ensures.sound _ (begun u h).0
          (omega (arith, less, c.loop-at.auto.memory, c.loop-at.auto.out));
    }

pub loop-at-preserved : goal.loop-at-preserved
loop-at-preserved c =
    let bs = c.args.bytes.now in
    let at = c.loop-at.at in
    let tail = take c.advance-taken.result (take (length bs - at) (drop at bs)) in
    let none : c.advance-taken.new.event.kind ≡ 0 = c.if-event-ne-NONE.false in
    let ne : c.advance-taken.new.event.kind ≡ 12 → ⊥ = λ e. omega arith in
    let queued = c.advance-taken.ensures.queued none in record {
      within = omega (arith, c.advance-taken.ensures.few);
      none = none;
      within_event = (
        c.advance-taken.ensures.fits.within.0,
        c.advance-taken.ensures.fits.within.1,
        omega (arith, c.advance-taken.ensures.fits.text (ap is_run none), c.loop-at.auto.out),
      );
      queued = queued;
      kept = λ u h.
          let i = c.loop-at.invariant.kept u h in (
            subst (KeptIn c.advance-taken.new.parser c.advance-taken.new.memory)
                (sym (after_both bs at c.advance-taken.result u))
                (c.advance-taken.ensures.kept _ i.0 ne),
            events_both bs at c.advance-taken.result (Some (length c.args.memory.now)) u i.1
                ∙ ap (λ k. events_all (Some k) (after_all u (take at bs)) tail)
                (sym c.loop-at.auto.memory)
                ∙ sym (c.advance-taken.ensures.says _ i.0 ne)
                ∙ ap (λ y. y ++ queued_of c.advance-taken.new.parser.queued_kind
                c.advance-taken.new.parser.queued_value)
                (says_nothing c.advance-taken.new.event c.advance-taken.new.out _ none) ∙ queued,
          );
      failed = c.advance-taken.ensures.goes_on ne ∙ c.loop-at.invariant.failed;
    }
