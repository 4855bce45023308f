use Rattle.std.proofs.Common.{[], ◌++◌, take, refl, sym, ◌∙◌, subst, arith, ◌≡◌, false, rules}
use Rattle.esc_frame.specs.Leads.{Holds}
use Rattle.esc_frame.specs.Leads.Unfinished.{Ground}
use Rattle.esc_frame.specs.Machine.Keeps.{KeepsText}
use Rattle.esc_frame.specs.Machine.Moves.{after_all}
use Rattle.esc_frame.specs.Stream.{HasConsumedWithin, IsQuietWithin}
use Rattle.esc_frame.proofs.Emits.StepsAdd.{kept_all, given_all, refused_all, may_feed}
use Rattle.esc_frame.proofs.Emits.StopsAtFirstEvent.{quiet_all}
use Rattle.esc_frame.proofs.parser.VTParser.parse_some.Goals as goal

pub returns-then-is_empty-clause-parsed : goal.returns-then-is_empty-clause-parsed
unfolding HasConsumedWithin
returns-then-is_empty-clause-parsed g c = λ limit s (f, i, h). record {
  given = (
    (
      (f, i, kept_all KeepsText c.args.self.now.machine.limit c.args.self.now.machine s [] h),
      given_all c.args.self.now.machine.limit limit i g.V.VTActor.takes s
          [] c.args.actor.now c.args.actor.now refl,
    ),
    λ k some few. absurd (omega (arith, some, few)),
  );
  refused = search rules;
}

pub returns-in-Ok-clause-parsed : goal.returns-in-Ok-clause-parsed
unfolding HasConsumedWithin
returns-in-Ok-clause-parsed g c = λ limit s (f, i, h). record {
  given = let bs = take c.in-Ok.n c.args.bytes.now in
      let same = c.in-Ok.ensures.count.3 in
      let u = after_all Ground s in (
        (
          (
            f,
            same ∙ i,
            subst (λ l. Holds KeepsText l c.parse_until_event.new.self (after_all Ground (s ++ bs)))
                (sym same)
                (kept_all KeepsText c.args.self.now.machine.limit c.parse_until_event.new.self s bs
                (c.in-Ok.ensures.took u h).0),
          ),
          given_all c.args.self.now.machine.limit limit i g.V.VTActor.takes s bs c.args.actor.now
              c.parse_until_event.new.actor (c.in-Ok.ensures.took u h).1,
        ),
        subst (λ l. IsQuietWithin l s c.args.bytes.now c.in-Ok.n) i
            (quiet_all c.args.self.now.machine.limit s c.args.bytes.now c.in-Ok.n
            (c.in-Ok.ensures.quiet u h)),
      );
  refused = search rules;
}

pub returns-in-Err-clause-parsed : goal.returns-in-Err-clause-parsed
unfolding HasConsumedWithin
returns-in-Err-clause-parsed g c = λ limit s (f, i, h). record {
  refused = (
    refl,
    refused_all g.row.A.Denot c.args.self.now.machine.limit limit i g.V.VTActor.takes
        g.V.VTActor.refuses s
        c.args.bytes.now c.args.actor.now c.parse_until_event.new.actor
        (c.in-Err.ensures.took (after_all Ground s) h),
  );
  given = search rules;
}

pub parse_until_event-requires-clause-ready : goal.parse_until_event-requires-clause-ready
parse_until_event-requires-clause-ready g c =
    let fine : c.args.self.now.has_failed ≡ false = search rules in
    may_feed g.V.VTActor c.args.self.now c.args.actor.now c.args.bytes.now fine c.requires
