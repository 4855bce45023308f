use Rattle.std.proofs.Common.{refl, ◌≡◌, ◌++◌, sym, ◌∙◌, subst, false, rules}
use Rattle.esc_frame.specs.Leads.{Holds}
use Rattle.esc_frame.specs.Leads.Unfinished.{Ground}
use Rattle.esc_frame.specs.Machine.Keeps.{KeepsText}
use Rattle.esc_frame.specs.Machine.Moves.{after_all}
use Rattle.esc_frame.specs.Stream.{HasConsumedWithin}
use Rattle.esc_frame.proofs.Cut.CutAtGround.{to_ground}
use Rattle.esc_frame.proofs.Emits.StepsAdd.{kept_all, given_all, refused_all, refused_borrowed, may_feed}
use Rattle.esc_frame.proofs.Borrow.CutsAreLent.{borrowed_borrows}
use Rattle.esc_frame.proofs.parser.VTParser.parse.Goals as goal

pub returns-in-Ok-clause-parsed : goal.returns-in-Ok-clause-parsed
unfolding HasConsumedWithin
returns-in-Ok-clause-parsed g c = λ limit s (f, i, h). record {
  given = let bs = c.args.bytes.now in
      let u = after_all Ground s in
      let kept = c.in-Ok.ensures.holds u h in (
        (
          f,
          kept.1 ∙ i,
          subst (λ l. Holds KeepsText l c.parse_all.new.self (after_all Ground (s ++ bs)))
              (sym kept.1)
              (kept_all KeepsText c.args.self.now.machine.limit c.parse_all.new.self s bs
              kept.0),
        ),
        given_all c.args.self.now.machine.limit limit i g.V.VTActor.takes s bs c.args.actor.now
            c.parse_all.new.actor
            (c.in-Ok.ensures.emitted u h),
      );
  refused = search rules;
}

pub returns-in-Err-clause-parsed : goal.returns-in-Err-clause-parsed
unfolding HasConsumedWithin
returns-in-Err-clause-parsed g c = λ limit s (f, i, h). record {
  refused = (
    refl,
    refused_all g.row.A.Denot c.args.self.now.machine.limit limit i g.V.VTActor.takes
        g.V.VTActor.refuses s
        c.args.bytes.now c.args.actor.now c.parse_all.new.actor
        (c.in-Err.ensures.emitted (after_all Ground s) h),
  );
  given = search rules;
}

pub returns-in-Err-clause-borrowed : goal.returns-in-Err-clause-borrowed
unfolding HasConsumedWithin
returns-in-Err-clause-borrowed g c = λ limit s (f, i, h) at borrowed. (
  refl,
  refused_borrowed c.args.self.now.machine.limit limit i g.V.VTActor.takes g.V.VTActor.refuses s
      c.args.bytes.now c.args.actor.now c.parse_all.new.actor (to_ground s at)
      (borrowed_borrows c.args.bytes.now borrowed)
      (c.in-Err.ensures.emitted (after_all Ground s) h),
)

pub parse_all-requires : goal.parse_all-requires
parse_all-requires g c =
    let fine : c.args.self.now.has_failed ≡ false = search rules in
    may_feed g.V.VTActor c.args.self.now c.args.actor.now c.args.bytes.now fine c.requires
