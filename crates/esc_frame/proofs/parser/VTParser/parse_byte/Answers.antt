use Rattle.std.proofs.Common.{◌≡◌, false, [], ◌∷◌, ◌++◌, refl, sym, ◌∙◌, subst, rules}
use Rattle.esc_frame.specs.Leads.{Holds}
use Rattle.esc_frame.specs.Leads.Unfinished.{Ground}
use Rattle.esc_frame.specs.Machine.Keeps.{KeepsText}
use Rattle.esc_frame.specs.Machine.Moves.{after_all, events_by}
use Rattle.esc_frame.specs.Classes.{class_of}
use Rattle.esc_frame.specs.Events.{Awaits}
use Rattle.esc_frame.specs.Stream.{HasConsumedWithin}
use Rattle.esc_frame.proofs.Emits.StepsAdd.{kept_one, given_one, refused_one, may_feed}
use Rattle.std.proofs.Math.Logic.{⊎_map}
use Rattle.esc_frame.proofs.Emits.MayAfterSome.{take_prefix}
use Rattle.esc_frame.proofs.parser.VTParser.parse_byte.Goals as goal

pub returns-in-Ok-clause-parsed : goal.returns-in-Ok-clause-parsed
unfolding HasConsumedWithin
returns-in-Ok-clause-parsed g c = λ limit s (f, i, h). record {
  given = let b = c.args.byte in
      let same = c.in-Ok.ensures.ready.0 in
      let u = after_all Ground s in
      let k = c.classify.ensures in (
        (
          f,
          same ∙ i,
          subst (λ l. Holds KeepsText l c.step.new.self (after_all Ground (s ++ b ∷ []))) (sym same)
              (kept_one KeepsText c.args.self.now.machine.limit c.step.new.self s b _ k
              (c.in-Ok.ensures.moved k u h).0),
        ),
        given_one c.args.self.now.machine.limit limit i g.V.VTActor.takes s b _ c.args.actor.now
            c.step.new.actor k
            (c.in-Ok.ensures.moved k u h).1,
      );
  refused = search rules;
}

pub returns-in-Err-clause-parsed : goal.returns-in-Err-clause-parsed
unfolding HasConsumedWithin
returns-in-Err-clause-parsed g c = λ limit s (f, i, h). record {
  refused = let k = c.classify.ensures in (
    refl,
    refused_one g.row.A.Denot c.args.self.now.machine.limit limit i g.V.VTActor.takes
        g.V.VTActor.refuses
        s c.args.byte _ c.args.actor.now c.step.new.actor k
        (c.in-Err.ensures.moved k (after_all Ground s) h),
  );
  given = search rules;
}

pub step-requires : goal.step-requires
step-requires g c =
    let fine : c.args.self.now.has_failed ≡ false = search rules in
    let may = g.V.VTActor.may in
    let takes = g.V.VTActor.takes in
    let limit = c.args.self.now.machine.limit in
    let b = c.args.byte in
    let a = c.args.actor.now in
    ⊎_map (λ r. r) (λ w. (
      w.0,
      w.1,
      subst (λ k. Awaits may takes a (events_by limit w.0 b k)) (sym c.classify.ensures)
          (take_prefix may takes a (events_by limit w.0 b (class_of b)) [] w.2),
    )) (may_feed g.V.VTActor c.args.self.now a (b ∷ []) fine c.requires)
