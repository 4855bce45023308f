use Rattle.std.proofs.Common.{refl, sym, ◌∙◌}
use Rattle.heapless_parser.proofs.KeptState.GroundHasNothing.{at_ground, between_at, none_begun, unfailed}
use Rattle.heapless_parser.proofs.parser.EscParser.is_ground.Goals as goal

pub returns-then-self-clause-ground : goal.returns-then-self-clause-ground
returns-then-self-clause-ground c = λ s es memory at.
    let failed = c.if-self.true in
    let not = unfailed s es memory c.args.self.now at in (λ no. absurd cc, λ g. absurd cc)

pub returns-in-Ground-Nothing-clause-ground : goal.returns-in-Ground-Nothing-clause-ground
returns-in-Ground-Nothing-clause-ground c = λ s es memory at. (
  λ yes. at_ground s es memory c.args.self.now at
      (sym c.in-Ground-Nothing.ensures, sym c.in-Ground-Nothing.ensures'),
  λ g. refl,
)

pub returns-in_default : goal.returns-in_default
returns-in_default c = record {
  ground = λ s es memory at. (
    λ no. absurd cc,
    λ g. let between = between_at s es memory c.args.self.now at g in
        absurd (c.in_default.not-Nothing-1
        (none_begun c.pending_in.result (c.pending_in.ensures ∙ between.1))),
  );
  failed = λ f. refl;
}

pub returns-in_default-2 : goal.returns-in_default-2
returns-in_default-2 c = record {
  ground = λ s es memory at. (
    λ no. absurd cc,
    λ g. let between = between_at s es memory c.args.self.now at g in
        absurd (c.in_default.not-Ground-0 (c.state_of.ensures ∙ between.0)),
  );
  failed = λ f. refl;
}
