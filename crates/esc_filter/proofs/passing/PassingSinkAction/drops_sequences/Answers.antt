use Rattle.std.proofs.Common.{false, refl}
use Rattle.std.proofs.lemmas.Bool.{ne_eqb}
use Rattle.esc_filter.proofs.Admission.PolicyIsKnown.{functions_stay}
use Rattle.esc_filter.proofs.Renditions.SequencesFromParameters.{stays_taken}
use Rattle.esc_filter.proofs.passing.PassingSinkAction.drops_sequences.Goals as goal

pub returns-then-control-ne109 : goal.returns-then-control-ne109
returns-then-control-ne109 g c =
    λ none es. stays_taken g.P.Admit.admits es false c.args.control c.args.self.now refl
    (functions_stay (g.P.Admit.admits c.args.self.now.policy.now) c.known.result
    c.known.ensures none es c.args.control (ne_eqb c.args.control 0x6d
    c.if-control-ne109.true))
