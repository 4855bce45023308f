use Rattle.std.proofs.Common.{false}
use Rattle.esc_sequences.specs.Csis.{csi_of}
use Rattle.esc_filter.proofs.Renditions.SequencesFromParameters.{all_sequences, text_sequences}
use Rattle.esc_filter.proofs.policy.PolicyAdmit.admits_sequence.Goals as goal

pub returns-in-Text-clause-stays : goal.returns-in-Text-clause-stays
returns-in-Text-clause-stays g c = λ _. text_sequences _ c.args.self.now
    (csi_of c.args.params.now false c.args.control) c.in-Text.is

pub returns-in-All-clause-passes : goal.returns-in-All-clause-passes
returns-in-All-clause-passes g c = λ _. all_sequences _ c.args.self.now
    (csi_of c.args.params.now false c.args.control) c.in-All.is
