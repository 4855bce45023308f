use Rattle.std.proofs.Common.{◌≡◌, false, rules, subst, sym}
use Rattle.esc_sequences.specs.Csis.{csi_of}
use Rattle.esc_normal.proofs.Spelling.{IsSequence}
use Rattle.esc_parse.specs.Given.{TakesAtOnce}
use Rattle.esc_filter.specs.Fed.{Refuses, TakesBy}
use Rattle.esc_filter.proofs.passing.PassingSinkAction.receive_sequence.Goals as goal

pub returns-then-known-clause-given : goal.returns-then-known-clause-given
returns-then-known-clause-given g c =
    let m : 0x6d ≡ c.args.control = search rules in
    subst (λ more. TakesAtOnce IsSequence (TakesBy g.P.Admit.admits) Refuses
    c.take_rendition.result c.args.self.now (csi_of c.args.params.now more c.args.control)
    c.take_rendition.new.self) (sym c.if-parameters_truncated.false)
    (subst (λ f. TakesAtOnce IsSequence (TakesBy g.P.Admit.admits) Refuses
    c.take_rendition.result c.args.self.now (csi_of c.args.params.now false f)
    c.take_rendition.new.self) m c.take_rendition.ensures)

pub returns-clause-given : goal.returns-clause-given
returns-clause-given g c =
    subst (λ more. TakesAtOnce IsSequence (TakesBy g.P.Admit.admits) Refuses
    c.ask_sequence.result c.args.self.now (csi_of c.args.params.now more c.args.control)
    c.ask_sequence.new.self) (sym c.if-parameters_truncated.false) c.ask_sequence.ensures
