use Rattle.std.proofs.Common.{◌≡◌, Ok, false, rules, subst, sym}
use Rattle.std.specs.List.{FoldsTo}
use Rattle.std.specs.declared.alloc.AllocError.{AllocError}
use Rattle.esc_sequences.specs.Csis.{csi_of}
use Rattle.esc_actions.specs.Values.{csi, value_of}
use Rattle.esc_parse.specs.Given.{By}
use Rattle.esc_parse.proofs.Lists.StepsOverLists.{folds_seen}
use Rattle.esc_parse.proofs.Values.CommandsAreGiven.{sequence_heard}
use Rattle.esc_parse.proofs.performer.PerformerVTActor.csi_dispatch.Goals as goal

pub returns-then-drops_sequences-clause-receives : goal.returns-then-drops_sequences-clause-receives
returns-then-drops_sequences-clause-receives g c =
    let sink = c.args.self.now.sink in
    let whole : c.args.parameters_truncated ≡ false = search rules in
    sequence_heard {E = AllocError} g.S.Sink.takes g.S.Sink.refuses (Ok tt) c.args.self.now sink
    c.args.params.now c.args.parameters_truncated c.args.byte
    (folds_seen value_of csi g.S.Sink.takes g.S.Sink.refuses sink _ _
    (subst (λ more. FoldsTo (By (λ a v. value_of a ≡ csi v) g.S.Sink.takes) sink
    (csi_of c.args.params.now more c.args.byte) sink) (sym whole)
    (c.drops_sequences.ensures (search rules) c.args.params.now)))

pub returns-clause-receives : goal.returns-clause-receives
returns-clause-receives g c =
    sequence_heard g.S.Sink.takes g.S.Sink.refuses c.give_csi.result c.args.self.now
    c.give_csi.new.sink
    c.args.params.now c.args.parameters_truncated c.args.byte c.give_csi.ensures.given
