use Rattle.std.proofs.Common.{ap, sym, subst}
use Rattle.esc_filter.specs.Closing.{IsAfter, turned_terminal}
use Rattle.esc_filter.proofs.GivingBack.RenditionsAfterSequence.{other_sequence, short_renditions}
use Rattle.esc_filter.proofs.terminal.Terminal.note_short.Goals as goal

pub returns-then-control-eq109 : goal.returns-then-control-eq109
returns-then-control-eq109 c =
    subst (λ p. IsAfter c.args.params.now c.args.control c.args.self.now p)
    (sym (ap (λ b. turned_terminal b c.args.self.now) c.lights-self.ensures))
    (short_renditions c.args.numbers c.args.params.now c.args.control c.args.self.now
    c.if-control-eq109.true c.requires)

pub returns-then-may_change : goal.returns-then-may_change
returns-then-may_change c =
    other_sequence c.args.params.now c.args.control c.args.self.now c.note_body.new.self
    c.if-control-eq109.false c.note_body.ensures

pub returns-else-may_change : goal.returns-else-may_change
returns-else-may_change c =
    other_sequence c.args.params.now c.args.control c.args.self.now c.args.self.now
    c.if-control-eq109.false
    (sym (c.may_change.ensures c.if-may_change.false c.args.params.now c.args.self.now))
