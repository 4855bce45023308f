use Rattle.std.proofs.Common.{sym, ap, subst, ◌∙◌}
use Rattle.esc_frame.specs.declared.classes.Class.TheVariants.{Breaks}
use Rattle.esc_frame.specs.Machine.Moves.{ground_move}
use Rattle.esc_frame.specs.Segments.Opener.{Raw}
use Rattle.heapless_parser.specs.States.{KeptIn}
use Rattle.heapless_parser.proofs.breaks.in_ground.Goals as goal

pub returns-in-Breaks-C1Introducer-clause-kept : goal.returns-in-Breaks-C1Introducer-clause-kept
returns-in-Breaks-C1Introducer-clause-kept c = λ memory.
    let i = c.in-Breaks-C1Introducer in
    let is = sym c.classify.ensures ∙ i.is ∙ ap Breaks i.field-0-is in
    subst (λ m. KeptIn c.open_kind.new.parser memory m.0) (sym (ap (ground_move c.args.byte) is))
    (c.open_kind.ensures.opened Raw memory)
