use Rattle.std.proofs.Common.{rules, sym, ap, subst, ◌∙◌}
use Rattle.esc_frame.specs.declared.classes.Class.TheVariants.{Breaks}
use Rattle.esc_frame.specs.Machine.Moves.{pair_move}
use Rattle.esc_frame.specs.Segments.Opener.{Pair}
use Rattle.heapless_parser.specs.States.{KeptIn}
use Rattle.heapless_parser.proofs.breaks.note_pair.Goals as goal

pub returns-in-Breaks-C1Introducer-clause-moves : goal.returns-in-Breaks-C1Introducer-clause-moves
returns-in-Breaks-C1Introducer-clause-moves c = record {
  kept = λ memory.
      let i = c.in-Breaks-C1Introducer in
      let is = sym c.classify.ensures ∙ i.is ∙ ap Breaks i.field-0-is in
      subst (λ m. KeptIn c.open_kind.new.parser memory m.0) (sym (ap (pair_move c.args.byte) is))
      (c.open_kind.ensures.opened Pair memory);
  says = search rules;
  queued = search rules;
}
