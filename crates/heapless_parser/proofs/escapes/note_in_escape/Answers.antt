use Rattle.std.proofs.Common.{rules, ◌∷◌, [], ap, sym, ◌∙◌}
use Rattle.heapless_parser.proofs.InChunks.OneByteLater.{nothing_noted}
use Rattle.heapless_parser.proofs.InChunks.EscapeBytes.{intermediate_passes}
use Rattle.heapless_parser.proofs.escapes.note_in_escape.Goals as goal

pub returns-in-Intermediate-clause-takes : goal.returns-in-Intermediate-clause-takes
returns-in-Intermediate-clause-takes c = record {
  other = search rules;
  queued = search rules;
  notes = λ yes.
      let p = c.args.parser.now in
      let q = c.push_intermediate.new.parser in
      let b = c.args.byte in
      nothing_noted p q c.args.event.now (b ∷ []) c.requires.fresh.none
      (intermediate_passes p q b c.requires.state
      (ap (λ q. q.state) c.push_intermediate.ensures.same)
      (sym c.classify.ensures ∙ c.in-Intermediate.is) c.push_intermediate.ensures.first);
}
