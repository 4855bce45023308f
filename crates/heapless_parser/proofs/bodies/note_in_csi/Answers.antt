use Rattle.std.proofs.Common.{rules, ◌∷◌, [], ◌∙◌, sym, ap}
use Rattle.heapless_parser.proofs.InChunks.OneByteLater.{body_passes, nothing_noted}
use Rattle.heapless_parser.proofs.bodies.note_in_csi.Goals as goal

pub returns-then-lies_from-clause-takes : goal.returns-then-lies_from-clause-takes
returns-then-lies_from-clause-takes c = record {
  other = search rules;
  queued = search rules;
  notes = λ yes.
      nothing_noted c.args.parser.now c.push.new.parser c.args.event.now (c.args.byte ∷ [])
      c.requires.fresh.none
      (body_passes c.args.parser.now c.push.new.parser c.args.byte c.requires.state
      (ap (λ q. q.state) c.push.ensures.same) (sym c.lies_from.ensures ∙ c.if-lies_from.true)
      c.push.ensures.body);
}
