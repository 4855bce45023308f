use Rattle.std.proofs.Common.{rules, refl}
use Rattle.heapless_parser.proofs.InChunks.EscapeBytes.{final_notes}
use Rattle.heapless_parser.proofs.escapes.dispatch.Goals as goal

pub returns-clause-takes : goal.returns-clause-takes
returns-clause-takes c = record {
  other = search rules;
  queued = search rules;
  notes = λ yes.
      let p = c.args.parser.now in
      final_notes p (record p { state = 0; pending = 0 })
      (record c.args.event.now {
        kind = 4;
        byte = c.args.byte;
        intermediates = p.intermediates;
        kept = c.min-event.result;
        has_more = p.has_more;
      }) c.args.byte c.requires.state c.requires.class c.requires.letter refl refl refl refl refl
      c.min-event.ensures refl;
}
