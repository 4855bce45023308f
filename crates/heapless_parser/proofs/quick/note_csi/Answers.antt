use Rattle.std.proofs.Common.{rules, ◌≡◌, true, false, [], ◌∷◌, take, map, ap, sym, ◌∙◌, arith}
use Rattle.esc_frame.specs.Events.Event.{CsiDispatch}
use Rattle.esc_frame.specs.Sequences.{is_from}
use Rattle.esc_frame.proofs.ByteRuns.ShortRuns.{short_read}
use Rattle.heapless_parser.specs.Emitted.{param_of}
use Rattle.heapless_parser.proofs.InChunks.ControlsAhead.{csi_emits}
use Rattle.heapless_parser.proofs.quick.note_csi.Goals as goal

pub returns-then-lies_from-clause-notes : goal.returns-then-lies_from-clause-notes
returns-then-lies_from-clause-notes c = record {
  few = search rules;
  none = search rules;
  within = search rules;
  emits = λ some.
      let bs = c.args.bytes.now in
      let body = c.read_body-body.result in
      let items = map param_of (take body.count c.read_body-body.new.csi_params) in
      let final : is_from 0x40 0x7e body.after ≡ true =
      sym c.lies_from.ensures ∙ c.if-lies_from.true in
      let s = short_read param_of _ bs body (record {
        some = omega arith;
        escape = c.requires.escape;
        second = c.if-bytes-ne91.false;
      }) c.read_body-body.ensures final in
      csi_emits c.end_csi.new.event bs body.length items s.0
      (λ out. c.end_csi.ensures.said out ∙ ap (λ b. CsiDispatch items false b ∷ []) (sym s.1));
}
