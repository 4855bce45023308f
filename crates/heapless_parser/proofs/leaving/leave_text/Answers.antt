use Rattle.std.proofs.Common.{rules, ◌∙◌, inl, inr}
use Rattle.heapless_parser.proofs.InChunks.StringsEndInChunks.{osc_left, apc_left}
use Rattle.heapless_parser.proofs.leaving.leave_text.Goals as goal

pub returns-clause-takes : goal.returns-clause-takes
returns-clause-takes c = record {
  other = search rules;
  failed = search rules;
  gives = λ yes.
      let p = c.args.parser.now in
      let q = c.queue_in_ground.new.parser in
      let e = c.put_text.new.event in
      let m = c.args.memory.now in
      let out = c.put_text.new.out in
      let b = c.args.byte in
      let keeps = c.queue_in_ground.ensures.kept m in
      let queued = c.queue_in_ground.ensures.queued in
      let off = c.if-parser.false in
      let text = c.put_text.ensures.text in
      let kind = c.put_text.ensures.kind in
      let breaks = c.requires.asked.breaks in
      elim c.requires.state [
        | inl s ↦ osc_left p q e m out b breaks keeps queued off text s.0 s.1
            (kind ∙ c.text_kind.ensures.osc s.0)
        | inr s ↦ apc_left p q e m out b breaks keeps queued off text s
            (kind ∙ c.text_kind.ensures.apc s)
      ];
}
