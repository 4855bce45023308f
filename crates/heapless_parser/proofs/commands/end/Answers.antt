use Rattle.std.proofs.Common.{rules, ◌∙◌, ap}
use Rattle.heapless_parser.proofs.InChunks.OscBytes.{bell_steps, escape_steps}
use Rattle.heapless_parser.proofs.InChunks.CommandsLieWhole.{in_ground, in_escape}
use Rattle.heapless_parser.proofs.commands.end.Goals.{then-byte-eq7, else-byte-eq7+then-byte-eq27}
use Rattle.heapless_parser.proofs.commands.end.Goals as goal

pub returns-clause-takes : goal.returns-clause-takes
returns-clause-takes c = record {
  other = search rules;
  queued = search rules;
  steps = λ yes.
      let p = c.args.parser.now in
      let q = c.if-byte-eq7.parser in
      let three = c.requires.state.0 in
      let none = c.requires.state.1 in
      let off = c.if-parser.false in
      let kind = c.put_text.ensures.kind in
      let text = c.put_text.ensures.text in
      let m = c.args.memory.now in
      let b = c.args.byte in
      let e = c.put_text.new.event in
      let out = c.put_text.new.out in
      elim c.if-byte-eq7.branch [
        | then-byte-eq7 w ↦ bell_steps p q e m out b three none off kind text w.if-byte-eq7.true
            (in_ground q m (ap (λ r. r.state) w.parser-is)
            (ap (λ r. r.pending) w.parser-is ∙ none))
        | else-byte-eq7+then-byte-eq27 w ↦
            let s = w.escape.ensures.state in
            escape_steps p q e m out b three none off kind text w.if-byte-eq27.true
            (in_escape q m (ap (λ r. r.state) w.parser-is ∙ s.0)
            (ap (λ r. r.kept) w.parser-is ∙ s.1) (ap (λ r. r.has_more) w.parser-is ∙ s.2))
      ];
}
