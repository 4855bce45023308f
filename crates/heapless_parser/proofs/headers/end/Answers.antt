use Rattle.std.proofs.Common.{rules, ◌≡◌, ◌≤◌, ◌∙◌, refl, ap, take, arith}
use Rattle.std.proofs.lemmas.Bool.Decides.{nat_tests}
use Rattle.heapless_parser.specs.Emitted.{text_of}
use Rattle.heapless_parser.proofs.InChunks.HeaderBytes.{malformed_steps, hook_steps}
use Rattle.heapless_parser.proofs.headers.end.Goals as goal

pub returns-then-parser-eq-MALFORMED-clause-takes :
    goal.returns-then-parser-eq-MALFORMED-clause-takes
returns-then-parser-eq-MALFORMED-clause-takes c = record {
  other = search rules;
  queued = search rules;
  steps = λ yes.
      let b = c.args.byte in
      let low : 0x40 ≤ b = grind (arith, nat_tests, c.requires.ends) in
      let high : b ≤ 0x7e = grind (arith, nat_tests, c.requires.ends) in
      let p = c.args.parser.now in
      malformed_steps p (record p { state = 6 }) c.args.event.now c.args.memory.now c.args.out.now b
      c.requires.asked.state low high c.if-parser-eq-MALFORMED.true refl
      c.requires.asked.fresh.none;
}

pub returns-clause-takes : goal.returns-clause-takes
returns-clause-takes c = record {
  other = search rules;
  queued = search rules;
  steps = λ yes.
      let b = c.args.byte in
      let low : 0x40 ≤ b = grind (arith, nat_tests, c.requires.ends) in
      let high : b ≤ 0x7e = grind (arith, nat_tests, c.requires.ends) in
      let p = c.args.parser.now in
      let e = c.put_header.new.event in
      let out = c.put_text.new.out in
      let put = c.put_header.ensures.event in
      let text : text_of e out ≡ take p.text c.args.memory.now =
      ap (λ f. text_of f out) put ∙ c.put_text.ensures.text in
      hook_steps p (record p { state = 5 }) e c.args.memory.now out b c.requires.asked.state low
      high c.if-parser.false c.if-parser-eq-MALFORMED.false refl
      (ap (λ f. f.kind) put ∙ c.put_text.ensures.kind) (ap (λ f. f.byte) put) text
      (ap (λ f. f.intermediates) put) c.put_header.ensures.kept (ap (λ f. f.has_more) put);
}
