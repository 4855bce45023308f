use Rattle.std.proofs.Common.{rules, ◌≡◌, true, sym, ap, ◌∙◌}
use Rattle.esc_frame.specs.Classes.{is_noise, is_breaker}
use Rattle.heapless_parser.proofs.InChunks.HeaderBytes.{header_noise, header_breaks}
use Rattle.heapless_parser.proofs.headers.note_in_header.Goals as goal

pub returns-in-C0-clause-takes : goal.returns-in-C0-clause-takes
returns-in-C0-clause-takes c = record {
  other = search rules;
  queued = search rules;
  steps = λ yes u h.
      let k = c.classify.result in
      let noise : is_noise k ≡ true = search (rules, c.in-C0.is) in
      let r = header_noise c.args.parser.now c.args.memory.now c.args.byte k c.requires.state
      c.classify.ensures noise u h in
      (r.0, rw c.requires.fresh.none (sym r.1));
}

pub returns-in-Breaks-clause-takes : goal.returns-in-Breaks-clause-takes
returns-in-Breaks-clause-takes c = record {
  other = search rules;
  queued = search rules;
  steps = λ yes.
      let is : is_breaker c.classify.result ≡ true = search (rules, c.in-Breaks.is) in
      header_breaks c.args.parser.now c.cancel.new.parser c.cancel.new.event
      c.args.memory.now
      c.args.out.now c.args.byte c.requires.state (sym (ap is_breaker c.classify.ensures) ∙ is)
      (c.cancel.ensures.moves.kept c.args.memory.now)
      (c.cancel.ensures.moves.says c.args.out.now);
}
