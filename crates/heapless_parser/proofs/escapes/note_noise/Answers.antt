use Rattle.std.proofs.Common.{rules, ◌≡◌, true, false, refl, sym, ap, ◌∙◌}
use Rattle.esc_frame.specs.Classes.{is_noise, is_c0, is_breaker}
use Rattle.heapless_parser.proofs.InChunks.EscapeBytes.{noise_notes, control_said, nothing_said, break_notes}
use Rattle.heapless_parser.proofs.escapes.note_noise.Goals as goal

pub returns-in-C0-clause-takes : goal.returns-in-C0-clause-takes
returns-in-C0-clause-takes c = record {
  other = search rules;
  queued = search rules;
  notes = λ yes.
      let k = c.classify.result in
      let e = record c.args.event.now { kind = 3; byte = c.args.byte } in
      let noise : is_noise k ≡ true = search (rules, c.in-C0.is) in
      let is : is_c0 k ≡ true = search (rules, c.in-C0.is) in
      λ out limit. noise_notes c.args.parser.now e c.args.byte k c.classify.ensures noise
      (control_said e c.args.byte k refl refl is) out limit c.requires.state;
}

pub returns-in-Delete-clause-takes : goal.returns-in-Delete-clause-takes
returns-in-Delete-clause-takes c = record {
  other = search rules;
  queued = search rules;
  notes = λ yes.
      let k = c.classify.result in
      let e = c.args.event.now in
      let noise : is_noise k ≡ true = search (rules, c.in-Delete.is) in
      let is : is_c0 k ≡ false = search (rules, c.in-Delete.is) in
      λ out limit. noise_notes c.args.parser.now e c.args.byte k c.classify.ensures noise
      (nothing_said e c.args.byte k c.requires.none is) out limit c.requires.state;
}

pub returns-in-Breaks-clause-takes : goal.returns-in-Breaks-clause-takes
returns-in-Breaks-clause-takes c = record {
  other = search rules;
  queued = search rules;
  notes = λ yes out limit.
      let is : is_breaker c.classify.result ≡ true = search (rules, c.in-Breaks.is) in
      break_notes c.args.parser.now c.cancel.new.parser c.cancel.new.event c.args.byte
      c.cancel.ensures.moves.kept c.cancel.ensures.moves.says out limit c.requires.state
      (sym (ap is_breaker c.classify.ensures) ∙ is);
}
