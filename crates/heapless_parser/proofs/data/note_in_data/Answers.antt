use Rattle.std.proofs.Common.{rules, ◌≡◌, true, false, refl, sym, ap, ◌∙◌}
use Rattle.esc_frame.specs.declared.classes.Class.TheVariants.{Breaks}
use Rattle.esc_frame.specs.Classes.{is_breaker, is_put}
use Rattle.heapless_parser.proofs.InChunks.DataBytes.{put_notes, end_notes}
use Rattle.heapless_parser.proofs.data.note_in_data.Goals as goal

pub returns-in-Breaks-Escape-clause-takes : goal.returns-in-Breaks-Escape-clause-takes
returns-in-Breaks-Escape-clause-takes c = record {
  other = search rules;
  queued = search rules;
  notes = λ yes.
      let s = c.escape.ensures.state in
      end_notes c.args.parser.now c.escape.new.parser (record c.args.event.now { kind = 10 })
      c.args.byte c.requires.state s.0 s.1 s.2
      (sym c.classify.ensures ∙ c.in-Breaks-Escape.is ∙ ap Breaks c.in-Breaks-Escape.field-0-is)
      refl;
}

pub returns-in-Delete-clause-takes : goal.returns-in-Delete-clause-takes
returns-in-Delete-clause-takes c = record {
  other = search rules;
  queued = search rules;
  notes = λ yes.
      let k = c.classify.result in
      let off : is_breaker k ≡ false = search (rules, c.in-Delete.is) in
      let put : is_put k ≡ false = search (rules, c.in-Delete.is) in
      put_notes c.args.parser.now c.args.event.now c.args.byte k false c.requires.state
      c.classify.ensures off put (λ out. rw c.requires.none refl);
}

pub returns-in-C0-clause-takes : goal.returns-in-C0-clause-takes
returns-in-C0-clause-takes c = record {
  other = search rules;
  queued = search rules;
  notes = λ yes.
      let k = c.classify.result in
      let off : is_breaker k ≡ false = search (rules, c.in-C0.is) in
      let put : is_put k ≡ true = search (rules, c.in-C0.is) in
      put_notes c.args.parser.now (record c.args.event.now { kind = 9; byte = c.args.byte })
      c.args.byte k true c.requires.state c.classify.ensures off put (λ out. refl);
}
