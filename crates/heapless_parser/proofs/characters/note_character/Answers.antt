use Rattle.std.proofs.Common.{rules, ◌++◌, ◌∷◌, [], ◌∙◌, sym, ap, refl}
use Rattle.esc_frame.specs.Sequences.{outcome, is_pair, number_of}
use Rattle.heapless_parser.proofs.InChunks.OneByteLater.{whole_notes, more_passes, nothing_noted, is_more}
use Rattle.heapless_parser.proofs.InChunks.EscapeBytes.{pair_notes}
use Rattle.heapless_parser.proofs.characters.note_character.Goals as goal

pub returns-else-pairs_with-clause-takes : goal.returns-else-pairs_with-clause-takes
returns-else-pairs_with-clause-takes c = record {
  other = search rules;
  queued = search rules;
  notes = λ yes.
      let b = c.args.byte in
      let begun = c.pending_in-pending.ensures in
      let ends = sym c.outcome.ensures ∙ c.in-Whole.is in
      whole_notes c.args.parser.now (record c.args.parser.now { pending = 0 })
      (record c.args.event.now { kind = 2; byte = c.character.result }) b c.requires.ground
      c.requires.ground refl (sym (ap (λ f. outcome f b) begun) ∙ ends)
      (sym (ap (λ f. is_pair (f ++ b ∷ [])) begun) ∙ sym c.pairs_with.ensures
      ∙ c.if-pairs_with.false) refl
      (c.character.ensures ∙ ap (λ f. number_of (f ++ b ∷ [])) begun);
}

pub returns-in-More-clause-takes : goal.returns-in-More-clause-takes
returns-in-More-clause-takes c = record {
  other = search rules;
  queued = search rules;
  notes = λ yes.
      let b = c.args.byte in
      let begun = c.pending_in-pending.ensures in
      let goes = sym c.outcome.ensures ∙ c.in-More.is in
      nothing_noted c.args.parser.now c.put_pending.new.parser c.args.event.now (b ∷ [])
      c.requires.none
      (more_passes c.args.parser.now c.put_pending.new.parser b c.requires.ground
      (ap (λ q. q.state) c.put_pending.ensures.same) (sym (ap (λ f. outcome f b) begun) ∙ goes)
      (c.put_pending.ensures.begun ∙ c.with.ensures (is_more _ b goes)
      ∙ ap (λ f. f ++ b ∷ []) begun));
}

pub returns-then-pairs_with-clause-takes : goal.returns-then-pairs_with-clause-takes
returns-then-pairs_with-clause-takes c = record {
  other = search rules;
  queued = search rules;
  notes = λ yes.
      let b = c.args.byte in
      let begun = c.pending_in-pending.ensures in
      let ends = sym c.outcome.ensures ∙ c.in-Whole.is in
      let pair = c.note_pair in
      pair_notes c.args.parser.now pair.new.parser pair.new.event b c.requires.ground
      (sym (ap (λ f. outcome f b) begun) ∙ ends)
      (sym (ap (λ f. is_pair (f ++ b ∷ [])) begun) ∙ sym c.pairs_with.ensures ∙
      c.if-pairs_with.true)
      pair.ensures.moves.kept pair.ensures.moves.says;
}
