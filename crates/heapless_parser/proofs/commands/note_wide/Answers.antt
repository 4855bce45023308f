use Rattle.std.proofs.Common.{rules, ◌++◌, ◌∷◌, [], ◌∙◌, sym, ap, refl, subst}
use Rattle.esc_frame.specs.Sequences.{outcome, is_pair}
use Rattle.heapless_parser.specs.States.{TextIn}
use Rattle.heapless_parser.proofs.InChunks.OneByteLater.{is_more}
use Rattle.heapless_parser.proofs.InChunks.OscBytes.{more_in_osc, whole_in_osc}
use Rattle.heapless_parser.proofs.commands.note_wide.Goals as goal

pub returns-else-not-append_character : goal.returns-else-not-append_character
returns-else-not-append_character c = record {
  other = search rules;
  queued = search rules;
  passes = λ yes.
      let b = c.args.byte in
      let p = c.args.parser.now in
      let q = record c.append_character.new.parser { pending = 0 } in
      let begun = c.pending_in-pending.ensures in
      let ends = sym c.outcome.ensures ∙ c.in-Whole.is in
      whole_in_osc p q c.args.memory.now c.append_character.new.memory b c.requires
      (ap (λ q. q.state) c.append_character.ensures.same)
      (sym (ap (λ f. outcome f b) begun) ∙ ends)
      (sym (ap (λ f. is_pair (f ++ b ∷ [])) begun) ∙ sym c.pairs_with.ensures
      ∙ c.if-pairs_with.false) refl
      (λ t h. subst (λ f. TextIn q c.append_character.new.memory (t ++ (f ++ b ∷ []))) begun
      (c.append_character.ensures.kept c.if-not-append_character.false t h));
}

pub returns-in-More : goal.returns-in-More
returns-in-More c = record {
  other = search rules;
  queued = search rules;
  passes = λ yes.
      let b = c.args.byte in
      let p = c.args.parser.now in
      let q = c.put_pending.new.parser in
      let begun = c.pending_in-pending.ensures in
      let goes = sym c.outcome.ensures ∙ c.in-More.is in
      more_in_osc p q c.args.memory.now c.args.memory.now b c.requires
      (ap (λ q. q.state) c.put_pending.ensures.same) (sym (ap (λ f. outcome f b) begun) ∙ goes)
      (c.put_pending.ensures.begun ∙ c.with.ensures (is_more _ b goes) ∙ ap (λ f. f ++ b ∷ [])
      begun)
      (λ t h. subst (λ r. TextIn r c.args.memory.now t) (sym c.put_pending.ensures.same) h);
}
