use Rattle.std.proofs.Common.{rules, ◌≡◌, ◌∷◌, [], get_or, sym, subst, arith}
use Rattle.heapless_parser.specs.Runs.{Gives}
use Rattle.heapless_parser.proofs.KeptState.UnfinishedByState.{given_still}
use Rattle.heapless_parser.proofs.InChunks.OneByteLater.{first_taken}
use Rattle.heapless_parser.proofs.chunks.note_part.Goals as goal

pub returns-then-is_broken-clause-takes : goal.returns-then-is_broken-clause-takes
returns-then-is_broken-clause-takes c = record {
  few = search rules;
  none = search rules;
  queued = search rules;
  failed = search rules;
  gives = λ some.
      let step = c.note_step-step in
      let zero : step.result ≡ 0 = omega (arith, c.if-step-gt0.false) in
      let same = step.ensures.takes.none zero in
      let e = c.note_broken.new.event in
      let m = step.new.memory in
      subst (Gives c.args.parser.now c.note_broken.new.parser e step.new.out c.args.memory.now m)
      (sym (first_taken c.args.bytes.now c.requires.some))
      (given_still c.args.parser.now step.new.parser c.note_broken.new.parser e step.new.out
      c.args.memory.now m m (get_or c.args.bytes.now 0 0 ∷ []) same.0 same.2
      (c.note_broken.ensures.takes.gives step.new.out m));
}

pub returns-then-end_string-clause-takes : goal.returns-then-end_string-clause-takes
returns-then-end_string-clause-takes c = record {
  few = search rules;
  none = search rules;
  queued = search rules;
  failed = search rules;
  gives = λ some.
      let step = c.note_step-step in
      let zero : step.result ≡ 0 = omega (arith, c.if-step-gt0.false) in
      let same = step.ensures.takes.none zero in
      let left = c.end_string in
      let m = step.new.memory in
      subst (Gives c.args.parser.now left.new.parser left.new.event left.new.out c.args.memory.now
      m)
      (sym (first_taken c.args.bytes.now c.requires.some))
      (given_still c.args.parser.now step.new.parser left.new.parser left.new.event left.new.out
      c.args.memory.now m m (get_or c.args.bytes.now 0 0 ∷ []) same.0 same.2
      (left.ensures.takes.gives c.if-end_string.true));
}
