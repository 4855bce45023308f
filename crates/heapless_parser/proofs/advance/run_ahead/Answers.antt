use Rattle.std.proofs.Common.{rules, ◌<◌, subst}
use Rattle.heapless_parser.proofs.InChunks.RunsOfCharacters.{text_utf8, data_utf8}
use Rattle.heapless_parser.proofs.KeptState.UnfinishedByState.{text_keeps, text_emits, data_keeps, data_emits}
use Rattle.heapless_parser.proofs.advance.run_ahead.Goals as goal

pub returns-then-parser-eq0 : goal.returns-then-parser-eq0
returns-then-parser-eq0 c = record {
  few = search rules;
  none = search rules;
  some = search rules;
  within = search rules;
  utf8 =
      text_utf8 c.note_run.new.event c.args.event.now c.args.bytes.now c.requires.none
      c.text_run.result c.note_run.ensures.some c.note_run.ensures.none
      c.text_run.ensures.run;
  kept = λ some u memory h.
      text_keeps c.args.parser.now memory c.if-parser-eq-GROUND.true c.if-parser-eq0.true
      c.args.bytes.now
      c.text_run.result c.note_run.result
      c.note_run.ensures.length c.text_run.ensures.run u h;
  emitted = λ some u memory out h.
      let k = c.note_run.ensures.some (subst (λ n. 0 < n) c.note_run.ensures.length some) in
      text_emits c.args.parser.now memory c.if-parser-eq-GROUND.true c.if-parser-eq0.true
      c.args.bytes.now
      c.text_run.result c.note_run.result
      c.note_run.ensures.length c.text_run.ensures.run u h c.note_run.new.event out k.0 k.1;
}

pub returns-then-parser-eq-DATA_STATE : goal.returns-then-parser-eq-DATA_STATE
returns-then-parser-eq-DATA_STATE c = record {
  few = search rules;
  none = search rules;
  some = search rules;
  within = search rules;
  utf8 =
      data_utf8 c.note_run-then-parser-eq-DATA_STATE.new.event c.args.event.now c.args.bytes.now
      c.requires.none
      c.data_run.result c.note_run-then-parser-eq-DATA_STATE.ensures.some
      c.note_run-then-parser-eq-DATA_STATE.ensures.none;
  kept = λ some u memory h.
      data_keeps c.args.parser.now memory c.if-parser-eq-DATA_STATE.true c.args.bytes.now
      c.data_run.result
      c.note_run-then-parser-eq-DATA_STATE.result
      c.note_run-then-parser-eq-DATA_STATE.ensures.length c.data_run.ensures.run u h;
  emitted = λ some u memory out h.
      let k = c.note_run-then-parser-eq-DATA_STATE.ensures.some
      (subst (λ n. 0 < n) c.note_run-then-parser-eq-DATA_STATE.ensures.length some) in
      data_emits c.args.parser.now memory c.if-parser-eq-DATA_STATE.true c.args.bytes.now
      c.data_run.result
      c.note_run-then-parser-eq-DATA_STATE.result
      c.note_run-then-parser-eq-DATA_STATE.ensures.length c.data_run.ensures.run u h
      c.note_run-then-parser-eq-DATA_STATE.new.event out k.0 k.1;
}
