use Rattle.std.proofs.Common.{rules, ◌≡◌, ◌+◌, ◌-◌, ◌<◌, true, [], take, drop, length, ap, sym, ◌∙◌, subst, Some, arith, length-take}
use Rattle.std.proofs.lemmas.List.{take_rest}
use Rattle.esc_frame.specs.Leads.Unfinished.{Ground, InEscape}
use Rattle.esc_frame.specs.Limits.{is_within}
use Rattle.esc_frame.specs.Machine.TextRuns.{IsTextRun}
use Rattle.esc_frame.proofs.ByteRuns.ManyBytes.{tail_length}
use Rattle.heapless_parser.specs.Emitted.{text_of}
use Rattle.heapless_parser.proofs.InChunks.CommandsLieWhole.{from_ground, in_ground, in_escape, bell_ends, escape_ends, osc_said, within}
use Rattle.heapless_parser.proofs.strings.note_osc.Goals as goal

pub returns-then-bytes-run-eq27-clause-takes : goal.returns-then-bytes-run-eq27-clause-takes
returns-then-bytes-run-eq27-clause-takes c = record {
  few = search rules;
  none = search rules;
  queued = search rules;
  noted = λ some.
      let p = c.args.parser.now in
      let q = c.escape.new.parser in
      let bs = c.args.bytes.now in
      let run = c.units_run-run.result in
      let limit = c.args.limit in
      let room : run + 2 < length bs = omega (arith, tail_length bs 2, c.units_run-run.ensures.few)
      in
      let units : IsTextRun (take run (drop 2 bs)) =
      subst (λ y. IsTextRun (take run y)) (take_rest bs 2) c.units_run-run.ensures.run in
      let fits : is_within (Some limit) (length (take run (drop 2 bs))) ≡ true =
      within limit _ (omega (arith, length-take run (drop 2 bs))) in
      let back : run + 2 - 2 ≡ run = omega arith in
      let text : text_of c.put_text.new.event c.put_text.new.out ≡ take run (drop 2 bs) =
      c.put_text.ensures.text ∙ ap (λ n. take n (drop 2 bs)) back in
      let ends = escape_ends (Some limit) bs run c.requires.opens.some
      c.requires.opens.escape c.requires.opens.second units room fits c.if-bytes-run-eq27.true in
      let s = c.escape.ensures.state in
      from_ground p q c.put_text.new.event c.put_text.new.out limit (take (run + 3) bs)
      (InEscape [])
      c.requires.ground.0 c.requires.ground.1 ends.0
      (osc_said c.put_text.new.event c.put_text.new.out _ c.put_text.ensures.kind text ∙ sym ends.1)
      (λ memory. in_escape q memory s.0 s.1 s.2);
}

pub returns-then-bytes-run-eq7-clause-takes : goal.returns-then-bytes-run-eq7-clause-takes
returns-then-bytes-run-eq7-clause-takes c = record {
  few = search rules;
  none = search rules;
  queued = search rules;
  noted = λ some.
      let p = c.args.parser.now in
      let bs = c.args.bytes.now in
      let run = c.units_run-run.result in
      let limit = c.args.limit in
      let put = c.put_text-then-bytes-run-eq7 in
      let room : run + 2 < length bs = omega (arith, tail_length bs 2, c.units_run-run.ensures.few)
      in
      let units : IsTextRun (take run (drop 2 bs)) =
      subst (λ y. IsTextRun (take run y)) (take_rest bs 2) c.units_run-run.ensures.run in
      let fits : is_within (Some limit) (length (take run (drop 2 bs))) ≡ true =
      within limit _ (omega (arith, length-take run (drop 2 bs))) in
      let back : run + 2 - 2 ≡ run = omega arith in
      let text : text_of put.new.event put.new.out ≡ take run (drop 2 bs) =
      put.ensures.text ∙ ap (λ n. take n (drop 2 bs)) back in
      let ends = bell_ends (Some limit) bs run c.requires.opens.some c.requires.opens.escape
      c.requires.opens.second units room fits c.if-bytes-run-eq7.true in
      from_ground p p put.new.event put.new.out limit (take (run + 3) bs) Ground c.requires.ground.0
      c.requires.ground.1 ends.0
      (osc_said put.new.event put.new.out _ put.ensures.kind text ∙ sym ends.1) (λ memory.
      in_ground p memory c.requires.ground.0 c.requires.ground.1);
}
