use Rattle.std.proofs.Common.{rules, ◌≡◌, ◌≤◌, ◌∙◌, sym, refl, take, subst, arith}
use Rattle.std.proofs.lemmas.Bool.Decides.{nat_tests}
use Rattle.heapless_parser.proofs.InChunks.OneByteLater.{malformed_notes, formed_notes}
use Rattle.heapless_parser.proofs.bodies.end.Goals as goal

pub returns-then-parser-eq-MALFORMED-clause-takes :
    goal.returns-then-parser-eq-MALFORMED-clause-takes
returns-then-parser-eq-MALFORMED-clause-takes c = record {
  other = search rules;
  queued = search rules;
  notes = λ yes.
      let b = c.args.byte in
      let low : 0x40 ≤ b = grind (arith, nat_tests, c.requires.ends) in
      let high : b ≤ 0x7e = grind (arith, nat_tests, c.requires.ends) in
      let r = c.close.new.parser in
      malformed_notes c.args.parser.now (record r { state = 0; pending = 0 }) c.args.event.now b
      c.requires.asked.state low high refl refl
      (sym c.close.ensures.same.0 ∙ c.if-parser-eq-MALFORMED.true) c.requires.asked.fresh.none;
}

pub returns-clause-takes : goal.returns-clause-takes
returns-clause-takes c = record {
  other = search rules;
  queued = search rules;
  notes = λ yes.
      let b = c.args.byte in
      let low : 0x40 ≤ b = grind (arith, nat_tests, c.requires.ends) in
      let high : b ≤ 0x7e = grind (arith, nat_tests, c.requires.ends) in
      let r = c.close.new.parser in
      formed_notes c.args.parser.now (record r { state = 0; pending = 0 })
      (record c.args.event.now {
        csi_params = c.copy_params.new.csi_params;
        count = c.min-count.result;
        has_more = r.is_truncated;
        byte = b;
        kind = 5;
      }) b c.requires.asked.state low high refl refl r
      (λ e. c.if-parser-eq-MALFORMED.false (c.close.ensures.same.0 ∙ e))
      c.close.ensures.first refl c.min-count.ensures
      (subst (λ k. take k c.copy_params.new.csi_params ≡ take k r.csi_params) c.min-count.ensures
      c.copy_params.ensures)
      refl refl;
}
