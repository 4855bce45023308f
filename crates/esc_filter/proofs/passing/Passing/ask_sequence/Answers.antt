use Rattle.std.proofs.Common.{Some, ap, false, refl}
use Rattle.std.proofs.lemmas.Bool.{true≢false}
use Rattle.esc_sequences.specs.Csis.{csi_of}
use Rattle.esc_filter.proofs.Renditions.SequencesFromParameters.{left_alone, passes_taken, refused_taken, stays_taken}
use Rattle.esc_filter.proofs.passing.Passing.ask_sequence.Goals as goal

pub returns-in-Some-true : goal.returns-in-Some-true
returns-in-Some-true g c =
    let es = c.args.params.now in
    let f = c.args.control in
    let written = c.receive_sequence in record {
      taken = passes_taken g.P.Admit.admits written.result es false f c.args.self.now
          written.new.self refl
          (c.in-Some-true.ensures.passes (ap Some c.in-Some-true.field-0-test))
          written.ensures.given.taken;
      left = left_alone g.P.Admit.admits written.result c.args.self.now written.new.self
          written.ensures.given.left;
      refused = refused_taken g.P.Admit.admits written.result (csi_of es false f)
          c.args.self.now written.new.self written.ensures.given.refused;
    }

pub returns-in-Some-false : goal.returns-in-Some-false
returns-in-Some-false g c = record {
  taken = λ _. stays_taken g.P.Admit.admits c.args.params.now false c.args.control
      c.args.self.now refl
      (c.in-Some-false.ensures.stays (ap Some c.in-Some-false.field-0-test));
  left = λ e. absurd (true≢false e);
  refused = tt;
}
