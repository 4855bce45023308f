use Rattle.std.proofs.Common.{◌++◌, ap, refl, sym, ◌∙◌}
use Rattle.esc_parse.proofs.Lists.StepsOverLists.{on_ok_more}
use Rattle.std.proofs.lemmas.Result.{on_err_weaker}
use Rattle.esc_normal.proofs.Results.{no_other, not_failed, other, prefix_none}
use Rattle.esc_normal.specs.declared.filter_error.FilterError.TheVariants as fault
use Rattle.esc_normal.proofs.filtering.end.Goals as goal

pub returns-in-Ok : goal.returns-in-Ok
returns-in-Ok g c =
    let out = c.write_out.ensures in record {
      given = λ m e s h.
          let k = c.in-Ok.ensures.ended m e s h ∙ ap (λ x. m s ++ x) (sym c.output.ensures) in
          on_ok_more _ _ c.write_out.result
          (λ a. (c.in-Ok.ensures.closed m e s h, (c.output.result.now, k, a))) out.whole;
      beginning = λ m e s h.
          let k = c.in-Ok.ensures.ended m e s h ∙ ap (λ x. m s ++ x) (sym c.output.ensures) in
          on_err_weaker c.write_out.result (λ a. (c.output.result.now, k, a)) out.beginning;
      unwritten = λ k. absurd (no_other _ fault.Memory fault.Write out.fault k refl);
      refused = λ m e s h k. absurd (no_other _ fault.Memory fault.Write out.fault k refl);
      write_fault = out.emitted;
      no_read = λ k. no_other _ fault.Read fault.Write out.fault k refl;
      no_end = λ k. no_other _ fault.Endless fault.Write out.fault k refl;
    }

pub returns-in-Err : goal.returns-in-Err
returns-in-Err g c = record {
  given = λ m e s h. tt;
  beginning = λ m e s h. let k =
      c.in-Err.ensures.longer m e s h in (k.0, k.1, prefix_none _ _);
  unwritten = λ _. refl;
  refused = λ m e s h _. c.in-Err.ensures.refused m e s h;
  write_fault = not_failed _ fault.Write _ (λ k. other _ _ k refl);
  no_read = λ k. other _ fault.Read k refl;
  no_end = λ k. other _ fault.Endless k refl;
}
