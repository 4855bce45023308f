use Rattle.std.proofs.Common.{◌≡◌, ◌≤◌, ◌∙◌, false, true, take, map, length, length-take, get_or, List, ℕ, ap, sym, subst, arith, rules}
use Rattle.std.proofs.lemmas.List.{length-map, take_rest, get_or-drop}
use Rattle.esc_frame.specs.Machine.Shorts.{IsAfter, IsPrefix}
use Rattle.esc_frame.proofs.ByteRuns.CsiRuns.{run_joins}
use Rattle.esc_frame.proofs.ByteRuns.ManyBytes.{tail_length}
use Rattle.esc_frame.proofs.ByteRuns.ShortBodies.{ends_short}
use Rattle.esc_values.specs.declared.csi_param.CsiParam.{CsiParam}
use Rattle.esc_frame.proofs.unfinished.fields.read_body.Goals as goal

few : {E : Type 0} (param : E → CsiParam) (csi_params : List E) (n : ℕ) → n ≤ 256
    → length (map param (take n csi_params)) ≤ 256
few param csi_params n h =
    omega (arith, length-map (take n csi_params) param, length-take n csi_params)

pub returns-then-not-field : goal.returns-then-not-field
returns-then-not-field g c =
    let rest = c.args.rest.now in
    let i = c.loop-at.at in
    let field = c.put_field-field.result in
    let csi_params = c.put_field-field.new.csi_params in
    let no : field.goes_on ≡ false = search rules in record {
      few = search rules;
      count = search rules;
      keeps =
          ends_short _ _
          (few g.E.Param.param csi_params field.count
          (omega (arith, c.put_field-field.ensures.few.1, c.loop-at.invariant.2)))
          (subst (λ y. IsAfter (map g.E.Param.param (take field.count csi_params)) y)
          (run_joins rest i _)
          (c.put_field-field.ensures.ends no (take i rest) c.loop-at.invariant.3));
      after = λ some.
          let after = c.put_field-field.ensures.after some in (
            omega (arith, tail_length rest i, after.0),
            sym (get_or-drop i rest field.length 0)
                ∙ ap (λ y. get_or y field.length 0) (sym (take_rest rest i)) ∙ after.1,
          );
    }

pub loop-at-preserved : goal.loop-at-preserved
loop-at-preserved g c =
    let rest = c.args.rest.now in
    let i = c.loop-at.at in
    let field = c.put_field-field.result in
    let csi_params = c.put_field-field.new.csi_params in
    let yes : field.goes_on ≡ true = search rules in
    let l = tail_length rest i in (
      omega (arith, c.put_field-field.ensures.few.0),
      omega (arith, c.put_field-field.ensures.few.1),
      search rules,
      subst (λ y. IsPrefix (map g.E.Param.param (take field.count csi_params)) y)
          (run_joins rest i _)
          ((c.put_field-field.ensures.goes_on yes).1 (take i rest) c.loop-at.invariant.3),
    )

pub returns-else-csi_params-count-gt1 : goal.returns-else-csi_params-count-gt1
returns-else-csi_params-count-gt1 g c = record {
  few = search rules;
  count = search rules;
  keeps =
      ends_short _ _ (few g.E.Param.param c.loop-at.csi_params c.loop-at.count
      (omega (arith, c.loop-at.invariant.1, c.loop-at.invariant.2)))
      c.loop-at.invariant.3.so;
  after = search rules;
}

pub returns-after-loop-at : goal.returns-after-loop-at
returns-after-loop-at g c = record {
  few = search rules;
  count = search rules;
  keeps =
      ends_short _ _ (few g.E.Param.param c.loop-at.csi_params c.loop-at.count
      (omega (arith, c.loop-at.invariant.1, c.loop-at.invariant.2)))
      c.loop-at.invariant.3.so;
  after = search rules;
}
