use Rattle.std.proofs.Common.{◌≡◌, ◌≤◌, ◌+◌, ◌-◌, ℕ, List, ap, arith, drop, length, rules, subst, sym, take}
use Rattle.std.proofs.lemmas.List.{length-take}
use Rattle.esc_sixel.specs.Steps.{Pushes}
use Rattle.esc_sixel.specs.Taking.{TakesFirst}
use Rattle.esc_sixel.proofs.Bytes.ManyBytes.{digits_pushed, folds_more, pixels_pushed}
use Rattle.esc_sixel.proofs.builder.SixelBuilder.push_some.Goals as goal

pub returns-then-run-gt0-clause-ok : goal.returns-then-run-gt0-clause-ok
returns-then-run-gt0-clause-ok g c =
    let p = c.args.self.now in
    let xs = c.args.rest.now in
    let run = c.pixels_run-run.result in
    let n = c.end_line.result in
    let e = ap (λ t. record p { sixel = record p.sixel { content = t } })
    c.in_ok-push_pixels.ensures.ok in
    record {
      some = omega arith;
      few = within run n xs c.pixels_run-run.ensures.few c.end_line.ensures.few;
      pushes = folds_more Pushes p xs run n _ _
          (pixels_pushed (take run xs) p _ c.in-None.is c.pixels_run-run.ensures.run e)
          c.end_line.ensures.takes;
    }
  where
    within : (run n : ℕ) (xs : List ℕ) → run ≤ length xs
        → n ≤ length (take (length xs - run) (drop run xs)) → run + n ≤ length xs
    within run n xs few more = omega (arith, length-take (length xs - run) (drop run xs))

pub returns-then-digits-gt0-clause-ok : goal.returns-then-digits-gt0-clause-ok
returns-then-digits-gt0-clause-ok g c =
    let p = c.args.self.now in
    let five : length p.parameters.values ≡ 5 = search rules in
    record {
      some = c.if-digits-gt0.true;
      few = c.digits-digits.ensures.few;
      pushes = digits_pushed (take c.digits-digits.result c.args.rest.now) p _
          c.in_default.field-0 c.in_default.is five
          (λ t. c.digits-digits.ensures.room c.if-digits-gt0.true)
          c.digits-digits.ensures.digits
          (ap (λ k. record p { parameters = k }) c.digits-digits.ensures.taken);
    }

pub returns-in-Some-clause-ok : goal.returns-in-Some-clause-ok
returns-in-Some-clause-ok g c =
    let p = c.args.self.now in
    let e = ap (λ t.
    record p { sixel = record p.sixel { content = t } }) c.in_ok-push.ensures.ok in
    subst (λ q. TakesFirst p c.args.rest.now c.in-Some.taken q) (sym e) c.in-Some.ensures
