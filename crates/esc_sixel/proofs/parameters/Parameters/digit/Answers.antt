use Rattle.std.proofs.Common.{◌≡◌, ◌≢◌, ◌+◌, rules, ◌*◌, ◌∙◌, None, get_or}
use Rattle.std.proofs.Common.{min, sym, ap, arith}
use Rattle.std.specs.Option.{unwrap_or}
use Rattle.esc_sixel.specs.Runs.{param, separators}
use Rattle.esc_values.specs.Params.{capped_at_i64}
use Rattle.esc_sixel.proofs.Runs.OneByteMoreOfRun.{param_else, semicolons_digit, digit_is_none, keeps_digit}
use Rattle.esc_sixel.proofs.parameters.Parameters.digit.Goals as goal

pub returns-then-self-lt5 : goal.returns-then-self-lt5
returns-then-self-lt5 c = λ run p.
    let kept : unwrap_or (get_or c.args.self.now.values c.args.self.now.count None) 0
    ≡ unwrap_or (param run c.args.self.now.count) 0 =
    ap (λ o. unwrap_or o 0) (p.values c.args.self.now.count c.if-self-lt5.true) in
    let n = digit_is_none c.args.digit c.requires in
    record {
      values = λ k small.
          let same = c.unwrap_or.ensures ∙ kept in
          keeps_digit c.args.self.now.values c.args.self.now.count c.args.digit
          c.with_digit-number.result run
          (search rules) c.requires c.if-self-lt5.true p.values p.count
          (c.with_digit-number.ensures ∙ ap (λ x. capped_at_i64 (10 * x + c.args.digit)) same) k
          small;
      count = p.count ∙ ap (λ s. min s 5) (sym (semicolons_digit run (c.args.digit + 48) n));
    }

pub returns-else-self-lt5 : goal.returns-else-self-lt5
returns-else-self-lt5 c = λ run p. record {
  values = λ k small.
      let n = digit_is_none c.args.digit c.requires in
      let far : k ≢ separators run = λ e. omega (arith, e, p.count, c.if-self-lt5.false) in
      p.values k small ∙ sym (param_else run (c.args.digit + 48) k n far);
  count = p.count
      ∙ ap (λ s. min s 5)
      (sym (semicolons_digit run (c.args.digit + 48) (digit_is_none c.args.digit c.requires)));
}
