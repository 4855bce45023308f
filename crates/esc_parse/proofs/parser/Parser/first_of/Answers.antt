use Rattle.std.proofs.Common.{◌≡◌, ◌+◌, ◌≤◌, ◌++◌, length, take, sym, ap, ◌∙◌, subst, arith}
use Rattle.std.proofs.lemmas.List.{append-nil, take_all}
use Rattle.std.proofs.lemmas.Result.{IfErr-at_err, IfOk-at_ok}
use Rattle.std.specs.Option.{option_map}
use Rattle.esc_parse.proofs.Lists.ResultIsError.{ok_is_no_error, same_error}
use Rattle.esc_parse.proofs.Values.ExactPrefixes.{fed_more, finds_first, finds_none, first_handed, prefix_some, rest_length, takes_rest, yield_nil}
use Rattle.esc_parse.proofs.parser.Parser.first_of.Goals as goal
use Rattle.esc_parse.specs.Calls.{After, YieldsFirst}
use Rattle.esc_parse.specs.Fed.{ParserHasConsumedWithin}
use Rattle.esc_actions.specs.Meaning.{yield_within}
use Rattle.esc_actions.specs.Values.{value_of}

pub prefixes-init : goal.prefixes-init
prefixes-init g c = record {
  within = omega arith;
  broken = λ b. b;
  fed = λ limit s h. (
    subst (λ x. ParserHasConsumedWithin limit x c.args.self.now) (sym (append-nil s)) h,
    yield_nil limit s,
  );
}

pub prefixes-preserved : goal.prefixes-preserved
prefixes-preserved g c =
    let bs = c.args.bytes.now in
    let at = c.prefixes.at in
    let n = c.in-Ok.taken in
    let next = c.first_in-taken in
    let l = rest_length bs at in record {
      within = omega (
        arith,
        l,
        (IfOk-at_ok _ c.in-Ok.is next.ensures.count).0,
        c.prefixes.invariant.within,
      );
      broken = λ b. absurd (ok_is_no_error _ _ _ c.in-Ok.is
          (next.ensures.failed (c.prefixes.invariant.broken b)).0);
      fed = λ limit s h.
          let p = c.prefixes.invariant.fed limit s h in
          let w = IfOk-at_ok _ c.in-Ok.is (next.ensures.given limit (s ++ take at bs) p.0) in (
            subst (λ x. ParserHasConsumedWithin limit x next.new.self) (fed_more s bs at n) w.0,
            finds_none {A = g.row.A.Denot} limit s bs at n p.1
                (sym (ap (option_map value_of) c.in_default.is) ∙ w.1),
          );
    }

pub returns-in-Some : goal.returns-in-Some
returns-in-Some g c =
    let bs = c.args.bytes.now in
    let at = c.prefixes.at in
    let n = c.in-Ok.taken in
    let action = c.in-Some.action in
    let next = c.first_in-taken in
    let l = rest_length bs at in
    let count = IfOk-at_ok _ c.in-Ok.is next.ensures.count in
    let m : at + n ≤ length bs = omega (arith, l, count.0, c.prefixes.invariant.within) in
    let is : After c.args.self.now
    (λ limit s. YieldsFirst limit s bs next.new.self (value_of action) (at + n)) =
    λ limit s h.
    let p = c.prefixes.invariant.fed limit s h in
    let w = IfOk-at_ok _ c.in-Ok.is (next.ensures.given limit (s ++ take at bs) p.0) in (
      subst (λ x. ParserHasConsumedWithin limit x next.new.self) (fed_more s bs at n) w.0,
      finds_first limit s bs at n (value_of action) m p.1
          (IfOk-at_ok _ c.in-Ok.is (next.ensures.quiet limit (s ++ take at bs) p.0))
          (sym (ap (option_map value_of) c.in-Some.is) ∙ w.1),
    ) in record {
      count = (
        prefix_some (length bs) at n 0 1 (λ h. count.1 (omega (arith, h, l))) (omega arith)
            (λ e z. let none = next.ensures.empty (l ∙ omega (arith, e, z)) in
            let some = c.in-Some.is in absurd cc),
        m,
      );
      some = is;
      handed_out = λ limit s h.
          first_handed g.row.A.Denot c.yield_handed_out.ensures limit s bs (value_of action) _
          (is limit s h).1;
      none = λ limit s h. tt;
      refused = λ limit s h. tt;
      failed = λ b. absurd (ok_is_no_error _ _ _ c.in-Ok.is
          (next.ensures.failed (c.prefixes.invariant.broken b)).0);
    }

pub returns-then-at-bytes : goal.returns-then-at-bytes
returns-then-at-bytes g c =
    let bs = c.args.bytes.now in
    let at = c.prefixes.at in
    let n = c.in-Ok.taken in
    let next = c.first_in-taken in
    let all : take (at + n) bs ≡ bs = take_all (at + n) bs (omega arith) in record {
      count = tt;
      some = λ limit s h. tt;
      handed_out = λ limit s h. tt;
      none = λ limit s h.
          let p = c.prefixes.invariant.fed limit s h in
          let w = IfOk-at_ok _ c.in-Ok.is (next.ensures.given limit (s ++ take at bs) p.0) in
          let e = finds_none {A = g.row.A.Denot} limit s bs at n p.1
          (sym (ap (option_map value_of) c.in_default.is) ∙ w.1) in (
            subst (λ x. ParserHasConsumedWithin limit x next.new.self)
                (fed_more s bs at n ∙ ap (λ x. s ++ x) all) w.0,
            ap (yield_within limit s) (sym all) ∙ e,
          );
      refused = λ limit s h. tt;
      failed = λ b. absurd (ok_is_no_error _ _ _ c.in-Ok.is
          (next.ensures.failed (c.prefixes.invariant.broken b)).0);
    }

pub returns-in-Err : goal.returns-in-Err
returns-in-Err g c = record {
  count = tt;
  some = λ limit s h. tt;
  handed_out = λ limit s h. tt;
  none = λ limit s h. tt;
  refused = λ limit s h.
      let bs = c.args.bytes.now in
      let fed = c.prefixes.invariant.fed limit s h in
      let f = IfErr-at_err _ c.in-Err.is
      (c.first_in-taken.ensures.refused limit (s ++ take c.prefixes.at bs) fed.0) in
      (f.0, f.1, takes_rest s bs c.prefixes.at f.2.0, f.2.1);
  failed = λ b.
      let failed = c.first_in-taken.ensures.failed (c.prefixes.invariant.broken b) in
      (same_error _ _ _ c.in-Err.is failed.0, failed.1);
}
