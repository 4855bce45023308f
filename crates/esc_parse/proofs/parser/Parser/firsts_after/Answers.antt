use Rattle.std.proofs.Common.{ℕ, List, ◌≡◌, ◌+◌, ◌-◌, ◌<◌, ◌≤◌, ◌++◌, length, take, refl, sym, ap, ◌∙◌, subst, arith}
use Rattle.std.proofs.lemmas.Bool.{true≢false}
use Rattle.std.proofs.lemmas.List.{append-nil, take_all}
use Rattle.std.proofs.lemmas.Result.{IfErr-at_err, IfOk-at_ok}
use Rattle.esc_parse.proofs.Lists.ListTakesActions.{counts_more}
use Rattle.esc_parse.proofs.Lists.ResultIsError.{ok_is_no_error, same_error}
use Rattle.esc_parse.proofs.Values.ExactPrefixes.{adds_nothing, fed_more, fewer_left, least, more_within, no_stop_up_to, no_stop_within, no_stop_yet, none_left, prefix_some, rest_length, some_more, some_of_rest, values_more, wants_rest}
use Rattle.esc_parse.proofs.parser.Parser.firsts_after.Goals as goal
use Rattle.esc_parse.specs.Collected.{Adds}
use Rattle.esc_parse.specs.Fed.{ParserHasConsumedWithin}
use Rattle.esc_parse.specs.Firsts.{IsStop}
use Rattle.esc_actions.specs.Meaning.{yield_within}

pub prefixes-init : goal.prefixes-init
prefixes-init g c = record {
  within = least _;
  fresh = λ e. refl;
  broken = λ b. (b, refl);
  fed =
      λ limit s h. (
        subst (λ x. ParserHasConsumedWithin limit x c.args.self.now) (sym (append-nil s)) h,
        adds_nothing limit s c.args.actions.items,
        no_stop_yet g.row.A.Denot limit s c.args.bytes.now,
      );
}

pub returns-then-stops : goal.returns-then-stops
returns-then-stops g c =
    let more = c.more_in-taken in
    let taken = IfOk-at_ok _ c.in-Ok.is more.ensures.count in
    let bs = c.args.bytes.now in
    let at = c.prefixes.at in
    let n = c.in-Ok.taken in
    let l = rest_length bs at in
    let had = c.as_slice-had.ensures.value in
    let all = c.as_slice.ensures.value in
    let none : length bs ≡ 0 → at ≡ 0
    → length c.as_slice.result.now ≡ length c.as_slice-had.result.now = λ e z.
    ap length (all ∙ more.ensures.empty (l ∙ none_left at _ e)
    ∙ c.prefixes.invariant.fresh z ∙ sym had) in
    let count : 0 < length bs - at → 0 < n = λ h. taken.1 (subst (λ k. 0 < k) (sym l) h) in
    let m = more_within at n _ _ l taken.0 c.prefixes.invariant.within in record {
      count = (
        prefix_some (length bs) at n _ _ count (c.stops.ensures.some c.if-stops.true) none,
        m,
      );
      some = λ limit s h.
          let p = c.prefixes.invariant.fed limit s h in
          let w = IfOk-at_ok _ c.in-Ok.is
          (more.ensures.given limit (s ++ take at bs) p.0) in
          let v = values_more limit s bs at n _ _ _ p.1 w.1 in
          let f = subst (λ x. ParserHasConsumedWithin limit x more.new.self) (fed_more s bs at n)
          w.0 in (
            f,
            record {
              within = m;
              values = refl;
              stop = c.stops.ensures.yes limit s (take (at + n) bs) f
                  (counts_more _ _ _ _ _ had all v) c.if-stops.true;
              none_before =
                  no_stop_within g.row.A.Denot limit s bs at n p.2
                  (IfOk-at_ok _ c.in-Ok.is
                  (more.ensures.quiet limit (s ++ take at bs) p.0));
            },
            v,
          );
      handed_out = λ limit s h k. c.yield_handed_out.ensures limit s (take k bs);
      none = λ limit s h. tt;
      refused = λ limit s h. tt;
      failed = λ b.
          let failed = more.ensures.failed (c.prefixes.invariant.broken b).0 in
          absurd (ok_is_no_error _ _ _ c.in-Ok.is failed.0);
    }

pub returns-then-at-bytes : goal.returns-then-at-bytes
returns-then-at-bytes g c =
    let more = c.more_in-taken in
    let bs = c.args.bytes.now in
    let at = c.prefixes.at in
    let n = c.in-Ok.taken in
    let all : take (at + n) bs ≡ bs = take_all (at + n) bs (omega arith) in record {
      count = tt;
      some = λ limit s h. tt;
      handed_out = λ limit s h k. c.yield_handed_out.ensures limit s (take k bs);
      none = λ limit s h.
          let p = c.prefixes.invariant.fed limit s h in
          let w = IfOk-at_ok _ c.in-Ok.is
          (more.ensures.given limit (s ++ take at bs) p.0) in
          let v = values_more limit s bs at n _ _ _ p.1 w.1 in
          let f = subst (λ x. ParserHasConsumedWithin limit x more.new.self) (fed_more s bs at n)
          w.0 in
          let P : List ℕ → Type 0 =
          λ b. Adds c.args.actions.items (yield_within limit s b) more.result.1.items in
          let here : IsStop g.row.A.Denot limit s (take (at + n) bs) → ⊥ = λ stop.
          true≢false (sym (c.stops.ensures.no limit s (take (at + n) bs) f
          (counts_more _ _ _ _ _ c.as_slice-had.ensures.value c.as_slice.ensures.value v) stop)
          ∙ c.if-stops.false) in (
            subst (λ x. ParserHasConsumedWithin limit x more.new.self) (ap (λ x. s ++ x) all) f,
            subst P all v,
            λ k below.
                let within : k ≤ at + n = omega arith in
                no_stop_up_to g.row.A.Denot limit s bs (at + n)
                (no_stop_within g.row.A.Denot limit s bs at n p.2
                (IfOk-at_ok _ c.in-Ok.is
                (more.ensures.quiet limit (s ++ take at bs) p.0))) here k within,
          );
      refused = λ limit s h. tt;
      failed = λ b.
          let failed = more.ensures.failed (c.prefixes.invariant.broken b).0 in
          absurd (ok_is_no_error _ _ _ c.in-Ok.is failed.0);
    }

pub returns-in-Err : goal.returns-in-Err
returns-in-Err g c =
    let more = c.more_in-taken in
    let bs = c.args.bytes.now in record {
      count = tt;
      some = λ limit s h. tt;
      handed_out = λ limit s h k. c.yield_handed_out.ensures limit s (take k bs);
      none = λ limit s h. tt;
      refused = λ limit s h.
          let p = c.prefixes.invariant.fed limit s h in
          let f = IfErr-at_err _ c.in-Err.is
          (more.ensures.refused limit (s ++ take c.prefixes.at bs) p.0) in (
            f.0,
            f.1,
            (
              wants_rest g.row.A.Denot limit s bs c.prefixes.at f.2.0.0,
              some_of_rest limit s bs c.prefixes.at _ _ _ p.1 f.2.0.1,
            ),
            f.2.1,
          );
      failed = λ b.
          let was = c.prefixes.invariant.broken b in
          let failed = more.ensures.failed was.0 in
          (same_error _ _ _ c.in-Err.is failed.0, failed.1, failed.2 ∙ was.1);
    }

pub prefixes-preserved : goal.prefixes-preserved
prefixes-preserved g c =
    let more = c.more_in-taken in
    let taken = IfOk-at_ok _ c.in-Ok.is more.ensures.count in
    let bs = c.args.bytes.now in
    let at = c.prefixes.at in
    let n = c.in-Ok.taken in
    let l = rest_length bs at in record {
      within = more_within at n _ _ l taken.0 c.prefixes.invariant.within;
      fresh = λ e. absurd (some_more at n _ _ l taken c.if-at-bytes.false e);
      broken = λ b.
          let failed = more.ensures.failed (c.prefixes.invariant.broken b).0 in
          absurd (ok_is_no_error _ _ _ c.in-Ok.is failed.0);
      fed = λ limit s h.
          let p = c.prefixes.invariant.fed limit s h in
          let w = IfOk-at_ok _ c.in-Ok.is
          (more.ensures.given limit (s ++ take at bs) p.0) in
          let v = values_more limit s bs at n _ _ _ p.1 w.1 in
          let f = subst (λ x. ParserHasConsumedWithin limit x more.new.self) (fed_more s bs at n)
          w.0 in
          let here : IsStop g.row.A.Denot limit s (take (at + n) bs) → ⊥ = λ stop.
          true≢false (sym (c.stops.ensures.no limit s (take (at + n) bs) f
          (counts_more _ _ _ _ _ c.as_slice-had.ensures.value c.as_slice.ensures.value v) stop)
          ∙ c.if-stops.false) in (
            f,
            v,
            no_stop_up_to g.row.A.Denot limit s bs (at + n)
                (no_stop_within g.row.A.Denot limit s bs at n p.2
                (IfOk-at_ok _ c.in-Ok.is
                (more.ensures.quiet limit (s ++ take at bs) p.0))) here,
          );
    }

pub prefixes-smaller : goal.prefixes-smaller
prefixes-smaller g c =
    let more = c.more_in-taken in
    let taken = IfOk-at_ok _ c.in-Ok.is more.ensures.count in
    let l = rest_length c.args.bytes.now c.prefixes.at in
    fewer_left c.prefixes.at c.in-Ok.taken _ _ l taken c.if-at-bytes.false
    c.prefixes.invariant.within
