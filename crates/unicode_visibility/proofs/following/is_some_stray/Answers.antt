use Rattle.std.proofs.Common.{chars, ap, sym, ◌∙◌}
use Rattle.std.proofs.lemmas.Str.{IsUtf8-past_char, chars-nil, chars_past_char}
use Rattle.unicode_visibility.proofs.Strays.{nothing_left}
use Rattle.unicode_visibility.specs.Following.{has_stray}
use Rattle.unicode_visibility.proofs.following.is_some_stray.Goals as goal

pub returns-then-is_stray : goal.returns-then-is_stray
returns-then-is_stray c =
    let held = c.loop-c.invariant in
    let step = chars_past_char _ _ c.in-Some.c held.0 c.in-Some.ensures.steps.0 in
    let bad = sym c.is_stray.ensures ∙ c.if-is_stray.true in
    rw (step, bad) at held.1

pub loop-c-preserved : goal.loop-c-preserved
loop-c-preserved c =
    let held = c.loop-c.invariant in
    let parts = c.in-Some.ensures.steps.0 in
    let good = sym c.is_stray.ensures ∙ c.if-is_stray.false in (
      IsUtf8-past_char _ _ c.in-Some.c held.0 parts,
      rw (chars_past_char _ _ c.in-Some.c held.0 parts, good) at held.1,
    )

pub returns : goal.returns
returns c =
    let last = c.loop-c.last in
    let done = nothing_left _ c.in-None.ensures.steps.0.0 in
    sym (ap (λ t. has_stray last (chars t)) done ∙ ap (has_stray last) chars-nil)
    ∙ c.loop-c.invariant.1
