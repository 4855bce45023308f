use Rattle.std.proofs.Common.{chars, ap, sym, ◌∙◌}
use Rattle.std.specs.List.{list_all}
use Rattle.std.proofs.lemmas.Str.{IsUtf8-past_char, chars-nil, chars_past_char}
use Rattle.esc_values.specs.Clear.{is_clear}
use Rattle.esc_parse.proofs.Lists.StepsOverLists.{nothing_left}
use Rattle.escape_stream.proofs.clear.are_clear.Goals as goal

pub returns-then-not-is_clear : goal.returns-then-not-is_clear
returns-then-not-is_clear c =
    let held = c.loop-c.invariant in
    let step = chars_past_char _ _ c.in-Some.c held.0 c.in-Some.ensures.steps.0 in
    let bad = sym c.is_clear.ensures ∙ c.if-not-is_clear.true in
    rw (step, bad) at held.1

pub loop-c-preserved : goal.loop-c-preserved
loop-c-preserved c =
    let held = c.loop-c.invariant in
    let parts = c.in-Some.ensures.steps.0 in
    let good = sym c.is_clear.ensures ∙ c.if-not-is_clear.false in (
      IsUtf8-past_char _ _ c.in-Some.c held.0 parts,
      rw (chars_past_char _ _ c.in-Some.c held.0 parts, good) at held.1,
    )

pub returns : goal.returns
returns c =
    let done = nothing_left _ c.in-None.ensures.steps.0.0 in
    sym (ap (λ t. list_all is_clear (chars t)) done ∙ ap (list_all is_clear) chars-nil)
    ∙ c.loop-c.invariant.1
