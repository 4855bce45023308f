use Rattle.std.proofs.Common.{chars, ap, sym, ◌∙◌}
use Rattle.std.specs.List.{list_all}
use Rattle.std.proofs.lemmas.Str.{IsUtf8-past_char, chars-nil, chars_past_char}
use Rattle.esc_html.specs.Characters.{is_character}
use Rattle.esc_html.proofs.Texts.RunsAreEscaped.{nothing_left}
use Rattle.esc_html.proofs.character.is_each_character.Goals as goal

pub returns-then-is_noncharacter : goal.returns-then-is_noncharacter
returns-then-is_noncharacter c =
    let held = c.loop-c.invariant in
    let step = chars_past_char _ _ c.in-Some.c held.0 c.in-Some.ensures.steps.0 in
    let bad = sym c.is_noncharacter.ensures ∙ c.if-is_noncharacter.true in
    rw (step, bad) at held.1

pub loop-c-preserved : goal.loop-c-preserved
loop-c-preserved c =
    let held = c.loop-c.invariant in
    let parts = c.in-Some.ensures.steps.0 in
    let good = sym c.is_noncharacter.ensures ∙ c.if-is_noncharacter.false in (
      IsUtf8-past_char _ _ c.in-Some.c held.0 parts,
      rw (chars_past_char _ _ c.in-Some.c held.0 parts, good) at held.1,
    )

pub returns : goal.returns
returns c =
    let done = nothing_left _ c.in-None.ensures.steps.0.0 in
    sym (ap (λ t. list_all is_character (chars t)) done
    ∙ ap (list_all is_character) chars-nil) ∙ c.loop-c.invariant.1
