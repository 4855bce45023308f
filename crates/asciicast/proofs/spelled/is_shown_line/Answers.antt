use Rattle.std.proofs.Common.{List, [], ◌∷◌, ◌≡◌, ℕ, length, chars, ap, sym, refl, ◌∙◌}
use Rattle.std.specs.List.{list_all}
use Rattle.std.proofs.lemmas.Str.{IsUtf8-past_char, chars-nil, chars_past_char}
use Rattle.asciicast.specs.Recordings.{is_shown}
use Rattle.asciicast.proofs.spelled.is_shown_line.Goals as goal

pub returns-then-not-is_shown : goal.returns-then-not-is_shown
returns-then-not-is_shown c =
    let held = c.loop-c.invariant in
    let step = chars_past_char _ _ c.in-Some.c held.0 c.in-Some.ensures.steps.0 in
    let bad = sym c.is_shown.ensures ∙ c.if-not-is_shown.true in
    rw (step, bad) at held.1

pub loop-c-preserved : goal.loop-c-preserved
loop-c-preserved c =
    let held = c.loop-c.invariant in
    let parts = c.in-Some.ensures.steps.0 in
    let good = sym c.is_shown.ensures ∙ c.if-not-is_shown.false in (
      IsUtf8-past_char _ _ c.in-Some.c held.0 parts,
      rw (chars_past_char _ _ c.in-Some.c held.0 parts, good) at held.1,
    )

pub returns : goal.returns
returns c =
    let done = nothing_left _ c.in-None.ensures.steps.0.0 in
    sym (ap (λ t. list_all is_shown (chars t)) done ∙ ap (list_all is_shown) chars-nil)
    ∙ c.loop-c.invariant.1
  where
    nothing_left : (xs : List ℕ) → length xs ≡ 0 → xs ≡ []
    nothing_left [] h = refl
    nothing_left (x ∷ xs) h = cc
