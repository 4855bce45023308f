use Rattle.std.proofs.Common.{◌≡◌, ◌&&◌, Bool, true, false, refl, ap, sym, ◌∙◌}
use Rattle.esc_html.proofs.Looks.PlainHasNoAttribute.{plain_same}
use Rattle.esc_html.specs.Plain.{is_markless}
use Rattle.esc_html.proofs.plain.is_plain.Goals as goal

whole : (b : Bool) → b ≡ (b && true)
whole true = refl
whole false = refl

none : (b : Bool) → false ≡ (b && false)
none true = refl
none false = refl

pub returns-then-is_colorless : goal.returns-then-is_colorless
returns-then-is_colorless c =
    let l = c.args.look.now in
    c.is_markless.ensures ∙ whole (is_markless l)
    ∙ ap (λ b. is_markless l && b) (sym c.if-is_colorless.true ∙ c.is_colorless.ensures)
    ∙ plain_same l

pub returns-else-is_colorless : goal.returns-else-is_colorless
returns-else-is_colorless c =
    let l = c.args.look.now in
    c.if-is_colorless.false ∙ none (is_markless l)
    ∙ ap (λ b. is_markless l && b) (sym c.if-is_colorless.false ∙ c.is_colorless.ensures)
    ∙ plain_same l
