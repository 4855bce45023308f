use Rattle.std.proofs.Common.{subst, sym, ◌∙◌}
use Rattle.std.specs.Str.{IsUtf8}
use Rattle.esc_write.specs.Plain.{IsVerbatim}
use Rattle.esc_write.proofs.Verbatim.{mark, named_mark}
use Rattle.esc_write.proofs.commands.is_simple_mark.Goals as goal

pub returns-in-Some : goal.returns-in-Some
returns-in-Some g c = λ t u.
    subst (IsVerbatim _) (sym c.in-Some.ensures)
    (mark _ c.in-Some.letter (sym c.is_mark_alone.ensures ∙ t))

pub returns-then-is_named_mark : goal.returns-then-is_named_mark
returns-then-is_named_mark g c = λ t u.
    let found = c.in-Some-letter_and_name in
    subst (IsVerbatim _) (sym found.ensures)
    (named_mark _ found.letter (sym c.is_named_mark.ensures ∙ c.if-is_named_mark.true)
    found.name.now (c.is_one_part.ensures.one t)
    (subst IsUtf8 found.ensures u))
