use Rattle.std.proofs.Common.{refl, sym, ap, ◌∙◌}
use Rattle.unicode_visibility.proofs.Bytes.{none_deceives}
use Rattle.unicode_visibility.specs.Signs.{has_sign}
use Rattle.unicode_visibility.proofs.deceiving.has_deceiving.Goals as goal

pub returns-else-may_deceive : goal.returns-else-may_deceive
returns-else-may_deceive c =
    sym (none_deceives c.args.text.now c.utf8.text
    (ap has_sign (sym c.as_bytes.ensures.value) ∙ c.if-may_deceive.ensures refl))
