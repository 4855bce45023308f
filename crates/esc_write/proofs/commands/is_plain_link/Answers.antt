use Rattle.std.proofs.Common.{subst, sym}
use Rattle.std.specs.Str.{IsUtf8}
use Rattle.esc_write.specs.Plain.{IsPlainLink}
use Rattle.esc_write.proofs.Verbatim.{bare_link}
use Rattle.esc_write.proofs.commands.is_plain_link.Goals as goal

pub returns-in-Some-clause-link : goal.returns-in-Some-clause-link
returns-in-Some-clause-link g c = λ t u.
    let is = c.in-Some.ensures in
    subst (IsPlainLink _) (sym is) (bare_link _ c.in-Some.address.now (c.is_one_part.ensures.one t)
    (subst IsUtf8 is u))
