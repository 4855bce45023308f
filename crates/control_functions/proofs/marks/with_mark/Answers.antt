use Rattle.std.proofs.Common.{◌≤◌, ◌^◌, subst, sym}
use Rattle.control_functions.specs.Functions.{put_mark}
use Rattle.control_functions.specs.Rows.{base_256}
use Rattle.control_functions.proofs.Packed.{too_many}
use Rattle.control_functions.proofs.marks.with_mark.Goals as goal

pub pushed-requires : goal.pushed-requires
pushed-requires c = c.if-packed-lt65536.true

pub returns-in-Some-clause-few : goal.returns-in-Some-clause-few
returns-in-Some-clause-few c = c.pushed.ensures.few

pub returns-in-Some-2-clause-many : goal.returns-in-Some-2-clause-many
returns-in-Some-2-clause-many c = λ bs.
    subst (λ o. 2 ^ 24 ≤ base_256 c.args.packed (put_mark o bs)) (sym c.in-Some-2.is)
    (too_many c.args.packed c.in-Some-2.field-0 bs c.if-packed-lt65536.false)
