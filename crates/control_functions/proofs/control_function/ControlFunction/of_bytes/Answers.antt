use Rattle.std.proofs.Common.{◌≡◌, ◌+◌, ◌*◌, [], ap, ◌∙◌, arith}
use Rattle.control_functions.specs.Functions.{function_of, put_mark}
use Rattle.control_functions.specs.Rows.{base_256}
use Rattle.control_functions.proofs.control_function.ControlFunction.of_bytes.Goals as goal

pub returns : goal.returns
returns c =
    let same = c.marks_of.ensures.same in
    let key : c.marks_of.result * 256 + c.args.last
    ≡ 256 * base_256 1
    (put_mark c.args.private_prefix (put_mark c.args.intermediate [])) + c.args.last =
    omega arith in
    c.with_key.ensures ∙ ap function_of key
