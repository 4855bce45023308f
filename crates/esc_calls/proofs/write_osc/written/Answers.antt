use Rattle.std.proofs.Common.{rules, ◌≡◌, sym, subst, ◌∙◌}
use Rattle.std.proofs.lemmas.Bool.{true≢false}
use Rattle.std.specs.Global.{Global}
use Rattle.esc_values.specs.Clear.{IsClearText}
use Rattle.esc_osc.specs.Commands.{inner_text}
use Rattle.esc_osc.specs.Writable.{IsWritable}
use Rattle.esc_osc.specs.declared.command.OperatingSystemCommand.{OperatingSystemCommand}
use Rattle.flat_values.specs.Fields.{Table}
use Rattle.flat_values.specs.Held.{Has}
use Rattle.esc_calls.proofs.WrittenBack.{writable_back}
use Rattle.esc_calls.specs.OscValues.{command_of}
use Rattle.esc_calls.proofs.write_osc.written.Goals as goal

pub returns-then-not-branch-clause-refused : goal.returns-then-not-branch-clause-refused
returns-then-not-branch-clause-refused c =
    let k = c.args.kind in
    let t : Table = (c.args.fields.now, c.args.text.now) in
    let said = c.in_ok-written.ensures.text in
    let inner_is : c.inner.result.now ≡ inner_text said.0 =
    c.inner.ensures (inner_text said.0) (c.as_bytes.ensures ∙ said.2) in
    let unwritable : (d : OperatingSystemCommand Global) → IsWritable d → Has k t d → ⊥ =
    λ d writable of_d.
    let back = writable_back k t said.0 d said.1 writable of_d in
    let yes = c.in_ok-is_back.ensures.back.1
    (subst (λ s. IsClearText s × Has k t (command_of s)) (sym inner_is) back) in
    true≢false (sym yes ∙ c.if-not-branch.true) in
    search (rules, unwritable)
