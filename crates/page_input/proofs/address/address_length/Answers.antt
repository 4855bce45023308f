use Rattle.std.proofs.Common.{sym, ◌∙◌, arith}
use Rattle.page_input.proofs.Addresses.{address_is}
use Rattle.page_input.proofs.address.address_length.Goals as goal

pub returns-then-has_host-clause-found : goal.returns-then-has_host-clause-found
returns-then-has_host-clause-found c = λ some.
    address_is c.address_run-run.result c.args.text.now c.without_end-address.result.now
    c.without_end-address.ensures.begins c.without_end-address.ensures.within (omega arith)
    c.address_run-run.ensures.bytes c.without_end-address.ensures.ended
    (sym c.has_host.ensures ∙ c.if-has_host.true)
