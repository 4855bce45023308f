use Rattle.std.proofs.Common.{sym, subst}
use Rattle.std.proofs.lemmas.List.{take_more}
use Rattle.dump_page.specs.Quoted.{Quotes}
use Rattle.dump_page.proofs.Quoting.{quotes_more, quotes_nothing}
use Rattle.dump_page.proofs.quoted.push_bytes.Goals as goal

pub loop-byte-init : goal.loop-byte-init
loop-byte-init c = quotes_nothing _

pub loop-byte-preserved : goal.loop-byte-preserved
loop-byte-preserved c =
    let at = c.loop-byte in
    let bytes = c.args.bytes.now in
    subst (λ z. Quotes c.args.to.now c.push_byte.new.to z)
    (sym (take_more bytes at.byte-index 0 c.loop-byte-test.true))
    (quotes_more _ _ _ _ _ at.invariant c.in_ok-push_byte.ensures)
