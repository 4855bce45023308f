use Rattle.dump_page.proofs.Quoting.{on_ok, quotes_number}
use Rattle.dump_page.proofs.quoted.push_byte.Goals as goal

pub returns : goal.returns
returns c = on_ok c.push-4.result
    (quotes_number _ _ _ _ _ c.args.byte c.digit.result c.digit-2.result c.digit.ensures.shown
    c.digit-2.ensures.shown c.digit.ensures.value c.digit-2.ensures.value
    c.in_ok-push.ensures.ok c.in_ok-push-2.ensures.ok c.in_ok-push-3.ensures.ok)
    c.push-4.ensures.ok
