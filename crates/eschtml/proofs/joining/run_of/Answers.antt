use Rattle.std.proofs.Common.{arith, length}
use Rattle.eschtml.proofs.Joined.{plain_stays}
use Rattle.eschtml.proofs.joining.run_of.Goals as goal

pub returns-in-Some-clause-stay : goal.returns-in-Some-clause-stay
returns-in-Some-clause-stay c =
    (plain_stays c.args.bytes.now c.in-Some.at (omega (arith, c.in-Some.ensures.0.high))
    c.in-Some.ensures.0.before).0

pub returns-in-Some-clause-held : goal.returns-in-Some-clause-held
returns-in-Some-clause-held c =
    (plain_stays c.args.bytes.now c.in-Some.at (omega (arith, c.in-Some.ensures.0.high))
    c.in-Some.ensures.0.before).1

pub returns-in-None-clause-stay : goal.returns-in-None-clause-stay
returns-in-None-clause-stay c =
    (plain_stays c.args.bytes.now (length c.args.bytes.now) (omega arith) c.in-None.ensures).0

pub returns-in-None-clause-held : goal.returns-in-None-clause-held
returns-in-None-clause-held c =
    (plain_stays c.args.bytes.now (length c.args.bytes.now) (omega arith) c.in-None.ensures).1
