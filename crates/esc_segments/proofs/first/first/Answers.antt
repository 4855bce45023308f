use Rattle.std.proofs.Common.{sym, subst, arith}
use Rattle.esc_segments.specs.Places.{IsFirst}
use Rattle.esc_segments.proofs.Escapes.{one_text, low_control, separator, low_stray, high_stray, raw}
use Rattle.esc_segments.proofs.first.first.Goals as goal

pub returns-in-0-to-26-clause-found : goal.returns-in-0-to-26-clause-found
returns-in-0-to-26-clause-found c =
    subst (λ x. IsFirst c.args.bytes.now x) (sym c.finished.ensures)
    (low_control c.args.bytes.now c.requires (omega arith))

pub returns-in-28-to-31-clause-found : goal.returns-in-28-to-31-clause-found
returns-in-28-to-31-clause-found c =
    subst (λ x. IsFirst c.args.bytes.now x) (sym c.finished-in-28-to-31.ensures)
    (separator c.args.bytes.now c.requires (omega arith) (omega arith))

pub returns-in-32-to-127-clause-found : goal.returns-in-32-to-127-clause-found
returns-in-32-to-127-clause-found c =
    subst (λ x. IsFirst c.args.bytes.now x) (sym c.finished-in-32-to-127.ensures)
    (one_text c.args.bytes.now c.requires (omega arith) (omega arith))

pub returns-in-128-to-159-clause-found : goal.returns-in-128-to-159-clause-found
returns-in-128-to-159-clause-found c =
    subst (λ x. IsFirst c.args.bytes.now x) (sym c.later-in-128-to-159.ensures)
    (raw c.args.bytes.now c.control.result c.requires c.control.ensures.found)

pub returns-in-160-to-193-clause-found : goal.returns-in-160-to-193-clause-found
returns-in-160-to-193-clause-found c =
    subst (λ x. IsFirst c.args.bytes.now x) (sym c.finished-in-160-to-193.ensures)
    (low_stray c.args.bytes.now c.requires (omega arith) (omega arith))

pub returns-in-245-to-255-clause-found : goal.returns-in-245-to-255-clause-found
returns-in-245-to-255-clause-found c =
    subst (λ x. IsFirst c.args.bytes.now x) (sym c.finished-in-245-to-255.ensures)
    (high_stray c.args.bytes.now c.requires (omega arith))
