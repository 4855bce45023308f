use Rattle.std.proofs.Common.{rules}
use Rattle.esc_calls.proofs.WrittenBack.{clear_is_utf8}
use Rattle.esc_calls.proofs.clear.is_clear_text.Goals as goal

pub returns-in-None : goal.returns-in-None
returns-in-None c =
    (λ h. absurd cc, λ h. search (rules, clear_is_utf8 c.args.bytes.now h, c.in-None.ensures))
