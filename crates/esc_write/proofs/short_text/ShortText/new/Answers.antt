use Rattle.std.proofs.Common.{lit≤}
use Rattle.esc_write.proofs.ShortTexts.{zeros_ascii}
use Rattle.esc_write.proofs.short_text.ShortText.new.Goals as goal

pub invariant_of-result : goal.invariant_of-result
invariant_of-result c = (lit≤ tt, zeros_ascii 128)
