use Rattle.esc_account.proofs.Counts.TotalIsLength.{total_all}
use Rattle.esc_account.proofs.laws.each_byte_has_one_fate.Goals as goal

pub returns : goal.returns
returns c r gs = total_all r gs
