use Rattle.esc_account.proofs.Entries.BlocksJoin.{blocks}
use Rattle.esc_account.proofs.laws.blocks_go_on.Goals as goal

pub returns : goal.returns
returns c = blocks c.has_cut.ensures c.one_cut.ensures
