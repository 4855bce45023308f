use Rattle.esc_account.proofs.Entries.EntriesAddUp.{stream_adds, whole_adds}
use Rattle.esc_account.proofs.laws.entries_add_up.Goals as goal

pub returns-clause-whole : goal.returns-clause-whole
returns-clause-whole c = λ f r gs other. whole_adds f other r gs

pub returns-clause-lines : goal.returns-clause-lines
returns-clause-lines c = λ f r s t x es other run.
    stream_adds f other c.has_cut.ensures r s t x es run
