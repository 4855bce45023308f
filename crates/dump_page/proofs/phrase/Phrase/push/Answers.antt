use Rattle.std.proofs.Common.{refl}
use Rattle.unicode_visibility.proofs.Ranges.{replacement_plain}
use Rattle.dump_page.proofs.phrase.Phrase.push.Goals as goal

pub push_word-requires-else-is_shown : goal.push_word-requires-else-is_shown
push_word-requires-else-is_shown c = rw replacement_plain refl
