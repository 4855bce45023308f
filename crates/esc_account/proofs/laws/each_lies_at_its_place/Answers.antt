use Rattle.std.proofs.Common.{[], refl}
use Rattle.esc_account.proofs.Counts.EntriesLieAtPlaces.{all_lie}
use Rattle.esc_account.specs.Accounts.{begun}
use Rattle.esc_account.proofs.laws.each_lies_at_its_place.Goals as goal

pub returns : goal.returns
returns c r gs = all_lie r begun [] gs refl refl
