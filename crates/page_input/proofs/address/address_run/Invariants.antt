use Rattle.std.proofs.Common.{◌≡◌, ◌≤◌, ◌-◌, length, take, true}
use Rattle.std.specs.List.{list_all}
use Rattle.page_input.specs.Addresses.{is_address_byte}
use Rattle.page_input.proofs.address.address_run.Given as goal

abbrev pub invariant-loop-n : goal.invariant-loop-n
invariant-loop-n l =
    (l.n ≤ length l.text) × (list_all is_address_byte (take l.n l.text) ≡ true)

abbrev pub decreases-loop-n : goal.decreases-loop-n
decreases-loop-n l = length l.text - l.n
