use Rattle.page_input.proofs.Linked.{address_is_long}
use Rattle.page_input.proofs.linker.push_linked.Goals as goal

pub push_first-requires-clause-long : goal.push_first-requires-clause-long
push_first-requires-clause-long c =
    address_is_long c.loop-place.last c.loop-place.rest.now c.in-Some.place c.in-Some.ensures
