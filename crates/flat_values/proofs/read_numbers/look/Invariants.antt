use Rattle.std.proofs.Common.{◌≡◌, drop}
use Rattle.flat_values.specs.FoundImages.{look}
use Rattle.flat_values.proofs.read_numbers.look.Given as goal

abbrev pub invariant-loop-field : goal.invariant-loop-field
invariant-loop-field l = look l.fields l.name ≡ look (drop l.field-index l.fields) l.name
