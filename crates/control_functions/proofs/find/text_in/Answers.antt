use Rattle.std.proofs.Common.{[], sym}
use Rattle.std.proofs.lemmas.List.{get_or-map}
use Rattle.control_functions.proofs.find.text_in.Goals as goal

pub returns : goal.returns
returns c = sym (get_or-map (λ t. t.now) c.args.texts.now c.args.index _ [] c.requires)
