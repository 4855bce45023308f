use Rattle.std.proofs.Common.{take}
use Rattle.std.proofs.lemmas.Str.{IsUtf8-from_ascii}
use Rattle.screen_lines.proofs.Runs.{take_ascii}
use Rattle.screen_lines.proofs.run.Run.as_str.Goals as goal

pub from_utf8_unchecked-requires : goal.from_utf8_unchecked-requires
from_utf8_unchecked-requires c = IsUtf8-from_ascii (take c.self.inside.count c.self.inside.bytes)
    (take_ascii c.self.inside.count c.self.inside.bytes c.self.invariant.1)
