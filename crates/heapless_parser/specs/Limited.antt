-- Events that a limit takes from a stream.
use Rattle.std.specs.Prelude.{ℕ, ◌<◌, List, length, Some, None}
use Rattle.esc_frame.specs.Leads.{Unfinished}
use Rattle.esc_frame.specs.Machine.Moves.{events_all}
use Rattle.esc_frame.specs.Stream.{added_within}

-- After this unfinished segment the bytes emit fewer events than without the limit.
abbrev pub IsLimited : ℕ → Unfinished → List ℕ → Type 0
IsLimited limit u x = length (events_all (Some limit) u x) < length (events_all None u x)

-- After this stream the bytes add fewer events than without the limit: a string that ends in them
-- is longer than it.
abbrev pub AddsFewer : ℕ → List ℕ → List ℕ → Type 0
AddsFewer limit s x = length (added_within (Some limit) s x) < length (added_within None s x)
