use Rattle.std.proofs.Common.{◌≡◌, drop}
use Rattle.command_line.specs.Given.{place_from}
use Rattle.command_line.proofs.reading.place_in.Given as goal

-- the rest decides
abbrev pub invariant-loop-word : goal.invariant-loop-word
invariant-loop-word l =
    (l.place ≡ l.word-index)
    × (place_from 0 l.words l.text ≡ place_from l.place (drop l.word-index l.words) l.text)
