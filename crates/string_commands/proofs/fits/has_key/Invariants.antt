use Rattle.std.proofs.Common.{◌≡◌, drop, true}
use Rattle.string_commands.specs.Rows.{has_key}
use Rattle.string_commands.proofs.fits.has_key.Given as goal

-- the rest decides
abbrev pub invariant-loop-at : goal.invariant-loop-at
invariant-loop-at l = has_key true l.key l.text ≡ has_key l.here l.key (drop l.at l.text)
