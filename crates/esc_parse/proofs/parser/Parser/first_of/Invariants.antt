use Rattle.std.proofs.Common.{Option, ◌≡◌, ◌≤◌, ◌-◌, ◌++◌, ℕ, List, [], length, take}
use Rattle.esc_parse.proofs.parser.Parser.first_of.Given as goal
use Rattle.esc_parse.specs.Fed.{IsBroken, ParserHasConsumedWithin}
use Rattle.esc_actions.specs.Meaning.{yield_within}

abbrev pub invariant-prefixes : goal.invariant-prefixes
invariant-prefixes g l = record {
  within : l.at ≤ length l.bytes;
  broken : IsBroken l.initial.self → IsBroken l.self;
  fed : (limit : Option ℕ) (s : List ℕ) → ParserHasConsumedWithin limit s l.initial.self
      → ParserHasConsumedWithin limit (s ++ take l.at l.bytes) l.self
      × (yield_within {A = g.row.A.Denot} limit s (take l.at l.bytes) ≡ []);
}

abbrev pub decreases-prefixes : goal.decreases-prefixes
decreases-prefixes g l = length l.bytes - l.at
