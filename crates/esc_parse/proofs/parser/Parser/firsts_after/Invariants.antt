use Rattle.std.proofs.Common.{Option, ◌≡◌, ◌≤◌, ◌-◌, ◌++◌, ℕ, List, length, take}
use Rattle.esc_parse.proofs.parser.Parser.firsts_after.Given as goal
use Rattle.esc_parse.specs.Collected.{Adds}
use Rattle.esc_parse.specs.Fed.{IsBroken, ParserHasConsumedWithin}
use Rattle.esc_parse.specs.Firsts.{IsStop}
use Rattle.esc_actions.specs.Meaning.{yield_within}

abbrev pub invariant-prefixes : goal.invariant-prefixes
invariant-prefixes g l = record {
  within : l.at ≤ length l.bytes;
  fresh : l.at ≡ 0 → l.actions.items ≡ l.initial.actions.items;
  broken : IsBroken l.initial.self
      → IsBroken l.self × (l.actions.items ≡ l.initial.actions.items);
  fed : (limit : Option ℕ) (s : List ℕ) → ParserHasConsumedWithin limit s l.initial.self
      → ParserHasConsumedWithin limit (s ++ take l.at l.bytes) l.self
      × Adds l.initial.actions.items (yield_within limit s (take l.at l.bytes)) l.actions.items
      × ((k : ℕ) → k ≤ l.at → IsStop g.row.A.Denot limit s (take k l.bytes) → ⊥);
}

abbrev pub decreases-prefixes : goal.decreases-prefixes
decreases-prefixes g l = length l.bytes - l.at
