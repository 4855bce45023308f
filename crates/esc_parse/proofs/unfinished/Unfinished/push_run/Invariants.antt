use Rattle.std.proofs.Common.{drop}
use Rattle.std.specs.List.{FoldsTo}
use Rattle.esc_parse.specs.Fed.{TakesData}
use Rattle.esc_parse.proofs.unfinished.Unfinished.push_run.Given as goal

-- each byte so far is taken
abbrev pub invariant-loop-byte : goal.invariant-loop-byte
invariant-loop-byte g l =
    (q : _) → FoldsTo TakesData l.self (drop l.byte-index l.bytes) q
    → FoldsTo TakesData l.initial.self l.bytes q
