use Rattle.std.proofs.Common.{ℕ, ℤ, List, ◌++◌, drop, take}
use Rattle.std.specs.List.{FoldsTo}
use Rattle.esc_device.specs.Leads.{LeadsShort, Pushes}
use Rattle.esc_device.proofs.builder.ShortBuilder.push_run.Given as goal

-- the bytes so far are taken, each by a push
abbrev pub invariant-loop-byte : goal.invariant-loop-byte
invariant-loop-byte g l = record {
  taken : (ps : List ℤ) (is : List ℕ) (f : ℕ) (d : List ℕ) → LeadsShort ps is f d l.initial.self
      → LeadsShort ps is f (d ++ take l.byte-index l.bytes) l.self;
  each : (q : _) → FoldsTo Pushes l.self (drop l.byte-index l.bytes) q
      → FoldsTo Pushes l.initial.self l.bytes q;
}
