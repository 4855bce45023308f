use Rattle.std.proofs.Common.{◌≡◌, ◌++◌, map, take}
use Rattle.esc_filter.specs.Closing.{joined_lists}
use Rattle.esc_filter.proofs.giving_back.push_all.Given as goal

-- the parts so far were appended
abbrev pub invariant-loop-part : goal.invariant-loop-part
invariant-loop-part g l =
    l.text ≡ l.initial.text ++ joined_lists (map (λ s. s.now) (take l.part-index l.parts))
