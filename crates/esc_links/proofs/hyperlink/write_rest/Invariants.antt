use Rattle.std.proofs.Common.{ℕ, ◌≡◌, ◌∷◌, ◌++◌, List, length}
use Rattle.std.specs.Fmt.{IsPlainFormatter, HasWritten}
use Rattle.std.specs.List.{flat_map}
use Rattle.esc_values.specs.Cuts.{pair_text}
use Rattle.esc_links.proofs.hyperlink.write_rest.Given as goal

-- some text was written, and it and the rest are the whole
abbrev pub invariant-loop-key : goal.invariant-loop-key
invariant-loop-key g l = IsPlainFormatter l.initial.f
    → (done : List ℕ) × HasWritten g.W.Write.write_str_gives l.initial.f done l.f
    × (flat_map (λ e. 0x3a ∷ pair_text e) l.initial.pairs ≡ done ++ flat_map (λ e.
    0x3a ∷ pair_text e) l.pairs)

abbrev pub decreases-loop-key : goal.decreases-loop-key
decreases-loop-key g l = length l.pairs
