-- The fates of the bytes of a stream.
use Rattle.std.specs.Prelude.{◌≡◌}
use Rattle.esc_account.specs.declared.sums.Sums.{Sums}

-- all bytes are in the output, as they came or in another spelling
abbrev pub IsComplete : Sums → Type 0
IsComplete x = (x.shown ≡ 0) × (x.replaced ≡ 0) × (x.left_out ≡ 0) × (x.swallowed ≡ 0)
    × (x.overwritten ≡ 0)
