-- Coordinates that count from one, as parameters name them.
use Rattle.std.specs.Prelude.{ℕ, ◌^◌, ◌==◌, nat_lt, if◌then◌else◌, pos, Option, Some, None}
use Rattle.std.specs.Int.NonZero.{non_zero_u32_get}
use Rattle.esc_values.specs.declared.csi_param.CsiParam.{CsiParam}
use Rattle.esc_values.specs.declared.csi_param.CsiParam.TheVariants.{Integer, P}
use Rattle.esc_actions.specs.declared.one_based.OneBased.{OneBased}

-- the number of a coordinate; the first is 1
abbrev pub one_based : OneBased → ℕ
one_based o = non_zero_u32_get o.value

-- the coordinate that a number names: 0 names `default`, and a number of 32 bits itself
abbrev pub coordinate_at : ℕ → ℕ → Option ℕ
coordinate_at default n = if n == 0 then Some default else if nat_lt n (2 ^ 32) then Some n
    else None

-- the coordinate that a parameter names
abbrev pub coordinate : ℕ → CsiParam → Option ℕ
coordinate default (Integer (pos n)) = coordinate_at default n
coordinate default (Integer _) = None
coordinate default (P b) = None

-- and the one that none names: 1
abbrev pub optional_coordinate : Option CsiParam → Option ℕ
optional_coordinate None = Some 1
optional_coordinate (Some p) = coordinate 1 p
