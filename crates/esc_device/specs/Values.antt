-- The values of headers and data.
use Rattle.std.specs.Prelude.{ℕ, ℤ, Bool, List}
use Rattle.esc_device.specs.declared.enter.EnterDeviceControlMode.{EnterDeviceControlMode}
use Rattle.esc_device.specs.declared.short.ShortDeviceControl.{ShortDeviceControl}

-- the mode that a header enters: of its final byte, its parameters, its intermediates, and whether
-- more of these were left out
abbrev pub enter_of : {A : Type 0} → ℕ → List ℤ → List ℕ → Bool → EnterDeviceControlMode A
enter_of f ps is more =
    record { byte = f; params = ps; intermediates = is; ignored_extra_intermediates = more }

-- the short control of parameters, intermediates, a final byte and data
abbrev pub short_of : {A : Type 0} → List ℤ → List ℕ → ℕ → List ℕ → ShortDeviceControl A
short_of ps is f d = record { params = ps; intermediates = is; byte = f; content = d }
