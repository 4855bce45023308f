-- Equal short controls, headers of modes and steps of them are the same.
use Rattle.std.specs.Prelude.{◌≡◌, ◌↔◌, nat_eq, IsTrue}
use Rattle.std.specs.Ordering.{int_eq}
use Rattle.std.specs.declared.alloc.Allocator.{Ghosts}
use denote.RattleType.{RattleType}
use mir.Syntax.{Dict}
use Rattle.std.proofs.Common.{refl, ap}
use Rattle.esc_device.specs.contracts.enter.EnterDeviceControlModePartialEq.TheImpl as enter_eq
use Rattle.esc_device.specs.contracts.mode.DeviceControlModePartialEq.TheImpl as mode_eq
use Rattle.esc_device.specs.contracts.short.ShortDeviceControlPartialEq.TheImpl as short_eq
use Rattle.esc_device.specs.declared.mode.DeviceControlMode.{DeviceControlMode}
use Rattle.esc_device.specs.declared.mode.DeviceControlMode.TheVariants as device
use Rattle.esc_actions.specs.Values.{device_value}
use Rattle.esc_actions.specs.Values.Value.{short, enter, datum}
use Rattle.esc_equality.proofs.Same.{IsSame, bools, both, integers, lists, never, numbers, texts}

pub enters : (T : RattleType) (G : Ghosts T.Denot) (x y : Dict)
    → IsSame (enter_eq.ghosts T G x y).eq
enters T G x y a b =
    let parts = both (numbers a.byte b.byte) (both (lists int_eq integers a.params b.params)
    (both (texts a.intermediates b.intermediates)
    (bools a.ignored_extra_intermediates b.ignored_extra_intermediates))) in (
      λ h.
          let e = parts.0 h in
          λ i. record {
            byte = e.0 i;
            params = e.1.0 i;
            intermediates = e.1.1.0 i;
            ignored_extra_intermediates = e.1.1.1 i;
          },
      λ e. parts.1 (rw e (refl, (refl, (refl, refl)))),
    )

pub shorts : (T : RattleType) (G : Ghosts T.Denot) (x y : Dict)
    → IsSame (short_eq.ghosts T G x y).eq
shorts T G x y a b =
    let parts = both (lists int_eq integers a.params b.params)
    (both (texts a.intermediates b.intermediates)
    (both (numbers a.byte b.byte) (texts a.content b.content))) in (
      λ h.
          let e = parts.0 h in
          λ i. record {
            params = e.0 i;
            intermediates = e.1.0 i;
            byte = e.1.1.0 i;
            content = e.1.1.1 i;
          },
      λ e. parts.1 (rw e (refl, (refl, (refl, refl)))),
    )

-- the equality of the values, and not of their places
pub devices : (T : RattleType) (G : Ghosts T.Denot) (x y : Dict) (a b : DeviceControlMode T.Denot)
    → IsTrue ((mode_eq.ghosts T G x y).eq a b) ↔ (device_value a ≡ device_value b)
devices T G x y (device.Enter a) (device.Enter b) =
    (λ h. ap enter ((enters T G x y a b).0 h), λ e. let q : a ≡ b = cc in (enters T G x y a b).1 q)
devices T G x y device.Exit device.Exit = (λ h. refl, λ e. refl)
devices T G x y (device.Data a) (device.Data b) =
    (λ h. ap datum ((numbers a b).0 h), λ e. let q : a ≡ b = cc in (numbers a b).1 q)
devices T G x y (device.ShortDeviceControl a) (device.ShortDeviceControl b) = (
  λ h. ap short ((shorts T G x y a b).0 h),
  λ e. let q : a ≡ b = cc in (shorts T G x y a b).1 q,
)
devices T G x y a b = (λ h. never h, λ e. absurd cc)
