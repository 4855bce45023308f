-- Actions are equal exactly if their values are.
use Rattle.std.specs.Prelude.{◌≡◌, ◌↔◌, nat_eq, Bool, true, false, IsTrue}
use Rattle.std.specs.Cmp.Lexicographic.{pointwise}
use Rattle.std.specs.declared.alloc.Allocator.{Ghosts}
use denote.RattleType.{RattleType}
use mir.Syntax.{Dict}
use Rattle.std.proofs.Common.{rules, ap, refl}
use Rattle.esc_sequences.specs.Csis.{csi_value}
use Rattle.esc_sequences.specs.contracts.esc.EscPartialEq.TheImpl as esc_eq
use Rattle.esc_actions.specs.Values.{Value, device_value, value_of}
use Rattle.esc_actions.specs.Values.Value.{print, string, control, esc, csi, osc, kitty, sixel, termcap, short, enter, datum, exit}
use Rattle.esc_actions.specs.contracts.action.ActionPartialEq.TheImpl as action_eq
use Rattle.esc_device.specs.declared.mode.DeviceControlMode.{DeviceControlMode}
use Rattle.esc_device.specs.declared.mode.DeviceControlMode.TheVariants as device
use Rattle.esc_actions.specs.declared.action.Action.{Action}
use Rattle.esc_actions.specs.declared.action.Action.TheVariants as action
use Rattle.esc_equality.proofs.CommandsSame.{commands}
use Rattle.esc_equality.proofs.CsisSame.{codes, csis}
use Rattle.esc_equality.proofs.DeviceSame.{devices}
use Rattle.esc_equality.proofs.KittySame.{images}
use Rattle.esc_equality.proofs.Same.{IsSame, lists, never, numbers, texts}
use Rattle.esc_equality.proofs.SixelSame.{sixels}

names : IsSame (pointwise (pointwise nat_eq))
names = lists (pointwise nat_eq) texts

escs : IsSame esc_eq.ghosts.eq
escs a b = search rules

-- a short control or a step of a mode is no other value
abbrev is_device : {A : Type 0} → Value A → Bool
is_device (short s) = true
is_device (enter h) = true
is_device (datum b) = true
is_device exit = true
is_device v = false

one_is : {A : Type 0} (m : DeviceControlMode A) → is_device (device_value m) ≡ true
one_is (device.Enter h) = refl
one_is m = refl

pub actions : (T : RattleType) (G : Ghosts T.Denot) (x y : Dict) (a b : Action T.Denot)
    → IsTrue ((action_eq.ghosts T G x y).eq a b) ↔ (value_of a ≡ value_of b)
actions T G x y (action.Print c) (action.Print d) =
    (λ h. ap print ((numbers c d).0 h), λ e. let q : c ≡ d = cc in (numbers c d).1 q)
actions T G x y (action.PrintString s) (action.PrintString t) =
    (λ h. ap string ((texts s t).0 h), λ e. let q : s ≡ t = cc in (texts s t).1 q)
actions T G x y (action.Control c) (action.Control d) =
    (λ h. ap control ((codes c d).0 h), λ e. let q : c ≡ d = cc in (codes c d).1 q)
actions T G x y (action.Esc s) (action.Esc t) =
    (λ h. ap esc ((escs s t).0 h), λ e. let q : s ≡ t = cc in (escs s t).1 q)
actions T G x y (action.CSI c) (action.CSI d) = (
  λ h. ap csi ((csis T G x y c d).0 h),
  λ e.
      let q : csi_value c ≡ csi_value d = cc in (csis T G x y c d).1 q,
)
actions T G x y (action.OperatingSystemCommand c) (action.OperatingSystemCommand d) = (
  λ h. ap osc ((commands T G x y c d).0 h),
  λ e. let q : c ≡ d = cc in (commands T G x y c d).1 q,
)
actions T G x y (action.KittyImage i) (action.KittyImage j) =
    (λ h. ap kitty ((images T G x y i j).0 h), λ e. let q : i ≡ j = cc in (images T G x y i j).1 q)
actions T G x y (action.Sixel s) (action.Sixel t) =
    (λ h. ap sixel ((sixels T G x y s t).0 h), λ e. let q : s ≡ t = cc in (sixels T G x y s t).1 q)
actions T G x y (action.XtGetTcap ms) (action.XtGetTcap ns) = (
  λ h. ap termcap ((names ms ns).0 h),
  λ e. let q : ms ≡ ns = cc in (names ms ns).1 q,
)
actions T G x y (action.DeviceControl c) (action.DeviceControl d) = devices T G x y c d
actions T G x y (action.DeviceControl c) b =
    (λ h. never h, λ e. let q = ap is_device e in let k = one_is c in absurd cc)
actions T G x y a (action.DeviceControl d) =
    (λ h. never h, λ e. let q = ap is_device e in let k = one_is d in absurd cc)
actions T G x y a b = (λ h. never h, λ e. absurd cc)
