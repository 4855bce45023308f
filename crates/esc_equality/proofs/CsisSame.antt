-- Equal control codes and control sequences are the same.
use Rattle.std.specs.Prelude.{◌≡◌, ◌↔◌, ℕ, nat_eq, ◌&&◌, Bool, List, IsTrue}
use Rattle.std.specs.declared.alloc.Allocator.{Ghosts}
use denote.Enum.Bare.{same_true, true_same}
use denote.RattleType.{RattleType}
use mir.Syntax.{Dict}
use Rattle.std.proofs.Common.{rules, ap}
use Rattle.std.proofs.Math.Bool.{beq}
use Rattle.std.specs.Cmp.Lexicographic.{pointwise}
use Rattle.esc_sequences.specs.Csis.{csi_value}
use Rattle.esc_sequences.specs.Csis.CsiValue.{sgr, unspecified}
use Rattle.esc_sequences.specs.declared.csi.CSI.{CSI}
use Rattle.esc_values.specs.declared.csi_param.CsiParam.{CsiParam}
use Rattle.esc_values.specs.contracts.csi_param.CsiParamPartialEq.TheImpl as entry
use Rattle.esc_actions.specs.contracts.control_code.ControlCode.{the_type}
use Rattle.esc_actions.specs.contracts.control_code.ControlCodePartialEq.TheImpl as code_eq
use Rattle.esc_sequences.specs.declared.csi.CSI.TheVariants as csi
use Rattle.esc_sequences.specs.contracts.csi.CSIPartialEq.TheImpl as csi_eq
use Rattle.esc_sequences.specs.contracts.sgr.SgrPartialEq.TheImpl as sgr_eq
use Rattle.esc_equality.proofs.BelowSame.{param_lists}
use Rattle.esc_equality.proofs.Same.{IsSame, bools, both, never, numbers}

pub codes : IsSame code_eq.ghosts.eq
codes a b = (same_true the_type tt a b, true_same the_type a b)

pub sgrs : IsSame sgr_eq.ghosts.eq
sgrs a b = search rules

-- other control sequences, by their parameters, whether there are more, and their final bytes
others : (ps qs : List CsiParam) (s t : Bool) (m n : ℕ)
    → IsTrue (pointwise entry.ghosts.eq ps qs && (beq s t && nat_eq m n))
    ↔ (unspecified ps s m ≡ unspecified qs t n)
others ps qs s t m n =
    let parts = both (param_lists ps qs) (both (bools s t) (numbers m n)) in (
      λ h.
          let e = parts.0 h in
          let first = e.0 in
          let second = e.1.0 in
          let third = e.1.1 in
          cc,
      λ e.
          let first : ps ≡ qs = cc in
          let second : s ≡ t = cc in
          let third : m ≡ n = cc in
          parts.1 (first, (second, third)),
    )

pub csis : (T : RattleType) (G : Ghosts T.Denot) (x y : Dict) (a b : CSI T.Denot)
    → IsTrue ((csi_eq.ghosts T G x y).eq a b) ↔ (csi_value a ≡ csi_value b)
csis T G x y (csi.Sgr a) (csi.Sgr b) = (
  λ h. ap sgr ((sgrs a b).0 h),
  λ e. let q : a ≡ b = cc in
      (sgrs a b).1 q,
)
csis T G x y (csi.Sgr a) (csi.Unspecified b) = (λ h. never h, λ e. absurd cc)
csis T G x y (csi.Unspecified a) (csi.Sgr b) = (λ h. never h, λ e. absurd cc)
csis T G x y (csi.Unspecified a) (csi.Unspecified b) =
    others a.params b.params a.parameters_truncated b.parameters_truncated a.control b.control
