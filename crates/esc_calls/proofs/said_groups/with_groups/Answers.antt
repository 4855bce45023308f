use Rattle.std.proofs.Common.{arith, rules, ◌≡◌, ◌+◌, ◌/◌, ◌%◌, ◌^◌, ◌<◌, ◌==◌, true, false, ap, eq-eqb, get_or, length, set, suc, sym, ◌∙◌}
use Rattle.std.proofs.Math.Nat.{div-div-eq-div-mul, pow-suc}
use Rattle.std.proofs.lemmas.Bool.{ne_eqb}
use Rattle.esc_filter.specs.Groups.{place}
use Rattle.esc_calls.specs.SanitizerGroups.{has_bit}
use Rattle.esc_calls.proofs.Bits.{chosen_all, chosen_kept, chosen_set, group_place}
use Rattle.esc_calls.proofs.said_groups.with_groups.Goals.{then-rest-eq1, else-rest-eq1}
use Rattle.esc_calls.proofs.said_groups.with_groups.Goals as goal

pub loop-group-preserved : goal.loop-group-preserved
loop-group-preserved c =
    let held = c.loop-group.invariant in
    let i = c.loop-group.group-index in
    let n = c.args.bits in
    let old = c.loop-group.groups.allowed in
    let first = c.args.groups.allowed in
    let next : i + 1 ≡ suc i = omega arith in
    let left : c.loop-group.rest / 2 ≡ n / 2 ^ (i + 1) =
    ap (λ z. z / 2) held.0 ∙ div-div-eq-div-mul n (2 ^ i) 2
    ∙ ap (λ z. n / z) (sym (ap (λ k. 2 ^ k) next ∙ pow-suc 2 i)) in
    elim c.if-rest-eq1.branch [
      | then-rest-eq1 w ↦
          let is : has_bit i n ≡ true =
          ap (λ z. z % 2 == 1) (sym held.0) ∙ eq-eqb _ 1 w.if-rest-eq1.true in
          let same = w.groups-is ∙ w.with_group-groups.ensures in
          let room : i < length old = search rules in (
            left,
            λ p. ap (λ g. get_or g.allowed p false) same
                ∙ ap (λ k. get_or (set old k c.args.passes) p false)
                (group_place i _ c.loop-group-test.true)
                ∙ chosen_set i n c.args.passes old first is room held.1 p,
            ap (λ g. g.schemes) same ∙ held.2,
          )
      | else-rest-eq1 w ↦
          let is : has_bit i n ≡ false =
          ap (λ z. z % 2 == 1) (sym held.0) ∙ ne_eqb _ 1 w.if-rest-eq1.false in (
            left,
            λ p. ap (λ g. get_or g.allowed p false) w.groups-is
                ∙ chosen_kept i n c.args.passes old first is held.1 p,
            ap (λ g. g.schemes) w.groups-is ∙ held.2,
          )
    ]

pub returns : goal.returns
returns c =
    let held = c.loop-group.invariant in
    let i = c.loop-group.group-index in
    let end : i ≡ 16 = search rules in
    record {
      groups = λ g. held.1 (place g) ∙ chosen_all i c.args.bits c.args.passes _ g end;
      schemes = held.2;
    }
