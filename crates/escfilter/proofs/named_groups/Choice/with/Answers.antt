use Rattle.std.proofs.Common.{arith, rules, ◌≡◌, ◌+◌, ◌/◌, ◌%◌, ◌^◌, ◌<◌, ◌==◌, if◌then◌else◌, true, false, ap, eq-eqb, get_or, length, refl, set, suc, sym, ◌∙◌}
use Rattle.std.proofs.Math.Nat.{div-div-eq-div-mul, pow-suc}
use Rattle.std.proofs.lemmas.Bool.{ne_eqb}
use Rattle.esc_filter.specs.Groups.{has, place}
use Rattle.escfilter.specs.Choices.{has_word, is_named}
use Rattle.escfilter.proofs.Chosen.{chosen_all, chosen_kept, chosen_set, group_place}
use Rattle.escfilter.proofs.named_groups.Choice.with.Goals.{then-rest-eq1, else-rest-eq1}
use Rattle.escfilter.proofs.named_groups.Choice.with.Goals as goal

pub loop-group-preserved : goal.loop-group-preserved
loop-group-preserved c =
    let held = c.loop-group.invariant in
    let i = c.loop-group.group-index in
    let n = c.args.words in
    let old = c.loop-group.groups.allowed in
    let first = c.all_groups-groups.result.allowed in
    let next : i + 1 ≡ suc i = omega arith in
    let left : c.loop-group.rest / 2 ≡ n / 2 ^ (i + 1) =
    ap (λ z. z / 2) held.0 ∙ div-div-eq-div-mul n (2 ^ i) 2
    ∙ ap (λ z. n / z) (sym (ap (λ k. 2 ^ k) next ∙ pow-suc 2 i)) in
    elim c.if-rest-eq1.branch [
      | then-rest-eq1 w ↦
          let is : has_word i n ≡ true =
          ap (λ z. z % 2 == 1) (sym held.0) ∙ eq-eqb _ 1 w.if-rest-eq1.true in
          let same = w.groups-is ∙ w.changed-groups.ensures in
          let room : i + 1 < length old = search rules in (
            left,
            λ p. ap (λ g. get_or g.allowed p false) same
                ∙ ap (λ k. get_or (set old k c.args.passes) p false)
                (group_place i _ c.loop-group-test.true)
                ∙ chosen_set i n c.args.passes old first is room held.1 p,
            ap (λ g. g.schemes) same ∙ held.2,
          )
      | else-rest-eq1 w ↦
          let is : has_word i n ≡ false =
          ap (λ z. z % 2 == 1) (sym held.0) ∙ ne_eqb _ 1 w.if-rest-eq1.false in (
            left,
            λ p. ap (λ g. get_or g.allowed p false) w.groups-is
                ∙ chosen_kept i n c.args.passes old first is held.1 p,
            ap (λ g. g.schemes) w.groups-is ∙ held.2,
          )
    ]

pub returns : goal.returns
returns c =
    let held = c.loop-group.invariant in
    let all = c.all_groups-groups.ensures in
    let i = c.loop-group.group-index in
    let end : i + 1 ≡ 16 = search rules in
    record {
      groups = λ g. held.1 (place g)
          ∙ chosen_all i c.args.words c.args.passes _ g end
          ∙ ap (λ z. if is_named g c.args.words then c.args.passes else has z g) all;
      schemes = held.2 ∙ ap (λ z. z.schemes) all;
      policy = refl;
    }
