use Rattle.std.proofs.Common.{◌∷◌, [], codes, inl, inr, true, refl, rules, take}
use Rattle.esc_filter.proofs.Renditions.ShortRenditionsMean.{after}
use Rattle.esc_account.proofs.rendition.short_rendition.Goals as goal

pub returns-in-Some : goal.returns-in-Some
returns-in-Some c =
    let x = c.in-Some.ensures.cases in
    let rest = c.in-Some.rest.now in
    let n = c.in_ok-last_number.field-0 in
    let is = after c.args.bytes.now (0x1b ∷ 0x5b ∷ codes "38;5;") rest 7 n x.0 x.1 in (
      search rules,
      (true, (take n rest, inr (inl is, refl, c.in_ok-last_number.ensures.1))),
    )

pub returns-in-Some-strip_prefix : goal.returns-in-Some-strip_prefix
returns-in-Some-strip_prefix c =
    let x = c.in-Some-strip_prefix.ensures.cases in
    let rest = c.in-Some-strip_prefix.rest.now in
    let n = c.in_ok-last_number-2.field-0 in
    let is = after c.args.bytes.now (0x1b ∷ 0x5b ∷ codes "48;5;") rest 7 n x.0 x.1 in (
      search rules,
      (true, (take n rest, inr (inr is, refl, c.in_ok-last_number-2.ensures.1))),
    )

pub returns : goal.returns
returns c =
    let x = c.in_ok-strip_prefix.ensures.cases in
    let rest = c.in_ok-strip_prefix.field-0.now in
    let n = c.in_ok-number.number in
    let k = c.in_ok-number.ensures.1 in
    let is = after c.args.bytes.now (0x1b ∷ 0x5b ∷ []) rest 2 n x.0 x.1 in (
      search rules,
      (k.0, (take n rest, inl (is, k.1))),
    )
