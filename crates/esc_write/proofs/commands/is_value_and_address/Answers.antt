use Rattle.std.proofs.Common.{arith, true, false, take, drop, length, length-append, ap, sym, ◌+◌, ◌∙◌, ◌≡◌, ◌∷◌}
use Rattle.std.proofs.lemmas.Bool.Decides.{nat_tests}
use Rattle.std.specs.List.{list_any}
use Rattle.esc_links.specs.Hyperlinks.{is_colon}
use Rattle.esc_write.proofs.Verbatim.{address_end, id_link, name_end, name_taken, two_parts}
use Rattle.esc_write.proofs.commands.is_value_and_address.Goals as goal

pub returns-then-end-text-clause-seen : goal.returns-then-end-text-clause-seen
returns-then-end-text-clause-seen g c = λ (v, u, is, colon, one, other).
    let e = name_end c.args.text.now v u c.mark_from-end.result c.mark_from-end.ensures.at is one in
    absurd (grind (
      arith,
      nat_tests,
      e,
      c.if-end-text.true,
      ap length is,
      length-append v (0x3b ∷ u),
    ))

pub returns-then-contains-clause-seen : goal.returns-then-contains-clause-seen
returns-then-contains-clause-seen g c = λ (v, u, is, colon, one, other).
    let e = name_end c.args.text.now v u c.mark_from-end.result c.mark_from-end.ensures.at is one in
    let same = name_taken c.args.text.now v u c.mark_from-end.result e is in
    let no : true ≡ false =
    sym c.if-contains.true ∙ c.contains.ensures.value ∙ ap (list_any is_colon) same ∙ colon in
    absurd cc

pub returns-clause-link : goal.returns-clause-link
returns-clause-link g c = λ t u.
    let text = c.args.text.now in
    let end = c.mark_from-end.result in
    id_link _ text (take end text) (drop (end + 1) text)
    (two_parts text end c.mark_from.result c.mark_from-end.ensures.at
    (grind (arith, nat_tests, c.mark_from-end.ensures.few, c.if-end-text.false))
    c.mark_from.ensures.at
    (grind (arith, nat_tests, t)))
    (sym c.contains.ensures.value ∙ c.if-contains.false) u

pub returns-clause-seen : goal.returns-clause-seen
returns-clause-seen g c = λ (v, u, is, colon, one, other).
    let e = name_end c.args.text.now v u c.mark_from-end.result c.mark_from-end.ensures.at is one in
    grind (
      arith,
      nat_tests,
      address_end c.args.text.now v u c.mark_from-end.result c.mark_from.result e
          c.mark_from.ensures.at is other,
    )
