use Rattle.std.proofs.Common.{◌≡◌, ◌+◌, ◌<◌, length, take, is_some, None, sym, ap, ◌∙◌, arith}
use Rattle.std.specs.List.{slice_split}
use Rattle.std.proofs.lemmas.List.{length-drop}
use Rattle.esc_sequences.specs.Csis.{is_separator, rendition, renditions}
use Rattle.esc_sequences.proofs.Renditions.{no_rendition, rest_decides}
use Rattle.esc_sequences.proofs.csi.are_renditions.Goals as goal

pub returns-in_default : goal.returns-in_default
returns-in_default c =
    let e : rendition (take c.item_len-len.result c.items.left.now) ≡ None =
    sym c.from_item.ensures ∙ c.in_default.is in
    let n : renditions (slice_split is_separator c.items.left.now) ≡ None =
    no_rendition c.items.left.now c.item_len-len.result c.item_len-len.ensures.first e in
    sym (c.items.invariant.1 ∙ ap is_some n)

pub items-preserved : goal.items-preserved
items-preserved c =
    let below : c.item_len-len.result < length c.items.left.now = omega arith in
    let turn = rest_decides c.items.left.now c.item_len-len.result _ c.item_len-len.ensures.first
    below (sym c.from_item.ensures ∙ c.in-Some.is) in
    let later = c.after_item-left.ensures in (
      omega (arith, ap length later, length-drop (c.item_len-len.result + 1) c.items.left.now),
      c.items.invariant.1 ∙ turn
          ∙ ap (λ xs. is_some (renditions (slice_split is_separator xs))) (sym later),
    )
