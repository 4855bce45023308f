use Rattle.std.proofs.Common.{◌≡◌, ◌+◌, ◌<◌, ◌++◌, ◌∷◌, [], map, length, take, Some, None, sym, ap, ◌∙◌, arith}
use Rattle.std.specs.List.{slice_split}
use Rattle.std.proofs.lemmas.List.{map-append, length-drop}
use Rattle.esc_sequences.specs.Csis.{csi_value, sgr, is_separator, rendition, renditions}
use Rattle.esc_sequences.proofs.Renditions.{after, last_one, no_rendition, one_more}
use Rattle.esc_sequences.proofs.csi.read_renditions.Goals as goal

pub returns-in_default-clause-ok : goal.returns-in_default-clause-ok
returns-in_default-clause-ok g c =
    let e : rendition (take c.item_len-len.result c.items.rest.now) ≡ None =
    sym c.from_item.ensures ∙ c.in_default.is in
    let n : renditions (slice_split is_separator c.items.rest.now) ≡ None =
    no_rendition c.items.rest.now c.item_len-len.result c.item_len-len.ensures.first e in
    sym (c.items.invariant.1 ∙ ap (after (map csi_value c.items.read.items)) n)

pub items-preserved : goal.items-preserved
items-preserved g c =
    let e : rendition (take c.item_len-len.result c.items.rest.now) ≡ Some c.in-Some.sgr =
    sym c.from_item.ensures ∙ c.in-Some.is in
    let below : c.item_len-len.result < length c.items.rest.now = omega arith in
    let made : map csi_value c.push.new.vec.items ≡ map csi_value c.items.read.items
    ++ sgr c.in-Some.sgr ∷ [] =
    ap (map csi_value) c.in_ok-push.ensures.items ∙ map-append csi_value c.items.read.items _ in
    let more =
    one_more c.items.rest.now c.item_len-len.result c.in-Some.sgr (map csi_value c.items.read.items)
    (renditions (slice_split is_separator c.args.params.now)) c.item_len-len.ensures.first below e
    c.items.invariant.1 in
    let turn : renditions (slice_split is_separator c.args.params.now)
    ≡ after (map csi_value c.push.new.vec.items)
    (renditions (slice_split is_separator c.after_item-rest.result.now)) =
    rw (made, c.after_item-rest.ensures) more in (
      omega (
        arith,
        ap length c.after_item-rest.ensures,
        length-drop (c.item_len-len.result + 1) c.items.rest.now,
      ),
      turn,
    )

pub returns-then-len-rest-clause-ok : goal.returns-then-len-rest-clause-ok
returns-then-len-rest-clause-ok g c =
    let e : rendition (take c.item_len-len.result c.items.rest.now) ≡ Some c.in-Some.sgr =
    sym c.from_item.ensures ∙ c.in-Some.is in
    let made : map csi_value c.push.new.vec.items ≡ map csi_value c.items.read.items
    ++ sgr c.in-Some.sgr ∷ [] =
    ap (map csi_value) c.in_ok-push.ensures.items ∙ map-append csi_value c.items.read.items _ in
    ap Some made
    ∙ sym (last_one c.items.rest.now c.item_len-len.result c.in-Some.sgr
    (map csi_value c.items.read.items)
    (renditions (slice_split is_separator c.args.params.now)) c.item_len-len.ensures.first
    (omega arith) e c.items.invariant.1)
