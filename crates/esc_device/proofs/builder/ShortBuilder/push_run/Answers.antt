use Rattle.std.proofs.Common.{◌<◌, [], ◌∷◌, ◌++◌, get_or, length, take, append_assoc, ap, sym, ◌∙◌, subst, arith}
use Rattle.std.proofs.lemmas.List.{drop_more, take_more}
use Rattle.std.specs.List.{FoldsTo}
use Rattle.esc_device.specs.Leads.{LeadsShort, Pushes}
use Rattle.esc_device.proofs.builder.ShortBuilder.push_run.Goals as goal

pub loop-byte-preserved : goal.loop-byte-preserved
loop-byte-preserved g c =
    let at = c.loop-byte in
    let bytes = c.args.bytes.now in
    let lt : at.byte-index < length bytes = omega arith in
    record {
      taken = λ ps is f d h.
          subst (λ t. LeadsShort ps is f t c.push.new.self)
          (append_assoc d (take at.byte-index bytes) (get_or bytes at.byte-index 0 ∷ [])
          ∙ ap (λ t. d ++ t) (sym (take_more bytes at.byte-index 0 lt)))
          (c.in_ok-push.ensures.ok ps is f (d ++ take at.byte-index bytes)
          (at.invariant.taken ps is f d h));
      each = λ q k.
          at.invariant.each q
          (subst (λ bs. FoldsTo Pushes at.self bs q) (sym (drop_more bytes at.byte-index 0 lt))
          (c.push.new.self, c.in_ok-push.ensures.ok, k));
    }
