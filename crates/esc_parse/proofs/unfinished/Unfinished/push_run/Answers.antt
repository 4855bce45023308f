use Rattle.std.proofs.Common.{◌<◌, length, sym, subst, arith}
use Rattle.std.proofs.lemmas.List.{drop_more}
use Rattle.std.specs.List.{FoldsTo}
use Rattle.esc_parse.specs.Fed.{TakesData}
use Rattle.esc_parse.proofs.unfinished.Unfinished.push_run.Goals as goal

pub loop-byte-preserved : goal.loop-byte-preserved
loop-byte-preserved g c = λ q k.
    let at = c.loop-byte in
    let lt : at.byte-index < length c.args.bytes.now = omega arith in
    at.invariant q
    (subst (λ bs. FoldsTo TakesData at.self bs q)
    (sym (drop_more c.args.bytes.now at.byte-index 0 lt))
    (c.push.new.self, (c.in_ok-push.ensures.mode, c.in_ok-push.ensures.hooks), k))
