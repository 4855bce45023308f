use Rattle.std.proofs.Common.{◌++◌, ◌∷◌, [], take, map, ap, sym, ◌∙◌}
use Rattle.esc_values.specs.declared.csi_param.CsiParam.TheVariants.{P}
use Rattle.esc_frame.specs.Sequences.{is_from}
use Rattle.esc_frame.proofs.ByteRuns.ShortBodies.{mark_prefix}
use Rattle.esc_frame.proofs.unfinished.fields.put_mark.Goals as goal

pub returns-then-b-eq59-clause-mark : goal.returns-then-b-eq59-clause-mark
returns-then-b-eq59-clause-mark g c = λ _ x k.
    let e = c.if-b-eq59.true in
    mark_prefix _ _ x c.args.b (ap (is_from 0x3a 0x3b) e)
    (c.put_byte.ensures ∙ ap (λ y.
    map g.E.Param.param (take c.args.count c.args.csi_params.now) ++ P y ∷ [])
    (sym e)) k

pub returns-then-b-eq58-clause-mark : goal.returns-then-b-eq58-clause-mark
returns-then-b-eq58-clause-mark g c = λ _ x k.
    let e = c.if-b-eq58.true in
    mark_prefix _ _ x c.args.b (ap (is_from 0x3a 0x3b) e)
    (c.put_byte-then-b-eq58.ensures ∙ ap (λ y.
    map g.E.Param.param (take c.args.count c.args.csi_params.now)
    ++ P y ∷ []) (sym e)) k
