use Rattle.std.proofs.Common.{sym, ap, ◌∙◌, arith}
use Rattle.std.specs.Result.{result_ok}
use Rattle.esc_values.proofs.Codecs.EnginesDecodeAlike.{decode_agree}
use Rattle.esc_values.proofs.base64_text.read_base64.Goals as goal

pub returns-in-Ok-clause-ok : goal.returns-in-Ok-clause-ok
returns-in-Ok-clause-ok g c =
    let same = decode_agree c.engine.result c.args.text.now c.engine.ensures (λ i.
    let f = c.type_inv.text i in omega arith) in
    sym (ap result_ok (sym same ∙ c.in-Ok.ensures.ok))

pub returns-in-Err-DecodeError-clause-ok : goal.returns-in-Err-DecodeError-clause-ok
returns-in-Err-DecodeError-clause-ok g c =
    let same = decode_agree c.engine.result c.args.text.now c.engine.ensures (λ i.
    let f = c.type_inv.text i in omega arith) in
    sym (ap result_ok (sym same
    ∙ (rw c.in-Err-DecodeError.field-0-is at c.in-Err-DecodeError.ensures.err)))
