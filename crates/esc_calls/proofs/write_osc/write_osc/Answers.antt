use Rattle.esc_calls.proofs.Outputs.{writes_text}
use Rattle.esc_calls.proofs.write_osc.write_osc.Goals as goal

pub returns : goal.returns
returns c =
    writes_text c.written.result _ _ c.put_text.result _ _ c.written.ensures.text
    c.written.ensures.refused c.put_text.ensures.written c.put_text.ensures.refused
