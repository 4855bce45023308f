use Rattle.esc_iterm.proofs.LossyTexts.{text_lossy}
use Rattle.esc_iterm.proofs.read.read_lossy.Goals as goal

pub returns-in-Some-clause-ok : goal.returns-in-Some-clause-ok
returns-in-Some-clause-ok g c =
    rw (text_lossy c.in-Some.text.now c.args.first.now c.in-Some.ensures) c.read_form.ensures.ok
