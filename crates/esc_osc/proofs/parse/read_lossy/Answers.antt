use Rattle.std.proofs.Common.{◌≡◌, sym, ◌∙◌}
use Rattle.std.specs.Str.Lossy.{utf8_lossy}
use Rattle.std.proofs.lemmas.Str.{utf8_lossy-IsUtf8}
use Rattle.esc_osc.proofs.parse.read_lossy.Goals as goal

pub returns-in-Ok-clause-ok : goal.returns-in-Ok-clause-ok
returns-in-Ok-clause-ok g c =
    let own : utf8_lossy c.args.first.now ≡ c.in-Ok.text.now =
    utf8_lossy-IsUtf8 c.args.first.now c.in-Ok.ensures.cases.1 ∙ sym c.in-Ok.ensures.cases.0 in
    rw own c.read_named.ensures.ok
