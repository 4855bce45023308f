use Rattle.std.proofs.Common.{◌∷◌, map}
use Rattle.esc_iterm.specs.Keys.{values}
use Rattle.esc_iterm.proofs.ReadSlices.{file_read, nothing_read}
use Rattle.esc_iterm.proofs.read_file.read_from.Goals as goal

pub returns-in-Some-clause-ok : goal.returns-in-Some-clause-ok
returns-in-Some-clause-ok g c =
    file_read _ (values c.in-Some.keys) c.in-Some.content.now
    (c.args.first.now ∷ map (λ p. p.now) c.args.rest.now) c.in-Some.ensures c.make_file.ensures.ok

pub returns-in-None-clause-ok : goal.returns-in-None-clause-ok
returns-in-None-clause-ok g c =
    nothing_read (c.args.first.now ∷ map (λ p. p.now) c.args.rest.now) c.in-None.ensures
