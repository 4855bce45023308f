use Rattle.std.proofs.Common.{◌∙◌, sym}
use Rattle.esc_decode.proofs.Blocks.{either_ascii}
use Rattle.esc_decode.proofs.ascii.either.Goals as goal

pub returns : goal.returns
returns c = either_ascii c.args.a c.args.b (c.fits-a.0 ∙ sym c.fits-b.0)
