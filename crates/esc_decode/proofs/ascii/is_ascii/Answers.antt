use Rattle.simdutf8.proofs.Lanes.{ascii_of_mask}
use Rattle.esc_decode.proofs.ascii.is_ascii.Goals as goal

pub returns : goal.returns
returns c = ascii_of_mask c.args.lanes c.fits-lanes.0
