use Rattle.esc_device.proofs.Headers.{headers_read_back}
use Rattle.esc_device.proofs.laws.headers_read_back.Goals as goal

pub returns : goal.returns
returns c = λ m ps is hm hp hi. headers_read_back m ps is hm hp hi
