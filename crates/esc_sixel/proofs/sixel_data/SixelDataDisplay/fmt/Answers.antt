use Rattle.std.proofs.Common.{arith}
use Rattle.esc_sixel.proofs.Writing.TextIsGathered.{zeros_ascii}
use Rattle.esc_sixel.proofs.sixel_data.SixelDataDisplay.fmt.Goals as goal

pub put-requires : goal.put-requires
put-requires g c = record { room = omega arith; ascii = zeros_ascii 128 }
