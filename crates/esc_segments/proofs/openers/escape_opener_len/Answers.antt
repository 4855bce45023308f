use Rattle.std.proofs.Common.{arith}
use Rattle.esc_segments.proofs.Beginnings.{noise_len}
use Rattle.esc_segments.proofs.openers.escape_opener_len.Goals as goal

pub returns-then-noise-bytes-clause-len : goal.returns-then-noise-bytes-clause-len
returns-then-noise-bytes-clause-len c = λ n body letter a s e.
    let l = noise_len c.args.bytes.now c.noise_run-noise.result c.noise_run-noise.ensures.run n body
    letter a s e in omega (arith, l.0)

pub returns-else-noise-bytes-clause-len : goal.returns-else-noise-bytes-clause-len
returns-else-noise-bytes-clause-len c = λ n body letter a s e.
    let l = noise_len c.args.bytes.now c.noise_run-noise.result c.noise_run-noise.ensures.run n body
    letter a s e in omega (arith, l.0, l.1)
