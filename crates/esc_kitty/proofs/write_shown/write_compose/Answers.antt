use Rattle.std.proofs.Math.Utf8.{encode}
use Rattle.esc_kitty.proofs.write_shown.write_compose.Goals as goal

pub returns : goal.returns
unfolding encode
returns g c plain ok = rw (← c.word.ensures, ← c.word-2.ensures) (c.write_keys.ensures plain ok)
