use Rattle.std.proofs.Math.Utf8.{encode}
use Rattle.esc_kitty.proofs.write_shown.write_display.Goals as goal

pub returns : goal.returns
unfolding encode
returns g c plain ok = rw (
  ← c.flag_word.ensures,
  ← c.flag_word-2.ensures,
  ← c.word.ensures,
) (c.write_keys.ensures plain ok)
