use Rattle.std.proofs.Math.Utf8.{encode}
use Rattle.esc_kitty.proofs.write_transmit.write_frame.Goals as goal

pub returns : goal.returns
unfolding encode
returns g c plain ok =
    rw (
      ← c.offset.ensures,
      ← c.size.ensures,
      ← c.word.ensures,
      ← c.word-2.ensures,
      ← c.flag_word.ensures,
      ← c.word-3.ensures,
      ← c.word-4.ensures,
      ← c.medium.ensures,
    ) (c.write_keys.ensures plain ok)
