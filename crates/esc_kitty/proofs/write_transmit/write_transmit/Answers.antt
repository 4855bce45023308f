use Rattle.std.proofs.Math.Utf8.{encode}
use Rattle.esc_kitty.proofs.write_transmit.write_transmit.Goals as goal

pub returns : goal.returns
unfolding encode
returns g c plain ok =
    rw (
      ← c.offset.ensures,
      ← c.size.ensures,
      ← c.word.ensures,
      ← c.flag_word.ensures,
      ← c.word-2.ensures,
      ← c.word-3.ensures,
      ← c.medium.ensures,
    ) (c.write_or_action.ensures plain ok)
