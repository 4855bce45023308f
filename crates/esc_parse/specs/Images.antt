-- Images, of kitty's protocol and sixel.
use Rattle.std.specs.Prelude.{Bool, true, false}
use Rattle.esc_actions.specs.Values.{Value, kitty, sixel}

abbrev pub is_image : {A : Type 0} → Value A → Bool
is_image (kitty i) = true
is_image (sixel s) = true
is_image _ = false
