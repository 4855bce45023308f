use Rattle.std.proofs.Common.{◌≡◌, IsUtf8, chars}
use Rattle.std.specs.List.{list_all}
use Rattle.std.specs.Str.Iter.{chars_rest}
use Rattle.esc_html.specs.Characters.{is_character}
use Rattle.esc_html.proofs.character.is_each_character.Given as goal

abbrev pub invariant-loop-c : goal.invariant-loop-c
invariant-loop-c l =
    IsUtf8 (chars_rest l.c-iterator)
    × (list_all is_character (chars (chars_rest l.c-iterator))
    ≡ list_all is_character (chars l.fn.text))
