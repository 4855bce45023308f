use Rattle.std.proofs.Common.{◌≡◌, IsUtf8, chars}
use Rattle.std.specs.List.{list_all}
use Rattle.std.specs.Str.Iter.{chars_rest}
use Rattle.esc_values.specs.Clear.{is_clear}
use Rattle.escape_stream.proofs.clear.are_clear.Given as goal

abbrev pub invariant-loop-c : goal.invariant-loop-c
invariant-loop-c l =
    IsUtf8 (chars_rest l.c-iterator)
    × (list_all is_clear (chars (chars_rest l.c-iterator)) ≡ list_all is_clear (chars l.fn.text))
