use Rattle.std.proofs.Common.{◌≡◌, ◌≤◌, ◌+◌, ◌++◌, IsUtf8, chars, length, map, vec_capacity, vec_len}
use Rattle.std.specs.Str.Iter.{chars_rest}
use Rattle.esc_actions.specs.Values.{print, value_of}
use Rattle.escape_stream.proofs.borrowed.push_text.Given as goal

abbrev pub invariant-loop-c : goal.invariant-loop-c
invariant-loop-c g l = record {
  room : vec_len l.actions + length (chars_rest l.c-iterator) ≤ vec_capacity l.actions;
  utf8 : IsUtf8 (chars_rest l.c-iterator);
  grown : map value_of l.actions.items ++ map print (chars (chars_rest l.c-iterator))
      ≡ map value_of l.initial.actions.items ++ map print (chars l.fn.text);
}
