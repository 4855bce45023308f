use Rattle.std.proofs.Common.{◌≡◌, IsUtf8, chars}
use Rattle.std.specs.List.{list_all}
use Rattle.std.specs.Str.Iter.{chars_rest}
use Rattle.asciicast.specs.Recordings.{is_shown}
use Rattle.asciicast.proofs.spelled.is_shown_line.Given as goal

abbrev pub invariant-loop-c : goal.invariant-loop-c
invariant-loop-c l =
    IsUtf8 (chars_rest l.c-iterator)
    × (list_all is_shown (chars (chars_rest l.c-iterator)) ≡ list_all is_shown (chars l.fn.line))
