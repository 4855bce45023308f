use Rattle.std.proofs.Common.{◌≡◌, ◌++◌, IsUtf8, chars, encode_utf8_all, string_bytes}
use Rattle.std.specs.List.{flat_map}
use Rattle.std.specs.Str.Iter.{chars_rest}
use Rattle.asciicast.specs.Recordings.{spelled_char}
use Rattle.asciicast.proofs.spelled.spelled.Given as goal

-- the text that was written, and the spelling of the characters that are left
abbrev pub invariant-loop-c : goal.invariant-loop-c
invariant-loop-c g l =
    IsUtf8 (chars_rest l.c-iterator)
    × (string_bytes l.text
    ++ encode_utf8_all (flat_map spelled_char (chars (chars_rest l.c-iterator)))
    ≡ encode_utf8_all (flat_map spelled_char (chars l.fn.line)))
