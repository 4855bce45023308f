use Rattle.std.proofs.Common.{◌≡◌, List, ℕ, ◌++◌}
use Rattle.std.specs.Fmt.{HasWritten, IsPlainFormatter}
use Rattle.std.specs.Str.{IsUtf8, chars}
use Rattle.std.specs.Str.Iter.{chars_rest}
use Rattle.command_line.specs.ShownWords.{shown_from, word_shown}
use Rattle.command_line.proofs.showing.ShownDisplay.fmt.Given as goal

-- the text so far, and the text of the characters that are left
abbrev pub invariant-loop-c : goal.invariant-loop-c
invariant-loop-c g l = (done : List ℕ)
    × (word_shown l.self.0.now ≡ done ++ shown_from l.is_byte (chars (chars_rest l.c-iterator)))
    × IsUtf8 (chars_rest l.c-iterator)
    × (IsPlainFormatter l.initial.f → HasWritten g.W.Write.write_str_gives l.initial.f done l.f)
