use Rattle.std.proofs.Common.{◌≡◌, IsUtf8, chars}
use Rattle.std.specs.Str.Iter.{chars_rest}
use Rattle.unicode_visibility.specs.Following.{has_stray}
use Rattle.unicode_visibility.proofs.following.is_some_stray.Given as goal

-- the rest has a stray one after the last character so far exactly if the whole text has one
abbrev pub invariant-loop-c : goal.invariant-loop-c
invariant-loop-c l =
    IsUtf8 (chars_rest l.c-iterator)
    × (has_stray l.last (chars (chars_rest l.c-iterator)) ≡ has_stray l.fn.before (chars l.fn.text))
