-- The account of a line, whose end is apart from its segments.
use Rattle.std.specs.Prelude.{ℕ, Bool, false, ◌==◌, ◌&&◌, if◌then◌else◌, List, [], ◌∷◌, length, drop, ◌-◌}
use Rattle.esc_frame.specs.Segments.{Segment as Shape, is_finished, joined_bytes}
use Rattle.esc_account.specs.Accounts.{Rule, all_passed, step}
use Rattle.esc_account.specs.Entries.{Entry, entry_of}
use Rattle.esc_account.specs.declared.account.Account.{Account}

-- a carriage return and a line feed, and no more
abbrev pub is_return_feed : List ℕ → Bool
is_return_feed (a ∷ b ∷ []) = (a == 0x0d) && (b == 0x0a)
is_return_feed _ = false

-- bytes that end so
abbrev pub ends_so : List ℕ → Bool
ends_so s = is_return_feed (drop (length s - 2) s)

-- After the segments of a line, one after another. If `ends`, a carriage return and a line feed end
-- what was written of it: once these alone are left of the line they passed.
abbrev pub run_line : Bool → Rule → Account → List Shape → Account
run_line ends r x [] = x
run_line ends r x (g ∷ gs) =
    if ends && is_return_feed (joined_bytes (g ∷ gs)) then all_passed (joined_bytes (g ∷ gs)) x
    else run_line ends r (step r x g (is_finished g (joined_bytes gs))) gs

-- the entries of those that are not its end
abbrev pub line_entries : Bool → Rule → Account → List Shape → List Entry
line_entries ends r x [] = []
line_entries ends r x (g ∷ gs) =
    if ends && is_return_feed (joined_bytes (g ∷ gs)) then []
    else entry_of r x g (is_finished g (joined_bytes gs))
    ∷ line_entries ends r (step r x g (is_finished g (joined_bytes gs))) gs
