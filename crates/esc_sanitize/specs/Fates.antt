-- The fates of bytes, if bytes that are not in the output may be shown.
use Rattle.std.specs.Prelude.{ℕ, ◌-◌, nat_le, nat_lt, ◌&&◌, Bool, true, false, if◌then◌else◌, List, get_or, length, Option, None, Some, is_some}
use Rattle.esc_account.specs.declared.fate.Fate.{Fate}
use Rattle.esc_account.specs.declared.fate.Fate.TheVariants as fates
use Rattle.esc_account.specs.declared.verdict.Verdict.{Verdict}
use Rattle.caret_notation.specs.declared.marking.Marking.{Marking}
use Rattle.caret_notation.specs.declared.marking.Marking.TheVariants as markings

abbrev pub shown_by : Bool → Fate → Fate
shown_by false f = f
shown_by true fates.LeftOut = fates.Shown
shown_by true fates.Swallowed = fates.Shown
shown_by true fates.Replaced = fates.Shown
shown_by true f = f

-- it is
abbrev pub is_seen : Bool → Fate → Bool
is_seen true fates.LeftOut = true
is_seen true fates.Swallowed = true
is_seen true fates.Replaced = true
is_seen _ f = false

-- The last byte, where it is shown as itself: one that is no character of ASCII that shows is shown
-- by others, to which no character belongs.
abbrev pub as_itself : ℕ → Option ℕ
as_itself b = if nat_le 0x20 b && nat_lt b 0x7f then Some b else None

abbrev pub last_shown : List ℕ → Option ℕ
last_shown s = as_itself (get_or s (length s - 1) 0)

-- the character that comes before what is written next, after these bytes are shown: none after
-- reverse video, which a sequence ends
abbrev pub before_shown : Option Marking → List ℕ → Option ℕ
before_shown None s = None
before_shown (Some markings.Plain) s = last_shown s
before_shown (Some markings.Escaped) s = last_shown s
before_shown (Some markings.Reversed) s = None

-- the verdict then on a segment of these bytes
abbrev pub shown_as : Option Marking → List ℕ → Verdict → Verdict
shown_as show bytes v = record {
  fate = shown_by (is_some show) v.fate;
  before = if is_seen (is_some show) v.fate then before_shown show bytes else v.before;
}
