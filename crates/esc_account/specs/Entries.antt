-- The entries of an account: one for each segment, with its place.
use Rattle.std.specs.Prelude.{ℕ, ◌≡◌, ◌+◌, ◌==◌, Bool, true, false, not, if◌then◌else◌, List, [], ◌∷◌, ◌++◌, length, Option, None, Some}
use Rattle.std.specs.List.{filter}
use Rattle.esc_frame.specs.Segments.{Segment as Shape, bytes_of, is_finished, joined_bytes}
use Rattle.esc_segments.specs.declared.kind.SegmentKind.{SegmentKind}
use Rattle.esc_segments.specs.Items.{kind_of}
use Rattle.esc_account.specs.Accounts.{Rule, fate_after, feeds, is_terminator, step, total}
use Rattle.esc_account.specs.declared.account.Account.{Account}
use Rattle.esc_account.specs.declared.entry.Entry.{Entry as Written}
use Rattle.esc_account.specs.declared.fate.Fate.{Fate}
use Rattle.esc_account.specs.declared.fate.Fate.TheVariants as fates

pub record Entry : Type 0 where
  pub kind : SegmentKind
  pub bytes : List ℕ
  pub finished : Bool
  pub fate : Fate
  -- how many bytes came before it
  pub place : ℕ
  -- how many line feeds are among these
  pub line : ℕ
  -- it is the terminator of the string directly before it
  pub is_end : Bool

-- a terminator comes directly after a string
abbrev pub ends_string : Option Fate → SegmentKind → List ℕ → Bool
ends_string None k bytes = false
ends_string (Some f) k bytes = is_terminator k bytes

-- that of a segment of this kind and these bytes, finished or not, which by itself becomes this
abbrev pub entry_as : Account → SegmentKind → List ℕ → Bool → Fate → Entry
entry_as x k bytes finished own = record {
  kind = k;
  bytes = bytes;
  finished = finished;
  fate = fate_after x.string k bytes own;
  place = total x.sums;
  line = x.lines;
  is_end = ends_string x.string k bytes;
}

-- that of a segment after x
abbrev pub entry_of : Rule → Account → Shape → Bool → Entry
entry_of r x g finished =
    entry_as x (kind_of g) (bytes_of g) finished (r x.before g finished).fate

-- those of segments after x
abbrev pub entries : Rule → Account → List Shape → List Entry
entries r x [] = []
entries r x (g ∷ gs) = entry_of r x g (is_finished g (joined_bytes gs))
    ∷ entries r (step r x g (is_finished g (joined_bytes gs))) gs

-- the entry as it is handed to a book
abbrev pub as_entry : Written → Entry
as_entry e = record {
  kind = e.segment.kind;
  bytes = e.segment.bytes.now;
  finished = e.segment.finished;
  fate = e.fate;
  place = e.place;
  line = e.line;
  is_end = e.is_end;
}

-- ---- those that did not pass

abbrev pub is_passed : Fate → Bool
is_passed fates.Passed = true
is_passed _ = false

abbrev pub is_noted : Entry → Bool
is_noted e = not (is_passed e.fate)

abbrev pub noted_entries : List Entry → List Entry
noted_entries es = filter is_noted es

-- ---- how many bytes had each fate

-- the order of the fates in reports
abbrev pub order : Fate → ℕ
order fates.Passed = 0
order fates.Respelled = 1
order fates.Shown = 2
order fates.Replaced = 3
order fates.LeftOut = 4
order fates.Swallowed = 5
order fates.Overwritten = 6

-- the bytes of the fate f among n bytes of the fate g
abbrev pub part : Fate → Fate → ℕ → ℕ
part f g n = if order f == order g then n else 0

-- and of those of entries
abbrev pub bytes_with : Fate → List Entry → ℕ
bytes_with f [] = 0
bytes_with f (e ∷ es) = part f e.fate (length e.bytes) + bytes_with f es

-- ---- places

-- the bytes of the entry lie at its place in the stream
abbrev pub LiesAt : List ℕ → Entry → Type 0
LiesAt s e = (before : List ℕ) × (after : List ℕ) × (s ≡ before ++ (e.bytes ++ after))
    × (length before ≡ e.place) × (feeds before ≡ e.line)

-- each of them does
abbrev pub AllLie : List ℕ → List Entry → Type 0
AllLie s [] = Unit {0}
AllLie s (e ∷ es) = LiesAt s e × AllLie s es
