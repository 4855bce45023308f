-- The fates of the segments of a stream, and the numbers of bytes of each.
use Rattle.std.specs.Prelude.{ℕ, ◌≡◌, ◌+◌, ◌-◌, ◌*◌, ◌<◌, ◌≤◌, ◌^◌, Bool, true, false, not, ◌==◌, ◌&&◌, if◌then◌else◌, List, [], ◌∷◌, length, get_or, Option, None, Some}
use Rattle.esc_frame.specs.Segments.{Segment as Shape, AreSegments, IsCut, bytes_of, is_finished, joined_bytes}
use Rattle.esc_segments.specs.declared.kind.SegmentKind.{SegmentKind}
use Rattle.esc_segments.specs.declared.kind.SegmentKind.TheVariants as kinds
use Rattle.esc_segments.specs.declared.item.Segment.{Segment as Item}
use Rattle.esc_segments.specs.Items.{IsItem, kind_of}
use Rattle.esc_filter.specs.Lines.{is_line_feed}
use Rattle.esc_account.specs.declared.account.Account.{Account}
use Rattle.esc_account.specs.declared.fate.Fate.{Fate}
use Rattle.esc_account.specs.declared.fate.Fate.TheVariants as fates
use Rattle.esc_account.specs.declared.sums.Sums.{Sums}
use Rattle.esc_account.specs.declared.verdict.Verdict.{Verdict}

-- the verdict on a segment by itself, finished or not, after this character, if one was written
-- last
abbrev pub Rule : Type 0
Rule = Option ℕ → Shape → Bool → Verdict

-- ---- sums

abbrev pub nothing : Sums
nothing = record {
  passed = 0;
  respelled = 0;
  shown = 0;
  replaced = 0;
  left_out = 0;
  swallowed = 0;
  overwritten = 0;
}

-- how many have this fate
abbrev pub count_of : Fate → Sums → ℕ
count_of fates.Passed x = x.passed
count_of fates.Respelled x = x.respelled
count_of fates.Shown x = x.shown
count_of fates.Replaced x = x.replaced
count_of fates.LeftOut x = x.left_out
count_of fates.Swallowed x = x.swallowed
count_of fates.Overwritten x = x.overwritten

-- so many more have this fate
abbrev pub sums_with : Fate → ℕ → Sums → Sums
sums_with fates.Passed n x = record x { passed = x.passed + n }
sums_with fates.Respelled n x = record x { respelled = x.respelled + n }
sums_with fates.Shown n x = record x { shown = x.shown + n }
sums_with fates.Replaced n x = record x { replaced = x.replaced + n }
sums_with fates.LeftOut n x = record x { left_out = x.left_out + n }
sums_with fates.Swallowed n x = record x { swallowed = x.swallowed + n }
sums_with fates.Overwritten n x = record x { overwritten = x.overwritten + n }

abbrev pub total : Sums → ℕ
total x = x.passed + (x.respelled + (x.shown + (x.replaced + (x.left_out + (x.swallowed
    + x.overwritten)))))

-- ---- strings and their terminators

-- ESC \
abbrev pub is_end : List ℕ → Bool
is_end (a ∷ b ∷ []) = (a == 0x1b) && (b == 0x5c)
is_end _ = false

-- BEL comes last
abbrev pub ends_in_bell : List ℕ → Bool
ends_in_bell bytes = get_or bytes (length bytes - 1) 0 == 0x07

-- a string that a terminator may end: one that BEL ends has its end already
abbrev pub awaits_terminator : SegmentKind → List ℕ → Bool
awaits_terminator kinds.Osc bytes = not (ends_in_bell bytes)
awaits_terminator kinds.Dcs bytes = true
awaits_terminator kinds.Apc bytes = true
awaits_terminator kinds.Ignored bytes = true
awaits_terminator _ bytes = false

-- 9C, C2 9C or ESC \
abbrev pub is_terminator : SegmentKind → List ℕ → Bool
is_terminator kinds.Terminator bytes = true
is_terminator kinds.Escape bytes = is_end bytes
is_terminator _ bytes = false

-- The fate of a string's terminator: in the output `ESC \` ends the string.
abbrev pub end_fate : Fate → List ℕ → Fate
end_fate fates.Passed bytes = if is_end bytes then fates.Passed else fates.Respelled
end_fate f bytes = f

-- the fate of a segment after a string of this fate, if there is one: a terminator goes the way of
-- its string
abbrev pub fate_after : Option Fate → SegmentKind → List ℕ → Fate → Fate
fate_after None k bytes own = own
fate_after (Some f) k bytes own = if is_terminator k bytes then end_fate f bytes else own

-- the fate that decides on a terminator directly after the segment
abbrev pub terminator_fate : SegmentKind → List ℕ → Fate → Option Fate
terminator_fate k bytes f = if awaits_terminator k bytes then Some f else None

-- ---- accounts

-- how many line feeds there are
abbrev pub feeds : List ℕ → ℕ
feeds [] = 0
feeds (b ∷ s) = if is_line_feed b then 1 + feeds s else feeds s

-- the account of no byte
abbrev pub begun : Account
begun = record { sums = nothing; string = None; before = None; lines = 0 }

-- after a segment of this kind and these bytes, which by itself becomes this
abbrev pub entered_as : Account → SegmentKind → List ℕ → Verdict → Account
entered_as x k bytes own = record {
  sums = sums_with (fate_after x.string k bytes own.fate) (length bytes) x.sums;
  string = terminator_fate k bytes (fate_after x.string k bytes own.fate);
  before = own.before;
  lines = x.lines + feeds bytes;
}

-- after a segment, finished or not
abbrev pub step : Rule → Account → Shape → Bool → Account
step r x g finished = entered_as x (kind_of g) (bytes_of g) (r x.before g finished)

-- after segments, one after another: each is finished where what comes after it finishes it
abbrev pub run : Rule → Account → List Shape → Account
run r x [] = x
run r x (g ∷ gs) = run r (step r x g (is_finished g (joined_bytes gs))) gs

-- the account of a stream, by its one cut
abbrev pub IsAccount : Rule → List ℕ → Account → Type 0
IsAccount r s x = (gs : List Shape) × IsCut s gs × (x ≡ run r begun gs)

-- these bytes, which go on where no segment is unfinished, make y of x
abbrev pub GoesOn : Rule → Account → List ℕ → Account → Type 0
GoesOn r x b y = (hs : List Shape) → IsCut b hs → y ≡ run r x hs

-- the item, whatever segment of a cut it is, makes y of x
abbrev pub Enters : Rule → Account → Item → Account → Type 0
Enters r x item y = (g : Shape) (gs : List Shape) → AreSegments (g ∷ gs)
    → IsItem item g (joined_bytes gs) → y ≡ step r x g (is_finished g (joined_bytes gs))

-- so many bytes more can be counted
abbrev pub HasRoom : Account → ℕ → Type 0
HasRoom x n = total x.sums + (x.lines + 2 * n) < 2 ^ 64

-- y counts so many bytes more than x
abbrev pub Counts : Account → ℕ → Account → Type 0
Counts x n y = (total y.sums ≡ total x.sums + n) × (y.lines ≤ x.lines + n)

-- ---- lines, each a stream of its own

-- these bytes are in the output as they came
abbrev pub all_passed : List ℕ → Account → Account
all_passed bytes x = record {
  sums = sums_with fates.Passed (length bytes) x.sums;
  string = None;
  before = None;
  lines = x.lines + feeds bytes;
}

-- where a line begins, no string came before, and no character
abbrev pub line_begun : Account → Account
line_begun x = record x { string = None; before = None }
