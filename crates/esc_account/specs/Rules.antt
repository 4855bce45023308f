-- The fate of a segment by a policy that says which values pass: its own values tell it.
use Rattle.std.specs.Prelude.{ℕ, ◌≡◌, ◌⊎◌, ◌-◌, Bool, true, false, not, ◌&&◌, ◌||◌, if◌then◌else◌, List, [], ◌∷◌, ◌++◌, length, take, drop, bytes_eq, Option, None, Some}
use Rattle.std.specs.List.{list_all, list_any}
use Rattle.unicode_visibility.specs.Characters.{is_deceiving}
use Rattle.unicode_visibility.specs.Following.{may_follow}
use Rattle.esc_frame.specs.Segments.{Segment as Shape, bytes_of}
use Rattle.esc_segments.specs.declared.kind.SegmentKind.{SegmentKind}
use Rattle.esc_segments.specs.declared.kind.SegmentKind.TheVariants as kinds
use Rattle.esc_segments.specs.Items.{kind_of}
use Rattle.esc_actions.specs.Readings.{reading_within}
use Rattle.esc_actions.specs.Texts.{list_text}
use Rattle.esc_actions.specs.Values.{Value, print, control}
use Rattle.esc_filter.specs.Passing.{is_line_feed, passes}
use Rattle.esc_filter.specs.Characters.{is_return}
use Rattle.esc_filter.specs.declared.guard.Guard.{Guard}
use Rattle.esc_filter.specs.declared.returns.Returns.{Returns}
use Rattle.esc_filter.specs.declared.returns.Returns.TheVariants as way
use Rattle.esc_filter.specs.declared.unicode.Unicode.{Unicode}
use Rattle.esc_filter.specs.declared.unicode.Unicode.TheVariants.{Drop, Join, Keep, Show}
use Rattle.esc_account.specs.Accounts.{is_end}
use Rattle.esc_account.specs.declared.fate.Fate.{Fate}
use Rattle.esc_account.specs.declared.fate.Fate.TheVariants as fates
use Rattle.esc_account.specs.declared.verdict.Verdict.{Verdict}
use Rattle.esc_values.specs.Clear.{string_terminator}

abbrev pub drops : Unicode → Bool
drops Drop = true
drops _ = false

abbrev pub drops_returns : Returns → Bool
drops_returns way.Drop = true
drops_returns _ = false

-- the number of a character that deceives is written in its place, after this character
abbrev pub shows : Unicode → Option ℕ → ℕ → Bool
shows Show b c = true
shows Join b c = not (may_follow b c)
shows _ b c = false

abbrev pub shows_returns : Returns → Bool
shows_returns way.Show = true
shows_returns _ = false

-- nothing is written of it, though it passes: of a character that deceives, or a carriage return
abbrev pub is_dropped : {A : Type 0} → Guard → Value A → Bool
is_dropped u (print c) = drops u.characters && is_deceiving c
is_dropped u (control c) = drops_returns u.returns && is_return c
is_dropped u _ = false

-- visible text is written in its place, after this character
abbrev pub is_shown : {A : Type 0} → Guard → Option ℕ → Value A → Bool
is_shown u b (print c) = is_deceiving c && shows u.characters b c
is_shown u b (control c) = shows_returns u.returns && is_return c
is_shown u b _ = false

-- the character that is written last of one that deceives, after this one: `>` of a number
abbrev pub last_instead : Unicode → Option ℕ → ℕ → Option ℕ
last_instead Keep b c = Some c
last_instead Join b c = if may_follow b c then Some c else Some 0x3e
last_instead Show b c = Some 0x3e
last_instead Drop b c = b

-- the last character of a carriage return: none of it itself, and `M` if it is shown
abbrev pub last_return : Returns → Option ℕ → Option ℕ
last_return way.Keep b = None
last_return way.Show b = Some 0x4d
last_return way.Drop b = b

-- the last character that is written of a value
abbrev pub last_written : {A : Type 0} → Guard → Option ℕ → Value A → Option ℕ
last_written u b (print c) = if is_deceiving c then last_instead u.characters b c else Some c
last_written u b (control c) = if is_return c then last_return u.returns b else None
last_written u b _ = None

-- the character that comes before what is written next, after this one and what is written of these
-- values
abbrev pub before_next : {A : Type 0} → Guard → (Value A → Bool) → Option ℕ → Value A → Option ℕ
before_next u admits b v = if passes admits v then last_written u b v else b

abbrev pub before_after : {A : Type 0} → Guard → (Value A → Bool) → Option ℕ → List (Value A)
    → Option ℕ
before_after u admits b [] = b
before_after u admits b (v ∷ vs) = before_after u admits (before_next u admits b v) vs

-- Something is written of it. If lines are streams of their own, each is written with its line
-- feed, whatever the policy says.
abbrev pub is_written : {A : Type 0} → Bool → Guard → (Value A → Bool) → Value A → Bool
is_written by_lines u admits v =
    (by_lines && is_line_feed v) || (passes admits v && not (is_dropped u v))

-- a character or a control by itself, and no sequence or string
abbrev pub is_lone : SegmentKind → Bool
is_lone kinds.Character = true
is_lone kinds.Broken = true
is_lone kinds.Stray = true
is_lone kinds.Control = true
is_lone _ = false

abbrev pub is_control : {A : Type 0} → Value A → Bool
is_control (control c) = true
is_control _ = false

-- the meaning of the segment itself, and no control within a sequence or an opener
abbrev pub is_own : {A : Type 0} → SegmentKind → Value A → Bool
is_own k v = is_lone k || not (is_control v)

-- no character: the replacement character stands for it
abbrev pub is_replaced : SegmentKind → Bool
is_replaced kinds.Broken = true
is_replaced kinds.Stray = true
is_replaced _ = false

-- The text is these bytes, or these and the `ESC \` that ends a string.
abbrev pub is_spelled : List ℕ → List ℕ → Bool
is_spelled bytes text = bytes_eq text bytes
    || (is_end (drop (length text - 2) text) && bytes_eq (take (length text - 2) text) bytes)

-- the same as a fact
abbrev pub IsAsItCame : List ℕ → List ℕ → Type 0
IsAsItCame bytes text = (text ≡ bytes) ⊎ (text ≡ bytes ++ string_terminator)

-- the fate of bytes that are written as this text
abbrev pub spelling_of : List ℕ → List ℕ → Fate
spelling_of bytes text = if is_spelled bytes text then fates.Passed else fates.Respelled

-- The fate of a segment of this kind, these bytes and these values, after this character. A segment
-- that means nothing of its own is swallowed; and if any of its values is not written, it is left
-- out whole.
abbrev pub fate_of : {A : Type 0} → Bool → Guard → (Value A → Bool) → Option ℕ → SegmentKind
    → List ℕ → List (Value A) → Fate
fate_of by_lines u admits b k bytes vs =
    if not (list_any (is_own k) vs) then fates.Swallowed
    else if not (list_all (is_written by_lines u admits) vs) then fates.LeftOut
    else if is_replaced k then fates.Replaced
    else if list_any (is_shown u b) vs then fates.Shown
    else spelling_of bytes (list_text vs)

-- the verdict on a segment of this kind, these bytes and these values, after this character
abbrev pub verdict_on : {A : Type 0} → Bool → Guard → (Value A → Bool) → Option ℕ → SegmentKind
    → List ℕ → List (Value A) → Verdict
verdict_on by_lines u admits b k bytes vs = record {
  fate = fate_of by_lines u admits b k bytes vs;
  before = before_after u admits b vs;
}

-- a segment that is left out leaves the character before it as it was
abbrev pub left_as : Option ℕ → Verdict
left_as b = record { fate = fates.LeftOut; before = b }

-- the verdict on a segment: by its reading under the limit
abbrev pub rule_of : {A : Type 0} → Bool → Guard → ℕ → (Value A → Bool) → Option ℕ → Shape
    → Bool → Verdict
rule_of by_lines u limit admits b g finished =
    verdict_on by_lines u admits b (kind_of g) (bytes_of g) (reading_within (Some limit) g finished)
