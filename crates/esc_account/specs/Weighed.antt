-- The facts that are known of the values of a segment, one after another: all that its fate rests
-- on but its text.
use Rattle.std.specs.Prelude.{ℕ, Bool, true, false, not, ◌&&◌, ◌||◌, if◌then◌else◌, List, [], ◌∷◌, Option}
use Rattle.esc_segments.specs.declared.kind.SegmentKind.{SegmentKind}
use Rattle.esc_actions.specs.Values.{Value}
use Rattle.esc_filter.specs.declared.guard.Guard.{Guard}
use Rattle.esc_account.specs.Rules.{before_next, is_own, is_replaced, is_shown, is_written, spelling_of}
use Rattle.esc_account.specs.declared.fate.Fate.{Fate}
use Rattle.esc_account.specs.declared.fate.Fate.TheVariants as fates
use Rattle.esc_account.specs.declared.weighed.Weighed.{Weighed}

-- the facts of no value, after this character
abbrev pub facts_of_none : Option ℕ → Weighed
facts_of_none b = record { has_own = false; writes_all = true; shows_some = false; last = b }

-- the facts of one value more, in a segment of this kind that comes after this character
abbrev pub weighed_with : {A : Type 0} → Bool → Guard → (Value A → Bool) → Option ℕ → SegmentKind
    → Weighed → Value A → Weighed
weighed_with by_lines u admits b k w v = record {
  has_own = w.has_own || is_own k v;
  writes_all = w.writes_all && is_written by_lines u admits v;
  shows_some = w.shows_some || is_shown u b v;
  last = before_next u admits w.last v;
}

abbrev pub weighed_all : {A : Type 0} → Bool → Guard → (Value A → Bool) → Option ℕ → SegmentKind
    → Weighed → List (Value A) → Weighed
weighed_all by_lines u admits b k w [] = w
weighed_all by_lines u admits b k w (v ∷ vs) =
    weighed_all by_lines u admits b k (weighed_with by_lines u admits b k w v) vs

-- the fate of a segment of this kind, these bytes and this text, by the facts of its values
abbrev pub fate_by : Weighed → SegmentKind → List ℕ → List ℕ → Fate
fate_by w k bytes text =
    if not w.has_own then fates.Swallowed
    else if not w.writes_all then fates.LeftOut
    else if is_replaced k then fates.Replaced
    else if w.shows_some then fates.Shown
    else spelling_of bytes text
