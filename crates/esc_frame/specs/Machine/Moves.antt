-- One byte changes the unfinished segment, and emits events. Only private contracts cite this.
use Rattle.std.specs.Prelude.{ℕ, ◌≡◌, ◌<◌, ◌+◌, Bool, true, false, not, ◌||◌, ◌&&◌, if◌then◌else◌, List, [], ◌∷◌, ◌++◌, take, Option, None}
use Rattle.esc_frame.specs.declared.classes.Class.{Class}
use Rattle.esc_frame.specs.declared.classes.Class.TheVariants.{Introducer, High, Lead, Bell, Breaks}
use Rattle.esc_frame.specs.declared.classes.Breaker.TheVariants.{Escape, C1Introducer}
use Rattle.esc_frame.specs.declared.classes.Kind.{Kind}
use Rattle.esc_frame.specs.declared.classes.Kind.TheVariants as kind
use Rattle.esc_frame.specs.declared.utf8.sequence.Outcome.{Outcome}
use Rattle.esc_frame.specs.declared.utf8.sequence.Outcome.TheVariants as outcomes
use Rattle.esc_frame.specs.Sequences.{is_pair, number_of, outcome}
use Rattle.esc_frame.specs.Classes.{class_of, without_noise, bytes_of_class, is_text, is_breaker, is_c0, is_control, is_c1, in_escape, in_csi, in_osc, is_put}
use Rattle.esc_frame.specs.Events.{Event}
use Rattle.esc_frame.specs.Events.Event.{Print, Execute, DcsPut, DcsUnhook}
use Rattle.esc_frame.specs.Limits.{is_read, has_few_parts}
use Rattle.esc_frame.specs.Segments.{Opener, OscUnit, text_of, is_empty, escape_event, csi_events, hook_event, osc_events, apc_events}
use Rattle.esc_frame.specs.Segments.Opener.{Long, Raw, Pair}
use Rattle.esc_frame.specs.Segments.OscUnit.{One, Sequence, BrokenOff}
use Rattle.esc_frame.specs.Leads.{Unfinished}
use Rattle.esc_frame.specs.Leads.Unfinished.{Ground, Pending, InEscape, InCsi, InOsc, InOscPending, InDcs, InData, InApc, InIgnored}

-- the unfinished segment after a byte, and the events that the byte emits
abbrev pub Move : Type 0
Move = Unfinished × List Event

-- a move with these events before its own
abbrev pub emitting : List Event → Move → Move
emitting es m = (m.0, es ++ m.1)

abbrev pub unfinished_at_opener : Kind → Opener → Unfinished
unfinished_at_opener kind.Csi o = InCsi o []
unfinished_at_opener kind.Osc o = InOsc o []
unfinished_at_opener kind.Dcs o = InDcs o []
unfinished_at_opener kind.Apc o = InApc o []
unfinished_at_opener k o = InIgnored k o []

-- a byte in ground that is no character and no control
abbrev pub begins : ℕ → Class → Move
begins b (Breaks Escape) = (InEscape [], [])
begins b (Breaks (C1Introducer k)) = (unfinished_at_opener k Raw, [])
begins b Lead = (Pending (b ∷ []), [])
begins b High = (Ground, Print 0xfffd ∷ [])
begins b _ = (Ground, [])

abbrev pub ground_move : ℕ → Class → Move
ground_move b c = if is_text c then (Ground, Print b ∷ []) else if is_control c
    || is_c1 c then (Ground, Execute b ∷ []) else begins b c

-- after C2: 80-9F
abbrev pub pair_move : ℕ → Class → Move
pair_move b (Breaks (C1Introducer k)) = (unfinished_at_opener k Pair, [])
pair_move b c = (Ground, if is_c1 c then Execute b ∷ [] else [])

-- a control in a sequence that goes on
abbrev pub noise : ℕ → Class → List Event
noise b c = if is_c0 c then Execute b ∷ [] else []

-- the move of the final byte of an escape sequence, or of an opener's letter
abbrev pub final_escape : List ℕ → ℕ → Class → Move
final_escape x b (Introducer k) =
    if is_empty (without_noise x) then (unfinished_at_opener k (Long x), [])
    else (Ground, escape_event (without_noise x) b ∷ [])
final_escape x b _ = (Ground, escape_event (without_noise x) b ∷ [])

-- the hook of a header that is read
abbrev pub hooks : Option ℕ → List ℕ → ℕ → List Event
hooks limit x b = if is_read limit (without_noise x) then hook_event (without_noise x) b ∷ []
    else []

-- the events that a sequence or a string emits at its end
abbrev pub leaving : Option ℕ → Unfinished → List Event
leaving limit (InData o x f d) = if is_read limit (without_noise x) then DcsUnhook ∷ [] else []
leaving limit (InApc o d) = apc_events limit (bytes_of_class is_text d)
leaving limit (InOsc o ps) = osc_events limit (text_of ps)
leaving limit (InOscPending o ps f) = osc_events limit (text_of ps)
leaving limit _ = []

-- a lead byte in an OSC, or the bell that ends it
abbrev pub final_osc : Option ℕ → Opener → List OscUnit → ℕ → Class → Move
final_osc limit o ps b Lead = (InOscPending o ps (b ∷ []), [])
final_osc limit o ps b _ = (Ground, leaving limit (InOsc o ps))

-- a byte that breaks off no sequence or string
abbrev pub goes_on : Option ℕ → Unfinished → ℕ → Class → Move
goes_on limit (InEscape x) b c =
    if in_escape c then (InEscape (x ++ b ∷ []), noise b c) else final_escape x b c
goes_on limit (InCsi o x) b c =
    if in_csi c then (InCsi o (x ++ b ∷ []), noise b c)
    else (Ground, csi_events (without_noise x) b)
goes_on limit (InDcs o x) b c =
    if in_csi c then (InDcs o (x ++ b ∷ []), []) else (InData o x b [], hooks limit x b)
goes_on limit (InData o x f d) b c = (
  InData o x f (d ++ b ∷ []),
  if is_read limit (without_noise x) && is_put c then DcsPut b ∷ []
      else [],
)
goes_on limit (InApc o d) b c = (InApc o (d ++ b ∷ []), [])
goes_on limit (InIgnored k o d) b c = (InIgnored k o (d ++ b ∷ []), [])
goes_on limit (InOsc o ps) b c =
    if in_osc c then (InOsc o (ps ++ One b ∷ []), []) else final_osc limit o ps b c
goes_on limit u b c = (u, [])

-- the move of a byte in a sequence or a string: a breaker breaks it off, and acts as in ground
abbrev pub move_inside : Option ℕ → Unfinished → ℕ → Class → Move
move_inside limit u b c =
    if is_breaker c then emitting (leaving limit u) (ground_move b c) else goes_on limit u b c

-- a byte that ends an operating system command: a bell, which belongs to it, or a breaker
abbrev pub ends_osc : Class → Bool
ends_osc Bell = true
ends_osc c = is_breaker c

abbrev pub osc_left : ℕ → Class → Move
osc_left b Bell = (Ground, [])
osc_left b c = ground_move b c

-- a byte after a prefix of a sequence
abbrev pub pending_move : List ℕ → ℕ → Class → Outcome → Move
pending_move f b c outcomes.Whole =
    if is_pair (f ++ b ∷ []) then pair_move b c else (Ground, Print (number_of (f ++ b ∷ [])) ∷ [])
pending_move f b c outcomes.More = (Pending (f ++ b ∷ []), [])
pending_move f b c outcomes.Broken = emitting (Print 0xfffd ∷ []) (ground_move b c)

-- the same in an OSC
abbrev pub osc_pending_move : Option ℕ → Opener → List OscUnit → List ℕ → ℕ → Class → Outcome → Move
osc_pending_move limit o ps f b c outcomes.Whole =
    if is_pair (f ++ b ∷ [])
    then emitting (leaving limit (InOscPending o ps f)) (pair_move b c) else
    (InOsc o (ps ++ Sequence (f ++ b ∷ []) ∷ []), [])
osc_pending_move limit o ps f b c outcomes.More = (InOscPending o ps (f ++ b ∷ []), [])
osc_pending_move limit o ps f b c outcomes.Broken =
    move_inside limit (InOsc o (ps ++ BrokenOff f ∷ [])) b c

-- the move of a byte of this class
abbrev pub move : Option ℕ → Unfinished → ℕ → Class → Move
move limit Ground b c = ground_move b c
move limit (Pending f) b c = pending_move f b c (outcome f b)
move limit (InOscPending o ps f) b c = osc_pending_move limit o ps f b c (outcome f b)
move limit u b c = move_inside limit u b c

-- the unfinished segment after a byte, which does not depend on the limit
abbrev pub after_by : Unfinished → ℕ → Class → Unfinished
after_by u b c = (move None u b c).0

abbrev pub events_by : Option ℕ → Unfinished → ℕ → Class → List Event
events_by limit u b c = (move limit u b c).1

-- ---- many bytes, one after another

abbrev pub after_all : Unfinished → List ℕ → Unfinished
after_all u [] = u
after_all u (b ∷ bs) = after_all (after_by u b (class_of b)) bs

abbrev pub events_all : Option ℕ → Unfinished → List ℕ → List Event
events_all limit u [] = []
events_all limit u (b ∷ bs) =
    events_by limit u b (class_of b) ++ events_all limit (after_by u b (class_of b)) bs

abbrev pub is_ground : Unfinished → Bool
is_ground Ground = true
is_ground _ = false

-- ---- memory

-- a byte that is taken here may make the machine's memory grow
abbrev pub may_grow_in : Unfinished → Bool
may_grow_in Ground = false
may_grow_in (Pending _) = false
may_grow_in (InEscape _) = false
may_grow_in (InCsi _ _) = false
may_grow_in _ = true

-- one of these bytes is taken in a string
abbrev pub reaches_growing : Unfinished → List ℕ → Bool
reaches_growing u [] = false
reaches_growing u (b ∷ bs) = may_grow_in u || reaches_growing (after_by u b (class_of b)) bs

-- ---- strings that are lent

-- a byte in the text of an OSC that can be lent, or a byte that ends it
abbrev pub passes_osc : List OscUnit → Class → Bool
passes_osc ps Lead = true
passes_osc ps c = is_text c || (ends_osc c && has_few_parts (text_of ps))

-- a byte after a prefix of a sequence there
abbrev pub passes_pending : List OscUnit → List ℕ → ℕ → Outcome → Bool
passes_pending ps f b outcomes.Whole =
    if is_pair (f ++ b ∷ []) then has_few_parts (text_of ps) else true
passes_pending ps f b outcomes.More = true
passes_pending ps f b outcomes.Broken = false

-- a byte outside of strings, or in a string that can be lent
abbrev pub passes : Unfinished → ℕ → Class → Bool
passes Ground b c = true
passes (Pending f) b c = true
passes (InEscape x) b c = true
passes (InCsi o x) b c = true
passes (InOsc o ps) b c = passes_osc ps c
passes (InOscPending o ps f) b c = passes_pending ps f b (outcome f b)
passes (InApc o d) b c = is_text c || is_breaker c
passes _ b c = false

abbrev pub all_pass : Unfinished → List ℕ → Bool
all_pass u [] = true
all_pass u (b ∷ bs) = passes u b (class_of b) && all_pass (after_by u b (class_of b)) bs

-- all strings in these bytes can be lent, and nothing is unfinished after them
abbrev pub borrows : Unfinished → List ℕ → Bool
borrows u bs = all_pass u bs && is_ground (after_all u bs)

-- no byte of a string that counts has come
abbrev pub is_fresh : Unfinished → Bool
is_fresh Ground = true
is_fresh (Pending f) = true
is_fresh (InEscape x) = true
is_fresh (InCsi o x) = true
is_fresh (InOsc o ps) = is_empty (text_of ps)
is_fresh (InApc o d) = is_empty (bytes_of_class is_text d)
is_fresh _ = false

abbrev pub is_borrowable : Unfinished → List ℕ → Bool
is_borrowable u bs = is_fresh u && borrows u bs

-- these bytes may make the machine's memory grow
abbrev pub may_grow_within : Unfinished → List ℕ → Bool
may_grow_within u bs = reaches_growing u bs && not (is_borrowable u bs)

-- ---- prefixes that stop at the first event

-- All but the last of the first n bytes of the rest, where u was unfinished before, emit nothing
-- and leave a segment unfinished.
abbrev pub IsStill : Option ℕ → Unfinished → List ℕ → ℕ → Type 0
IsStill limit u rest n = (k : ℕ) → 0 < k → k < n → (events_all limit u (take k rest) ≡ [])
    × (is_ground (after_all u (take k rest)) ≡ false)

-- The first n bytes of the rest emit nothing, where u was unfinished before, and leave a segment
-- unfinished. Where memory may grow after them, not all strings in the rest can be lent.
pub record IsQuietRun (limit : Option ℕ) (u : Unfinished) (rest : List ℕ) (n : ℕ) : Type 0 where
  pub none : events_all limit u (take n rest) ≡ []
  pub still : IsStill limit u rest (n + 1)
  pub unlent : may_grow_in (after_all u (take n rest)) ≡ true → is_borrowable u rest ≡ false
