-- These definitions say what a stream leaves unfinished, and what the machine keeps of it. No
-- contract of `VTParser` cites them; the public relation is `HasConsumed` of Stream.
use Rattle.std.specs.Prelude.{ℕ, ◌≡◌, true, false, if◌then◌else◌, List, [], ◌∷◌, ◌++◌, Option, None, length}
use Rattle.std.specs.List.{flat_map}
use Rattle.esc_frame.specs.declared.classes.Kind.{Kind}
use Rattle.esc_frame.specs.declared.classes.Kind.TheVariants as kind
use Rattle.esc_frame.specs.declared.machine.State.TheVariants as state
use Rattle.esc_frame.specs.declared.machine.Machine.{Machine}
use Rattle.esc_frame.specs.Classes.{without_noise, bytes_of_class, is_text}
use Rattle.esc_frame.specs.Sequences.{is_prefix}
use Rattle.esc_frame.specs.Limits.{is_read, kept_within, header_count}
use Rattle.esc_frame.specs.Machine.Prefixes.{prefix_of}
use Rattle.esc_frame.specs.Machine.Keeps.{Keeps, KeepsBody, KeepsDcs, parameters_of}
use Rattle.esc_frame.specs.Events.{Event}
use Rattle.esc_frame.specs.Segments.{Segment, Opener, OscUnit, opener, opener_events, text_of, text_bytes, HasShape, IsOpener, AreOscUnits, is_finished, is_empty}
use Rattle.esc_frame.specs.Segments.{joined_bytes, bytes_of, events_of_within, executes, hook_event, puts}
use Rattle.esc_frame.specs.Segments.Segment.{CutEscape, CutCsi, CutDcs, Dcs, Apc, Ignored}

-- the last segment, where it is unfinished, taken apart
pub data Unfinished : Type 0 where
  Ground : Unfinished
  -- a prefix of a sequence
  Pending : List ℕ → Unfinished
  InEscape : List ℕ → Unfinished
  InCsi : Opener → List ℕ → Unfinished
  InDcs : Opener → List ℕ → Unfinished
  InData : Opener → List ℕ → ℕ → List ℕ → Unfinished
  InApc : Opener → List ℕ → Unfinished
  InIgnored : Kind → Opener → List ℕ → Unfinished
  InOsc : Opener → List OscUnit → Unfinished
  -- a prefix follows the units
  InOscPending : Opener → List OscUnit → List ℕ → Unfinished

abbrev pub osc_bytes : Opener → List OscUnit → List ℕ
osc_bytes o ps = opener kind.Osc o ++ text_bytes ps

-- its bytes
abbrev pub open_bytes : Unfinished → List ℕ
open_bytes Ground = []
open_bytes (Pending f) = f
open_bytes (InEscape x) = bytes_of (CutEscape x)
open_bytes (InCsi o x) = bytes_of (CutCsi o x)
open_bytes (InDcs o x) = bytes_of (CutDcs o x)
open_bytes (InData o x f d) = bytes_of (Dcs o x f d)
open_bytes (InApc o d) = bytes_of (Apc o d)
open_bytes (InIgnored k o d) = bytes_of (Ignored k o d)
open_bytes (InOsc o ps) = osc_bytes o ps
open_bytes (InOscPending o ps f) = osc_bytes o ps ++ f

abbrev pub OpenShape : Unfinished → Type 0
OpenShape Ground = Unit {0}
OpenShape (Pending f) = is_prefix f ≡ true
OpenShape (InEscape x) = HasShape (CutEscape x) []
OpenShape (InCsi o x) = HasShape (CutCsi o x) []
OpenShape (InDcs o x) = HasShape (CutDcs o x) []
OpenShape (InData o x f d) = HasShape (Dcs o x f d) []
OpenShape (InApc o d) = HasShape (Apc o d) []
OpenShape (InIgnored k o d) = HasShape (Ignored k o d) []
OpenShape (InOsc o ps) = IsOpener o × AreOscUnits ps []
OpenShape (InOscPending o ps f) = IsOpener o × AreOscUnits ps f × (is_prefix f ≡ true)

-- each has its shape and is finished where these bytes follow the last
abbrev pub AreFinished : List Segment → List ℕ → Type 0
AreFinished [] rest = Unit {0}
AreFinished (g ∷ gs) rest = HasShape g (joined_bytes gs ++ rest)
    × (is_finished g (joined_bytes gs ++ rest) ≡ true) × AreFinished gs rest

-- says what the machine keeps of the unfinished segment, of a string no more than the limit;
-- `keeps` says what its store keeps of a text
abbrev pub Holds : {K A : Type 0} → (Option ℕ → K → List ℕ → Type 0) → Option ℕ → Machine K A
    → Unfinished → Type 0
Holds keeps limit m Ground = (m.state ≡ state.Ground) × (prefix_of m.pending ≡ [])
Holds keeps limit m (Pending f) = (m.state ≡ state.Ground) × (prefix_of m.pending ≡ f)
    × (is_empty f ≡ false)
Holds keeps limit m (InEscape x) = (m.state ≡ state.Escape)
    × Keeps m.intermediates (without_noise x)
Holds keeps limit m (InCsi o x) = (m.state ≡ state.Csi) × KeepsBody m.body (without_noise x)
Holds keeps limit m (InDcs o x) = (m.state ≡ state.Dcs)
    × keeps limit m.text (parameters_of (without_noise x)) × KeepsDcs m.header (without_noise x)
Holds keeps limit m (InData o x f d) =
    m.state ≡ (if is_read limit (without_noise x) then state.Data else state.Ignored)
Holds keeps limit m (InApc o d) = (m.state ≡ state.Apc)
    × keeps limit m.text (bytes_of_class is_text d)
Holds keeps limit m (InIgnored k o d) = m.state ≡ state.Ignored
Holds keeps limit m (InOsc o ps) = (m.state ≡ state.Osc) × keeps limit m.text (text_of ps)
    × (prefix_of m.pending ≡ [])
Holds keeps limit m (InOscPending o ps f) = (m.state ≡ state.Osc) × keeps limit m.text (text_of ps)
    × (prefix_of m.pending ≡ f) × (is_empty f ≡ false)

-- the number of bytes kept of it
abbrev pub kept_open : Option ℕ → Unfinished → ℕ
kept_open limit (InOsc o ps) = kept_within limit (length (text_of ps))
kept_open limit (InOscPending o ps f) = kept_within limit (length (text_of ps))
kept_open limit (InApc o d) = kept_within limit (length (bytes_of_class is_text d))
kept_open limit (InDcs o x) = kept_within limit (header_count (without_noise x))
kept_open limit _ = 0

-- the events that the finished segments have emitted
abbrev pub finished_events_within : Option ℕ → List Segment → List Event
finished_events_within limit gs = flat_map (λ g. events_of_within limit g true) gs

abbrev pub finished_events : List Segment → List Event
finished_events gs = finished_events_within None gs

-- the events that the unfinished segment has emitted
abbrev pub emitted_open : Option ℕ → Unfinished → List Event
emitted_open limit Ground = []
emitted_open limit (Pending f) = []
emitted_open limit (InEscape x) = executes x
emitted_open limit (InCsi o x) = opener_events o ++ executes x
emitted_open limit (InDcs o x) = opener_events o
emitted_open limit (InData o x f d) =
    opener_events o ++ (if is_read limit (without_noise x) then hook_event (without_noise x) f
    ∷ puts d else [])
emitted_open limit (InApc o d) = opener_events o
emitted_open limit (InIgnored k o d) = opener_events o
emitted_open limit (InOsc o ps) = opener_events o
emitted_open limit (InOscPending o ps f) = opener_events o

-- the stream has a cut with these finished segments and this unfinished one, and emitted these
-- events
pub record HasCut (limit : Option ℕ) (stream : List ℕ) (events : List Event) (gs : List Segment)
    (u : Unfinished) : Type 0 where
  pub whole : stream ≡ joined_bytes gs ++ open_bytes u
  pub finished : AreFinished gs (open_bytes u)
  pub shape : OpenShape u
  pub emitted : events ≡ finished_events_within limit gs ++ emitted_open limit u
