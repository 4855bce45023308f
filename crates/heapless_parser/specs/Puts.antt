-- The writes of a text or a sequence to an event.
use Rattle.std.specs.Prelude.{ℕ, ◌≡◌, ◌≤◌, ◌<◌, ◌+◌, ◌++◌, ◌∷◌, [], Bool, true, false, List, length, take}
use Rattle.esc_values.specs.declared.csi_param.CsiParam.{CsiParam}
use Rattle.esc_frame.specs.Changed.{Changed}
use Rattle.esc_frame.specs.Events.Event.{CsiDispatch, EscDispatch}
use Rattle.heapless_parser.specs.declared.event.EscEvent.{EscEvent}
use Rattle.heapless_parser.specs.declared.event.TheConstants.{CSI, ESCAPE}
use Rattle.heapless_parser.specs.Emitted.{sent_events, text_of}
use Rattle.heapless_parser.specs.Takes.{IsCountedAs}

-- ---- an event

-- The event is this text, of this kind, in the place that it is handed out in.
pub record PutsText (number : ℕ) (x out : List ℕ) (event : Changed EscEvent) : Type 0 where
  pub text : text_of event.exit.now out ≡ x
  pub kind : event.exit.now.kind ≡ number
  pub length : event.exit.now.length ≡ length x
  pub within : IsCountedAs event.exit.now event.entry.now

-- The event is this escape sequence.
pub record PutsEscape (intermediates : List ℕ) (has_more : Bool) (byte : ℕ)
    (event : Changed EscEvent) : Type 0 where
  pub said : (out : List ℕ) → sent_events event.exit.now out
      ≡ EscDispatch intermediates has_more byte ∷ []
  pub kind : event.exit.now.kind ≡ ESCAPE
  pub kept : event.exit.now.kept ≡ length intermediates
  -- it counts as many parameters, and as long a text, as before
  pub same : (event.exit.now.count ≡ event.entry.now.count)
      × (event.exit.now.length ≡ event.entry.now.length)

-- The event is this control sequence.
pub record PutsCsi (params : List CsiParam) (has_more : Bool) (byte : ℕ) (event : Changed EscEvent)
    : Type 0 where
  pub said : (out : List ℕ) → sent_events event.exit.now out ≡ CsiDispatch params has_more byte ∷ []
  pub kind : event.exit.now.kind ≡ CSI
  pub count : event.exit.now.count ≡ length params
  -- it counts as many intermediates, and as long a text, as before
  pub same : (event.exit.now.kept ≡ event.entry.now.kept)
      × (event.exit.now.length ≡ event.entry.now.length)
