-- The promises of reading a stream and of writing a list, in one statement.
use Rattle.std.specs.Prelude.{ℕ, ◌≡◌, List}
use Rattle.esc_frame.specs.Segments.{Segment, IsCut}
use Rattle.esc_actions.specs.Readings.{readings}
use Rattle.esc_actions.specs.Texts.{list_text, normal}
use Rattle.esc_actions.specs.Values.{Value}
use Rattle.esc_actions.specs.Writable.{EmittedAreWritable, AreWritable}

-- the list is a cut of the stream, and each cut of the stream is this list
pub record IsUniqueCut (stream : List ℕ) (gs : List Segment) : Type 0 where
  pub cuts : IsCut stream gs
  pub alone : (hs : List Segment) → IsCut stream hs → hs ≡ gs

-- The facts about a stream and the values `vs` that were handed out for it:
pub record Headline {A : Type 0} (stream : List ℕ) (vs : List (Value A)) : Type 0 where
  -- the stream has exactly one cut into segments
  pub segments : List Segment
  pub one_cut : IsUniqueCut stream segments
  -- the values are the readings of these segments, in order
  pub readings_in_order : vs ≡ readings segments
  -- each value is writable, but for the four kinds that `is_exception` names: a truncated control
  -- sequence; an escape sequence whose letter opens something; a header of a mode without some of
  -- its intermediates; data of a mode or a short control with a byte A0-FF
  pub handed_out_is_writable : EmittedAreWritable vs
  -- if the stream is the text of a writable list, the values are its normal list, and have the same
  -- text
  pub reads_back : (ws : List (Value A)) → AreWritable ws → list_text ws ≡ stream → vs ≡ normal ws
  pub same_text : (ws : List (Value A)) → AreWritable ws → list_text ws ≡ stream
      → list_text vs ≡ stream
