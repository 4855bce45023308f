use Rattle.std.proofs.Common.{◌-◌, ◌≡◌, ◌≤◌, ◌++◌, ℕ, List, true, length, drop}
use Rattle.esc_frame.specs.Segments.{AreOscUnits, Ending, OscUnit, ending_bytes, text_bytes, text_of}
use Rattle.esc_segments.specs.Parts.{IsLeft, is_over}
use Rattle.esc_segments.proofs.kept.kept_text.Given as goal

abbrev pub invariant-loop-end : goal.invariant-loop-end
invariant-loop-end g l =
    (l.end ≤ length l.text) × ((ps : List OscUnit) (e : Ending) (after : List ℕ)
    → l.text ≡ text_bytes ps ++ ending_bytes e
    → AreOscUnits ps (ending_bytes e ++ after)
    → is_over e ≡ true → IsLeft l.kept.items (drop l.end l.text) after (text_of ps))

abbrev pub decreases-loop-end : goal.decreases-loop-end
decreases-loop-end g l = length l.text - l.end
