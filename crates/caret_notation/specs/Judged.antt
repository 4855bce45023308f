-- The state of a judge of actions.
use Rattle.std.specs.Prelude.{ℕ, ◌≡◌, ◌<◌, Bool, true, false, ◌&&◌, List, [], ◌∷◌, Some, take}
use Rattle.esc_actions.specs.Meaning.{meaning_within, mode_from}
use Rattle.esc_actions.specs.Texts.{is_string}
use Rattle.esc_actions.specs.Values.{Value, plain}
use Rattle.esc_filter.specs.declared.admit.Admit.{Ghosts as Admitter}
use Rattle.esc_frame.specs.Stream.{HasConsumedWithin, events_within}
use Rattle.esc_frame.specs.declared.parser.VTParser.{VTParser}
use Rattle.esc_parse.specs.Fed.{Hooks}
use Rattle.esc_parse.specs.declared.performer.Performer.{Performer}
use Rattle.caret_notation.specs.Spans.{is_at_ground}
use Rattle.caret_notation.specs.Revealed.{are_kept, goes_through}
use Rattle.caret_notation.specs.declared.judge.Judge.{Judge}
use Rattle.caret_notation.specs.declared.judge.Verdict.{Verdict}

-- the state after no action
abbrev pub begun : Verdict
begun = record { some = false; all = true; follows = false }

-- the state after one more
abbrev pub verdict_with : {A : Type 0} → (Value A → Bool) → Verdict → Value A → Verdict
verdict_with admits k v = record {
  some = true;
  all = k.all && goes_through admits k.follows v;
  follows = is_string v;
}

-- the verdict after some more, which pass or do not; the last one is a string or is not
abbrev pub noted_verdict : Bool → Bool → Verdict → Verdict
noted_verdict passes is_string k = record {
  some = true;
  all = k.all
      && passes;
  follows = is_string;
}

-- and after these, one after another
abbrev pub folded_verdict : {A : Type 0} → (Value A → Bool) → Verdict → List (Value A) → Verdict
folded_verdict admits k [] = k
folded_verdict admits k (v ∷ vs) = folded_verdict admits (verdict_with admits k v) vs

-- Both were fed this stream, which begins when the judge had no action: it knows the meaning of the
-- stream.
pub record HasJudged {P A : Type 0} (V : Admitter P A) (limit : ℕ) (s : List ℕ)
    (framer : VTParser A) (performer : Performer (Judge P) A) : Type 0 where
  pub framed : HasConsumedWithin (Some limit) s framer
  pub hooked : Hooks (Some limit) performer.unfinished
      (mode_from plain (events_within (Some limit) s))
  pub judged : performer.sink.verdict
      ≡ folded_verdict (V.admits performer.sink.policy.now) begun (meaning_within (Some limit) s)

-- a segment is unfinished after each shorter prefix
abbrev pub IsQuietTo : ℕ → List ℕ → Type 0
IsQuietTo n s = (k : ℕ) → 0 < k → k < n → is_at_ground (take k s) ≡ false

-- Some of the bytes b, which come first in a span, were judged: their number, and whether they
-- mean something, all of which passes.
pub record HasJudgedSome {P A : Type 0} (V : Admitter P A) (policy : P) (limit : ℕ) (b : List ℕ)
    (framer : VTParser A) (verdict : ℕ × Bool) : Type 0 where
  -- they were framed
  pub framed : HasConsumedWithin (Some limit) (take verdict.0 b) framer
  -- no fewer of them end the span
  pub quiet : IsQuietTo verdict.0 b
  -- and this is their meaning
  pub judged : verdict.1
      ≡ are_kept (V.admits policy) (meaning_within (Some limit) (take verdict.0 b))
