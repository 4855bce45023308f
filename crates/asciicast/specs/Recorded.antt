-- The text that a recording that is filtered has taken, and gives.
use Rattle.std.specs.Prelude.{ℕ, ◌≡◌, ◌≢◌, Bool, true, false, List, [], ◌++◌, codes, string_bytes}
use Rattle.json.specs.Print.{IsNumber}
use Rattle.esc_normal.specs.declared.feeding.StreamFilter.{Ghosts as Feeder}
use Rattle.asciicast.specs.Recordings.{IsEvent, Kind, header, input, other, output, passed, wrong}
use Rattle.asciicast.specs.declared.recording.Recording.{Recording}

abbrev pub feeding_of : {F A : Type 0} → Recording F A → F
feeding_of r = r.feeding

-- the line that the last call gave
abbrev pub text_of : {F A : Type 0} → Recording F A → List ℕ
text_of r = r.text.items

-- the time of the last event; empty if there was none
abbrev pub time_of : {F A : Type 0} → Recording F A → List ℕ
time_of r = string_bytes r.time

-- whether the time of an event is counted from the event before
abbrev pub is_relative : {F A : Type 0} → Recording F A → Bool
is_relative r = r.is_relative

-- whether events of input lose their texts
abbrev pub drops_input : {F A : Type 0} → Recording F A → Bool
drops_input r = r.drops_input

-- whether it is after a line of this kind, if it was so before
abbrev pub is_relative_after : Kind → Bool → Bool
is_relative_after (output t d) r = r
is_relative_after (input t) r = r
is_relative_after (passed t) r = r
is_relative_after (header b) r = b
is_relative_after other r = r
is_relative_after wrong r = r

-- the time of the last event after a line of this kind, if it was this before
abbrev pub time_after : Kind → List ℕ → List ℕ
time_after (output t d) x = t
time_after (input t) x = t
time_after (passed t) x = t
time_after (header b) x = x
time_after other x = x
time_after wrong x = x

-- q has the filter of p, its last line, the time of its last event, counts times as it does, and
-- keeps the same of events of input
pub record IsAs {F A : Type 0} (p q : Recording F A) : Type 0 where
  pub feeding : feeding_of q ≡ feeding_of p
  pub text : text_of q ≡ text_of p
  pub time : time_of q ≡ time_of p
  pub counts : is_relative q ≡ is_relative p
  pub drops : drops_input q ≡ drops_input p

-- The filter, which was fed s, was fed d too, and the line is that of the event at the time t, with
-- the text that d adds.
abbrev pub Hears : {F A : Type 0} → Feeder F A → (List ℕ → List ℕ) → (List ℕ → List ℕ) → List ℕ
    → List ℕ → List ℕ → Recording F A → Type 0
Hears V m c s t d r = V.gives (feeding_of r) m c (s ++ d)
    × ((a : List ℕ) × (m (s ++ d) ≡ m s ++ a) × IsEvent t a (text_of r))

-- the time of the event after the last event, which has this time: the same, or 0 if times are
-- counted from the event before, or there was none
pub record IsEndTime (is_relative : Bool) (last t : List ℕ) : Type 0 where
  pub since_before : is_relative ≡ true → t ≡ codes "0"
  pub first : (IsNumber last → ⊥) → t ≡ codes "0"
  pub after : is_relative ≡ false → IsNumber last → t ≡ last

-- The line of q is an event with the text that the end of the stream s adds, at the time after the
-- last event of p; or there is none, if it adds nothing.
pub record Closes {F A : Type 0} (m c : List ℕ → List ℕ) (s : List ℕ) (p q : Recording F A)
    : Type 0 where
  pub added : List ℕ
  pub longer : c s ≡ m s ++ added
  pub silent : added ≡ [] → text_of q ≡ []
  pub heard : added ≢ []
      → (t : List ℕ) × IsEndTime (is_relative p) (time_of p) t × IsEvent t added (text_of q)
