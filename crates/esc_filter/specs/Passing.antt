-- The values that pass a filter.
use Rattle.std.specs.Prelude.{ℕ, ◌≡◌, Bool, true, false, not, ◌&&◌, List, Option}
use Rattle.std.specs.List.{filter}
use Rattle.esc_actions.specs.Meaning.{meaning, meaning_within, Reads}
use Rattle.esc_actions.specs.Texts.{list_text, normal}
use Rattle.esc_actions.specs.Values.{Value, control, enter, datum, exit}
use Rattle.esc_actions.specs.declared.control_code.ControlCode.TheVariants.{LineFeed}
use Rattle.esc_actions.specs.Writable.{AreWritable, is_exception}
use Rattle.esc_filter.specs.Characters.{in_values, keep_all}
use Rattle.esc_filter.specs.Closing.{closed_values}
use Rattle.esc_filter.specs.declared.guard.Guard.{Guard}

-- a step of a mode: its header, a byte of its data, or its end
abbrev pub is_mode_step : {A : Type 0} → Value A → Bool
is_mode_step (enter e) = true
is_mode_step (datum b) = true
is_mode_step exit = true
is_mode_step _ = false

-- a value that a parser hands out and that can be written by itself: no exception, and no step of a
-- mode
abbrev pub is_whole : {A : Type 0} → Value A → Bool
is_whole v = not (is_exception v) && not (is_mode_step v)

-- a value that passes: it is whole, and is admitted
abbrev pub passes : {A : Type 0} → (Value A → Bool) → Value A → Bool
passes admits v = is_whole v && admits v

-- a line feed
abbrev pub is_line_feed : {A : Type 0} → Value A → Bool
is_line_feed (control LineFeed) = true
is_line_feed _ = false

-- in a line, a value that is admitted and is no line feed; its own is written at its end
abbrev pub in_lines : {A : Type 0} → Bool → (Value A → Bool) → Value A → Bool
in_lines true admits v = not (is_line_feed v) && admits v
in_lines false admits v = admits v

-- the values of a stream that pass, in order
abbrev pub passed_values : {A : Type 0} → Option ℕ → (Value A → Bool) → List ℕ → List (Value A)
passed_values limit admits s = filter (passes admits) (meaning_within limit s)

-- the values that are written for them
abbrev pub passed_as : {A : Type 0} → Guard → Option ℕ → (Value A → Bool) → List ℕ
    → List (Value A)
passed_as u limit admits s = in_values u (passed_values limit admits s)

-- its text
abbrev pub passed_text_as : {A : Type 0} → Guard → Option ℕ → (Value A → Bool) → List ℕ
    → List ℕ
passed_text_as u limit admits s = list_text (passed_as u limit admits s)

-- the same if characters that deceive are kept
abbrev pub passed_text : {A : Type 0} → Option ℕ → (Value A → Bool) → List ℕ → List ℕ
passed_text limit admits s = list_text (passed_values limit admits s)

-- the values that are written: these, and once the stream has ended those that undo the changes
-- that they leave
abbrev pub when_ended : {A : Type 0} → Bool → (Value A → Bool) → List (Value A) → List (Value A)
when_ended true admits vs = closed_values admits vs
when_ended false admits vs = vs

-- the text of a stream that has ended
abbrev pub closed_text_as : {A : Type 0} → Guard → Option ℕ → (Value A → Bool) → List ℕ
    → List ℕ
closed_text_as u limit admits s = list_text (closed_values admits (passed_as u limit admits s))

abbrev pub closed_text : {A : Type 0} → Option ℕ → (Value A → Bool) → List ℕ → List ℕ
closed_text limit admits s = list_text (closed_values admits (passed_values limit admits s))

-- The facts about the text t that a filter wrote for the stream s, which has ended, or goes on; u
-- says how characters that deceive are written:
pub record IsFilteredAs {A : Type 0} (u : Guard) (has_ended : Bool) (limit : Option ℕ)
    (admits : Value A → Bool) (s t : List ℕ) : Type 0 where
  -- it is the text of the values that are written for those of the stream that pass, and of those
  -- that undo the changes that they leave
  pub text : t ≡ list_text (when_ended has_ended admits (passed_as u limit admits s))
  -- all of these can be written
  pub writable : AreWritable (when_ended has_ended admits (passed_as u limit admits s))
  -- it reads back as them, with the terminators of their strings, and as nothing else
  pub reads_back : meaning t ≡ normal (when_ended has_ended admits (passed_as u limit admits s))
  -- whatever bytes follow it, it reads so, and they read as they do by themselves
  pub whatever_follows : Reads t (normal (when_ended has_ended admits (passed_as u limit admits s)))

-- the same if they are kept
abbrev pub IsFiltered : {A : Type 0} → Bool → Option ℕ → (Value A → Bool) → List ℕ → List ℕ
    → Type 0
IsFiltered has_ended limit admits s t = IsFilteredAs keep_all has_ended limit admits s t
