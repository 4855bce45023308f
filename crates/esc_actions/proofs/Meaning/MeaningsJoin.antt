-- The meaning of events and streams, one after another.
use Rattle.std.proofs.Common.{◌≡◌, ℕ, List, [], ◌∷◌, ◌++◌, length, drop, refl, ap, sym, ◌∙◌, append_assoc, Option}
use Rattle.std.proofs.Math.Seq.{drop-append_seam}
use Rattle.esc_frame.specs.Events.{Event}
use Rattle.esc_frame.specs.Stream.{events_within, added_within}
use Rattle.esc_frame.proofs.Emits.EventsAreTheCuts.{events_more}
use Rattle.esc_actions.specs.Meaning.{meaning_within, mode_from, values_from, yield_within}
use Rattle.esc_actions.specs.Values.{Mode, Value, mode_after, event_values, plain}

pub mode_append : (m : Mode) (es fs : List Event)
    → mode_from m (es ++ fs) ≡ mode_from (mode_from m es) fs
mode_append m [] fs = refl
mode_append m (e ∷ es) fs = mode_append (mode_after m e) es fs

pub values_append : {A : Type 0} (limit : Option ℕ) (m : Mode) (es fs : List Event)
    → values_from {A = A} limit m (es ++ fs) ≡ values_from limit m es
    ++ values_from limit (mode_from m es) fs
values_append limit m [] fs = refl
values_append limit m (e ∷ es) fs =
    ap (λ x. event_values limit m e ++ x) (values_append limit (mode_after m e) es fs)
    ∙ sym (append_assoc (event_values limit m e) (values_from limit (mode_after m e) es)
    (values_from limit (mode_from (mode_after m e) es) fs))

-- the string that is unfinished after s and b, and after nothing
pub mode_more : (limit : Option ℕ) (s b : List ℕ)
    → mode_from (mode_from plain (events_within limit s)) (added_within limit s b)
    ≡ mode_from plain (events_within limit (s ++ b))
mode_more limit s b = sym (mode_append plain (events_within limit s) (added_within limit s b))
    ∙ ap (mode_from plain) (events_more limit s b)

nothing_within : (limit : Option ℕ) → events_within limit [] ≡ []
unfolding events_within
nothing_within limit = refl

pub mode_nil : (limit : Option ℕ) → mode_from plain (events_within limit []) ≡ plain
mode_nil limit = ap (mode_from plain) (nothing_within limit)

-- the values that b adds, by its events
added_values : {A : Type 0} (limit : Option ℕ) (s b : List ℕ)
    → meaning_within {A = A} limit s ++ values_from limit (mode_from plain (events_within limit s))
    (added_within limit s b) ≡ meaning_within limit (s ++ b)
unfolding meaning_within
added_values limit s b =
    sym (values_append limit plain (events_within limit s) (added_within limit s b))
    ∙ ap (values_from limit plain) (events_more limit s b)

pub yield_is : {A : Type 0} (limit : Option ℕ) (s b : List ℕ)
    → yield_within {A = A} limit s b ≡ values_from limit (mode_from plain (events_within limit s))
    (added_within limit s b)
unfolding yield_within
yield_is {A = A} limit s b =
    ap (drop (length (meaning_within {A = A} limit s))) (sym (added_values limit s b))
    ∙ drop-append_seam (meaning_within limit s)
    (values_from limit (mode_from plain (events_within limit s)) (added_within limit s b))

pub meaning_more : {A : Type 0} (limit : Option ℕ) (s b : List ℕ)
    → meaning_within {A = A} limit s ++ yield_within limit s b ≡ meaning_within limit (s ++ b)
meaning_more limit s b =
    ap (λ x. meaning_within limit s ++ x) (yield_is limit s b) ∙ added_values limit s b

pub meaning_nil : {A : Type 0} (limit : Option ℕ) → meaning_within {A = A} limit [] ≡ []
unfolding meaning_within
meaning_nil limit = ap (values_from limit plain) (nothing_within limit)

pub yield_whole : {A : Type 0} (limit : Option ℕ) (s : List ℕ)
    → yield_within {A = A} limit [] s ≡ meaning_within limit s
yield_whole limit s = ap (λ x. x ++ yield_within limit [] s) (sym (meaning_nil limit))
    ∙ meaning_more limit [] s

pub meaning_by : {A : Type 0} (limit : Option ℕ) (s b : List ℕ) (had got : List (Value A))
    → had ≡ meaning_within limit s
    → got ≡ had ++ yield_within limit s b → got ≡ meaning_within limit (s ++ b)
meaning_by limit s b had got e f =
    f ∙ ap (λ x. x ++ yield_within limit s b) e ∙ meaning_more limit s b
