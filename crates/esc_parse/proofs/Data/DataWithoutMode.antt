-- The data of a device control string that has no mode: only the end of the string gives a value.
use Rattle.std.proofs.Common.{ℕ, ◌≡◌, ◌≤◌, Bool, true, false, if◌then◌else◌, List, [], ◌∷◌, ◌++◌, map, take, drop, Option, refl, ap, sym, ◌∙◌, append_assoc, subst, take-append-drop}
use Rattle.std.proofs.lemmas.Bool.{and_parts}
use Rattle.std.proofs.lemmas.List.{append-nil, take-take}
use Rattle.std.proofs.lemmas.List.Folds.{list_all-append}
use Rattle.std.specs.List.{list_all, prefix_len}
use Rattle.esc_frame.specs.Classes.{is_c0, without_noise, bytes_of_class}
use Rattle.esc_frame.specs.Events.{Event}
use Rattle.esc_frame.specs.Events.Event.{DcsPut}
use Rattle.esc_frame.specs.Leads.{Unfinished, emitted_open, finished_events_within}
use Rattle.esc_frame.specs.Leads.Unfinished.{Ground, Pending, InEscape, InCsi, InOsc, InOscPending, InDcs, InData, InApc, InIgnored}
use Rattle.esc_frame.specs.Limits.{is_read, is_within}
use Rattle.esc_frame.specs.Machine.Moves.{after_all, events_all}
use Rattle.esc_frame.specs.Memory.{MayTake}
use Rattle.esc_frame.specs.Scans.{is_data_byte}
use Rattle.esc_frame.specs.Segments.{Opener, Segment, events_of_within, executes, hook_event, opener_events, puts}
use Rattle.esc_frame.specs.Stream.{IsAtGround, events_within}
use Rattle.esc_frame.proofs.Cut.CutAtGround.{to_ground}
use Rattle.esc_frame.proofs.Cut.CutExists.{stands}
use Rattle.esc_frame.proofs.Limit.GrowingSegments.{more_takes}
use Rattle.esc_frame.proofs.Emits.EventsAreTheCuts.{added_is, after_append}
use Rattle.esc_frame.proofs.ByteRuns.StringRuns.{all_pass, data_text}
use Rattle.esc_actions.proofs.Meaning.MeaningsJoin.{mode_append, yield_is}
use Rattle.esc_actions.proofs.Meaning.StreamMeansReadings.{closes, executes_keep, opener_keeps}
use Rattle.esc_actions.specs.Meaning.{mode_from, values_from, yield_within}
use Rattle.esc_actions.specs.Values.{Mode, plain, in_sixel, in_termcap, in_short, entered, data_count}
use Rattle.esc_parse.proofs.Data.CountedToLimit.{zero_within}
use Rattle.esc_parse.specs.Fed.{keeps_data}

finished_close : (limit : Option ℕ) (gs : List Segment)
    → mode_from plain (finished_events_within limit gs) ≡ plain
finished_close limit [] = refl
finished_close limit (g ∷ gs) =
    mode_append plain (events_of_within limit g true) (finished_events_within limit gs)
    ∙ ap (λ m. mode_from m (finished_events_within limit gs)) (closes limit g)
    ∙ finished_close limit gs

-- the machine is in such data, under this limit
abbrev IsInData : Option ℕ → Unfinished → Type 0
IsInData limit u = (o : Opener) × (x : List ℕ) × (f : ℕ) × (d : List ℕ)
    × (u ≡ InData o x f d) × (is_read limit (without_noise x) ≡ true)

not_plain : (T : Type 0) (m : Mode) → m ≡ plain → keeps_data m ≡ true → T
not_plain T m e h = let z : false ≡ true = sym (ap keeps_data e) ∙ h in absurd cc

is_read_data : (o : Opener) (t : Bool) (es : List Event)
    → keeps_data (mode_from plain (opener_events o ++ (if t then es else []))) ≡ true → t ≡ true
is_read_data o true es h = refl
is_read_data o false es h =
    not_plain (false ≡ true) (mode_from plain (opener_events o ++ []))
    (ap (mode_from plain) (append-nil (opener_events o)) ∙ opener_keeps plain o) h

open_in_data : (limit : Option ℕ) (u : Unfinished)
    → keeps_data (mode_from plain (emitted_open limit u)) ≡ true → IsInData limit u
open_in_data limit Ground h = absurd cc
open_in_data limit (Pending f) h = absurd cc
open_in_data limit (InEscape x) h = not_plain _ _ (executes_keep plain (bytes_of_class is_c0 x)) h
open_in_data limit (InCsi o x) h =
    not_plain _ _ (mode_append plain (opener_events o) (executes x)
    ∙ ap (λ m. mode_from m (executes x)) (opener_keeps plain o)
    ∙ executes_keep plain (bytes_of_class is_c0 x)) h
open_in_data limit (InDcs o x) h = not_plain _ _ (opener_keeps plain o) h
open_in_data limit (InData o x f d) h = (
  o,
  x,
  f,
  d,
  refl,
  is_read_data o (is_read limit (without_noise x))
      (hook_event (without_noise x) f ∷ puts d) h,
)
open_in_data limit (InApc o d) h = not_plain _ _ (opener_keeps plain o) h
open_in_data limit (InIgnored k o d) h = not_plain _ _ (opener_keeps plain o) h
open_in_data limit (InOsc o ps) h = not_plain _ _ (opener_keeps plain o) h
open_in_data limit (InOscPending o ps f) h = not_plain _ _ (opener_keeps plain o) h

in_data : (limit : Option ℕ) (s : List ℕ)
    → keeps_data (mode_from plain (events_within limit s)) ≡ true
    → IsInData limit (after_all Ground s)
in_data limit s h =
    let (gs, cut) = stands limit s in
    let u = after_all Ground s in
    let same : mode_from plain (events_within limit s) ≡ mode_from plain (emitted_open limit u) =
    ap (mode_from plain) cut.emitted
    ∙ mode_append plain (finished_events_within limit gs) (emitted_open limit u)
    ∙ ap (λ m. mode_from m (emitted_open limit u)) (finished_close limit gs) in
    open_in_data limit u (sym (ap keeps_data same) ∙ h)

data_gives : {A : Type 0} (limit : Option ℕ) (m : Mode) (ys : List ℕ) → keeps_data m ≡ true
    → values_from {A = A} limit m (map DcsPut ys) ≡ []
data_gives limit m [] h = refl
data_gives limit plain (y ∷ ys) h = absurd cc
data_gives limit (in_sixel ps d) (y ∷ ys) h = data_gives limit (in_sixel ps (d ++ y ∷ [])) ys refl
data_gives limit (in_termcap d) (y ∷ ys) h = data_gives limit (in_termcap (d ++ y ∷ [])) ys refl
data_gives limit (in_short ps is f d) (y ∷ ys) h =
    data_gives limit (in_short ps is f (d ++ y ∷ [])) ys refl
data_gives limit entered (y ∷ ys) h = absurd cc

-- such data yields nothing and leaves the string unfinished
pub data_is_silent : (A : Type 0) (limit : Option ℕ) (s ys : List ℕ)
    → keeps_data (mode_from plain (events_within limit s)) ≡ true
    → list_all is_data_byte ys ≡ true
    → (yield_within {A = A} limit s ys ≡ []) × (IsAtGround (s ++ ys) → ⊥)
data_is_silent A limit s ys h all =
    let (o, x, f, d, is, read) = in_data limit s h in
    let run = data_text limit o x f d ys read all in (
      yield_is limit s ys
          ∙ ap (values_from limit (mode_from plain (events_within limit s)))
          (added_is limit s ys ∙ ap (λ u. events_all limit u ys) is ∙ run.1)
          ∙ data_gives limit (mode_from plain (events_within limit s)) ys h,
      λ ground.
          let e : Ground ≡ InData o x f (d ++ ys) =
          sym (to_ground (s ++ ys) ground) ∙ after_append Ground s ys
          ∙ ap (λ u. after_all u ys) is ∙ run.0 in absurd cc,
    )

pub prefix_all : (p : ℕ → Bool) (xs : List ℕ) (n k : ℕ) → k ≤ n
    → list_all p (take n xs) ≡ true → list_all p (take k xs) ≡ true
prefix_all p xs n k l h =
    let prefix = take k (take n xs) in
    ap (list_all p) (sym (take-take k n xs l))
    ∙ (and_parts (list_all p prefix) (list_all p (drop k (take n xs)))
    (sym (list_all-append p prefix (drop k (take n xs)))
    ∙ ap (list_all p) (take-append-drop k (take n xs)) ∙ h)).0

pub takes_whole : (s bs : List ℕ) (n : ℕ) → MayTake (s ++ take n bs) → MayTake (s ++ bs)
takes_whole s bs n h =
    subst MayTake (append_assoc s (take n bs) (drop n bs)
    ∙ ap (λ l. s ++ l) (take-append-drop n bs))
    (more_takes (s ++ take n bs) (drop n bs) h)

pub run_is_data : (xs : List ℕ) (n : ℕ) → n ≡ prefix_len is_data_byte xs
    → list_all is_data_byte (take n xs) ≡ true
run_is_data xs n e = all_pass is_data_byte xs n e

-- more data than the limit is kept of no mode
pub keeps_over : (limit : Option ℕ) (m : Mode) → is_within limit (data_count m) ≡ false
    → keeps_data m ≡ true
keeps_over limit plain h = let z = zero_within limit in absurd cc
keeps_over limit (in_sixel ps d) h = refl
keeps_over limit (in_termcap d) h = refl
keeps_over limit (in_short ps is f d) h = refl
keeps_over limit entered h = let z = zero_within limit in absurd cc
