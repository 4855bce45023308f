-- Commands that lie whole in some bytes.
use Rattle.std.proofs.Common.{ℕ, ◌≡◌, ◌+◌, ◌<◌, ◌≤◌, true, false, List, [], ◌∷◌, ◌++◌, take, drop, length, get_or, refl, ap, sym, ◌∙◌}
use Rattle.std.proofs.Common.{subst, Some, Option, arith}
use Rattle.std.proofs.Math.Seq.{take-add}
use Rattle.std.proofs.lemmas.List.{append-nil}
use Rattle.std.proofs.lemmas.Bool.Decides.{nat_tests}
use Rattle.esc_values.specs.Clear.{parts_of}
use Rattle.esc_frame.specs.declared.classes.Class.{Class}
use Rattle.esc_frame.specs.declared.classes.Class.TheVariants.{Bell, Breaks}
use Rattle.esc_frame.specs.declared.classes.Breaker.TheVariants.{Escape}
use Rattle.esc_frame.specs.Classes.{class_of}
use Rattle.esc_frame.specs.Events.Event.{OscDispatch}
use Rattle.esc_frame.specs.Leads.{Unfinished}
use Rattle.esc_frame.specs.Leads.Unfinished.{Ground, InEscape, InOsc}
use Rattle.esc_frame.specs.Limits.{is_within}
use Rattle.esc_frame.specs.Machine.Moves.{after_all, events_all, after_by, events_by}
use Rattle.esc_frame.specs.Machine.TextRuns.{IsTextRun}
use Rattle.esc_frame.specs.Segments as segments
use Rattle.esc_frame.specs.Segments.{osc_events}
use Rattle.esc_frame.specs.Segments.Opener.{Long}
use Rattle.esc_frame.proofs.ByteRuns.CsiRuns.{osc_opens, escape_class}
use Rattle.esc_frame.proofs.Borrow.BytesAreLent.{after_more}
use Rattle.esc_frame.proofs.Borrow.LentStrings.{osc_emitted}
use Rattle.esc_frame.proofs.ByteRuns.QuietRuns.{quiet_after, quiet_events}
use Rattle.esc_frame.proofs.Emits.EventsAreTheCuts.{events_append}
use Rattle.heapless_parser.specs.declared.event.EscEvent.{EscEvent}
use Rattle.heapless_parser.specs.declared.parser.EscParser.{EscParser}
use Rattle.heapless_parser.specs.Numbers.{state_numbered, begun_bytes}
use Rattle.heapless_parser.specs.Runs.{Notes}
use Rattle.heapless_parser.specs.States.{KeptIn, FirstIn}
use Rattle.heapless_parser.specs.Emitted.{sent_events, text_of}
use Rattle.heapless_parser.proofs.KeptState.UnfinishedByState.{ground_only}

-- ---- a parser that keeps nothing, or an ESC alone

pub in_ground : (q : EscParser) (memory : List ℕ) → q.state ≡ 0 → q.pending ≡ 0
    → KeptIn q memory Ground
in_ground q memory zero none =
    (ap state_numbered zero, ap (λ n. begun_bytes n q.first q.second q.third) none)

pub in_escape : (q : EscParser) (memory : List ℕ) → q.state ≡ 1 → q.kept ≡ 0 → q.has_more ≡ false
    → KeptIn q memory (InEscape [])
in_escape q memory one none more = let first : FirstIn q [] =
    (ap (λ n. take n q.intermediates) none, more, none) in (ap state_numbered one, first)

-- from ground
pub from_ground : (p q : EscParser) (e : EscEvent) (out : List ℕ) (limit : ℕ) (x : List ℕ)
    (v : Unfinished) → p.state ≡ 0 → p.pending ≡ 0
    → after_all Ground x ≡ v → sent_events e out ≡ events_all (Some limit) Ground x
    → ((memory : List ℕ) → KeptIn q memory v) → Notes p q e out limit x
from_ground p q e out limit x v zero none after new_events keeps = λ u memory room h.
    let g = ground_only p memory zero none u h in (
      subst (KeptIn q memory) (sym (ap (λ w. after_all w x) g ∙ after)) (keeps memory),
      new_events ∙ sym (ap (λ w. events_all (Some limit) w x) g),
    )

-- ---- an operating system command

pub bell_class : (b : ℕ) → b ≡ 0x07 → Bell ≡ class_of b
unfolding class_of
bell_class b e = rw e refl

pub escape_at : (b : ℕ) → b ≡ 0x1b → (Breaks Escape) ≡ class_of b
escape_at b e = sym (ap class_of e ∙ escape_class)

pub within : (limit n : ℕ) → n ≤ limit → is_within (Some limit) n ≡ true
within limit n h = grind (arith, nat_tests)

pub within_only : (limit n : ℕ) → is_within (Some limit) n ≡ true → n ≤ limit
within_only limit n h = grind (arith, nat_tests)

module _ (limit : Option ℕ) (rest : List ℕ) (run : ℕ) (some : 2 < length rest) (e : get_or rest 0 0
    ≡ 0x1b) (b : get_or rest 1 0 ≡ 0x5d)
    (units : IsTextRun (take run (drop 2 rest))) (room : run + 2 < length rest) where
  abbrev text : List ℕ
  text = take run (drop 2 rest)

  -- the opener and the text
  osc_run : (after_all Ground (take (run + 2) rest) ≡ InOsc (Long []) units.0)
      × (events_all limit Ground (take (run + 2) rest) ≡ [])
  osc_run =
      let begin = osc_opens limit rest (omega arith) e b in
      let q = units.2 limit (Long []) [] in
      let back : run + 2 ≡ 2 + run = omega arith in (
        ap (λ n. after_all Ground (take n rest)) back ∙ after_more Ground rest 2 run
            ∙ ap (λ u. after_all u text) begin.0 ∙ q.0,
        ap (λ n. events_all limit Ground (take n rest)) back
            ∙ ap (events_all limit Ground) (take-add 2 run rest)
            ∙ events_append limit Ground (take 2 rest) text
            ∙ ap (λ es. es ++ events_all limit (after_all Ground (take 2 rest)) text) begin.1
            ∙ ap (λ u. events_all limit u text) begin.0 ∙ q.1,
      )

  three : run + 3 ≡ run + 2 + 1
  three = omega arith

  module _ (c : Class) (is : c ≡ class_of (get_or rest (run + 2) 0)) where
    osc_after : after_all Ground (take (run + 3) rest)
        ≡ after_by (InOsc (Long []) units.0) (get_or rest (run + 2) 0) c
    osc_after =
        ap (λ n. after_all Ground (take n rest)) three
        ∙ quiet_after {S = Unit {0}} limit (λ _ _ _. Unit {0}) (λ _ _ _.
        Unit {0}) Ground (InOsc (Long []) units.0) rest (run + 2) c tt tt osc_run room is

    osc_adds : events_all limit Ground (take (run + 3) rest)
        ≡ events_by limit (InOsc (Long []) units.0)
        (get_or rest (run + 2) 0) c
    osc_adds =
        ap (λ n. events_all limit Ground (take n rest)) three
        ∙ quiet_events {S = Unit {0}} limit (λ _ _ _. Unit {0}) (λ _ _ _.
        Unit {0}) Ground (InOsc (Long []) units.0) rest (run + 2) c tt tt osc_run room is

  -- the event
  module _ (fits : is_within limit (length text) ≡ true) where
    emitted : osc_events limit (segments.text_of units.0) ≡ OscDispatch (parts_of text) ∷ []
    emitted = ap (osc_events limit) units.1 ∙ sym (osc_emitted limit text fits)

    pub bell_ends : get_or rest (run + 2) 0 ≡ 0x07
        → (after_all Ground (take (run + 3) rest) ≡ Ground)
        × (events_all limit Ground (take (run + 3) rest) ≡ OscDispatch (parts_of text) ∷ [])
    bell_ends h = let k = bell_class _ h in (osc_after Bell k, osc_adds Bell k ∙ emitted)

    pub escape_ends : get_or rest (run + 2) 0 ≡ 0x1b
        → (after_all Ground (take (run + 3) rest) ≡ InEscape [])
        × (events_all limit Ground (take (run + 3) rest) ≡ OscDispatch (parts_of text) ∷ [])
    escape_ends h = let k = escape_at _ h in (
      osc_after (Breaks Escape) k,
      osc_adds (Breaks Escape) k ∙ append-nil (osc_events limit (segments.text_of units.0))
          ∙ emitted,
    )

pub osc_said : (e : EscEvent) (out t : List ℕ) → e.kind ≡ 6 → text_of e out ≡ t
    → sent_events e out ≡ OscDispatch (parts_of t) ∷ []
osc_said e out t kind h = rw kind (ap (λ y. OscDispatch (parts_of y) ∷ []) h)
