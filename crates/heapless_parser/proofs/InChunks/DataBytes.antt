-- Bytes of data, and of ignored strings, that lie in a later chunk than the opener.
use Rattle.std.proofs.Common.{ℕ, ◌≡◌, Bool, true, false, not, ◌&&◌, List, [], ◌∷◌, ◌++◌, length, refl, ap, sym, ◌∙◌, subst, Some, Option, if◌then◌else◌}
use Rattle.std.specs.List.{list_all}
use Rattle.esc_frame.specs.declared.classes.Class.{Class}
use Rattle.esc_frame.specs.declared.classes.Class.TheVariants.{Breaks, C0, Bell, High, Lead, Intermediate, Parameter, Introducer, Final, Delete}
use Rattle.esc_frame.specs.declared.classes.Breaker.TheVariants.{Escape}
use Rattle.esc_frame.specs.Classes.{class_of, is_breaker, is_put, is_text}
use Rattle.esc_frame.specs.Events.{Event}
use Rattle.esc_frame.specs.Events.Event.{DcsPut, DcsUnhook}
use Rattle.esc_frame.specs.Leads.{Unfinished}
use Rattle.esc_frame.specs.Leads.Unfinished.{InEscape, InData, InIgnored}
use Rattle.esc_frame.specs.Machine.Moves.{after_all, events_all, emitting, ground_move, leaving, move_inside, goes_on, move}
use Rattle.esc_frame.proofs.ByteRuns.ManyBytes.{quiet_run, text_class}
use Rattle.esc_frame.specs.Scans.{is_text_byte}
use Rattle.heapless_parser.specs.declared.event.EscEvent.{EscEvent}
use Rattle.heapless_parser.specs.declared.parser.EscParser.{EscParser}
use Rattle.heapless_parser.specs.Numbers.{state_numbered}
use Rattle.heapless_parser.specs.Runs.{Notes, Passes}
use Rattle.heapless_parser.specs.States.{KeptIn}
use Rattle.heapless_parser.specs.Emitted.{sent_events}
use Rattle.heapless_parser.proofs.InChunks.OneByteLater.{by_move, moves_on}
use Rattle.heapless_parser.proofs.KeptState.StateHasOnly.{data_only, ignored_only}
use Rattle.heapless_parser.proofs.InChunks.CommandsLieWhole.{in_escape}

-- ---- data

-- the event of a byte, if it has one
abbrev pub put_of : ℕ → Bool → List Event
put_of b t = if t then DcsPut b ∷ [] else []

pub put_notes : (p : EscParser) (e : EscEvent) (b : ℕ) (c : Class) (t : Bool) → p.state ≡ 5
    → c ≡ class_of b → is_breaker c ≡ false → is_put c ≡ t
    → ((out : List ℕ) → sent_events e out ≡ put_of b t)
    → (out : List ℕ) (limit : ℕ) → Notes p p e out limit (b ∷ [])
put_notes p e b c t five is off put says out limit = λ u memory room h.
    let l = Some (length memory) in
    data_only p memory (λ u. KeptIn p memory (after_all u (b ∷ []))
    × (sent_events e out ≡ events_all (Some limit) u (b ∷ []))) five
    (λ o x f d read.
    let k = by_move l (InData o x f d) (InData o x f (d ++ b ∷ [])) b (put_of b t)
    (sym (ap (move_inside l (InData o x f d) b) is)
    ∙ ap (λ t. if t then emitting (leaving l (InData o x f d)) (ground_move b c) else
    goes_on l (InData o x f d) b c) off
    ∙ ap (λ r. (InData o x f (d ++ b ∷ []), put_of b (r && is_put c))) read
    ∙ ap (λ r. (InData o x f (d ++ b ∷ []), put_of b r)) put) in (
      subst (KeptIn p memory) (sym k.0) (rw read (ap state_numbered five)),
      says out ∙ sym k.1
          ∙ ap (λ n. events_all (Some n) (InData o x f d) (b ∷ [])) room,
    )) u h

pub end_notes : (p q : EscParser) (e : EscEvent) (b : ℕ) → p.state ≡ 5 → q.state ≡ 1 → q.kept ≡ 0
    → q.has_more ≡ false → class_of b ≡ (Breaks Escape) → e.kind ≡ 10
    → (out : List ℕ) (limit : ℕ) → Notes p q e out limit (b ∷ [])
end_notes p q e b five one kept more is kind out limit = λ u memory room h.
    let l = Some (length memory) in
    data_only p memory (λ u. KeptIn q memory (after_all u (b ∷ []))
    × (sent_events e out ≡ events_all (Some limit) u (b ∷ []))) five
    (λ o x f d read.
    let k = by_move l (InData o x f d) (InEscape []) b (DcsUnhook ∷ [])
    (ap (move_inside l (InData o x f d) b) is
    ∙ ap (λ r. (InEscape [], (if r then DcsUnhook ∷ [] else []) ++ [])) read) in (
      subst (KeptIn q memory) (sym k.0) (in_escape q memory one kept more),
      rw kind (sym k.1 ∙ ap (λ n. events_all (Some n) (InData o x f d) (b ∷ [])) room),
    )) u h

-- ---- ignored strings

pub unbroken : (t : Bool) → not t ≡ true → t ≡ false
unbroken true h = absurd cc
unbroken false h = refl

no_breaker : (c : Class) → is_text c ≡ true → is_breaker c ≡ false
no_breaker (Breaks k) h = absurd cc
no_breaker _ h = refl

pub text_goes_on : (b : ℕ) → is_text_byte b ≡ true → is_breaker (class_of b) ≡ false
text_goes_on b h = no_breaker (class_of b) (text_class b h)

-- bytes, none of which breaks the string off
module _ (p : ℕ → Bool) (each : (b : ℕ) → p b ≡ true → is_breaker (class_of b) ≡ false)
    (q : EscParser) (six : q.state ≡ 6) (ys : List ℕ) (all : list_all p ys ≡ true) where
  over : (l : Option ℕ) (u : List ℕ → Unfinished)
      → ((d : List ℕ) (b : ℕ) → goes_on l (u d) b (class_of b) ≡ (u (d ++ b ∷ []), []))
      → ((d : List ℕ) (b : ℕ) → move l (u d) b (class_of b) ≡ move_inside l (u d) b (class_of b))
      → (d : List ℕ) → (after_all (u d) ys ≡ u (d ++ ys)) × (events_all l (u d) ys ≡ [])
  over l u goes is d = quiet_run l u p (λ d b h. is d b
      ∙ ap (λ t. if t then emitting (leaving l (u d)) (ground_move b (class_of b)) else
      goes_on l (u d) b (class_of b)) (each b h) ∙ goes d b) d ys all

  pub skip_passes : Passes q q ys
  skip_passes = λ memory.
      let l = Some (length memory) in
      ignored_only q memory (λ u. KeptIn q memory (after_all u ys) × (events_all l u ys ≡ [])) six
      (λ k o d. let r = over l (InIgnored k o) (λ d b. refl) (λ d b. refl) d in
      (subst (KeptIn q memory) (sym r.0) (ap state_numbered six), r.1))
      (λ o x f d read.
      let r = over l (InData o x f)
      (λ d b. ap (λ t. (InData o x f (d ++ b ∷ []), put_of b (t && is_put (class_of b)))) read)
      (λ d b. refl) d in
      (subst (KeptIn q memory) (sym r.0) (rw read (ap state_numbered six)), r.1))

pub skip_ends : (p q : EscParser) (b : ℕ) → p.state ≡ 6 → q.state ≡ 1 → q.kept ≡ 0
    → q.has_more ≡ false → class_of b ≡ (Breaks Escape) → Passes p q (b ∷ [])
skip_ends p q b six one kept more is = λ memory.
    let l = Some (length memory) in
    let ends = in_escape q memory one kept more in
    ignored_only p memory (λ u. KeptIn q memory (after_all u (b ∷ []))
    × (events_all l u (b ∷ []) ≡ [])) six
    (λ k o d. moves_on q memory l (InIgnored k o d) (InEscape []) b
    (ap (move_inside l (InIgnored k o d) b) is) ends)
    (λ o x f d read. moves_on q memory l (InData o x f d) (InEscape []) b
    (ap (move_inside l (InData o x f d) b) is
    ∙ ap (λ r. (InEscape [], (if r then DcsUnhook ∷ [] else []) ++ [])) read) ends)
