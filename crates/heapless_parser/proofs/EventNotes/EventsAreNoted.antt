-- Events that are noted, one after another.
use Rattle.std.proofs.Common.{ℕ, ◌≡◌, ◌≢◌, ◌≤◌, ◌<◌, ◌+◌, ◌-◌, min, Bool, true, false, List, [], ◌∷◌, ◌++◌, length, Option, Some}
use Rattle.std.proofs.Common.{refl, ap, sym, ◌∙◌, subst, append_assoc, inl, arith}
use Rattle.std.proofs.lemmas.List.{append-nil}
use Rattle.std.specs.List.{FoldsTo}
use Rattle.esc_values.specs.Clear.{semicolon_list, parts_of}
use Rattle.esc_values.proofs.Clear.SplitAndJoined.{joined_parts}
use Rattle.esc_frame.specs.Events.{Event, StopsAt}
use Rattle.esc_frame.specs.Limits.{is_within, most}
use Rattle.heapless_parser.specs.declared.event.EscEvent.{EscEvent}
use Rattle.heapless_parser.specs.Noted.{Adds, AreNotable, IsSound}
use Rattle.heapless_parser.specs.Emitted.{said_events, is_run}
use Rattle.heapless_parser.proofs.InChunks.CommandsLieWhole.{within, within_only}

pub parts_room : (place : ℕ) (t : List ℕ) → length (semicolon_list (parts_of t)) ≤ place → length t
    ≤ place
parts_room place t h = subst (λ y. length y ≤ place) (joined_parts t) h

-- a text that has no room in a store as long as the limit does not fit
pub no_room : (limit : Option ℕ) (room count more : ℕ) (fits : Bool)
    → ((n : ℕ) → is_within limit n ≡ true → count ≡ min n most
    → fits ≡ is_within limit (n + more))
    → fits ≡ true → count ≤ room → count ≤ most → room - count < more → limit ≢ Some room
no_room limit room count more fits f so low small much = λ e.
    let before : is_within limit count ≡ true =
    ap (λ l. is_within l count) e ∙ within room count low in
    let all : is_within (Some room) (count + more) ≡ true =
    sym (ap (λ l. is_within l (count + more)) e)
    ∙ sym (f count before (omega (arith, small))) ∙ so in
    omega (arith, within_only room (count + more) all, low, much)

pub takes_first : {S : Type 0} (takes : S → Event → S → Type 0) (e : Event) (old new : S)
    → takes old e new → FoldsTo takes old (e ∷ []) new
takes_first takes e old new h = (new, h, refl)

pub stops_first : {S : Type 0} (own : Type 0) (takes refuses : S → Event → S → Type 0) (e : Event)
    (old : S) → own → StopsAt own takes refuses old (e ∷ []) old
stops_first own takes refuses e old o = ([], e ∷ [], refl, inl (o, refl))

module _ {S : Type 0} (event : S → EscEvent) (out : S → List ℕ) (queued value : S → ℕ)
    (lost : S → Bool) (place : ℕ) where
  abbrev pub Notes : S → Event → S → Type 0
  Notes p x q =
      Adds place (event p) (out p) (queued p) (value p) (lost p) x (event q) (out q) (queued q)
      (value q)
      (lost q)

  abbrev pub says : S → List Event
  says p = said_events (event p) (out p) (queued p) (value p)

  pub all_noted : (es : List Event) (old new : S) → FoldsTo Notes old es new → lost new ≡ false
      → (lost old ≡ false) × (says new ≡ says old ++ es)
  all_noted [] old new e h = (ap lost e ∙ h, ap says (sym e) ∙ sym (append-nil (says old)))
  all_noted (x ∷ es) old new (j, a, r) h =
      let q = all_noted es j new r h in
      let k = a.0 q.0 in
      (k.0, q.1 ∙ ap (λ y. y ++ es) k.1 ∙ append_assoc (says old) (x ∷ []) es)

  pub all_run : (es : List Event) (old new : S) → FoldsTo Notes old es new
      → is_run (event old).kind ≡ false → is_run (event new).kind ≡ false
  all_run [] old new e h = subst (λ s. is_run (event s).kind ≡ false) e h
  all_run (x ∷ es) old new (j, a, r) h = all_run es j new r (a.1 h)

  pub all_sound : (es : List Event) (old new : S) → FoldsTo Notes old es new
      → IsSound (event old) place → IsSound (event new) place
  all_sound [] old new e h = subst (λ s. IsSound (event s) place) e h
  all_sound (x ∷ es) old new (j, a, r) h =
      all_sound es j new r (a.1 h.0, a.2 h.1, a.3 h.2, a.4 h.3, a.5 h.4)

  -- no notable event is lost
  pub none_lost : (es : List Event) (old new : S) → AreNotable place es → FoldsTo Notes old es new
      → lost old ≡ false → (event old).kind ≡ 0 → queued old ≡ 0
      → (lost new ≡ false) × ((event new).kind ≡ 0 → queued new ≡ 0)
  none_lost [] old new n e l k d = (ap lost (sym e) ∙ l, λ _. ap queued (sym e) ∙ d)
  none_lost (x ∷ []) old new n (j, a, e) l k d =
      let q = a.6 n l k d in
      (ap lost (sym e) ∙ q.0, λ z. absurd (q.1 (ap (λ s. (event s).kind) e ∙ z)))
  none_lost (x ∷ y ∷ []) old new n (j, a, (i, b, e)) l k d =
      let q = a.6 n.0 l k d in
      let w = b.7 n.1 q.0 q.1 q.2 in
      (ap lost (sym e) ∙ w.0, λ z. absurd (w.1 (ap (λ s. (event s).kind) e ∙ z)))
  none_lost (x ∷ y ∷ z ∷ es) old new n f l k d = absurd n
