-- Bytes that were taken in several steps.
use Rattle.std.proofs.Common.{ℕ, ◌≡◌, ◌+◌, ◌-◌, List, [], ◌++◌, take, drop, length, refl, ap, sym, ◌∙◌, subst, Some, None, Option, append_assoc}
use Rattle.std.proofs.Math.Seq.{take-add}
use Rattle.std.proofs.lemmas.List.{append-nil, take_rest}
use Rattle.std.specs.Str.{IsUtf8}
use Rattle.esc_frame.specs.Events.{Event}
use Rattle.esc_frame.specs.Leads.{Unfinished}
use Rattle.esc_frame.specs.Leads.Unfinished.{Ground}
use Rattle.esc_frame.specs.Machine.Moves.{after_all, events_all}
use Rattle.esc_frame.specs.Stream.{events_within}
use Rattle.esc_frame.proofs.Emits.EventsAreTheCuts.{after_append, events_append, added_is}
use Rattle.heapless_parser.specs.declared.event.EscEvent.{EscEvent}
use Rattle.heapless_parser.specs.declared.parser.EscParser.{EscParser}
use Rattle.heapless_parser.specs.Limited.{IsLimited, AddsFewer}
use Rattle.heapless_parser.specs.Runs.{Emits}
use Rattle.heapless_parser.specs.States.{KeptIn, HasConsumed}
use Rattle.heapless_parser.specs.Emitted.{emitted_events, placed_bytes, emitted_by, queued_of}
use Rattle.heapless_parser.proofs.EventNotes.LimitAddsNoEvent.{fewer_then}

module _ (bytes : List ℕ) (at n : ℕ) where
  abbrev tail : List ℕ
  tail = take (length bytes - at) (drop at bytes)

  joined : take (at + n) bytes ≡ take at bytes ++ take n tail
  joined = take-add at n bytes ∙ ap (λ y. take at bytes ++ take n y) (sym (take_rest bytes at))

  pub after_both : (u : Unfinished)
      → after_all u (take (at + n) bytes) ≡ after_all (after_all u (take at bytes)) (take n tail)
  after_both u = ap (after_all u) joined ∙ after_append u (take at bytes) (take n tail)

  pub events_both : (limit : Option ℕ) (u : Unfinished) → events_all limit u (take at bytes) ≡ []
      → events_all limit u (take (at + n) bytes) ≡ events_all limit (after_all u (take at bytes))
      (take n tail)
  events_both limit u e =
      ap (events_all limit u) joined ∙ events_append limit u (take at bytes) (take n tail)
      ∙ ap (λ es. es ++ events_all limit (after_all u (take at bytes)) (take n tail)) e

  pub limited_both : (limit : ℕ) (u : Unfinished)
      → IsLimited limit (after_all u (take at bytes)) (take n tail)
      → IsLimited limit u (take (at + n) bytes)
  limited_both limit u h =
      subst (IsLimited limit u) (sym joined) (fewer_then limit u (take at bytes) (take n tail) h)

  -- a run that lies at the first byte of the tail
  pub emitted_placed : (e : EscEvent) (out : List ℕ)
      → emitted_events (record e { start = at }) out bytes ≡ emitted_by e out (take e.length tail)
  emitted_placed e out = ap (λ y. emitted_by e out (take e.length y)) (sym (take_rest bytes at))

  pub utf8_placed : (e : EscEvent) → IsUtf8 (take e.length tail)
      → IsUtf8 (placed_bytes (record e { start = at }) bytes)
  utf8_placed e h = subst (λ y. IsUtf8 (take e.length y)) (take_rest bytes at) h

-- no event stands for no event of the stream
pub says_nothing : (e : EscEvent) (out run : List ℕ) → e.kind ≡ 0 → emitted_by e out run ≡ []
says_nothing e out run h = rw h refl

-- bytes were taken, and the event of them was handed out
pub at_more : (s bytes : List ℕ) (n : ℕ) (es : List Event) (old new : EscParser)
    (memory later : List ℕ) (said : List Event) → length later ≡ length memory
    → new.has_failed ≡ old.has_failed → queued_of old.queued_kind old.queued_value ≡ []
    → ((u : Unfinished) → KeptIn old memory u → KeptIn new later (after_all u (take n bytes)))
    → ((u : Unfinished) → KeptIn old memory u
    → said ++ queued_of new.queued_kind new.queued_value
    ≡ events_all (Some (length memory)) u (take n bytes))
    → HasConsumed s es old memory → HasConsumed (s ++ take n bytes) (es ++ said) new later
unfolding HasConsumed events_within
at_more s bytes n es old new memory later said same failed queued kept emitted_events h =
    let x = take n bytes in
    let u = after_all Ground s in
    let limit = Some (length memory) in
    let before : events_all limit Ground s ≡ es =
    h.2 ∙ ap (λ y. es ++ y) queued ∙ append-nil es in (
      failed ∙ h.0,
      subst (KeptIn new later) (sym (after_append Ground s x)) (kept u h.1),
      ap (λ k. events_all (Some k) Ground (s ++ x)) same ∙ events_append limit Ground s x
          ∙ ap (λ y. y ++ events_all limit u x) before
          ∙ ap (λ y. es ++ y) (sym (emitted_events u h.1))
          ∙ sym (append_assoc es said (queued_of new.queued_kind new.queued_value)),
    )

-- the queued event was handed out
pub at_queued : (s bytes : List ℕ) (es : List Event) (old new : EscParser) (memory : List ℕ)
    (said : List Event) → new.has_failed ≡ old.has_failed
    → said ≡ queued_of old.queued_kind old.queued_value
    → queued_of new.queued_kind new.queued_value ≡ []
    → ((u : Unfinished) → KeptIn old memory u → KeptIn new memory u)
    → HasConsumed s es old memory → HasConsumed (s ++ take 0 bytes) (es ++ said) new memory
unfolding HasConsumed
at_queued s bytes es old new memory said failed emitted_events queued kept h =
    let e : s ++ take 0 bytes ≡ s = append-nil s in
    subst (λ y. HasConsumed y (es ++ said) new memory) (sym e) (
      failed ∙ h.0,
      kept _ h.1,
      h.2 ∙ ap (λ y. es ++ y) (sym emitted_events) ∙ sym (append-nil (es ++ said))
          ∙ ap (λ y. (es ++ said) ++ y) (sym queued),
    )

-- an event of the first bytes, of a parser that stays as it is
pub at_first : (s bytes : List ℕ) (n : ℕ) (es : List Event) (p : EscParser) (memory : List ℕ)
    (e : EscEvent) (out : List ℕ) → e.start ≡ 0
    → queued_of p.queued_kind p.queued_value ≡ []
    → Emits p p e out (length memory) bytes (take n bytes)
    → HasConsumed s es p memory
    → HasConsumed (s ++ take n bytes) (es ++ emitted_events e out bytes) p memory
at_first s bytes n es p memory e out start queued emits h =
    at_more s bytes n es p p memory memory (emitted_events e out bytes) refl refl queued (λ u k.
    (emits u memory refl k).0)
    (λ u k.
    ap (λ y. emitted_events e out bytes ++ y) queued ∙ append-nil (emitted_events e out bytes)
    ∙ ap (λ i. emitted_by e out (take e.length (drop i bytes))) start
    ∙ (emits u memory refl k).1) h

-- the same, after a stream
pub adds_fewer : (limit : ℕ) (s x : List ℕ) → IsLimited limit (after_all Ground s) x
    → AddsFewer limit s x
adds_fewer limit s x h = rw (added_is (Some limit) s x, added_is None s x) h

pub kept_at : (s : List ℕ) (es : List Event) (p : EscParser) (memory : List ℕ)
    → HasConsumed s es p memory → KeptIn p memory (after_all Ground s)
unfolding HasConsumed
kept_at s es p memory h = h.1
