-- Controls that end a string that came in chunks.
use Rattle.std.proofs.Common.{ℕ, ◌≡◌, true, false, List, [], ◌∷◌, ◌++◌, take, length, refl, ap, sym, ◌∙◌, subst, Some, if◌then◌else◌}
use Rattle.esc_frame.specs.Classes.{class_of, bytes_of_class, is_text, is_breaker}
use Rattle.esc_frame.specs.Events.{Event}
use Rattle.esc_frame.specs.Events.Event.{ApcDispatch, DcsUnhook}
use Rattle.esc_frame.specs.Leads.{Unfinished}
use Rattle.esc_frame.specs.Leads.Unfinished.{InOsc, InData, InApc}
use Rattle.esc_frame.specs.Limits.{is_within}
use Rattle.esc_frame.specs.Machine.Moves.{after_all, events_all, emitting, ground_move, leaving, move_inside, goes_on, move}
use Rattle.esc_frame.specs.Segments as segments
use Rattle.esc_frame.specs.Segments.{osc_events, apc_events}
use Rattle.esc_frame.proofs.Borrow.LentStrings.{osc_emitted, apc_emitted}
use Rattle.heapless_parser.specs.declared.event.EscEvent.{EscEvent}
use Rattle.heapless_parser.specs.declared.parser.EscParser.{EscParser}
use Rattle.heapless_parser.specs.Runs.{Gives}
use Rattle.heapless_parser.specs.States.{KeptIn}
use Rattle.heapless_parser.specs.Emitted.{sent_events, said_events, queued_of, text_of}
use Rattle.heapless_parser.proofs.InChunks.OneByteLater.{by_move}
use Rattle.heapless_parser.proofs.KeptState.StateHasOnly.{data_only, in_osc_only, in_apc_only}
use Rattle.heapless_parser.proofs.InChunks.OscBytes.{none_begun, not_false}
use Rattle.heapless_parser.proofs.InChunks.CommandsLieWhole.{osc_said}

module _ (p q : EscParser) (e : EscEvent) (memory out : List ℕ) (b : ℕ)
    (is : is_breaker (class_of b) ≡ true)
    (keeps : KeptIn q memory (ground_move b (class_of b)).0)
    (queued : queued_of q.queued_kind q.queued_value ≡ (ground_move b (class_of b)).1) where
  -- the control acts as between sequences, after the event of the string
  after : (u : Unfinished) (es : List Event)
      → move (Some (length memory)) u b (class_of b)
      ≡ emitting es (ground_move b (class_of b))
      → sent_events e out ≡ es
      → KeptIn q memory (after_all u (b ∷ []))
      × (said_events e out q.queued_kind q.queued_value
      ≡ events_all (Some (length memory)) u (b ∷ []))
  after u es moves says =
      let m = ground_move b (class_of b) in
      let k = by_move (Some (length memory)) u m.0 b (es ++ m.1) moves in (
        subst (KeptIn q memory) (sym k.0) keeps,
        ap (λ x. x ++ queued_of q.queued_kind q.queued_value) says ∙ ap (λ x. es ++ x) queued
            ∙ sym k.1,
      )

  breaks : (u : Unfinished)
      → move_inside (Some (length memory)) u b (class_of b)
      ≡ emitting (leaving (Some (length memory)) u) (ground_move b (class_of b))
  breaks u = ap (λ t. if t then emitting (leaving (Some (length memory)) u)
      (ground_move b (class_of b)) else goes_on (Some (length memory)) u b (class_of b)) is

  pub data_left : p.state ≡ 5 → e.kind ≡ 10 → Gives p q e out memory memory (b ∷ [])
  data_left five kind = λ u h.
      data_only p memory (λ u. KeptIn q memory (after_all u (b ∷ []))
      × (said_events e out q.queued_kind q.queued_value
      ≡ events_all (Some (length memory)) u (b ∷ [])))
      five
      (λ o x f d read. after (InData o x f d) (DcsUnhook ∷ [])
      (breaks (InData o x f d)
      ∙ ap (λ r. emitting (if r then DcsUnhook ∷ [] else []) (ground_move b (class_of b))) read)
      (rw kind refl)) u h

  -- a command whose text is within the limit
  module _ (off : p.is_over ≡ false) (text : text_of e out ≡ take p.text memory) where
    pub osc_left : p.state ≡ 3 → p.pending ≡ 0 → e.kind ≡ 6
        → Gives p q e out memory memory (b ∷ [])
    osc_left three none kind = λ u h.
        let l = Some (length memory) in
        in_osc_only p memory (λ u. KeptIn q memory (after_all u (b ∷ []))
        × (said_events e out q.queued_kind q.queued_value ≡ events_all l u (b ∷ []))) three
        (λ o ps i empty.
        let t = segments.text_of ps in
        let within : is_within l (length t) ≡ true = not_false _ (sym i.0 ∙ off) in
        after (InOsc o ps) (osc_events l t) (breaks (InOsc o ps))
        (osc_said e out t kind (text ∙ (i.1 off).1) ∙ osc_emitted l t within))
        (λ o ps f i begun some. absurd (none_begun p f none begun some)) u h

    pub apc_left : p.state ≡ 7 → e.kind ≡ 11 → Gives p q e out memory memory (b ∷ [])
    apc_left seven kind = λ u h.
        let l = Some (length memory) in
        in_apc_only p memory (λ u. KeptIn q memory (after_all u (b ∷ []))
        × (said_events e out q.queued_kind q.queued_value ≡ events_all l u (b ∷ []))) seven
        (λ o d i.
        let t = bytes_of_class is_text d in
        let within : is_within l (length t) ≡ true = not_false _ (sym i.0 ∙ off) in
        after (InApc o d) (apc_events l t) (breaks (InApc o d))
        (rw kind (ap (λ y. ApcDispatch y ∷ []) (text ∙ (i.1 off).1)) ∙ apc_emitted l t within)) u h
