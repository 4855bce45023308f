-- Controls and short control sequences in ground.
use Rattle.std.proofs.Common.{ℕ, ◌≡◌, ◌+◌, ◌<◌, ◌≢◌, true, false, List, [], ◌∷◌, take, length, get_or, refl, ap, sym, ◌∙◌, subst, Some, None}
use Rattle.esc_values.specs.declared.csi_param.CsiParam.{CsiParam}
use Rattle.esc_frame.specs.Events.{Event}
use Rattle.esc_frame.specs.Events.Event.{CsiDispatch, Execute}
use Rattle.esc_frame.specs.Leads.Unfinished.{Ground}
use Rattle.esc_frame.specs.Machine.Moves.{after_all, events_all}
use Rattle.esc_frame.specs.Machine.Taking.{StartsWithShortCsi}
use Rattle.esc_frame.proofs.ByteRuns.ManyBytes.{one_control}
use Rattle.esc_frame.proofs.ByteRuns.ShortRuns.{short_after, short_given}
use Rattle.heapless_parser.specs.declared.event.EscEvent.{EscEvent}
use Rattle.heapless_parser.specs.declared.parser.EscParser.{EscParser}
use Rattle.heapless_parser.specs.Runs.{IsTextRun, Emits, EmitsEvent}
use Rattle.heapless_parser.specs.States.{KeptIn}
use Rattle.heapless_parser.specs.Emitted.{sent_events, is_run}
use Rattle.heapless_parser.proofs.EventNotes.NotesFold.{Adds, all_said}
use Rattle.heapless_parser.proofs.KeptState.UnfinishedByState.{ground_only, text_keeps, text_emits}

pub csi_emits : (e : EscEvent) (bytes : List ℕ) (run : ℕ) (items : List CsiParam)
    → StartsWithShortCsi items bytes run
    → ((out : List ℕ) → sent_events e out ≡ CsiDispatch items false (get_or bytes (run + 2) 0) ∷ [])
    → EmitsEvent e (take (run + 3) bytes)
csi_emits e bytes run items starts says =
    let event : List Event = CsiDispatch items false (get_or bytes (run + 2) 0) ∷ [] in (
      short_after None bytes run items starts,
      λ limit out.
          says out ∙ (all_said (λ s. s) (λ s. true) (events_all limit Ground (take (run + 3) bytes))
          [] event
          (short_given limit bytes run items starts (Adds (λ s. s) (λ s. true))
          (λ _ _ _. Unit {0}) [] event (refl, λ h. h))).0,
    )

-- an event that is no run, of bytes in ground
pub event_emits : (p : EscParser) (e : EscEvent) (x : List ℕ) → p.state ≡ 0 → p.pending ≡ 0
    → is_run e.kind ≡ false → EmitsEvent e x
    → (out : List ℕ) (limit : ℕ) (bytes : List ℕ) → Emits p p e out limit bytes x
event_emits p e x zero none off emits out limit bytes = λ u memory room h.
    let g = ground_only p memory zero none u h in (
      subst (KeptIn p memory) (sym (ap (λ v. after_all v x) g ∙ emits.0 ∙ sym g)) h,
      rw off (emits.1 (Some limit) out ∙ sym (ap (λ v. events_all (Some limit) v x) g)),
    )

-- a run of characters there
pub run_emits : (p : EscParser) (e : EscEvent) (bytes : List ℕ) (run : ℕ) → p.state ≡ 0
    → p.pending ≡ 0 → e.kind ≡ 1 → e.length ≡ run
    → IsTextRun (take run bytes) → (out : List ℕ) (limit : ℕ)
    → Emits p p e out limit bytes (take run bytes)
run_emits p e bytes run zero none kind long text out limit = λ u memory room h. (
  text_keeps p memory zero none bytes run run refl text u h,
  text_emits p memory zero none bytes run run refl text u h e out kind long
      ∙ ap (λ k. events_all (Some k) u (take run bytes)) room,
)

-- a control there
pub control_emits : (e : EscEvent) (bytes : List ℕ) → 0 < length bytes → get_or bytes 0 0 < 0x20
    → get_or bytes 0 0 ≢ 0x1b → e.kind ≡ 3
    → e.byte ≡ get_or bytes 0 0 → EmitsEvent e (take 1 bytes)
control_emits e bytes some low other kind byte =
    let one = one_control bytes some low other in (
      one.0,
      λ limit out. rw kind (ap (λ b. Execute b ∷ []) byte ∙ sym (one.1 limit)),
    )
