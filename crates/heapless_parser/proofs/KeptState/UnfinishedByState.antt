-- The unfinished segment, by the number of the state.
use Rattle.std.proofs.Common.{ℕ, ◌≡◌, true, true≢false, false, List, [], map, take, length, refl, ap, sym, ◌∙◌, subst, Some, if◌then◌else◌}
use Rattle.std.specs.List.{list_all, prefix_len}
use Rattle.std.specs.Str.{chars}
use Rattle.esc_frame.specs.Events.Event.{Print}
use Rattle.esc_frame.specs.Leads.{Unfinished}
use Rattle.esc_frame.specs.Leads.Unfinished.{Ground, Pending, InEscape, InCsi, InOsc, InOscPending, InDcs, InData, InApc, InIgnored}
use Rattle.esc_frame.specs.Machine.Moves.{after_all, events_all}
use Rattle.esc_frame.specs.Scans.{is_data_byte}
use Rattle.esc_frame.specs.Segments.{Opener, is_empty}
use Rattle.esc_frame.specs.declared.machine.State.TheVariants as state
use Rattle.esc_frame.proofs.ByteRuns.ClearRuns.{clear_text_run}
use Rattle.esc_frame.proofs.ByteRuns.ManyBytes.{run_passes}
use Rattle.esc_frame.proofs.ByteRuns.StringRuns.{data_text}
use Rattle.heapless_parser.specs.declared.event.EscEvent.{EscEvent}
use Rattle.heapless_parser.specs.Emitted.{emitted_by}
use Rattle.heapless_parser.specs.declared.parser.EscParser.{EscParser}
use Rattle.heapless_parser.specs.Numbers.{state_numbered, begun_bytes}
use Rattle.heapless_parser.specs.Runs.{Gives, IsTextRun}
use Rattle.heapless_parser.specs.States.{KeptIn, begun_in}
use Rattle.heapless_parser.proofs.KeptState.StateHasOnly.{in_ground_only, data_only}

-- the parser keeps nothing
module _ (p : EscParser) (memory : List ℕ) (zero : p.state ≡ 0) (none : p.pending ≡ 0) where
  no_bytes : begun_in p ≡ []
  no_bytes = ap (λ n. begun_bytes n p.first p.second p.third) none

  pub ground_only : (u : Unfinished) → KeptIn p memory u → u ≡ Ground
  ground_only u h =
      in_ground_only p memory (λ v. v ≡ Ground) zero (λ e. refl)
      (λ f e some. absurd (true≢false (ap is_empty (sym no_bytes ∙ e) ∙ some))) u h

-- ---- runs

module _ (p : EscParser) (memory : List ℕ) (zero : p.state ≡ 0) (none : p.pending ≡ 0)
    (bytes : List ℕ) (run n : ℕ) (same : n ≡ run)
    (text : IsTextRun (take run bytes)) (u : Unfinished) (h : KeptIn p memory u) where
  does : (after_all Ground (take run bytes) ≡ Ground)
      × (events_all (Some (length memory)) Ground (take run bytes)
      ≡ map Print (chars (take run bytes)))
  does = clear_text_run (Some (length memory)) (take run bytes) text.0 text.1

  pub text_keeps : KeptIn p memory (after_all u (take n bytes))
  text_keeps =
      let g = ground_only p memory zero none u h in
      let e : after_all u (take n bytes) ≡ u = ap (λ v. after_all v (take n bytes)) g
      ∙ ap (λ k. after_all Ground (take k bytes)) same ∙ does.0 ∙ sym g in
      subst (KeptIn p memory) (sym e) h

  pub text_emits : (e : EscEvent) (out : List ℕ) → e.kind ≡ 1 → e.length ≡ run
      → emitted_by e out (take e.length bytes) ≡ events_all (Some (length memory)) u (take n bytes)
  text_emits e out kind long =
      rw (kind, long)
      (sym (ap (λ v. events_all (Some (length memory)) v (take n bytes))
      (ground_only p memory zero none u h)
      ∙ ap (λ k. events_all (Some (length memory)) Ground (take k bytes)) same ∙ does.1))

module _ (p : EscParser) (memory : List ℕ) (five : p.state ≡ 5) (bytes : List ℕ) (run n : ℕ)
    (same : n ≡ run)
    (is : run ≡ prefix_len is_data_byte bytes) where
  passes : list_all is_data_byte (take n bytes) ≡ true
  passes = subst (λ k. list_all is_data_byte (take k bytes) ≡ true) (sym (same ∙ is))
      (run_passes is_data_byte bytes)

  pub data_keeps : (u : Unfinished) → KeptIn p memory u
      → KeptIn p memory (after_all u (take n bytes))
  data_keeps u h =
      data_only p memory (λ v. KeptIn p memory (after_all v (take n bytes))) five
      (λ o x f d r. rw (
        (data_text (Some (length memory)) o x f d (take n bytes) r passes).0,
        r,
      ) (ap state_numbered five)) u h

  pub data_emits : (u : Unfinished) → KeptIn p memory u → (e : EscEvent) (out : List ℕ) → e.kind ≡ 8
      → e.length ≡ run
      → emitted_by e out (take e.length bytes) ≡ events_all (Some (length memory)) u (take n bytes)
  data_emits u h e out kind long =
      data_only p memory (λ v. emitted_by e out (take e.length bytes)
      ≡ events_all (Some (length memory)) v (take n bytes)) five
      (λ o x f d r.
      rw (
        kind,
        long,
        ← same,
      ) (sym (data_text (Some (length memory)) o x f d (take n bytes) r passes).1)) u h

-- ---- where nothing changed

pub given_still : (p q r : EscParser) (e : EscEvent) (out memory later after x : List ℕ) → q ≡ p
    → later ≡ memory → Gives q r e out later after x → Gives p r e out memory after x
given_still p q r e out memory later after x same kept gives =
    subst (λ s. Gives s r e out memory after x) same
    (subst (λ m. Gives q r e out m after x) kept gives)

pub kept_both : (p : EscParser) (kind value : ℕ) (memory : List ℕ) (u : Unfinished)
    → KeptIn p memory u → KeptIn (record p { queued_kind = kind; queued_value = value }) memory u
kept_both p kind value memory Ground h = h
kept_both p kind value memory _ h = h
