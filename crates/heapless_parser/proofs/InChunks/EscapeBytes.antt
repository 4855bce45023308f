-- Bytes of an escape sequence that lie in a later chunk than its ESC, and noise in a sequence.
use Rattle.std.proofs.Common.{ℕ, ◌≡◌, ◌≢◌, ◌⊎◌, inl, inr, true, false, not, List, [], ◌∷◌, ◌++◌, take, length, length-take, refl, ap, sym, ◌∙◌, subst, Some, Option, min, if◌then◌else◌, arith}
use Rattle.std.proofs.lemmas.List.Elements.{filter-append}
use Rattle.esc_frame.specs.declared.classes.Class.{Class}
use Rattle.esc_frame.specs.declared.classes.Class.TheVariants.{C0, Bell, Delete, High, Lead, Intermediate, Parameter, Introducer, Final}
use Rattle.esc_frame.specs.Classes.{class_of, without_noise, is_noise, is_c0, is_breaker, in_escape, in_csi, ends_escape, opens}
use Rattle.esc_frame.specs.Events.Event.{Execute, Print}
use Rattle.esc_frame.specs.Leads.{Unfinished}
use Rattle.esc_frame.specs.Leads.Unfinished.{Ground, Pending, InEscape, InCsi}
use Rattle.esc_frame.specs.Machine.Moves.{after_all, events_all, unfinished_at_opener, emitting, leaving, move_inside, goes_on, noise, move, ground_move, pair_move, pending_move}
use Rattle.esc_frame.specs.Segments.{is_empty, escape_event}
use Rattle.esc_frame.specs.Segments.Opener.{Long}
use Rattle.esc_frame.proofs.Cut.OneByteMore.{noise_strip}
use Rattle.esc_frame.proofs.Cut.WellFormedIsUtf8.{none_one}
use Rattle.esc_frame.specs.declared.utf8.sequence.Outcome.TheVariants as outcomes
use Rattle.esc_frame.specs.Sequences.{is_pair, number_of, outcome}
use Rattle.heapless_parser.specs.declared.event.EscEvent.{EscEvent}
use Rattle.heapless_parser.specs.declared.parser.EscParser.{EscParser}
use Rattle.heapless_parser.specs.Numbers.{state_numbered}
use Rattle.heapless_parser.specs.Runs.{Gives, Notes, Passes}
use Rattle.heapless_parser.specs.States.{KeptIn, FirstIn, BodyIn, begun_in}
use Rattle.heapless_parser.specs.Emitted.{sent_events, said_events, queued_of}
use Rattle.heapless_parser.proofs.KeptState.UnfinishedByState.{ground_only}
use Rattle.heapless_parser.proofs.InChunks.OneByteLater.{by_move, moves_on, is_whole}
use Rattle.heapless_parser.proofs.KeptState.StateHasOnly.{in_ground_only, in_escape_only, in_csi_only}
use Rattle.heapless_parser.proofs.InChunks.CommandsLieWhole.{in_ground}

-- ---- noise

pub noise_goes : (c : Class) → is_noise c ≡ true
    → (is_breaker c ≡ false) × (in_escape c ≡ true) × (in_csi c ≡ true)
noise_goes C0 h = (refl, refl, refl)
noise_goes Bell h = (refl, refl, refl)
noise_goes Delete h = (refl, refl, refl)
noise_goes High h = (refl, refl, refl)
noise_goes Lead h = (refl, refl, refl)
noise_goes _ h = absurd cc

module _ (b : ℕ) (c : Class) (is : c ≡ class_of b) (n : is_noise c ≡ true) (x : List ℕ) where
  stripped : without_noise x ≡ without_noise (x ++ b ∷ [])
  stripped = noise_strip x b c c is refl n

  goes : (is_breaker (class_of b) ≡ false) × (in_escape (class_of b) ≡ true)
      × (in_csi (class_of b) ≡ true)
  goes = noise_goes (class_of b) (subst (λ d. is_noise d ≡ true) is n)

  escape_noise : (l : Option ℕ)
      → move l (InEscape x) b (class_of b) ≡ (InEscape (x ++ b ∷ []), noise b (class_of b))
  escape_noise l = rw (goes.0, goes.1, move_inside, goes_on) refl

module _ (p : EscParser) (e : EscEvent) (b : ℕ) (c : Class) (is : c ≡ class_of b)
    (n : is_noise c ≡ true) (says : (out : List ℕ) → sent_events e out ≡ noise b c)
    (out : List ℕ) (limit : ℕ) where
  here : sent_events e out ≡ noise b (class_of b)
  here = says out ∙ ap (noise b) is

  in_escape_notes : p.state ≡ 1 → Notes p p e out limit (b ∷ [])
  in_escape_notes one = λ u memory room h.
      in_escape_only p memory (λ u. KeptIn p memory (after_all u (b ∷ []))
      × (sent_events e out ≡ events_all (Some limit) u (b ∷ []))) one
      (λ x i.
      let k = by_move (Some limit) (InEscape x) (InEscape (x ++ b ∷ [])) b (noise b (class_of b))
      (escape_noise b c is n x (Some limit)) in (
        subst (KeptIn p memory) (sym k.0)
            (ap state_numbered one, subst (FirstIn p) (stripped b c is n x) i),
        here ∙ sym k.1,
      )) u h

  in_csi_notes : p.state ≡ 2 → Notes p p e out limit (b ∷ [])
  in_csi_notes two = λ u memory room h.
      in_csi_only p memory (λ u. KeptIn p memory (after_all u (b ∷ []))
      × (sent_events e out ≡ events_all (Some limit) u (b ∷ []))) two
      (λ o x i.
      let g = goes b c is n x in
      let k = by_move (Some limit) (InCsi o x) (InCsi o (x ++ b ∷ [])) b (noise b (class_of b))
      (rw (g.0, g.2, move_inside, goes_on) refl) in (
        subst (KeptIn p memory) (sym k.0)
            (ap state_numbered two, subst (BodyIn p) (stripped b c is n x) i),
        here ∙ sym k.1,
      )) u h

  pub noise_notes : (p.state ≡ 1) ⊎ (p.state ≡ 2) → Notes p p e out limit (b ∷ [])
  noise_notes (inl s) = in_escape_notes s
  noise_notes (inr s) = in_csi_notes s

-- a control, and an ignored byte
pub control_said : (e : EscEvent) (b : ℕ) (c : Class) → e.kind ≡ 3 → e.byte ≡ b → is_c0 c ≡ true
    → (out : List ℕ) → sent_events e out ≡ noise b c
control_said e b c kind byte is out =
    rw (kind, byte) (sym (ap (λ t. if t then Execute b ∷ [] else []) is))

pub nothing_said : (e : EscEvent) (b : ℕ) (c : Class) → e.kind ≡ 0 → is_c0 c ≡ false
    → (out : List ℕ) → sent_events e out ≡ noise b c
nothing_said e b c kind is out =
    rw kind (sym (ap (λ t. if t then Execute b ∷ [] else []) is))

-- ---- a byte that breaks the sequence off

module _ (p q : EscParser) (e : EscEvent) (b : ℕ)
    (keeps : (memory : List ℕ) → KeptIn q memory (ground_move b (class_of b)).0)
    (says : (out : List ℕ) → sent_events e out ≡ (ground_move b (class_of b)).1)
    (out : List ℕ) (limit : ℕ) where
  as_between : (memory : List ℕ) (u : Unfinished)
      → move (Some limit) u b (class_of b)
      ≡ ((ground_move b (class_of b)).0, (ground_move b (class_of b)).1)
      → KeptIn q memory (after_all u (b ∷ []))
      × (sent_events e out ≡ events_all (Some limit) u (b ∷ []))
  as_between memory u is =
      let m = ground_move b (class_of b) in let k = by_move (Some limit) u m.0 b m.1 is in
      (subst (KeptIn q memory) (sym k.0) (keeps memory), says out ∙ sym k.1)

  pub break_notes : (p.state ≡ 1) ⊎ (p.state ≡ 2) → is_breaker (class_of b) ≡ true
      → Notes p q e out limit (b ∷ [])
  break_notes (inl s) is = λ u memory room h.
      in_escape_only p memory (λ u. KeptIn q memory (after_all u (b ∷ []))
      × (sent_events e out ≡ events_all (Some limit) u (b ∷ []))) s
      (λ x i. as_between memory (InEscape x)
      (ap (λ t. if t then emitting (leaving (Some limit) (InEscape x)) (ground_move b (class_of b))
      else goes_on (Some limit) (InEscape x) b (class_of b)) is)) u h
  break_notes (inr s) is = λ u memory room h.
      in_csi_only p memory (λ u. KeptIn q memory (after_all u (b ∷ []))
      × (sent_events e out ≡ events_all (Some limit) u (b ∷ []))) s
      (λ o x i. as_between memory (InCsi o x)
      (ap (λ t. if t then emitting (leaving (Some limit) (InCsi o x)) (ground_move b (class_of b))
      else goes_on (Some limit) (InCsi o x) b (class_of b)) is)) u h

  -- between sequences
  pub between_notes : p.state ≡ 0 → p.pending ≡ 0 → Notes p q e out limit (b ∷ [])
  between_notes zero none = λ u memory room h.
      subst (λ u. KeptIn q memory (after_all u (b ∷ []))
      × (sent_events e out ≡ events_all (Some limit) u (b ∷ [])))
      (sym (ground_only p memory zero none u h)) (as_between memory Ground refl)

-- the last byte of a C1 control in UTF-8
pub pair_notes : (p q : EscParser) (e : EscEvent) (b : ℕ) → p.state ≡ 0
    → outcome (begun_in p) b ≡ outcomes.Whole → is_pair (begun_in p ++ b ∷ []) ≡ true
    → ((memory : List ℕ) → KeptIn q memory (pair_move b (class_of b)).0)
    → ((out : List ℕ) → sent_events e out ≡ (pair_move b (class_of b)).1)
    → (out : List ℕ) (limit : ℕ) → Notes p q e out limit (b ∷ [])
pair_notes p q e b zero whole pair keeps says out limit = λ u memory room h.
    let m = pair_move b (class_of b) in
    in_ground_only p memory (λ u. KeptIn q memory (after_all u (b ∷ []))
    × (sent_events e out ≡ events_all (Some limit) u (b ∷ []))) zero
    (λ none. absurd (none_one b (is_whole [] b
    (subst (λ f. outcome f b ≡ outcomes.Whole) none whole))))
    (λ f is filled.
    let k = by_move (Some limit) (Pending f) m.0 b m.1
    (ap (pending_move f b (class_of b)) (subst (λ f. outcome f b ≡ outcomes.Whole) is whole)
    ∙ ap (λ t. if t then m else (Ground, Print (number_of (f ++ b ∷ [])) ∷ []))
    (subst (λ f. is_pair (f ++ b ∷ []) ≡ true) is pair)) in
    (subst (KeptIn q memory) (sym k.0) (keeps memory), says out ∙ sym k.1)) u h

-- a character that is broken off
pub broken_gives : (p q : EscParser) (e : EscEvent) (b : ℕ) → p.state ≡ 0
    → outcome (begun_in p) b ≡ outcomes.Broken → is_empty (begun_in p) ≡ false
    → ((memory : List ℕ) → KeptIn q memory (ground_move b (class_of b)).0)
    → queued_of q.queued_kind q.queued_value ≡ (ground_move b (class_of b)).1
    → e.kind ≡ 2 → e.byte ≡ 0xfffd
    → (out memory : List ℕ) → Gives p q e out memory memory (b ∷ [])
broken_gives p q e b zero broken some keeps queued kind byte out memory = λ u h.
    let l = Some (length memory) in
    let m = ground_move b (class_of b) in
    in_ground_only p memory (λ u. KeptIn q memory (after_all u (b ∷ []))
    × (said_events e out q.queued_kind q.queued_value ≡ events_all l u (b ∷ []))) zero
    (λ none. let no : is_empty (begun_in p) ≡ true = ap is_empty none in absurd cc)
    (λ f is filled.
    let k = by_move l (Pending f) m.0 b (Print 0xfffd ∷ m.1)
    (ap (pending_move f b (class_of b)) (subst (λ f. outcome f b ≡ outcomes.Broken) is broken)) in (
      subst (KeptIn q memory) (sym k.0) (keeps memory),
      rw (kind, byte) (ap (λ es. Print 0xfffd ∷ es) queued) ∙ sym k.1,
    )) u h

-- ---- an intermediate

pub intermediate_passes : (p q : EscParser) (b : ℕ) → p.state ≡ 1 → q.state ≡ p.state
    → class_of b ≡ Intermediate
    → ((x : List ℕ) → FirstIn p x → FirstIn q (x ++ b ∷ [])) → Passes p q (b ∷ [])
intermediate_passes p q b one same is more = λ memory.
    in_escape_only p memory (λ u. KeptIn q memory (after_all u (b ∷ []))
    × (events_all (Some (length memory)) u (b ∷ []) ≡ [])) one
    (λ x h. moves_on q memory (Some (length memory)) (InEscape x) (InEscape (x ++ b ∷ [])) b
    (ap (move_inside (Some (length memory)) (InEscape x) b) is) (
      ap state_numbered (same ∙ one),
      subst (FirstIn q) (kept_strip x b is) (more (without_noise x) h),
    ))
  where
    kept_strip : (x : List ℕ) (b : ℕ) → class_of b ≡ Intermediate
        → without_noise x ++ b ∷ [] ≡ without_noise (x ++ b ∷ [])
    kept_strip x b is = sym (filter-append (λ b. not (is_noise (class_of b))) x (b ∷ [])
        ∙ ap (λ y. without_noise x ++ y) (rw is refl))

-- ---- the final byte

final_move : (l : Option ℕ) (x : List ℕ) (b : ℕ) (c : Class) → ends_escape c ≡ true
    → (opens c ≡ true → is_empty (without_noise x) ≡ false)
    → move_inside l (InEscape x) b c ≡ (Ground, escape_event (without_noise x) b ∷ [])
final_move l x b Parameter h k = refl
final_move l x b Final h k = refl
final_move l x b (Introducer i) h k =
    ap (λ t. if t then (unfinished_at_opener i (Long x), [])
    else (Ground, escape_event (without_noise x) b ∷ []))
    (k refl)
final_move l x b _ h k = absurd cc

some_first : (x : List ℕ) (n : ℕ) → n ≡ length (take 2 x) → n ≢ 0 → is_empty x ≡ false
some_first [] n e h = absurd (h e)
some_first (a ∷ x) n e h = refl

pub final_notes : (p q : EscParser) (e : EscEvent) (b : ℕ) → p.state ≡ 1
    → ends_escape (class_of b) ≡ true → (opens (class_of b) ≡ true → p.kept ≢ 0)
    → q.state ≡ 0 → q.pending ≡ 0 → e.kind ≡ 4 → e.byte ≡ b
    → e.intermediates ≡ p.intermediates → e.kept ≡ min p.kept 2 → e.has_more ≡ p.has_more
    → (out : List ℕ) (limit : ℕ) → Notes p q e out limit (b ∷ [])
final_notes p q e b one ends letter zero none kind byte list kept more out limit =
    λ u memory room h.
    in_escape_only p memory (λ u. KeptIn q memory (after_all u (b ∷ []))
    × (sent_events e out ≡ events_all (Some limit) u (b ∷ []))) one
    (λ x i.
    let few : min p.kept 2 ≡ p.kept = omega (arith, length-take 2 (without_noise x), i.2) in
    let k = by_move (Some limit) (InEscape x) Ground b (escape_event (without_noise x) b ∷ [])
    (final_move (Some limit) x b (class_of b) ends
    (λ o. some_first (without_noise x) p.kept i.2 (letter o))) in
    let items : take e.kept e.intermediates ≡ take 2 (without_noise x) =
    ap (λ n. take n e.intermediates) (kept ∙ few) ∙ ap (take p.kept) list ∙ i.0 in (
      subst (KeptIn q memory) (sym k.0) (in_ground q memory zero none),
      rw (kind, items, more, i.1, byte) refl ∙ sym k.1,
    )) u h
