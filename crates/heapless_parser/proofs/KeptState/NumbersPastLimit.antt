-- A string longer than the limit, by the numbers of a parser.
use Rattle.std.proofs.Common.{ℕ, suc, ◌≡◌, ◌≢◌, ◌≤◌, ◌<◌, ◌-◌, ◌⊎◌, inl, inr, Bool, true, false, true≢false, not, ◌&&◌, List, [], ◌∷◌, ◌++◌, if◌then◌else◌, length, get_or, Option, Some, None, refl, ap, sym, ◌∙◌, subst, arith}
use Rattle.std.proofs.lemmas.Bool.Decides.{nat_tests}
use Rattle.esc_frame.specs.declared.classes.Class.{Class}
use Rattle.esc_frame.specs.Bodies.{is_dcs_header}
use Rattle.esc_frame.specs.Classes.{class_of, is_breaker, in_csi, without_noise}
use Rattle.esc_frame.specs.Events.{Event}
use Rattle.esc_frame.specs.Events.Event.{Execute}
use Rattle.esc_frame.specs.Leads.{Unfinished}
use Rattle.esc_frame.specs.Leads.Unfinished.{Ground, Pending, InEscape, InCsi, InOsc, InOscPending, InDcs, InData, InApc, InIgnored}
use Rattle.esc_frame.specs.Limits.{is_within, is_read, header_count}
use Rattle.esc_frame.specs.Machine.Keeps.{is_formed, parameters_of}
use Rattle.esc_frame.specs.Machine.Moves.{after_all, events_all, move_inside, goes_on, hooks}
use Rattle.esc_frame.specs.Machine.Taking.{OpensOsc}
use Rattle.esc_frame.specs.Segments.{Opener, text_of, is_empty, hook_event}
use Rattle.esc_frame.specs.Segments.Opener.{Long}
use Rattle.esc_frame.specs.declared.machine.State.TheVariants as state
use Rattle.esc_frame.proofs.Borrow.BytesAreLent.{not_both}
use Rattle.esc_frame.proofs.Cut.OneByteMore.{last_shift}
use Rattle.esc_frame.proofs.ByteRuns.CsiRuns.{osc_opens, final_byte}
use Rattle.esc_frame.proofs.Steps.HeadersAreKept.{header_formed}
use Rattle.esc_frame.proofs.Emits.EventsAreTheCuts.{events_append}
use Rattle.heapless_parser.specs.declared.event.EscEvent.{EscEvent}
use Rattle.heapless_parser.specs.declared.limited.Place.{Place}
use Rattle.heapless_parser.specs.declared.parser.EscParser.{EscParser}
use Rattle.heapless_parser.specs.Emitted.{said_events}
use Rattle.heapless_parser.specs.Limited.{IsLimited}
use Rattle.heapless_parser.specs.Numbers.{state_numbered, form_numbered, begun_bytes}
use Rattle.heapless_parser.specs.States.{KeptIn, TextIn, HeaderIn, begun_in}
use Rattle.heapless_parser.specs.Strings.{HasLeft, EndsString, IsQuiet, NotesLimit}
use Rattle.heapless_parser.proofs.EventNotes.LimitAddsNoEvent.{none_of, is_osc, is_blank_osc, hands_osc, osc_fewer, is_apc, any, hands_apc, apc_fewer, fewer_then}
use Rattle.heapless_parser.proofs.KeptState.UnfinishedByState.{ground_only, kept_both}
use Rattle.heapless_parser.proofs.KeptState.StateHasOnly.{in_osc_only, in_apc_only, in_header_only}

-- ---- the number of a state, and of a form

osc_number : (n : ℕ) → state_numbered n ≡ state.Osc → n ≡ 3
osc_number n h = grind (arith, nat_tests)

apc_number : (n : ℕ) → state_numbered n ≡ state.Apc → n ≡ 7
apc_number n h = grind (arith, nat_tests)

pub formed_number : (n : ℕ) → n ≢ 3 → is_formed (form_numbered n) ≡ true
formed_number n h = grind (arith, nat_tests)

-- ---- the unfinished segment, by the number of the state

module _ (p : EscParser) (memory : List ℕ) where
  osc_only : p.state ≡ 3 → (u : Unfinished) → KeptIn p memory u → is_osc u ≡ true
  osc_only s u h =
      in_osc_only p memory (λ v. is_osc v ≡ true) s (λ o ps t n. refl) (λ o ps f t n k. refl) u h

  apc_only : p.state ≡ 7 → (u : Unfinished) → KeptIn p memory u → is_apc u ≡ true
  apc_only s u h = in_apc_only p memory (λ v. is_apc v ≡ true) s (λ o d t. refl) u h

  -- a string whose text is kept in no byte is empty
  no_text : (t : List ℕ) → TextIn p memory t → p.text ≡ 0 → p.is_over ≡ false → is_empty t ≡ true
  no_text [] h z o = refl
  no_text (b ∷ t) h z o = let k : p.text ≡ suc (length t) = (h.1 o).0 in
      absurd (omega (arith, k, z))

  nothing_begun : (f : List ℕ) → begun_in p ≡ f → is_empty f ≡ false → p.pending ≡ 0 → ⊥
  nothing_begun f h some z =
      let e : begun_in p ≡ [] = ap (λ n. begun_bytes n p.first p.second p.third) z in
      not_both (is_empty f) (ap is_empty (sym h ∙ e)) some

  -- ---- after some bytes

  osc_left : (x : List ℕ) (v : Unfinished) → KeptIn p memory v → HasLeft 3 0x9d p x
      → (is_osc v ≡ false)
      ⊎ ((get_or x (length x - 1) 0 ≡ 0x9d) × (is_blank_osc v ≡ true))
  osc_left x (InOsc o ps) h (inl out) = absurd (out (osc_number p.state h.0))
  osc_left x (InOsc o ps) h (inr (z, o', w, l)) =
      inr (l, no_text (text_of ps) h.1 z o')
  osc_left x (InOscPending o ps f) h (inl out) = absurd (out (osc_number p.state h.0))
  osc_left x (InOscPending o ps f) h (inr (z, o', w, l)) = absurd (nothing_begun f h.2 h.3 w)
  osc_left x Ground h k = inl refl
  osc_left x (Pending f) h k = inl refl
  osc_left x (InEscape y) h k = inl refl
  osc_left x (InCsi o y) h k = inl refl
  osc_left x (InDcs o y) h k = inl refl
  osc_left x (InData o y f d) h k = inl refl
  osc_left x (InApc o d) h k = inl refl
  osc_left x (InIgnored j o d) h k = inl refl

  apc_left : (x : List ℕ) (v : Unfinished) → KeptIn p memory v → HasLeft 7 0x9f p x
      → (is_apc v ≡ false) ⊎ ((get_or x (length x - 1) 0 ≡ 0x9f) × (any v ≡ true))
  apc_left x (InApc o d) h (inl out) = absurd (out (apc_number p.state h.0))
  apc_left x (InApc o d) h (inr k) = inr (k.3, refl)
  apc_left x (InOsc o ps) h k = inl refl
  apc_left x (InOscPending o ps f) h k = inl refl
  apc_left x Ground h k = inl refl
  apc_left x (Pending f) h k = inl refl
  apc_left x (InEscape y) h k = inl refl
  apc_left x (InCsi o y) h k = inl refl
  apc_left x (InDcs o y) h k = inl refl
  apc_left x (InData o y f d) h k = inl refl
  apc_left x (InIgnored j o d) h k = inl refl

-- ---- a header

header_at : (l : Option ℕ) (o : Opener) (x : List ℕ) (b : ℕ) (c : Class) → is_breaker c ≡ false
    → in_csi c ≡ false → (move_inside l (InDcs o x) b c).1 ≡ hooks l x b
header_at l o x b c e k = rw (e, k, move_inside, goes_on) refl

module _ (p : EscParser) (memory : List ℕ) (four : p.state ≡ 4) (over : p.is_over ≡ true)
    (formed : p.form ≢ 3) (b : ℕ) (low : 0x40 ≤ b) (high : b ≤ 0x7e) where
  is_past : (x : List ℕ) → TextIn p memory (parameters_of (without_noise x))
      → is_read (Some (length memory)) (without_noise x) ≡ false
  is_past x h =
      let k : not (is_within (Some (length memory)) (header_count (without_noise x))) ≡ true =
      sym h.0 ∙ over in
      by_within (is_within (Some (length memory)) (header_count (without_noise x))) k
    where
      by_within : (t : Bool) → not t ≡ true → (t && is_dcs_header (without_noise x)) ≡ false
      by_within true k = absurd (true≢false (sym k))
      by_within false k = refl

  header_in : (o : Opener) (x : List ℕ) → TextIn p memory (parameters_of (without_noise x))
      → HeaderIn p (without_noise x) → IsLimited (length memory) (InDcs o x) (b ∷ [])
  header_in o x text header =
      let f = final_byte b low high in
      let form : is_read None (without_noise x) ≡ true =
      sym (header_formed (without_noise x)) ∙ ap is_formed (sym header.1)
      ∙ formed_number p.form formed in
      let past : events_all (Some (length memory)) (InDcs o x) (b ∷ []) ≡ [] =
      ap (λ es. es ++ []) (header_at (Some (length memory)) o x b (class_of b) f.0 f.1)
      ∙ ap (λ t. (if t then hook_event (without_noise x) b ∷ [] else []) ++ []) (is_past x text) in
      let all : events_all None (InDcs o x) (b ∷ []) ≡ hook_event (without_noise x) b ∷ [] =
      ap (λ es. es ++ []) (header_at None o x b (class_of b) f.0 f.1)
      ∙ ap (λ t. (if t then hook_event (without_noise x) b ∷ [] else []) ++ []) form in
      omega (arith, ap length past, ap length all)

  header_fewer : (u : Unfinished) → KeptIn p memory u → IsLimited (length memory) u (b ∷ [])
  header_fewer =
      in_header_only p memory (λ v. IsLimited (length memory) v (b ∷ [])) four header_in

-- ---- notes

quiet_none : (hands : Event → Bool) (e : EscEvent) (out : List ℕ) (k v : ℕ)
    → ((b : ℕ) → hands (Execute b) ≡ false) → (e.kind ≡ 0) ⊎ (e.kind ≡ 3) → k ≡ 0
    → none_of hands (said_events e out k v)
quiet_none hands e out k v never (inl z) q = rw (z, q) refl
quiet_none hands e out k v never (inr t) q = rw (t, q, never e.byte) refl

module _ (p q : EscParser) (e : EscEvent) (memory later out : List ℕ) (u : Unfinished)
    (x : List ℕ) (some : 0 < length x) (kept : KeptIn p memory u)
    (after : KeptIn q later (after_all u x))
    (emits : said_events e out q.queued_kind q.queued_value ≡ events_all (Some (length memory)) u x)
    (quiet : IsQuiet e q) where
  none_osc : none_of hands_osc (events_all (Some (length memory)) u x)
  none_osc =
      subst (none_of hands_osc) emits
      (quiet_none hands_osc e out q.queued_kind q.queued_value (λ b. refl) quiet.0 quiet.1)

  none_apc : none_of hands_apc (events_all (Some (length memory)) u x)
  none_apc =
      subst (none_of hands_apc) emits
      (quiet_none hands_apc e out q.queued_kind q.queued_value (λ b. refl) quiet.0 quiet.1)

  from_osc : is_osc u ≡ true → HasLeft 3 0x9d q x → IsLimited (length memory) u x
  from_osc i left =
      osc_fewer (length memory) u x i some none_osc (osc_left q later x (after_all u x) after left)

  from_apc : is_apc u ≡ true → HasLeft 7 0x9f q x → IsLimited (length memory) u x
  from_apc i left =
      apc_fewer (length memory) u x i some none_apc (apc_left q later x (after_all u x) after left)

left_shift : (q : EscParser) (a b : ℕ) (x : List ℕ) → HasLeft 3 0x9d q (a ∷ b ∷ x)
    → HasLeft 3 0x9d q (b ∷ x)
left_shift q a b x (inl out) = inl out
left_shift q a b x (inr (z, o, w, l)) = inr (z, o, w, sym (last_shift a b x) ∙ l)

-- an opener, and the bytes after it
from_opener : (q : EscParser) (limit : ℕ) (later : List ℕ) (x : List ℕ)
    → OpensOsc x → KeptIn q later (after_all Ground x)
    → none_of hands_osc (events_all (Some limit) Ground x) → HasLeft 3 0x9d q x
    → IsLimited limit Ground x
from_opener q limit later [] opens after none left = absurd (omega (arith, opens.some))
from_opener q limit later (a ∷ []) opens after none left = absurd (omega (arith, opens.some))
from_opener q limit later (a ∷ b ∷ []) opens after none left = absurd (omega (arith, opens.some))
from_opener q limit later (a ∷ b ∷ c ∷ x) opens after none left =
    let begin = osc_opens (Some limit) (a ∷ b ∷ c ∷ x) (omega (arith, opens.some)) opens.escape
    opens.second in
    let v : Unfinished = InOsc (Long []) [] in
    let same : events_all (Some limit) Ground (a ∷ b ∷ c ∷ x) ≡ events_all (Some limit) v (c ∷ x) =
    events_append (Some limit) Ground (a ∷ b ∷ []) (c ∷ x)
    ∙ ap (λ es. es ++ events_all (Some limit) (after_all Ground (a ∷ b ∷ [])) (c ∷ x)) begin.1
    ∙ ap (λ w. events_all (Some limit) w (c ∷ x)) begin.0 in
    fewer_then limit Ground (a ∷ b ∷ []) (c ∷ x)
    (subst (λ w. IsLimited limit w (c ∷ x)) (sym begin.0)
    (osc_fewer limit v (c ∷ x) refl (omega arith) (subst (none_of hands_osc) same none)
    (osc_left q later (c ∷ x) (after_all v (c ∷ x))
    (subst (λ w. KeptIn q later (after_all w (c ∷ x))) begin.0 after)
    (left_shift q b c x (left_shift q a b (c ∷ x) left)))))

one_byte : (x : List ℕ) → length x ≡ 1 → x ≡ get_or x 0 0 ∷ []
one_byte [] h = absurd cc
one_byte (b ∷ []) h = refl
one_byte (b ∷ c ∷ x) h = absurd (omega (arith, h))

pub limited_by : (before : Place) (p q : EscParser) (e : EscEvent) (memory later out : List ℕ)
    (u : Unfinished) (x : List ℕ)
    → (before.state ≡ p.state) × (before.pending ≡ p.pending) × (before.form ≡ p.form)
    × (before.is_over ≡ p.is_over)
    → 0 < length x → KeptIn p memory u → KeptIn q later (after_all u x)
    → said_events e out q.queued_kind q.queued_value ≡ events_all (Some (length memory)) u x
    → IsQuiet e q → EndsString before q x → IsLimited (length memory) u x
limited_by before p q e memory later out u x is some kept after emits quiet (inl (s, left)) =
    from_osc p q e memory later out u x some kept after emits quiet
    (osc_only p memory (sym is.0 ∙ s) u kept) left
limited_by before p q e memory later out u x is some kept after emits quiet
    (inr (inl (s, w, opens, left))) =
    let g = ground_only p memory (sym is.0 ∙ s) (sym is.1 ∙ w) u kept in
    subst (λ v. IsLimited (length memory) v x) (sym g)
    (from_opener q (length memory) later x opens
    (subst (λ v. KeptIn q later (after_all v x)) g after)
    (subst (λ v. none_of hands_osc (events_all (Some (length memory)) v x)) g
    (none_osc p q e memory later out u x some kept after emits quiet)) left)
limited_by before p q e memory later out u x is some kept after emits quiet
    (inr (inr (inl (s, left)))) =
    from_apc p q e memory later out u x some kept after emits quiet
    (apc_only p memory (sym is.0 ∙ s) u kept) left
limited_by before p q e memory later out u x is some kept after emits quiet
    (inr (inr (inr (s, over, form, one, low, high)))) =
    subst (IsLimited (length memory) u) (sym (one_byte x one))
    (header_fewer p memory (sym is.0 ∙ s) (sym is.3 ∙ over) (λ k. form (is.2 ∙ k))
    (get_or x 0 0) low high u kept)

-- ---- notes of the kept bytes

pub kept_noted : (before : Place) (q r : EscParser) (e f : EscEvent) (x memory : List ℕ)
    (u : Unfinished) → NotesLimit before q r e f x → KeptIn q memory u → KeptIn r memory u
kept_noted before q r e f x memory u (inl (s, _)) h = subst (λ w. KeptIn w memory u) (sym s) h
kept_noted before q r e f x memory u (inr (_, _, _, inl (_, s))) h =
    subst (λ w. KeptIn w memory u) (sym s) h
kept_noted before q r e f x memory u (inr (_, _, _, inr (_, s))) h =
    subst (λ w. KeptIn w memory u) (sym s) (kept_both q 3 e.byte memory u h)

pub limited_noted : (before : Place) (p q r : EscParser) (e f : EscEvent)
    (memory later out : List ℕ) (u : Unfinished) (x : List ℕ)
    → (before.state ≡ p.state) × (before.pending ≡ p.pending) × (before.form ≡ p.form)
    × (before.is_over ≡ p.is_over)
    → 0 < length x → KeptIn p memory u → KeptIn q later (after_all u x)
    → said_events e out q.queued_kind q.queued_value ≡ events_all (Some (length memory)) u x
    → e.kind < 12 → NotesLimit before q r e f x → f.kind ≡ 13 → IsLimited (length memory) u x
limited_noted before p q r e f memory later out u x is some kept after emits low (inl (_, s)) k =
    absurd (omega (arith, low, sym (ap (λ w. w.kind) s) ∙ k))
limited_noted before p q r e f memory later out u x is some kept after emits low
    (inr (quiet, ends, _, _)) k =
    limited_by before p q e memory later out u x is some kept after emits quiet ends
