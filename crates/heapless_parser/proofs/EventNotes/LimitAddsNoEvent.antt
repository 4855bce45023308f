-- A limit adds no event, and if a string longer than it ends, there is one fewer.
use Rattle.std.proofs.Common.{ℕ, ◌≡◌, ◌≤◌, ◌<◌, ◌-◌, ◌⊎◌, inl, inr, Bool, true, false, ◌&&◌, ◌||◌, if◌then◌else◌, List, [], ◌∷◌, ◌++◌, length, get_or, Option, Some, None, refl, ap, sym, ◌∙◌, subst, arith}
use Rattle.std.specs.List.{list_any}
use Rattle.std.proofs.lemmas.Bool.{and_parts}
use Rattle.std.proofs.lemmas.List.{append-nil, length-append}
use Rattle.esc_values.specs.Clear.{parts_of}
use Rattle.esc_frame.specs.declared.classes.Class.{Class}
use Rattle.esc_frame.specs.declared.classes.Class.TheVariants.{C0, Bell, Intermediate, Parameter, Introducer, Final, Delete, High, Lead, Breaks}
use Rattle.esc_frame.specs.declared.utf8.sequence.Outcome.{Outcome}
use Rattle.esc_frame.specs.declared.utf8.sequence.Outcome.TheVariants as outcomes
use Rattle.esc_frame.specs.Classes.{class_of, is_breaker, in_csi, in_osc, is_put, without_noise, bytes_of_class, is_text}
use Rattle.esc_frame.specs.Events.{Event}
use Rattle.esc_frame.specs.Events.Event.{OscDispatch, ApcDispatch, DcsPut, DcsUnhook}
use Rattle.esc_frame.specs.Leads.{Unfinished}
use Rattle.esc_frame.specs.Leads.Unfinished.{Ground, Pending, InEscape, InCsi, InOsc, InOscPending, InDcs, InData, InApc, InIgnored}
use Rattle.esc_frame.specs.Limits.{is_within, is_read, header_count}
use Rattle.esc_frame.specs.Bodies.{is_dcs_header}
use Rattle.esc_frame.specs.Machine.Moves.{Move, ground_move, pair_move, final_osc, leaving, goes_on, move_inside, osc_pending_move, move, after_by, events_by, after_all, events_all, hooks}
use Rattle.esc_frame.specs.Segments.{Opener, OscUnit, text_of, is_empty, hook_event}
use Rattle.esc_frame.specs.Segments.OscUnit.{BrokenOff}
use Rattle.esc_frame.specs.Sequences.{is_pair, outcome}
use Rattle.esc_frame.proofs.Cut.OneByteMore.{last_shift}
use Rattle.esc_frame.proofs.Borrow.BytesAreLent.{not_both}
use Rattle.esc_frame.proofs.Steps.StringsGrow.{text_sequence}
use Rattle.esc_frame.proofs.Emits.EventsAreTheCuts.{events_append}

-- ---- lists of events, by their lengths

both_fewer : (a b c d : List Event) → length a ≤ length b → length c ≤ length d
    → length (a ++ c) ≤ length (b ++ d)
both_fewer a b c d h k = omega (arith, length-append a c, length-append b d, h, k)

one_fewer : (a b c d : List Event) → length a < length b → length c ≤ length d
    → length (a ++ c) < length (b ++ d)
one_fewer a b c d h k = omega (arith, length-append a c, length-append b d, h, k)

then_fewer : (a b c d : List Event) → length a ≤ length b → length c < length d
    → length (a ++ c) < length (b ++ d)
then_fewer a b c d h k = omega (arith, length-append a c, length-append b d, h, k)

fewer_if : (a b : Bool) (es : List Event) → (a ≡ true → b ≡ true)
    → length (if a then es else []) ≤ length (if b then es else [])
fewer_if false b es h = omega arith
fewer_if true b es h = rw (h refl) (omega arith)

-- ---- one byte

module _ (limit : ℕ) where
  read_at_all : (x : List ℕ) → is_read (Some limit) x ≡ true → is_read None x ≡ true
  read_at_all x h = (and_parts (is_within (Some limit) (header_count x)) (is_dcs_header x) h).1

  fewer_leaving : (u : Unfinished) → length (leaving (Some limit) u) ≤ length (leaving None u)
  fewer_leaving (InData o x f d) =
      fewer_if (is_read (Some limit) (without_noise x)) (is_read None (without_noise x))
      (DcsUnhook ∷ [])
      (read_at_all (without_noise x))
  fewer_leaving (InApc o d) =
      fewer_if (is_within (Some limit) (length (bytes_of_class is_text d))) true
      (ApcDispatch (bytes_of_class is_text d) ∷ []) (λ _. refl)
  fewer_leaving (InOsc o ps) =
      fewer_if (is_within (Some limit) (length (text_of ps))) true
      (OscDispatch (parts_of (text_of ps)) ∷ []) (λ _. refl)
  fewer_leaving (InOscPending o ps f) =
      fewer_if (is_within (Some limit) (length (text_of ps))) true
      (OscDispatch (parts_of (text_of ps)) ∷ []) (λ _. refl)
  fewer_leaving Ground = omega arith
  fewer_leaving (Pending f) = omega arith
  fewer_leaving (InEscape x) = omega arith
  fewer_leaving (InCsi o x) = omega arith
  fewer_leaving (InDcs o x) = omega arith
  fewer_leaving (InIgnored k o d) = omega arith

  fewer_hooks : (x : List ℕ) (b : ℕ) → length (hooks (Some limit) x b) ≤ length (hooks None x b)
  fewer_hooks x b =
      fewer_if (is_read (Some limit) (without_noise x)) (is_read None (without_noise x))
      (hook_event (without_noise x) b ∷ []) (read_at_all (without_noise x))

  fewer_final : (o : Opener) (ps : List OscUnit) (b : ℕ) (c : Class)
      → length (final_osc (Some limit) o ps b c).1 ≤ length (final_osc None o ps b c).1
  fewer_final o ps b Lead = omega arith
  fewer_final o ps b C0 = fewer_leaving (InOsc o ps)
  fewer_final o ps b Bell = fewer_leaving (InOsc o ps)
  fewer_final o ps b Intermediate = fewer_leaving (InOsc o ps)
  fewer_final o ps b Parameter = fewer_leaving (InOsc o ps)
  fewer_final o ps b (Introducer k) = fewer_leaving (InOsc o ps)
  fewer_final o ps b Final = fewer_leaving (InOsc o ps)
  fewer_final o ps b Delete = fewer_leaving (InOsc o ps)
  fewer_final o ps b High = fewer_leaving (InOsc o ps)
  fewer_final o ps b (Breaks k) = fewer_leaving (InOsc o ps)

  header_by : (o : Opener) (x : List ℕ) (b : ℕ) (c : Class) (t : Bool) → in_csi c ≡ t
      → length (goes_on (Some limit) (InDcs o x) b c).1
      ≤ length (goes_on None (InDcs o x) b c).1
  header_by o x b c true e = rw (e, goes_on) (omega arith)
  header_by o x b c false e = rw (e, goes_on) (fewer_hooks x b)

  osc_by : (o : Opener) (ps : List OscUnit) (b : ℕ) (c : Class) (t : Bool) → in_osc c ≡ t
      → length (goes_on (Some limit) (InOsc o ps) b c).1
      ≤ length (goes_on None (InOsc o ps) b c).1
  osc_by o ps b c true e = rw (e, goes_on) (omega arith)
  osc_by o ps b c false e = rw (e, goes_on) (fewer_final o ps b c)

  put_at_all : (x : List ℕ) (w : Bool) → (is_read (Some limit) x && w) ≡ true
      → (is_read None x && w) ≡ true
  put_at_all x w h =
      let k = and_parts (is_read (Some limit) x) w h in rw (read_at_all x k.0, k.1) refl

  fewer_on : (u : Unfinished) (b : ℕ) (c : Class)
      → length (goes_on (Some limit) u b c).1 ≤ length (goes_on None u b c).1
  fewer_on (InDcs o x) b c = header_by o x b c (in_csi c) refl
  fewer_on (InData o x f d) b c =
      fewer_if (is_read (Some limit) (without_noise x) && is_put c)
      (is_read None (without_noise x) && is_put c)
      (DcsPut b ∷ []) (put_at_all (without_noise x) (is_put c))
  fewer_on (InOsc o ps) b c = osc_by o ps b c (in_osc c) refl
  fewer_on (InApc o d) b c = omega arith
  fewer_on Ground b c = omega arith
  fewer_on (Pending f) b c = omega arith
  fewer_on (InEscape x) b c = omega arith
  fewer_on (InCsi o x) b c = omega arith
  fewer_on (InIgnored k o d) b c = omega arith
  fewer_on (InOscPending o ps f) b c = omega arith

  inside_by : (u : Unfinished) (b : ℕ) (c : Class) (t : Bool) → is_breaker c ≡ t
      → length (move_inside (Some limit) u b c).1 ≤ length (move_inside None u b c).1
  inside_by u b c true e =
      rw (e, move_inside) (both_fewer (leaving (Some limit) u) (leaving None u) (ground_move b c).1
      (ground_move b c).1 (fewer_leaving u) (omega arith))
  inside_by u b c false e = rw (e, move_inside) (fewer_on u b c)

  fewer_inside : (u : Unfinished) (b : ℕ) (c : Class)
      → length (move_inside (Some limit) u b c).1 ≤ length (move_inside None u b c).1
  fewer_inside u b c = inside_by u b c (is_breaker c) refl

  whole_by : (o : Opener) (ps : List OscUnit) (f : List ℕ) (b : ℕ) (c : Class) (t : Bool)
      → is_pair (f ++ b ∷ []) ≡ t
      → length (osc_pending_move (Some limit) o ps f b c outcomes.Whole).1
      ≤ length (osc_pending_move None o ps f b c outcomes.Whole).1
  whole_by o ps f b c true e =
      rw (e, osc_pending_move) (both_fewer (leaving (Some limit) (InOscPending o ps f))
      (leaving None (InOscPending o ps f)) (pair_move b c).1 (pair_move b c).1
      (fewer_leaving (InOscPending o ps f)) (omega arith))
  whole_by o ps f b c false e = rw (e, osc_pending_move) (omega arith)

  pending_by : (o : Opener) (ps : List OscUnit) (f : List ℕ) (b : ℕ) (c : Class) (w : Outcome)
      → length (osc_pending_move (Some limit) o ps f b c w).1
      ≤ length (osc_pending_move None o ps f b c w).1
  pending_by o ps f b c outcomes.Whole = whole_by o ps f b c (is_pair (f ++ b ∷ [])) refl
  pending_by o ps f b c outcomes.More = omega arith
  pending_by o ps f b c outcomes.Broken = fewer_inside (InOsc o (ps ++ BrokenOff f ∷ [])) b c

  fewer_by : (u : Unfinished) (b : ℕ) (c : Class)
      → length (events_by (Some limit) u b c) ≤ length (events_by None u b c)
  fewer_by Ground b c = omega arith
  fewer_by (Pending f) b c = omega arith
  fewer_by (InOscPending o ps f) b c = pending_by o ps f b c (outcome f b)
  fewer_by (InEscape x) b c = fewer_inside (InEscape x) b c
  fewer_by (InCsi o x) b c = fewer_inside (InCsi o x) b c
  fewer_by (InDcs o x) b c = fewer_inside (InDcs o x) b c
  fewer_by (InData o x f d) b c = fewer_inside (InData o x f d) b c
  fewer_by (InApc o d) b c = fewer_inside (InApc o d) b c
  fewer_by (InIgnored k o d) b c = fewer_inside (InIgnored k o d) b c
  fewer_by (InOsc o ps) b c = fewer_inside (InOsc o ps) b c

  -- ---- many

  pub fewer_all : (u : Unfinished) (x : List ℕ)
      → length (events_all (Some limit) u x) ≤ length (events_all None u x)
  fewer_all u [] = omega arith
  fewer_all u (b ∷ x) =
      both_fewer (events_by (Some limit) u b (class_of b)) (events_by None u b (class_of b))
      (events_all (Some limit) (after_by u b (class_of b)) x)
      (events_all None (after_by u b (class_of b)) x) (fewer_by u b (class_of b))
      (fewer_all (after_by u b (class_of b)) x)

-- ---- a string that ends

-- The byte leaves the string unfinished, and says nothing; if it is the control that opens another
-- one, the string is no empty one.
abbrev pub StaysBy : (Unfinished → Bool) → (Unfinished → Bool) → ℕ → ℕ → (Option ℕ → Move) → Type 0
StaysBy is_in is_blank introducer b m =
    (is_in (m None).0 ≡ true) × ((l : Option ℕ) → (m l).1 ≡ [])
    × (b ≡ introducer → is_blank (m None).0 ≡ false)

-- the event of the string's text, if that is within the limit
abbrev pub if_within : Option ℕ → List ℕ → Event → List Event
if_within l t e = if is_within l (length t) then e ∷ [] else []

-- The byte ends the string: its event comes first, if it is within the limit.
abbrev pub EndsBy : (Event → Bool) → (Option ℕ → Move) → Type 0
EndsBy hands m =
    (e : Event) × (hands e ≡ true) × (t : List ℕ) × (es : List Event)
    × ((l : Option ℕ) → (m l).1 ≡ if_within l t e ++ es)

abbrev pub Stays : (Unfinished → Bool) → (Unfinished → Bool) → ℕ → Unfinished → ℕ → Type 0
Stays is_in is_blank introducer v b =
    StaysBy is_in is_blank introducer b (λ l. move l v b (class_of b))

abbrev pub Ends : (Event → Bool) → Unfinished → ℕ → Type 0
Ends hands v b = EndsBy hands (λ l. move l v b (class_of b))

-- none of these events hands out a string
abbrev pub none_of : (Event → Bool) → List Event → Type 0
none_of hands es = list_any hands es ≡ false

none_first : (hands : Event → Bool) (es ds : List Event) → none_of hands (es ++ ds)
    → none_of hands es
none_first hands [] ds h = refl
none_first hands (e ∷ es) ds h = by_head (hands e) (none_first hands es ds) h
  where
    by_head : (t : Bool) → (none_of hands (es ++ ds) → none_of hands es)
        → (t || list_any hands (es ++ ds)) ≡ false → (t || list_any hands es) ≡ false
    by_head true more g = g
    by_head false more g = more g

module _ (limit : ℕ) (is_in is_blank : Unfinished → Bool) (hands : Event → Bool) (introducer : ℕ)
    (one : (v : Unfinished) (b : ℕ) → is_in v ≡ true
    → Stays is_in is_blank introducer v b ⊎ Ends hands v b) where
  -- the string came to an end in these bytes
  abbrev pub HasEnded : Unfinished → List ℕ → Type 0
  HasEnded v x =
      (is_in (after_all v x) ≡ false)
      ⊎ ((get_or x (length x - 1) 0 ≡ introducer) × (is_blank (after_all v x) ≡ true))

  ended_shift : (v : Unfinished) (a b : ℕ) (x : List ℕ) → HasEnded v (a ∷ b ∷ x)
      → HasEnded (after_by v a (class_of a)) (b ∷ x)
  ended_shift v a b x (inl out) = inl out
  ended_shift v a b x (inr (l, k)) = inr (sym (last_shift a b x) ∙ l, k)

  -- its text is longer than the limit, so the event is missing
  past_by : (e : Event) (t : List ℕ) (es : List Event) (w : Bool)
      → is_within (Some limit) (length t) ≡ w → hands e ≡ true
      → none_of hands (if_within (Some limit) t e ++ es)
      → length (if_within (Some limit) t e ++ es) < length (if_within None t e ++ es)
  past_by e t es true k h = rw (k, h) (λ n. absurd cc)
  past_by e t es false k h = rw k (λ n. omega arith)

  end_fewer : (v : Unfinished) (b : ℕ) (x : List ℕ) → Ends hands v b
      → none_of hands (events_all (Some limit) v (b ∷ x))
      → length (events_all (Some limit) v (b ∷ x)) < length (events_all None v (b ∷ x))
  end_fewer v b x (e, h, t, es, same) none =
      let w : Unfinished = after_by v b (class_of b) in
      let first : none_of hands (events_by (Some limit) v b (class_of b)) =
      none_first hands (events_by (Some limit) v b (class_of b)) (events_all (Some limit) w x) none
      in
      let less : length (events_by (Some limit) v b (class_of b))
      < length (events_by None v b (class_of b)) =
      rw (same (Some limit), same None) (past_by e t es (is_within (Some limit) (length t)) refl h
      (subst (none_of hands) (same (Some limit)) first)) in
      one_fewer (events_by (Some limit) v b (class_of b)) (events_by None v b (class_of b))
      (events_all (Some limit) w x) (events_all None w x) less (fewer_all limit w x)

  pub ended_fewer : (v : Unfinished) (x : List ℕ) → is_in v ≡ true → 0 < length x
      → none_of hands (events_all (Some limit) v x) → HasEnded v x
      → length (events_all (Some limit) v x) < length (events_all None v x)
  ended_fewer v [] i some none end = absurd (omega (arith, some))
  ended_fewer v (b ∷ x) i some none end =
      by_byte (one v b i) (ended_fewer (after_by v b (class_of b)) x)
    where
      Fewer : List ℕ → Type 0
      Fewer y =
          is_in (after_by v b (class_of b)) ≡ true → 0 < length y
          → none_of hands (events_all (Some limit) (after_by v b (class_of b)) y)
          → HasEnded (after_by v b (class_of b)) y
          → length (events_all (Some limit) (after_by v b (class_of b)) y)
          < length (events_all None (after_by v b (class_of b)) y)

      stays_on : (y : List ℕ) → Stays is_in is_blank introducer v b
          → none_of hands (events_all (Some limit) v (b ∷ y)) → HasEnded v (b ∷ y) → Fewer y
          → length (events_all (Some limit) v (b ∷ y)) < length (events_all None v (b ∷ y))
      stays_on [] s n (inl out) more = absurd (not_both (is_in (after_by v b (class_of b))) s.0 out)
      stays_on [] s n (inr (is, blank)) more =
          absurd (not_both (is_blank (after_by v b (class_of b))) blank (s.2 is))
      stays_on (c ∷ y) s n e more =
          rw (s.1 (Some limit), s.1 None) (more s.0 (omega arith)
          (subst (λ es. none_of hands (es ++ events_all (Some limit) (after_by v b (class_of b))
          (c ∷ y))) (s.1 (Some limit)) n) (ended_shift v b c y e))

      by_byte : Stays is_in is_blank introducer v b ⊎ Ends hands v b → Fewer x
          → length (events_all (Some limit) v (b ∷ x)) < length (events_all None v (b ∷ x))
      by_byte (inl s) more = stays_on x s none end more
      by_byte (inr e) more = end_fewer v b x e none

-- ---- an operating system command

abbrev pub is_osc : Unfinished → Bool
is_osc (InOsc o ps) = true
is_osc (InOscPending o ps f) = true
is_osc _ = false

-- nothing of its text has come
abbrev pub is_blank_osc : Unfinished → Bool
is_blank_osc (InOsc o ps) = is_empty (text_of ps)
is_blank_osc _ = false

abbrev pub hands_osc : Event → Bool
hands_osc (OscDispatch ps) = true
hands_osc _ = false

no_break : (b : ℕ) → b ≡ 0x9d → is_breaker (class_of b) ≡ true
unfolding class_of
no_break b e = rw e refl

no_break_apc : (b : ℕ) → b ≡ 0x9f → is_breaker (class_of b) ≡ true
unfolding class_of
no_break_apc b e = rw e refl

abbrev OscBy : ℕ → (Option ℕ → Move) → Type 0
OscBy b m = StaysBy is_osc is_blank_osc 0x9d b m ⊎ EndsBy hands_osc m

ends_final : (o : Opener) (ps : List OscUnit) (b : ℕ) (c : Class)
    → ((l : Option ℕ) → (final_osc l o ps b c).1 ≡ leaving l (InOsc o ps))
    → OscBy b (λ l. final_osc l o ps b c)
ends_final o ps b c same = inr (
  OscDispatch (parts_of (text_of ps)),
  refl,
  text_of ps,
  [],
  λ l. same l ∙ sym (append-nil (leaving l (InOsc o ps))),
)

final_one : (o : Opener) (ps : List OscUnit) (b : ℕ) (c : Class)
    → OscBy b (λ l. final_osc l o ps b c)
final_one o ps b Lead = inl (refl, λ l. refl, λ _. refl)
final_one o ps b C0 = ends_final o ps b C0 (λ l. refl)
final_one o ps b Bell = ends_final o ps b Bell (λ l. refl)
final_one o ps b Intermediate = ends_final o ps b Intermediate (λ l. refl)
final_one o ps b Parameter = ends_final o ps b Parameter (λ l. refl)
final_one o ps b (Introducer k) = ends_final o ps b (Introducer k) (λ l. refl)
final_one o ps b Final = ends_final o ps b Final (λ l. refl)
final_one o ps b Delete = ends_final o ps b Delete (λ l. refl)
final_one o ps b High = ends_final o ps b High (λ l. refl)
final_one o ps b (Breaks k) = ends_final o ps b (Breaks k) (λ l. refl)

inside_one : (o : Opener) (ps : List OscUnit) (b : ℕ) (c : Class) (t w : Bool)
    → (b ≡ 0x9d → is_breaker c ≡ true) → is_breaker c ≡ t → in_osc c ≡ w
    → OscBy b (λ l. move_inside l (InOsc o ps) b c)
inside_one o ps b c true w n e k = rw (e, move_inside) (inr (
  OscDispatch (parts_of (text_of ps)),
  refl,
  text_of ps,
  (ground_move b c).1,
  λ l. refl,
))
inside_one o ps b c false true n e k = rw (e, k, move_inside, goes_on) (inl (
  refl,
  λ l. refl,
  λ is. absurd (not_both (is_breaker c) (n is) e),
))
inside_one o ps b c false false n e k = rw (e, k, move_inside, goes_on) (final_one o ps b c)

in_osc_one : (o : Opener) (ps : List OscUnit) (b : ℕ)
    → OscBy b (λ l. move_inside l (InOsc o ps) b (class_of b))
in_osc_one o ps b =
    inside_one o ps b (class_of b) (is_breaker (class_of b)) (in_osc (class_of b)) (no_break b) refl
    refl

some_more : (x y : List ℕ) (b : ℕ) → is_empty (x ++ (y ++ b ∷ [])) ≡ false
some_more [] [] b = refl
some_more [] (a ∷ y) b = refl
some_more (a ∷ x) y b = refl

whole_one : (o : Opener) (ps : List OscUnit) (f : List ℕ) (b : ℕ) (c : Class) (t : Bool)
    → is_pair (f ++ b ∷ []) ≡ t → OscBy b (λ l. osc_pending_move l o ps f b c outcomes.Whole)
whole_one o ps f b c true e = rw (e, osc_pending_move) (inr (
  OscDispatch (parts_of (text_of ps)),
  refl,
  text_of ps,
  (pair_move b c).1,
  λ l. refl,
))
whole_one o ps f b c false e = rw (e, osc_pending_move) (inl (
  refl,
  λ l. refl,
  λ _. ap is_empty (sym (text_sequence ps (f ++ b ∷ []))) ∙ some_more (text_of ps) f b,
))

pending_one : (o : Opener) (ps : List OscUnit) (f : List ℕ) (b : ℕ) (w : Outcome)
    → OscBy b (λ l. osc_pending_move l o ps f b (class_of b) w)
pending_one o ps f b outcomes.Whole =
    whole_one o ps f b (class_of b) (is_pair (f ++ b ∷ [])) refl
pending_one o ps f b outcomes.More = inl (refl, λ l. refl, λ _. refl)
pending_one o ps f b outcomes.Broken = in_osc_one o (ps ++ BrokenOff f ∷ []) b

pub osc_one : (v : Unfinished) (b : ℕ) → is_osc v ≡ true
    → Stays is_osc is_blank_osc 0x9d v b ⊎ Ends hands_osc v b
osc_one (InOsc o ps) b h = in_osc_one o ps b
osc_one (InOscPending o ps f) b h = pending_one o ps f b (outcome f b)
osc_one _ b h = absurd cc

-- ---- an application program command

abbrev pub is_apc : Unfinished → Bool
is_apc (InApc o d) = true
is_apc _ = false

abbrev pub any : Unfinished → Bool
any _ = true

abbrev pub hands_apc : Event → Bool
hands_apc (ApcDispatch t) = true
hands_apc _ = false

apc_by : (o : Opener) (d : List ℕ) (b : ℕ) (c : Class) (t : Bool)
    → (b ≡ 0x9f → is_breaker c ≡ true) → is_breaker c ≡ t
    → StaysBy is_apc any 0x9f b (λ l. move_inside l (InApc o d) b c)
    ⊎ EndsBy hands_apc (λ l. move_inside l (InApc o d) b c)
apc_by o d b c true n e = rw (e, move_inside) (inr (
  ApcDispatch (bytes_of_class is_text d),
  refl,
  bytes_of_class is_text d,
  (ground_move b c).1,
  λ l. refl,
))
apc_by o d b c false n e = rw (e, move_inside, goes_on) (inl (
  refl,
  λ l. refl,
  λ is. absurd (not_both (is_breaker c) (n is) e),
))

pub apc_one : (v : Unfinished) (b : ℕ) → is_apc v ≡ true
    → Stays is_apc any 0x9f v b ⊎ Ends hands_apc v b
apc_one (InApc o d) b h =
    apc_by o d b (class_of b) (is_breaker (class_of b)) (no_break_apc b) refl
apc_one _ b h = absurd cc

-- ---- both, and bytes before them

module _ (limit : ℕ) where
  pub fewer_then : (u : Unfinished) (x y : List ℕ)
      → length (events_all (Some limit) (after_all u x) y)
      < length (events_all None (after_all u x) y)
      → length (events_all (Some limit) u (x ++ y)) < length (events_all None u (x ++ y))
  fewer_then u x y h =
      rw (events_append (Some limit) u x y, events_append None u x y)
      (then_fewer (events_all (Some limit) u x) (events_all None u x)
      (events_all (Some limit) (after_all u x) y) (events_all None (after_all u x) y)
      (fewer_all limit u x) h)

  pub osc_fewer : (v : Unfinished) (x : List ℕ) → is_osc v ≡ true → 0 < length x
      → none_of hands_osc (events_all (Some limit) v x)
      → HasEnded limit is_osc is_blank_osc hands_osc 0x9d osc_one v x
      → length (events_all (Some limit) v x) < length (events_all None v x)
  osc_fewer = ended_fewer limit is_osc is_blank_osc hands_osc 0x9d osc_one

  pub apc_fewer : (v : Unfinished) (x : List ℕ) → is_apc v ≡ true → 0 < length x
      → none_of hands_apc (events_all (Some limit) v x)
      → HasEnded limit is_apc any hands_apc 0x9f apc_one v x
      → length (events_all (Some limit) v x) < length (events_all None v x)
  apc_fewer = ended_fewer limit is_apc any hands_apc 0x9f apc_one
