-- These lemmas are about strings whose text is lent, and the bytes that end them.
use Rattle.std.proofs.Common.{ℕ, ◌≡◌, ◌+◌, ◌<◌, Bool, true, false, not, List, [], ◌∷◌, ◌++◌, length, take, drop, get_or, refl, sym, subst, ap, ◌∙◌}
use Rattle.std.proofs.Common.{Option, None, Some}
use Rattle.std.proofs.Common.{min, arith}
use Rattle.std.specs.List.{FoldsTo, list_all}
use Rattle.std.proofs.lemmas.List.{append-nil}
use Rattle.std.proofs.lemmas.Bool.{and_parts}
use Rattle.std.proofs.lemmas.Bool.Decides.{nat_tests}
use Rattle.esc_frame.specs.declared.classes.Class.{Class}
use Rattle.esc_frame.specs.declared.classes.Class.TheVariants.{Bell, Lead, Breaks}
use Rattle.esc_frame.specs.declared.classes.Breaker.TheVariants.{C1Introducer}
use Rattle.esc_values.specs.Clear.{parts_of}
use Rattle.esc_frame.specs.Events.{Event, Awaits, StopsAt}
use Rattle.esc_frame.specs.Events.Event.{OscDispatch, ApcDispatch}
use Rattle.esc_frame.specs.declared.machine.Machine.{Machine}
use Rattle.esc_frame.specs.Classes.{class_of, bytes_of_class, is_text, is_breaker}
use Rattle.esc_frame.specs.Leads.{Holds}
use Rattle.esc_frame.specs.Leads.Unfinished.{Ground, InOsc, InOscPending, InApc}
use Rattle.esc_frame.specs.Limits.{is_within, most, has_few_parts}
use Rattle.esc_frame.specs.Machine.Moves.{Move, move, move_inside, emitting, ground_move, pair_move, osc_pending_move, osc_left, ends_osc, after_all, events_all}
use Rattle.esc_frame.specs.Machine.Moves.{may_grow_within, after_by}
use Rattle.esc_frame.specs.Machine.Moves.{IsStill, passes_osc, passes_pending, borrows, is_fresh, is_borrowable}
use Rattle.esc_frame.specs.Machine.Calls.{StaysFresh}
use Rattle.esc_frame.specs.Machine.TextRuns.{IsTextRun}
use Rattle.esc_frame.specs.Scans.{is_text_byte}
use Rattle.esc_frame.specs.Segments.{Opener, OscUnit, text_of, osc_events, apc_events, is_empty}
use Rattle.esc_frame.specs.Segments.Opener.{Raw}
use Rattle.esc_frame.specs.Sequences.{is_from, is_sequence, is_pair, outcome}
use Rattle.esc_frame.proofs.Cut.OneByteMore.{is_bell}
use Rattle.esc_frame.proofs.Borrow.BytesAreLent.{begun_fresh, fresh_by, grows_by, borrows_at, no_if, not_so, opened_fresh, pair_fresh, reaches_first}
use Rattle.esc_frame.proofs.Emits.MayInGround.{cut_first}
use Rattle.esc_frame.proofs.ByteRuns.QuietRuns.{quiet_took, quiet_stops_for, quiet_after, quiet_events}
use Rattle.esc_frame.proofs.Emits.StopsAtFirstEvent.{text_still}
use Rattle.esc_frame.proofs.ByteRuns.StringRuns.{run_text, apc_text, apc_kept}

left_fresh : (b : ℕ) (c : Class) (rest : List ℕ) → borrows (osc_left b c).0 rest ≡ true
    → is_fresh (osc_left b c).0 ≡ true
left_fresh b (Breaks (C1Introducer k)) rest h = opened_fresh k Raw rest h
left_fresh b _ rest h = refl

-- a byte that ends a command that can be lent has few parts before it
few_of : (ps : List OscUnit) (c : Class) → ends_osc c ≡ true → passes_osc ps c ≡ true
    → has_few_parts (text_of ps) ≡ true
few_of ps Bell h k = k
few_of ps (Breaks i) h k = k
few_of ps _ h k = absurd cc

-- no bytes are within each limit
none_within : (limit : Option ℕ) → is_within limit 0 ≡ true
none_within None = refl
none_within (Some n) = grind (arith, nat_tests)

-- whether some bytes are, by whether none and they are
pub within_by : (limit : Option ℕ) (n : ℕ) (r : Bool)
    → ((k : ℕ) → is_within limit k ≡ true → 0 ≡ min k most → r ≡ is_within limit (k + n))
    → is_within limit n ≡ r
within_by limit n r f = let all : 0 + n ≡ n = omega arith in
    ap (is_within limit) (sym all) ∙ sym (f 0 (none_within limit) refl)

-- the event of a text is emitted within the limit, and nothing past it
pub osc_emitted : (limit : Option ℕ) (t : List ℕ) → is_within limit (length t) ≡ true
    → OscDispatch (parts_of t) ∷ [] ≡ osc_events limit t
osc_emitted limit t w = rw w refl

pub osc_unemitted : (limit : Option ℕ) (t : List ℕ) → is_within limit (length t) ≡ false
    → [] ≡ osc_events limit t
osc_unemitted limit t w = rw w refl

pub apc_emitted : (limit : Option ℕ) (t : List ℕ) → is_within limit (length t) ≡ true
    → ApcDispatch t ∷ [] ≡ apc_events limit t
apc_emitted limit t w = rw w refl

pub apc_unemitted : (limit : Option ℕ) (t : List ℕ) → is_within limit (length t) ≡ false
    → [] ≡ apc_events limit t
apc_unemitted limit t w = rw w refl

-- a byte that ends a command leaves it, and emits it
pub ends_by : (limit : Option ℕ) (o : Opener) (ps : List OscUnit) (b : ℕ) (c : Class)
    → ends_osc c ≡ true
    → emitting (osc_events limit (text_of ps)) (osc_left b c) ≡ move_inside limit (InOsc o ps) b c
ends_by limit o ps b Bell h = ap (λ es. (Ground, es)) (append-nil (osc_events limit (text_of ps)))
ends_by limit o ps b (Breaks k) h = refl
ends_by limit o ps b _ h = absurd cc

bell_class : class_of 0x07 ≡ Bell
unfolding class_of
bell_class = refl

-- a bell does nothing more
pub left_bell : (b : ℕ) → b ≡ 0x07 → osc_left b (class_of b) ≡ (Ground, [])
left_bell b e = rw (e, bell_class) refl

-- any other byte acts as in ground
pub left_other : (b : ℕ) → (b ≡ 0x07 → ⊥) → ground_move b (class_of b) ≡ osc_left b (class_of b)
left_other b h = by (class_of b) (λ e. h (is_bell b e))
  where
    by : (c : Class) → (c ≡ Bell → ⊥) → ground_move b c ≡ osc_left b c
    by Bell k = absurd (k refl)
    by _ k = refl

-- ---- a control after C2

pair_whole : (b : ℕ) → is_from 0x80 0x9f b ≡ true → (is_sequence (0xc2 ∷ b ∷ []) ≡ true)
    × (is_pair (0xc2 ∷ b ∷ []) ≡ true)
unfolding is_sequence is_pair
pair_whole b h = (grind (arith, nat_tests), grind (arith, nat_tests))

c2_class : (b : ℕ) → b ≡ 0xc2 → Lead ≡ class_of b
unfolding class_of
c2_class b e = rw e refl

-- it leaves the command, and emits it
pair_ends : (limit : Option ℕ) (o : Opener) (ps : List OscUnit) (b : ℕ) (c : Class)
    → is_from 0x80 0x9f b ≡ true
    → emitting (osc_events limit (text_of ps)) (pair_move b c)
    ≡ move limit (InOscPending o ps (0xc2 ∷ [])) b c
pair_ends limit o ps b c h = let k = pair_whole b h in rw (k.0, k.1, osc_pending_move, outcome) refl

few_by_pair : (ps : List OscUnit) (b : ℕ) → is_from 0x80 0x9f b ≡ true
    → passes_pending ps (0xc2 ∷ []) b (outcome (0xc2 ∷ []) b) ≡ true
    → has_few_parts (text_of ps) ≡ true
few_by_pair ps b h = let k = pair_whole b h in rw (k.0, k.1, outcome) (λ p. p)

-- the move of the byte there
abbrev move_at : (ℕ → Class → Move) → List ℕ → ℕ → Move
move_at m rest n = m (get_or rest n 0) (class_of (get_or rest n 0))

module _ {S : Type 0} (limit : Option ℕ) (takes refuses : S → Event → S
    → Type 0) (o : Opener) (ps : List OscUnit) (rest : List ℕ) (n : ℕ) (old new : S)
    (none : text_of ps ≡ []) (run : IsTextRun (take n rest)) (room : n < length rest) where
  -- all the text is the run
  borrowed_text : take n rest ≡ text_of (ps ++ run.0)
  borrowed_text = ap (λ t. t ++ take n rest) (sym none) ∙ run_text ps run

  module _ (ends : ends_osc (class_of (get_or rest n 0)) ≡ true) where
    whole : emitting (osc_events limit (take n rest)) (move_at osc_left rest n)
        ≡ move_inside limit (InOsc o (ps ++ run.0)) (get_or rest n 0) (class_of (get_or rest n 0))
    whole = ap (λ t. emitting (osc_events limit t) (move_at osc_left rest n)) borrowed_text
        ∙ ends_by limit o (ps ++ run.0) (get_or rest n 0) _ ends

    borrowed_events : events_all limit (InOsc o ps) (take (n + 1) rest)
        ≡ osc_events limit (take n rest) ++ (move_at osc_left rest n).1
    borrowed_events =
        quiet_events limit takes refuses (InOsc o ps) (InOsc o (ps ++ run.0)) rest n _ old new
        (run.2 limit o ps) room refl
        ∙ ap (λ m. m.1) (sym whole)

    pub borrowed_awaited : (may : S → Event → Type 0)
        → Awaits may takes old (events_all limit (InOsc o ps) rest)
        → Awaits may takes old (osc_events limit (take n rest) ++ (move_at osc_left rest n).1)
    borrowed_awaited may =
        cut_first may takes rest (n + 1) limit (InOsc o ps) _ old borrowed_events

    borrowed_fresh : StaysFresh (InOsc o ps) rest (n + 1)
    borrowed_fresh =
        fresh_by (InOsc o ps) (move_at osc_left rest n).0 rest (n + 1)
        (quiet_after limit takes refuses (InOsc o ps) (InOsc o (ps ++ run.0)) rest n _ old new
        (run.2 limit o ps) room refl
        ∙ ap (λ m. m.0) (sym (ends_by None o (ps ++ run.0) (get_or rest n 0) _ ends)))
        (left_fresh (get_or rest n 0) _ (drop (n + 1) rest))

    -- more than 16 parts are not lent
    borrowed_grows : not (has_few_parts (take n rest)) ≡ true
        → may_grow_within (InOsc o ps) rest ≡ true
    borrowed_grows many =
        grows_by (InOsc o ps) rest (reaches_first (InOsc o ps) rest (omega arith) refl)
        (no_if (is_borrowable (InOsc o ps) rest) (λ l.
        let p = borrows_at (InOsc o ps) (InOsc o (ps ++ run.0)) rest n (run.2 limit o ps).0 room
        (and_parts (is_empty (text_of ps)) (borrows (InOsc o ps) rest) l).1 in
        not_so (has_few_parts (take n rest)) many
        (ap has_few_parts borrowed_text
        ∙ few_of (ps ++ run.0) _ ends p)))

    pub borrowed_took : {K A : Type 0} (keeps : Option ℕ → K → List ℕ
        → Type 0) (machine : Machine K A)
        → Holds keeps limit machine
        (emitting (osc_events limit (take n rest)) (move_at osc_left rest n)).0
        × FoldsTo takes old
        (emitting (osc_events limit (take n rest)) (move_at osc_left rest n)).1 new
        → Holds keeps limit machine (after_all (InOsc o ps) (take (n + 1) rest))
        × FoldsTo takes old (events_all limit (InOsc o ps) (take (n + 1) rest)) new
        × StaysFresh (InOsc o ps) rest (n + 1)
    borrowed_took keeps machine h =
        quiet_took limit takes refuses (InOsc o ps) (InOsc o (ps ++ run.0)) rest n _ old new
        (run.2 limit o ps) room refl keeps machine borrowed_fresh
        (subst (λ m. Holds keeps limit machine m.0 × FoldsTo takes old m.1 new) whole h)

    pub borrowed_stops : {why : Type 0}
        → StopsAt ((not (has_few_parts (take n rest)) ≡ true) × why) takes refuses old
        (emitting (osc_events limit (take n rest)) (move_at osc_left rest n)).1 new
        → StopsAt ((may_grow_within (InOsc o ps) rest ≡ true) × why) takes refuses old
        (events_all limit (InOsc o ps) rest) new
    borrowed_stops {why} h =
        let own : Type 0 = (not (has_few_parts (take n rest)) ≡ true) × why in
        quiet_stops_for limit takes refuses (InOsc o ps) (InOsc o (ps ++ run.0)) rest n _ old new
        (run.2 limit o ps) room refl
        own (λ g. (borrowed_grows g.0, g.1))
        (subst (λ m. StopsAt own takes refuses old m.1 new) whole h)

  module _ (next : n + 1 < length rest) (lead : get_or rest n 0 ≡ 0xc2)
      (control : is_from 0x80 0x9f (get_or rest (n + 1) 0) ≡ true) where
    -- C2 is kept until the byte after it
    lead_run : (after_all (InOsc o ps) (take (n + 1) rest)
        ≡ InOscPending o (ps ++ run.0) (0xc2 ∷ []))
        × (events_all limit (InOsc o ps) (take (n + 1) rest) ≡ [])
    lead_run =
        let e = c2_class (get_or rest n 0) lead in (
          quiet_after limit takes refuses (InOsc o ps) (InOsc o (ps ++ run.0)) rest n Lead old new
              (run.2 limit o ps) room e
              ∙ ap (λ b. InOscPending o (ps ++ run.0) (b ∷ [])) lead,
          quiet_events limit takes refuses (InOsc o ps) (InOsc o (ps ++ run.0)) rest n Lead old new
              (run.2 limit o ps) room e,
        )

    pair_whole_move : emitting (osc_events limit (take n rest))
        (move_at pair_move rest (n + 1))
        ≡ move limit (InOscPending o (ps ++ run.0) (0xc2 ∷ [])) (get_or rest (n + 1) 0)
        (class_of (get_or rest (n + 1) 0))
    pair_whole_move =
        ap (λ t. emitting (osc_events limit t)
        (move_at pair_move rest (n + 1))) borrowed_text
        ∙ pair_ends limit o (ps ++ run.0) (get_or rest (n + 1) 0) (class_of (get_or rest (n + 1) 0))
        control

    two : n + 1 + 1 ≡ n + 2
    two = omega arith

    pair_events : events_all limit (InOsc o ps) (take (n + 2) rest)
        ≡ osc_events limit (take n rest)
        ++ (move_at pair_move rest (n + 1)).1
    pair_events =
        ap (λ k. events_all limit (InOsc o ps) (take k rest)) (sym two)
        ∙ quiet_events limit takes refuses (InOsc o ps) (InOscPending o (ps ++ run.0) (0xc2 ∷ []))
        rest (n + 1) _ old new lead_run next refl
        ∙ ap (λ m. m.1) (sym pair_whole_move)

    pub pair_awaited : (may : S → Event → Type 0)
        → Awaits may takes old (events_all limit (InOsc o ps) rest)
        → Awaits may takes old
        (osc_events limit (take n rest) ++ (move_at pair_move rest (n + 1)).1)
    pair_awaited may = cut_first may takes rest (n + 2) limit (InOsc o ps) _ old pair_events

    pair_left : StaysFresh (InOsc o ps) rest (n + 1 + 1)
    pair_left =
        fresh_by (InOsc o ps)
        (move_at pair_move rest (n + 1)).0 rest
        (n + 1 + 1)
        (quiet_after limit takes refuses (InOsc o ps) (InOscPending o (ps ++ run.0) (0xc2 ∷ []))
        rest (n + 1) _ old new lead_run next refl
        ∙ ap (λ m. m.0)
        (sym (pair_ends None o (ps ++ run.0) (get_or rest (n + 1) 0)
        (class_of (get_or rest (n + 1) 0)) control)))
        (pair_fresh (get_or rest (n + 1) 0) (class_of (get_or rest (n + 1) 0))
        (drop (n + 1 + 1) rest))

    pair_grows : not (has_few_parts (take n rest)) ≡ true → may_grow_within (InOsc o ps) rest ≡ true
    pair_grows many =
        grows_by (InOsc o ps) rest (reaches_first (InOsc o ps) rest (omega arith) refl)
        (no_if (is_borrowable (InOsc o ps) rest) (λ l.
        let p = borrows_at (InOsc o ps) (InOscPending o (ps ++ run.0) (0xc2 ∷ [])) rest (n + 1)
        lead_run.0 next
        (and_parts (is_empty (text_of ps)) (borrows (InOsc o ps) rest) l).1 in
        not_so (has_few_parts (take n rest)) many
        (ap has_few_parts borrowed_text
        ∙ few_by_pair (ps ++ run.0) (get_or rest (n + 1) 0) control p)))

    pub pair_took : {K A : Type 0} (keeps : Option ℕ → K → List ℕ → Type 0) (machine : Machine K A)
        → Holds keeps limit machine
        (emitting (osc_events limit (take n rest))
        (move_at pair_move rest (n + 1))).0
        × FoldsTo takes old
        (emitting (osc_events limit (take n rest))
        (move_at pair_move rest (n + 1))).1 new
        → Holds keeps limit machine (after_all (InOsc o ps) (take (n + 2) rest))
        × FoldsTo takes old (events_all limit (InOsc o ps) (take (n + 2) rest)) new
        × StaysFresh (InOsc o ps) rest (n + 2)
    pair_took keeps machine h =
        subst (λ k. Holds keeps limit machine (after_all (InOsc o ps) (take k rest))
        × FoldsTo takes old (events_all limit (InOsc o ps) (take k rest)) new
        × StaysFresh (InOsc o ps) rest k) two
        (quiet_took limit takes refuses (InOsc o ps) (InOscPending o (ps ++ run.0) (0xc2 ∷ [])) rest
        (n + 1) _ old new lead_run next refl keeps machine
        pair_left
        (subst (λ m. Holds keeps limit machine m.0 × FoldsTo takes old m.1 new) pair_whole_move h))

    pub pair_stops : {why : Type 0}
        → StopsAt ((not (has_few_parts (take n rest)) ≡ true) × why) takes refuses old
        (emitting (osc_events limit (take n rest))
        (move_at pair_move rest (n + 1))).1 new
        → StopsAt ((may_grow_within (InOsc o ps) rest ≡ true) × why) takes refuses old
        (events_all limit (InOsc o ps) rest) new
    pair_stops {why} h =
        let own : Type 0 = (not (has_few_parts (take n rest)) ≡ true) × why in
        quiet_stops_for limit takes refuses (InOsc o ps) (InOscPending o (ps ++ run.0) (0xc2 ∷ []))
        rest (n + 1) _ old new
        lead_run next refl own (λ g. (pair_grows g.0, g.1))
        (subst (λ m. StopsAt own takes refuses old m.1 new) pair_whole_move h)

-- and emits nothing until then
pub pair_still : (limit : Option ℕ) (o : Opener) (ps : List OscUnit) (rest : List ℕ) (n : ℕ)
    → IsTextRun (take n rest) → n + 1 < length rest
    → get_or rest n 0 ≡ 0xc2 → IsStill limit (InOsc o ps) rest (n + 2)
pair_still limit o ps rest n run next lead =
    let two : n + 1 + 1 ≡ n + 2 = omega arith in
    let e = c2_class (get_or rest n 0) lead in
    subst (IsStill limit (InOsc o ps) rest) two (text_still limit o ps rest (n + 1)
    (λ any. quiet_events {S = Unit {0}} any (λ _ _ _. Unit {0}) (λ _ _ _. Unit {0}) (InOsc o ps)
    (InOsc o (ps ++ run.0)) rest n Lead tt tt (run.2 any o ps)
    (omega arith) e))

-- ---- an application program command

module _ {S : Type 0} (limit : Option ℕ) (takes refuses : S → Event → S
    → Type 0) (o : Opener) (d rest : List ℕ) (n : ℕ) (old new : S)
    (none : bytes_of_class is_text d ≡ []) (passes : list_all is_text_byte (take n rest) ≡ true)
    (room : n
    < length rest)
    (ends : is_breaker (class_of (get_or rest n 0)) ≡ true) where
  apc_whole : emitting (apc_events limit (take n rest)) (move_at ground_move rest n)
      ≡ move_inside limit (InApc o (d ++ take n rest)) (get_or rest n 0)
      (class_of (get_or rest n 0))
  apc_whole =
      ap (λ t. emitting (apc_events limit t) (move_at ground_move rest n))
      (ap (λ t. t ++ take n rest) (sym none) ∙ sym (apc_kept d (take n rest) passes))
      ∙ rw (ends, move_inside) refl

  borrowed_apc_events : events_all limit (InApc o d) (take (n + 1) rest)
      ≡ apc_events limit (take n rest) ++ (move_at ground_move rest n).1
  borrowed_apc_events =
      quiet_events limit takes refuses (InApc o d) (InApc o (d ++ take n rest)) rest n _ old new
      (apc_text limit o d (take n rest) passes) room refl
      ∙ ap (λ m. m.1) (sym apc_whole)

  pub borrowed_apc_awaited : (may : S → Event → Type 0)
      → Awaits may takes old (events_all limit (InApc o d) rest)
      → Awaits may takes old (apc_events limit (take n rest) ++ (move_at ground_move rest n).1)
  borrowed_apc_awaited may =
      cut_first may takes rest (n + 1) limit (InApc o d) _ old borrowed_apc_events

  borrowed_apc_fresh : StaysFresh (InApc o d) rest (n + 1)
  borrowed_apc_fresh =
      fresh_by (InApc o d) (move_at ground_move rest n).0 rest (n + 1)
      (quiet_after limit takes refuses (InApc o d) (InApc o (d ++ take n rest)) rest n _ old new
      (apc_text limit o d (take n rest) passes) room refl
      ∙ rw (ends, after_by, move, move_inside) refl)
      (begun_fresh (get_or rest n 0) _ (drop (n + 1) rest))

  pub borrowed_apc_took : {K A : Type 0} (keeps : Option ℕ → K → List ℕ
      → Type 0) (machine : Machine K A)
      → Holds keeps limit machine
      (emitting (apc_events limit (take n rest)) (move_at ground_move rest n)).0
      × FoldsTo takes old
      (emitting (apc_events limit (take n rest)) (move_at ground_move rest n)).1 new
      → Holds keeps limit machine (after_all (InApc o d) (take (n + 1) rest))
      × FoldsTo takes old (events_all limit (InApc o d) (take (n + 1) rest)) new
      × StaysFresh (InApc o d) rest (n + 1)
  borrowed_apc_took keeps machine h =
      quiet_took limit takes refuses (InApc o d) (InApc o (d ++ take n rest)) rest n _ old new
      (apc_text limit o d (take n rest) passes) room refl keeps machine
      borrowed_apc_fresh
      (subst (λ m. Holds keeps limit machine m.0 × FoldsTo takes old m.1 new) apc_whole h)

  pub borrowed_apc_stops : {why : Type 0} → StopsAt ((false ≡ true) × why) takes refuses old
      (emitting (apc_events limit (take n rest)) (move_at ground_move rest n)).1 new
      → StopsAt ((may_grow_within (InApc o d) rest ≡ true) × why) takes refuses old
      (events_all limit (InApc o d) rest) new
  borrowed_apc_stops {why} h =
      quiet_stops_for limit takes refuses (InApc o d) (InApc o (d ++ take n rest)) rest n _ old new
      (apc_text limit o d (take n rest) passes) room refl ((false ≡ true) × why)
      (λ no. let never = no.0 in absurd cc)
      (subst (λ m. StopsAt ((false ≡ true) × why) takes refuses old m.1 new) apc_whole h)
