-- Prefixes that stop at the first event.
use Rattle.std.proofs.Common.{ℕ, zero, suc, ◌≡◌, ◌+◌, ◌-◌, ◌<◌, ◌≤◌, Bool, true, false, ◌&&◌, List, [], ◌∷◌, ◌++◌, length, take, drop, get_or, Option, None}
use Rattle.std.proofs.Common.{refl, ap, sym, ◌∙◌, subst, arith, ◌⊎◌, inl, inr, Ok}
use Rattle.std.specs.List.{FoldsTo, list_all, prefix_len}
use Rattle.std.proofs.Math.Seq.{take-add}
use Rattle.std.proofs.lemmas.Bool.{and_parts, cases_lt, false≢true}
use Rattle.std.proofs.lemmas.List.{take-take, take-append-drop, length-take-le}
use Rattle.std.proofs.lemmas.List.Folds.{list_all-append}
use Rattle.esc_frame.specs.declared.classes.Class.{Class}
use Rattle.esc_frame.specs.declared.classes.Class.TheVariants.{Lead}
use Rattle.esc_frame.specs.declared.machine.Machine.{Machine}
use Rattle.esc_frame.specs.declared.machine.State.TheVariants as state
use Rattle.esc_frame.specs.declared.utf8.sequence.Outcome.{Outcome}
use Rattle.esc_frame.specs.declared.utf8.sequence.Outcome.TheVariants as outcomes
use Rattle.esc_frame.specs.Classes.{class_of, is_breaker, in_osc}
use Rattle.esc_frame.specs.Machine.Calls.{TookSome, StaysFresh}
use Rattle.esc_frame.specs.Machine.Characters.{IsCharacter}
use Rattle.esc_frame.specs.Machine.TextRuns.{IsTextRun}
use Rattle.esc_frame.specs.Events.{Event, StopsAt}
use Rattle.esc_frame.specs.Leads.{Unfinished, Holds}
use Rattle.esc_frame.specs.Leads.Unfinished.{Ground, InCsi, InApc, InOsc, InOscPending}
use Rattle.esc_frame.specs.Machine.Moves.{move, after_by, events_by, pending_move, move_inside, goes_on, final_osc, osc_pending_move, after_all}
use Rattle.esc_frame.specs.Machine.Moves.{events_all, is_ground, is_fresh, borrows, is_borrowable, may_grow_in, may_grow_within, IsStill, IsQuietRun}
use Rattle.esc_frame.specs.Scans.{is_body_byte, is_text_byte}
use Rattle.esc_frame.specs.Segments.{Opener, OscUnit}
use Rattle.esc_frame.specs.Segments.OscUnit.{BrokenOff}
use Rattle.esc_frame.specs.Sequences.{is_sequence, is_pair, outcome}
use Rattle.esc_frame.specs.Stream.{IsQuietWithin}
use Rattle.esc_frame.proofs.Cut.CutAtGround.{to_ground}
use Rattle.esc_frame.proofs.ByteRuns.CsiRuns.{body_quiet, escape_class}
use Rattle.esc_frame.proofs.Borrow.BytesAreLent.{after_more, fresh_by, is_string, not_both, one_unborrowed}
use Rattle.esc_frame.proofs.ByteRuns.ManyBytes.{tail_is, tail_length, ran_took, ran_ends, lead_class, two_parts, three_parts, four_parts}
use Rattle.esc_frame.proofs.ByteRuns.QuietRuns.{quiet_folds}
use Rattle.esc_frame.proofs.ByteRuns.StringRuns.{apc_text, skip_holds, prefix_passes}
use Rattle.esc_frame.proofs.Emits.EventsAreTheCuts.{after_append, events_append, added_is}

-- says that a prefix of k bytes emits nothing and leaves a segment unfinished
abbrev Still : Option ℕ → Unfinished → List ℕ → Type 0
Still limit u ys = (events_all limit u ys ≡ []) × (is_ground (after_all u ys) ≡ false)

pub one_still : (limit : Option ℕ) (u : Unfinished) (rest : List ℕ) → IsStill limit u rest 1
one_still limit u rest = λ k a b. absurd (omega arith)

-- one byte outside of strings
pub one_run : (limit : Option ℕ) (u : Unfinished) (rest : List ℕ) → is_string u ≡ false
    → IsQuietRun limit u rest 0
one_run limit u rest s = record {
  none = refl;
  still = one_still limit u rest;
  unlent = one_unborrowed u rest s;
}

pub less_still : (limit : Option ℕ) (u : Unfinished) (rest : List ℕ) (m n : ℕ) → m ≤ n
    → IsStill limit u rest n → IsStill limit u rest m
less_still limit u rest m n l h = λ k a b. h k a (omega arith)

-- ---- prefixes of a run

passes_before : (p : ℕ → Bool) (rest : List ℕ) (run k : ℕ) → k ≤ run
    → list_all p (take run rest) ≡ true → list_all p (take k rest) ≡ true
passes_before p rest run k l h =
    let split : take k (take run rest) ++ drop k (take run rest) ≡ take run rest =
    take-append-drop k (take run rest) in
    let all : (list_all p (take k (take run rest)) && list_all p (drop k (take run rest))) ≡ true =
    sym
    (list_all-append p (take k (take run rest)) (drop k (take run rest))) ∙ ap (list_all p) split
    ∙ h in
    ap (list_all p) (sym (take-take k run rest l))
    ∙ (and_parts (list_all p (take k (take run rest))) (list_all p (drop k (take run rest)))
    all).0

no_first : (xs ys : List Event) → xs ++ ys ≡ [] → xs ≡ []
no_first [] ys h = refl
no_first (x ∷ xs) ys h = absurd cc

no_second : (xs ys : List Event) → xs ++ ys ≡ [] → ys ≡ []
no_second [] ys h = h
no_second (x ∷ xs) ys h = absurd cc

prefix_emits_not : (limit : Option ℕ) (u : Unfinished) (rest : List ℕ) (run k : ℕ) → k ≤ run
    → events_all limit u (take run rest) ≡ []
    → events_all limit u (take k rest) ≡ []
prefix_emits_not limit u rest run k l h =
    let xs : List ℕ = take k (take run rest) in
    let ys : List ℕ = drop k (take run rest) in
    let e : events_all limit u xs ++ events_all limit (after_all u xs) ys ≡ [] =
    sym (events_append limit u xs ys) ∙ ap (events_all limit u)
    (take-append-drop k (take run rest)) ∙ h in
    ap (events_all limit u) (sym (take-take k run rest l))
    ∙ no_first (events_all limit u xs) (events_all limit (after_all u xs) ys) e

-- ---- the body of a control sequence, and the byte after it

pub body_still : (limit : Option ℕ) (o : Opener) (x rest : List ℕ) (run : ℕ)
    → list_all is_body_byte (take run rest) ≡ true
    → IsStill limit (InCsi o x) rest (run + 1)
body_still limit o x rest run h = λ k a b.
    let q = body_quiet limit o x (take k rest) (passes_before is_body_byte rest run k (omega arith)
    h) in
    (q.1, ap is_ground q.0)

pub body_run : (limit : Option ℕ) (o : Opener) (x rest : List ℕ) (run : ℕ)
    → list_all is_body_byte (take run rest) ≡ true → IsQuietRun limit (InCsi o x) rest run
body_run limit o x rest run h = let q = body_quiet limit o x (take run rest) h in record {
  none = q.1;
  still = body_still limit o x rest run h;
  unlent = λ g. absurd (false≢true (sym (ap may_grow_in q.0) ∙ g));
}

-- ---- an operating system command: without a limit, to leave it emits its event

abbrev is_osc : Unfinished → Bool
is_osc (InOsc o ps) = true
is_osc (InOscPending o ps f) = true
is_osc _ = false

osc_no_ground : (u : Unfinished) → is_osc u ≡ true → is_ground u ≡ false
osc_no_ground Ground h = absurd cc
osc_no_ground _ h = refl

final_stays : (o : Opener) (ps : List OscUnit) (b : ℕ) (c : Class) → (final_osc None o ps b c).1
    ≡ []
    → is_osc (final_osc None o ps b c).0 ≡ true
final_stays o ps b Lead h = refl
final_stays o ps b _ h = absurd cc

text_stays : (o : Opener) (ps : List OscUnit) (b : ℕ) (c : Class) (t w : Bool) → is_breaker c ≡ t
    → in_osc c ≡ w → (move_inside None (InOsc o ps) b c).1 ≡ []
    → is_osc (move_inside None (InOsc o ps) b c).0 ≡ true
text_stays o ps b c true w e k = rw (e, move_inside) (λ h. absurd cc)
text_stays o ps b c false true e k = rw (e, k, move_inside, goes_on) (λ h. refl)
text_stays o ps b c false false e k = rw (e, k, move_inside, goes_on) (final_stays o ps b c)

whole_stays : (o : Opener) (ps : List OscUnit) (f : List ℕ) (b : ℕ) (c : Class) (t : Bool)
    → is_pair (f ++ b ∷ []) ≡ t
    → (osc_pending_move None o ps f b c outcomes.Whole).1 ≡ []
    → is_osc (osc_pending_move None o ps f b c outcomes.Whole).0 ≡ true
whole_stays o ps f b c true e = rw (e, osc_pending_move) (λ h. absurd cc)
whole_stays o ps f b c false e = rw (e, osc_pending_move) (λ h. refl)

pending_stays : (o : Opener) (ps : List OscUnit) (f : List ℕ) (b : ℕ) (c : Class) (w : Outcome)
    → (osc_pending_move None o ps f b c w).1 ≡ []
    → is_osc (osc_pending_move None o ps f b c w).0 ≡ true
pending_stays o ps f b c outcomes.Whole h = whole_stays o ps f b c (is_pair (f ++ b ∷ [])) refl h
pending_stays o ps f b c outcomes.More h = refl
pending_stays o ps f b c outcomes.Broken h =
    text_stays o (ps ++ BrokenOff f ∷ []) b c (is_breaker c) (in_osc c) refl refl h

stays_by : (u : Unfinished) (b : ℕ) → is_osc u ≡ true → events_by None u b (class_of b) ≡ []
    → is_osc (after_by u b (class_of b)) ≡ true
stays_by (InOsc o ps) b h e =
    text_stays o ps b (class_of b) (is_breaker (class_of b)) (in_osc (class_of b)) refl refl e
stays_by (InOscPending o ps f) b h e = pending_stays o ps f b (class_of b) (outcome f b) e
stays_by _ b h e = absurd cc

stays : (u : Unfinished) (ys : List ℕ) → is_osc u ≡ true → events_all None u ys ≡ []
    → is_osc (after_all u ys) ≡ true
stays u [] h e = h
stays u (b ∷ ys) h e =
    let v : Unfinished = after_by u b (class_of b) in
    let first : events_by None u b (class_of b) ≡ [] =
    no_first (events_by None u b (class_of b)) (events_all None v ys) e in
    let later : events_all None v ys ≡ [] =
    no_second (events_by None u b (class_of b)) (events_all None v ys) e in
    stays v ys (stays_by u b h first) later

-- a run of text emits nothing whatever the limit, and so is never left
pub text_still : (limit : Option ℕ) (o : Opener) (ps : List OscUnit) (rest : List ℕ) (run : ℕ)
    → ((any : Option ℕ) → events_all any (InOsc o ps) (take run rest) ≡ [])
    → IsStill limit (InOsc o ps) rest (run + 1)
text_still limit o ps rest run h = λ k a b.
    let e : (any : Option ℕ) → events_all any (InOsc o ps) (take k rest) ≡ [] =
    λ any. prefix_emits_not any (InOsc o ps) rest run k (omega arith) (h any) in (
      e limit,
      osc_no_ground (after_all (InOsc o ps) (take k rest))
          (stays (InOsc o ps) (take k rest) refl (e None)),
    )

-- a run that is kept
pub osc_run : (limit : Option ℕ) (o : Opener) (ps : List OscUnit) (rest : List ℕ) (run : ℕ)
    → IsTextRun (take run rest) → is_borrowable (InOsc o ps) rest ≡ false
    → IsQuietRun limit (InOsc o ps) rest run
osc_run limit o ps rest run text k = record {
  none = (text.2 limit o ps).1;
  still = text_still limit o ps rest run (λ any. (text.2 any o ps).1);
  unlent = λ g. k;
}

-- ---- runs in the strings that a breaker ends

holds_no_ground : {K A : Type 0} (keeps : Option ℕ → K → List ℕ
    → Type 0) (limit : Option ℕ) (m : Machine K A) (u : Unfinished) → Holds keeps limit m u
    → (m.state ≡ state.Ground → ⊥) → is_ground u ≡ false
holds_no_ground keeps limit m Ground h n = absurd (n h.0)
holds_no_ground keeps limit m _ h n = refl

pub apc_end_still : (limit : Option ℕ) (o : Opener) (d rest : List ℕ) (run : ℕ)
    → list_all is_text_byte (take run rest) ≡ true
    → IsStill limit (InApc o d) rest (run + 1)
apc_end_still limit o d rest run h = λ k a b.
    let q = apc_text limit o d (take k rest) (passes_before is_text_byte rest run k (omega arith)
    h) in
    (q.1, ap is_ground q.0)

pub apc_run : (limit : Option ℕ) (o : Opener) (d rest : List ℕ) (run : ℕ)
    → list_all is_text_byte (take run rest) ≡ true → is_borrowable (InApc o d) rest ≡ false
    → IsQuietRun limit (InApc o d) rest run
apc_run limit o d rest run h k = record {
  none = (apc_text limit o d (take run rest) h).1;
  still = apc_end_still limit o d rest run h;
  unlent = λ g. k;
}

module _ {K A : Type 0} (keeps : Option ℕ → K → List ℕ
    → Type 0) (limit : Option ℕ) (m : Machine K A) (u : Unfinished) (rest : List ℕ) (run : ℕ)
    (e : run ≡ prefix_len is_text_byte rest)
    (h : Holds keeps limit m u) where
  pub skip_still : m.state ≡ state.Ignored → IsStill limit u rest run
  skip_still s = λ k a b.
      let q = skip_holds keeps limit m (take k rest)
      (passes_before is_text_byte rest run k (omega arith) (prefix_passes rest run e)) u s h in
      (q.1, holds_no_ground keeps limit m (after_all u (take k rest)) q.0 (λ g. cc))

-- ---- bytes without events, and those after them

module _ (limit : Option ℕ) (u v : Unfinished) (rest : List ℕ) (i n : ℕ)
    (here : after_all u (take i rest) ≡ v) (none : events_all limit u (take i rest) ≡ [])
  where
    after_still : IsStill limit v (take (length rest - i) (drop i rest)) n → (j : ℕ) → 0 < j
        → j < n → Still limit u (take (i + j) rest)
    after_still h j a b =
        let m : Still limit v (take j (drop i rest)) =
        subst (λ y. Still limit v (take j y)) (tail_is rest i) (h j a b) in (
          ap (events_all limit u) (take-add i j rest)
              ∙ events_append limit u (take i rest) (take j (drop i rest)) ∙ ap
              (λ es. es ++ events_all limit (after_all u (take i rest)) (take j (drop i rest))) none
              ∙ ap (λ w. events_all limit w (take j (drop i rest))) here ∙ m.0,
          ap is_ground (after_more u rest i j ∙ ap (λ w. after_all w (take j (drop i rest))) here)
              ∙ m.1,
        )

    still_at : IsStill limit u rest (i + 1)
        → IsStill limit v (take (length rest - i) (drop i rest)) n → (k : ℕ) → 0 < k → k < i + n
        → ((i < k) ⊎ (k ≤ i))
        → Still limit u (take k rest)
    still_at f h k a b (inl l) =
        let e : i + (k - i) ≡ k = omega arith in
        subst (λ j. Still limit u (take j rest)) e
        (after_still h (k - i) (omega arith) (omega arith))
    still_at f h k a b (inr l) = f k a (omega arith)

    pub more_still : IsStill limit u rest (i + 1)
        → IsStill limit v (take (length rest - i) (drop i rest)) n → IsStill limit u rest (i + n)
    more_still f h = λ k a b. still_at f h k a b (cases_lt i k)

-- ESC and the byte that opens
escape_alone : (limit : Option ℕ) → Still limit Ground (0x1b ∷ [])
escape_alone limit = rw escape_class (refl, refl)

escape_first : (limit : Option ℕ) (rest : List ℕ) → 2 < length rest → get_or rest 0 0 ≡ 0x1b
    → Still limit Ground (take 1 rest)
escape_first limit [] l e = absurd (omega arith)
escape_first limit (x ∷ rest) l e =
    subst (λ y. Still limit Ground (y ∷ [])) (sym e) (escape_alone limit)

opens_at : (limit : Option ℕ) (rest : List ℕ) → 2 < length rest → get_or rest 0 0 ≡ 0x1b
    → Still limit Ground (take 2 rest) → (k : ℕ) → 0 < k → k < 3
    → Still limit Ground (take k rest)
opens_at limit rest l e h zero a b = absurd (omega arith)
opens_at limit rest l e h (suc zero) a b = escape_first limit rest l e
opens_at limit rest l e h (suc (suc zero)) a b = h
opens_at limit rest l e h (suc (suc (suc k))) a b = absurd (omega arith)

-- ---- ESC and a byte that opens, and the bytes after them that a call takes
module _ (limit : Option ℕ) (u : Unfinished) (rest : List ℕ) (l : 2 < length rest)
    (e : get_or rest 0 0 ≡ 0x1b)
    (begin : (after_all Ground (take 2 rest) ≡ u)
    × (events_all limit Ground (take 2 rest) ≡ [])) (o : is_ground u ≡ false) where
  pub opened_still : (n : ℕ) → IsStill limit u (take (length rest - 2) (drop 2 rest)) n
      → IsStill limit Ground rest (2 + n)
  opened_still n h =
      more_still limit Ground u rest 2 n begin.0 begin.1 (opens_at limit rest l e (
        begin.1,
        ap is_ground begin.0 ∙ o,
      )) h

  module _ {S : Type 0} (takes refuses : S → Event → S → Type 0) (is_ready : S
      → Type 0) (old new : S)
      (f : (r : List ℕ) → borrows u r ≡ true → is_fresh u ≡ true) where
    opened_first : StaysFresh Ground rest 2
    opened_first = fresh_by Ground u rest 2 begin.0 (f (drop 2 rest))

    pub opened_took : {K A : Type 0} (keeps : Option ℕ → K → List ℕ → Type 0)
        (may_fail : Option ℕ → Type 0)
        (before machine : Machine K A) (n : ℕ)
        → Holds keeps limit machine (after_all u (take n (take (length rest - 2) (drop 2 rest))))
        × FoldsTo takes old
        (events_all limit u (take n (take (length rest - 2) (drop 2 rest)))) new
        × StaysFresh u (take (length rest - 2) (drop 2 rest)) n
        → IsStill limit u (take (length rest - 2) (drop 2 rest)) n → (0 < n)
        × (n ≤ length (take (length rest - 2) (drop 2 rest))) × (is_ready old → is_ready new)
        × (machine.limit ≡ before.limit)
        → TookSome {E = Unit {0}} keeps may_fail limit takes refuses is_ready (Ok (2 + n))
        rest before machine old new
    opened_took keeps may_fail before machine n t q a =
        let k = tail_length rest 2 in (
          ran_took limit takes refuses Ground u rest 2 old old new begin.0
              (quiet_folds takes (events_all limit Ground (take 2 rest)) old begin.1) keeps machine
              n
              opened_first t,
          opened_still n q,
          (omega (arith, a.0), omega (arith, a.1), a.2, a.3),
        )

    pub opened_stops : {why : Type 0}
        → StopsAt ((may_grow_within u (take (length rest - 2) (drop 2 rest)) ≡ true) × why)
        takes refuses old
        (events_all limit u (take (length rest - 2) (drop 2 rest))) new
        → StopsAt ((may_grow_within Ground rest ≡ true) × why) takes refuses old
        (events_all limit Ground rest) new
    opened_stops h =
        ran_ends limit takes refuses Ground u rest 2 old old new begin.0
        (quiet_folds takes (events_all limit Ground (take 2 rest)) old begin.1) opened_first h

-- ---- a whole sequence in ground

two_still : (limit : Option ℕ) (a b : ℕ) (k : ℕ) → is_sequence (a ∷ b ∷ []) ≡ true → 0 < k → k < 2
    → Still limit Ground (take k (a ∷ b ∷ []))
two_still limit a b zero s l m = absurd (omega arith)
two_still limit a b (suc zero) s l m = rw (
  lead_class a (two_parts a b s),
  after_by,
  events_by,
  move,
  pending_move,
  outcome,
) (refl, refl)
two_still limit a b (suc (suc k)) s l m = absurd (omega arith)

three_still : (limit : Option ℕ) (a b c : ℕ) (k : ℕ) → is_sequence (a ∷ b ∷ c ∷ []) ≡ true → 0 < k
    → k < 3 → Still limit Ground (take k (a ∷ b ∷ c ∷ []))
three_still limit a b c zero s l m = absurd (omega arith)
three_still limit a b c (suc zero) s l m = let t = three_parts a b c s in
    rw (lead_class a t.0, after_by, events_by, move, pending_move, outcome) (refl, refl)
three_still limit a b c (suc (suc zero)) s l m = let t = three_parts a b c s
    in rw (lead_class a t.0, t.1, t.2, after_by, events_by, move, pending_move, outcome)
    (refl, refl)
three_still limit a b c (suc (suc (suc k))) s l m = absurd (omega arith)

four_still : (limit : Option ℕ) (a b c d : ℕ) (k : ℕ) → is_sequence (a ∷ b ∷ c ∷ d ∷ []) ≡ true
    → 0 < k → k < 4
    → Still limit Ground (take k (a ∷ b ∷ c ∷ d ∷ []))
four_still limit a b c d zero s l m = absurd (omega arith)
four_still limit a b c d (suc zero) s l m = let t = four_parts a b c d s in
    rw (lead_class a t.0, after_by, events_by, move, pending_move, outcome) (refl, refl)
four_still limit a b c d (suc (suc zero)) s l m = let t = four_parts a b c d s
    in rw (lead_class a t.0, t.1, t.2, after_by, events_by, move, pending_move, outcome)
    (refl, refl)
four_still limit a b c d (suc (suc (suc zero))) s l m = let t = four_parts a b c d s
    in rw (
      lead_class a t.0,
      t.1,
      t.2,
      t.3,
      t.4,
      after_by,
      events_by,
      move,
      pending_move,
      outcome,
    ) (refl, refl)
four_still limit a b c d (suc (suc (suc (suc k)))) s l m = absurd (omega arith)

sequence_still : (limit : Option ℕ) (x : List ℕ) (k : ℕ) → is_sequence x ≡ true → 0 < k
    → k < length x → Still limit Ground (take k x)
unfolding is_sequence
sequence_still limit [] k s l m = absurd cc
sequence_still limit (a ∷ []) k s l m = absurd cc
sequence_still limit (a ∷ b ∷ []) k s l m = two_still limit a b k s l m
sequence_still limit (a ∷ b ∷ c ∷ []) k s l m = three_still limit a b c k s l m
sequence_still limit (a ∷ b ∷ c ∷ d ∷ []) k s l m = four_still limit a b c d k s l m
sequence_still limit (a ∷ b ∷ c ∷ d ∷ e ∷ x) k s l m = absurd cc

pub character_still : (limit : Option ℕ) (rest : List ℕ) (n c : ℕ) → n ≤ length rest
    → IsCharacter (take n rest) c → IsStill limit Ground rest n
character_still limit rest n c l h = λ k a b.
    let long : length (take n rest) ≡ n = length-take-le n rest l in
    subst (Still limit Ground) (take-take k n rest (omega arith))
    (sequence_still limit (take n rest) k h.0 a (omega arith))

-- ---- the stream

pub quiet_all : (limit : Option ℕ) (s b : List ℕ) (n : ℕ) → IsStill limit (after_all Ground s) b n
    → IsQuietWithin limit s b n
quiet_all limit s b n h = λ k l m.
    let q = h k l m in (
      added_is limit s (take k b) ∙ q.0,
      λ g. not_both (is_ground (after_all (after_all Ground s) (take k b)))
          (ap is_ground (sym (after_append Ground s (take k b)) ∙ to_ground (s ++ take k b) g)) q.1,
    )
