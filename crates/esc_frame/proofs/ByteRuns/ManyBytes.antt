-- Many bytes at once.
use Rattle.std.proofs.Common.{ℕ, suc, ◌≡◌, ◌≢◌, ◌+◌, ◌<◌, ◌≤◌, Bool, true, false, cond, ◌&&◌, List, [], ◌∷◌, ◌++◌, map, length, take, drop, get_or}
use Rattle.std.proofs.Common.{refl, Option, None}
use Rattle.std.proofs.Common.{ap, sym, ◌∙◌, subst, take-append-drop, length-drop, length-take, append_assoc, ◌-◌, arith}
use Rattle.std.specs.List.{FoldsTo, prefix_len, list_all}
use Rattle.std.proofs.Math.Seq.{take-add}
use Rattle.std.proofs.lemmas.List.{append-nil, take_all}
use Rattle.std.proofs.lemmas.Bool.{and_parts}
use Rattle.std.proofs.lemmas.Bool.Decides.{nat_tests}
use Rattle.esc_frame.specs.declared.classes.Class.TheVariants.{Lead}
use Rattle.esc_frame.specs.Classes.{class_of, is_control, is_text}
use Rattle.esc_frame.specs.Scans.{is_text_byte}
use Rattle.esc_frame.specs.Sequences.{is_sequence, is_prefix, is_pair, number_of, outcome, is_from, is_second, is_tail}
use Rattle.esc_frame.specs.Events.{Event, StopsAt}
use Rattle.esc_frame.specs.Events.Event.{Execute, Print}
use Rattle.esc_frame.specs.declared.machine.Machine.{Machine}
use Rattle.esc_frame.specs.Leads.{Unfinished, Holds}
use Rattle.esc_frame.specs.Leads.Unfinished.{Ground, InOsc}
use Rattle.esc_frame.specs.Segments.{Opener, OscUnit}
use Rattle.esc_frame.specs.Segments.OscUnit.{Sequence}
use Rattle.esc_frame.specs.Machine.Moves.{move, ground_move, pending_move, osc_pending_move, move_inside, goes_on, after_by, events_by, after_all, events_all}
use Rattle.esc_frame.specs.Machine.Moves.{all_pass, may_grow_within}
use Rattle.esc_frame.specs.Machine.Calls.{Ran, StaysFresh, IsOneEvent}
use Rattle.esc_frame.specs.Machine.Characters.{IsCharacter}
use Rattle.esc_frame.proofs.Emits.EventsFold.{folds_then, stops_then, stops_more, stops_for, refused_stops}
use Rattle.esc_frame.proofs.Borrow.BytesAreLent.{after_more, fresh_more, grows_after}
use Rattle.esc_frame.proofs.Steps.MovesIgnoreLimit.{after_same}
use Rattle.esc_frame.proofs.Emits.EventsAreTheCuts.{events_append}

-- ---- one run after another

module _ {S : Type 0} (limit : Option ℕ) (takes refuses : S → Event → S
    → Type 0) (u : Unfinished) (rest : List ℕ) (i : ℕ) (old mid new : S)
    (so : FoldsTo takes old (events_all limit u (take i rest)) mid) where
  -- n bytes more
  pub given_more : (n : ℕ)
      → FoldsTo takes mid (events_all limit (after_all u (take i rest)) (take n (drop i rest))) new
      → FoldsTo takes old (events_all limit u (take (i + n) rest)) new
  given_more n h =
      subst (λ es. FoldsTo takes old es new)
      (sym (ap (events_all limit u) (take-add i n rest)
      ∙ events_append limit u (take i rest) (take n (drop i rest))))
      (folds_then takes (events_all limit u (take i rest)) _ old mid new so h)

  -- stopped within the bytes after them
  pub given_stop : (own : Type 0)
      → StopsAt own takes refuses mid
      (events_all limit (after_all u (take i rest)) (drop i rest)) new
      → StopsAt own takes refuses old (events_all limit u rest) new
  given_stop own h =
      subst (λ es. StopsAt own takes refuses old es new)
      (sym (events_append limit u (take i rest) (drop i rest))
      ∙ ap (events_all limit u) (take-append-drop i rest))
      (stops_then own takes refuses (events_all limit u (take i rest)) _ old mid new so h)

-- a slice to the end
pub tail_is : (rest : List ℕ) (i : ℕ) → take (length rest - i) (drop i rest) ≡ drop i rest
tail_is rest i = take_all (length rest - i) (drop i rest) (omega (arith, length-drop i rest))

pub tail_length : (rest : List ℕ) (i : ℕ)
    → length (take (length rest - i) (drop i rest)) ≡ length rest - i
tail_length rest i = ap length (tail_is rest i) ∙ length-drop i rest

module _ {S : Type 0} (limit : Option ℕ) (takes refuses : S → Event → S
    → Type 0) (u v : Unfinished) (rest : List ℕ) (i : ℕ) (old mid new : S)
    (here : after_all u (take i rest) ≡ v)
    (so : FoldsTo takes old (events_all limit u (take i rest))
    mid) where
  -- a call took n bytes of a slice to the end
  pub ran_more : (w : Unfinished) (n : ℕ)
      → (after_all v (take n (take (length rest - i) (drop i rest))) ≡ w)
      × FoldsTo takes mid (events_all limit v (take n (take (length rest - i) (drop i rest)))) new
      → (after_all u (take (i + n) rest) ≡ w)
      × FoldsTo takes old (events_all limit u (take (i + n) rest)) new
  ran_more w n (a, g) =
      let e : take n (take (length rest - i) (drop i rest)) ≡ take n (drop i rest) =
      ap (take n) (tail_is rest i) in (
        after_more u rest i n ∙ ap (λ x. after_all x (take n (drop i rest))) here
            ∙ ap (after_all v) (sym e) ∙ a,
        given_more limit takes refuses u rest i old mid new so n
            (subst (λ x.
            FoldsTo takes mid (events_all limit x (take n (drop i rest))) new) (sym here)
            (subst (λ y. FoldsTo takes mid (events_all limit v y) new) e g)),
      )

  pub ran_took : {K A : Type 0} (keeps : Option ℕ → K → List ℕ
      → Type 0) (machine : Machine K A) (n : ℕ) → StaysFresh u rest i
      → Holds keeps limit machine (after_all v (take n (take (length rest - i) (drop i rest))))
      × FoldsTo takes mid
      (events_all limit v (take n (take (length rest - i) (drop i rest)))) new
      × StaysFresh v (take (length rest - i) (drop i rest)) n
      → Holds keeps limit machine (after_all u (take (i + n) rest))
      × FoldsTo takes old (events_all limit u (take (i + n) rest)) new × StaysFresh u rest (i + n)
  ran_took keeps machine n fresh (h, f, g) =
      let r = ran_more (after_all v (take n (take (length rest - i) (drop i rest)))) n
      (refl, f) in (
        subst (λ w. Holds keeps limit machine w) (sym r.0) h,
        r.1,
        fresh_more u rest i n fresh (subst (λ w. StaysFresh w (drop i rest) n) (sym here)
            (subst (λ y. StaysFresh v y n) (tail_is rest i) g)),
      )

  -- or stopped within it, by a refused call
  pub ran_stop : (own : Type 0)
      → StopsAt own takes refuses mid
      (events_all limit v (take (length rest - i) (drop i rest))) new
      → StopsAt own takes refuses old (events_all limit u rest) new
  ran_stop own h =
      given_stop limit takes refuses u rest i old mid new so own
      (subst (λ x. StopsAt own takes refuses mid (events_all limit x (drop i rest)) new)
      (sym here)
      (subst (λ y. StopsAt own takes refuses mid (events_all limit v y) new) (tail_is rest i) h))

  -- or by itself
  pub ran_ends : {why : Type 0} → StaysFresh u rest i
      → StopsAt ((may_grow_within v (take (length rest - i) (drop i rest)) ≡ true) × why)
      takes refuses mid
      (events_all limit v (take (length rest - i) (drop i rest))) new
      → StopsAt ((may_grow_within u rest ≡ true) × why) takes refuses old
      (events_all limit u rest) new
  ran_ends {why} fresh h =
      ran_stop ((may_grow_within u rest ≡ true) × why)
      (stops_for ((may_grow_within v (take (length rest - i) (drop i rest)) ≡ true) × why)
      ((may_grow_within u rest ≡ true) × why) takes refuses _ mid new
      (λ g. (
        grows_after u rest i fresh (ap (λ x. may_grow_within x (drop i rest)) here
            ∙ ap (may_grow_within v) (sym (tail_is rest i)) ∙ g.0),
        g.1,
      )) h)

-- in ground: n bytes of a slice to the end
module _ {S : Type 0} (takes refuses : S → Event → S → Type 0) (is_ready : S
    → Type 0) (rest : List ℕ) (i : ℕ) where
  pub ran_again : (n : ℕ) (old mid new : S) → Ran takes is_ready rest i old mid
      → Ran takes is_ready (take (length rest - i) (drop i rest)) n mid new
      → Ran takes is_ready rest (i + n) old new
  ran_again n old mid new so h =
      let l = tail_length rest i in (
        omega (arith, so.0, h.0),
        (ran_more None takes refuses Ground Ground rest i old mid new so.1 (so.2 None) Ground n
            (h.1, h.2 None)).0,
        λ limit. (ran_more limit takes refuses Ground Ground rest i old mid new so.1 (so.2 limit)
            Ground n (h.1, h.2 limit)).1,
        λ r. h.3 (so.3 r),
      )

  -- or none
  pub ran_none : (n : ℕ) (old mid new : S) → n ≡ 0 → Ran takes is_ready rest i old mid
      → Ran takes is_ready (take (length rest - i) (drop i rest)) n mid new
      → Ran takes is_ready rest i old new
  ran_none n old mid new e so h =
      let same : mid ≡ new =
      subst (λ k. FoldsTo takes mid
      (events_all None Ground (take k (take (length rest - i) (drop i rest)))) new) e
      (h.2 None) in (
        so.0,
        so.1,
        λ limit. subst (λ x. FoldsTo takes old (events_all limit Ground (take i rest)) x)
            same (so.2 limit),
        λ r. h.3 (so.3 r),
      )

  pub ran_refused : {own : Type 0} (old mid new : S) → Ran takes is_ready rest i old mid
      → ((limit : Option ℕ)
      → StopsAt own takes refuses mid
      (events_all limit Ground (take (length rest - i) (drop i rest)))
      new)
      → (limit : Option ℕ) → StopsAt own takes refuses old (events_all limit Ground rest) new
  ran_refused {own} old mid new so h = λ limit.
      ran_stop limit takes refuses Ground Ground rest i old mid new so.1 (so.2 limit) own (h limit)

-- a call that stopped within a prefix stopped within the whole
pub stop_within : {S : Type 0} (limit : Option ℕ) (own : Type 0) (takes refuses : S → Event → S
    → Type 0) (u : Unfinished) (rest : List ℕ) (n : ℕ) (old new : S)
    → StopsAt own takes refuses old (events_all limit u (take n rest)) new
    → StopsAt own takes refuses old (events_all limit u rest) new
stop_within limit own takes refuses u rest n old new h =
    subst (λ es. StopsAt own takes refuses old es new)
    (sym (events_append limit u (take n rest) (drop n rest))
    ∙ ap (events_all limit u) (take-append-drop n rest))
    (stops_more own takes refuses (events_all limit u (take n rest)) _ old new h)

-- bytes that the unfinished takes without a word
pub quiet_run : (limit : Option ℕ) (f : List ℕ → Unfinished) (p : ℕ → Bool)
    → ((d : List ℕ) (b : ℕ) → p b ≡ true → move limit (f d) b (class_of b) ≡ (f (d ++ b ∷ []), []))
    → (d ys : List ℕ) → list_all p ys ≡ true → (after_all (f d) ys ≡ f (d ++ ys))
    × (events_all limit (f d) ys ≡ [])
quiet_run limit f p does d [] h = (ap f (sym (append-nil d)), refl)
quiet_run limit f p does d (b ∷ ys) h =
    let k = and_parts (p b) (list_all p ys) h in
    let q = quiet_run limit f p does (d ++ b ∷ []) ys k.1 in
    let w : after_by (f d) b (class_of b) ≡ f (d ++ b ∷ []) =
    sym (after_same limit (f d) b (class_of b)) ∙ ap (λ m. m.0) (does d b k.0) in (
      ap (λ v. after_all v ys) w ∙ q.0 ∙ ap f (append_assoc d (b ∷ []) ys),
      ap (λ m. m.1 ++ events_all limit (after_by (f d) b (class_of b)) ys) (does d b k.0)
          ∙ ap (λ v. events_all limit v ys) w ∙ q.1,
    )

-- ---- text in ground

pub text_class : (b : ℕ) → is_text_byte b ≡ true → is_text (class_of b) ≡ true
unfolding class_of
text_class b h = grind (arith, nat_tests)

passes_at : (p : ℕ → Bool) (x : ℕ) (xs : List ℕ) (n : ℕ) (t : Bool) → p x ≡ t
    → list_all p (take n xs) ≡ true
    → list_all p (take (cond t (1 + n) 0) (x ∷ xs)) ≡ true
passes_at p x xs n false e h = refl
passes_at p x xs n true e h =
    let one : suc n ≡ 1 + n = omega arith in
    subst (λ k. list_all p (take k (x ∷ xs)) ≡ true) one
    (subst (λ t. (t && list_all p (take n xs)) ≡ true) (sym e) h)

-- the bytes of a run pass
pub run_passes : (p : ℕ → Bool) (xs : List ℕ) → list_all p (take (prefix_len p xs) xs) ≡ true
run_passes p [] = refl
run_passes p (x ∷ xs) = passes_at p x xs (prefix_len p xs) (p x) refl (run_passes p xs)

text_move : (b : ℕ) → is_text_byte b ≡ true → ground_move b (class_of b) ≡ (Ground, Print b ∷ [])
text_move b h = rw (text_class b h, ground_move) refl

pub text_run : (limit : Option ℕ) (xs : List ℕ) → list_all is_text_byte xs ≡ true
    → (after_all Ground xs ≡ Ground) × (events_all limit Ground xs ≡ map Print xs)
text_run limit [] h = (refl, refl)
text_run limit (x ∷ xs) h =
    let k = and_parts (is_text_byte x) (list_all is_text_byte xs) h in
    let q = text_run limit xs k.1 in
    rw (text_move x k.0, after_by, events_by, move) (q.0, ap (λ es. Print x ∷ es) q.1)

-- ---- a whole sequence in ground

pub lead_class : (b : ℕ) → is_from 0xc2 0xf4 b ≡ true → class_of b ≡ Lead
unfolding class_of
lead_class b h = grind (arith, nat_tests)

lower : (a l h : ℕ) → is_from l h a ≡ true → 0xc2 ≤ l → h ≤ 0xf4 → is_from 0xc2 0xf4 a ≡ true
lower a l h e p q = grind (arith, nat_tests)

above : (a l h : ℕ) → is_from l h a ≡ true → 0xdf < l → is_from 0xc2 0xdf a ≡ false
above a l h e p = grind (arith, nat_tests)

wider : (a l h : ℕ) → is_from l h a ≡ true → 0xe0 ≤ l → h ≤ 0xf4 → is_from 0xe0 0xf4 a ≡ true
wider a l h e p q = grind (arith, nat_tests)

over : (a l h : ℕ) → is_from l h a ≡ true → 0xef < l → is_from 0xe0 0xef a ≡ false
over a l h e p = grind (arith, nat_tests)

both3 : (r s t : Bool) → (r && s && t) ≡ true → (r ≡ true) × (s ≡ true) × (t ≡ true)
both3 true true t h = (refl, refl, h)
both3 true false t h = absurd cc
both3 false s t h = absurd cc

both4 : (q r s t : Bool) → (q && r && s && t) ≡ true → (q ≡ true) × (r ≡ true) × (s ≡ true)
    × (t ≡ true)
both4 true r s t h = let k = both3 r s t h in (refl, k.0, k.1, k.2)
both4 false r s t h = absurd cc

none : {X : Type 0} → false ≡ true → X
none h = absurd cc

pub two_parts : (a b : ℕ) → is_sequence (a ∷ b ∷ []) ≡ true → is_from 0xc2 0xf4 a ≡ true
unfolding is_sequence
two_parts a b h = let k = and_parts (is_from 0xc2 0xdf a) (is_tail b) h in
    lower a 0xc2 0xdf k.0 (omega arith) (omega arith)

-- three bytes: the first two are a prefix
pub three_parts : (a b c : ℕ) → is_sequence (a ∷ b ∷ c ∷ []) ≡ true
    → (is_from 0xc2 0xf4 a ≡ true) × (is_sequence (a ∷ b ∷ []) ≡ false)
    × (is_prefix (a ∷ b ∷ []) ≡ true)
unfolding is_sequence is_prefix
three_parts a b c h =
    let k = both3 (is_from 0xe0 0xef a) (is_second a b) (is_tail c) h in
    let no : is_from 0xc2 0xdf a ≡ false = above a 0xe0 0xef k.0 (omega arith) in
    let on : is_from 0xe0 0xf4 a ≡ true = wider a 0xe0 0xef k.0 (omega arith) (omega arith) in
    (lower a 0xe0 0xef k.0 (omega arith) (omega arith), rw no refl, rw (on, k.1) refl)

pub four_parts : (a b c d : ℕ) → is_sequence (a ∷ b ∷ c ∷ d ∷ []) ≡ true
    → (is_from 0xc2 0xf4 a ≡ true) × (is_sequence (a ∷ b ∷ []) ≡ false)
    × (is_prefix (a ∷ b ∷ []) ≡ true) × (is_sequence (a ∷ b ∷ c ∷ []) ≡ false) ×
    (is_prefix (a ∷ b ∷ c ∷ []) ≡ true)
unfolding is_sequence is_prefix
four_parts a b c d h =
    let k = both4 (is_from 0xf0 0xf4 a) (is_second a b) (is_tail c) (is_tail d) h in
    let no : is_from 0xc2 0xdf a ≡ false = above a 0xf0 0xf4 k.0 (omega arith) in
    let on : is_from 0xe0 0xf4 a ≡ true = wider a 0xf0 0xf4 k.0 (omega arith) (omega arith) in
    let off : is_from 0xe0 0xef a ≡ false = over a 0xf0 0xf4 k.0 (omega arith) in (
      lower a 0xf0 0xf4 k.0 (omega arith) (omega arith),
      rw no refl,
      rw (on, k.1) refl,
      rw off refl,
      rw (k.0, k.1, k.2) refl,
    )

prints_two : (a b : ℕ) → is_sequence (a ∷ b ∷ []) ≡ true → is_pair (a ∷ b ∷ []) ≡ false
    → IsOneEvent (a ∷ b ∷ []) (Print (number_of (a ∷ b ∷ [])))
prints_two a b s p = rw (
  lead_class a (two_parts a b s),
  s,
  p,
  after_by,
  events_by,
  move,
  pending_move,
  outcome,
) (refl, λ limit. refl)

prints_three : (a b c : ℕ) → is_sequence (a ∷ b ∷ c ∷ []) ≡ true → is_pair (a ∷ b ∷ c ∷ []) ≡ false
    → IsOneEvent (a ∷ b ∷ c ∷ []) (Print (number_of (a ∷ b ∷ c ∷ [])))
prints_three a b c s p = let t = three_parts a b c s in
    rw (lead_class a t.0, t.1, t.2, s, p, after_by, events_by, move, pending_move, outcome)
    (refl, λ limit. refl)

prints_four : (a b c d : ℕ) → is_sequence (a ∷ b ∷ c ∷ d ∷ []) ≡ true
    → is_pair (a ∷ b ∷ c ∷ d ∷ []) ≡ false
    → IsOneEvent (a ∷ b ∷ c ∷ d ∷ []) (Print (number_of (a ∷ b ∷ c ∷ d ∷ [])))
prints_four a b c d s p = let t = four_parts a b c d s
    in rw (
      lead_class a t.0,
      t.1,
      t.2,
      t.3,
      t.4,
      s,
      p,
      after_by,
      events_by,
      move,
      pending_move,
      outcome,
    ) (refl, λ limit. refl)

sequence_prints : (x : List ℕ) → is_sequence x ≡ true → is_pair x ≡ false
    → IsOneEvent x (Print (number_of x))
unfolding is_sequence
sequence_prints [] s p = none s
sequence_prints (a ∷ []) s p = none s
sequence_prints (a ∷ b ∷ []) s p = prints_two a b s p
sequence_prints (a ∷ b ∷ d ∷ []) s p = prints_three a b d s p
sequence_prints (a ∷ b ∷ d ∷ e ∷ []) s p = prints_four a b d e s p
sequence_prints (a ∷ b ∷ d ∷ e ∷ f ∷ x) s p = none s

pub character_does : (x : List ℕ) (c : ℕ) → IsCharacter x c → IsOneEvent x (Print c)
character_does x c (s, p, k) = let q = sequence_prints x s p in
    (q.0, λ limit. q.1 limit ∙ ap (λ n. Print n ∷ []) (sym k))

-- ---- a whole sequence in an OSC

osc_two : (limit : Option ℕ) (o : Opener) (ps : List OscUnit) (a b : ℕ)
    → is_sequence (a ∷ b ∷ []) ≡ true → is_pair (a ∷ b ∷ []) ≡ false
    → (after_all (InOsc o ps) (a ∷ b ∷ []) ≡ InOsc o (ps ++ Sequence (a ∷ b ∷ []) ∷ []))
    × (events_all limit (InOsc o ps) (a ∷ b ∷ []) ≡ [])
    × (all_pass (InOsc o ps) (a ∷ b ∷ []) ≡ true)
osc_two limit o ps a b s p = rw (
  lead_class a (two_parts a b s),
  s,
  p,
  after_by,
  events_by,
  move,
  move_inside,
  goes_on,
  osc_pending_move,
  outcome,
) (refl, refl, refl)

osc_three : (limit : Option ℕ) (o : Opener) (ps : List OscUnit) (a b c : ℕ)
    → is_sequence (a ∷ b ∷ c ∷ []) ≡ true → is_pair (a ∷ b ∷ c ∷ []) ≡ false
    → (after_all (InOsc o ps) (a ∷ b ∷ c ∷ []) ≡ InOsc o (ps ++ Sequence (a ∷ b ∷ c ∷ []) ∷ []))
    × (events_all limit (InOsc o ps) (a ∷ b ∷ c ∷ []) ≡ [])
    × (all_pass (InOsc o ps) (a ∷ b ∷ c ∷ []) ≡ true)
osc_three limit o ps a b c s p = let t = three_parts a b c s
    in rw (
      lead_class a t.0,
      t.1,
      t.2,
      s,
      p,
      after_by,
      events_by,
      move,
      move_inside,
      goes_on,
      osc_pending_move,
      outcome,
    ) (refl, refl, refl)

osc_four : (limit : Option ℕ) (o : Opener) (ps : List OscUnit) (a b c d : ℕ)
    → is_sequence (a ∷ b ∷ c ∷ d ∷ []) ≡ true → is_pair (a ∷ b ∷ c ∷ d ∷ []) ≡ false
    → (after_all (InOsc o ps) (a ∷ b ∷ c ∷ d ∷ [])
    ≡ InOsc o (ps ++ Sequence (a ∷ b ∷ c ∷ d ∷ []) ∷ []))
    × (events_all limit (InOsc o ps) (a ∷ b ∷ c ∷ d ∷ []) ≡ [])
    × (all_pass (InOsc o ps) (a ∷ b ∷ c ∷ d ∷ []) ≡ true)
osc_four limit o ps a b c d s p = let t = four_parts a b c d s
    in rw (
      lead_class a t.0,
      t.1,
      t.2,
      t.3,
      t.4,
      s,
      p,
      after_by,
      events_by,
      move,
      move_inside,
      goes_on,
      osc_pending_move,
      outcome,
    ) (refl, refl, refl)

osc_sequence_does : (limit : Option ℕ) (o : Opener) (ps : List OscUnit) (x : List ℕ)
    → is_sequence x ≡ true → is_pair x ≡ false
    → (after_all (InOsc o ps) x ≡ InOsc o (ps ++ Sequence x ∷ []))
    × (events_all limit (InOsc o ps) x ≡ []) × (all_pass (InOsc o ps) x ≡ true)
unfolding is_sequence
osc_sequence_does limit o ps [] s p = none s
osc_sequence_does limit o ps (a ∷ []) s p = none s
osc_sequence_does limit o ps (a ∷ b ∷ []) s p = osc_two limit o ps a b s p
osc_sequence_does limit o ps (a ∷ b ∷ d ∷ []) s p = osc_three limit o ps a b d s p
osc_sequence_does limit o ps (a ∷ b ∷ d ∷ e ∷ []) s p = osc_four limit o ps a b d e s p
osc_sequence_does limit o ps (a ∷ b ∷ d ∷ e ∷ f ∷ x) s p = none s

pub osc_sequence : (limit : Option ℕ) (o : Opener) (ps : List OscUnit) (x : List ℕ)
    → is_sequence x ≡ true → is_pair x ≡ false
    → (after_all (InOsc o ps) x ≡ InOsc o (ps ++ Sequence x ∷ []))
    × (events_all limit (InOsc o ps) x ≡ [])
osc_sequence limit o ps x s p = let q = osc_sequence_does limit o ps x s p in (q.0, q.1)

pub osc_sequence_passes : (o : Opener) (ps : List OscUnit) (x : List ℕ) → is_sequence x ≡ true
    → is_pair x ≡ false → all_pass (InOsc o ps) x ≡ true
osc_sequence_passes o ps x s p = (osc_sequence_does None o ps x s p).2

-- ---- the events that the actor is given for them

module _ {S : Type 0} (takes refuses : S → Event → S
    → Type 0) (rest : List ℕ) (n : ℕ) (old new : S) where
  pub text_given : n ≡ prefix_len is_text_byte rest
      → FoldsTo takes old (map Print (take n rest)) new
      → (after_all Ground (take n rest) ≡ Ground)
      × ((limit : Option ℕ) → FoldsTo takes old (events_all limit Ground (take n rest)) new)
  text_given e f =
      let p : list_all is_text_byte (take n rest) ≡ true =
      subst (λ k. list_all is_text_byte (take k rest) ≡ true) (sym e)
      (run_passes is_text_byte rest) in (
        (text_run None (take n rest) p).0,
        λ limit.
            subst (λ es. FoldsTo takes old es new) (sym (text_run limit (take n rest) p).1) f,
      )

  pub text_stops : (own : Type 0) → n ≡ prefix_len is_text_byte rest
      → StopsAt own takes refuses old (map Print (take n rest)) new
      → (limit : Option ℕ) → StopsAt own takes refuses old (events_all limit Ground rest) new
  text_stops own e f = λ limit.
      let p : list_all is_text_byte (take n rest) ≡ true =
      subst (λ k. list_all is_text_byte (take k rest) ≡ true) (sym e)
      (run_passes is_text_byte rest) in
      stop_within limit own takes refuses Ground rest n old new
      (subst (λ es. StopsAt own takes refuses old es new)
      (sym (text_run limit (take n rest) p).1) f)

-- a run that begins with a byte of text is not empty
pub some_run : (rest : List ℕ) → 0 < length rest → 0x20 ≤ get_or rest 0 0 → get_or rest 0 0 < 0x80
    → 0 < length (take (prefix_len is_text_byte rest) rest)
some_run [] l low high = absurd (omega arith)
some_run (x ∷ rest) l low high =
    let p : is_text_byte x ≡ true = grind (arith, nat_tests) in
    let n : prefix_len is_text_byte (x ∷ rest) ≡ 1 + prefix_len is_text_byte rest = rw p refl in
    subst (λ k. 0 < length (take k (x ∷ rest))) (sym n)
    (some_of x rest (prefix_len is_text_byte rest))
  where
    some_of : (x : ℕ) (xs : List ℕ) (n : ℕ) → 0 < length (take (1 + n) (x ∷ xs))
    some_of x xs n = grind (arith, length-take)

-- one byte of text
pub one_text : (rest : List ℕ) → 0 < length rest → is_text_byte (get_or rest 0 0) ≡ true
    → IsOneEvent (take 1 rest) (Print (get_or rest 0 0))
one_text [] l h = absurd (omega arith)
one_text (x ∷ rest) l h = let p : list_all is_text_byte (x ∷ []) ≡ true = rw h refl in
    ((text_run None (x ∷ []) p).0, λ limit. (text_run limit (x ∷ []) p).1)

-- one control
control_class : (b : ℕ) → b < 0x20 → b ≢ 0x1b → (is_text (class_of b) ≡ false)
    × (is_control (class_of b) ≡ true)
unfolding class_of
control_class b low other = (grind (arith, nat_tests), grind (arith, nat_tests))

pub one_control : (rest : List ℕ) → 0 < length rest → get_or rest 0 0 < 0x20
    → get_or rest 0 0 ≢ 0x1b
    → IsOneEvent (take 1 rest) (Execute (get_or rest 0 0))
one_control [] l low other = absurd (omega arith)
one_control (b ∷ rest) l low other = let k = control_class b low other in
    rw (k.0, k.1, after_by, events_by, ground_move) (refl, λ limit. refl)

-- bytes that tell one event
module _ {S : Type 0} (takes refuses : S → Event → S
    → Type 0) (rest : List ℕ) (n : ℕ) (e : Event) (old new : S) (one : IsOneEvent (take n rest) e)
  where
    pub event_given : takes old e new → (limit : Option ℕ)
        → FoldsTo takes old (events_all limit Ground (take n rest)) new
    event_given g = λ limit.
        subst (λ es. FoldsTo takes old es new) (sym (one.1 limit)) (new, g, refl)

    pub event_stops : (own : Type 0) → refuses old e new → (limit : Option ℕ)
        → StopsAt own takes refuses old (events_all limit Ground rest) new
    event_stops own r = λ limit.
        stop_within limit own takes refuses Ground rest n old new
        (subst (λ es. StopsAt own takes refuses old es new) (sym (one.1 limit))
        (refused_stops own takes refuses old new e r))
