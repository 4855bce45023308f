-- These lemmas hold after some of the bytes whose strings can all be lent.
use Rattle.std.proofs.Common.{ℕ, ◌≡◌, ◌+◌, ◌<◌, Bool, true, false, not, ◌&&◌, ◌||◌, List, [], ◌∷◌, ◌++◌, length, take, drop, get_or, refl, ap, sym, ◌∙◌, subst}
use Rattle.std.proofs.Common.{None, take-append-drop, arith}
use Rattle.std.proofs.Math.Seq.{take-add}
use Rattle.std.proofs.lemmas.Bool.{and_parts, or_left, or_right}
use Rattle.std.proofs.lemmas.List.{drop_more}
use Rattle.esc_frame.specs.declared.classes.Class.{Class}
use Rattle.esc_frame.specs.declared.classes.Class.TheVariants.{Introducer, Breaks}
use Rattle.esc_frame.specs.declared.classes.Breaker.TheVariants.{C1Introducer}
use Rattle.esc_frame.specs.declared.classes.Kind.{Kind}
use Rattle.esc_frame.specs.declared.classes.Kind.TheVariants as kind
use Rattle.esc_frame.specs.declared.utf8.sequence.Outcome.{Outcome}
use Rattle.esc_frame.specs.declared.utf8.sequence.Outcome.TheVariants as outcomes
use Rattle.esc_frame.specs.Classes.{class_of, is_breaker, in_escape, in_csi, without_noise}
use Rattle.esc_frame.specs.Leads.{Unfinished}
use Rattle.esc_frame.specs.Leads.Unfinished.{Ground, Pending, InEscape, InCsi, InOsc, InApc}
use Rattle.esc_frame.specs.Machine.Calls.{StaysFresh}
use Rattle.esc_frame.specs.Machine.Moves.{unfinished_at_opener, ground_move, pair_move, pending_move, move_inside, goes_on, final_escape, after_by, after_all, is_ground}
use Rattle.esc_frame.specs.Machine.Moves.{may_grow_in}
use Rattle.esc_frame.specs.Machine.Moves.{reaches_growing, passes, all_pass, borrows, is_fresh, is_borrowable, may_grow_within}
use Rattle.esc_frame.specs.Segments.{Opener, is_empty}
use Rattle.esc_frame.specs.Segments.Opener.{Long, Raw, Pair}
use Rattle.esc_frame.specs.Sequences.{is_pair, outcome}
use Rattle.esc_frame.proofs.Emits.EventsAreTheCuts.{after_append}

pub both : (s t : Bool) → s ≡ true → t ≡ true → (s && t) ≡ true
both s t h k = rw (h, k) refl

and_assoc : (r s t : Bool) → (r && (s && t)) ≡ ((r && s) && t)
and_assoc true s t = refl
and_assoc false s t = refl

or_assoc : (r s t : Bool) → (r || (s || t)) ≡ ((r || s) || t)
or_assoc true s t = refl
or_assoc false s t = refl

pub not_so : (t : Bool) → not t ≡ true → t ≡ true → ⊥
not_so true h k = cc
not_so false h k = cc

pub no_if : (t : Bool) → (t ≡ true → ⊥) → t ≡ false
no_if true h = absurd (h refl)
no_if false h = refl

pub not_both : (t : Bool) → t ≡ true → t ≡ false → ⊥
not_both true h k = cc
not_both false h k = cc

-- ---- after some bytes

pub after_more : (u : Unfinished) (rest : List ℕ) (i n : ℕ)
    → after_all u (take (i + n) rest) ≡ after_all (after_all u (take i rest)) (take n (drop i rest))
after_more u rest i n =
    ap (after_all u) (take-add i n rest) ∙ after_append u (take i rest) (take n (drop i rest))

pub passes_append : (u : Unfinished) (xs ys : List ℕ)
    → all_pass u (xs ++ ys) ≡ (all_pass u xs && all_pass (after_all u xs) ys)
passes_append u [] ys = refl
passes_append u (x ∷ xs) ys =
    let v : Unfinished = after_by u x (class_of x) in
    ap (λ t. passes u x (class_of x) && t) (passes_append v xs ys)
    ∙ and_assoc (passes u x (class_of x)) (all_pass v xs) (all_pass (after_all v xs) ys)

pub borrows_after : (u : Unfinished) (rest : List ℕ) (n : ℕ) → borrows u rest ≡ true
    → borrows (after_all u (take n rest)) (drop n rest) ≡ true
borrows_after u rest n h =
    let xs : List ℕ = take n rest in
    let ys : List ℕ = drop n rest in
    let e : xs ++ ys ≡ rest = take-append-drop n rest in
    let k = and_parts (all_pass u rest) (is_ground (after_all u rest)) h in
    let p : (all_pass u xs && all_pass (after_all u xs) ys) ≡ true =
    sym (passes_append u xs ys) ∙ ap (all_pass u) e ∙ k.0 in
    let g : is_ground (after_all (after_all u xs) ys) ≡ true =
    ap is_ground (sym (after_append u xs ys) ∙ ap (after_all u) e) ∙ k.1 in
    both (all_pass (after_all u xs) ys) (is_ground (after_all (after_all u xs) ys))
    (and_parts (all_pass u xs) (all_pass (after_all u xs) ys) p).1 g

-- the next byte passes
borrows_first : (v : Unfinished) (b : ℕ) (bs : List ℕ) → borrows v (b ∷ bs) ≡ true
    → passes v b (class_of b) ≡ true
borrows_first v b bs h =
    (and_parts (passes v b (class_of b)) (all_pass (after_by v b (class_of b)) bs)
    (and_parts (all_pass v (b ∷ bs)) (is_ground (after_all v (b ∷ bs))) h).0).0

pub borrows_at : (u v : Unfinished) (rest : List ℕ) (n : ℕ) → after_all u (take n rest) ≡ v
    → n < length rest → borrows u rest ≡ true
    → passes v (get_or rest n 0) (class_of (get_or rest n 0)) ≡ true
borrows_at u v rest n e l h =
    borrows_first v (get_or rest n 0) (drop (n + 1) rest)
    (subst (λ y. borrows v y ≡ true) (drop_more rest n 0 l)
    (subst (λ w. borrows w (drop n rest) ≡ true) e (borrows_after u rest n h)))

-- and where no byte is left, nothing is unfinished
pub borrows_all : (u v : Unfinished) (rest : List ℕ) (n : ℕ) → after_all u (take n rest) ≡ v
    → drop n rest ≡ [] → borrows u rest ≡ true → is_ground v ≡ true
borrows_all u v rest n e l h =
    let k : borrows v [] ≡ true =
    subst (λ y. borrows v y ≡ true) l
    (subst (λ w. borrows w (drop n rest) ≡ true) e (borrows_after u rest n h)) in
    (and_parts true (is_ground v) k).1

-- ---- growing

pub reaches_append : (u : Unfinished) (xs ys : List ℕ)
    → reaches_growing u (xs ++ ys) ≡ (reaches_growing u xs || reaches_growing (after_all u xs) ys)
reaches_append u [] ys = refl
reaches_append u (x ∷ xs) ys =
    let v : Unfinished = after_by u x (class_of x) in
    ap (λ t. may_grow_in u || t) (reaches_append v xs ys)
    ∙ or_assoc (may_grow_in u) (reaches_growing v xs) (reaches_growing (after_all v xs) ys)

pub reaches_after : (u : Unfinished) (rest : List ℕ) (n : ℕ)
    → reaches_growing (after_all u (take n rest)) (drop n rest) ≡ true
    → reaches_growing u rest ≡ true
reaches_after u rest n h =
    ap (reaches_growing u) (sym (take-append-drop n rest))
    ∙ reaches_append u (take n rest) (drop n rest)
    ∙ or_right (reaches_growing u (take n rest))
    (reaches_growing (after_all u (take n rest)) (drop n rest)) h

pub reaches_first : (u : Unfinished) (rest : List ℕ) → 0 < length rest → may_grow_in u ≡ true
    → reaches_growing u rest ≡ true
reaches_first u [] l h = absurd (omega arith)
reaches_first u (b ∷ bs) l h =
    or_left (may_grow_in u) (reaches_growing (after_by u b (class_of b)) bs) h

-- where the strings cannot all be lent
pub grows_by : (u : Unfinished) (rest : List ℕ) → reaches_growing u rest ≡ true
    → is_borrowable u rest ≡ false → may_grow_within u rest ≡ true
grows_by u rest h k = rw (h, k) refl

-- the bytes after a prefix may make the machine's memory grow, so the bytes may
pub grows_after : (u : Unfinished) (rest : List ℕ) (n : ℕ) → StaysFresh u rest n
    → may_grow_within (after_all u (take n rest)) (drop n rest) ≡ true
    → may_grow_within u rest ≡ true
grows_after u rest n f h =
    let v : Unfinished = after_all u (take n rest) in
    let ys : List ℕ = drop n rest in
    let k = and_parts (reaches_growing v ys) (not (is_borrowable v ys)) h in
    grows_by u rest (reaches_after u rest n k.0)
    (no_if (is_borrowable u rest) (λ l. not_so (is_borrowable v ys) k.1
    (both (is_fresh v) (borrows v ys) (f l)
    (borrows_after u rest n (and_parts (is_fresh u) (borrows u rest) l).1))))

-- ---- fresh

pub unborrowed_fresh : (u : Unfinished) (rest : List ℕ) (n : ℕ) → is_borrowable u rest ≡ false
    → StaysFresh u rest n
unborrowed_fresh u rest n h = λ l. absurd (not_both (is_borrowable u rest) l h)

pub fresh_more : (u : Unfinished) (rest : List ℕ) (i n : ℕ) → StaysFresh u rest i
    → StaysFresh (after_all u (take i rest)) (drop i rest) n
    → StaysFresh u rest (i + n)
fresh_more u rest i n f g = λ l.
    let v : Unfinished = after_all u (take i rest) in
    let k = both (is_fresh v) (borrows v (drop i rest)) (f l)
    (borrows_after u rest i (and_parts (is_fresh u) (borrows u rest) l).1) in
    ap is_fresh (after_more u rest i n) ∙ g k

-- bytes stay fresh by the unfinished segment after them
pub fresh_by : (u v : Unfinished) (rest : List ℕ) (n : ℕ) → after_all u (take n rest) ≡ v
    → (borrows v (drop n rest) ≡ true → is_fresh v ≡ true) → StaysFresh u rest n
fresh_by u v rest n e f = λ l.
    ap is_fresh e
    ∙ f (subst (λ w. borrows w (drop n rest) ≡ true) e
    (borrows_after u rest n (and_parts (is_fresh u) (borrows u rest) l).1))

pub ground_fresh : (u : Unfinished) (rest : List ℕ) (n : ℕ) → after_all u (take n rest) ≡ Ground
    → StaysFresh u rest n
ground_fresh u rest n e = λ l. ap is_fresh e

-- a string that opens here is fresh, or cannot be lent
pub opened_fresh : (k : Kind) (o : Opener) (rest : List ℕ) → borrows (unfinished_at_opener k o) rest
    ≡ true
    → is_fresh (unfinished_at_opener k o) ≡ true
opened_fresh kind.Osc o rest h = refl
opened_fresh kind.Apc o rest h = refl
opened_fresh kind.Csi o rest h = refl
opened_fresh kind.Dcs o [] h = absurd cc
opened_fresh kind.Dcs o (b ∷ bs) h = absurd cc
opened_fresh kind.Sos o [] h = absurd cc
opened_fresh kind.Sos o (b ∷ bs) h = absurd cc
opened_fresh kind.Pm o [] h = absurd cc
opened_fresh kind.Pm o (b ∷ bs) h = absurd cc

pub begun_fresh : (b : ℕ) (c : Class) (rest : List ℕ) → borrows (ground_move b c).0 rest ≡ true
    → is_fresh (ground_move b c).0 ≡ true
begun_fresh b (Breaks (C1Introducer k)) rest h = opened_fresh k Raw rest h
begun_fresh b _ rest h = refl

pub pair_fresh : (b : ℕ) (c : Class) (rest : List ℕ) → borrows (pair_move b c).0 rest ≡ true
    → is_fresh (pair_move b c).0 ≡ true
pair_fresh b (Breaks (C1Introducer k)) rest h = opened_fresh k Pair rest h
pair_fresh b _ rest h = refl

whole_fresh : (f : List ℕ) (b : ℕ) (c : Class) (rest : List ℕ) (t : Bool)
    → is_pair (f ++ b ∷ []) ≡ t
    → borrows (pending_move f b c outcomes.Whole).0 rest ≡ true
    → is_fresh (pending_move f b c outcomes.Whole).0 ≡ true
whole_fresh f b c rest true e = rw (e, pending_move) (λ h. pair_fresh b c rest h)
whole_fresh f b c rest false e = rw (e, pending_move) (λ h. refl)

pending_fresh : (f : List ℕ) (b : ℕ) (c : Class) (rest : List ℕ) (w : Outcome)
    → borrows (pending_move f b c w).0 rest ≡ true
    → is_fresh (pending_move f b c w).0 ≡ true
pending_fresh f b c rest outcomes.Whole h = whole_fresh f b c rest (is_pair (f ++ b ∷ [])) refl h
pending_fresh f b c rest outcomes.More h = refl
pending_fresh f b c rest outcomes.Broken h = begun_fresh b c rest h

opens_fresh : (x : List ℕ) (b : ℕ) (k : Kind) (rest : List ℕ) (t : Bool)
    → is_empty (without_noise x) ≡ t
    → borrows (final_escape x b (Introducer k)).0 rest ≡ true
    → is_fresh (final_escape x b (Introducer k)).0 ≡ true
opens_fresh x b k rest true e = rw (e, final_escape) (λ h. opened_fresh k (Long x) rest h)
opens_fresh x b k rest false e = rw (e, final_escape) (λ h. refl)

final_fresh : (x : List ℕ) (b : ℕ) (c : Class) (rest : List ℕ)
    → borrows (final_escape x b c).0 rest ≡ true → is_fresh (final_escape x b c).0 ≡ true
final_fresh x b (Introducer k) rest h = opens_fresh x b k rest (is_empty (without_noise x)) refl h
final_fresh x b _ rest h = refl

escape_fresh : (x : List ℕ) (b : ℕ) (c : Class) (rest : List ℕ) (t w : Bool) → is_breaker c ≡ t
    → in_escape c ≡ w
    → borrows (move_inside None (InEscape x) b c).0 rest ≡ true
    → is_fresh (move_inside None (InEscape x) b c).0 ≡ true
escape_fresh x b c rest true w e k = rw (e, move_inside) (λ h. begun_fresh b c rest h)
escape_fresh x b c rest false true e k = rw (e, k, move_inside, goes_on) (λ h. refl)
escape_fresh x b c rest false false e k = rw (e, k, move_inside, goes_on)
    (λ h. final_fresh x b c rest h)

pub csi_fresh : (o : Opener) (x : List ℕ) (b : ℕ) (c : Class) (rest : List ℕ) (t w : Bool)
    → is_breaker c ≡ t → in_csi c ≡ w
    → borrows (move_inside None (InCsi o x) b c).0 rest ≡ true
    → is_fresh (move_inside None (InCsi o x) b c).0 ≡ true
csi_fresh o x b c rest true w e k = rw (e, move_inside) (λ h. begun_fresh b c rest h)
csi_fresh o x b c rest false true e k = rw (e, k, move_inside, goes_on) (λ h. refl)
csi_fresh o x b c rest false false e k = rw (e, k, move_inside, goes_on) (λ h. refl)

-- an OSC or APC that no sequence pends in
abbrev pub is_string : Unfinished → Bool
is_string (InOsc o ps) = true
is_string (InApc o d) = true
is_string _ = false

-- one byte outside of them
pub one_fresh : (u : Unfinished) (rest : List ℕ) → is_string u ≡ false → StaysFresh u rest 1
one_fresh Ground [] s l = refl
one_fresh Ground (b ∷ bs) s l = begun_fresh b (class_of b) bs l
one_fresh (Pending f) [] s l = refl
one_fresh (Pending f) (b ∷ bs) s l = pending_fresh f b (class_of b) bs (outcome f b) l
one_fresh (InEscape x) [] s l = refl
one_fresh (InEscape x) (b ∷ bs) s l =
    escape_fresh x b (class_of b) bs (is_breaker (class_of b)) (in_escape (class_of b)) refl refl l
one_fresh (InCsi o x) [] s l = refl
one_fresh (InCsi o x) (b ∷ bs) s l =
    csi_fresh o x b (class_of b) bs (is_breaker (class_of b)) (in_csi (class_of b)) refl refl l
one_fresh (InOsc o ps) rest s l = absurd cc
one_fresh (InApc o d) rest s l = absurd cc
one_fresh _ rest s l = absurd cc

pub one_unborrowed : (u : Unfinished) (rest : List ℕ) → is_string u ≡ false → may_grow_in u ≡ true
    → is_borrowable u rest ≡ false
one_unborrowed Ground rest s g = absurd cc
one_unborrowed (Pending f) rest s g = absurd cc
one_unborrowed (InEscape x) rest s g = absurd cc
one_unborrowed (InCsi o x) rest s g = absurd cc
one_unborrowed (InOsc o ps) rest s g = absurd cc
one_unborrowed (InApc o d) rest s g = absurd cc
one_unborrowed _ rest s g = refl

-- ---- a run after which memory does not grow, where all strings can be lent, and a byte after it

no_growth : (v : Unfinished) → may_grow_in v ≡ false → (is_fresh v ≡ true) × (is_string v ≡ false)
no_growth Ground h = (refl, refl)
no_growth (Pending f) h = (refl, refl)
no_growth (InEscape x) h = (refl, refl)
no_growth (InCsi o x) h = (refl, refl)
no_growth _ h = absurd cc

pub run_fresh : (u : Unfinished) (rest : List ℕ) (n : ℕ)
    → (may_grow_in (after_all u (take n rest)) ≡ true → is_borrowable u rest ≡ false)
    → StaysFresh u rest n × StaysFresh u rest (n + 1)
run_fresh u rest n w =
    let v : Unfinished = after_all u (take n rest) in
    let none : is_borrowable u rest ≡ true → may_grow_in v ≡ false =
    λ l. no_if (may_grow_in v) (λ g. not_both (is_borrowable u rest) l (w g)) in
    let here : StaysFresh u rest n = λ l. (no_growth v (none l)).0 in (
      here,
      λ l. fresh_more u rest n 1 here (one_fresh v (drop n rest) (no_growth v (none l)).1) l,
    )
