-- Strings that cannot be lent from where they are, and so are kept.
use Rattle.std.proofs.Common.{ℕ, ◌≡◌, ◌+◌, ◌<◌, ◌≤◌, Bool, true, false, ◌||◌, ◌==◌, List, [], ◌∷◌, ◌++◌, length, take, drop, get_or, refl, sym, subst}
use Rattle.std.proofs.Common.{ap, ◌∙◌, None, append_assoc, length-drop, arith}
use Rattle.std.specs.List.{prefix_len}
use Rattle.std.proofs.lemmas.Bool.{and_parts}
use Rattle.std.proofs.lemmas.Bool.Decides.{nat_tests}
use Rattle.std.proofs.lemmas.List.{drop_more}
use Rattle.std.proofs.lemmas.List.Sums.{prefix_len_stops}
use Rattle.esc_frame.specs.declared.classes.Class.{Class}
use Rattle.esc_frame.specs.declared.classes.Class.TheVariants.{Lead}
use Rattle.esc_frame.specs.declared.utf8.sequence.Outcome.TheVariants as outcomes
use Rattle.esc_frame.specs.Classes.{class_of, is_text, is_breaker, bytes_of_class}
use Rattle.esc_frame.specs.Leads.{Unfinished}
use Rattle.esc_frame.specs.Leads.Unfinished.{InApc, InOsc, InOscPending}
use Rattle.esc_frame.specs.Machine.Characters.{NoneAhead}
use Rattle.esc_frame.specs.Machine.Moves.{after_by, after_all, all_pass, is_ground, borrows, is_borrowable, osc_pending_move, ends_osc}
use Rattle.esc_frame.specs.Machine.Moves.{passes, passes_osc, passes_pending}
use Rattle.esc_frame.specs.Machine.TextRuns.{IsTextRun, NoUnitAhead}
use Rattle.esc_frame.specs.Scans.{is_text_byte}
use Rattle.esc_frame.specs.Segments.{Opener, OscUnit, text_of, is_empty}
use Rattle.esc_frame.specs.Sequences.{is_from, is_sequence, is_prefix, is_pair, outcome}
use Rattle.esc_frame.proofs.Borrow.BytesAreLent.{both, borrows_all, borrows_at, borrows_after, no_if, not_both}
use Rattle.esc_frame.proofs.ByteRuns.StringRuns.{apc_text, prefix_passes}

pub empty_is : (t : List ℕ) → is_empty t ≡ true → t ≡ []
empty_is [] h = refl
empty_is (b ∷ t) h = absurd cc

no_drop : (rest : List ℕ) (n : ℕ) → length rest ≤ n → drop n rest ≡ []
no_drop rest n l = none (drop n rest) (omega (arith, length-drop n rest))
  where
    none : (t : List ℕ) → length t ≡ 0 → t ≡ []
    none [] e = refl
    none (b ∷ t) e = absurd (omega arith)

-- ---- an operating system command

-- that no byte ends
pub unended : (o : Opener) (ps : List OscUnit) (rest : List ℕ) (n : ℕ) → IsTextRun (take n rest)
    → length rest ≤ n → is_borrowable (InOsc o ps) rest ≡ false
unended o ps rest n run l =
    no_if (is_borrowable (InOsc o ps) rest) (λ h.
    let k : false ≡ true =
    borrows_all (InOsc o ps) (InOsc o (ps ++ run.0)) rest n (run.2 None o ps).0 (no_drop rest n l)
    (and_parts (is_empty (text_of ps)) (borrows (InOsc o ps) rest) h).1 in cc)

no_text : (b : ℕ) → is_text_byte b ≡ false → is_text (class_of b) ≡ false
unfolding class_of
no_text b h = grind (arith, nat_tests)

-- neither text nor an end, but a byte that passes
only_lead : (ps : List OscUnit) (c : Class) → is_text c ≡ false → ends_osc c ≡ false
    → passes_osc ps c ≡ true → c ≡ Lead
only_lead ps Lead t e p = refl
only_lead ps _ t e p = absurd cc

pair_bytes : (a b : ℕ) → is_pair (a ∷ b ∷ []) ≡ true → (a ≡ 0xc2) × (is_from 0x80 0x9f b ≡ true)
unfolding is_pair
pair_bytes a b h = let k = and_parts (a == 0xc2) (is_from 0x80 0x9f b) h in
    (grind (arith, nat_tests), k.1)

-- ---- bytes in which no unit comes first

borrows_next : (u : Unfinished) (b : ℕ) (bs : List ℕ) → borrows u (b ∷ bs) ≡ true
    → (passes u b (class_of b) ≡ true) × (borrows (after_by u b (class_of b)) bs ≡ true)
borrows_next u b bs h =
    let v : Unfinished = after_by u b (class_of b) in
    let k = and_parts (all_pass u (b ∷ bs)) (is_ground (after_all u (b ∷ bs))) h in
    let p = and_parts (passes u b (class_of b)) (all_pass v bs) k.0 in
    (p.0, both (all_pass v bs) (is_ground (after_all v bs)) p.1 k.1)

-- no byte that comes next makes it a control
abbrev NoPair : List ℕ → List ℕ → Type 0
NoPair f s = (b : ℕ) (t : List ℕ) → s ≡ b ∷ t → is_pair (f ++ b ∷ []) ≡ false

long_no_pair : (f : List ℕ) (b c : ℕ) → is_empty f ≡ false
    → is_pair ((f ++ b ∷ []) ++ c ∷ []) ≡ false
unfolding is_pair
long_no_pair [] b c n = absurd cc
long_no_pair (a ∷ []) b c n = refl
long_no_pair (a ∷ d ∷ []) b c n = refl
long_no_pair (a ∷ d ∷ e ∷ f) b c n = refl

some_more : (f : List ℕ) (b : ℕ) → is_empty (f ++ b ∷ []) ≡ false
some_more [] b = refl
some_more (a ∷ f) b = refl

-- a byte that completes no sequence and passes makes the prefix longer
longer : (o : Opener) (ps : List OscUnit) (f : List ℕ) (b : ℕ) (s : List ℕ) (t : Bool)
    → is_sequence (f ++ b ∷ []) ≡ false → is_prefix (f ++ b ∷ []) ≡ t
    → passes_pending ps f b (outcome f b) ≡ true
    → borrows (osc_pending_move None o ps f b (class_of b) (outcome f b)).0 s ≡ true
    → borrows (InOscPending o ps (f ++ b ∷ [])) s ≡ true
longer o ps f b s true w e p h =
    let k : outcome f b ≡ outcomes.More = rw (w, e) refl in
    subst (λ x. borrows (osc_pending_move None o ps f b (class_of b) x).0 s ≡ true) k h
longer o ps f b s false w e p h =
    let k : outcome f b ≡ outcomes.Broken = rw (w, e) refl in
    let no : false ≡ true = subst (λ x. passes_pending ps f b x ≡ true) k p in absurd cc

-- a prefix of a sequence there is not completed
uncompleted : (o : Opener) (ps : List OscUnit) (f s : List ℕ) → is_empty f ≡ false
    → NoneAhead (f ++ s) → NoPair f s
    → borrows (InOscPending o ps f) s ≡ true → ⊥
uncompleted o ps f [] n none np h = let k : false ≡ true = h in cc
uncompleted o ps f (b ∷ s) n none np h =
    let e : (f ++ b ∷ []) ++ s ≡ f ++ b ∷ s = append_assoc f (b ∷ []) s in
    let k = borrows_next (InOscPending o ps f) b s h in
    let w : is_sequence (f ++ b ∷ []) ≡ false = no_if (is_sequence (f ++ b ∷ []))
    (λ i. not_both (is_pair (f ++ b ∷ [])) (none (f ++ b ∷ []) s (sym e) i) (np b s refl)) in
    uncompleted o ps (f ++ b ∷ []) s (some_more f b) (subst NoneAhead (sym e) none) (λ c t i.
    long_no_pair f b c n)
    (longer o ps f b s (is_prefix (f ++ b ∷ [])) w refl k.0 k.1)

-- where neither a unit nor an end of the text comes first, it cannot be lent
no_unit : (o : Opener) (ps : List OscUnit) (a : ℕ) (s : List ℕ) → NoUnitAhead (a ∷ s)
    → ends_osc (class_of a) ≡ false → NoPair (a ∷ []) s
    → borrows (InOsc o ps) (a ∷ s) ≡ true → ⊥
no_unit o ps a s stops ends np h =
    let k = borrows_next (InOsc o ps) a s h in
    let lead : class_of a ≡ Lead = only_lead ps (class_of a) (no_text a stops.0) ends k.0 in
    uncompleted o ps (a ∷ []) s refl stops.1 np
    (subst (λ c. borrows (after_by (InOsc o ps) a c) s ≡ true) lead k.1)

-- that no byte and no control after C2 ends where its run does
module _ (o : Opener) (ps : List OscUnit) (rest : List ℕ) (n : ℕ) (run : IsTextRun (take n rest))
    (room : n < length rest)
    (stops : NoUnitAhead (drop n rest)) (c : Class) (e : c ≡ class_of (get_or rest n 0))
    (ends : ends_osc c ≡ false)
    (none : n + 1 < length rest → get_or rest n 0 ≡ 0xc2
    → is_from 0x80 0x9f (get_or rest (n + 1) 0) ≡ false) where
  tail : drop n rest ≡ get_or rest n 0 ∷ drop (n + 1) rest
  tail = drop_more rest n 0 room

  -- the byte after it
  next_is : (b : ℕ) (t : List ℕ) → drop (n + 1) rest ≡ b ∷ t → (n + 1 < length rest)
      × (get_or rest (n + 1) 0 ≡ b)
  next_is b t i =
      let l : n + 1 < length rest = omega (arith, length-drop (n + 1) rest, ap length i) in
      let k : get_or rest (n + 1) 0 ∷ drop (n + 1 + 1) rest ≡ b ∷ t =
      sym (drop_more rest (n + 1) 0 l) ∙ i in (l, cc)

  no_control : NoPair (get_or rest n 0 ∷ []) (drop (n + 1) rest)
  no_control b t i =
      no_if (is_pair (get_or rest n 0 ∷ b ∷ [])) (λ p.
      let k = pair_bytes (get_or rest n 0) b p in
      let j = next_is b t i in
      not_both (is_from 0x80 0x9f b) k.1
      (subst (λ x. is_from 0x80 0x9f x ≡ false) j.1 (none j.0 k.0)))

  pub unclosed : is_borrowable (InOsc o ps) rest ≡ false
  unclosed =
      no_if (is_borrowable (InOsc o ps) rest) (λ h.
      let l = (and_parts (is_empty (text_of ps)) (borrows (InOsc o ps) rest) h).1 in
      no_unit o (ps ++ run.0) (get_or rest n 0) (drop (n + 1) rest) (subst NoUnitAhead tail stops)
      (ap ends_osc (sym e) ∙ ends) no_control
      (subst (λ y. borrows (InOsc o (ps ++ run.0)) y ≡ true) tail
      (subst (λ w. borrows w (drop n rest) ≡ true) (run.2 None o ps).0
      (borrows_after (InOsc o ps) rest n l))))

-- ---- an application program command

module _ (o : Opener) (d rest : List ℕ) (n : ℕ) (run : n ≡ prefix_len is_text_byte rest) where
  apc_after : after_all (InApc o d) (take n rest) ≡ InApc o (d ++ take n rest)
  apc_after = (apc_text None o d (take n rest) (prefix_passes rest n run)).0

  pub apc_unended : length rest ≤ n → is_borrowable (InApc o d) rest ≡ false
  apc_unended l =
      no_if (is_borrowable (InApc o d) rest) (λ h.
      let k : false ≡ true =
      borrows_all (InApc o d) (InApc o (d ++ take n rest)) rest n apc_after (no_drop rest n l)
      (and_parts (is_empty (bytes_of_class is_text d)) (borrows (InApc o d) rest) h).1 in cc)

  stop : n < length rest → is_text (class_of (get_or rest n 0)) ≡ false
  stop l =
      no_text (get_or rest n 0)
      (ap (λ k. is_text_byte (get_or rest k 0)) run ∙ prefix_len_stops is_text_byte rest 0
      (subst (λ k. k < length rest) run l))

  pub apc_unclosed : n < length rest → is_breaker (class_of (get_or rest n 0)) ≡ false
      → is_borrowable (InApc o d) rest ≡ false
  apc_unclosed l b =
      no_if (is_borrowable (InApc o d) rest) (λ h.
      let p = borrows_at (InApc o d) (InApc o (d ++ take n rest)) rest n apc_after l
      (and_parts (is_empty (bytes_of_class is_text d)) (borrows (InApc o d) rest) h).1 in
      not_both (is_text (class_of (get_or rest n 0)) || is_breaker (class_of (get_or rest n 0))) p
      (rw (stop l, b) refl))
