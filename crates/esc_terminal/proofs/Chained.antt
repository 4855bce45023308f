-- Chains of places, and a walk from the last place of a slot to the first.
use Rattle.std.proofs.Common.{ℕ, suc, zero, ◌≡◌, ◌==◌, ◌+◌, ◌-◌, ◌<◌, ◌≤◌, Bool, true, false, inl, inr, List, [], ◌∷◌, ◌++◌, length, map, set, get_or, replicate, if◌then◌else◌, refl, ap, sym, subst, ◌∙◌, arith}
use Rattle.std.proofs.lemmas.Bool.{cases_lt, eq-eqb, eqb-true, true≢false}
use Rattle.std.proofs.lemmas.List.{get_or_default, get_or-map, get_or-replicate, get_or-set_other, get_or-set_same, length-append, length-map, length-replicate, length-set, map-append}
use Rattle.esc_terminal.specs.Chains.{IsChained, end_before, slot_count, slots_of}
use Rattle.esc_terminal.specs.declared.chains.Link.{Link}

-- ---- the end of a chain

pub end_within : (s : ℕ) (ss : List ℕ) (n : ℕ) → end_before s ss n ≤ n
end_within s ss zero = omega arith
end_within s ss (suc n) = by (get_or ss n 0 == s) (end_within s ss n)
  where
    by : (b : Bool) → end_before s ss n ≤ n → (if b then suc n else end_before s ss n) ≤ suc n
    by true h = omega arith
    by false h = omega (arith, h)

-- the place before the end has the slot
slot_at : (s : ℕ) (ss : List ℕ) (n m : ℕ) → end_before s ss n ≡ suc m → get_or ss m 0 ≡ s
slot_at s ss zero m h = absurd (omega (arith, h))
slot_at s ss (suc n) m h = by (get_or ss n 0 == s) refl h (λ e. slot_at s ss n m e)
  where
    by : (b : Bool) → (get_or ss n 0 == s) ≡ b → (if b then suc n else end_before s ss n) ≡ suc m
        → (end_before s ss n ≡ suc m → get_or ss m 0 ≡ s) → get_or ss m 0 ≡ s
    by true t e before =
        let same : n ≡ m = omega (arith, e) in
        subst (λ k. get_or ss k 0 ≡ s) same (eqb-true (get_or ss n 0) s t)
    by false t e before = before e

get_or_before : {X : Type 0} (xs ys : List X) (i : ℕ) (d : X) → i < length xs
    → get_or (xs ++ ys) i d ≡ get_or xs i d
get_or_before [] ys i d less = absurd (omega (arith, less))
get_or_before (x ∷ xs) ys zero d less = refl
get_or_before (x ∷ xs) ys (suc i) d less = get_or_before xs ys i d (omega (arith, less))

get_or_last : {X : Type 0} (xs : List X) (y d : X) → get_or (xs ++ y ∷ []) (length xs) d ≡ y
get_or_last [] y d = refl
get_or_last (x ∷ xs) y d = get_or_last xs y d

-- items after it change nothing
end_append : (s : ℕ) (ss ts : List ℕ) (n : ℕ) → n ≤ length ss
    → end_before s (ss ++ ts) n ≡ end_before s ss n
end_append s ss ts zero h = refl
end_append s ss ts (suc n) h =
    ap (λ k. if k == s then suc n else end_before s (ss ++ ts) n)
    (get_or_before ss ts n 0 (omega (arith, h)))
    ∙ ap (λ k. if get_or ss n 0 == s then suc n else k) (end_append s ss ts n (omega (arith, h)))

-- one more item
end_push : (s t : ℕ) (ss : List ℕ)
    → end_before s (ss ++ t ∷ []) (suc (length ss))
    ≡ (if t == s then suc (length ss) else end_before s ss (length ss))
end_push s t ss =
    ap (λ k. if k == s then suc (length ss) else end_before s (ss ++ t ∷ []) (length ss))
    (get_or_last ss t 0)
    ∙ ap (λ k. if t == s then suc (length ss) else k)
    (end_append s ss (t ∷ []) (length ss) (omega arith))

-- ---- the table

pub none_chained : (ends : List ℕ) (es : List Link) → ends ≡ replicate slot_count 0 → es ≡ []
    → IsChained ends es
none_chained ends es is none = subst (IsChained ends) (sym none) record {
  count = ap length is ∙ length-replicate {A = ℕ} slot_count 0;
  last = λ s less. ap (λ z. get_or z s 0) is ∙ get_or-replicate {A = ℕ} slot_count s 0 0 less;
  linked = λ i d less. absurd (omega (arith, less));
}

-- with one more place
push_chained : (ends : List ℕ) (es : List Link) (e : Link) (n : ℕ) → IsChained ends es
    → e.slot < slot_count → e.before ≡ get_or ends e.slot 0 → n ≡ length es + 1
    → IsChained (set ends e.slot n) (es ++ e ∷ [])
push_chained ends es e n h less before is = record {
  count = length-set ends e.slot n ∙ h.count;
  last = λ s few. at_slot s few (e.slot == s) refl
      ∙ sym (end_push s e.slot ss)
      ∙ sym (ap (end_before s (ss ++ e.slot ∷ [])) (length-append es (e ∷ []) ∙ more))
      ∙ sym (ap (λ z. end_before s z (length (es ++ e ∷ []))) grown);
  linked = λ i d few. elim (cases_lt i (length es)) [
    | inl old ↦ at_place i d (get_or es i d) (get_or_before es (e ∷ []) i d old)
        (omega (arith, old)) (h.linked i d old)
    | inr new ↦
        let last : i ≡ length es = omega (arith, new, few, length-append es (e ∷ [])) in
        at_place i d e (ap (λ k. get_or (es ++ e ∷ []) k d) last ∙ get_or_last es e d)
        (omega (arith, last)) (before ∙ h.last e.slot less ∙ ap (end_before e.slot ss) (sym last))
  ];
}
  where
    ss : List ℕ
    ss = slots_of es

    grown : slots_of (es ++ e ∷ []) ≡ ss ++ e.slot ∷ []
    grown = map-append (λ d. d.slot) es (e ∷ [])

    len : length ss ≡ length es
    len = length-map es (λ d. d.slot)

    more : length es + 1 ≡ suc (length ss)
    more = omega (arith, len)

    at_slot : (s : ℕ) → s < slot_count → (b : Bool) → (e.slot == s) ≡ b
        → get_or (set ends e.slot n) s 0
        ≡ (if b then suc (length ss) else end_before s ss (length ss))
    at_slot s few true t =
        ap (λ k. get_or (set ends e.slot n) k 0) (sym (eqb-true e.slot s t))
        ∙ get_or-set_same ends e.slot n 0 (subst (λ k. e.slot < k) (sym h.count) less) ∙ is ∙ more
    at_slot s few false t =
        get_or-set_other ends e.slot s n 0
        (λ same. true≢false (sym (eq-eqb e.slot s (sym same)) ∙ t))
        ∙ h.last s few ∙ ap (end_before s ss) (sym len)

    at_place : (i : ℕ) (d f : Link) → get_or (es ++ e ∷ []) i d ≡ f → i ≤ length es
        → f.before ≡ end_before f.slot ss i
        → (get_or (es ++ e ∷ []) i d).before
        ≡ end_before (get_or (es ++ e ∷ []) i d).slot (slots_of (es ++ e ∷ [])) i
    at_place i d f found within is =
        ap (λ z. z.before) found ∙ is
        ∙ sym (end_append f.slot ss (e.slot ∷ []) i (omega (arith, within, len)))
        ∙ sym (ap (λ z. end_before z.slot (ss ++ e.slot ∷ []) i) found)
        ∙ sym (ap (λ z. end_before (get_or (es ++ e ∷ []) i d).slot z i) grown)

pub pushed : (ends : List ℕ) (es fs : List Link) (e : Link) (n d : ℕ) → IsChained ends es
    → e.slot < slot_count → e.before ≡ get_or ends e.slot d → fs ≡ es ++ e ∷ [] → n ≡ length fs
    → IsChained (set ends e.slot n) fs
pushed ends es fs e n d h less before more is =
    subst (IsChained (set ends e.slot n)) (sym more)
    (push_chained ends es e n h less
    (before ∙ get_or_default ends e.slot d 0 (subst (λ k. e.slot < k) (sym h.count) less))
    (is ∙ ap length more ∙ length-append es (e ∷ [])))

-- ---- a walk

-- the least of so many numbers for which a test holds, from the greatest one back, or else m
abbrev pub least_before : (ℕ → Bool) → ℕ → ℕ → ℕ
least_before p zero m = m
least_before p (suc n) m = least_before p n (if p n then n else m)

shifted : (b : Bool) (n m : ℕ) → (if b then suc n else suc m) ≡ suc (if b then n else m)
shifted true n m = refl
shifted false n m = refl

least_next : (p : ℕ → Bool) (n m : ℕ) → least_before p (suc n) (suc m)
    ≡ (if p 0 then 0 else suc (least_before (λ i. p (suc i)) n m))
least_next p zero m = refl
least_next p (suc n) m =
    ap (least_before p (suc n)) (shifted (p (suc n)) n m)
    ∙ least_next p n (if p (suc n) then n else m)

-- the first place of a list for which a test holds
abbrev pub first_place : {X : Type 0} → (X → Bool) → List X → ℕ
first_place p [] = 0
first_place p (x ∷ xs) = if p x then 0 else first_place p xs + 1

pub first_is : {X : Type 0} (p : X → Bool) (xs : List X) (d : X)
    → least_before (λ i. p (get_or xs i d)) (length xs) (length xs) ≡ first_place p xs
first_is p [] d = refl
first_is p (x ∷ xs) d =
    least_next (λ i. p (get_or (x ∷ xs) i d)) (length xs) (length xs)
    ∙ ap (λ k. if p x then 0 else suc k) (first_is p xs d)
    ∙ ap (λ k. if p x then 0 else k) (by (first_place p xs))
  where
    by : (k : ℕ) → suc k ≡ k + 1
    by k = omega arith

-- the places after the end of the chain are others
skipped : (p : ℕ → Bool) (s : ℕ) (ss : List ℕ) (n m : ℕ)
    → ((i : ℕ) → i < n → p i ≡ true → get_or ss i 0 ≡ s)
    → least_before p n m ≡ least_before p (end_before s ss n) m
skipped p s ss zero m h = refl
skipped p s ss (suc n) m h =
    by (get_or ss n 0 == s) refl (skipped p s ss n m (λ i less. h i (omega (arith, less))))
  where
    passed : (b : Bool) → p n ≡ b → (get_or ss n 0 == s) ≡ false → b ≡ false
    passed true held other = absurd (true≢false
        (sym (eq-eqb (get_or ss n 0) s (h n (omega arith) held)) ∙ other))
    passed false held other = refl

    by : (b : Bool) → (get_or ss n 0 == s) ≡ b
        → least_before p n m ≡ least_before p (end_before s ss n) m
        → least_before p (suc n) m
        ≡ least_before p (if b then suc n else end_before s ss n) m
    by true t before = refl
    by false t before =
        ap (λ (b : Bool). least_before p n (if b then n else m)) (passed (p n) refl t) ∙ before

-- the state of a walk along the chain of a slot: the end of it that comes, the place found so far,
-- and the one that is looked for
pub record IsWalk (p : ℕ → Bool) (s : ℕ) (ss : List ℕ) (end found place : ℕ) : Type 0 where
  pub within : end ≤ length ss
  pub slot : (n : ℕ) → end ≡ suc n → get_or ss n 0 ≡ s
  pub left : least_before p end found ≡ place

walk_begins : (p : ℕ → Bool) (s : ℕ) (ss : List ℕ) (m place : ℕ)
    → ((i : ℕ) → i < length ss → p i ≡ true → get_or ss i 0 ≡ s)
    → least_before p (length ss) m ≡ place
    → IsWalk p s ss (end_before s ss (length ss)) m place
walk_begins p s ss m place h is = record {
  within = end_within s ss (length ss);
  slot = slot_at s ss (length ss);
  left = sym (skipped p s ss (length ss) m h) ∙ is;
}

walk_goes : (p : ℕ → Bool) (s : ℕ) (ss : List ℕ) (end n found place : ℕ)
    → ((i : ℕ) → i < length ss → p i ≡ true → get_or ss i 0 ≡ s)
    → IsWalk p s ss end found place → end ≡ suc n
    → IsWalk p s ss (end_before (get_or ss n 0) ss n) (if p n then n else found) place
walk_goes p s ss end n found place h w is =
    subst (λ k. IsWalk p s ss (end_before k ss n) (if p n then n else found) place)
    (sym (w.slot n is)) record {
      within = omega (arith, end_within s ss n, w.within, is);
      slot = slot_at s ss n;
      left = sym (skipped p s ss n (if p n then n else found)
          (λ i less. h i (omega (arith, less, w.within, is))))
          ∙ sym (ap (λ k. least_before p k found) is) ∙ w.left;
    }

-- the next end is before this one
pub end_less : (s : ℕ) (ss : List ℕ) (end e : ℕ) → 0 < end → e ≡ end_before s ss (end - 1)
    → e < end
end_less s ss end e more is = omega (arith, more, is, end_within s ss (end - 1))

-- a walk to a thing of a list: those that are the same have one slot
module _ {X : Type 0} (f : X → ℕ) (same : X → X → Bool) (xs : List X) (ss : List ℕ) (x d : X)
    (alike : (y : X) → same y x ≡ true → y ≡ x) (slots : ss ≡ map f xs) where
  abbrev pub is_at : ℕ → Bool
  is_at i = same (get_or xs i d) x

  all : length ss ≡ length xs
  all = ap length slots ∙ length-map xs f

  slots_are : (i : ℕ) → i < length ss → is_at i ≡ true → get_or ss i 0 ≡ f x
  slots_are i less h =
      let few : i < length xs = omega (arith, less, all) in
      ap (λ z. get_or z i 0) slots ∙ get_or-map f xs i d 0 few ∙ ap f (alike (get_or xs i d) h)

  pub begins : (place s end n : ℕ) → first_place (λ y. same y x) xs ≡ place → s ≡ f x
      → end ≡ end_before s ss (length ss) → n ≡ length xs → IsWalk is_at (f x) ss end n place
  begins place s end n first is at count =
      subst (λ z. IsWalk is_at (f x) ss z n place)
      (sym (at ∙ ap (λ z. end_before z ss (length ss)) is))
      (walk_begins is_at (f x) ss n place slots_are
      (ap (λ z. least_before is_at z n) all ∙ ap (least_before is_at (length xs)) count
      ∙ first_is (λ y. same y x) xs d ∙ first))

  pub goes : (place end found next chosen : ℕ) → IsWalk is_at (f x) ss end found place → 0 < end
      → chosen ≡ (if is_at (end - 1) then end - 1 else found)
      → next ≡ end_before (get_or ss (end - 1) 0) ss (end - 1)
      → IsWalk is_at (f x) ss next chosen place
  goes place end found next chosen w more which at =
      subst (λ z. IsWalk is_at (f x) ss z chosen place) (sym at)
      (subst (λ z. IsWalk is_at (f x) ss (end_before (get_or ss (end - 1) 0) ss (end - 1)) z place)
      (sym which)
      (walk_goes is_at (f x) ss end (end - 1) found place slots_are w (omega (arith, more))))
