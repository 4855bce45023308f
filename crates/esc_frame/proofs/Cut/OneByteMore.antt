-- One byte more after a list, by its class.
use Rattle.std.proofs.Common.{ℕ, suc, ◌≡◌, ◌-◌, Bool, true, false, cond, if◌then◌else◌, List, [], ◌∷◌, ◌++◌}
use Rattle.std.proofs.Common.{refl, ap, not, ◌&&◌, ◌||◌, ◌==◌, ◌≤◌, nat_lt, map, length, get_or, arith, sym, subst, ◌∙◌}
use Rattle.std.specs.List.{list_all}
use Rattle.std.proofs.lemmas.List.{map-append, append-nil}
use Rattle.std.proofs.lemmas.List.Elements.{filter-append}
use Rattle.std.proofs.lemmas.List.Folds.{list_all-append}
use Rattle.std.proofs.lemmas.Bool.Decides.{nat_tests}
use Rattle.esc_frame.specs.declared.classes.Class.{Class}
use Rattle.esc_frame.specs.declared.classes.Class.TheVariants.{C0, Bell, Introducer, Intermediate, Parameter, Final, Delete, High, Lead, Breaks}
use Rattle.esc_frame.specs.declared.classes.Breaker.TheVariants.{Cancel, Escape, C1Introducer, C1Terminator, C1}
use Rattle.esc_frame.specs.declared.classes.Kind.{Kind}
use Rattle.esc_frame.specs.declared.utf8.sequence.Outcome.TheVariants.{Whole, More, Broken}
use Rattle.esc_frame.specs.Classes.{class_of, AllOf, bytes_of_class, without_noise, is_c0, is_noise, is_raw, is_put, letter_of, raw_of}
use Rattle.esc_frame.specs.Sequences.{is_sequence, is_prefix, is_pair, outcome, continues, is_from}
use Rattle.esc_frame.specs.Events.{Event}
use Rattle.esc_frame.specs.Events.Event.{Execute, DcsPut}
use Rattle.esc_frame.specs.Segments.{executes, is_empty, puts}

pub all_push : (test : Class → Bool) (x : List ℕ) (b : ℕ) (c : Class) → class_of b ≡ c
    → AllOf test x → test c ≡ true → AllOf test (x ++ b ∷ [])
all_push test x b c e all h =
    rw (list_all-append (λ b. test (class_of b)) x (b ∷ []), all, e, h) refl

pushed : (xs : List Event) (b : ℕ) (t : Bool)
    → xs ++ map Execute (cond t (b ∷ []) []) ≡ xs ++ (if t then Execute b ∷ [] else [])
pushed xs b true = refl
pushed xs b false = refl

pub executes_push : (x : List ℕ) (b : ℕ) (c : Class) → class_of b ≡ c
    → executes (x ++ b ∷ []) ≡ executes x ++ (if is_c0 c then Execute b ∷ [] else [])
executes_push x b c e =
    rw (
      filter-append (λ b. is_c0 (class_of b)) x (b ∷ []),
      e,
      map-append Execute (bytes_of_class is_c0 x) (cond (is_c0 c) (b ∷ []) []),
    )
    (pushed (executes x) b (is_c0 c))

-- says which bytes have a class
abbrev Means : ℕ → Class → Type 0
Means b Bell = b ≡ 0x07
Means b (Breaks Escape) = b ≡ 0x1b
Means b (Introducer k) = b ≡ letter_of k
Means b (Breaks (C1Introducer k)) = b ≡ raw_of k
Means b Lead = is_prefix (b ∷ []) ≡ true
Means b _ = Unit {0}

record Meant (b : ℕ) (c : Class) : Type 0 where
  is : Means b c

meant : (b : ℕ) (c : Class) → Means b c → Meant b c
meant b c h = record { is = h }

either : (b : ℕ) (t : Bool) (x y : Class) → Meant b x → Meant b y → Meant b (if t then x else y)
either b true x y h k = h
either b false x y h k = k

at : (b n : ℕ) (x y : Class) → (b ≡ n → Means b x) → Meant b y → Meant b (if b == n then x else y)
at b n x y h k = by (b == n) refl
  where
    by : (t : Bool) → (b == n) ≡ t → Meant b (if t then x else y)
    by true e = let same : b ≡ n = grind (arith, nat_tests) in meant b x (h same)
    by false e = k

leads : (b : ℕ) → Meant b (if nat_lt b 0xc2 then High else if nat_lt b 0xf5 then Lead else High)
unfolding is_prefix
leads b = by (nat_lt b 0xc2) (nat_lt b 0xf5) refl refl
  where
    by : (s t : Bool) → nat_lt b 0xc2 ≡ s → nat_lt b 0xf5 ≡ t
        → Meant b (if s then High else if t then Lead else High)
    by true t e f = meant b High tt
    by false true e f = meant b Lead (grind (arith, nat_tests))
    by false false e f = meant b High tt

means : (b : ℕ) → Meant b (class_of b)
unfolding class_of
means b =
    either b _ _ _ (at b 0x07 _ _ (λ e. e) (either b _ _ _ (meant b (Breaks Cancel) tt)
    (at b 0x1b _ _ (λ e. e) (meant b C0 tt))))
    (either b _ _ _ (meant b Intermediate tt) (either b _ _ _ (meant b Parameter tt) (either b _ _ _
    (at b 0x5b _ _ (λ e. e) (at b 0x5d _ _ (λ e. e) (at b 0x50 _ _ (λ e. e) (at b 0x58 _ _ (λ e. e)
    (at b 0x5e _ _ (λ e. e) (at b 0x5f _ _ (λ e. e) (meant b Final tt)))))))
    (either b _ _ _ (meant b Delete tt) (either b _ _ _
    (at b 0x9b _ _ (λ e. e) (at b 0x9d _ _ (λ e. e) (at b 0x90 _ _ (λ e. e) (at b 0x98 _ _ (λ e. e)
    (at b 0x9e _ _ (λ e. e)
    (at b 0x9f _ _ (λ e. e) (either b _ _ _ (meant b (Breaks C1Terminator) tt)
    (meant b (Breaks C1) tt)))))))) (leads b))))))

pub is_escape : (b : ℕ) → class_of b ≡ (Breaks Escape) → b ≡ 0x1b
is_escape b e = (subst (Meant b) e (means b)).is

pub is_bell : (b : ℕ) → class_of b ≡ Bell → b ≡ 0x07
is_bell b e = (subst (Meant b) e (means b)).is

pub is_letter : (b : ℕ) (k : Kind) → class_of b ≡ Introducer k → b ≡ letter_of k
is_letter b k e = (subst (Meant b) e (means b)).is

pub is_raw_letter : (b : ℕ) (k : Kind) → class_of b ≡ Breaks (C1Introducer k) → b ≡ raw_of k
is_raw_letter b k e = (subst (Meant b) e (means b)).is

pub lead_prefix : (b : ℕ) → class_of b ≡ Lead → is_prefix (b ∷ []) ≡ true
lead_prefix b e = (subst (Meant b) e (means b)).is

raw_from : (b : ℕ) → (0x80 ≤ b) → b ≤ 0x9f → is_raw (class_of b) ≡ true
unfolding class_of
raw_from b l h = grind (arith, nat_tests)

pair_first : (a b : ℕ) → ((a == 0xc2) && is_from 0x80 0x9f b) ≡ true → a ∷ [] ≡ 0xc2 ∷ []
pair_first a b h = let e : a ≡ 0xc2 = grind (arith, nat_tests) in ap (λ x. x ∷ []) e

pair_second : (a b : ℕ) → ((a == 0xc2) && is_from 0x80 0x9f b) ≡ true → is_raw (class_of b) ≡ true
pair_second a b h =
    let l : 0x80 ≤ b = grind (arith, nat_tests) in
    let m : b ≤ 0x9f = grind (arith, nat_tests) in raw_from b l m

whole_of : (s t : Bool) → (if s then Whole else if t then More else Broken) ≡ Whole → s ≡ true
whole_of true t e = refl
whole_of false true e = absurd cc
whole_of false false e = absurd cc

more_of : (s t : Bool) → (if s then Whole else if t then More else Broken) ≡ More → t ≡ true
more_of true t e = absurd cc
more_of false true e = refl
more_of false false e = absurd cc

broken_of : (s t : Bool) → (if s then Whole else if t then More else Broken) ≡ Broken
    → not (s || t) ≡ true
broken_of true t e = absurd cc
broken_of false true e = absurd cc
broken_of false false e = refl

-- C2 and a raw control
pub pair_is : (f : List ℕ) (b : ℕ) → is_pair (f ++ b ∷ []) ≡ true → (f ≡ 0xc2 ∷ [])
    × (is_raw (class_of b) ≡ true)
unfolding is_pair
pair_is [] b h = absurd cc
pair_is (a ∷ []) b h = (pair_first a b h, pair_second a b h)
pair_is (a ∷ c ∷ []) b h = absurd cc
pair_is (a ∷ c ∷ d ∷ f) b h = absurd cc

pub outcome_whole : (f : List ℕ) (b : ℕ) → outcome f b ≡ Whole → is_sequence (f ++ b ∷ []) ≡ true
outcome_whole f b e = whole_of (is_sequence (f ++ b ∷ [])) (is_prefix (f ++ b ∷ [])) e

pub outcome_more : (f : List ℕ) (b : ℕ) → outcome f b ≡ More → is_prefix (f ++ b ∷ []) ≡ true
outcome_more f b e = more_of (is_sequence (f ++ b ∷ [])) (is_prefix (f ++ b ∷ [])) e

pub outcome_broken : (f : List ℕ) (b : ℕ) → outcome f b ≡ Broken → not (continues f b) ≡ true
outcome_broken f b e = broken_of (is_sequence (f ++ b ∷ [])) (is_prefix (f ++ b ∷ [])) e

puts_by : (xs : List Event) (b : ℕ) (t : Bool)
    → xs ++ map DcsPut (cond t (b ∷ []) []) ≡ xs ++ (if t then DcsPut b ∷ [] else [])
puts_by xs b true = refl
puts_by xs b false = refl

pub puts_push : (d : List ℕ) (b : ℕ) (c : Class) → class_of b ≡ c
    → puts (d ++ b ∷ []) ≡ puts d ++ (if is_put c then DcsPut b ∷ [] else [])
puts_push d b c e =
    rw (
      filter-append (λ b. is_put (class_of b)) d (b ∷ []),
      e,
      map-append DcsPut (bytes_of_class is_put d) (cond (is_put c) (b ∷ []) []),
    )
    (puts_by (puts d) b (is_put c))

noise_first : (x : List ℕ) (t : Bool) (b : ℕ)
    → (is_empty (without_noise x) ≡ true → AllOf is_noise x)
    → is_empty (cond (not t) (b ∷ without_noise x) (without_noise x)) ≡ true
    → (t && list_all (λ b. is_noise (class_of b)) x) ≡ true
noise_first x true b k h = k h
noise_first x false b k h = absurd cc

-- a list without any other byte is noise
pub all_noise : (x : List ℕ) → is_empty (without_noise x) ≡ true → AllOf is_noise x
all_noise [] h = refl
all_noise (b ∷ x) h = noise_first x (is_noise (class_of b)) b (all_noise x) h

-- noise is not kept
pub noise_strip : (x : List ℕ) (b : ℕ) (c d : Class) → c ≡ class_of b → c ≡ d → is_noise d ≡ true
    → without_noise x ≡ without_noise (x ++ b ∷ [])
noise_strip x b c d e i n = sym (filter-append (λ b. not (is_noise (class_of b))) x (b ∷ [])
    ∙ rw (sym e ∙ i, n) (append-nil (without_noise x)))

-- a list's last byte is that of its rest
pub last_shift : (a b : ℕ) (x : List ℕ)
    → get_or (a ∷ b ∷ x) (length (a ∷ b ∷ x) - 1) 0 ≡ get_or (b ∷ x) (length (b ∷ x) - 1) 0
last_shift a b x =
    let e : length (a ∷ b ∷ x) - 1 ≡ suc (length (b ∷ x) - 1) = omega arith in
    ap (λ n. get_or (a ∷ b ∷ x) n 0) e
