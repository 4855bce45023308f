-- The renditions of entries, one after another.
use Rattle.std.proofs.Common.{ℕ, zero, suc, ◌≡◌, ◌≢◌, ◌+◌, ◌-◌, ◌<◌, ◌≤◌, Bool, true, false, ◌==◌, if◌then◌else◌, List, [], ◌∷◌, ◌++◌, length, map, take, drop, Some, None}
use Rattle.std.proofs.Common.{refl, ap, sym, ◌∙◌, arith, ◌⊎◌, inl, inr}
use Rattle.std.proofs.lemmas.Bool.{eqb-true, eqb-false}
use Rattle.std.proofs.lemmas.List.{take-append-drop, take_all, append-nil, length-drop}
use Rattle.esc_values.specs.declared.csi_param.CsiParam.{CsiParam}
use Rattle.esc_values.specs.declared.csi_param.CsiParam.TheVariants.{Integer, P}
use Rattle.esc_sequences.specs.Csis.{is_separator}
use Rattle.typed_functions.specs.Selections.{len_before, len_with, separators, no_separators, cut_after, cut_with, cut_entries, parameters, left_with, joined_after, joined_entries}

-- ---- how many entries come first

step_by : (n : ℕ) (e : CsiParam) (es : List CsiParam) (t : Bool) → is_separator e ≡ t
    → n ≢ 0 → len_before n (e ∷ es) ≡ suc (len_before (if t then n - 1 else n) es)
step_by zero e es t h more = absurd (more refl)
step_by (suc n) e es true h more = let one : suc n - 1 ≡ n = omega arith in rw (h, one) refl
step_by (suc n) e es false h more = rw h refl

-- a `;` that is one of the first
pub counted : (n : ℕ) (e : CsiParam) (es : List CsiParam) → is_separator e ≡ true → n ≢ 0
    → len_before n (e ∷ es) ≡ suc (len_before (n - 1) es)
counted n e es h more = step_by n e es true h more

-- the `;` that ends it
pub ended : (e : CsiParam) (es : List CsiParam) → is_separator e ≡ true
    → len_before zero (e ∷ es) ≡ 0
ended e es h = rw h refl

-- any other entry
pub passed : (n : ℕ) (e : CsiParam) (es : List CsiParam) → is_separator e ≡ false
    → len_before n (e ∷ es) ≡ suc (len_before n es)
passed zero e es h = rw h refl
passed (suc n) e es h = rw h refl

-- ---- one part after another

skip : (s : List CsiParam → ℕ) (n : ℕ) (es : List CsiParam) → n ≤ length es
    → cut_after s n es ≡ cut_with s (drop n es)
skip s zero es h = refl
skip s (suc n) [] h = absurd (omega (arith, h))
skip s (suc n) (e ∷ es) h = skip s n es (omega (arith, h))

past : (s : List CsiParam → ℕ) (n : ℕ) (es : List CsiParam) → length es < n
    → cut_after s n es ≡ []
past s zero es h = absurd (omega (arith, h))
past s (suc n) [] h = refl
past s (suc n) (e ∷ es) h = past s n es (omega (arith, h))

-- the last one
pub last_cut : (s : List CsiParam → ℕ) (es : List CsiParam) → len_with s es ≡ length es
    → cut_with s es ≡ es ∷ []
last_cut s [] h = refl
last_cut s (e ∷ es) h =
    let more = past s (len_with s (e ∷ es)) es (omega (arith, h)) in
    rw (more, take_all (len_with s (e ∷ es)) (e ∷ es) (omega (arith, h))) refl

-- one, and more after it
pub first_cut : (s : List CsiParam → ℕ) (es : List CsiParam) → len_with s es < length es
    → cut_with s es ≡ take (len_with s es) es ∷ cut_with s (drop (len_with s es + 1) es)
first_cut s [] h = absurd (omega (arith, h))
first_cut s (e ∷ es) h =
    let one : len_with s (e ∷ es) + 1 ≡ suc (len_with s (e ∷ es)) = omega arith in
    rw (one, skip s (len_with s (e ∷ es)) es (omega (arith, h))) refl

-- ---- nothing is lost

is_semicolon : (e : CsiParam) → is_separator e ≡ true → e ≡ P 0x3b
is_semicolon (Integer n) h = absurd (let no : false ≡ true = h in cc)
is_semicolon (P b) h = ap P (eqb-true b 0x3b h)

there_by : (n : ℕ) (e : CsiParam) (es : List CsiParam) (t : Bool) → is_separator e ≡ t
    → ((m : ℕ) → len_before m es < length es
    → drop (len_before m es) es ≡ P 0x3b ∷ drop (len_before m es + 1) es)
    → len_before n (e ∷ es) < length (e ∷ es)
    → drop (len_before n (e ∷ es)) (e ∷ es) ≡ P 0x3b ∷ drop (len_before n (e ∷ es) + 1) (e ∷ es)
there_by zero e es true s h below = rw (ended e es s, is_semicolon e s) refl
there_by (suc n) e es true s h below =
    let m = len_before n es in
    let at : len_before (suc n) (e ∷ es) ≡ suc m = rw s refl in
    let one : suc m + 1 ≡ suc (m + 1) = omega arith in
    rw (at, one) (h n (omega (arith, at, below)))
there_by n e es false s h below =
    let m = len_before n es in
    let one : suc m + 1 ≡ suc (m + 1) = omega arith in
    rw (passed n e es s, one) (h n (omega (arith, passed n e es s, below)))

-- if more follows, a `;` comes first
there : (es : List CsiParam) (n : ℕ) → len_before n es < length es
    → drop (len_before n es) es ≡ P 0x3b ∷ drop (len_before n es + 1) es
there [] n below = absurd (omega (arith, below))
there (e ∷ es) n below = there_by n e es (is_separator e) refl (λ m. there es m) below

some_after : (s : List CsiParam → ℕ) (es : List CsiParam)
    → joined_after (cut_with s es) ≡ P 0x3b ∷ joined_entries (cut_with s es)
some_after s [] = refl
some_after s (e ∷ es) = refl

within_by : (e : CsiParam) (es : List CsiParam) (n : ℕ) (t : Bool) → is_separator e ≡ t
    → ((m : ℕ) → len_before m es ≤ length es) → len_before n (e ∷ es) ≤ length (e ∷ es)
within_by e es zero true s h = omega (arith, ended e es s)
within_by e es (suc n) true s h =
    let at : len_before (suc n) (e ∷ es) ≡ suc (len_before n es) = rw s refl in
    omega (arith, at, h n)
within_by e es n false s h = omega (arith, passed n e es s, h n)

within : (es : List CsiParam) (n : ℕ) → len_before n es ≤ length es
within [] n = omega arith
within (e ∷ es) n = within_by e es n (is_separator e) refl (λ m. within es m)

split : (a b : ℕ) → a ≤ b → (a < b) ⊎ (a ≡ b)
split zero zero h = inr refl
split zero (suc b) h = inl (omega arith)
split (suc a) zero h = absurd (omega (arith, h))
split (suc a) (suc b) h =
    elim (split a b (omega (arith, h))) [ inl l ↦ inl (omega (arith, l)) | inr e ↦ inr (ap suc e) ]

lost_by : (s : List CsiParam → ℕ) (es : List CsiParam)
    → (len_with s es < length es) ⊎ (len_with s es ≡ length es)
    → ((x : List CsiParam) → length x < length es → joined_entries (cut_with s x) ≡ x)
    → joined_entries (cut_with s es) ≡ es
lost_by s es (inl below) h =
    let x = drop (len_with s es + 1) es in
    let less : length x < length es =
    omega (arith, below, length-drop (len_with s es + 1) es) in
    ap joined_entries (first_cut s es below)
    ∙ ap (λ y. take (len_with s es) es ++ y) (some_after s x ∙ ap (λ y. P 0x3b ∷ y) (h x less)
    ∙ sym (there es (s es) below))
    ∙ take-append-drop (len_with s es) es
lost_by s es (inr all) h = ap joined_entries (last_cut s es all) ∙ append-nil es

lost_in : (s : List CsiParam → ℕ) (k : ℕ) (es : List CsiParam) → length es ≤ k
    → joined_entries (cut_with s es) ≡ es
lost_in s zero [] h = refl
lost_in s zero (e ∷ es) h = absurd (omega (arith, h))
lost_in s (suc k) es h =
    lost_by s es (split (len_with s es) (length es) (within es (s es)))
    (λ x less. lost_in s k x (omega (arith, h, less)))

pub nothing_lost : (es : List CsiParam) → joined_entries (cut_entries es) ≡ es
nothing_lost es = lost_in separators (length es) es (omega arith)

pub no_mode_lost : (es : List CsiParam) → joined_entries (parameters es) ≡ es
no_mode_lost es = lost_in no_separators (length es) es (omega arith)

-- ---- a call of an iterator

next_by : {X : Type 0} (s : List CsiParam → ℕ) (f : List CsiParam → X) (es : List CsiParam)
    (t : Bool) → (len_with s es == length es) ≡ t
    → left_with s f (Some es) ≡ f (take (len_with s es) es)
    ∷ left_with s f (if t then None else Some (drop (len_with s es + 1) es))
next_by s f es true e =
    let all : len_with s es ≡ length es = eqb-true (len_with s es) (length es) e in
    ap (map f) (last_cut s es all)
    ∙ ap (λ x. f x ∷ []) (sym (take_all (len_with s es) es (omega (arith, all))))
next_by s f es false e =
    let other = eqb-false (len_with s es) (length es) e in
    let low = within es (s es) in
    ap (map f) (first_cut s es (omega (arith, low, other)))

pub next_is : {X : Type 0} (s : List CsiParam → ℕ) (f : List CsiParam → X) (es : List CsiParam)
    → left_with s f (Some es) ≡ f (take (len_with s es) es)
    ∷ left_with s f (if len_with s es == length es then None
    else Some (drop (len_with s es + 1) es))
next_is s f es = next_by s f es (len_with s es == length es) refl
