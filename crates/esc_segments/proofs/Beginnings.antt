-- How far an opener goes, and which one opens a device control string.
use Rattle.std.proofs.Common.{ℕ, zero, suc, ◌≡◌, ◌+◌, ◌-◌, ◌<◌, ◌≤◌, Bool, true, false, List, [], ◌∷◌, ◌++◌, length, take, drop, get_or, refl, ap}
use Rattle.std.proofs.Common.{sym, ◌∙◌, subst, arith}
use Rattle.std.proofs.Common.{append_assoc, length-append, ◌⊎◌, inl, inr}
use Rattle.std.proofs.Math.Seq.{get_or-append_seam}
use Rattle.std.proofs.lemmas.List.Folds.{list_all_at}
use Rattle.std.specs.List.{list_all, prefix_len}
use Rattle.std.proofs.lemmas.List.{take_rest}
use Rattle.std.proofs.lemmas.Bool.{and_parts}
use Rattle.esc_frame.specs.declared.classes.Kind.{Kind}
use Rattle.esc_frame.specs.declared.classes.Kind.TheVariants as kind
use Rattle.esc_frame.specs.Classes.{class_of, AllOf, is_noise, in_escape, letter_of, raw_of}
use Rattle.esc_frame.specs.Segments.{Opener, IsOpener, opener}
use Rattle.esc_frame.specs.Segments.Opener.{Long, Raw, Pair}
use Rattle.esc_segments.proofs.Executes.{letter_code}

-- a run ends at the first byte that does not pass
pub run_is : (test : ℕ → Bool) (x : List ℕ) (f : ℕ) (r : List ℕ) → list_all test x ≡ true
    → test f ≡ false → prefix_len test (x ++ f ∷ r) ≡ length x
run_is test [] f r a e = rw e refl
run_is test (b ∷ x) f r a e =
    let h = and_parts (test b) (list_all test x) a in
    let i = run_is test x f r h.1 e in
    let one : 1 + length x ≡ suc (length x) = omega arith in rw h.0 (ap (λ k. 1 + k) i ∙ one)

pub letter_stops : (k : Kind) → is_noise (class_of (letter_of k)) ≡ false
letter_stops k = rw (letter_code k) refl

raw_least : (k : Kind) → 0x90 ≤ raw_of k
raw_least kind.Csi = omega arith
raw_least kind.Osc = omega arith
raw_least kind.Dcs = omega arith
raw_least kind.Sos = omega arith
raw_least kind.Pm = omega arith
raw_least kind.Apc = omega arith

first_byte : (bytes other : List ℕ) → bytes ≡ other → get_or bytes 0 0 ≡ get_or other 0 0
first_byte bytes other e = ap (λ y. get_or y 0 0) e

-- how far an opener that ESC begins goes
abbrev pub EscapeLen : List ℕ → ℕ → Type 0
EscapeLen bytes r = (n body : List ℕ) (letter : ℕ) → AllOf is_noise n
    → is_noise (class_of letter) ≡ false → bytes ≡ (0x1b ∷ n) ++ letter ∷ body
    → r ≡ length n + 2

pub escape_len : (bytes : List ℕ) (r : ℕ) → get_or bytes 0 0 ≡ 0x1b → EscapeLen bytes r
    → (k : Kind) (o : Opener) (body : List ℕ) → IsOpener o
    → bytes ≡ opener k o ++ body → r ≡ length (opener k o)
escape_len bytes r f h k (Long n) body i e =
    let z : r ≡ length n + 2 =
    h n body (letter_of k) i (letter_stops k) (e ∙ append_assoc (0x1b ∷ n) (letter_of k ∷ [])
    body) in
    let one : length (letter_of k ∷ []) ≡ 1 = refl in
    let m : length (0x1b ∷ n) ≡ 1 + length n = omega arith in
    omega (arith, length-append (0x1b ∷ n) (letter_of k ∷ []))
escape_len bytes r f h k Raw body i e =
    let z : 0x1b ≡ raw_of k = sym f ∙ first_byte bytes (opener k Raw ++ body) e in
    absurd (omega (arith, raw_least k))
escape_len bytes r f h k Pair body i e =
    let z : get_or bytes 0 0 ≡ 0xc2 = first_byte bytes (opener k Pair ++ body) e in
    absurd (omega arith)

-- noise up to the letter, as the code counts it
pub noise_len : (bytes : List ℕ) (noise : ℕ)
    → noise ≡ prefix_len (λ b. is_noise (class_of b)) (take (length bytes - 1) (drop 1 bytes))
    → (n body : List ℕ) (letter : ℕ)
    → AllOf is_noise n → is_noise (class_of letter) ≡ false → bytes ≡ (0x1b ∷ n) ++ letter ∷ body
    → (noise ≡ length n) × (length n + 2 ≤ length bytes)
noise_len bytes noise p n body letter a s e =
    let t : take (length bytes - 1) (drop 1 bytes) ≡ n ++ letter ∷ body =
    take_rest bytes 1 ∙ ap (drop 1) e in
    let l : length (letter ∷ body) ≡ 1 + length body = omega arith in
    let m : length (0x1b ∷ n) ≡ 1 + length n = omega arith in (
      p ∙ ap (prefix_len (λ b. is_noise (class_of b))) t ∙ run_is (λ b. is_noise (class_of b)) n
          letter body a s,
      omega (arith, ap length e, length-append (0x1b ∷ n) (letter ∷ body)),
    )

-- ---- which opener it is

-- the last byte of an opener, at its place in the bytes
last_long : (n body : List ℕ) (letter : ℕ)
    → get_or (((0x1b ∷ n) ++ letter ∷ []) ++ body) (length ((0x1b ∷ n) ++ letter ∷ []) - 1) 0
    ≡ letter
last_long n body letter =
    let one : length (letter ∷ []) ≡ 1 = refl in
    let at : length ((0x1b ∷ n) ++ letter ∷ []) - 1 ≡ length (0x1b ∷ n) =
    omega (arith, length-append (0x1b ∷ n) (letter ∷ [])) in
    ap (λ i. get_or (((0x1b ∷ n) ++ letter ∷ []) ++ body) i 0) at
    ∙ ap (λ y. get_or y (length (0x1b ∷ n)) 0) (append_assoc (0x1b ∷ n) (letter ∷ []) body)
    ∙ get_or-append_seam (0x1b ∷ n) letter body 0

last_of : (k : Kind) (o : Opener) (body : List ℕ)
    → (get_or (opener k o ++ body) (length (opener k o) - 1) 0 ≡ letter_of k)
    ⊎ (get_or (opener k o ++ body) (length (opener k o) - 1) 0 ≡ raw_of k)
last_of k (Long n) body = inl (last_long n body (letter_of k))
last_of k Raw body = inr refl
last_of k Pair body = inr refl

pub last_byte : (bytes : List ℕ) (len : ℕ) (k : Kind) (o : Opener) (body : List ℕ)
    → bytes ≡ opener k o ++ body → len ≡ length (opener k o)
    → (get_or bytes (len - 1) 0 ≡ letter_of k) ⊎ (get_or bytes (len - 1) 0 ≡ raw_of k)
last_byte bytes len k o body e l =
    subst (λ i. (get_or bytes (i - 1) 0 ≡ letter_of k)
    ⊎ (get_or bytes (i - 1) 0 ≡ raw_of k)) (sym l)
    (subst (λ y. (get_or y (length (opener k o) - 1) 0 ≡ letter_of k)
    ⊎ (get_or y (length (opener k o) - 1) 0 ≡ raw_of k)) (sym e) (last_of k o body))

no_letter : in_escape (class_of 0x50) ≡ false
unfolding class_of
no_letter = refl

no_raw : in_escape (class_of 0x90) ≡ false
unfolding class_of
no_raw = refl

-- no byte of an escape sequence that is cut short opens a device control string
inside_escape : (x : List ℕ) (b i : ℕ) → AllOf in_escape x → in_escape (class_of b) ≡ false
    → i < length x → get_or x i 0 ≡ b → ⊥
inside_escape x b i a n h e =
    let z : true ≡ false = sym a ∙ list_all_at (λ b. in_escape (class_of b)) x i 0 h
    (ap (λ y. in_escape (class_of y)) e ∙ n) in cc

escape_byte : (x : List ℕ) (b i : ℕ) → AllOf in_escape x → in_escape (class_of b) ≡ false
    → (0x1b ≡ b → ⊥) → i < length (0x1b ∷ x)
    → get_or (0x1b ∷ x) i 0 ≡ b → ⊥
escape_byte x b zero a n m h e = m e
escape_byte x b (suc i) a n m h e = inside_escape x b i a n (omega arith) e

pub no_dcs : (bytes x : List ℕ) (i : ℕ) → AllOf in_escape x → bytes ≡ 0x1b ∷ x → i < length bytes
    → ((get_or bytes i 0 ≡ 0x50) ⊎ (get_or bytes i 0 ≡ 0x90)) → ⊥
no_dcs bytes x i a e h (inl p) =
    escape_byte x 0x50 i a no_letter (λ z. omega (arith, z)) (subst (λ y. i < length y) e h)
    (subst (λ y. get_or y i 0 ≡ 0x50) e p)
no_dcs bytes x i a e h (inr p) =
    escape_byte x 0x90 i a no_raw (λ z. omega (arith, z)) (subst (λ y. i < length y) e h)
    (subst (λ y. get_or y i 0 ≡ 0x90) e p)
