-- Runs of text.
use Rattle.std.proofs.Common.{◌≡◌, ℕ, Bool, true, false, not, ◌&&◌, ◌||◌, List, [], ◌∷◌, map, refl, ap, sym, subst, ◌∙◌, ◌==◌, arith, inl, inr}
use Rattle.std.proofs.lemmas.Bool.{and_parts}
use Rattle.std.proofs.lemmas.Bool.Decides.{nat_tests}
use Rattle.std.specs.Char.{encode_utf8}
use Rattle.std.specs.List.{FoldsTo, list_all, list_any}
use Rattle.std.specs.Str.{IsUtf8, chars, encode_utf8_all}
use Rattle.std.proofs.lemmas.List.Folds.{list_all-append}
use Rattle.std.proofs.lemmas.Str.{encode_ascii, encodes-chars}
use Rattle.esc_parse.specs.Given.{StopsAt}
use Rattle.esc_filter.specs.Noted.{Notes, WriteDenies}
use Rattle.esc_filter.specs.declared.written.Written.{Written}
use Rattle.esc_actions.specs.Values.{Value, print}
use Rattle.esc_actions.specs.declared.action.Action.TheVariants as action
use Rattle.esc_filter.specs.Fed.{Refuses, TakesBy}
use Rattle.fallible_alloc.specs.Refusals.{Refused}
use Rattle.esc_filter.specs.Passing.{passes}
use Rattle.esc_filter.specs.declared.passing.Passing.{Passing}
use Rattle.esc_filter.specs.Rules.{admits, is_shown, is_text}
use Rattle.esc_filter.specs.declared.policy.Policy.{Policy}
use Rattle.esc_filter.specs.declared.policy.Policy.TheVariants as policy

-- all are shown if none is DEL
neither : (a b : Bool) → not (a || b) ≡ (not a && not b)
neither true b = refl
neither false b = refl

pub none_hidden : (xs : List ℕ) → not (list_any (λ x. x == 0x7f) xs) ≡ list_all is_shown xs
none_hidden [] = refl
none_hidden (x ∷ xs) = neither (x == 0x7f) (list_any (λ x. x == 0x7f) xs)
    ∙ ap (λ r. not (x == 0x7f) && r) (none_hidden xs)

pub all_more : (p q : ℕ → Bool) → ((c : ℕ) → p c ≡ true → q c ≡ true) → (xs : List ℕ)
    → list_all p xs ≡ true → list_all q xs ≡ true
all_more p q f [] h = refl
all_more p q f (x ∷ xs) h = let k = and_parts (p x) (list_all p xs) h in
    rw (f x k.0, all_more p q f xs k.1) refl

-- a character without the byte DEL is shown
char_by : (c : ℕ) (t : Bool) → (c == 0x7f) ≡ t → list_all is_shown (encode_utf8 c) ≡ true
    → is_shown c ≡ true
char_by c true e h =
    let d : c ≡ 0x7f = grind (arith, nat_tests) in
    let k : list_all is_shown (encode_utf8 0x7f) ≡ true =
    subst (λ b. list_all is_shown (encode_utf8 b) ≡ true) d h in
    let none : false ≡ true = subst (λ l. list_all is_shown l ≡ true)
    (encode_ascii 0x7f (omega arith)) k in cc
char_by c false e h = rw e refl

chars_by : (cs : List ℕ) → list_all is_shown (encode_utf8_all cs) ≡ true
    → list_all is_shown cs ≡ true
chars_by [] h = refl
chars_by (c ∷ cs) h =
    let k = and_parts (list_all is_shown (encode_utf8 c)) (list_all is_shown (encode_utf8_all cs))
    (sym (list_all-append is_shown (encode_utf8 c) (encode_utf8_all cs)) ∙ h) in
    rw (char_by c (c == 0x7f) refl k.0, chars_by cs k.1) refl

admitted_char : (A : Type 0) (p : Policy) (c : ℕ) → is_shown c ≡ true
    → admits {A = A} p (print c) ≡ true
admitted_char A policy.Text c h = h
admitted_char A policy.Color c h = rw h refl
admitted_char A policy.Screen c h = rw h refl
admitted_char A policy.All c h = refl

-- each policy admits text
pub text_passes : {A : Type 0} (p : Policy) (v : Value A) → is_text v ≡ true → true ≡ admits p v
text_passes policy.Text v h = sym h
text_passes policy.Color v h = rw h refl
text_passes policy.Screen v h = rw h refl
text_passes policy.All v h = refl

-- and characters that are shown
pub run_admitted : (A : Type 0) (p : Policy) (xs : List ℕ) → list_all is_shown xs ≡ true
    → list_all (λ c. admits {A = A} p (print c)) xs ≡ true
run_admitted A p xs h = all_more is_shown (λ c. admits {A = A} p (print c))
    (λ c k. admitted_char A p c k) xs h

-- the characters of a text without the byte DEL are shown
pub chars_shown : (text : List ℕ) → IsUtf8 text → list_all is_shown text ≡ true
    → list_all is_shown (chars text) ≡ true
chars_shown text u h =
    chars_by (chars text) (subst (λ t. list_all is_shown t ≡ true) (sym (encodes-chars text u)) h)

pub str_admitted : (A : Type 0) (p : Policy) (text : List ℕ) → IsUtf8 text
    → list_all is_shown text ≡ true
    → list_all (λ c. admits {A = A} p (print c)) (chars text) ≡ true
str_admitted A p text u h = run_admitted A p (chars text) (chars_shown text u h)

-- a run that is admitted passes, character by character
one_passes : {A : Type 0} (b : Bool) (p q : Written A) (c : ℕ) → b ≡ true
    → Notes p (action.Print c) q
    → (b ≡ true → Notes p (action.Print c) q) × (b ≡ false → q ≡ p)
one_passes true p q c e h = (λ k. h, λ k. absurd cc)
one_passes false p q c e h = absurd cc

abbrev with_written : {P A : Type 0} → Passing P A → Written A → Passing P A
with_written p s = record p { written = s }

pub run_passes : {P A : Type 0} (allows : P → Value A → Bool) (xs : List ℕ) (p : Passing P A)
    (s : Written A)
    → list_all (λ c. allows p.policy.now (print c)) xs ≡ true
    → FoldsTo Notes p.written (map action.Print xs) s
    → FoldsTo (TakesBy allows) p (map action.Print xs) (record p { written = s })
run_passes allows [] p s h e = ap (with_written p) e
run_passes allows (x ∷ xs) p s h (j, t, rest) =
    let k = and_parts (allows p.policy.now (print x))
    (list_all (λ c. allows p.policy.now (print c)) xs) h in (
      record p { written = j },
      (one_passes (passes (allows p.policy.now) (print x)) p.written j x k.0 t, refl),
      run_passes allows xs (record p { written = j }) s k.1 rest,
    )

-- a run with a character that is refused
run_why : {A : Type 0} (xs : List ℕ) (p q : Written A)
    → StopsAt ⊥ Notes WriteDenies p (map action.Print xs) q → Refused A
run_why [] p q e = absurd e.0
run_why (x ∷ xs) p q (inl e) = absurd e.0
run_why (x ∷ xs) p q (inr (inl denied)) = denied refl
run_why (x ∷ xs) p q (inr (inr (mid, t, rest))) = run_why xs mid q rest

pub run_refused : {P A : Type 0} (allows : P → Value A → Bool) (xs : List ℕ) (p : Passing P A)
    (s : Written A)
    → StopsAt ⊥ Notes WriteDenies p.written (map action.Print xs) s
    → StopsAt ⊥ (TakesBy allows) Refuses p (map action.Print xs) (record p { written = s })
run_refused allows [] p s e = absurd e.0
run_refused allows (x ∷ xs) p s e = inr (inl (λ _. run_why (x ∷ xs) p.written s e))
