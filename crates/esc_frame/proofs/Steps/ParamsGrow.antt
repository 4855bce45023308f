-- The parameters of a body, one byte more.
use Rattle.std.proofs.Common.{ℕ, ◌≡◌, ◌+◌, ◌-◌, ◌*◌, ◌<◌, ◌≤◌, Bool, true, false, if◌then◌else◌, List, [], ◌∷◌, ◌++◌, length, take, Option, Some, None, refl}
use Rattle.std.proofs.Common.{ap, sym, ◌∙◌, arith, append_assoc}
use Rattle.std.specs.Prelude.{pos, nat_lt}
use Rattle.std.proofs.lemmas.List.{append-nil, take_all, take_at, take-append-le, length-append}
use Rattle.std.proofs.lemmas.Bool.Decides.{nat_tests}
use Rattle.esc_values.specs.declared.csi_param.CsiParam.{CsiParam}
use Rattle.esc_values.specs.declared.csi_param.CsiParam.TheVariants.{Integer, P}
use Rattle.esc_frame.specs.Bodies.{is_digit, capped_at_i64, csi_params_after, kept_csi_params, has_more_csi_params}
use Rattle.esc_frame.specs.Machine.Keeps.{closed_of, number_of_run, closed_by, next_number_of, params_with, AreFirst}

-- a held number, with a digit more
pub held_next : (n d : ℕ) → capped_at_i64 (10 * capped_at_i64 n + d) ≡ capped_at_i64 (10 * n + d)
held_next n d = omega arith

-- the halves are the parameters
halves_none : (b : ℕ) (bs : List ℕ) (t : Bool)
    → csi_params_after (Some (b - 0x30)) bs ≡ closed_of (Some (b - 0x30)) bs
    ++ params_with (number_of_run (Some (b - 0x30)) bs)
    → csi_params_after None bs ≡ closed_of None bs ++ params_with (number_of_run None bs)
    → (if t then csi_params_after (Some (b - 0x30)) bs else P b ∷ csi_params_after None bs) ≡
    ((if t then [] else params_with None ++ P b ∷ [])
    ++ closed_of (if t then Some (b - 0x30) else None)
    bs) ++ params_with
    (number_of_run (if t then Some (b - 0x30) else None) bs)
halves_none b bs true h k = h
halves_none b bs false h k = ap (λ y. P b ∷ y) k

halves_some : (n b : ℕ) (bs : List ℕ) (t : Bool)
    → csi_params_after (Some (10 * n + (b - 0x30))) bs ≡ closed_of (Some (10 * n + (b - 0x30))) bs
    ++ params_with (number_of_run (Some (10 * n + (b - 0x30))) bs)
    → csi_params_after None bs ≡ closed_of None bs ++ params_with (number_of_run None bs)
    → (if t then csi_params_after (Some (10 * n + (b - 0x30))) bs
    else Integer (pos (capped_at_i64 n)) ∷ P b
    ∷ csi_params_after None bs) ≡
    ((if t then [] else params_with (Some n) ++ P b ∷ [])
    ++ closed_of (if t then Some (10 * n + (b - 0x30)) else None) bs) ++ params_with
    (number_of_run (if t then Some (10 * n + (b - 0x30)) else None) bs)
halves_some n b bs true h k = h
halves_some n b bs false h k = ap (λ y. Integer (pos (capped_at_i64 n)) ∷ P b ∷ y) k

pub halves : (o : Option ℕ) (x : List ℕ)
    → csi_params_after o x ≡ closed_of o x ++ params_with (number_of_run o x)
halves None [] = refl
halves (Some n) [] = refl
halves None (b ∷ x) = halves_none b x (is_digit b) (halves (Some (b - 0x30)) x) (halves None x)
halves (Some n) (b ∷ x) =
    halves_some n b x (is_digit b) (halves (Some (10 * n + (b - 0x30))) x) (halves None x)

pub number_push : (o : Option ℕ) (x : List ℕ) (b : ℕ)
    → number_of_run o (x ++ b ∷ []) ≡ next_number_of (number_of_run o x) b
number_push o [] b = refl
number_push o (c ∷ x) b = number_push (next_number_of o c) x b

pub closed_push : (o : Option ℕ) (x : List ℕ) (b : ℕ)
    → closed_of o (x ++ b ∷ []) ≡ closed_of o x ++ closed_by (number_of_run o x) b
closed_push o [] b = append-nil (closed_by o b)
closed_push o (c ∷ x) b =
    ap (λ y. closed_by o c ++ y) (closed_push (next_number_of o c) x b)
    ∙ sym (append_assoc (closed_by o c) (closed_of (next_number_of o c) x)
    (closed_by (number_of_run (next_number_of o c) x) b))

-- one parameter more
pub first_fits : (limit : ℕ) (items all : List CsiParam) (e : CsiParam) (t : Bool) → t ≡ false
    → length items < limit → AreFirst items t limit all
    → AreFirst (items ++ e ∷ []) t limit (all ++ e ∷ [])
first_fits limit items all e t f h a =
    let m : nat_lt limit (length all) ≡ false = sym a.more ∙ f in
    let l : length all ≤ limit = grind (arith, nat_tests) in
    let i : items ≡ all = a.kept ∙ take_all limit all l in
    let n : length (all ++ e ∷ []) ≤ limit =
    omega (arith, length-append all (e ∷ []), ap length i) in record {
      kept = ap (λ y. y ++ e ∷ []) i ∙ sym (take_all limit (all ++ e ∷ []) n);
      more = f ∙ grind (arith, nat_tests);
    }

pub first_full : (limit : ℕ) (items all : List CsiParam) (e : CsiParam) (t : Bool) → t ≡ false
    → limit ≤ length items → AreFirst items t limit all
    → AreFirst items true limit (all ++ e ∷ [])
first_full limit items all e t f h a =
    let m : nat_lt limit (length all) ≡ false = sym a.more ∙ f in
    let l : length all ≤ limit = grind (arith, nat_tests) in
    let i : items ≡ all = a.kept ∙ take_all limit all l in
    let n : length all ≡ limit = omega (arith, ap length i) in
    let k : limit < length (all ++ e ∷ []) = omega (arith, length-append all (e ∷ [])) in record {
      kept = i ∙ sym (take_at all (e ∷ []) limit n);
      more = grind (arith, nat_tests);
    }

pub first_past : (limit : ℕ) (items all : List CsiParam) (e : CsiParam) (t : Bool) → t ≡ true
    → AreFirst items t limit all
    → AreFirst items t limit (all ++ e ∷ [])
first_past limit items all e t f a =
    let m : nat_lt limit (length all) ≡ true = sym a.more ∙ f in
    let l : limit < length all = grind (arith, nat_tests) in
    let n : limit ≤ length all = omega arith in
    let k : limit < length (all ++ e ∷ []) = omega (arith, length-append all (e ∷ [])) in record {
      kept = a.kept ∙ sym (take-append-le limit all (e ∷ []) n);
      more = f ∙ grind (arith, nat_tests);
    }

pub closed_digit : (x : List ℕ) (b : ℕ) → is_digit b ≡ true
    → closed_of None (x ++ b ∷ []) ≡ closed_of None x
closed_digit x b d = closed_push None x b ∙ rw d (append-nil (closed_of None x))

pub closed_other : (x : List ℕ) (b : ℕ) → is_digit b ≡ false
    → closed_of None (x ++ b ∷ []) ≡ (closed_of None x ++ params_with (number_of_run None x)) ++ P b
    ∷ []
closed_other x b d = closed_push None x b
    ∙ rw d (sym (append_assoc (closed_of None x) (params_with (number_of_run None x)) (P b ∷ [])))

next_other : (o : Option ℕ) (b : ℕ) → is_digit b ≡ false → next_number_of o b ≡ None
next_other None b d = rw d refl
next_other (Some n) b d = rw d refl

pub number_other : (x : List ℕ) (b : ℕ) → is_digit b ≡ false
    → number_of_run None (x ++ b ∷ []) ≡ None
number_other x b d = number_push None x b ∙ next_other (number_of_run None x) b d

pub digit_yes : (b : ℕ) → 48 ≤ b → b ≤ 57 → is_digit b ≡ true
digit_yes b l h = grind (arith, nat_tests)

pub digit_low : (b : ℕ) → b < 48 → is_digit b ≡ false
digit_low b l = grind (arith, nat_tests)

pub digit_high : (b : ℕ) → 57 < b → is_digit b ≡ false
digit_high b l = grind (arith, nat_tests)

-- at the end of the body
pub finished_csi_params : (x : List ℕ) (items : List CsiParam) (t : Bool) (limit : ℕ) → limit ≡ 256
    → AreFirst items t limit (closed_of None x ++ params_with (number_of_run None x))
    → items ≡ kept_csi_params x
unfolding kept_csi_params
finished_csi_params x items t limit l a =
    a.kept ∙ ap (λ n. take n (closed_of None x ++ params_with (number_of_run None x))) l
    ∙ ap (take 256) (sym (halves None x))

pub finished_truncated : (x : List ℕ) (items : List CsiParam) (t : Bool) (limit : ℕ) → limit ≡ 256
    → AreFirst items t limit (closed_of None x ++ params_with (number_of_run None x))
    → t ≡ has_more_csi_params x
unfolding has_more_csi_params
finished_truncated x items t limit l a =
    a.more ∙ ap (λ n. nat_lt n (length (closed_of None x ++ params_with (number_of_run None x)))) l
    ∙ ap (λ y. nat_lt 256 (length y)) (sym (halves None x))
