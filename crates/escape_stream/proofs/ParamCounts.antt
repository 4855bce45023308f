-- The text of parameters that were read has no more parameters than these.
use Rattle.std.proofs.Common.{ℕ, zero, suc, ◌≡◌, ◌+◌, ◌-◌, ◌*◌, ◌<◌, ◌≤◌, ◌^◌, Bool, true, false, if◌then◌else◌, ◌&&◌, List, [], ◌∷◌, ◌++◌, length}
use Rattle.std.proofs.Common.{take, Option, Some}
use Rattle.std.proofs.Common.{None, refl, ap, sym, subst, ◌∙◌, arith, rules}
use Rattle.std.specs.Prelude.{pos, negsuc}
use Rattle.std.specs.Fmt.{decimal}
use Rattle.std.specs.List.{list_all}
use Rattle.std.proofs.lemmas.Bool.{and_parts}
use Rattle.std.proofs.lemmas.Bool.Decides.{nat_tests}
use Rattle.std.proofs.lemmas.Fmt.{digits_decimal}
use Rattle.std.proofs.lemmas.List.Folds.{list_all-append}
use Rattle.std.proofs.lemmas.Str.{encode_ascii}
use Rattle.std.proofs.lemmas.Str.Parse.{IsNumeralModel, numerals_by_fold}
use Rattle.esc_values.specs.declared.csi_param.CsiParam.{CsiParam}
use Rattle.esc_values.specs.declared.csi_param.CsiParam.TheVariants.{Integer, P}
use Rattle.esc_values.specs.Params.{is_digit, is_body_byte, capped_at_i64, value_after, csi_params_after, csi_params, param_text, csi_params_text}

abbrev are_digits : List ℕ → Bool
are_digits [] = true
are_digits (b ∷ bs) = is_digit b && are_digits bs

own : IsNumeralModel (λ ds. are_digits ds ≡ true) (value_after 0)
own = numerals_by_fold _ (search rules) value_after (search rules)

-- how many parameters there are does not depend on the number before them
any_by : (n m b : ℕ) (x : List ℕ) (t : Bool)
    → length (csi_params_after (Some (10 * n + (b - 0x30))) x)
    ≡ length (csi_params_after (Some (10 * m + (b - 0x30))) x)
    → length (if t then csi_params_after (Some (10 * n + (b - 0x30))) x else Integer
    (pos (capped_at_i64 n)) ∷ P b ∷ csi_params_after None x)
    ≡ length (if t then csi_params_after (Some (10 * m + (b - 0x30))) x else Integer
    (pos (capped_at_i64 m)) ∷ P b ∷ csi_params_after None x)
any_by n m b x true h = h
any_by n m b x false h = refl

any_count : (n m : ℕ) (x : List ℕ)
    → length (csi_params_after (Some n) x) ≡ length (csi_params_after (Some m) x)
any_count n m [] = refl
any_count n m (b ∷ x) =
    any_by n m b x (is_digit b) (any_count (10 * n + (b - 0x30)) (10 * m + (b - 0x30)) x)

-- a number before a text is one parameter more at most
more_by : (n b : ℕ) (x : List ℕ) (t : Bool)
    → length (if t then csi_params_after (Some (10 * n + (b - 0x30))) x else Integer
    (pos (capped_at_i64 n)) ∷ P b ∷ csi_params_after None x)
    ≤ 1 + length (if t then csi_params_after (Some (b - 0x30)) x else P b ∷ csi_params_after None x)
more_by n b x true = let same = any_count (10 * n + (b - 0x30)) (b - 0x30) x in omega arith
more_by n b x false = omega arith

one_more : (n : ℕ) (x : List ℕ) → length (csi_params_after (Some n) x) ≤ 1 + length (csi_params x)
one_more n [] = omega arith
one_more n (b ∷ x) = more_by n b x (is_digit b)

-- two texts, one after another
none_by : (b : ℕ) (x y : List ℕ) (t : Bool)
    → length (csi_params_after (Some (b - 0x30)) (x ++ y)) ≤ length
    (csi_params_after (Some (b - 0x30)) x) + length (csi_params y)
    → length (csi_params (x ++ y)) ≤ length (csi_params x) + length (csi_params y)
    → length (if t then csi_params_after (Some (b - 0x30)) (x ++ y) else P b ∷ csi_params_after None
    (x ++ y))
    ≤ length (if t then csi_params_after
    (Some (b - 0x30)) x else P b ∷ csi_params_after None x) + length (csi_params y)
none_by b x y true h k = h
none_by b x y false h k = omega arith

some_by : (n b : ℕ) (x y : List ℕ) (t : Bool)
    → length (csi_params_after (Some (10 * n + (b - 0x30))) (x ++ y)) ≤ length
    (csi_params_after (Some (10 * n + (b - 0x30))) x) + length (csi_params y)
    → length (csi_params (x ++ y)) ≤ length (csi_params x) + length (csi_params y)
    → length (if t then csi_params_after (Some (10 * n + (b - 0x30))) (x ++ y) else Integer
    (pos (capped_at_i64 n)) ∷ P b ∷ csi_params_after None (x ++ y))
    ≤ length (if t then csi_params_after (Some (10 * n + (b - 0x30))) x else Integer
    (pos (capped_at_i64 n)) ∷ P b ∷ csi_params_after None x) + length (csi_params y)
some_by n b x y true h k = h
some_by n b x y false h k = omega arith

joined_count : (o : Option ℕ) (x y : List ℕ)
    → length (csi_params_after o (x ++ y)) ≤ length (csi_params_after o x) + length (csi_params y)
joined_count None [] y = omega arith
joined_count (Some n) [] y = one_more n y
joined_count None (b ∷ x) y =
    none_by b x y (is_digit b) (joined_count (Some (b - 0x30)) x y) (joined_count None x y)
joined_count (Some n) (b ∷ x) y =
    some_by n b x y (is_digit b) (joined_count (Some (10 * n + (b - 0x30))) x y)
    (joined_count None x y)

-- a parameter that is read of a body: a number of 64 bits, or a byte 20-3F
abbrev pub IsRead : CsiParam → Type 0
IsRead (Integer (pos n)) = n < 2 ^ 64
IsRead (Integer (negsuc n)) = ⊥
IsRead (P b) = is_body_byte b ≡ true

abbrev pub AreRead : List CsiParam → Type 0
AreRead [] = Unit {0}
AreRead (e ∷ es) = IsRead e × AreRead es

held_small : (n : ℕ) → capped_at_i64 n < 2 ^ 64
held_small n = omega arith

read_none_by : (b : ℕ) (x : List ℕ) (t : Bool) → is_body_byte b ≡ true
    → AreRead (csi_params_after (Some (b - 0x30)) x) → AreRead (csi_params x)
    → AreRead (if t then csi_params_after (Some (b - 0x30)) x else P b ∷ csi_params_after None x)
read_none_by b x true i h k = h
read_none_by b x false i h k = (i, k)

read_some_by : (n b : ℕ) (x : List ℕ) (t : Bool) → is_body_byte b ≡ true
    → AreRead (csi_params_after (Some (10 * n + (b - 0x30))) x) → AreRead (csi_params x)
    → AreRead
    (if t then csi_params_after (Some (10 * n + (b - 0x30))) x else Integer
    (pos (capped_at_i64 n)) ∷ P b ∷ csi_params_after None x)
read_some_by n b x true i h k = h
read_some_by n b x false i h k = (held_small n, (i, k))

read_after : (o : Option ℕ) (x : List ℕ) → list_all is_body_byte x ≡ true
    → AreRead (csi_params_after o x)
read_after None [] h = tt
read_after (Some n) [] h = (held_small n, tt)
read_after None (b ∷ x) h = let q = and_parts (is_body_byte b) (list_all is_body_byte x) h in
    read_none_by b x (is_digit b) q.0 (read_after (Some (b - 0x30)) x q.1) (read_after None x q.1)
read_after (Some n) (b ∷ x) h = let q = and_parts (is_body_byte b) (list_all is_body_byte x) h in
    read_some_by n b x (is_digit b) q.0 (read_after (Some (10 * n + (b - 0x30))) x q.1)
    (read_after None x q.1)

take_read : (k : ℕ) (es : List CsiParam) → AreRead es → AreRead (take k es)
take_read zero es h = tt
take_read (suc k) [] h = tt
take_read (suc k) (e ∷ es) h = (h.0, take_read k es h.1)

pub first_read : (k : ℕ) (x : List ℕ) → list_all is_body_byte x ≡ true
    → AreRead (take k (csi_params x))
first_read k x h = take_read k (csi_params x) (read_after None x h)

pub take_few : (k : ℕ) (es : List CsiParam) → length (take k es) ≤ k
take_few zero es = omega arith
take_few (suc k) [] = omega arith
take_few (suc k) (e ∷ es) = let few = take_few k es in omega arith

-- the text of one parameter
run_one : (n : ℕ) (ds : List ℕ) → are_digits ds ≡ true → length (csi_params_after (Some n) ds) ≤ 1
run_one n [] h = omega arith
run_one n (d ∷ ds) h = let q =
    and_parts (is_digit d) (are_digits ds) h in rw q.0 (run_one (10 * n + (d - 0x30)) ds q.1)

digits_one : (ds : List ℕ) → are_digits ds ≡ true → length (csi_params ds) ≤ 1
digits_one [] h = omega arith
digits_one (d ∷ ds) h = let q =
    and_parts (is_digit d) (are_digits ds) h in rw q.0 (run_one (d - 0x30) ds q.1)

byte_by : (b : ℕ) (t : Bool)
    → length (if t then csi_params_after (Some (b - 0x30)) [] else P b
    ∷ csi_params_after None []) ≤ 1
byte_by b true = omega arith
byte_by b false = omega arith

body_is_ascii : (b : ℕ) → is_body_byte b ≡ true → b < 128
body_is_ascii b h = grind (arith, nat_tests)

digit_is_body : (b : ℕ) → is_digit b ≡ true → is_body_byte b ≡ true
digit_is_body b h = grind (arith, nat_tests)

param_one : (e : CsiParam) → IsRead e → length (csi_params (param_text e)) ≤ 1
param_one (Integer (pos n)) h = digits_one (decimal n) (digits_decimal own n h)
param_one (Integer (negsuc n)) h = absurd h
param_one (P b) h =
    let Few : List ℕ → Type 0 = λ t. length (csi_params t) ≤ 1 in
    subst Few (sym (encode_ascii b (body_is_ascii b h))) (byte_by b (is_digit b))

pub texts_few : (es : List CsiParam) → AreRead es
    → length (csi_params (csi_params_text es)) ≤ length es
texts_few [] h = omega arith
texts_few (e ∷ es) h =
    let both = joined_count None (param_text e) (csi_params_text es) in
    let one = param_one e h.0 in
    let rest = texts_few es h.1 in omega arith

-- is of bytes 20-3F
digits_body : (ds : List ℕ) → are_digits ds ≡ true → list_all is_body_byte ds ≡ true
digits_body [] h = refl
digits_body (d ∷ ds) h = let q =
    and_parts (is_digit d) (are_digits ds) h in rw (digit_is_body d q.0, digits_body ds q.1) refl

param_body : (e : CsiParam) → IsRead e → list_all is_body_byte (param_text e) ≡ true
param_body (Integer (pos n)) h = digits_body (decimal n) (digits_decimal own n h)
param_body (Integer (negsuc n)) h = absurd h
param_body (P b) h = ap (list_all is_body_byte) (encode_ascii b (body_is_ascii b h)) ∙ rw h refl

pub texts_body : (es : List CsiParam) → AreRead es
    → list_all is_body_byte (csi_params_text es) ≡ true
texts_body [] h = refl
texts_body (e ∷ es) h =
    rw (
      list_all-append is_body_byte (param_text e) (csi_params_text es),
      param_body e h.0,
      texts_body es h.1,
    ) refl
