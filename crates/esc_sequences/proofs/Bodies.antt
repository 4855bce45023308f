-- The form of a body is seen in its parameters.
use Rattle.std.proofs.Common.{ℕ, suc, ◌≡◌, ◌+◌, ◌-◌, ◌*◌, Bool, true, false, cond, if◌then◌else◌, ◌&&◌, List, [], ◌∷◌, drop, Option, Some, None, refl}
use Rattle.std.proofs.Common.{ap, sym, ◌∙◌, arith}
use Rattle.std.specs.Prelude.{pos}
use Rattle.std.specs.List.{list_all, prefix_len}
use Rattle.std.proofs.lemmas.Bool.Decides.{nat_tests}
use Rattle.std.proofs.lemmas.Bool.{and_parts}
use Rattle.esc_values.specs.declared.csi_param.CsiParam.{CsiParam}
use Rattle.esc_values.specs.declared.csi_param.CsiParam.TheVariants.{Integer, P}
use Rattle.esc_values.specs.Params.{is_digit, is_private_prefix, is_intermediate_byte, is_csi_parameter, is_body_byte, drop_while, is_csi_body, capped_at_i64}
use Rattle.esc_values.specs.Params.{csi_params_after, csi_params}

digit_is_parameter : (b : ℕ) → is_digit b ≡ true → is_csi_parameter b ≡ true
digit_is_parameter b d = grind (arith, nat_tests)

digit_no_intermediate : (b : ℕ) → is_digit b ≡ true → is_intermediate_byte b ≡ false
digit_no_intermediate b d = grind (arith, nat_tests)

digit_no_private_prefix : (b : ℕ) → is_digit b ≡ true → is_private_prefix b ≡ false
digit_no_private_prefix b d = grind (arith, nat_tests)

pub digit_in_body : (b : ℕ) → is_digit b ≡ true → is_body_byte b ≡ true
digit_in_body b d = grind (arith, nat_tests)

private_prefix_in_body : (b : ℕ) → is_private_prefix b ≡ true → is_body_byte b ≡ true
private_prefix_in_body b d = grind (arith, nat_tests)

parameter_in_body : (b : ℕ) → is_csi_parameter b ≡ true → is_body_byte b ≡ true
parameter_in_body b d = grind (arith, nat_tests)

intermediate_in_body : (b : ℕ) → is_intermediate_byte b ≡ true → is_body_byte b ≡ true
intermediate_in_body b d = grind (arith, nat_tests)

-- parameter bytes, and then intermediates
abbrev parameters : List ℕ → Bool
parameters [] = true
parameters (b ∷ x) = if is_csi_parameter b then parameters x else (is_intermediate_byte b
    && list_all is_intermediate_byte x)

drop_while_by : (p : ℕ → Bool) (b : ℕ) (x : List ℕ) (t : Bool)
    → drop (cond t (1 + prefix_len p x) 0) (b ∷ x) ≡ (if t then drop_while p x else b ∷ x)
drop_while_by p b x true = let one : 1 + prefix_len p x ≡ suc (prefix_len p x) = omega arith in
    ap (λ n. drop n (b ∷ x)) one
drop_while_by p b x false = refl

parameters_by : (b : ℕ) (x : List ℕ) (t : Bool)
    → list_all is_intermediate_byte (drop_while is_csi_parameter x) ≡ parameters x
    → list_all is_intermediate_byte (if t then drop_while is_csi_parameter x else b ∷ x)
    ≡ (if t then parameters x else (is_intermediate_byte b && list_all is_intermediate_byte x))
parameters_by b x true h = h
parameters_by b x false h = refl

parameters_are : (x : List ℕ) → list_all is_intermediate_byte (drop_while is_csi_parameter x)
    ≡ parameters x
parameters_are [] = refl
parameters_are (b ∷ x) =
    ap (list_all is_intermediate_byte) (drop_while_by is_csi_parameter b x (is_csi_parameter b))
    ∙ parameters_by b x (is_csi_parameter b) (parameters_are x)

-- a private prefix, if there is one, and then these
abbrev marked : List ℕ → Bool
marked [] = true
marked (b ∷ x) = if is_private_prefix b then parameters x else parameters (b ∷ x)

marked_by : (b : ℕ) (x : List ℕ) (t : Bool)
    → list_all is_intermediate_byte (drop_while is_csi_parameter (if t then x else b ∷ x))
    ≡ (if t then parameters x else parameters (b ∷ x))
marked_by b x true = parameters_are x
marked_by b x false = parameters_are (b ∷ x)

marked_is : (x : List ℕ) → is_csi_body x ≡ marked x
unfolding is_csi_body
marked_is [] = refl
marked_is (b ∷ x) = marked_by b x (is_private_prefix b)

-- the same for parameters
abbrev param_intermediates : List CsiParam → Bool
param_intermediates [] = true
param_intermediates (Integer n ∷ es) = false
param_intermediates (P b ∷ es) = is_intermediate_byte b && param_intermediates es

abbrev param_parameters : List CsiParam → Bool
param_parameters [] = true
param_parameters (Integer n ∷ es) = param_parameters es
param_parameters (P b ∷ es) = if is_csi_parameter b then param_parameters es else
    (is_intermediate_byte b && param_intermediates es)

abbrev param_marked : List CsiParam → Bool
param_marked [] = true
param_marked (Integer n ∷ es) = param_parameters es
param_marked (P b ∷ es) =
    if is_private_prefix b then param_parameters es else param_parameters (P b ∷ es)

-- a number is no intermediate
run_by : (n b : ℕ) (x : List ℕ) (t : Bool)
    → param_intermediates (csi_params_after (Some (10 * n + (b - 0x30))) x) ≡ false
    → param_intermediates (if t then csi_params_after (Some (10 * n + (b - 0x30))) x else Integer
    (pos (capped_at_i64 n)) ∷ P b ∷ csi_params_after None x) ≡ false
run_by n b x true h = h
run_by n b x false h = refl

run_no_intermediates : (n : ℕ) (x : List ℕ)
    → param_intermediates (csi_params_after (Some n) x) ≡ false
run_no_intermediates n [] = refl
run_no_intermediates n (b ∷ x) =
    run_by n b x (is_digit b) (run_no_intermediates (10 * n + (b - 0x30)) x)

intermediates_by : (b : ℕ) (x : List ℕ) (t : Bool) → is_digit b ≡ t
    → param_intermediates (csi_params x) ≡ list_all is_intermediate_byte x
    → param_intermediates (if t then csi_params_after (Some (b - 0x30)) x else P b
    ∷ csi_params_after None x)
    ≡ (is_intermediate_byte b && list_all is_intermediate_byte x)
intermediates_by b x true d h = run_no_intermediates (b - 0x30) x
    ∙ sym (ap (λ t. t && list_all is_intermediate_byte x) (digit_no_intermediate b d))
intermediates_by b x false d h = ap (λ t. is_intermediate_byte b && t) h

intermediates_are : (x : List ℕ)
    → param_intermediates (csi_params x) ≡ list_all is_intermediate_byte x
intermediates_are [] = refl
intermediates_are (b ∷ x) = intermediates_by b x (is_digit b) refl (intermediates_are x)

other_by : (b : ℕ) (x : List ℕ) (t : Bool) → param_parameters (csi_params x) ≡ parameters x
    → (if t then param_parameters (csi_params x) else (is_intermediate_byte b
    && param_intermediates (csi_params x)))
    ≡ (if t then parameters x else (is_intermediate_byte b && list_all is_intermediate_byte x))
other_by b x true h = h
other_by b x false h = ap (λ t. is_intermediate_byte b && t) (intermediates_are x)

none_by : (b : ℕ) (x : List ℕ) (t : Bool) → is_digit b ≡ t
    → param_parameters (csi_params_after (Some (b - 0x30)) x) ≡ parameters x
    → param_parameters (csi_params x) ≡ parameters x
    → param_parameters (if t then csi_params_after (Some (b - 0x30)) x else P b
    ∷ csi_params_after None x) ≡ parameters (b ∷ x)
none_by b x true d h k = rw (digit_is_parameter b d) h
none_by b x false d h k = other_by b x (is_csi_parameter b) k

some_by : (n b : ℕ) (x : List ℕ) (t : Bool) → is_digit b ≡ t
    → param_parameters (csi_params_after (Some (10 * n + (b - 0x30))) x) ≡ parameters x
    → param_parameters (csi_params x) ≡ parameters x
    → param_parameters (if t then csi_params_after (Some (10 * n + (b - 0x30))) x else Integer
    (pos (capped_at_i64 n)) ∷ P b ∷ csi_params_after None x) ≡ parameters (b ∷ x)
some_by n b x true d h k = rw (digit_is_parameter b d) h
some_by n b x false d h k = other_by b x (is_csi_parameter b) k

param_parameters_are : (o : Option ℕ) (x : List ℕ)
    → param_parameters (csi_params_after o x) ≡ parameters x
param_parameters_are None [] = refl
param_parameters_are (Some n) [] = refl
param_parameters_are None (b ∷ x) =
    none_by b x (is_digit b) refl (param_parameters_are (Some (b - 0x30)) x)
    (param_parameters_are None x)
param_parameters_are (Some n) (b ∷ x) =
    some_by n b x (is_digit b) refl (param_parameters_are (Some (10 * n + (b - 0x30))) x)
    (param_parameters_are None x)

-- a number is no private prefix
first_by : (n b : ℕ) (x : List ℕ) (t : Bool)
    → param_marked (csi_params_after (Some (10 * n + (b - 0x30))) x)
    ≡ param_parameters (csi_params_after (Some (10 * n + (b - 0x30))) x)
    → param_marked (if t then csi_params_after (Some (10 * n + (b - 0x30))) x else Integer
    (pos (capped_at_i64 n)) ∷ P b ∷ csi_params_after None x)
    ≡ param_parameters (if t then csi_params_after (Some (10 * n + (b - 0x30))) x else Integer
    (pos (capped_at_i64 n)) ∷ P b ∷ csi_params_after None x)
first_by n b x true h = h
first_by n b x false h = refl

run_no_private_prefix : (n : ℕ) (x : List ℕ)
    → param_marked (csi_params_after (Some n) x) ≡ param_parameters (csi_params_after (Some n) x)
run_no_private_prefix n [] = refl
run_no_private_prefix n (b ∷ x) =
    first_by n b x (is_digit b) (run_no_private_prefix (10 * n + (b - 0x30)) x)

param_marked_by : (b : ℕ) (x : List ℕ) (t m : Bool) → is_digit b ≡ t → is_private_prefix b ≡ m
    → param_marked
    (if t then csi_params_after (Some (b - 0x30)) x else P b ∷ csi_params_after None x)
    ≡ (if m then parameters x else parameters (b ∷ x))
param_marked_by b x true true d m = absurd (let no = digit_no_private_prefix b d in cc)
param_marked_by b x true false d m = run_no_private_prefix (b - 0x30) x
    ∙ param_parameters_are (Some (b - 0x30)) x ∙ (rw (digit_is_parameter b d) refl)
param_marked_by b x false true d m = rw m (param_parameters_are None x)
param_marked_by b x false false d m =
    rw m (other_by b x (is_csi_parameter b) (param_parameters_are None x))

param_marked_is : (x : List ℕ) → param_marked (csi_params x) ≡ marked x
param_marked_is [] = refl
param_marked_is (b ∷ x) = param_marked_by b x (is_digit b) (is_private_prefix b) refl refl

-- bodies with the same parameters are of the form, or are not, alike
pub same_form : (x y : List ℕ) → csi_params y ≡ csi_params x → is_csi_body x ≡ true
    → is_csi_body y ≡ true
same_form x y same h = marked_is y ∙ sym (param_marked_is y) ∙ ap param_marked same
    ∙ param_marked_is x ∙ sym (marked_is x) ∙ h

-- the bytes of a body
all_intermediates : (x : List ℕ) → list_all is_intermediate_byte x ≡ true
    → list_all is_body_byte x ≡ true
all_intermediates [] h = refl
all_intermediates (b ∷ x) h = let q =
    and_parts (is_intermediate_byte b) (list_all is_intermediate_byte x) h in
    rw (intermediate_in_body b q.0, all_intermediates x q.1) refl

all_parameters_by : (b : ℕ) (x : List ℕ) (t : Bool) → is_csi_parameter b ≡ t
    → (parameters x ≡ true → list_all is_body_byte x ≡ true)
    → (if t then parameters x else (is_intermediate_byte b && list_all is_intermediate_byte x))
    ≡ true → (is_body_byte b && list_all is_body_byte x) ≡ true
all_parameters_by b x true p k h = rw (parameter_in_body b p, k h) refl
all_parameters_by b x false p k h = all_intermediates (b ∷ x) h

all_parameters : (x : List ℕ) → parameters x ≡ true → list_all is_body_byte x ≡ true
all_parameters [] h = refl
all_parameters (b ∷ x) h = all_parameters_by b x (is_csi_parameter b) refl (all_parameters x) h

all_marked_by : (b : ℕ) (x : List ℕ) (t : Bool) → is_private_prefix b ≡ t
    → (if t then parameters x else parameters (b ∷ x)) ≡ true
    → (is_body_byte b && list_all is_body_byte x) ≡ true
all_marked_by b x true m h = rw (private_prefix_in_body b m, all_parameters x h) refl
all_marked_by b x false m h = all_parameters (b ∷ x) h

all_marked : (x : List ℕ) → marked x ≡ true → list_all is_body_byte x ≡ true
all_marked [] h = refl
all_marked (b ∷ x) h = all_marked_by b x (is_private_prefix b) refl h

pub body_bytes : (x : List ℕ) → is_csi_body x ≡ true → list_all is_body_byte x ≡ true
body_bytes x h = all_marked x (sym (marked_is x) ∙ h)
