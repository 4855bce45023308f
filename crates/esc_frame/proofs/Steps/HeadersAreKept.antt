-- The header of a device control string is read from its kept bytes.
use Rattle.std.proofs.Common.{ℕ, ℤ, ◌≡◌, Bool, true, false, not, cond, if◌then◌else◌, List, [], ◌∷◌, ◌++◌, length, take, map, pos, nat_lt, refl, ap}
use Rattle.std.proofs.Common.{sym, Option}
use Rattle.std.proofs.Common.{◌∙◌, arith}
use Rattle.std.specs.List.{list_all, take_while}
use Rattle.std.proofs.lemmas.List.Sums.{take_while-cons}
use Rattle.std.proofs.lemmas.List.Elements.{filter-append}
use Rattle.std.proofs.lemmas.List.{append-nil}
use Rattle.std.proofs.lemmas.Bool.{and_parts}
use Rattle.std.proofs.lemmas.Bool.Decides.{nat_tests}
use Rattle.esc_values.specs.Clear.{parts_of}
use Rattle.esc_frame.specs.declared.unfinished.body.Form.TheVariants as form
use Rattle.esc_frame.specs.declared.unfinished.header.DcsHeader.{DcsHeader}
use Rattle.esc_frame.specs.Bodies.{is_private_prefix, is_intermediate_byte, is_dcs_parameter, is_dcs_header, after_private_prefix, drop_while}
use Rattle.esc_frame.specs.Bodies.{capped_at_i64, value_after, dcs_params, dcs_intermediates}
use Rattle.esc_frame.specs.Events.Event.{DcsHook}
use Rattle.esc_frame.specs.Limits.{is_within, is_read, header_count}
use Rattle.esc_frame.specs.Machine.Keeps.{KeepsDcs, form_by, is_formed, parameters_of, others_of}
use Rattle.esc_frame.specs.Segments.{hook_event}
use Rattle.esc_frame.proofs.Steps.FormsGrow.{drop_while-cons, formed_by}

-- ---- its form

pub header_formed : (x : List ℕ)
    → is_formed (form_by is_dcs_parameter form.Empty x) ≡ is_dcs_header x
unfolding is_dcs_header
header_formed x = formed_by is_dcs_parameter x

-- ---- its parameter bytes, and the others

intermediate_no : (b : ℕ) → is_intermediate_byte b ≡ true → is_dcs_parameter b ≡ false
intermediate_no b h = grind (arith, nat_tests)

private_prefix_no : (b : ℕ) → is_private_prefix b ≡ true → is_dcs_parameter b ≡ false
private_prefix_no b h = grind (arith, nat_tests)

intermediates_kept : (x : List ℕ) → list_all is_intermediate_byte x ≡ true → (parameters_of x ≡ [])
    × (others_of x ≡ x)
intermediates_kept [] h = (refl, refl)
intermediates_kept (b ∷ x) h =
    let k = and_parts (is_intermediate_byte b) (list_all is_intermediate_byte x) h in
    let q = intermediates_kept x k.1 in rw (intermediate_no b k.0) (q.0, ap (λ y. b ∷ y) q.1)

body_by : (b : ℕ) (x : List ℕ) (t : Bool) → is_dcs_parameter b ≡ t
    → (list_all is_intermediate_byte (drop_while is_dcs_parameter x) ≡ true
    → (parameters_of x ≡ take_while is_dcs_parameter x)
    × (others_of x ≡ drop_while is_dcs_parameter x))
    → list_all is_intermediate_byte (if t then drop_while is_dcs_parameter x else b ∷ x) ≡ true
    → (cond t (b ∷ parameters_of x) (parameters_of x)
    ≡ (if t then b ∷ take_while is_dcs_parameter x else []))
    × (cond (not t) (b ∷ others_of x) (others_of x)
    ≡ (if t then drop_while is_dcs_parameter x else b ∷ x))
body_by b x true e more h = let q = more h in (ap (λ y. b ∷ y) q.0, q.1)
body_by b x false e more h =
    let k = and_parts (is_intermediate_byte b) (list_all is_intermediate_byte x) h in
    let q = intermediates_kept x k.1 in (q.0, ap (λ y. b ∷ y) q.1)

body_kept : (x : List ℕ) → list_all is_intermediate_byte (drop_while is_dcs_parameter x) ≡ true
    → (parameters_of x ≡ take_while is_dcs_parameter x)
    × (others_of x ≡ drop_while is_dcs_parameter x)
body_kept [] h = (refl, refl)
body_kept (b ∷ x) h =
    let d = drop_while-cons is_dcs_parameter b x in
    let q = body_by b x (is_dcs_parameter b) refl (body_kept x)
    (ap (list_all is_intermediate_byte) (sym d) ∙ h) in
    (q.0 ∙ sym (take_while-cons is_dcs_parameter b x), q.1 ∙ sym d)

marked_by : (b : ℕ) (x : List ℕ) (t : Bool) → is_private_prefix b ≡ t
    → list_all is_intermediate_byte (drop_while is_dcs_parameter (if t then x else b ∷ x)) ≡ true
    → (parameters_of (b ∷ x) ≡ take_while is_dcs_parameter (if t then x else b ∷ x))
    × (others_of (b ∷ x) ≡ (if t then b ∷ [] else [])
    ++ drop_while is_dcs_parameter (if t then x else b ∷ x))
marked_by b x true m h = let q = body_kept x h in
    rw (private_prefix_no b m) (q.0, ap (λ y. b ∷ y) q.1)
marked_by b x false m h = body_kept (b ∷ x) h

-- with a byte more
pub others_push : (x : List ℕ) (b : ℕ) → is_dcs_parameter b ≡ false
    → others_of x ++ b ∷ [] ≡ others_of (x ++ b ∷ [])
others_push x b h = sym (filter-append (λ b. not (is_dcs_parameter b)) x (b ∷ []) ∙ rw h refl)

pub others_same : (x : List ℕ) (b : ℕ) → is_dcs_parameter b ≡ true
    → others_of x ≡ others_of (x ++ b ∷ [])
others_same x b h = sym (filter-append (λ b. not (is_dcs_parameter b)) x (b ∷ [])
    ∙ rw h (append-nil (others_of x)))

-- the same for a header that has its form
pub header_kept : (x : List ℕ) → is_dcs_header x ≡ true
    → (parameters_of x ≡ take_while is_dcs_parameter (after_private_prefix x))
    × (others_of x ≡ dcs_intermediates x)
unfolding is_dcs_header dcs_intermediates
header_kept [] h = (refl, refl)
header_kept (b ∷ x) h = marked_by b x (is_private_prefix b) refl h

params_are : (x bytes : List ℕ) (ns : List ℤ) → is_dcs_header x ≡ true → bytes ≡ parameters_of x
    → ns ≡ map (λ p. pos (capped_at_i64 (value_after 0 p))) (parts_of bytes) → ns ≡ dcs_params x
unfolding dcs_params
params_are x bytes ns h e n =
    n ∙ ap (λ y. map (λ p. pos (capped_at_i64 (value_after 0 p))) (parts_of y))
    (e ∙ (header_kept x h).0)

-- its hook comes from its kept bytes
pub hook_is : (h : DcsHeader) (x bytes is : List ℕ) (ns : List ℤ) (b : ℕ) → is_dcs_header x ≡ true
    → KeepsDcs h x → bytes ≡ parameters_of x
    → ns ≡ map (λ p. pos (capped_at_i64 (value_after 0 p))) (parts_of bytes)
    → is ≡ take h.intermediates.kept h.intermediates.bytes
    → DcsHook b ns is h.intermediates.ignored ≡ hook_event x b
hook_is h x bytes is ns b f k e n i =
    let o = (header_kept x f).1 in
    ap (λ y. DcsHook b y is h.intermediates.ignored) (params_are x bytes ns f e n)
    ∙ ap (λ y. DcsHook b (dcs_params x) y h.intermediates.ignored) (i ∙ k.0.0 ∙ ap (take 2) o)
    ∙ ap (λ t. DcsHook b (dcs_params x) (take 2 (dcs_intermediates x)) t)
    (k.0.1 ∙ ap (λ y. nat_lt 2 (length y)) o)

-- a header that is read is within the limit, and has its form
pub read_parts : (limit : Option ℕ) (x : List ℕ) → is_read limit x ≡ true
    → (is_within limit (length (parameters_of x)) ≡ true) × (is_dcs_header x ≡ true)
read_parts limit x r = and_parts (is_within limit (header_count x)) (is_dcs_header x) r
