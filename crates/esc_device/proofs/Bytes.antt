-- The bytes of headers and data, and their texts.
use Rattle.std.proofs.Common.{ℕ, ◌≡◌, ◌<◌, Bool, true, false, ◌||◌, List, [], ◌∷◌, ◌++◌, refl, ap, ◌∙◌, arith}
use Rattle.std.proofs.lemmas.Bool.{and_parts}
use Rattle.std.proofs.lemmas.Bool.Decides.{nat_tests}
use Rattle.std.proofs.lemmas.Str.{encode_ascii}
use Rattle.std.specs.List.{list_all, list_any}
use Rattle.esc_values.specs.Params.{is_body_byte, is_final, is_intermediate_byte, is_private_prefix}
use Rattle.esc_frame.specs.Bodies.{is_dcs_parameter}
use Rattle.esc_frame.specs.Classes.{class_of, AllOf, in_body, is_put, ends_csi}
use Rattle.esc_device.specs.Texts.{as_text, private_prefixes_text, others_text}
use Rattle.esc_device.specs.Writable.{is_datum, AreData, is_high_byte}

pub all_pass : (p q : ℕ → Bool) → ((b : ℕ) → p b ≡ true → q b ≡ true) → (bs : List ℕ)
    → list_all p bs ≡ true → list_all q bs ≡ true
all_pass p q f [] h = refl
all_pass p q f (b ∷ bs) h = let w = and_parts (p b) (list_all p bs) h in
    rw (f b w.0, all_pass p q f bs w.1) refl

-- headers
pub body_byte : (b : ℕ) → is_body_byte b ≡ true → in_body (class_of b) ≡ true
unfolding class_of
body_byte b h = grind (arith, nat_tests)

pub private_prefix_in_body : (b : ℕ) → is_private_prefix b ≡ true → is_body_byte b ≡ true
private_prefix_in_body b h = grind (arith, nat_tests)

pub parameter_in_body : (b : ℕ) → is_dcs_parameter b ≡ true → is_body_byte b ≡ true
parameter_in_body b h = grind (arith, nat_tests)

pub intermediate_in_body : (b : ℕ) → is_intermediate_byte b ≡ true → is_body_byte b ≡ true
intermediate_in_body b h = grind (arith, nat_tests)

pub in_body_all : (bs : List ℕ) → list_all is_body_byte bs ≡ true → AllOf in_body bs
in_body_all bs h = all_pass is_body_byte (λ b. in_body (class_of b)) body_byte bs h

pub intermediate_small : (b : ℕ) → is_intermediate_byte b ≡ true → b < 128
intermediate_small b h = grind (arith, nat_tests)

pub private_prefix_small : (b : ℕ) → is_private_prefix b ≡ true → b < 128
private_prefix_small b h = grind (arith, nat_tests)

pub intermediate_no_private_prefix : (b : ℕ) → is_intermediate_byte b ≡ true
    → is_private_prefix b ≡ false
intermediate_no_private_prefix b h = grind (arith, nat_tests)

pub intermediate_no_parameter : (b : ℕ) → is_intermediate_byte b ≡ true → is_dcs_parameter b ≡ false
intermediate_no_parameter b h = grind (arith, nat_tests)

pub parameter_no_private_prefix : (b : ℕ) → is_dcs_parameter b ≡ true → is_private_prefix b ≡ false
parameter_no_private_prefix b h = grind (arith, nat_tests)

-- final bytes
pub final_ends : (f : ℕ) → is_final f ≡ true → ends_csi (class_of f) ≡ true
unfolding class_of
final_ends f h = grind (arith, nat_tests)

pub ends_final : (f : ℕ) → ends_csi (class_of f) ≡ true → is_final f ≡ true
unfolding class_of
ends_final f h = grind (arith, nat_tests)

pub final_small : (f : ℕ) → is_final f ≡ true → f < 128
final_small f h = grind (arith, nat_tests)

-- data
datum_put : (b : ℕ) → is_datum b ≡ true → is_put (class_of b) ≡ true
unfolding class_of
datum_put b h = grind (arith, nat_tests)

datum_small : (b : ℕ) → is_datum b ≡ true → b < 128
datum_small b h = grind (arith, nat_tests)

pub data_put : (d : List ℕ) → AreData d → AllOf is_put d
data_put d h = all_pass is_datum (λ b. is_put (class_of b)) datum_put d h

pub put_datum : (b : ℕ) → is_put (class_of b) ≡ true → is_high_byte b ≡ false → is_datum b ≡ true
unfolding class_of
put_datum b h k = grind (arith, nat_tests)

or_parts : (s t : Bool) → (s || t) ≡ false → (s ≡ false) × (t ≡ false)
or_parts false t h = (refl, h)
or_parts true t h = cc

pub put_data : (d : List ℕ) → AllOf is_put d → list_any is_high_byte d ≡ false → AreData d
put_data [] h k = refl
put_data (b ∷ d) h k =
    let q = and_parts (is_put (class_of b)) (list_all (λ c. is_put (class_of c)) d) h in
    let w = or_parts (is_high_byte b) (list_any is_high_byte d) k in
    rw (put_datum b q.0 w.0, put_data d q.1 w.1) refl

-- texts
small_text : (t : ℕ → Bool) → ((b : ℕ) → t b ≡ true → b < 128) → (bs : List ℕ)
    → list_all t bs ≡ true → as_text bs ≡ bs
small_text t small [] h = refl
small_text t small (b ∷ bs) h =
    let q = and_parts (t b) (list_all t bs) h in
    ap (λ x. x ++ as_text bs) (encode_ascii b (small b q.0))
    ∙ ap (λ x. b ∷ x) (small_text t small bs q.1)

pub data_text : (d : List ℕ) → AreData d → as_text d ≡ d
data_text d h = small_text is_datum datum_small d h

pub no_private_prefixes : (bs : List ℕ) → list_all is_intermediate_byte bs ≡ true
    → private_prefixes_text bs ≡ []
no_private_prefixes [] h = refl
no_private_prefixes (b ∷ bs) h =
    let q = and_parts (is_intermediate_byte b) (list_all is_intermediate_byte bs) h in
    rw (intermediate_no_private_prefix b q.0) (no_private_prefixes bs q.1)

pub all_others : (bs : List ℕ) → list_all is_intermediate_byte bs ≡ true → others_text bs ≡ bs
all_others [] h = refl
all_others (b ∷ bs) h =
    let q = and_parts (is_intermediate_byte b) (list_all is_intermediate_byte bs) h in
    rw (intermediate_no_private_prefix b q.0)
    (ap (λ x. x ++ others_text bs) (encode_ascii b (intermediate_small b q.0))
    ∙ ap (λ x. b ∷ x) (all_others bs q.1))
