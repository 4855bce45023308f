-- The meaning of the text of a part, and its effect on a terminal.
use Rattle.std.proofs.Common.{ℕ, suc, ◌≡◌, ◌+◌, ◌-◌, ◌<◌, ◌^◌, ◌==◌, true, false, if◌then◌else◌, List, [], ◌∷◌, ◌++◌, map, Some, refl, ap, sym, ◌∙◌, append_assoc, append-nil, arith, le-leb}
use Rattle.std.specs.Prelude.{pos}
use Rattle.std.specs.Fmt.{decimal}
use Rattle.std.specs.List.{list_all, prefix_len}
use Rattle.std.proofs.lemmas.Bool.{and_parts, ne_eqb}
use Rattle.std.proofs.lemmas.Bool.Decides.{nat_tests}
use Rattle.std.proofs.lemmas.List.Folds.{list_all-append}
use Rattle.control_functions.specs.declared.control_function.ControlFunction.TheVariants as control
use Rattle.control_functions.specs.Functions.{function_of, rows_of, sequence_key}
use Rattle.esc_values.specs.Clear.{is_clear}
use Rattle.esc_values.specs.Params.{after_private_prefix, capped_at_i64, csi_params, drop_while, is_body_byte, is_csi_body, is_csi_parameter, is_digit, is_intermediate_byte, is_private_prefix}
use Rattle.esc_values.specs.declared.csi_param.CsiParam.{CsiParam}
use Rattle.esc_values.specs.declared.csi_param.CsiParam.TheVariants.{Integer, P}
use Rattle.esc_frame.specs.Classes.{class_of, ends_csi}
use Rattle.esc_sequences.specs.Csis.{unspecified}
use Rattle.esc_sequences.proofs.ParamsText.{number_all, number_is}
use Rattle.esc_actions.specs.Values.{Value, csi, print}
use Rattle.typed_functions.specs.Counts.{at_place, one_based_of}
use Rattle.typed_functions.specs.Functions.{cursor, device, edit, of_csi, of_named}
use Rattle.typed_functions.specs.declared.cursor.Cursor.TheVariants as cursors
use Rattle.typed_functions.specs.declared.device.Device.TheVariants as devices
use Rattle.typed_functions.specs.declared.edit.Edit.TheVariants as edits
use Rattle.typed_functions.specs.declared.erase_in_display.EraseInDisplay.TheVariants as display
use Rattle.typed_functions.specs.declared.erase_in_line.EraseInLine.TheVariants as line
use Rattle.typed_functions.proofs.Keys as keys
use Rattle.esc_style.specs.declared.look.Look.{Look}
use Rattle.esc_screen.specs.Grids.{Size}
use Rattle.esc_screen.specs.Steps.{grid_by, grid_from}
use Rattle.esc_screen.specs.declared.motion.Motion.TheVariants as motion
use Rattle.esc_screen.specs.declared.step.Step.TheVariants as step
use Rattle.esc_terminal.specs.Steps.{function_known, function_steps, place as place_count}
use Rattle.esc_terminal.specs.Streams.{Shown, shown_after, shown_by}
use Rattle.esc_paint.specs.Parts.{Part, character, erase_all, erase_right, look, part_step, part_text, parts_text, place, soft_reset}
use Rattle.esc_paint.proofs.Texts.{AreRead, IsRead, Reading, all_texts, all_values, csi_read, print_read, reading}

-- ---- bodies of numbers

digit_parameter : (b : ℕ) → is_digit b ≡ true → is_csi_parameter b ≡ true
digit_parameter b h = grind (arith, nat_tests)

parameter_body : (b : ℕ) → is_csi_parameter b ≡ true → is_body_byte b ≡ true
parameter_body b h = grind (arith, nat_tests)

pub all_body : (x : List ℕ) → list_all is_csi_parameter x ≡ true → list_all is_body_byte x ≡ true
all_body [] h = refl
all_body (b ∷ x) h = let q = and_parts (is_csi_parameter b) (list_all is_csi_parameter x) h in
    rw (parameter_body b q.0, all_body x q.1) refl

not_prefix : (b : ℕ) → is_csi_parameter b ≡ true → is_private_prefix b ≡ false
not_prefix b h = grind (arith, nat_tests)

no_prefix : (x : List ℕ) → list_all is_csi_parameter x ≡ true → after_private_prefix x ≡ x
no_prefix [] h = refl
no_prefix (b ∷ x) h =
    let q = and_parts (is_csi_parameter b) (list_all is_csi_parameter x) h in
    ap (λ t. if t then x else b ∷ x) (not_prefix b q.0)

none_left : (x : List ℕ) → list_all is_csi_parameter x ≡ true → drop_while is_csi_parameter x ≡ []
none_left [] h = refl
none_left (b ∷ x) h =
    let q = and_parts (is_csi_parameter b) (list_all is_csi_parameter x) h in
    let k = prefix_len is_csi_parameter x in
    let one : 1 + k ≡ suc k = omega arith in
    rw (q.0, one) (none_left x q.1)

-- parameter bytes alone are a body
pub is_body : (x : List ℕ) → list_all is_csi_parameter x ≡ true → is_csi_body x ≡ true
unfolding is_csi_body
is_body x h =
    ap (λ z. list_all is_intermediate_byte (drop_while is_csi_parameter z)) (no_prefix x h)
    ∙ ap (list_all is_intermediate_byte) (none_left x h)

-- ---- CUP

abbrev place_body : ℕ → ℕ → List ℕ
place_body r n = decimal (r + 1) ++ 0x3b ∷ decimal (n + 1)

abbrev place_params : ℕ → ℕ → List CsiParam
place_params r n = Integer (pos (r + 1)) ∷ P 0x3b ∷ Integer (pos (n + 1)) ∷ []

held : (n : ℕ) → n < 2 ^ 32 → capped_at_i64 n ≡ n
held n h = omega arith

one_number : (n : ℕ) → n < 2 ^ 32 → csi_params (decimal n) ≡ Integer (pos n) ∷ []
one_number n h =
    ap csi_params (sym (append-nil (decimal n)) ∙ ap (λ k. decimal k ++ []) (sym (held n h)))
    ∙ number_is n [] refl ∙ ap (λ k. Integer (pos k) ∷ []) (held n h)

number_then : (n : ℕ) (x : List ℕ) → n < 2 ^ 32
    → csi_params (decimal n ++ 0x3b ∷ x) ≡ Integer (pos n) ∷ P 0x3b ∷ csi_params x
number_then n x h =
    ap (λ k. csi_params (decimal k ++ 0x3b ∷ x)) (sym (held n h)) ∙ number_is n (0x3b ∷ x) refl
    ∙ ap (λ k. Integer (pos k) ∷ P 0x3b ∷ csi_params x) (held n h)

params_are : (r n : ℕ) → r < 65536 → n < 65536
    → csi_params (place_body r n) ≡ place_params r n
params_are r n below before =
    number_then (r + 1) (decimal (n + 1)) (omega (arith, below))
    ∙ ap (λ z. Integer (pos (r + 1)) ∷ P 0x3b ∷ z) (one_number (n + 1) (omega (arith, before)))

place_bytes : (r n : ℕ) → r < 65536 → n < 65536
    → list_all is_csi_parameter (place_body r n) ≡ true
place_bytes r n below before =
    let row = number_all is_csi_parameter digit_parameter (r + 1) (omega (arith, below)) in
    let column = number_all is_csi_parameter digit_parameter (n + 1) (omega (arith, before)) in
    let both = list_all-append is_csi_parameter (decimal (r + 1)) (0x3b ∷ decimal (n + 1)) in
    rw (both, row, column) refl

ordinal : (r : ℕ) → r < 65536 → one_based_of (Some (r + 1)) ≡ Some (at_place r)
ordinal r h =
    let z : (r + 1 == 0) ≡ false = ne_eqb _ _ (omega arith) in
    let e : r + 1 - 1 ≡ r = omega arith in
    rw (z, e, le-leb r 0xffff_ffff (omega (arith, h))) refl

place_function : (r n : ℕ) → r < 65536 → n < 65536
    → of_csi (unspecified (place_params r n) false 0x48)
    ≡ cursor (cursors.Position (at_place r) (at_place n))
place_function r n below before =
    ap (λ o. of_named o (place_params r n)) keys.CUP
    ∙ rw (ordinal r below, ordinal n before) refl

ends_place : ends_csi (class_of 0x48) ≡ true
unfolding class_of
ends_place = refl

ends_reset : ends_csi (class_of 0x70) ≡ true
unfolding class_of
ends_reset = refl

ends_all : ends_csi (class_of 0x4a) ≡ true
unfolding class_of
ends_all = refl

ends_right : ends_csi (class_of 0x4b) ≡ true
unfolding class_of
ends_right = refl

pub place_read : {A : Type 0} (r n : ℕ) → r < 65536 → n < 65536
    → IsRead {A = A} (part_text (place r n)) (csi (unspecified (place_params r n) false 0x48) ∷ [])
place_read {A} r n below before =
    let bytes = place_bytes r n below before in
    let x = place_body r n in
    let a = decimal (r + 1) in
    let b = 0x3b ∷ decimal (n + 1) in
    let k = csi_read {A = A} x 0x48 (place_params r n) (all_body x bytes) (is_body x bytes)
    (params_are r n below before) (omega arith) ends_place in
    record {
      segment = k.segment;
      bytes = k.bytes
          ∙ ap (λ z. 0x1b ∷ 0x5b ∷ z) (append_assoc a b (0x48 ∷ []));
      shape = k.shape;
      values = k.values;
    }

-- ---- the others

soft_reset_is : function_of (sequence_key (P 0x21 ∷ []) 0x70) ≡ Some control.DECSTR
unfolding function_of rows_of
soft_reset_is = refl

reset_function : of_csi (unspecified (P 0x21 ∷ []) false 0x70) ≡ device devices.SoftReset
reset_function = ap (λ o. of_named o (P 0x21 ∷ [])) soft_reset_is

all_function : of_csi (unspecified (Integer (pos 2) ∷ []) false 0x4a)
    ≡ edit (edits.EraseInDisplay display.EraseDisplay)
all_function = ap (λ o. of_named o (Integer (pos 2) ∷ [])) keys.ED

right_function : of_csi (unspecified [] false 0x4b)
    ≡ edit (edits.EraseInLine line.EraseToEndOfLine)
right_function = ap (λ o. of_named o []) keys.EL

mark_is_body : is_csi_body (0x21 ∷ []) ≡ true
unfolding is_csi_body
mark_is_body = refl

-- ---- parts that make no look

-- a part whose text is read as this part
abbrev pub Fits : Part → Type 0
Fits soft_reset = Unit {0}
Fits erase_all = Unit {0}
Fits erase_right = Unit {0}
Fits (place r n) = (r < 65536) × (n < 65536)
Fits (character c) = is_clear c ≡ true
Fits (look l) = ⊥

abbrev pub AllFit : List Part → Type 0
AllFit [] = Unit {0}
AllFit (p ∷ ps) = Fits p × AllFit ps

abbrev pub part_values : {A : Type 0} → Part → List (Value A)
part_values soft_reset = csi (unspecified (P 0x21 ∷ []) false 0x70) ∷ []
part_values erase_all = csi (unspecified (Integer (pos 2) ∷ []) false 0x4a) ∷ []
part_values erase_right = csi (unspecified [] false 0x4b) ∷ []
part_values (place r n) = csi (unspecified (place_params r n) false 0x48) ∷ []
part_values (character c) = print c ∷ []
part_values (look l) = []

pub part_read : {A : Type 0} (p : Part) → Fits p → IsRead {A = A} (part_text p) (part_values p)
part_read soft_reset h =
    csi_read (0x21 ∷ []) 0x70 (P 0x21 ∷ []) refl mark_is_body refl (omega arith) ends_reset
part_read erase_all h = csi_read (0x32 ∷ []) 0x4a (Integer (pos 2) ∷ []) refl
    (is_body (0x32 ∷ []) refl) refl (omega arith) ends_all
part_read erase_right h = csi_read [] 0x4b [] refl (is_body [] refl) refl (omega arith) ends_right
part_read (place r n) h = place_read r n h.0 h.1
part_read (character c) h = print_read c h
part_read (look l) h = absurd h

-- if the steps of a function are one, and it says nothing of looks
one_shown : (A : Type 0) (z : Size) (t : Shown) (p : Part) (number : Look → ℕ) → Fits p
    → shown_after {A = A} z t (part_values p)
    ≡ record t { grid = grid_by z t.grid (part_step number p) }
one_shown A z t soft_reset number h =
    ap (λ f. record t {
      grid = grid_from z t.grid (function_steps t.known t.grid.cursor f ++ step.Nothing ∷ []);
      known = function_known t.known t.grid.cursor f;
    }) reset_function
one_shown A z t erase_all number h =
    ap (λ f. record t {
      grid = grid_from z t.grid (function_steps t.known t.grid.cursor f ++ step.Nothing ∷ []);
      known = function_known t.known t.grid.cursor f;
    }) all_function
one_shown A z t erase_right number h =
    ap (λ f. record t {
      grid = grid_from z t.grid (function_steps t.known t.grid.cursor f ++ step.Nothing ∷ []);
      known = function_known t.known t.grid.cursor f;
    }) right_function
one_shown A z t (place r n) number h =
    let row : place_count (at_place r) ≡ r = omega (arith, h.0) in
    let column : place_count (at_place n) ≡ n = omega (arith, h.1) in
    ap (λ f. record t {
      grid = grid_from z t.grid (function_steps t.known t.grid.cursor f ++ step.Nothing ∷ []);
      known = function_known t.known t.grid.cursor f;
    }) (place_function r n h.0 h.1)
    ∙ ap (λ k. record t {
      grid = grid_by z t.grid (step.Move (motion.Position k (place_count (at_place n))));
    }) row
    ∙ ap (λ k. record t { grid = grid_by z t.grid (step.Move (motion.Position r k)) }) column
one_shown A z t (character c) number h = refl
one_shown A z t (look l) number h = absurd h

-- ---- parts, one after another

abbrev pub readings : {A : Type 0} → List Part → List (Reading A)
readings [] = []
readings (p ∷ ps) = reading (part_text p) (part_values p) ∷ readings ps

pub all_read : (A : Type 0) (ps : List Part) → AllFit ps → AreRead (readings {A = A} ps)
all_read A [] h = tt
all_read A (p ∷ ps) h = (part_read p h.0, all_read A ps h.1)

pub text_is : (A : Type 0) (ps : List Part) → all_texts (readings {A = A} ps) ≡ parts_text ps
text_is A [] = refl
text_is A (p ∷ ps) = ap (λ z. part_text p ++ z) (text_is A ps)

shown_two : {A : Type 0} (z : Size) (t : Shown) (us vs : List (Value A))
    → shown_after z t (us ++ vs) ≡ shown_after z (shown_after z t us) vs
shown_two z t [] vs = refl
shown_two z t (u ∷ us) vs = shown_two z (shown_by z t u) us vs

pub all_shown : (A : Type 0) (z : Size) (t : Shown) (ps : List Part) (number : Look → ℕ)
    → AllFit ps → shown_after {A = A} z t (all_values (readings ps))
    ≡ record t { grid = grid_from z t.grid (map (part_step number) ps) }
all_shown A z t [] number h = refl
all_shown A z t (p ∷ ps) number h =
    let t2 = record t { grid = grid_by z t.grid (part_step number p) } in
    shown_two {A = A} z t (part_values p) (all_values (readings ps))
    ∙ ap (λ k. shown_after {A = A} z k (all_values (readings ps))) (one_shown A z t p number h.0)
    ∙ all_shown A z t2 ps number h.1
