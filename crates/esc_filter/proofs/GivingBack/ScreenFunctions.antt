-- The functions that change the screen alone, by the tables of functions.
use Rattle.std.proofs.Common.{◌≡◌, ◌≢◌, ℕ, ◌+◌, ◌-◌, ◌<◌, ◌≤◌, true, false, ◌==◌, ◌||◌, nat_le, List, [], ◌∷◌, length, map, get_or, Option, Some, None, refl, sym, subst, ap, ◌∙◌, arith, inl, inr}
use Rattle.std.specs.List.{list_all, range_with_len}
use Rattle.std.proofs.lemmas.Bool.{and_parts, cases_Bool, leb-true, ne_eqb}
use Rattle.std.proofs.lemmas.List.FromFn.{get_or-map-range_with_len}
use Rattle.esc_values.specs.Params.{is_from}
use Rattle.esc_values.specs.declared.csi_param.CsiParam.{CsiParam}
use Rattle.esc_values.specs.declared.csi_param.CsiParam.TheVariants.{Integer, P}
use Rattle.esc_sequences.specs.Csis.{CsiValue, sgr, unspecified}
use Rattle.esc_sequences.specs.declared.esc.Esc.{Esc}
use Rattle.control_functions.specs.Effects.{changes_screen, is_answered}
use Rattle.control_functions.specs.EscapeEffects.{changes_screen as escape_changes_screen, is_answered as escape_is_answered}
use Rattle.control_functions.specs.Escapes.{escape_of_name as escape_named}
use Rattle.control_functions.specs.Functions.{function_of, is_long, key_with, marks, function_of_csi, rows_of, sequence_key}
use Rattle.control_functions.specs.Rows.{base_256}
use Rattle.control_functions.specs.declared.control_function.ControlFunction.{ControlFunction}
use Rattle.control_functions.specs.declared.control_function.ControlFunction.TheVariants as function
use Rattle.control_functions.specs.declared.escape_function.EscapeFunction.{EscapeFunction}
use Rattle.control_functions.specs.declared.escape_function.EscapeFunction.TheVariants as escape_function
use Rattle.control_functions.proofs.Escapes.{not_both as escape_not_both}
use Rattle.control_functions.proofs.Functions.{not_both}
use Rattle.esc_filter.specs.Rules.{changes_with, escape_changes_with, is_escape_function, is_plain_param, is_screen_body, is_screen_escape, is_screen_function, is_screen_sequence}

-- plain parameters have no mark
pub no_marks : (es : List CsiParam) → list_all is_plain_param es ≡ true → marks es ≡ []
no_marks [] h = refl
no_marks (Integer n ∷ es) h = no_marks es h
no_marks (P b ∷ es) h =
    let parts = and_parts ((b == 0x3b) || (b == 0x3a)) (list_all is_plain_param es) h in
    rw parts.0 (no_marks es parts.1)

not_long : (f n : ℕ) → f ≤ 0x4d → is_long f n ≡ false
not_long f n low =
    rw (
      ne_eqb f 0x54 (λ e. omega (arith, e, low)),
      ne_eqb f 0x73 (λ e. omega (arith, e, low)),
      ne_eqb f 0x75 (λ e. omega (arith, e, low)),
    ) refl

short_key : (n f : ℕ) → is_long f n ≡ false → key_with 1 n f ≡ 256 + f
short_key n f h = rw h refl

plain_key : (es : List CsiParam) (f : ℕ) → f ≤ 0x4d → list_all is_plain_param es ≡ true
    → sequence_key es f ≡ 256 + f
plain_key es f low h =
    ap (λ ms. key_with (base_256 1 ms) (length es) f) (no_marks es h)
    ∙ short_key (length es) f (not_long f (length es) low)

-- each plain function from ICH to DL changes the screen alone
each_moves : (es : List CsiParam)
    → map (λ i. is_screen_function (function_of (0x140 + i)) es) (range_with_len 0 14)
    ≡ map (λ i. true) (range_with_len 0 14)
unfolding function_of rows_of changes_with changes_screen
each_moves es = refl

moves_at : (es : List CsiParam) (i : ℕ) → i < 14
    → is_screen_function (function_of (0x140 + i)) es ≡ true
moves_at es i lt =
    sym (get_or-map-range_with_len (λ j. is_screen_function (function_of (0x140 + j)) es) 0 14 i i
    false lt (omega arith))
    ∙ ap (λ t. get_or t i false) (each_moves es)
    ∙ get_or-map-range_with_len (λ j. true) 0 14 i i false lt (omega arith)

moves : (es : List CsiParam) (f i : ℕ) → f ≡ 0x40 + i → i < 14
    → is_screen_function (function_of (256 + f)) es ≡ true
moves es f i e lt =
    let same : 256 + f ≡ 0x140 + i = omega (arith, e) in
    ap (λ k. is_screen_function (function_of k) es) same ∙ moves_at es i lt

pub plain_moves : (es : List CsiParam) (f : ℕ) → is_from 0x40 0x4d f ≡ true
    → list_all is_plain_param es ≡ true → true ≡ is_screen_body es f
plain_moves es f within h =
    let parts = and_parts (nat_le 0x40 f) (nat_le f 0x4d) within in
    let low = leb-true 0x40 f parts.0 in
    let high = leb-true f 0x4d parts.1 in
    let at : f ≡ 0x40 + (f - 0x40) = omega (arith, low) in
    let less : f - 0x40 < 14 = omega (arith, low, high) in
    sym (ap (λ k. is_screen_function (function_of k) es) (plain_key es f high h)
    ∙ moves es f (f - 0x40) at less)

-- the row of any other function says it
pub other_changes : (f : ControlFunction) (es : List CsiParam) → f ≢ function.SM → f ≢ function.RM
    → f ≢ function.DECSET → f ≢ function.DECRST → f ≢ function.DECSCUSR
    → changes_screen f ≡ changes_with f es
unfolding changes_with
other_changes function.SM es a b c d e = absurd (a refl)
other_changes function.RM es a b c d e = absurd (b refl)
other_changes function.DECSET es a b c d e = absurd (c refl)
other_changes function.DECRST es a b c d e = absurd (d refl)
other_changes function.DECSCUSR es a b c d e = absurd (e refl)
other_changes f es a b c d e = refl

pub other_escape : (f : EscapeFunction) (s : Esc) → f ≢ escape_function.GZD4
    → f ≢ escape_function.G1D4 → f ≢ escape_function.G2D4 → f ≢ escape_function.G3D4
    → escape_changes_screen f ≡ escape_changes_with f s
unfolding escape_changes_with
other_escape escape_function.GZD4 s a b c d = absurd (a refl)
other_escape escape_function.G1D4 s a b c d = absurd (b refl)
other_escape escape_function.G2D4 s a b c d = absurd (c refl)
other_escape escape_function.G3D4 s a b c d = absurd (d refl)
other_escape f s a b c d = refl

-- a terminal gives no answer to a function that changes the screen alone
row_unanswered : (f : ControlFunction) → changes_screen f ≡ true → is_answered f ≡ false
row_unanswered f h =
    elim (cases_Bool (is_answered f)) [
      | inl held ↦ let no = not_both f held in absurd cc
      | inr failed ↦ failed
    ]

unanswered : (f : ControlFunction) (es : List CsiParam) → changes_with f es ≡ true
    → is_answered f ≡ false
unfolding changes_with is_answered
unanswered function.SM es h = refl
unanswered function.RM es h = refl
unanswered function.DECSET es h = refl
unanswered function.DECRST es h = refl
unanswered function.DECSCUSR es h = refl
unanswered f es h = row_unanswered f h

found_unanswered : (o : Option ControlFunction) (es : List CsiParam) (f : ControlFunction)
    → o ≡ Some f → is_screen_function o es ≡ true → is_answered f ≡ false
found_unanswered None es f e h = cc
found_unanswered (Some g) es f e h = let same : g ≡ f = cc in
    subst (λ x. is_answered x ≡ false) same (unanswered g es h)

sgr_unanswered : is_answered function.SGR ≡ false
unfolding is_answered
sgr_unanswered = refl

pub sequence_unanswered : (c : CsiValue) (f : ControlFunction) → function_of_csi c ≡ Some f
    → is_screen_sequence c ≡ true → is_answered f ≡ false
sequence_unanswered (sgr s) f e h = let same : function.SGR ≡ f = cc in
    subst (λ x. is_answered x ≡ false) same sgr_unanswered
sequence_unanswered (unspecified es true last) f e h = cc
sequence_unanswered (unspecified es false last) f e h =
    found_unanswered (function_of (sequence_key es last)) es f e h

row_unanswered_escape : (f : EscapeFunction) → escape_changes_screen f ≡ true
    → escape_is_answered f ≡ false
row_unanswered_escape f h =
    elim (cases_Bool (escape_is_answered f)) [
      | inl held ↦ let no = escape_not_both f held in absurd cc
      | inr failed ↦ failed
    ]

unanswered_escape : (f : EscapeFunction) (s : Esc) → escape_changes_with f s ≡ true
    → escape_is_answered f ≡ false
unfolding escape_changes_with escape_is_answered
unanswered_escape escape_function.GZD4 s h = refl
unanswered_escape escape_function.G1D4 s h = refl
unanswered_escape escape_function.G2D4 s h = refl
unanswered_escape escape_function.G3D4 s h = refl
unanswered_escape f s h = row_unanswered_escape f h

found_unanswered_escape : (o : Option EscapeFunction) (s : Esc) (f : EscapeFunction)
    → o ≡ Some f → is_escape_function o s ≡ true → escape_is_answered f ≡ false
found_unanswered_escape None s f e h = cc
found_unanswered_escape (Some g) s f e h = let same : g ≡ f = cc in
    subst (λ x. escape_is_answered x ≡ false) same (unanswered_escape g s h)

pub escape_unanswered : (s : Esc) (f : EscapeFunction) → escape_named s ≡ Some f
    → is_screen_escape s ≡ true → escape_is_answered f ≡ false
escape_unanswered s f e h = found_unanswered_escape (escape_named s) s f e h
