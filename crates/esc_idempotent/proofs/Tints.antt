-- Renditions and links alone undo the changes that text, renditions and links leave.
use Rattle.std.proofs.Common.{◌≡◌, ℕ, Bool, true, false, not, ◌||◌, ◌==◌, List, [], ◌∷◌, None, refl, sym, ap, ◌∙◌, subst}
use Rattle.std.specs.List.{list_all}
use Rattle.std.proofs.lemmas.Bool.{and_parts, eqb-true, true≢false}
use Rattle.esc_sequences.specs.Csis.{CsiValue, sgr, unspecified}
use Rattle.esc_sequences.specs.declared.sgr.Sgr.TheVariants.{Reset}
use Rattle.esc_osc.specs.declared.command.OperatingSystemCommand.{OperatingSystemCommand}
use Rattle.esc_osc.specs.declared.command.OperatingSystemCommand.TheVariants as command
use Rattle.esc_actions.specs.ControlCodes.{code_number}
use Rattle.esc_actions.specs.Values.{Value, print, string, control, esc, csi, osc, kitty, sixel, termcap, short, enter, datum, exit}
use Rattle.esc_actions.specs.declared.control_code.ControlCode.{ControlCode}
use Rattle.esc_actions.specs.declared.control_code.ControlCode.TheVariants as code
use Rattle.esc_filter.specs.Addresses.{address_in, is_address}
use Rattle.esc_filter.specs.Closing.{after_address, after_body, after_command, after_control, after_sequence, after_value, after_values, closing, given_back, is_reset, keeps_cursor, opens, turned_terminal}
use Rattle.esc_filter.specs.Tokens.{AdmitsAtMost}
use Rattle.esc_filter.specs.Rules.{is_color, is_layout, is_link, is_plain_param, is_rendition, is_text}
use Rattle.esc_filter.specs.Terminal.{as_at_start}
use Rattle.esc_filter.specs.declared.policy.Policy.TheVariants as policy
use Rattle.esc_filter.specs.declared.terminal.Terminal.{Terminal}
use Rattle.esc_filter.proofs.GivingBack.RenditionsAfterSequence.{plain_lit}
use Rattle.esc_idempotent.specs.Again.{AdmitsItsClosing, AdmitsResets}

-- ---- text

layout_stays : (c : ControlCode) (t : Terminal) → is_layout (code_number c) ≡ true
    → after_control c t ≡ t
layout_stays code.ShiftOut t h = absurd (true≢false (sym h))
layout_stays code.ShiftIn t h = absurd (true≢false (sym h))
layout_stays _ t h = refl

text_stays : {A : Type 0} (v : Value A) (t : Terminal) → is_text v ≡ true → after_value v t ≡ t
text_stays (print c) t h = refl
text_stays (string x) t h = refl
text_stays (control c) t h = layout_stays c t h
text_stays (esc e) t h = absurd (true≢false (sym h))
text_stays (csi c) t h = absurd (true≢false (sym h))
text_stays (osc c) t h = absurd (true≢false (sym h))
text_stays (kitty i) t h = refl
text_stays (sixel s) t h = refl
text_stays (termcap ns) t h = refl
text_stays (short s) t h = refl
text_stays (enter e) t h = refl
text_stays (datum b) t h = refl
text_stays exit t h = refl

texts_stay : {A : Type 0} (vs : List (Value A)) (t : Terminal) → list_all is_text vs ≡ true
    → after_values vs t ≡ t
texts_stay [] t h = refl
texts_stay (v ∷ vs) t h =
    let q = and_parts (is_text v) (list_all is_text vs) h in
    ap (after_values vs) (text_stays v t q.0) ∙ texts_stay vs t q.1

-- nothing is given back of it
pub text_closes : {A : Type 0} (f : Value A → Bool) (vs : List (Value A))
    → list_all is_text vs ≡ true → closing f vs ≡ []
text_closes f vs h = ap (given_back (keeps_cursor f)) (texts_stay vs as_at_start h)

-- ---- renditions and links

-- a rendition and a link alone
abbrev tinted : Bool → Bool → Terminal
tinted r l = record as_at_start { rendition = r; link = l }

abbrev linked : Bool → Terminal → Terminal
linked b t = record t { link = b }

module _ {A : Type 0} (f : Value A → Bool) (most : AdmitsAtMost policy.Color f)
    (resets : AdmitsResets f) where
  -- the values that undo them are admitted
  record IsTinted (t : Terminal) : Type 0 where
    rendition : Bool
    link : Bool
    tints : t ≡ tinted rendition link
    reset : rendition ≡ true → f (csi (sgr Reset)) ≡ true
    ended : link ≡ true → f (osc (command.SetHyperlink None)) ≡ true

  turned_tints : (b : Bool) (t : Terminal) → f (csi (sgr Reset)) ≡ true → IsTinted t
      → IsTinted (turned_terminal b t)
  turned_tints b t h k = record {
    rendition = b;
    link = k.link;
    tints = ap (turned_terminal b) k.tints;
    reset = λ _. h;
    ended = k.ended;
  }

  rendition_tints : (c : CsiValue) (t : Terminal) → is_rendition c ≡ true
      → f (csi (sgr Reset)) ≡ true → IsTinted t → IsTinted (after_sequence c t)
  rendition_tints (sgr s) t h g k = turned_tints (not (is_reset s)) t g k
  rendition_tints (unspecified es more b) t h g k =
      let q = and_parts (b == 0x6d) (list_all is_plain_param es) h in
      subst IsTinted
      (sym (ap (λ x. after_body es x t) (eqb-true b 0x6d q.0) ∙ plain_lit es q.1 t))
      (turned_tints true t g k)

  -- by an address in parts, or none
  address_tints : (us : List (List ℕ)) (t : Terminal)
      → f (osc (command.SetHyperlink None)) ≡ true → IsTinted t → IsTinted (after_address us t)
  address_tints [] t g k = k
  address_tints (u ∷ us) t g k = record {
    rendition = k.rendition;
    link = is_address (u ∷ us);
    tints = ap (linked (is_address (u ∷ us))) k.tints;
    reset = k.reset;
    ended = λ _. g;
  }

  link_tints : (c : OperatingSystemCommand A) (t : Terminal) → is_link c ≡ true
      → f (osc (command.SetHyperlink None)) ≡ true → IsTinted t → IsTinted (after_command c t)
  link_tints (command.SetHyperlink l) t h g k = record {
    rendition = k.rendition;
    link = opens l;
    tints = ap (linked (opens l)) k.tints;
    reset = k.reset;
    ended = λ _. g;
  }
  link_tints (command.Unspecified ps) t h g k = address_tints (address_in ps) t g k
  link_tints _ t h g k = absurd (true≢false (sym h))

  color_tints : (v : Value A) (t : Terminal) → is_color v ≡ true → f v ≡ true → IsTinted t
      → IsTinted (after_value v t)
  color_tints (csi c) t h g k = rendition_tints c t h (resets.0 c g) k
  color_tints (osc c) t h g k = link_tints c t h (resets.1 c g) k
  color_tints (esc e) t h g k = absurd (true≢false (sym h))
  color_tints (control c) t h g k = absurd (true≢false (sym h))
  color_tints (print c) t h g k = k
  color_tints (string x) t h g k = k
  color_tints (kitty i) t h g k = k
  color_tints (sixel s) t h g k = k
  color_tints (termcap ns) t h g k = k
  color_tints (short s) t h g k = k
  color_tints (enter e) t h g k = k
  color_tints (datum b) t h g k = k
  color_tints exit t h g k = k

  value_tints : (v : Value A) (t : Terminal) → f v ≡ true → IsTinted t
      → IsTinted (after_value v t)
  value_tints v t h k = by (is_text v) refl (most v h)
    where
      by : (s : Bool) → is_text v ≡ s → (s || is_color v) ≡ true → IsTinted (after_value v t)
      by true g i = subst IsTinted (sym (text_stays v t g)) k
      by false g i = color_tints v t i h k

  values_tint : (vs : List (Value A)) (t : Terminal) → list_all f vs ≡ true → IsTinted t
      → IsTinted (after_values vs t)
  values_tint [] t h k = k
  values_tint (v ∷ vs) t h k =
      let q = and_parts (f v) (list_all f vs) h in
      values_tint vs (after_value v t) q.1 (value_tints v t q.0 k)

  first_tints : IsTinted as_at_start
  first_tints = record {
    rendition = false;
    link = false;
    tints = refl;
    reset = λ h. absurd (true≢false (sym h));
    ended = λ h. absurd (true≢false (sym h));
  }

  back_of : (b r l : Bool) → (r ≡ true → f (csi (sgr Reset)) ≡ true)
      → (l ≡ true → f (osc (command.SetHyperlink None)) ≡ true)
      → list_all f (given_back b (tinted r l)) ≡ true
  back_of b false false g h = refl
  back_of b true false g h = rw (g refl) refl
  back_of b false true g h = rw (h refl) refl
  back_of b true true g h = rw (g refl, h refl) refl

  pub tints_close : AdmitsItsClosing f
  tints_close vs h =
      let k = values_tint vs as_at_start h first_tints in
      ap (λ t. list_all f (given_back (keeps_cursor f) t)) k.tints
      ∙ back_of (keeps_cursor f) k.rendition k.link k.reset k.ended
