-- The parts of a stream are kept and safe.
use Rattle.std.proofs.Common.{ℕ, suc, ◌≡◌, ◌<◌, ◌-◌, ◌==◌, Bool, true, false, not, ◌&&◌, if◌then◌else◌, inl, inr, List, [], ◌∷◌, ◌++◌, length, get_or, Option, Some, None, is_some, chars, refl, ap, sym, subst, ◌∙◌, append_assoc, arith}
use Rattle.std.specs.Char.{encode_utf8}
use Rattle.std.specs.List.{list_all}
use Rattle.std.specs.Str.{IsUtf8, encode_utf8_all}
use Rattle.std.proofs.lemmas.Bool.{and_parts, cases_Bool, true≢false}
use Rattle.std.proofs.lemmas.Bool.Decides.{nat_tests}
use Rattle.std.proofs.lemmas.List.{append-nil}
use Rattle.std.proofs.lemmas.List.Folds.{list_all-append}
use Rattle.std.proofs.lemmas.Str.{encodes-chars, inside_one}
use Rattle.esc_actions.specs.ControlCodes.{code_number}
use Rattle.esc_actions.specs.Values.{Value, print, string, control, esc, csi, osc, kitty, sixel, termcap, short, enter, datum, exit}
use Rattle.esc_actions.specs.Writable.{EmittedAreWritable, IsHandedOut}
use Rattle.esc_links.specs.declared.hyperlink.Hyperlink.{Hyperlink}
use Rattle.esc_osc.specs.declared.command.OperatingSystemCommand.{OperatingSystemCommand}
use Rattle.esc_osc.specs.declared.command.OperatingSystemCommand.TheVariants as command
use Rattle.esc_sequences.specs.declared.esc.Esc.{Esc}
use Rattle.typed_functions.specs.Functions.{Value as Function, of_csi, cursor, edit, device, keyboard, mouse, window, mode_status, charset, escape, modes, tabs, renditions, other}
use Rattle.esc_values.specs.Clear.{is_clear, semicolon_list}
use Rattle.esc_html.specs.Addresses.{address_in, is_address_char, is_safe_address, is_safe_in_parts}
use Rattle.esc_html.specs.Characters.{is_noncharacter, shown_as}
use Rattle.esc_style.specs.Looks.{is_plain}
use Rattle.esc_html.specs.Marks.{Pen, Step, restyles, redirects, shows, nothing, address_if, address_of, begins_line, command_step, control_step, ends_line, escape_begins_line, escape_step, function_step, is_page_address, lead_step, lead_to, print_step, step_of}
use Rattle.esc_html.specs.Pages.{State, after_character, before_character, closing_parts, closing, link_end_if, link_opening, opening, page_parts_by, page_parts_from, span_closing, span_end_unless, span_unless, state_by, state_from}
use Rattle.esc_html.specs.PageParts.{PagePart, text, span, span_end, link, link_end, is_kept, is_unbroken}
use Rattle.esc_style.specs.declared.look.Look.{Look}
use Rattle.esc_html.specs.declared.tags.Tags.{Tags}
use Rattle.esc_html.specs.declared.tags.Tags.TheVariants.{Closed, Link, Open}
use Rattle.esc_html.proofs.Parts.AddressesInParts.{safe_in_parts}

-- ---- characters that are kept

all_by : (T : ℕ → Bool) (x : List ℕ) → ((k : ℕ) → k < length x → T (get_or x k 0) ≡ true)
    → list_all T x ≡ true
all_by T [] h = refl
all_by T (b ∷ x) h =
    rw (h 0 (omega arith), all_by T x (λ k l. h (suc k) (omega (arith, l)))) refl

-- a test that bytes fail only which are characters by themselves
pub char_passes : (T : ℕ → Bool) → ((b : ℕ) → T b ≡ false → b < 128) → (c : ℕ) → T c ≡ true
    → list_all T (encode_utf8 c) ≡ true
char_passes T low c h = all_by T (encode_utf8 c) (λ k l.
    let b = get_or (encode_utf8 c) k 0 in
    elim (cases_Bool (T b)) [
      | inl passes ↦ passes
      | inr fails ↦
          let same = inside_one c [] (encode_utf8 c) k (sym (append-nil (encode_utf8 c))) l
          (low b fails) in
          absurd (true≢false (sym h ∙ ap T same ∙ fails))
    ])

low_byte : (b : ℕ) → is_kept b ≡ false → b < 128
low_byte b h = grind (arith, nat_tests)

low_unbroken : (b : ℕ) → is_unbroken b ≡ false → b < 128
low_unbroken b h = grind (arith, nat_tests)

kept_char : (c : ℕ) → is_kept c ≡ true → list_all is_kept (encode_utf8 c) ≡ true
kept_char c h = char_passes is_kept low_byte c h

clear_kept : (c : ℕ) → is_clear c ≡ true → is_kept c ≡ true
clear_kept c h = grind (arith, nat_tests)

address_unbroken : (c : ℕ) → is_address_char c ≡ true → is_unbroken c ≡ true
address_unbroken c h = grind (arith, nat_tests)

chars_unbroken : (cs : List ℕ) → list_all is_address_char cs ≡ true
    → list_all is_unbroken (encode_utf8_all cs) ≡ true
chars_unbroken [] h = refl
chars_unbroken (c ∷ cs) h =
    let q = and_parts (is_address_char c) (list_all is_address_char cs) h in
    rw (
      list_all-append is_unbroken (encode_utf8 c) (encode_utf8_all cs),
      char_passes is_unbroken low_unbroken c (address_unbroken c q.0),
      chars_unbroken cs q.1,
    ) refl

-- a safe address that is UTF-8 is kept
pub page_address : (a : List ℕ) → IsUtf8 a → is_safe_address a ≡ is_page_address a
page_address a u =
    elim (cases_Bool (is_safe_address a)) [
      | inl safe ↦ let q = (and_parts _ (list_all is_address_char (chars a)) safe).1 in
          let kept = subst (λ x. list_all is_unbroken x ≡ true) (encodes-chars a u)
          (chars_unbroken (chars a) q) in
          safe ∙ sym (ap (λ b. b && list_all is_unbroken a) safe ∙ kept)
      | inr unsafe ↦ unsafe ∙ sym (ap (λ b. b && list_all is_unbroken a) unsafe)
    ]

pub unbroken_kept : (a : List ℕ) → list_all is_unbroken a ≡ true → list_all is_kept a ≡ true
unbroken_kept [] h = refl
unbroken_kept (c ∷ a) h =
    let q = and_parts (is_unbroken c) (list_all is_unbroken a) h in
    rw ((and_parts (is_kept c) (not (c == 0x0a)) q.0).0, unbroken_kept a q.1) refl

-- ---- steps

abbrev pub IsGoodLink : Option (List ℕ) → Type 0
IsGoodLink None = Unit {0}
IsGoodLink (Some a) = is_page_address a ≡ true

abbrev pub IsGoodStep : Step → Type 0
IsGoodStep (restyles l) = Unit {0}
IsGoodStep (redirects k) = IsGoodLink k
IsGoodStep (shows c) = list_all is_kept (encode_utf8 c) ≡ true
IsGoodStep nothing = Unit {0}

shown_kept : (c : ℕ) → is_kept c ≡ true → is_kept (shown_as c) ≡ true
shown_kept c h = by (is_noncharacter c)
  where
    by : (b : Bool) → is_kept (if b then 0xfffd else c) ≡ true
    by true = refl
    by false = h

good_print : (c : ℕ) → is_clear c ≡ true → IsGoodStep (print_step c)
good_print c h = by (c == 0x7f)
  where
    by : (b : Bool) → IsGoodStep (if b then nothing else shows (shown_as c))
    by true = tt
    by false = kept_char (shown_as c) (shown_kept c (clear_kept c h))

good_control : (n : ℕ) → IsGoodStep (control_step n)
good_control n = by (n == 0x09) (begins_line n) refl
  where
    by : (b x : Bool) → (n == 0x09) ≡ b
        → IsGoodStep (if b then shows n else if x then shows 0x0a else nothing)
    by true x e = kept_char n (grind (arith, nat_tests))
    by false true e = kept_char 0x0a refl
    by false false e = tt

good_escape : (e : Esc) → IsGoodStep (escape_step e)
good_escape e = by (escape_begins_line e)
  where
    by : (b : Bool) → IsGoodStep (if b then shows 0x0a else nothing)
    by true = kept_char 0x0a refl
    by false = tt

pub good_function : (p : Pen) (f : Function) → IsGoodStep (function_step p f)
good_function p (cursor c) = tt
good_function p (edit e) = tt
good_function p (device d) = tt
good_function p (keyboard k) = tt
good_function p (mouse m) = tt
good_function p (window w) = tt
good_function p (mode_status s) = tt
good_function p (charset c) = tt
good_function p (escape e) = tt
good_function p (modes c ms) = tt
good_function p (tabs c ns) = tt
good_function p (renditions rs) = tt
good_function p (other u) = tt

good_address : (b : Bool) (a : List ℕ) → is_page_address a ≡ b → IsGoodLink (address_if b a)
good_address true a e = e
good_address false a e = tt

good_link : {A : Type 0} (h : Option (Hyperlink A)) → IsGoodLink (address_of h)
good_link None = tt
good_link (Some h) = good_address (is_page_address h.uri) h.uri refl

-- an address in parts
pub page_in_parts : (us : List (List ℕ)) → is_safe_in_parts us ≡ true
    → is_page_address (semicolon_list us) ≡ true
page_in_parts us h =
    let q = safe_in_parts us h in sym (page_address (semicolon_list us) q.1) ∙ q.0

good_parts : (us : List (List ℕ)) → IsGoodStep (lead_step (lead_to us))
good_parts [] = tt
good_parts (u ∷ us) = by (is_safe_in_parts (u ∷ us)) refl
  where
    by : (b : Bool) → is_safe_in_parts (u ∷ us) ≡ b
        → IsGoodLink (address_if b (semicolon_list (u ∷ us)))
    by true h = page_in_parts (u ∷ us) h
    by false h = tt

pub good_command : {A : Type 0} (p : Pen) (c : OperatingSystemCommand A)
    → IsGoodStep (command_step p c)
good_command p (command.SetHyperlink l) = good_link l
good_command p (command.SetIconNameAndWindowTitle t) = tt
good_command p (command.SetWindowTitle t) = tt
good_command p (command.SetWindowTitleSun t) = tt
good_command p (command.SetIconName t) = tt
good_command p (command.SetIconNameSun t) = tt
good_command p (command.ClearSelection s) = tt
good_command p (command.QuerySelection s) = tt
good_command p (command.SetSelection s t) = tt
good_command p (command.SystemNotification t) = tt
good_command p (command.ITermProprietary i) = tt
good_command p (command.FinalTermSemanticPrompt q) = tt
good_command p (command.ChangeColorNumber cs) = tt
good_command p (command.ChangeDynamicColors n cs) = tt
good_command p (command.ResetDynamicColor n) = tt
good_command p (command.CurrentWorkingDirectory t) = tt
good_command p (command.ResetColors cs) = tt
good_command p (command.RxvtExtension ts) = tt
good_command p (command.ConEmuProgress q) = tt
good_command p (command.Unspecified ps) = good_parts (address_in ps)

good_step : {A : Type 0} (p : Pen) (v : Value A) → IsHandedOut v → IsGoodStep (step_of p v)
good_step p (print c) k = good_print c (k refl)
good_step p (string t) k = tt
good_step p (control c) k = good_control (code_number c)
good_step p (esc e) k = good_escape e
good_step p (csi c) k = good_function p (of_csi c)
good_step p (osc c) k = good_command p c
good_step p (kitty i) k = tt
good_step p (sixel s) k = tt
good_step p (termcap ns) k = tt
good_step p (short s) k = tt
good_step p (enter e) k = tt
good_step p (datum b) k = tt
good_step p exit k = tt

pub good_next : (e : Bool) (g : State) → IsGoodLink g.pen.link
    → IsGoodLink (after_character e g).pen.link
good_next true g h = by (g.pen.lines == 0)
  where
    by : (b : Bool) → IsGoodLink (if b then record g.pen { link = None }
        else record g.pen { lines = g.pen.lines - 1 }).link
    by true = tt
    by false = h
good_next false g h = h

pub good_state : (pl : Bool) (g : State) (s : Step) → IsGoodLink g.pen.link → IsGoodStep s
    → IsGoodLink (state_by pl g s).pen.link
good_state pl g (restyles l) h k = h
good_state pl g (redirects q) h k = k
good_state pl g (shows c) h k = good_next (ends_line pl c) g h
good_state pl g nothing h k = h

-- ---- a test that such parts pass

module _ (T : PagePart → Bool) (on_span : (i : Bool) (l : Look) → T (span i l) ≡ true)
    (on_span_end : T span_end ≡ true) (on_link_end : T link_end ≡ true)
    (on_text : (t : List ℕ) → list_all is_kept t ≡ true → T (text t) ≡ true)
    (on_link : (a : List ℕ) → is_page_address a ≡ true → T (link a) ≡ true) where
  opening_passes : (i b : Bool) (k : Option (List ℕ)) (l : Look) → IsGoodLink k
      → list_all T (link_opening k ++ span_unless i b l) ≡ true
  opening_passes i true None l h = refl
  opening_passes i false None l h = rw (on_span i l) refl
  opening_passes i true (Some a) l h = rw (on_link a h) refl
  opening_passes i false (Some a) l h = rw (on_link a h, on_span i l) refl

  closing_passes : (b k : Bool) → list_all T (span_end_unless b ++ link_end_if k) ≡ true
  closing_passes true true = rw on_link_end refl
  closing_passes true false = refl
  closing_passes false true = rw (on_span_end, on_link_end) refl
  closing_passes false false = rw on_span_end refl

  span_passes : (i b : Bool) (l : Look) → list_all T (span_unless i b l) ≡ true
  span_passes i true l = refl
  span_passes i false l = rw (on_span i l) refl

  span_end_passes : (b : Bool) → list_all T (span_end_unless b) ≡ true
  span_end_passes true = refl
  span_end_passes false = rw on_span_end refl

  link_end_passes : (b : Bool) → list_all T (link_end_if b) ≡ true
  link_end_passes true = rw on_link_end refl
  link_end_passes false = refl

  opened_passes : (t : Tags) (p : Pen) → IsGoodLink p.link → list_all T (opening t p) ≡ true
  opened_passes Closed p h = opening_passes p.inline (is_plain p.look) p.link p.look h
  opened_passes Link p h = span_passes p.inline (is_plain p.look) p.look
  opened_passes Open p h = refl

  closed_passes : (t : Tags) (p : Pen) → list_all T (closing t p) ≡ true
  closed_passes Closed p = refl
  closed_passes Link p = link_end_passes (is_some p.link)
  closed_passes Open p = closing_passes (is_plain p.look) (is_some p.link)

  restyled_passes : (t : Tags) (p : Pen) → list_all T (span_closing t p) ≡ true
  restyled_passes Closed p = refl
  restyled_passes Link p = refl
  restyled_passes Open p = span_end_passes (is_plain p.look)

  before_passes : (e : Bool) (g : State) → IsGoodLink g.pen.link
      → list_all T (before_character e g) ≡ true
  before_passes true g h = closed_passes g.tags g.pen
  before_passes false g h = opened_passes g.tags g.pen h

  step_passes : (pl : Bool) (g : State) (s : Step) → IsGoodLink g.pen.link → IsGoodStep s
      → list_all T (page_parts_by pl g s) ≡ true
  step_passes pl g (restyles l) h k = restyled_passes g.tags g.pen
  step_passes pl g (redirects q) h k = closed_passes g.tags g.pen
  step_passes pl g (shows c) h k =
      list_all-append T (before_character (ends_line pl c) g) (text (encode_utf8 c) ∷ [])
      ∙ ap (λ b. b && (T (text (encode_utf8 c)) && true)) (before_passes (ends_line pl c) g h)
      ∙ ap (λ b. b && true) (on_text (encode_utf8 c) k)
  step_passes pl g nothing h k = refl

  pub page_passes : {A : Type 0} (pl : Bool) (g : State) (vs : List (Value A))
      → IsGoodLink g.pen.link → EmittedAreWritable vs
      → list_all T (page_parts_from pl g vs ++ closing_parts (state_from pl g vs)) ≡ true
  page_passes pl g [] h k = closed_passes g.tags g.pen
  page_passes pl g (v ∷ vs) h (k, ks) =
      let s = step_of g.pen v in
      let good = good_step g.pen v k in
      let rest = page_parts_from pl (state_by pl g s) vs in
      let last = closing_parts (state_from pl (state_by pl g s) vs) in
      ap (list_all T) (append_assoc (page_parts_by pl g s) rest last)
      ∙ list_all-append T (page_parts_by pl g s) (rest ++ last)
      ∙ ap (λ b. b && list_all T (rest ++ last)) (step_passes pl g s h good)
      ∙ page_passes pl (state_by pl g s) vs (good_state pl g s h good) ks
