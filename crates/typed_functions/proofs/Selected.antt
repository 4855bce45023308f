-- The renditions that a sequence asks for have colours whose numbers are bytes.
use Rattle.std.proofs.Common.{ℕ, ◌≡◌, ◌<◌, ◌==◌, nat_le, nat_lt, pos, negsuc, Bool, true, false, List, [], ◌∷◌, map, Option, None, Some, IfSome, if◌then◌else◌, Result, Ok, Err, refl, ap, sym, subst, ◌∙◌, arith}
use Rattle.std.specs.Option.{option_map}
use Rattle.std.proofs.lemmas.Bool.{leb-true, true≢false}
use Rattle.esc_values.specs.Params.{is_from}
use Rattle.esc_values.specs.Scalars.{and_then}
use Rattle.esc_values.specs.declared.csi_param.CsiParam.{CsiParam}
use Rattle.esc_values.specs.declared.csi_param.CsiParam.TheVariants.{Integer, P}
use Rattle.esc_sequences.specs.Csis.{CsiValue, sgr, unspecified}
use Rattle.esc_sequences.specs.declared.esc.Esc.{Esc}
use Rattle.esc_sequences.specs.declared.esc.Esc.TheVariants as escapes
use Rattle.esc_sequences.specs.declared.esc_code.EscCode.TheVariants as codes
use Rattle.esc_sequences.specs.declared.underline.Underline.{Underline as UnderlineKind}
use Rattle.control_functions.specs.Functions.{function_of, place, sequence_key}
use Rattle.control_functions.specs.declared.control_function.ControlFunction.{ControlFunction}
use Rattle.control_functions.specs.declared.control_function.ControlFunction.TheVariants as control
use Rattle.control_functions.specs.declared.escape_function.EscapeFunction.{EscapeFunction}
use Rattle.control_functions.proofs.Functions.{sheet}
use Rattle.control_functions.proofs.Tables.{of_each}
use Rattle.typed_functions.specs.Arguments.{after_prefix}
use Rattle.typed_functions.specs.Choices.{cursor_style_at, cursor_tabulation_control_at, erase_in_display_at, erase_in_line_at, kitty_flags_change_at, tabulation_clear_at}
use Rattle.typed_functions.specs.Escapes.{charset_by_final, escape_of, escape_value, of_escape, of_function as of_escape_function, set_of}
use Rattle.typed_functions.specs.Functions.{Value, bare, charset, chosen_value, count_value, cursor, device, edit, escape, flags_value, keyboard, kind_of, known_entries, list_value, made_of, margins_value, mode_status, mode_value, modes, mouse, of_csi, of_kept, of_kind, of_named, of_params, of_whole, other, place_value, renditions, report_value, selector_value, several, state_of, stated_value, tabs, value_with, window, window_value}
use Rattle.typed_functions.specs.Numbers.{bright_color, color_rendition, decoration, number_rendition, switched_off, switched_on}
use Rattle.typed_functions.specs.Renditions.{IsColor, IsRendition, after_field, at_end, bare_direct, byte_after, byte_of, color_of, color_with, direct, direct_in_space, indexed_color, is_byte, is_target, on_target, or_else, rendition_of, three, underline_kind, with_more}
use Rattle.typed_functions.specs.Selected.{AreSelected, IsSelected, Selection}
use Rattle.typed_functions.specs.Selections.{cut_entries, selection_of, selections, whole_entries}
use Rattle.typed_functions.specs.Windows.{operation}
use Rattle.typed_functions.specs.declared.arguments.Arguments.{Arguments}
use Rattle.typed_functions.specs.declared.arguments.Arguments.TheVariants as args
use Rattle.typed_functions.specs.declared.arguments.Kind.{Kind}
use Rattle.typed_functions.specs.declared.arguments.Kind.TheVariants as kind
use Rattle.typed_functions.specs.declared.charset.Charset.{Charset}
use Rattle.typed_functions.specs.declared.color_spec.ColorSpec.{ColorSpec}
use Rattle.typed_functions.specs.declared.color_spec.ColorSpec.TheVariants as spec
use Rattle.typed_functions.specs.declared.escape.Escape.{Escape}
use Rattle.typed_functions.specs.declared.mode_state.ModeState.{ModeState}
use Rattle.typed_functions.specs.declared.mode_status.ModeStatus.{ModeStatus}
use Rattle.typed_functions.specs.declared.rendition.Rendition.{Rendition}
use Rattle.typed_functions.specs.declared.rendition.Rendition.TheVariants as rendition
use Rattle.typed_functions.specs.declared.unfit.Unfit.{Unfit}
use Rattle.typed_functions.specs.declared.unfit.Unfit.TheVariants as unfit
use Rattle.typed_functions.specs.declared.window.Window.{Window}

-- ---- values that may be there

then_all : {X Y : Type 0} (C : X → Type 0) (D : Y → Type 0) (o : Option X) (f : X → Option Y)
    → IfSome o C → ((x : X) → C x → IfSome (f x) D) → IfSome (and_then o f) D
then_all C D None f h k = tt
then_all C D (Some x) f h k = k x h

else_all : {X : Type 0} (C : X → Type 0) (o p : Option X) → IfSome o C → IfSome p C
    → IfSome (or_else o p) C
else_all C None p h k = k
else_all C (Some x) p h k = h

if_all : {X : Type 0} (C : X → Type 0) (b : Bool) (o p : Option X) → IfSome o C → IfSome p C
    → IfSome (if b then o else p) C
if_all C true o p h k = h
if_all C false o p h k = k

end_all : {X : Type 0} (C : X → Type 0) (es : List CsiParam) (x : X) → C x
    → IfSome (at_end es x) C
end_all C [] x h = h
end_all C (e ∷ es) x h = tt

-- ---- the colour of a rendition

abbrev IsByte : ℕ → Type 0
IsByte n = n < 256

-- the number before the rest
abbrev IsFirst : ℕ × List CsiParam → Type 0
IsFirst r = r.0 < 256

byte_small : (e : CsiParam) → IfSome (byte_of e) IsByte
byte_small (Integer (pos n)) = by (nat_le n 255) refl
  where
    by : (b : Bool) → nat_le n 255 ≡ b → IfSome (if b then Some n else None) IsByte
    by true h =
        let less = leb-true n 255 h in
        omega (arith, less)
    by false h = tt
byte_small (Integer (negsuc n)) = tt
byte_small (P b) = tt

first_of : (o : Option ℕ) (es : List CsiParam) → IfSome o IsByte
    → IfSome (option_map (λ n. (n, es)) o) IsFirst
first_of None es h = tt
first_of (Some n) es h = h

after_small : (s : ℕ) (es : List CsiParam) → IfSome (byte_after s es) IsFirst
after_small s [] = tt
after_small s (m ∷ []) = tt
after_small s (m ∷ e ∷ es) =
    if_all IsFirst (is_byte s m) _ None (first_of (byte_of e) es (byte_small e)) tt

abbrev IsTriple : (ℕ × ℕ × ℕ) × List CsiParam → Type 0
IsTriple c = (c.0.0 < 256) × (c.0.1 < 256) × (c.0.2 < 256)

three_small : (s : ℕ) (es : List CsiParam) → IfSome (three s es) IsTriple
three_small s es =
    then_all IsFirst IsTriple (byte_after s es) _ (after_small s es) (λ r red.
    then_all IsFirst IsTriple (byte_after s r.1) _ (after_small s r.1) (λ g green.
    then_all IsFirst IsTriple (byte_after s g.1) _ (after_small s g.1) (λ b blue.
    (red, green, blue))))

indexed_small : (s : ℕ) (es : List CsiParam) → IfSome (indexed_color s es) IsColor
indexed_small s es =
    then_all IsFirst IsColor (byte_after s es) _ (after_small s es)
    (λ n h. end_all IsColor n.1 (spec.PaletteIndex n.0) h)

bare_small : (s : ℕ) (es : List CsiParam) → IfSome (bare_direct s es) IsColor
bare_small s es =
    then_all IsTriple IsColor (three s es) _ (three_small s es)
    (λ c h. end_all IsColor c.1 (spec.TrueColor c.0) h)

space_small : (es : List CsiParam) → IfSome (direct_in_space es) IsColor
space_small es =
    then_all IsTriple IsColor (three 0x3a (after_field es)) _
    (three_small 0x3a (after_field es))
    (λ c h. end_all IsColor (after_field (after_field (after_field c.1)))
    (spec.TrueColor c.0) h)

direct_small : (s : ℕ) (es : List CsiParam) → IfSome (direct s es) IsColor
direct_small s es =
    else_all IsColor (bare_direct s es) _ (bare_small s es)
    (if_all IsColor (s == 0x3a) (direct_in_space es) None (space_small es) tt)

with_small : (s : ℕ) (es : List CsiParam) → IfSome (color_with s es) IsColor
with_small s es =
    then_all IsFirst IsColor (byte_after s es) _ (after_small s es) (λ k h.
    if_all IsColor (k.0 == 5) (indexed_color s k.1) _ (indexed_small s k.1)
    (if_all IsColor (k.0 == 2) (direct s k.1) None (direct_small s k.1) tt))

spec_small : (es : List CsiParam) → IfSome (color_of es) IsColor
spec_small es =
    else_all IsColor (color_with 0x3b es) (color_with 0x3a es) (with_small 0x3b es)
    (with_small 0x3a es)

-- ---- renditions

target_small : (n : ℕ) (c : ColorSpec) → IsColor c → IsRendition (on_target n c)
target_small n c h = by (n == 38) (n == 48)
  where
    by : (a b : Bool) → IsRendition (if a then rendition.Foreground c
        else if b then rendition.Background c
        else rendition.UnderlineColor c)
    by true b = h
    by false true = h
    by false false = h

mapped : (n : ℕ) (o : Option ColorSpec) → IfSome o IsColor
    → IfSome (option_map (on_target n) o) IsRendition
mapped n None h = tt
mapped n (Some c) h = target_small n c h

underlined : (o : Option UnderlineKind) → IfSome (option_map rendition.Underline o) IsRendition
underlined None = tt
underlined (Some u) = tt

-- one of two that are there or not
either : (b : Bool) (o p : Option Rendition) → IfSome o IsRendition → IfSome p IsRendition
    → IfSome (if b then o else p) IsRendition
either = if_all IsRendition

on_small : (n : ℕ) → IfSome (switched_on n) IsRendition
on_small n = either (n == 0) _ _ tt (either (n == 1) _ _ tt (either (n == 2) _ _ tt
    (either (n == 3) _ _ tt (either (n == 4) _ _ tt (either (n == 5) _ _ tt
    (either (n == 6) _ _ tt (either (n == 7) _ _ tt (either (n == 8) _ _ tt
    (either (n == 9) _ _ tt tt)))))))))

off_small : (n : ℕ) → IfSome (switched_off n) IsRendition
off_small n = either (n == 21) _ _ tt (either (n == 22) _ _ tt (either (n == 23) _ _ tt
    (either (n == 24) _ _ tt (either (n == 25) _ _ tt (either (n == 26) _ _ tt
    (either (n == 27) _ _ tt (either (n == 28) _ _ tt (either (n == 29) _ _ tt tt))))))))

decoration_small : (n : ℕ) → IfSome (decoration n) IsRendition
decoration_small n = either (n == 50) _ _ tt (either (n == 51) _ _ tt (either (n == 52) _ _ tt
    (either (n == 53) _ _ tt (either (n == 54) _ _ tt (either (n == 55) _ _ tt
    (either (n == 59) _ _ tt (either (n == 60) _ _ tt (either (n == 61) _ _ tt
    (either (n == 62) _ _ tt (either (n == 63) _ _ tt (either (n == 64) _ _ tt
    (either (n == 65) _ _ tt (either (n == 73) _ _ tt (either (n == 74) _ _ tt
    (either (n == 75) _ _ tt tt)))))))))))))))

color_small : (n : ℕ) → IfSome (color_rendition n) IsRendition
color_small n = either (is_from 30 37 n) _ _ tt (either (n == 39) _ _ tt
    (either (is_from 40 47 n) _ _ tt (either (n == 49) _ _ tt tt)))

bright_small : (n : ℕ) → IfSome (bright_color n) IsRendition
bright_small n = either (is_from 90 97 n) _ _ tt (either (is_from 100 107 n) _ _ tt tt)

number_small : (n : ℕ) → IfSome (number_rendition n) IsRendition
number_small n = either (nat_le n 9) _ _ (on_small n) (either (nat_le n 20) _ _ tt
    (either (nat_le n 29) _ _ (off_small n) (either (nat_le n 49) _ _ (color_small n)
    (either (nat_le n 75) _ _ (decoration_small n) (bright_small n)))))

more_small : (n : ℕ) (es : List CsiParam) → IfSome (with_more n es) IsRendition
more_small n [] = number_small n
more_small n (m ∷ es) =
    either (n == 4) _ _ (underlined (underline_kind (m ∷ es)))
    (either (is_target n) _ None (mapped n (color_of (m ∷ es)) (spec_small (m ∷ es))) tt)

rendition_small : (es : List CsiParam) → IfSome (rendition_of es) IsRendition
rendition_small [] = tt
rendition_small (e ∷ es) =
    then_all IsByte IsRendition (byte_of e) _ (byte_small e) (λ n h. more_small n es)

cut_small : (xs : List (List CsiParam)) → AreSelected (map selection_of xs)
cut_small [] = tt
cut_small (x ∷ xs) = (rendition_small x, cut_small xs)

selections_small : (es : List CsiParam) → AreSelected (selections es)
selections_small es = cut_small (cut_entries es)

-- ---- functions: none but SGR selects renditions

abbrev selects : Value → Bool
selects (renditions rs) = true
selects _ = false

unselected : (f : Value) → selects f ≡ false → IsSelected f
unselected (cursor c) h = tt
unselected (edit c) h = tt
unselected (device c) h = tt
unselected (keyboard c) h = tt
unselected (mouse c) h = tt
unselected (window c) h = tt
unselected (mode_status c) h = tt
unselected (charset c) h = tt
unselected (escape c) h = tt
unselected (modes c ms) h = tt
unselected (tabs c ns) h = tt
unselected (renditions rs) h = absurd (true≢false h)
unselected (other u) h = tt

chosen : {X : Type 0} (f : X → Value) (o : Option X) → ((x : X) → selects (f x) ≡ false)
    → selects (chosen_value f o) ≡ false
chosen f None h = refl
chosen f (Some x) h = h x

-- the functions whose values depend on their parameters
abbrev open_at : ℕ → ControlFunction
open_at n = if n == 0 then control.DSR
    else if n == 1 then control.TBC
    else if n == 2 then control.CTC
    else if n == 3 then control.DECSCUSR
    else if n == 4 then control.ED
    else if n == 5 then control.EL
    else if n == 6 then control.DECSED
    else if n == 7 then control.DECSEL
    else if n == 8 then control.KITTYSET
    else if n == 9 then control.XTWINOPS
    else if n == 10 then control.DECRQM_ANSI
    else if n == 11 then control.DECRQM
    else if n == 12 then control.DECRPM_ANSI
    else control.DECRPM

abbrev open_place : ControlFunction → ℕ
open_place control.DSR = 0
open_place control.TBC = 1
open_place control.CTC = 2
open_place control.DECSCUSR = 3
open_place control.ED = 4
open_place control.EL = 5
open_place control.DECSED = 6
open_place control.DECSEL = 7
open_place control.KITTYSET = 8
open_place control.XTWINOPS = 9
open_place control.DECRQM_ANSI = 10
open_place control.DECRQM = 11
open_place control.DECRPM_ANSI = 12
open_place control.DECRPM = 13
open_place _ = 14

abbrev is_open : ControlFunction → Bool
is_open f = nat_lt (open_place f) 14

-- a property of each of them
of_if : (C : ControlFunction → Type 0) (b : Bool) (f g : ControlFunction) → C f → C g
    → C (if b then f else g)
of_if C true f g h k = h
of_if C false f g h k = k

all_open : (C : ControlFunction → Type 0) → C control.DSR → C control.TBC → C control.CTC
    → C control.DECSCUSR → C control.ED → C control.EL → C control.DECSED → C control.DECSEL
    → C control.KITTYSET → C control.XTWINOPS → C control.DECRQM_ANSI → C control.DECRQM
    → C control.DECRPM_ANSI → C control.DECRPM → (n : ℕ) → C (open_at n)
all_open C a b c d e f g h i j k l m o n =
    of_if C (n == 0) _ _ a (of_if C (n == 1) _ _ b (of_if C (n == 2) _ _ c
    (of_if C (n == 3) _ _ d (of_if C (n == 4) _ _ e (of_if C (n == 5) _ _ f
    (of_if C (n == 6) _ _ g (of_if C (n == 7) _ _ h (of_if C (n == 8) _ _ i
    (of_if C (n == 9) _ _ j (of_if C (n == 10) _ _ k (of_if C (n == 11) _ _ l
    (of_if C (n == 12) _ _ m o))))))))))))

module _ (v : ControlFunction → Value) where
  -- the value of each other function selects nothing
  abbrev others_quiet : ControlFunction → Bool
  others_quiet f = if is_open f then false else selects (v f)

  abbrev IsQuiet : ControlFunction → Type 0
  IsQuiet f = selects (v f) ≡ false

  all_quiet : ((f : ControlFunction) → others_quiet f ≡ false)
      → ((n : ℕ) → IsQuiet (open_at n)) → (f : ControlFunction) → IsQuiet f
  unfolding place
  all_quiet none opened f = by (is_open f) refl
    where
      same : (if is_open f then open_at (open_place f) else f) ≡ f
      same = of_each sheet (λ g. if is_open g then open_at (open_place g) else g) (λ g. g) refl f

      by : (b : Bool) → is_open f ≡ b → IsQuiet f
      by true e =
          subst IsQuiet
          (sym (ap (λ (b : Bool). if b then open_at (open_place f) else f) e) ∙ same)
          (opened (open_place f))
      by false e = sym (ap (λ (b : Bool). if b then false else selects (v f)) e) ∙ none f

quiet_if : (b : Bool) (x y : Value) → selects x ≡ false → selects y ≡ false
    → selects (if b then x else y) ≡ false
quiet_if true x y h k = h
quiet_if false x y h k = k

quiet_window : (r : Result Window Unfit) → selects (window_value r) ≡ false
quiet_window (Ok w) = refl
quiet_window (Err u) = refl

quiet_query : (s : ModeStatus) (b c : Option ℕ) → selects (mode_value s b c) ≡ false
quiet_query s None None = refl
quiet_query s None (Some c) = refl
quiet_query s (Some b) c = refl

quiet_state : (f : ModeState → ModeStatus) (r : Result ModeState Unfit)
    → selects (stated_value f r) ≡ false
quiet_state f (Ok s) = refl
quiet_state f (Err u) = refl

quiet_value : (f : ControlFunction) (a : Arguments) → selects (value_with f a) ≡ false
unfolding place
quiet_value f args.Nothing =
    let v : ControlFunction → Value = bare in
    all_quiet v (of_each sheet (others_quiet v) (λ g. false) refl)
    (all_open (IsQuiet v) refl refl refl refl refl refl refl refl refl refl refl refl refl
    refl) f
quiet_value f (args.Count n) =
    let v : ControlFunction → Value = (λ g. count_value g n) in
    all_quiet v (of_each sheet (others_quiet v) (λ g. false) refl)
    (all_open (IsQuiet v) refl refl refl refl refl refl refl refl refl refl refl refl refl
    refl) f
quiet_value f (args.Place a b) =
    let v : ControlFunction → Value = (λ g. place_value g a b) in
    all_quiet v (of_each sheet (others_quiet v) (λ g. false) refl)
    (all_open (IsQuiet v) refl refl refl refl refl refl refl refl refl refl refl refl refl
    refl) f
quiet_value f (args.Margins a b) =
    let v : ControlFunction → Value = (λ g. margins_value g a b) in
    all_quiet v (of_each sheet (others_quiet v) (λ g. false) refl)
    (all_open (IsQuiet v) refl refl refl refl refl refl refl refl refl refl refl refl refl
    refl) f
quiet_value f (args.Selector n) =
    let v : ControlFunction → Value = (λ g. selector_value g n) in
    all_quiet v (of_each sheet (others_quiet v) (λ g. false) refl)
    (all_open (IsQuiet v) (quiet_if (n == 5) _ _ refl
    (quiet_if (n == 6) _ _ refl refl)) (chosen _ (tabulation_clear_at n) (λ x. refl))
    (chosen _ (cursor_tabulation_control_at n) (λ x. refl))
    (chosen _ (cursor_style_at n) (λ x. refl)) (chosen _ (erase_in_display_at n) (λ x. refl))
    (chosen _ (erase_in_line_at n) (λ x. refl)) (chosen _ (erase_in_display_at n) (λ x. refl))
    (chosen _ (erase_in_line_at n) (λ x. refl)) refl refl refl refl refl refl) f
quiet_value f (args.Flags a b) =
    let v : ControlFunction → Value = (λ g. flags_value g a b) in
    all_quiet v (of_each sheet (others_quiet v) (λ g. false) refl)
    (all_open (IsQuiet v) refl refl refl refl refl refl refl refl
    (chosen _ (kitty_flags_change_at b) (λ x. refl)) refl refl refl refl refl) f
quiet_value f (args.Report a b c) =
    let v : ControlFunction → Value = (λ g. report_value g a b c) in
    all_quiet v (of_each sheet (others_quiet v) (λ g. false) refl)
    (all_open (IsQuiet v) refl refl refl refl refl refl refl refl refl refl refl refl refl
    refl) f
quiet_value f (args.Numbers a b c) =
    let v : ControlFunction → Value = (λ g. list_value g a b c) in
    all_quiet v (of_each sheet (others_quiet v) (λ g. false) refl)
    (all_open (IsQuiet v) refl refl refl refl refl refl refl refl refl
    (quiet_window (operation a b c)) (quiet_query _ b c) (quiet_query _ b c)
    (quiet_state _ (state_of b c)) (quiet_state _ (state_of b c))) f

value_small : (f : ControlFunction) (a : Arguments) → IsSelected (value_with f a)
value_small f a = unselected (value_with f a) (quiet_value f a)

made_small : (f : ControlFunction) (r : Result Arguments Unfit) → IsSelected (made_of f r)
made_small f (Ok a) = value_small f a
made_small f (Err u) = tt

several_small : (f : ControlFunction) (es : List CsiParam) (r : Result Arguments Unfit)
    → IsSelected (several f es r)
several_small f es (Ok a) = value_small f a
several_small f es (Err unfit.Unnamed) = tt
several_small f es (Err unfit.Untyped) = tt
several_small f es (Err unfit.Truncated) = tt
several_small f es (Err unfit.NoNumbers) = tt
several_small f es (Err unfit.TooMany) = tt
several_small f es (Err unfit.TooFew) = tt
several_small f es (Err unfit.OutOfRange) = tt

kind_small : (o : Option Kind) (f : ControlFunction) (es : List CsiParam)
    → IsSelected (of_kind o f es)
kind_small None f es = tt
kind_small (Some kind.Renditions) f es = selections_small es
kind_small (Some kind.Modes) f es = tt
kind_small (Some kind.Selectors) f es = several_small f (after_prefix es) _
kind_small (Some kind.Nothing) f es = made_small f _
kind_small (Some kind.Zero) f es = made_small f _
kind_small (Some kind.Count) f es = made_small f _
kind_small (Some kind.Place) f es = made_small f _
kind_small (Some kind.Margins) f es = made_small f _
kind_small (Some kind.Selector) f es = made_small f _
kind_small (Some kind.Flags) f es = made_small f _
kind_small (Some kind.Report) f es = made_small f _
kind_small (Some kind.Numbers) f es = made_small f _

named_small : (o : Option ControlFunction) (es : List CsiParam) → IsSelected (of_named o es)
named_small None es = tt
named_small (Some f) es = kind_small (kind_of f) f es

whole_small : (o : Option (List CsiParam)) (last : ℕ) → IsSelected (of_whole o last)
whole_small None last = tt
whole_small (Some es) last = named_small (function_of (sequence_key es last)) es

small_if : (b : Bool) (x y : Value) → IsSelected x → IsSelected y → IsSelected (if b then x else y)
small_if true x y h k = h
small_if false x y h k = k

pub csi_small : (c : CsiValue) → IsSelected (of_csi c)
csi_small (sgr s) = selections_small (known_entries s)
csi_small (unspecified es truncated last) =
    small_if truncated (of_kept es last) (of_params es last)
    (small_if (last == 0x6d) (of_whole (whole_entries es) last) _
    (whole_small (whole_entries es) last) tt)
    (named_small (function_of (sequence_key es last)) es)

set_small : (r : Result Charset Unfit) → IsSelected (set_of r)
set_small (Ok c) = tt
set_small (Err u) = tt

escape_small : (o : Option Escape) (f : EscapeFunction) (b : ℕ) → IsSelected (escape_value o f b)
escape_small (Some e) f b = tt
escape_small None f b = set_small (charset_by_final f b)

by_function_small : (o : Option EscapeFunction) (b : ℕ) → IsSelected (of_escape_function o b)
by_function_small None b = tt
by_function_small (Some f) b = escape_small (escape_of f) f b

pub esc_small : (e : Esc) → IsSelected (of_escape e)
esc_small (escapes.Code codes.StringTerminator) = by_function_small _ 0x5c
esc_small (escapes.Code codes.HorizontalTabSet) = by_function_small _ 0x48
esc_small (escapes.Code codes.TmuxTitle) = by_function_small _ 0x6b
esc_small (escapes.Unspecified i b) = by_function_small _ b
