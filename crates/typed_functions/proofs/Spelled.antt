-- The text of a typed value reads back as this value.
use Rattle.std.proofs.Common.{ℕ, ◌≡◌, ◌+◌, ◌-◌, ◌<◌, ◌==◌, Bool, true, false, nat_le, List, [], ◌∷◌, ◌++◌, length, Option, Some, None, Ok}
use Rattle.std.proofs.Common.{refl, ap, sym, ◌∙◌, arith}
use Rattle.std.specs.List.{list_all}
use Rattle.std.proofs.lemmas.Bool.{eqb-true, le-leb, ne_eqb}
use Rattle.esc_values.specs.declared.csi_param.CsiParam.{CsiParam}
use Rattle.esc_values.specs.declared.csi_param.CsiParam.TheVariants.{P}
use Rattle.control_functions.specs.declared.control_function.ControlFunction.{ControlFunction}
use Rattle.control_functions.specs.declared.control_function.ControlFunction.TheVariants as control
use Rattle.control_functions.specs.Functions.{function_of, key_with, mark_of, marks, put_mark, sequence_key}
use Rattle.control_functions.specs.Rows.{base_256}
use Rattle.esc_values.specs.Params.{is_private_prefix}
use Rattle.typed_functions.specs.declared.arguments.Arguments.{Arguments}
use Rattle.typed_functions.specs.declared.arguments.Arguments.TheVariants as args
use Rattle.typed_functions.specs.declared.arguments.Kind.{Kind}
use Rattle.typed_functions.specs.declared.arguments.Kind.TheVariants as kind
use Rattle.typed_functions.specs.declared.cursor.Cursor.{Cursor}
use Rattle.typed_functions.specs.declared.cursor.Cursor.TheVariants as cursors
use Rattle.typed_functions.specs.declared.device.Device.{Device}
use Rattle.typed_functions.specs.declared.device.Device.TheVariants as devices
use Rattle.typed_functions.specs.declared.edit.Edit.{Edit}
use Rattle.typed_functions.specs.declared.edit.Edit.TheVariants as edits
use Rattle.typed_functions.specs.declared.keyboard.Keyboard.{Keyboard}
use Rattle.typed_functions.specs.declared.keyboard.Keyboard.TheVariants as keyboards
use Rattle.typed_functions.specs.declared.mouse.Mouse.{Mouse}
use Rattle.typed_functions.specs.declared.mouse.Mouse.TheVariants as mouses
use Rattle.typed_functions.specs.declared.one_based.Ordinal.{Ordinal}
use Rattle.typed_functions.specs.declared.spelling.Spelling.{Spelling}
use Rattle.typed_functions.specs.declared.mode_state.ModeState.{ModeState}
use Rattle.typed_functions.specs.declared.mode_state.ModeState.TheVariants as states
use Rattle.typed_functions.specs.declared.mode_status.ModeStatus.{ModeStatus}
use Rattle.typed_functions.specs.declared.mode_status.ModeStatus.TheVariants as statuses
use Rattle.typed_functions.specs.declared.window.Window.{Window}
use Rattle.typed_functions.specs.declared.window.Window.TheVariants as windows
use Rattle.typed_functions.specs.declared.erase_in_display.EraseInDisplay.{EraseInDisplay}
use Rattle.typed_functions.specs.declared.erase_in_display.EraseInDisplay.TheVariants as erase_in_display
use Rattle.typed_functions.specs.declared.erase_in_line.EraseInLine.{EraseInLine}
use Rattle.typed_functions.specs.declared.erase_in_line.EraseInLine.TheVariants as erase_in_line
use Rattle.typed_functions.specs.declared.tabulation_clear.TabulationClear.{TabulationClear}
use Rattle.typed_functions.specs.declared.tabulation_clear.TabulationClear.TheVariants as tabulation_clear
use Rattle.typed_functions.specs.declared.cursor_tabulation_control.CursorTabulationControl.{CursorTabulationControl}
use Rattle.typed_functions.specs.declared.cursor_tabulation_control.CursorTabulationControl.TheVariants as cursor_tabulation_control
use Rattle.typed_functions.specs.declared.kitty_flags_change.KittyFlagsChange.{KittyFlagsChange}
use Rattle.typed_functions.specs.declared.kitty_flags_change.KittyFlagsChange.TheVariants as kitty_flags_change
use Rattle.typed_functions.specs.declared.cursor_style.CursorStyle.{CursorStyle}
use Rattle.typed_functions.specs.declared.cursor_style.CursorStyle.TheVariants as cursor_style
use Rattle.typed_functions.specs.Arguments.{AreArguments, IsOneBased, after_prefix, arguments, entries_of, in_range, is_intermediate, number_first}
use Rattle.typed_functions.specs.Choices.{cursor_style_at, cursor_style_number, cursor_tabulation_control_at, cursor_tabulation_control_number, erase_in_display_at, erase_in_display_number, erase_in_line_at, erase_in_line_number, kitty_flags_change_at, kitty_flags_change_number, mode_state_at, mode_state_number, tabulation_clear_at, tabulation_clear_number}
use Rattle.typed_functions.specs.Counts.{at_place, one_based, one_based_of}
use Rattle.typed_functions.specs.Functions.{Value, cursor, device, edit, keyboard, mode_status, mouse, window, chosen_value, kind_of, value_with, made_of, of_kind, of_named, of_params, several, stated_value}
use Rattle.typed_functions.specs.Spellings.{intermediate_spelling, cursor_spelling, device_spelling, edit_spelling, keyboard_spelling, mode_status_spelling, mouse_spelling, window_numbers, window_spelling, entries, plain, private, private_between}
use Rattle.typed_functions.specs.Windows.{IsWindow}
use Rattle.typed_functions.proofs.Keys as keys

-- ---- numbers

one_based_back : (n : Ordinal) → IsOneBased n → one_based_of (Some (one_based n)) ≡ Some n
one_based_back n h =
    let z : (n.zero_based + 1 == 0) ≡ false = ne_eqb _ _ (omega arith) in
    let e : n.zero_based + 1 - 1 ≡ n.zero_based = omega arith in
    rw (z, e, le-leb n.zero_based 0xffff_ffff (omega (arith, h))) refl

not_zero : (n : Ordinal) → (one_based n == 0) ≡ false
not_zero n = ne_eqb _ _ (omega arith)

first_is : (n : Ordinal) → (n.zero_based == 0) ≡ true → at_place 0 ≡ n
first_is n e = ap at_place (sym (eqb-true n.zero_based 0 e))

word_back : (n : ℕ) → n < 0x1_0000_0000 → nat_le n 0xffff_ffff ≡ true
word_back n h = le-leb n 0xffff_ffff (omega (arith, h))

-- ---- the entries after parameters: intermediates alone

pub record IsTail (t : List CsiParam) : Type 0 where
  pub ends : list_all is_intermediate t ≡ true
  pub none : number_first t ≡ (None, t)
  pub kept : after_prefix t ≡ t

nothing_after : IsTail []
nothing_after = record { ends = refl; none = refl; kept = refl }

space_after : IsTail (P 0x20 ∷ [])
space_after = record { ends = refl; none = refl; kept = refl }

mark_after : IsTail (P 0x21 ∷ [])
mark_after = record { ends = refl; none = refl; kept = refl }

dollar_after : IsTail (P 0x24 ∷ [])
dollar_after = record { ends = refl; none = refl; kept = refl }

quote_after : IsTail (P 0x27 ∷ [])
quote_after = record { ends = refl; none = refl; kept = refl }

-- ---- parameters

abbrev kind_for : Arguments → Kind
kind_for args.Nothing = kind.Nothing
kind_for (args.Count n) = kind.Count
kind_for (args.Place l c) = kind.Place
kind_for (args.Margins a b) = kind.Margins
kind_for (args.Selector n) = kind.Selector
kind_for (args.Flags a b) = kind.Flags
kind_for (args.Report a b c) = kind.Report
kind_for (args.Numbers a b c) = kind.Numbers

-- the parameters before a tail read back, have no marks, and begin with no private prefix
pub record IsBack (a : Arguments) (t : List CsiParam) : Type 0 where
  pub read : arguments (kind_for a) (entries_of a ++ t) ≡ Ok a
  pub unmarked : marks (entries_of a ++ t) ≡ marks t
  pub kept : after_prefix (entries_of a ++ t) ≡ entries_of a ++ t

count_by : (n : Ordinal) (t : List CsiParam) (b : Bool) → (n.zero_based == 0) ≡ b → IsOneBased n
    → IsTail t → IsBack (args.Count n) t
count_by n t true e h i = record {
  read = rw (e, i.none, i.ends) (ap (λ m. Ok (args.Count m)) (first_is n e));
  unmarked = rw e refl;
  kept = rw e i.kept;
}
count_by n t false e h i = record {
  read = rw (e, i.ends, one_based_back n h) refl;
  unmarked = rw e refl;
  kept = rw e refl;
}

place_by : (l c : Ordinal) (t : List CsiParam) (p q : Bool) → (l.zero_based == 0) ≡ p
    → (c.zero_based == 0) ≡ q → IsOneBased l → IsOneBased c → IsTail t
    → IsBack (args.Place l c) t
place_by l c t true true d e h k i = record {
  read = rw (d, e, i.none, i.ends) (ap (λ m. Ok (args.Place m (at_place 0))) (first_is l d)
      ∙ ap (λ m. Ok (args.Place l m)) (first_is c e));
  unmarked = rw (d, e) refl;
  kept = rw (d, e) i.kept;
}
place_by l c t false true d e h k i = record {
  read = rw (d, e, i.ends, one_based_back l h) (ap (λ m. Ok (args.Place l m)) (first_is c e));
  unmarked = rw (d, e) refl;
  kept = rw (d, e) refl;
}
place_by l c t true false d e h k i = record {
  read = rw (d, e, i.ends, one_based_back c k) (ap (λ m. Ok (args.Place m c)) (first_is l d));
  unmarked = rw (d, e) refl;
  kept = rw (d, e) refl;
}
place_by l c t false false d e h k i = record {
  read = rw (d, e, i.ends, one_based_back l h, one_based_back c k) refl;
  unmarked = rw (d, e) refl;
  kept = rw (d, e) refl;
}

selector_by : (n : ℕ) (t : List CsiParam) (b : Bool) → (n == 0) ≡ b → n < 256 → IsTail t
    → IsBack (args.Selector n) t
selector_by n t true e h i = record {
  read = rw (e, i.none, i.ends) (ap (λ m. Ok (args.Selector m)) (sym (eqb-true n 0 e)));
  unmarked = rw e refl;
  kept = rw e i.kept;
}
selector_by n t false e h i = record {
  read = rw (e, i.ends, le-leb n 255 (omega (arith, h))) refl;
  unmarked = rw e refl;
  kept = rw e refl;
}

back : (a : Arguments) (t : List CsiParam) → AreArguments a → IsTail t → IsBack a t
back args.Nothing t h i = record { read = rw (i.none, i.ends) refl; unmarked = refl; kept = i.kept }
back (args.Count n) t h i = count_by n t (n.zero_based == 0) refl h i
back (args.Place l c) t h i =
    place_by l c t (l.zero_based == 0) (c.zero_based == 0) refl refl h.0 h.1 i
back (args.Margins a None) t h i =
    record { read = rw (i.ends, one_based_back a h.0) refl; unmarked = refl; kept = refl }
back (args.Margins a (Some b)) t h i = record {
  read = rw (i.ends, one_based_back a h.0, one_based_back b h.1, not_zero b) refl;
  unmarked = refl;
  kept = refl;
}
back (args.Selector n) t h i = selector_by n t (n == 0) refl h i
back (args.Flags a b) t h i = record {
  read = rw (i.ends, le-leb a 255 (omega (arith, h.0)), le-leb b 255 (omega (arith, h.1))) refl;
  unmarked = refl;
  kept = refl;
}
back (args.Report a b c) t h i = record {
  read = rw (
    i.ends,
    le-leb a 255 (omega (arith, h.0)),
    one_based_back b h.1,
    one_based_back c h.2,
  ) refl;
  unmarked = refl;
  kept = refl;
}
back (args.Numbers a None None) t h i =
    record { read = rw (i.ends, word_back a h.0) refl; unmarked = refl; kept = refl }
back (args.Numbers a (Some b) None) t h i =
    record {
      read = rw (i.ends, word_back a h.0, word_back b h.1) refl;
      unmarked = refl;
      kept = refl;
    }
back (args.Numbers a None (Some c)) t h i =
    record {
      read = rw (i.ends, word_back a h.0, word_back c h.2) refl;
      unmarked = refl;
      kept = refl;
    }
back (args.Numbers a (Some b) (Some c)) t h i = record {
  read = rw (i.ends, word_back a h.0, word_back b h.1, word_back c h.2) refl;
  unmarked = refl;
  kept = refl;
}

-- ---- sequences

back_by : (f : ControlFunction) (s : Spelling) (v : Value)
    → function_of (sequence_key (entries s) s.last) ≡ Some f
    → of_kind (kind_of f) f (entries s)
    ≡ made_of f (arguments (kind_for s.arguments) (after_prefix (entries s)))
    → arguments (kind_for s.arguments) (after_prefix (entries s)) ≡ Ok s.arguments
    → value_with f s.arguments ≡ v → of_params (entries s) s.last ≡ v
back_by f s v found kind read value_with =
    ap (λ o. of_named o (entries s)) found ∙ kind ∙ ap (made_of f) read ∙ value_with

plain_back : (f : ControlFunction) (a : Arguments) (last : ℕ) (v : Value) → AreArguments a
    → function_of (key_with 1 (length (entries (plain a last))) last) ≡ Some f
    → of_kind (kind_of f) f (entries (plain a last))
    ≡ made_of f (arguments (kind_for a) (after_prefix (entries (plain a last))))
    → value_with f a ≡ v → of_params (entries (plain a last)) last ≡ v
plain_back f a last v h found kind value_with =
    let b = back a [] h nothing_after in
    let key : sequence_key (entries (plain a last)) last
    ≡ key_with 1 (length (entries (plain a last))) last =
    ap (λ ms. key_with (base_256 1 ms) (length (entries (plain a last))) last) b.unmarked in
    back_by f (plain a last) v (ap function_of key ∙ found) kind
    (ap (arguments (kind_for a)) b.kept ∙ b.read) value_with

private_back : (p : ℕ) (f : ControlFunction) (a : Arguments) (last : ℕ) (v : Value)
    → AreArguments a → mark_of (P p) ≡ Some p → is_private_prefix p ≡ true
    → function_of (key_with (base_256 1 (p ∷ [])) (length (entries (private p a last))) last)
    ≡ Some f
    → of_kind (kind_of f) f (entries (private p a last))
    ≡ made_of f (arguments (kind_for a) (after_prefix (entries (private p a last))))
    → value_with f a ≡ v → of_params (entries (private p a last)) last ≡ v
private_back p f a last v h mark prefix found kind value_with =
    let b = back a [] h nothing_after in
    let key : sequence_key (entries (private p a last)) last
    ≡ key_with (base_256 1 (p ∷ [])) (length (entries (private p a last))) last =
    ap (λ ms. key_with (base_256 1 ms) (length (entries (private p a last))) last)
    (ap (λ m. put_mark m (marks (entries_of a ++ []))) mark ∙ ap (λ ms. p ∷ ms) b.unmarked) in
    let inner : after_prefix (entries (private p a last)) ≡ entries_of a ++ [] = rw prefix refl in
    back_by f (private p a last) v (ap function_of key ∙ found) kind
    (ap (arguments (kind_for a)) inner ∙ b.read) value_with

between_back : (f : ControlFunction) (a : Arguments) (m last : ℕ) (v : Value) → AreArguments a
    → IsTail (P m ∷ [])
    → function_of (key_with (base_256 1 (marks (P m ∷ [])))
    (length (entries (intermediate_spelling a m last)))
    last)
    ≡ Some f
    → of_kind (kind_of f) f (entries (intermediate_spelling a m last))
    ≡ made_of f (arguments (kind_for a) (after_prefix (entries (intermediate_spelling a m last))))
    → value_with f a ≡ v → of_params (entries (intermediate_spelling a m last)) last ≡ v
between_back f a m last v h i found kind value_with =
    let b = back a (P m ∷ []) h i in
    let key : sequence_key (entries (intermediate_spelling a m last)) last
    ≡ key_with (base_256 1 (marks (P m ∷ [])))
    (length (entries (intermediate_spelling a m last))) last =
    ap (λ ms. key_with (base_256 1 ms) (length (entries (intermediate_spelling a m last))) last)
    b.unmarked in
    back_by f (intermediate_spelling a m last) v (ap function_of key ∙ found) kind
    (ap (arguments (kind_for a)) b.kept ∙ b.read) value_with

private_between_back : (p : ℕ) (f : ControlFunction) (a : Arguments) (m last : ℕ) (v : Value)
    → AreArguments a → IsTail (P m ∷ []) → mark_of (P p) ≡ Some p → is_private_prefix p ≡ true
    → function_of (key_with (base_256 1 (p ∷ marks (P m ∷ [])))
    (length (entries (private_between p a m last))) last)
    ≡ Some f
    → of_kind (kind_of f) f (entries (private_between p a m last))
    ≡ made_of f (arguments (kind_for a) (after_prefix (entries (private_between p a m last))))
    → value_with f a ≡ v → of_params (entries (private_between p a m last)) last ≡ v
private_between_back p f a m last v h i mark prefix found kind value_with =
    let b = back a (P m ∷ []) h i in
    let all = entries (private_between p a m last) in
    let key : sequence_key all last
    ≡ key_with (base_256 1 (p ∷ marks (P m ∷ []))) (length all) last =
    ap (λ ms. key_with (base_256 1 ms) (length all) last)
    (ap (λ k. put_mark k (marks (entries_of a ++ P m ∷ []))) mark ∙ ap (λ ms. p ∷ ms) b.unmarked) in
    let inner : after_prefix all ≡ entries_of a ++ P m ∷ [] = rw prefix refl in
    back_by f (private_between p a m last) v (ap function_of key ∙ found) kind
    (ap (arguments (kind_for a)) inner ∙ b.read) value_with

-- one choice, if there may be several
choice_back : (f : ControlFunction) (n last : ℕ) (v : Value) → n < 256
    → function_of (key_with 1 (length (entries (plain (args.Selector n) last))) last) ≡ Some f
    → kind_of f ≡ Some kind.Selectors → value_with f (args.Selector n) ≡ v
    → of_params (entries (plain (args.Selector n) last)) last ≡ v
choice_back f n last v h found kinds value_with =
    let all = entries (plain (args.Selector n) last) in
    let b = back (args.Selector n) [] h nothing_after in
    let key : sequence_key all last ≡ key_with 1 (length all) last =
    ap (λ ms. key_with (base_256 1 ms) (length all) last) b.unmarked in
    ap (λ o. of_named o all) (ap function_of key ∙ found) ∙ ap (λ k. of_kind k f all) kinds
    ∙ ap (several f (after_prefix all)) (ap (arguments kind.Selector) b.kept ∙ b.read) ∙ value_with

-- `T` with at most one parameter, and `s` with one or more
down_by : (n : Ordinal) (b : Bool) → (n.zero_based == 0) ≡ b
    → function_of (key_with 1 (length (entries (plain (args.Count n) 0x54))) 0x54)
    ≡ Some control.SD
down_by n true e = rw e keys.SD
down_by n false e = rw e keys.SD

sides_by : (a : Ordinal) (b : Option Ordinal)
    → function_of (key_with 1 (length (entries (plain (args.Margins a b) 0x73))) 0x73)
    ≡ Some control.DECSLRM
sides_by a None = keys.DECSLRM
sides_by a (Some b) = keys.DECSLRM

-- ---- choices

erase_in_display_back : (c : EraseInDisplay) → erase_in_display_at (erase_in_display_number c) ≡
    Some c
erase_in_display_back erase_in_display.EraseToEndOfDisplay = refl
erase_in_display_back erase_in_display.EraseToStartOfDisplay = refl
erase_in_display_back erase_in_display.EraseDisplay = refl
erase_in_display_back erase_in_display.EraseScrollback = refl

erase_in_line_back : (c : EraseInLine) → erase_in_line_at (erase_in_line_number c) ≡ Some c
erase_in_line_back erase_in_line.EraseToEndOfLine = refl
erase_in_line_back erase_in_line.EraseToStartOfLine = refl
erase_in_line_back erase_in_line.EraseLine = refl

tabulation_clear_back : (c : TabulationClear) → tabulation_clear_at (tabulation_clear_number c) ≡
    Some c
tabulation_clear_back tabulation_clear.ClearCharacterTabStopAtActivePosition = refl
tabulation_clear_back tabulation_clear.ClearLineTabStopAtActivePosition = refl
tabulation_clear_back tabulation_clear.ClearCharacterTabStopsAtActiveLine = refl
tabulation_clear_back tabulation_clear.ClearAllCharacterTabStops = refl
tabulation_clear_back tabulation_clear.ClearAllLineTabStops = refl
tabulation_clear_back tabulation_clear.ClearAllTabStops = refl

cursor_tabulation_control_back : (c : CursorTabulationControl) → cursor_tabulation_control_at
    (cursor_tabulation_control_number c) ≡ Some c
cursor_tabulation_control_back cursor_tabulation_control.SetCharacterTabStopAtActivePosition = refl
cursor_tabulation_control_back cursor_tabulation_control.SetLineTabStopAtActiveLine = refl
cursor_tabulation_control_back cursor_tabulation_control.ClearCharacterTabStopAtActivePosition =
    refl
cursor_tabulation_control_back cursor_tabulation_control.ClearLineTabStopAtActiveLine = refl
cursor_tabulation_control_back cursor_tabulation_control.ClearCharacterTabStopsAtActiveLine = refl
cursor_tabulation_control_back cursor_tabulation_control.ClearAllCharacterTabStops = refl
cursor_tabulation_control_back cursor_tabulation_control.ClearAllLineTabStops = refl

kitty_flags_change_back : (c : KittyFlagsChange) → kitty_flags_change_at
    (kitty_flags_change_number c) ≡ Some c
kitty_flags_change_back kitty_flags_change.AssignAll = refl
kitty_flags_change_back kitty_flags_change.SetSpecified = refl
kitty_flags_change_back kitty_flags_change.ClearSpecified = refl

cursor_style_back : (c : CursorStyle) → cursor_style_at (cursor_style_number c) ≡ Some c
cursor_style_back cursor_style.Default = refl
cursor_style_back cursor_style.BlinkingBlock = refl
cursor_style_back cursor_style.SteadyBlock = refl
cursor_style_back cursor_style.BlinkingUnderline = refl
cursor_style_back cursor_style.SteadyUnderline = refl
cursor_style_back cursor_style.BlinkingBar = refl
cursor_style_back cursor_style.SteadyBar = refl

mode_state_back : (s : ModeState) → mode_state_at (mode_state_number s) ≡ Some s
mode_state_back states.NotRecognized = refl
mode_state_back states.Set = refl
mode_state_back states.Reset = refl
mode_state_back states.PermanentlySet = refl
mode_state_back states.PermanentlyReset = refl

pub cursor_back : (c : Cursor) → AreArguments (cursor_spelling c).arguments
    → of_params (entries (cursor_spelling c)) (cursor_spelling c).last ≡ cursor c
cursor_back (cursors.Up n) h =
    plain_back control.CUU (args.Count n) 0x41 (cursor (cursors.Up n)) h keys.CUU refl refl
cursor_back (cursors.Down n) h =
    plain_back control.CUD (args.Count n) 0x42 (cursor (cursors.Down n)) h keys.CUD refl refl
cursor_back (cursors.Right n) h =
    plain_back control.CUF (args.Count n) 0x43 (cursor (cursors.Right n)) h keys.CUF refl refl
cursor_back (cursors.Left n) h =
    plain_back control.CUB (args.Count n) 0x44 (cursor (cursors.Left n)) h keys.CUB refl refl
cursor_back (cursors.NextLine n) h =
    plain_back control.CNL (args.Count n) 0x45 (cursor (cursors.NextLine n)) h keys.CNL refl refl
cursor_back (cursors.PrecedingLine n) h =
    plain_back control.CPL (args.Count n) 0x46
    (cursor (cursors.PrecedingLine n)) h keys.CPL refl refl
cursor_back (cursors.CharacterAbsolute n) h =
    plain_back control.CHA (args.Count n) 0x47
    (cursor (cursors.CharacterAbsolute n)) h keys.CHA refl refl
cursor_back (cursors.Position a b) h =
    plain_back control.CUP (args.Place a b) 0x48
    (cursor (cursors.Position a b)) h keys.CUP refl refl
cursor_back (cursors.ForwardTabulation n) h =
    plain_back control.CHT (args.Count n) 0x49
    (cursor (cursors.ForwardTabulation n)) h keys.CHT refl refl
cursor_back (cursors.LineTabulation n) h =
    plain_back control.CVT (args.Count n) 0x59
    (cursor (cursors.LineTabulation n)) h keys.CVT refl refl
cursor_back (cursors.BackwardTabulation n) h =
    plain_back control.CBT (args.Count n) 0x5a
    (cursor (cursors.BackwardTabulation n)) h keys.CBT refl refl
cursor_back (cursors.CharacterPositionAbsolute n) h =
    plain_back control.HPA (args.Count n) 0x60
    (cursor (cursors.CharacterPositionAbsolute n)) h keys.HPA refl refl
cursor_back (cursors.CharacterPositionForward n) h =
    plain_back control.HPR (args.Count n) 0x61
    (cursor (cursors.CharacterPositionForward n)) h keys.HPR refl refl
cursor_back (cursors.LinePositionAbsolute n) h =
    plain_back control.VPA (args.Count n) 0x64
    (cursor (cursors.LinePositionAbsolute n)) h keys.VPA refl refl
cursor_back (cursors.LinePositionForward n) h =
    plain_back control.VPR (args.Count n) 0x65
    (cursor (cursors.LinePositionForward n)) h keys.VPR refl refl
cursor_back (cursors.CharacterAndLinePosition a b) h =
    plain_back control.HVP (args.Place a b) 0x66
    (cursor (cursors.CharacterAndLinePosition a b)) h keys.HVP refl refl
cursor_back (cursors.CharacterPositionBackward n) h =
    plain_back control.HPB (args.Count n) 0x6a
    (cursor (cursors.CharacterPositionBackward n)) h keys.HPB refl refl
cursor_back (cursors.LinePositionBackward n) h =
    plain_back control.VPB (args.Count n) 0x6b
    (cursor (cursors.LinePositionBackward n)) h keys.VPB refl refl
cursor_back (cursors.ActivePositionReport a b) h =
    plain_back control.CPR (args.Place a b) 0x52
    (cursor (cursors.ActivePositionReport a b)) h keys.CPR refl refl
cursor_back (cursors.TabulationClear c) h =
    choice_back control.TBC (tabulation_clear_number c) 0x67
    (cursor (cursors.TabulationClear c)) h keys.TBC refl (ap (chosen_value (λ c. cursor
    (cursors.TabulationClear c))) (tabulation_clear_back c))
cursor_back (cursors.TabulationControl c) h =
    choice_back control.CTC (cursor_tabulation_control_number c) 0x57
    (cursor (cursors.TabulationControl c)) h keys.CTC refl (ap (chosen_value (λ c. cursor
    (cursors.TabulationControl c))) (cursor_tabulation_control_back c))
cursor_back (cursors.CursorStyle c) h =
    between_back control.DECSCUSR (args.Selector (cursor_style_number c)) 0x20 0x71
    (cursor (cursors.CursorStyle c)) h space_after keys.DECSCUSR refl (ap (chosen_value (λ c. cursor
    (cursors.CursorStyle c))) (cursor_style_back c))
cursor_back (cursors.SetTopAndBottomMargins a b) h =
    plain_back control.DECSTBM (args.Margins a b) 0x72
    (cursor (cursors.SetTopAndBottomMargins a b)) h keys.DECSTBM refl refl
cursor_back (cursors.SetLeftAndRightMargins a b) h =
    plain_back control.DECSLRM (args.Margins a b) 0x73
    (cursor (cursors.SetLeftAndRightMargins a b)) h (sides_by a b) refl refl
cursor_back cursors.SaveCursor h =
    plain_back control.SCOSC args.Nothing 0x73 (cursor cursors.SaveCursor) h keys.SCOSC refl refl
cursor_back cursors.RestoreCursor h =
    plain_back control.SCORC args.Nothing 0x75 (cursor cursors.RestoreCursor) h keys.SCORC refl refl
cursor_back cursors.RequestActivePositionReport h =
    plain_back control.DSR (args.Selector 6) 0x6e
    (cursor cursors.RequestActivePositionReport) h keys.DSR refl refl

pub device_back : (c : Device) → AreArguments (device_spelling c).arguments
    → of_params (entries (device_spelling c)) (device_spelling c).last ≡ device c
device_back devices.RequestPrimaryDeviceAttributes h =
    plain_back control.DA1 args.Nothing 0x63
    (device devices.RequestPrimaryDeviceAttributes) h keys.DA1 refl refl
device_back devices.RequestSecondaryDeviceAttributes h =
    private_back 0x3e control.DA2 args.Nothing 0x63
    (device devices.RequestSecondaryDeviceAttributes) h refl refl keys.DA2 refl refl
device_back devices.RequestTertiaryDeviceAttributes h =
    private_back 0x3d control.DA3 args.Nothing 0x63
    (device devices.RequestTertiaryDeviceAttributes) h refl refl keys.DA3 refl refl
device_back devices.RequestTerminalNameAndVersion h =
    private_back 0x3e control.XTVERSION args.Nothing 0x71
    (device devices.RequestTerminalNameAndVersion) h refl refl keys.XTVERSION refl refl
device_back devices.StatusReport h =
    plain_back control.DSR (args.Selector 5) 0x6e (device devices.StatusReport) h keys.DSR refl refl
device_back devices.SoftReset h =
    between_back control.DECSTR args.Nothing 0x21 0x70
    (device devices.SoftReset) h mark_after keys.DECSTR refl refl

pub edit_back : (c : Edit) → AreArguments (edit_spelling c).arguments
    → of_params (entries (edit_spelling c)) (edit_spelling c).last ≡ edit c
edit_back (edits.InsertCharacter n) h =
    plain_back control.ICH (args.Count n) 0x40 (edit (edits.InsertCharacter n)) h keys.ICH refl refl
edit_back (edits.InsertLine n) h =
    plain_back control.IL (args.Count n) 0x4c (edit (edits.InsertLine n)) h keys.IL refl refl
edit_back (edits.DeleteLine n) h =
    plain_back control.DL (args.Count n) 0x4d (edit (edits.DeleteLine n)) h keys.DL refl refl
edit_back (edits.DeleteCharacter n) h =
    plain_back control.DCH (args.Count n) 0x50 (edit (edits.DeleteCharacter n)) h keys.DCH refl refl
edit_back (edits.ScrollUp n) h =
    plain_back control.SU (args.Count n) 0x53 (edit (edits.ScrollUp n)) h keys.SU refl refl
edit_back (edits.ScrollDown n) h =
    plain_back control.SD (args.Count n) 0x54
    (edit (edits.ScrollDown n)) h (down_by n (n.zero_based == 0) refl) refl refl
edit_back (edits.EraseCharacter n) h =
    plain_back control.ECH (args.Count n) 0x58 (edit (edits.EraseCharacter n)) h keys.ECH refl refl
edit_back (edits.Repeat n) h =
    plain_back control.REP (args.Count n) 0x62 (edit (edits.Repeat n)) h keys.REP refl refl
edit_back (edits.ScrollLeft n) h =
    between_back control.SL (args.Count n) 0x20 0x40
    (edit (edits.ScrollLeft n)) h space_after keys.SL refl refl
edit_back (edits.ScrollRight n) h =
    between_back control.SR (args.Count n) 0x20 0x41
    (edit (edits.ScrollRight n)) h space_after keys.SR refl refl
edit_back (edits.InsertColumn n) h =
    between_back control.DECIC (args.Count n) 0x27 0x7d
    (edit (edits.InsertColumn n)) h quote_after keys.DECIC refl refl
edit_back (edits.DeleteColumn n) h =
    between_back control.DECDC (args.Count n) 0x27 0x7e
    (edit (edits.DeleteColumn n)) h quote_after keys.DECDC refl refl
edit_back (edits.EraseInDisplay c) h =
    plain_back control.ED (args.Selector (erase_in_display_number c)) 0x4a
    (edit (edits.EraseInDisplay c)) h keys.ED refl
    (ap (chosen_value (λ c. edit (edits.EraseInDisplay
    c))) (erase_in_display_back c))
edit_back (edits.EraseInLine c) h =
    plain_back control.EL (args.Selector (erase_in_line_number c)) 0x4b
    (edit (edits.EraseInLine c)) h keys.EL refl (ap (chosen_value (λ c. edit (edits.EraseInLine c)))
    (erase_in_line_back c))
edit_back (edits.SelectiveEraseInDisplay c) h =
    private_back 0x3f control.DECSED (args.Selector (erase_in_display_number c)) 0x4a
    (edit (edits.SelectiveEraseInDisplay c)) h refl refl keys.DECSED refl
    (ap (chosen_value (λ c. edit
    (edits.SelectiveEraseInDisplay c))) (erase_in_display_back c))
edit_back (edits.SelectiveEraseInLine c) h =
    private_back 0x3f control.DECSEL (args.Selector (erase_in_line_number c)) 0x4b
    (edit (edits.SelectiveEraseInLine c)) h refl refl keys.DECSEL refl (ap (chosen_value (λ c. edit
    (edits.SelectiveEraseInLine c))) (erase_in_line_back c))

pub keyboard_back : (c : Keyboard) → AreArguments (keyboard_spelling c).arguments
    → of_params (entries (keyboard_spelling c)) (keyboard_spelling c).last ≡ keyboard c
keyboard_back keyboards.QueryKittySupport h =
    private_back 0x3f control.KITTYQUERY args.Nothing 0x75
    (keyboard keyboards.QueryKittySupport) h refl refl keys.KITTYQUERY refl refl
keyboard_back (keyboards.PushKittyState c) h =
    private_back 0x3e control.KITTYPUSH (args.Selector c) 0x75
    (keyboard (keyboards.PushKittyState c)) h refl refl keys.KITTYPUSH refl refl
keyboard_back (keyboards.PopKittyState n) h =
    private_back 0x3c control.KITTYPOP (args.Count n) 0x75
    (keyboard (keyboards.PopKittyState n)) h refl refl keys.KITTYPOP refl refl
keyboard_back (keyboards.SetKittyState a b) h =
    private_back 0x3d control.KITTYSET (args.Flags a (kitty_flags_change_number b)) 0x75
    (keyboard (keyboards.SetKittyState a b)) h refl refl keys.KITTYSET refl (ap (chosen_value (λ c.
    keyboard (keyboards.SetKittyState a c))) (kitty_flags_change_back b))

pub mouse_back : (c : Mouse) → AreArguments (mouse_spelling c).arguments
    → of_params (entries (mouse_spelling c)) (mouse_spelling c).last ≡ mouse c
mouse_back (mouses.Pressed a b c) h =
    private_back 0x3c control.MOUSE (args.Report a b c) 0x4d
    (mouse (mouses.Pressed a b c)) h refl refl keys.MOUSE refl refl
mouse_back (mouses.Released a b c) h =
    private_back 0x3c control.MOUSEUP (args.Report a b c) 0x6d
    (mouse (mouses.Released a b c)) h refl refl keys.MOUSEUP refl refl

-- ---- the window

-- its numbers make it
operated : (w : Window) → IsWindow w → (kind_for (window_numbers w) ≡ kind.Numbers)
    × (value_with control.XTWINOPS (window_numbers w) ≡ window w)
operated windows.DeIconify i = (refl, refl)
operated windows.Iconify i = (refl, refl)
operated (windows.MoveWindow x y) i = (refl, refl)
operated (windows.ResizeWindowPixels h w) i = (refl, refl)
operated windows.RaiseWindow i = (refl, refl)
operated (windows.ReportScreenSizePixelsResponse h w) i = (refl, refl)
operated windows.LowerWindow i = (refl, refl)
operated (windows.ReportCellSizePixelsResponse h w) i = (refl, refl)
operated windows.RefreshWindow i = (refl, refl)
operated (windows.ResizeWindowCells h w) i = (refl, refl)
operated windows.RestoreMaximizedWindow i = (refl, refl)
operated windows.MaximizeWindow i = (refl, refl)
operated windows.MaximizeWindowVertically i = (refl, refl)
operated windows.MaximizeWindowHorizontally i = (refl, refl)
operated (windows.ReportScreenSizeCellsResponse h w) i = (refl, refl)
operated windows.UndoFullScreenMode i = (refl, refl)
operated windows.ChangeToFullScreenMode i = (refl, refl)
operated windows.ToggleFullScreen i = (refl, refl)
operated windows.ReportWindowState i = (refl, refl)
operated windows.ReportWindowPosition i = (refl, refl)
operated windows.ReportTextAreaPosition i = (refl, refl)
operated windows.ReportTextAreaSizePixels i = (refl, refl)
operated windows.ReportWindowSizePixels i = (refl, refl)
operated windows.ReportScreenSizePixels i = (refl, refl)
operated windows.ReportCellSizePixels i = (refl, refl)
operated windows.ReportTextAreaSizeCells i = (refl, refl)
operated windows.ReportScreenSizeCells i = (refl, refl)
operated windows.ReportIconLabel i = (refl, refl)
operated windows.ReportWindowTitle i = (refl, refl)
operated windows.PushIconAndWindowTitle i = (refl, refl)
operated windows.PushIconTitle i = (refl, refl)
operated windows.PushWindowTitle i = (refl, refl)
operated windows.PopIconAndWindowTitle i = (refl, refl)
operated windows.PopIconTitle i = (refl, refl)
operated windows.PopWindowTitle i = (refl, refl)
operated (windows.SetLinesPerPage n) i = (refl, rw (le-leb 24 n i) refl)

pub window_back : (w : Window) → IsWindow w → AreArguments (window_spelling w).arguments
    → of_params (entries (window_spelling w)) (window_spelling w).last ≡ window w
window_back w i h =
    let numbers = operated w i in
    let inner = after_prefix (entries (window_spelling w)) in
    plain_back control.XTWINOPS (window_numbers w) 0x74 (window w) h keys.XTWINOPS
    (ap (λ k. made_of control.XTWINOPS (arguments k inner)) (sym numbers.0)) numbers.1

pub mode_status_back : (s : ModeStatus) → AreArguments (mode_status_spelling s).arguments
    → of_params (entries (mode_status_spelling s)) (mode_status_spelling s).last ≡ mode_status s
mode_status_back (statuses.QueryMode m) h =
    between_back control.DECRQM_ANSI (args.Numbers m None None) 0x24 0x70
    (mode_status (statuses.QueryMode m)) h dollar_after keys.DECRQM_ANSI refl refl
mode_status_back (statuses.QueryDecPrivateMode m) h =
    private_between_back 0x3f control.DECRQM (args.Numbers m None None) 0x24 0x70
    (mode_status (statuses.QueryDecPrivateMode m)) h dollar_after refl refl keys.DECRQM refl refl
mode_status_back (statuses.ReportMode m s) h =
    between_back control.DECRPM_ANSI (args.Numbers m (Some (mode_state_number s)) None) 0x24 0x79
    (mode_status (statuses.ReportMode m s)) h dollar_after keys.DECRPM_ANSI refl
    (ap (λ o. stated_value (statuses.ReportMode m) (in_range o)) (mode_state_back s))
mode_status_back (statuses.ReportDecPrivateMode m s) h =
    private_between_back 0x3f control.DECRPM (args.Numbers m (Some (mode_state_number s)) None) 0x24
    0x79 (mode_status (statuses.ReportDecPrivateMode m s)) h dollar_after refl refl keys.DECRPM refl
    (ap (λ o. stated_value (statuses.ReportDecPrivateMode m) (in_range o)) (mode_state_back s))
