-- Rows that are handed out.
use Rattle.std.proofs.Common.{ℕ, ◌≡◌, ◌==◌, ◌+◌, ◌<◌, nat_lt, Bool, true, false, List, [], ◌∷◌, ◌++◌, None, Some, Option, length, take, get_or, replicate, if◌then◌else◌, refl, ap, sym, subst, ◌∙◌, append_assoc, append-nil}
use Rattle.std.specs.List.{FoldsTo}
use Rattle.std.proofs.lemmas.Bool.{true≢false}
use Rattle.std.proofs.lemmas.Fn.{FoldsTo-push}
use Rattle.std.proofs.lemmas.List.{map-append, map_more, replicate_more}
use Rattle.std.proofs.lemmas.Option.{none-some}
use Rattle.esc_values.specs.declared.csi_param.CsiParam.{CsiParam}
use Rattle.typed_functions.specs.Choices.{cursor_tabulation_control_at, tabulation_clear_at}
use Rattle.typed_functions.specs.Functions.{Value as Function, charset, cursor, device, edit, escape, keyboard, modes, mode_status, mouse, other, renditions, tabs, window}
use Rattle.typed_functions.specs.declared.cursor_tabulation_control.CursorTabulationControl.{CursorTabulationControl}
use Rattle.typed_functions.specs.declared.cursor_tabulation_control.CursorTabulationControl.TheVariants as tab
use Rattle.typed_functions.specs.declared.mode_change.ModeChange.{ModeChange}
use Rattle.typed_functions.specs.declared.mode_change.ModeChange.TheVariants as changes
use Rattle.typed_functions.specs.declared.tab_change.TabChange.{TabChange}
use Rattle.typed_functions.specs.declared.tab_change.TabChange.TheVariants as tab_changes
use Rattle.typed_functions.specs.declared.tabulation_clear.TabulationClear.{TabulationClear}
use Rattle.typed_functions.specs.declared.tabulation_clear.TabulationClear.TheVariants as clear
use Rattle.esc_terminal.specs.Links.{Known, Target}
use Rattle.esc_screen.specs.Grids.{Grid, Size}
use Rattle.esc_screen.specs.Scrolled.{gone_by, joined_by, off_by, off_each, off_from}
use Rattle.esc_screen.specs.Steps.{grid_by, grid_from}
use Rattle.esc_screen.specs.declared.cell.Cell.{Cell}
use Rattle.esc_screen.specs.declared.cursor.Cursor.{Cursor as Place}
use Rattle.esc_screen.specs.declared.step.Step.{Step}
use Rattle.esc_screen.specs.declared.step.Step.TheVariants as step
use Rattle.esc_terminal.specs.Scrolled.{Row, with_known}
use Rattle.esc_terminal.specs.Steps.{choice_step, choice_steps, function_known, function_steps, if_clear, if_tab, lead_steps, mode_step, mode_steps, numbered_choice, numbered_step, one_step, private_step, standard_step}

-- ---- steps that scroll nothing off

abbrev is_quiet : Step → Bool
is_quiet (step.Move m) = true
is_quiet (step.Set x) = true
is_quiet step.Nothing = true
is_quiet _ = false

quiet_off : (s : Size) (g : Grid) (x : Step) → is_quiet x ≡ true → off_by s g x ≡ []
quiet_off s g (step.Print c) h = absurd (true≢false (sym h))
quiet_off s g (step.PrintWide c) h = absurd (true≢false (sym h))
quiet_off s g (step.Mark c) h = absurd (true≢false (sym h))
quiet_off s g (step.Repeat n) h = absurd (true≢false (sym h))
quiet_off s g (step.Move m) h = refl
quiet_off s g (step.Edit e) h = absurd (true≢false (sym h))
quiet_off s g (step.Set x) h = refl
quiet_off s g step.Nothing h = refl

quiet_if : (b : Bool) (x y : Step) → is_quiet x ≡ true → is_quiet y ≡ true
    → is_quiet (if b then x else y) ≡ true
quiet_if true x y h k = h
quiet_if false x y h k = k

quiet_standard : (b : Bool) (n : ℕ) → is_quiet (standard_step b n) ≡ true
quiet_standard b n = quiet_if (n == 4) _ _ refl (quiet_if (n == 20) _ _ refl refl)

quiet_private : (b : Bool) (n : ℕ) → is_quiet (private_step b n) ≡ true
quiet_private b n = quiet_if (n == 3) _ _ refl (quiet_if (n == 5) _ _ refl
    (quiet_if (n == 6) _ _ refl (quiet_if (n == 7) _ _ refl (quiet_if (n == 25) _ _ refl
    (quiet_if (n == 40) _ _ refl (quiet_if (n == 47) _ _ refl (quiet_if (n == 1047) _ _ refl
    (quiet_if (n == 1048) _ _ refl (quiet_if (n == 1049) _ _ refl
    (quiet_if (n == 2026) _ _ refl refl))))))))))

quiet_numbered : (c : ModeChange) (n : ℕ) → is_quiet (numbered_step c n) ≡ true
quiet_numbered changes.SetMode n = quiet_standard true n
quiet_numbered changes.ResetMode n = quiet_standard false n
quiet_numbered changes.SetDecPrivateMode n = quiet_private true n
quiet_numbered changes.ResetDecPrivateMode n = quiet_private false n
quiet_numbered changes.SaveDecPrivateMode n = refl
quiet_numbered changes.RestoreDecPrivateMode n = refl

quiet_mode : (c : ModeChange) (m : Option ℕ) → is_quiet (mode_step c m) ≡ true
quiet_mode c None = refl
quiet_mode c (Some n) = quiet_numbered c n

modes_off : (s : Size) (g : Grid) (c : ModeChange) (ms : List (Option ℕ × List CsiParam))
    → off_from s g (mode_steps c ms) ≡ []
modes_off s g c [] = refl
modes_off s g c (m ∷ ms) =
    let h = grid_by s g (mode_step c m.0) in
    ap (λ z. z ++ off_from s h (mode_steps c ms))
    (quiet_off s g (mode_step c m.0) (quiet_mode c m.0))
    ∙ modes_off s h c ms

quiet_clear : (o : Option TabulationClear) → is_quiet (if_clear o) ≡ true
quiet_clear None = refl
quiet_clear (Some clear.ClearCharacterTabStopAtActivePosition) = refl
quiet_clear (Some clear.ClearLineTabStopAtActivePosition) = refl
quiet_clear (Some clear.ClearCharacterTabStopsAtActiveLine) = refl
quiet_clear (Some clear.ClearAllCharacterTabStops) = refl
quiet_clear (Some clear.ClearAllLineTabStops) = refl
quiet_clear (Some clear.ClearAllTabStops) = refl

quiet_tab : (o : Option CursorTabulationControl) → is_quiet (if_tab o) ≡ true
quiet_tab None = refl
quiet_tab (Some tab.SetCharacterTabStopAtActivePosition) = refl
quiet_tab (Some tab.SetLineTabStopAtActiveLine) = refl
quiet_tab (Some tab.ClearCharacterTabStopAtActivePosition) = refl
quiet_tab (Some tab.ClearLineTabStopAtActiveLine) = refl
quiet_tab (Some tab.ClearCharacterTabStopsAtActiveLine) = refl
quiet_tab (Some tab.ClearAllCharacterTabStops) = refl
quiet_tab (Some tab.ClearAllLineTabStops) = refl

quiet_numbered_choice : (c : TabChange) (n : ℕ) → is_quiet (numbered_choice c n) ≡ true
quiet_numbered_choice tab_changes.Clear n = quiet_clear (tabulation_clear_at n)
quiet_numbered_choice tab_changes.Control n = quiet_tab (cursor_tabulation_control_at n)

quiet_choice : (c : TabChange) (m : Option ℕ) → is_quiet (choice_step c m) ≡ true
quiet_choice c None = refl
quiet_choice c (Some n) =
    quiet_if (nat_lt n 256) (numbered_choice c n) step.Nothing (quiet_numbered_choice c n) refl

choices_off : (s : Size) (g : Grid) (c : TabChange) (ns : List (Option ℕ × List CsiParam))
    → off_from s g (choice_steps c ns) ≡ []
choices_off s g c [] = refl
choices_off s g c (n ∷ ns) =
    let h = grid_by s g (choice_step c n.0) in
    ap (λ z. z ++ off_from s h (choice_steps c ns))
    (quiet_off s g (choice_step c n.0) (quiet_choice c n.0))
    ∙ choices_off s h c ns

-- ---- functions

-- the steps of one that is more than one step scroll nothing off
pub function_off : (s : Size) (g : Grid) (ls : Known) (k : Place) (f : Function)
    → None ≡ one_step k f → off_from s g (function_steps ls k f) ≡ []
function_off s g ls k (cursor c) h = absurd (none-some _ h)
function_off s g ls k (edit e) h = absurd (none-some _ h)
function_off s g ls k (device d) h = absurd (none-some _ h)
function_off s g ls k (keyboard d) h = refl
function_off s g ls k (mouse d) h = refl
function_off s g ls k (window d) h = refl
function_off s g ls k (mode_status d) h = refl
function_off s g ls k (charset c) h = absurd (none-some _ h)
function_off s g ls k (escape e) h = absurd (none-some _ h)
function_off s g ls k (modes c ms) h = modes_off s g c ms
function_off s g ls k (tabs c ns) h = choices_off s g c ns
function_off s g ls k (renditions rs) h = refl
function_off s g ls k (other d) h = refl

abbrev as_list : Option Step → List Step
as_list None = []
as_list (Some x) = x ∷ []

-- a function that is a step is this step alone, and changes nothing that is known
pub one_is : (ls : Known) (k : Place) (f : Function) (x : Step) → one_step k f ≡ Some x
    → (function_steps ls k f ≡ x ∷ []) × (function_known ls k f ≡ ls)
one_is ls k (cursor c) x h = (ap as_list h, refl)
one_is ls k (edit e) x h = (ap as_list h, refl)
one_is ls k (device d) x h = (ap as_list h, refl)
one_is ls k (keyboard d) x h = absurd (none-some x h)
one_is ls k (mouse d) x h = absurd (none-some x h)
one_is ls k (window d) x h = absurd (none-some x h)
one_is ls k (mode_status d) x h = absurd (none-some x h)
one_is ls k (charset c) x h = (ap as_list h, refl)
one_is ls k (escape e) x h = (ap as_list h, refl)
one_is ls k (modes c ms) x h = absurd (none-some x h)
one_is ls k (tabs c ns) x h = absurd (none-some x h)
one_is ls k (renditions rs) x h = absurd (none-some x h)
one_is ls k (other d) x h = absurd (none-some x h)

-- the begin or the end of a link scrolls nothing off
pub lead_rows : {R : Type 0} (takes : R → Row → R → Type 0) (s : Size) (g : Grid) (c : Place)
    (k : Known) (o : Option (Option Target)) (r : R)
    → FoldsTo takes r (with_known k (off_from s g (lead_steps c k o))) r
lead_rows takes s g c k None r = refl
lead_rows takes s g c k (Some t) r = refl

-- ---- rows, one after another

-- a row more
pub row_more : {R : Type 0} (takes : R → Row → R → Type 0) (ls : Known)
    (rs : List (List Cell)) (i : ℕ) (p j q : R) → i < length rs
    → FoldsTo takes p (with_known ls (take i rs)) j → takes j (get_or rs i [], ls) q
    → FoldsTo takes p (with_known ls (take (i + 1) rs)) q
row_more {R} takes ls rs i p j q less so next =
    subst (λ z. FoldsTo takes p z q) (sym (map_more (λ r. (r, ls)) rs i [] less))
    (FoldsTo-push takes p (with_known ls (take i rs)) j (get_or rs i [], ls) q so next)

off_push : (s : Size) (g : Grid) (xs : List Step) (x : Step)
    → off_each s g (xs ++ x ∷ [])
    ≡ off_each s g xs ++ take (gone_by s (grid_from s g xs) x)
    (joined_by s (grid_from s g xs) x).rows
off_push s g [] x = append-nil _
off_push s g (y ∷ ys) x =
    let h = grid_by s g y in
    let off = take (gone_by s g y) (joined_by s g y).rows in
    ap (λ z. off ++ z) (off_push s h ys x)
    ∙ sym (append_assoc off (off_each s h ys)
    (take (gone_by s (grid_from s h ys) x) (joined_by s (grid_from s h ys) x).rows))

-- the rows that one step more scrolls off
pub part_more : (s : Size) (g : Grid) (x : Step) (n : ℕ) (ls : Known)
    → let h = grid_from s g (replicate n x) in
    with_known ls (off_each s g (replicate n x))
    ++ with_known ls (take (gone_by s h x) (joined_by s h x).rows)
    ≡ with_known ls (off_each s g (replicate (n + 1) x))
part_more s g x n ls =
    let h = grid_from s g (replicate n x) in
    let rest = take (gone_by s h x) (joined_by s h x).rows in
    sym (map-append (λ r. (r, ls)) (off_each s g (replicate n x)) rest)
    ∙ ap (with_known ls) (sym (off_push s g (replicate n x) x)
    ∙ ap (off_each s g) (replicate_more n x))
