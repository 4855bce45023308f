-- The rest of the lines of a stream is of characters, line feeds, renditions and links.
use Rattle.std.proofs.Common.{◌≡◌, Bool, true, false, ◌||◌, List, [], ◌∷◌, Option, Some, None, is_some, refl, ◌∙◌}
use Rattle.std.specs.List.{All, list_any}
use Rattle.std.proofs.lemmas.Bool.{true≢false}
use Rattle.std.proofs.lemmas.List.Elements.{All-append, All-cons, All-nil}
use Rattle.esc_actions.specs.Values.{Value, print, string, control, esc, csi, osc, kitty, sixel, termcap, short, enter, datum, exit}
use Rattle.esc_filter.specs.Tokens.{IsOfTokens}
use Rattle.esc_filter.proofs.Output.AdmittedTextsAreUnits.{more_parts, no_parts}
use Rattle.typed_functions.specs.Escapes.{of_escape}
use Rattle.typed_functions.specs.Functions.{Value as Function, charset, cursor, device, edit, escape, keyboard, modes, mode_status, mouse, of_csi, other, renditions, tabs, window}
use Rattle.esc_screen.specs.declared.cell.Cell.{Cell}
use Rattle.esc_screen.specs.declared.cursor.Cursor.{Cursor as Place}
use Rattle.esc_terminal.specs.Links.{Known, Target, first_known, lead_in}
use Rattle.esc_terminal.specs.Scrolled.{Row, off_after, off_by_value, with_known}
use Rattle.esc_terminal.specs.Steps.{function_known, known_by, lead_known}
use Rattle.esc_terminal.specs.Streams.{Shown, first_shown, shown_after, shown_by}
use Rattle.esc_screen.specs.Grids.{Size as Screen}
use Rattle.screen_lines.specs.Parts.{emptied_out, first_out}
use Rattle.screen_lines.proofs.Bare.{bare_out}
use Rattle.screen_lines.proofs.Tokens.{color_rows}
use Rattle.line_collapse.specs.Streams.{final_of, final_out, is_selection, left_of, left_rows, open_of, rows_left, selects, shown_by_all}
use Rattle.line_collapse.specs.Windows.{Size, screen_of}

-- ---- any stream

pub final_color : {A : Type 0} (z : Size) (vs : List (Value A)) → IsOfTokens true (final_of z vs)
final_color z vs = color_rows (first_out z.characters)
    (off_after (screen_of z) (first_shown (screen_of z)) vs) (no_parts true)

pub left_color : {A : Type 0} (z : Size) (vs : List (Value A)) → IsOfTokens true (left_of z vs)
left_color z vs =
    more_parts true (final_of z vs) (open_of z vs) (final_color z vs)
    (color_rows (emptied_out (final_out z vs)) (left_rows (shown_by_all z vs)) (no_parts true))

-- ---- a stream in which nothing selects a look or a link

abbrev IsPlainRow : Row → Type 0
IsPlainRow r = r.1 ≡ first_known

neither : (a b : Bool) → (a || b) ≡ false → (a ≡ false) × (b ≡ false)
neither true b h = absurd (true≢false h)
neither false b h = (refl, h)

function_kept : (ks : Known) (k : Place) (f : Function) → is_selection f ≡ false
    → function_known ks k f ≡ ks
function_kept ks k (cursor c) h = refl
function_kept ks k (edit e) h = refl
function_kept ks k (device d) h = refl
function_kept ks k (keyboard d) h = refl
function_kept ks k (mouse d) h = refl
function_kept ks k (window d) h = refl
function_kept ks k (mode_status d) h = refl
function_kept ks k (charset c) h = refl
function_kept ks k (escape e) h = refl
function_kept ks k (modes c ms) h = refl
function_kept ks k (tabs c ns) h = refl
function_kept ks k (renditions rs) h = absurd (true≢false h)
function_kept ks k (other d) h = refl

lead_kept : (ks : Known) (k : Place) (o : Option (Option Target)) → is_some o ≡ false
    → lead_known k ks o ≡ ks
lead_kept ks k None h = refl
lead_kept ks k (Some t) h = absurd (true≢false h)

value_kept : {A : Type 0} (ks : Known) (k : Place) (v : Value A) → selects v ≡ false
    → known_by ks k v ≡ ks
value_kept ks k (print c) h = refl
value_kept ks k (string t) h = refl
value_kept ks k (control c) h = refl
value_kept ks k (esc e) h = function_kept ks k (of_escape e) h
value_kept ks k (csi c) h = function_kept ks k (of_csi c) h
value_kept ks k (osc c) h = lead_kept ks k (lead_in c) h
value_kept ks k (kitty i) h = refl
value_kept ks k (sixel s) h = refl
value_kept ks k (termcap ns) h = refl
value_kept ks k (short s) h = refl
value_kept ks k (enter e) h = refl
value_kept ks k (datum b) h = refl
value_kept ks k exit h = refl

plain_all : (k : Known) (rs : List (List Cell)) → k ≡ first_known
    → All IsPlainRow (with_known k rs)
plain_all k [] e = All-nil IsPlainRow
plain_all k (r ∷ rs) e = All-cons IsPlainRow (r, k) (with_known k rs) e (plain_all k rs e)

off_plain : {A : Type 0} (s : Screen) (t : Shown) (vs : List (Value A)) → t.known ≡ first_known
    → list_any selects vs ≡ false → All IsPlainRow (off_after s t vs)
off_plain s t [] e h = All-nil IsPlainRow
off_plain s t (v ∷ vs) e h =
    let q = neither (selects v) (list_any selects vs) h in
    All-append IsPlainRow (off_by_value s t v) (off_after s (shown_by s t v) vs)
    (plain_all t.known _ e)
    (off_plain s (shown_by s t v) vs (value_kept t.known t.grid.cursor v q.0 ∙ e) q.1)

known_plain : {A : Type 0} (s : Screen) (t : Shown) (vs : List (Value A)) → t.known ≡ first_known
    → list_any selects vs ≡ false → (shown_after s t vs).known ≡ first_known
known_plain s t [] e h = e
known_plain s t (v ∷ vs) e h =
    let q = neither (selects v) (list_any selects vs) h in
    known_plain s (shown_by s t v) vs (value_kept t.known t.grid.cursor v q.0 ∙ e) q.1

final_bare : {A : Type 0} (z : Size) (vs : List (Value A)) → list_any selects vs ≡ false
    → IsOfTokens false (final_of z vs) × ((final_out z vs).ink.leads ≡ false)
final_bare z vs h =
    let s = screen_of z in
    bare_out (first_out z.characters) (off_after s (first_shown s) vs) refl
    (off_plain s (first_shown s) vs refl h) (no_parts false)

pub final_plain : {A : Type 0} (z : Size) (vs : List (Value A)) → list_any selects vs ≡ false
    → IsOfTokens false (final_of z vs)
final_plain z vs h = (final_bare z vs h).0

pub left_plain : {A : Type 0} (z : Size) (vs : List (Value A)) → list_any selects vs ≡ false
    → IsOfTokens false (left_of z vs)
left_plain z vs h =
    let s = screen_of z in
    let t = shown_by_all z vs in
    let f = final_bare z vs h in
    more_parts false (final_of z vs) (open_of z vs) f.0
    (bare_out (emptied_out (final_out z vs)) (left_rows t) f.1
    (plain_all t.known (rows_left t.known t.grid) (known_plain s (first_shown s) vs refl h))
    (no_parts false)).0
