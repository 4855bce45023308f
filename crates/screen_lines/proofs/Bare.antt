-- Rows of which no look but the plain one is known, and no link.
use Rattle.std.proofs.Common.{ℕ, zero, suc, ◌≡◌, ◌-◌, ◌==◌, nat_lt, Bool, true, false, if◌then◌else◌, List, [], ◌∷◌, ◌++◌, get_or, replicate, is_some, Option, Some, None, refl, sym, ap, ◌∙◌, subst, arith}
use Rattle.std.specs.List.{All, list_all}
use Rattle.std.proofs.lemmas.Bool.Decides.{nat_tests}
use Rattle.std.proofs.lemmas.List.{get_or_past}
use Rattle.std.proofs.lemmas.List.Elements.{All-cons, All-head, All-nil, All-tail}
use Rattle.std.proofs.lemmas.List.Folds.{list_all-append}
use Rattle.esc_filter.specs.Tokens.{IsOfTokens}
use Rattle.esc_screen.specs.Cells.{is_rest}
use Rattle.esc_screen.specs.declared.cell.Cell.{Cell}
use Rattle.esc_screen.specs.declared.content.Content.{Content}
use Rattle.esc_screen.specs.declared.content.Content.TheVariants as content
use Rattle.esc_style.specs.Looks.{plain_look}
use Rattle.esc_style.specs.declared.look.Look.{Look}
use Rattle.esc_terminal.specs.Links.{first_known, known_look, known_target, link_number, linked_of}
use Rattle.esc_terminal.specs.Looks.{most_looks}
use Rattle.esc_terminal.specs.Scrolled.{Row}
use Rattle.screen_lines.specs.Parts.{Out, Part}
use Rattle.screen_lines.specs.Parts.Part.{Change, Character, Lead}
use Rattle.screen_lines.specs.Rows.{blanks_held, blanks_parts, cell_parts, cells_parts, change_parts, content_parts, ended_parts, first_going, gap_parts, going_by, held_link, held_look, is_hidden, is_same_number, leads_parts, mark_parts, out_by_rows, plain_parts, seen_parts}
use Rattle.screen_lines.specs.declared.going.Going.{Going}
use Rattle.screen_lines.proofs.Tokens.{AreFit, fits, rows_tokens}

abbrev AreBare : List Part → Type 0
AreBare ps = list_all (fits false) ps ≡ true

bare_both : (ps qs : List Part) → AreBare ps → AreBare qs → AreBare (ps ++ qs)
bare_both ps qs h k = list_all-append (fits false) ps qs ∙ rw (h, k) refl

-- ---- the knowledge of a screen

plain_at : (n : ℕ) → get_or (plain_look ∷ []) n plain_look ≡ plain_look
plain_at zero = refl
plain_at (suc n) = get_or_past [] n plain_look (omega arith)

look_first : (n : ℕ) → known_look n first_known ≡ plain_look
look_first n =
    plain_at (if nat_lt n most_looks then n else (get_or [] (n - most_looks) (linked_of 0 0)).look)

none_below : (n : ℕ) → nat_lt n 0 ≡ false
none_below n = grind (arith, nat_tests)

link_first : (n : ℕ) → link_number n [] ≡ None
link_first n = by (nat_lt n most_looks)
  where
    by : (t : Bool) → (if t then None
        else if nat_lt (n - most_looks) 0
        then Some (get_or [] (n - most_looks) (linked_of 0 0)).link
        else None) ≡ None
    by true = refl
    by false =
        ap (λ (t : Bool). if t then Some (get_or [] (n - most_looks) (linked_of 0 0)).link
        else None)
        (none_below (n - most_looks))

held_plain : (h : Option ℕ) → held_look first_known h ≡ plain_look
held_plain None = refl
held_plain (Some n) = look_first n

held_none : (h : Option ℕ) → held_link first_known h ≡ None
held_none None = refl
held_none (Some n) = link_first n

-- ---- parts

bare_change : (a b : Look) → a ≡ plain_look → b ≡ plain_look → AreBare (Change a b ∷ [])
bare_change a b e f =
    ap (λ x. list_all (fits false) (Change x b ∷ [])) e
    ∙ ap (λ x. list_all (fits false) (Change plain_look x ∷ [])) f

no_leads : (h : Option ℕ) (n : ℕ) → leads_parts first_known h n ≡ []
no_leads h n =
    ap (λ (t : Bool). if t then [] else Lead (known_target n first_known) ∷ [])
    (ap (λ o. is_same_number o (link_number n [])) (held_none h)
    ∙ ap (is_same_number None) (link_first n))

bare_changes : (h : Option ℕ) (n : ℕ) → AreBare (change_parts first_known h n)
bare_changes h n = by (is_same_number h (Some n))
  where
    by : (t : Bool) → AreBare (if t then []
        else leads_parts first_known h n
        ++ Change (held_look first_known h) (known_look n first_known) ∷ [])
    by true = refl
    by false =
        ap (λ ps. list_all (fits false)
        (ps ++ Change (held_look first_known h) (known_look n first_known) ∷ [])) (no_leads h n)
        ∙ bare_change (held_look first_known h) (known_look n first_known) (held_plain h)
        (look_first n)

bare_plain : (h : Option ℕ) → AreBare (plain_parts first_known h)
bare_plain None = refl
bare_plain (Some n) =
    ap (λ o. list_all (fits false) (ended_parts (is_some o)
    ++ Change (known_look n first_known) plain_look ∷ [])) (link_first n)
    ∙ bare_change (known_look n first_known) plain_look (look_first n) refl

bare_spaces : (n : ℕ) → AreBare (replicate n (Character 0x20))
bare_spaces zero = refl
bare_spaces (suc n) = bare_spaces n

bare_blanks : (h : Option ℕ) (n : ℕ) → AreBare (blanks_parts first_known h n)
bare_blanks h n = by (n == 0)
  where
    by : (t : Bool) → AreBare (if t then []
        else plain_parts first_known h ++ replicate n (Character 0x20))
    by true = refl
    by false = bare_both (plain_parts first_known h) (replicate n (Character 0x20)) (bare_plain h)
        (bare_spaces n)

bare_marks : (a b : Option ℕ) → AreBare (mark_parts a ++ mark_parts b)
bare_marks None None = refl
bare_marks None (Some c) = refl
bare_marks (Some c) None = refl
bare_marks (Some c) (Some d) = refl

bare_content : (x : Content) → AreBare (content_parts x)
bare_content content.Blank = refl
bare_content content.Rest = refl
bare_content (content.Narrow c m) = bare_marks m.first m.second
bare_content (content.Wide c m) = bare_marks m.first m.second

-- ---- cells

bare_seen : (w : Going) (x : Cell) → AreBare (seen_parts first_known w x)
bare_seen w x =
    let h = blanks_held w.held w.blanks in
    bare_both (blanks_parts first_known w.held w.blanks)
    (change_parts first_known h x.look ++ content_parts x.content)
    (bare_blanks w.held w.blanks)
    (bare_both (change_parts first_known h x.look) (content_parts x.content)
    (bare_changes h x.look) (bare_content x.content))

bare_cell : (w : Going) (x : Cell) → AreBare (cell_parts first_known w x)
bare_cell w x = by (is_hidden first_known x) (is_rest x)
  where
    by : (s t : Bool) → AreBare (if s then [] else if t then [] else seen_parts first_known w x)
    by true t = refl
    by false true = refl
    by false false = bare_seen w x

bare_cells : (w : Going) (xs : List Cell) → AreBare (cells_parts first_known w xs)
bare_cells w [] = bare_plain w.held
bare_cells w (x ∷ xs) =
    let v = going_by first_known w x in
    bare_both (cell_parts first_known w x) (cells_parts first_known v xs) (bare_cell w x)
    (bare_cells v xs)

bare_gap : (b : Bool) → AreBare (gap_parts b)
bare_gap true = refl
bare_gap false = refl

-- ---- rows

bare_row : (r : Row) → r.1 ≡ first_known → AreFit false r
bare_row (xs, k) e b =
    bare_both (gap_parts b) (cells_parts k first_going xs) (bare_gap b)
    (subst (λ z. AreBare (cells_parts z first_going xs)) (sym e) (bare_cells first_going xs))

bare_rows : (rs : List Row) → All (λ r. r.1 ≡ first_known) rs → All (AreFit false) rs
bare_rows [] h = All-nil (AreFit false)
bare_rows (r ∷ rs) h =
    All-cons (AreFit false) r rs (bare_row r (All-head (λ r. r.1 ≡ first_known) r rs h))
    (bare_rows rs (All-tail (λ r. r.1 ≡ first_known) r rs h))

pub bare_out : (o : Out) (rs : List Row) → o.ink.leads ≡ false
    → All (λ r. r.1 ≡ first_known) rs → IsOfTokens false o.text
    → IsOfTokens false (out_by_rows o rs).text × ((out_by_rows o rs).ink.leads ≡ false)
bare_out o rs i h t = rows_tokens false o rs (bare_rows rs h) i t

pub plain_rows : (o : Out) (rs : List Row) → o.ink.leads ≡ false
    → All (λ r. r.1 ≡ first_known) rs → IsOfTokens false o.text
    → IsOfTokens false (out_by_rows o rs).text
plain_rows o rs i h t = (bare_out o rs i h t).0
