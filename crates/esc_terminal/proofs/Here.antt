-- Characters for which the row of the cursor has columns scroll nothing off.
use Rattle.std.proofs.Common.{ℕ, ◌≡◌, ◌+◌, ◌-◌, ◌<◌, ◌≤◌, Bool, IsTrue, nat_le, not, true, false, ◌&&◌, Result, Ok, Err, OnErr, OnOk, List, [], ◌∷◌, ◌++◌, length, map, take, if◌then◌else◌, refl, ap, sym, subst, ◌∙◌, arith}
use Rattle.std.specs.List.{FoldsTo, list_all}
use Rattle.std.proofs.lemmas.Bool.{and_parts, true≢false}
use Rattle.std.proofs.lemmas.Bool.Decides.{nat_tests}
use Rattle.esc_actions.specs.Values.{value_of}
use Rattle.esc_actions.specs.declared.action.Action.TheVariants as action
use Rattle.esc_parse.specs.Given.{Receives}
use Rattle.esc_parse.proofs.Runs.RunsOfText.{refuses_run}
use Rattle.esc_screen.specs.Cells.{inserted_cells}
use Rattle.esc_screen.specs.Cursors.{drawn_character}
use Rattle.esc_screen.specs.Grids.{Grid, Size, in_row}
use Rattle.esc_screen.specs.Printing.{grid_with_character, narrow_printed, narrow_put}
use Rattle.esc_screen.specs.Screens.{grid_of, size_of}
use Rattle.esc_screen.specs.Scrolled.{gone_fed, joined_narrow, off_from}
use Rattle.esc_screen.specs.Steps.{grid_by}
use Rattle.esc_screen.specs.declared.step.Step.TheVariants as step
use Rattle.esc_screen.proofs.Printing.RunsOfCharacters.{landed_in, not_wrapped}
use Rattle.esc_terminal.specs.Fed.{Takes, known_in, shown_in}
use Rattle.esc_terminal.specs.Kept.{HasColumns, KeepsAction, has_column, has_room}
use Rattle.esc_terminal.specs.Scrolled.{Row, off_by_value, with_known}
use Rattle.esc_terminal.specs.Steps.{print_step}
use Rattle.esc_terminal.specs.declared.keeping.Keeping.{Keeping}
use Rattle.esc_terminal.specs.declared.state.State.{State}
use Rattle.esc_terminal.proofs.Runs.{step_is}

-- a call that prints them one by one
pub each_received : {R A E : Type 0} (takes : R → Row → R → Type 0) (fails why : Type 0)
    (cs : List ℕ) (p q : Keeping R A) (r : Result (Unit {0}) E) → 0 < length cs → (fails → why)
    → OnOk r (FoldsTo (KeepsAction takes) p (map action.Print cs) q) → OnErr r fails
    → Receives ⊥ (KeepsAction takes) (λ p a q. why) r p (map action.Print cs) q
each_received takes fails why cs p q (Ok u) some k ok failed = ok
each_received takes fails why cs p q (Err e) some k ok failed =
    refuses_run (KeepsAction takes) (λ p a q. why) cs p q some (λ x. k failed)

-- the row of the cursor has columns for them, where a call says so
pub has_them : {A : Type 0} (cs : List ℕ) (p : State A) (b : Bool) → list_all has_column cs ≡ true
    → b ≡ has_room (length cs) p → IsTrue b → HasColumns cs p
has_them cs p true all is h =
    let q = and_parts (not p.screen.cursor.pending)
    (nat_le (length cs) (p.screen.max_columns - p.screen.cursor.column)) (sym is) in
    record {
      shown = all;
      ready = no_more p.screen.cursor.pending q.0;
      fits = within (length cs) (p.screen.max_columns - p.screen.cursor.column) q.1;
    }
  where
    no_more : (b : Bool) → not b ≡ true → b ≡ false
    no_more true h = absurd (true≢false (sym h))
    no_more false h = refl

    within : (m n : ℕ) → nat_le m n ≡ true → m ≤ n
    within m n h = grind (arith, nat_tests)
has_them cs p false all is h = absurd (true≢false (sym h))

-- where the cursor is after a character that leaves a column
printed_cursor : (s : Size) (c : ℕ) (g : Grid) → g.cursor.pending ≡ false
    → g.cursor.column + 1 < s.columns
    → (narrow_printed s c g).cursor ≡ record (g.cursor) { column = g.cursor.column + 1 }
printed_cursor s c g ready less =
    ap (λ z. (narrow_put s c z).cursor) (not_wrapped s g ready) ∙ by g.modes.inserts
  where
    by : (b : Bool) → (grid_with_character s (drawn_character g.cursor c) (if b
        then in_row (inserted_cells g.cursor.erased 1 g.cursor.column s.columns) g
        else g)).cursor ≡ record (g.cursor) { column = g.cursor.column + 1 }
    by true = landed_in s g.modes.wraps (g.cursor.column + 1) g less
    by false = landed_in s g.modes.wraps (g.cursor.column + 1) g less

none_off : (s : Size) (c : ℕ) (g : Grid) → has_column c ≡ true → g.cursor.pending ≡ false
    → off_from s g (print_step c ∷ []) ≡ []
none_off s c g drawn_character ready =
    ap (λ x. off_from s g (x ∷ [])) (step_is c drawn_character)
    ∙ ap (λ (b : Bool). (take (if b && g.modes.wraps then gone_fed g else 0) (joined_narrow g).rows
    ++ []) ++ []) ready

one_kept : {R A : Type 0} (takes : R → Row → R → Type 0) (c : ℕ) (p : Keeping R A) (j : State A)
    → has_column c ≡ true → p.state.screen.cursor.pending ≡ false
    → Takes p.state (action.Print c) j
    → KeepsAction takes p (action.Print c) (record p { state = j })
one_kept takes c p j drawn_character ready h = (
  h,
  subst (λ rs. FoldsTo takes p.rows (with_known (known_in p.state) rs) p.rows)
      (sym (none_off (size_of p.state.screen) c (grid_of p.state.screen) drawn_character ready))
      refl,
)

-- a terminal that hands out rows takes characters as others do
pub here_kept : {R A : Type 0} (takes : R → Row → R → Type 0) (cs : List ℕ) (p : Keeping R A)
    (q : State A) → HasColumns cs p.state → FoldsTo Takes p.state (map action.Print cs) q
    → FoldsTo (KeepsAction takes) p (map action.Print cs) (record p { state = q })
here_kept takes [] p q has e = ap (λ z. record p { state = z }) e
here_kept takes (c ∷ []) p q has (j, h, e) =
    let k = and_parts (has_column c) true has.shown in (
      record p { state = j },
      one_kept takes c p j k.0 has.ready h,
      ap (λ z. record p { state = z }) e,
    )
here_kept takes (c ∷ d ∷ cs) p q has (j, h, rest) =
    let k = and_parts (has_column c) (list_all has_column (d ∷ cs)) has.shown in
    let s = size_of p.state.screen in
    let g = grid_of p.state.screen in
    let less : g.cursor.column + 1 < s.columns = omega (arith, has.fits) in
    let at : j.screen.cursor ≡ record (g.cursor) { column = g.cursor.column + 1 } =
    ap (λ z. z.cursor) (h.screen.grid ∙ ap (grid_by s g) (step_is c k.0))
    ∙ printed_cursor s c g has.ready less in
    let column = ap (λ z. z.column) at in
    let columns = ap (λ z. z.columns) h.screen.size in (
      record p { state = j },
      one_kept takes c p j k.0 has.ready h,
      here_kept takes (d ∷ cs) (record p { state = j }) q
          (record {
            shown = k.1;
            ready = ap (λ z. z.pending) at ∙ has.ready;
            fits = omega (arith, has.fits, column, columns);
          }) rest,
    )
