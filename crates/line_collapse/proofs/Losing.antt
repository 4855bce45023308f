-- The text that stands in no row.
use Rattle.std.proofs.Common.{ℕ, ◌≡◌, Bool, true, false, if◌then◌else◌, List, [], ◌∷◌, ◌++◌, Some, None, Option, IsSomeAnd, is_some, refl, sym, ap, ◌∙◌, subst}
use Rattle.line_collapse.specs.Amounts.{missing}
use Rattle.line_collapse.specs.Tallies.{HasTallied, kept_amount, printed_amount}
use Rattle.line_collapse.specs.declared.tally.Tally.{Tally}
use Rattle.esc_actions.specs.Values.{Value}
use Rattle.esc_screen.specs.Grids.{Size as Screened}
use Rattle.esc_screen.specs.Screens.{grid_of}
use Rattle.esc_screen.specs.declared.cell.Cell.{Cell}
use Rattle.esc_screen.specs.declared.screen.Screen.{Screen}
use Rattle.esc_terminal.specs.Fed.{Shows, screen_in, styles_in}
use Rattle.esc_terminal.specs.Links.{known_of}
use Rattle.esc_terminal.specs.Streams.{Shown, shown_of}
use Rattle.esc_terminal.specs.declared.state.State.{State}
use Rattle.esc_terminal.specs.declared.styles.Styles.{Styles}
use Rattle.line_collapse.proofs.Closing.{some_same}
use Rattle.line_collapse.specs.Lost.{final_cells, lost_by, lost_of}
use Rattle.line_collapse.specs.Streams.{rows_left, values_of}
use Rattle.line_collapse.specs.Taken.{IsCounted, IsCountedBy}
use Rattle.line_collapse.specs.Windows.{Size, screen_of}

-- on the screen that a terminal shows
lost_shown : {A : Type 0} (z : Screened) (s : List ℕ) (rs : List (List Cell))
    (o : Option (State A)) (p : Screen A) (k : Styles A) (n : ℕ) → Some p ≡ screen_in o
    → Some k ≡ styles_in o → IsSomeAnd o (Shows z s)
    → n ≡ missing (printed_amount A z.rows z.columns s)
    (kept_amount (rs ++ rows_left (known_of k) (grid_of p)))
    → n ≡ missing (printed_amount A z.rows z.columns s)
    (kept_amount (rs ++ rows_left (shown_of A z s).known (shown_of A z s).grid))
lost_shown z s rs None p k n e f h c = absurd h
lost_shown {A} z s rs (Some t) p k n e f h c =
    let a = printed_amount A z.rows z.columns s in
    subst (λ (x : Shown). n ≡ missing a (kept_amount (rs ++ rows_left x.known x.grid))) h.shown
    (subst (λ x. n ≡ missing a (kept_amount (rs ++ rows_left (known_of x) (grid_of t.screen))))
    (some_same k t.styles f)
    (subst (λ x. n ≡ missing a (kept_amount (rs ++ rows_left (known_of k) (grid_of x))))
    (some_same p t.screen e) c))

-- as the screen counts
by_counts : {A : Type 0} (z : Size) (vs : List (Value A)) (n : ℕ) → z.counts ≡ true
    → n ≡ lost_of z vs → n ≡ lost_by z vs
by_counts z vs n c e = e ∙ sym (ap (λ (b : Bool). if b then lost_of z vs else 0) c)

pub none_lost : {A : Type 0} (z : Size) (s : List ℕ) (o : Option (Tally A)) (vs : List (Value A))
    → o ≡ None → IsCountedBy z s (final_cells A z s) o → 0 ≡ lost_by z vs
none_lost z s o vs e h =
    sym (ap (λ (b : Bool). if b then lost_of z vs else 0) (sym h.0 ∙ ap is_some e))

pub all_lost : {A : Type 0} (z : Size) (s : List ℕ) (o : Option (Tally A)) (t : Tally A)
    (w : Option (State A)) (p : Screen A) (k : Styles A) (n : ℕ) → o ≡ Some t
    → IsCountedBy z s (final_cells A z s) o → Some p ≡ screen_in w → Some k ≡ styles_in w
    → IsSomeAnd w (Shows (screen_of z) s)
    → ((i j : ℕ) (rs : List (List Cell)) → HasTallied i j s rs t
    → n ≡ missing (printed_amount A i j s)
    (kept_amount (rs ++ rows_left (known_of k) (grid_of p))))
    → n ≡ lost_by z (values_of A s)
all_lost {A} z s o t w p k n is h e f shows counted =
    let rs = final_cells A z s in
    let m = (screen_of z).rows in
    let i = (screen_of z).columns in
    let at = subst (IsCounted m i s rs) is h.1 in
    by_counts z (values_of A s) n (sym h.0 ∙ ap is_some is)
    (lost_shown (screen_of z) s rs w p k n e f shows (counted m i rs at))
