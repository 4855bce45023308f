-- The text that is written of the screen of a terminal.
use Rattle.std.proofs.Common.{◌≡◌, ℕ, List, [], ◌∷◌, Option, None, Some, IsSomeAnd, refl, ap, subst, take, ◌∙◌}
use Rattle.std.proofs.lemmas.Option.{none-some}
use Rattle.esc_screen.specs.Grids.{Grid, Size}
use Rattle.esc_screen.specs.Screens.{grid_of}
use Rattle.esc_screen.specs.Scrolled.{main_rows}
use Rattle.esc_screen.specs.declared.screen.Screen.{Screen}
use Rattle.esc_terminal.specs.Fed.{Shows, screen_in, styles_in}
use Rattle.esc_terminal.specs.Links.{Known, known_of}
use Rattle.esc_terminal.specs.Scrolled.{Row, with_known}
use Rattle.esc_terminal.specs.Streams.{shown_of}
use Rattle.esc_terminal.specs.declared.state.State.{State}
use Rattle.esc_terminal.specs.declared.styles.Styles.{Styles}
use Rattle.screen_lines.specs.Parts.{Out, Part, emptied_out, out_by, out_from}
use Rattle.screen_lines.specs.Rows.{out_by_row, out_by_rows, row_parts}
use Rattle.screen_lines.specs.Written.{out_of}
use Rattle.screen_lines.specs.declared.lines.Lines.{Lines}
use Rattle.screen_lines.specs.declared.state.State.{State as Left}
use Rattle.line_collapse.specs.Fed.{Closes, ClosesOn}
use Rattle.line_collapse.specs.Streams.{rows_left}

-- ---- rows of a screen

-- the choice for characters that deceive stays the same
parts_keep : (o : Out) (ps : List Part) → (out_from o ps).characters ≡ o.characters
parts_keep o [] = refl
parts_keep o (p ∷ ps) = parts_keep (out_by o p) ps

rows_keep : (o : Out) (rs : List Row) → (out_by_rows o rs).characters ≡ o.characters
rows_keep o [] = refl
rows_keep o (r ∷ rs) =
    rows_keep (out_by_row o r) rs ∙ parts_keep o (row_parts o.gap r)

-- lines that took so many rows, and are back at what they left before
pub closes_on : {A : Type 0} (k : Known) (g : Grid) (n count : ℕ) (p m q : Lines A) (s : Left)
    → n ≡ count → take count (main_rows g) ≡ rows_left k g
    → out_of m ≡ out_by_rows (out_of p) (with_known k (take n (main_rows g)))
    → (s.ink ≡ p.ink) × (s.gap ≡ p.gap)
    → out_of q ≡ record (out_of m) { ink = s.ink; gap = s.gap } → ClosesOn k g p q
closes_on k g n count p m q s all is took old back =
    let rs = take n (main_rows g) in
    record {
      text = ap (λ o. o.text) back ∙ ap (λ o. o.text) took
          ∙ ap (λ x. (out_by_rows (out_of p) (with_known k x)).text)
          (ap (λ i. take i (main_rows g)) all ∙ is);
      rest = ap emptied_out back
          ∙ ap (λ i. emptied_out (record (out_of m) { ink = i; gap = s.gap })) old.0
          ∙ ap (λ b. emptied_out (record (out_of m) { ink = p.ink; gap = b })) old.1
          ∙ ap (λ u. emptied_out (record (out_of p) { characters = u }))
          (ap (λ o. o.characters) took ∙ rows_keep (out_of p) (with_known k rs));
    }

-- ---- the screen of a terminal

pub some_same : {X : Type 0} (x y : X) → Some x ≡ Some y → x ≡ y
some_same x y e = cc

pub has_screen : {A : Type 0} (z : Size) (s : List ℕ) (o : Option (State A)) → None ≡ screen_in o
    → IsSomeAnd o (Shows z s) → ⊥
has_screen z s None e h = h
has_screen z s (Some p) e h = none-some p.screen e

pub has_styles : {A : Type 0} (z : Size) (s : List ℕ) (o : Option (State A)) → None ≡ styles_in o
    → IsSomeAnd o (Shows z s) → ⊥
has_styles z s None e h = h
has_styles z s (Some p) e h = none-some p.styles e

pub closes_shown : {A : Type 0} (z : Size) (s : List ℕ) (o : Option (State A)) (p : Screen A)
    (k : Styles A) (l q : Lines A) → Some p ≡ screen_in o → Some k ≡ styles_in o
    → IsSomeAnd o (Shows z s) → ClosesOn (known_of k) (grid_of p) l q
    → Closes (shown_of A z s) l q
closes_shown z s None p k l q e f h c = absurd h
closes_shown {A} z s (Some t) p k l q e f h c =
    subst (λ x. Closes x l q) h.shown
    (subst (λ x. ClosesOn (known_of x) (grid_of t.screen) l q) (some_same k t.styles f)
    (subst (λ x. ClosesOn (known_of k) (grid_of x) l q) (some_same p t.screen e) c))
