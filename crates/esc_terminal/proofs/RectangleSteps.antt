-- Control sequences that change a rectangle.
use Rattle.std.proofs.Common.{ℕ, ◌≡◌, ◌==◌, Bool, true, false, List, [], ◌∷◌, ◌++◌, if◌then◌else◌, refl, ap, sym, subst, ◌∙◌, append-nil}
use Rattle.std.specs.List.{FoldsTo}
use Rattle.esc_values.specs.declared.csi_param.CsiParam.{CsiParam}
use Rattle.esc_sequences.specs.Csis.{CsiValue, sgr, unspecified}
use Rattle.typed_functions.specs.Functions.{of_csi}
use Rattle.esc_screen.specs.Grids.{Grid, Size}
use Rattle.esc_screen.specs.Screens.{Takes as TakesStep, grid_of, size_of}
use Rattle.esc_screen.specs.Scrolled.{off_by, off_from}
use Rattle.esc_screen.specs.Steps.{grid_by, grid_from}
use Rattle.esc_screen.specs.declared.area.Area.{Area}
use Rattle.esc_screen.specs.declared.screen.Screen.{Screen}
use Rattle.esc_screen.specs.declared.step.Step.{Step}
use Rattle.esc_screen.specs.declared.step.Step.TheVariants as step
use Rattle.esc_screen.proofs.Printing.RunsOfCharacters.{in_chunks}
use Rattle.esc_screen.proofs.Scrolled.RowsScrolledOff.{off_in_chunks}
use Rattle.esc_terminal.specs.Fed.{Does, known_in}
use Rattle.esc_terminal.specs.Kept.{KeepsFunction, KeepsSequence}
use Rattle.esc_terminal.specs.Links.{Known}
use Rattle.esc_terminal.specs.Scrolled.{Row, with_known}
use Rattle.esc_terminal.specs.Steps.{area_at, csi_step, fill_step, filled_by, function_steps, if_dollared, is_dollared, is_fill, number_at, print_step, sequence_step}
use Rattle.esc_terminal.specs.Streams.{Names}
use Rattle.esc_terminal.specs.declared.keeping.Keeping.{Keeping}
use Rattle.esc_terminal.specs.declared.request.Request.{Request}
use Rattle.esc_terminal.specs.declared.state.State.{State}

-- ---- one step more

pub then_step : {A : Type 0} (p q : State A) (u : Screen A) (xs : List Step) (x : Step)
    (ks : Known) (n : Names) (rs : List Request) → Does p xs ks n rs q
    → TakesStep q.screen x u → Does p (xs ++ x ∷ []) ks n rs (record q { screen = u })
then_step p q u xs x ks n rs h b =
    let s = size_of p.screen in
    let g = grid_of p.screen in
    record {
      screen = record {
        grid = b.grid ∙ ap (λ z. grid_by z (grid_of q.screen) x) h.screen.size
            ∙ ap (λ z. grid_by s z x) h.screen.grid ∙ sym (in_chunks s g xs (x ∷ []));
        size = b.size ∙ h.screen.size;
      };
      known = h.known;
      names = h.names;
      requests = h.requests;
    }

-- ---- nothing is scrolled off

abbrev pub IsStill : Step → Type 0
IsStill x = (s : Size) (g : Grid) → off_by s g x ≡ []

still_if : (b : Bool) (x y : Step) → IsStill x → IsStill y → IsStill (if b then x else y)
still_if true x y h k = h
still_if false x y h k = k

still_filled : (x : Step) (r : Area) → IsStill (filled_by x r)
still_filled (step.Print c) r = λ s g. refl
still_filled (step.PrintWide c) r = λ s g. refl
still_filled (step.Mark c) r = λ s g. refl
still_filled (step.Repeat n) r = λ s g. refl
still_filled (step.Move m) r = λ s g. refl
still_filled (step.Edit e) r = λ s g. refl
still_filled (step.Set x) r = λ s g. refl
still_filled step.Nothing r = λ s g. refl

none_still : IsStill step.Nothing
none_still s g = refl

still_dollared : (es : List CsiParam) (x : Step) → IsStill x → IsStill (if_dollared es x)
still_dollared es x h = still_if (is_dollared es) x step.Nothing h none_still

still_fill : (c : ℕ) (r : Area) → IsStill (fill_step c r)
still_fill c r = still_if (is_fill c) _ _ (still_filled (print_step c) r) none_still

still_sequence : (es : List CsiParam) (last : ℕ) → IsStill (sequence_step es last)
still_sequence es last =
    still_if (last == 0x7a) _ _ (still_dollared es _ (λ s g. refl))
    (still_if (last == 0x7b) _ _ (still_dollared es _ (λ s g. refl))
    (still_if (last == 0x78) _ _
    (still_dollared es _ (still_fill (number_at 0 es) (area_at 1 es))) none_still))

pub still_csi : (c : CsiValue) → IsStill (csi_step c)
still_csi (sgr s) = none_still
still_csi (unspecified es truncated last) =
    still_if truncated _ _ none_still (still_sequence es last)

pub same_off : (s : Size) (g : Grid) (xs : List Step) (x : Step) → IsStill x
    → off_from s g (xs ++ x ∷ []) ≡ off_from s g xs
same_off s g xs x h =
    off_in_chunks s g xs (x ∷ [])
    ∙ ap (λ z. off_from s g xs ++ (z ++ [])) (h s (grid_from s g xs))
    ∙ append-nil (off_from s g xs)

-- a terminal that hands out rows
pub then_kept : {R A : Type 0} (takes : R → Row → R → Type 0) (p q : Keeping R A) (u : Screen A)
    (c : CsiValue) → KeepsFunction takes p (of_csi c) q → TakesStep q.state.screen (csi_step c) u
    → KeepsSequence takes p c (record q { state = record (q.state) { screen = u } })
then_kept takes p q u c (h, out) b =
    let ks = known_in p.state in
    let xs = function_steps ks p.state.screen.cursor (of_csi c) in (
      then_step p.state q.state u xs (csi_step c) _ _ _ h b,
      subst (λ z. FoldsTo takes p.rows (with_known ks z) q.rows)
          (sym (same_off (size_of p.state.screen) (grid_of p.state.screen) xs (csi_step c)
          (still_csi c))) out,
    )
