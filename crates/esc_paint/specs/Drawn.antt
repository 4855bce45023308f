-- Which cells can be painted: those whose characters have the width that they take.
use Rattle.std.specs.Prelude.{ℕ, ◌≡◌, Bool, true, false, List, [], ◌∷◌, Option, None, Some}
use Rattle.esc_values.specs.Clear.{is_clear}
use Rattle.esc_screen.specs.declared.cell.Cell.{Cell}
use Rattle.esc_screen.specs.declared.content.Content.{Content}
use Rattle.esc_screen.specs.declared.content.Content.TheVariants as content
use Rattle.esc_screen.specs.declared.marks.Marks.{Marks}
use Rattle.esc_screen.specs.declared.step.Step.{Step}
use Rattle.esc_screen.specs.declared.step.Step.TheVariants as step
use Rattle.esc_terminal.specs.Steps.{print_step}

-- a character that is no control, for which a terminal makes this step
abbrev pub Makes : (ℕ → Step) → ℕ → Type 0
Makes f c = (print_step c ≡ f c) × (is_clear c ≡ true)

-- marks; the second comes after the first, and others after both
abbrev pub AreMarks : Option ℕ → Option ℕ → Bool → Type 0
AreMarks None None false = Unit {0}
AreMarks (Some c) None false = Makes step.Mark c
AreMarks (Some c) (Some d) more = Makes step.Mark c × Makes step.Mark d
AreMarks _ _ _ = ⊥

abbrev pub IsMarked : Marks → Type 0
IsMarked m = AreMarks m.first m.second m.others

abbrev pub IsDrawn : Content → Type 0
IsDrawn content.Blank = Unit {0}
IsDrawn (content.Narrow c m) = Makes step.Print c × IsMarked m
IsDrawn (content.Wide c m) = Makes step.PrintWide c × IsMarked m
IsDrawn content.Rest = Unit {0}

abbrev pub AreDrawn : List Cell → Type 0
AreDrawn [] = Unit {0}
AreDrawn (x ∷ xs) = IsDrawn x.content × AreDrawn xs

abbrev pub AllDrawn : List (List Cell) → Type 0
AllDrawn [] = Unit {0}
AllDrawn (xs ∷ xss) = AreDrawn xs × AllDrawn xss
