use Rattle.std.proofs.Common.{◌-◌, ◌≤◌, length, map, take, drop, ap, ◌∙◌, arith}
use Rattle.std.proofs.lemmas.List.{length-drop, take_all}
use Rattle.esc_screen.specs.Screens.{grid_of, size_of}
use Rattle.esc_screen.specs.Steps.{grid_from}
use Rattle.esc_screen.specs.declared.step.Step.TheVariants as step
use Rattle.esc_screen.proofs.Printing.RunsOfCharacters.{run_split}
use Rattle.esc_screen.proofs.screen.Screen.print_run.Goals as goal

pub loop-rest-preserved : goal.loop-rest-preserved
loop-rest-preserved g c =
    let s = size_of c.args.self.now in
    let p = c.loop-rest.self in
    let rest = c.loop-rest.rest.now in
    let n = c.print_first-count.result in
    let i = c.loop-rest.invariant in
    let k = c.print_first-count.ensures.grid in
    let later = take (length rest - n) (drop n rest) in
    let few : length (drop n rest) ≤ length rest - n = omega (arith, length-drop n rest) in (
      k.size ∙ i.0,
      ap (λ z. grid_from s z (map step.Print later))
          (k.grid ∙ ap (λ z. grid_from z (grid_of p) (map step.Print (take n rest))) i.0)
          ∙ ap (λ z. grid_from s (grid_from s (grid_of p) (map step.Print (take n rest)))
          (map step.Print z)) (take_all (length rest - n) (drop n rest) few)
          ∙ run_split s (grid_of p) n rest
          ∙ i.1,
    )
