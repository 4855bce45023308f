use Rattle.std.proofs.Common.{sym, ◌∙◌}
use Rattle.esc_screen.specs.Screens.{grid_of, size_of}
use Rattle.esc_screen.proofs.Printing.RunsOfCharacters.{run_is}
use Rattle.esc_screen.proofs.screen.Screen.put_run.Goals as goal

pub returns : goal.returns
returns g c =
    let p = c.args.self.now in
    let k = c.put_here.ensures in
    record {
      grid = k.grid ∙ sym (run_is (size_of p) c.args.text.now (grid_of p)
          c.requires.ready.0 c.requires.ready.1 c.requires.some c.requires.fits);
      size = k.size;
    }
