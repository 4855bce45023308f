use Rattle.esc_terminal.proofs.Here.{here_kept}
use Rattle.esc_terminal.proofs.keeping.Keeping.print_here.Goals as goal

pub returns : goal.returns
returns g c =
    here_kept g.R.Rows.takes c.args.text.now c.args.self.now _ c.requires.fits c.print_all.ensures
