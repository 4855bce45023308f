use Rattle.esc_terminal.proofs.Here.{has_them}
use Rattle.esc_terminal.proofs.Runs.{all_columns}
use Rattle.esc_terminal.proofs.keeping.Keeping.has_columns.Goals as goal

pub returns-in-None : goal.returns-in-None
returns-in-None g c =
    has_them c.args.text.now c.args.self.now.state _
    (all_columns c.args.text.now c.requires.all c.in-None.ensures) c.has_room.ensures
