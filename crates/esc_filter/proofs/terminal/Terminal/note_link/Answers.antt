use Rattle.std.proofs.Common.{rules, ◌≢◌, codes}
use Rattle.esc_filter.proofs.GivingBack.RenditionsAfterSequence.{ends, opens}
use Rattle.esc_filter.proofs.terminal.Terminal.note_link.Goals as goal

pub returns-then-eq : goal.returns-then-eq
returns-then-eq g c = ends _ c.args.link.now c.args.self.now (search rules) c.reads_back.ensures

pub returns-else-eq : goal.returns-else-eq
returns-else-eq g c =
    let n : c.args.link.now ≢ codes "8;;" = search rules in
    opens _ c.args.link.now c.args.self.now c.requires.link n (c.requires.address n)
