use Rattle.std.proofs.Common.{rules, ◌≡◌, length}
use Rattle.esc_terminal.specs.declared.chains.Link.{Link}
use Rattle.esc_terminal.proofs.Chained.{pushed}
use Rattle.esc_terminal.proofs.chains.Chains.push.Goals as goal

pub invariant_of-self-2 : goal.invariant_of-self-2
invariant_of-self-2 g c =
    let before = c.index-before.result.now in
    let link : Link = record { slot = c.args.slot; before = before } in
    let count : c.len.result ≡ length c.push.new.vec.items = search rules in
    pushed c.self.inside.ends.items c.self.inside.links.items c.push.new.vec.items link
    c.len.result before c.self.invariant c.requires.0 c.index-before.ensures
    c.in_ok-push.ensures.items count
