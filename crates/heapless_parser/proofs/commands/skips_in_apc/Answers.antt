use Rattle.std.proofs.Common.{rules, ◌≡◌, false}
use Rattle.esc_frame.specs.Classes.{is_breaker, is_text}
use Rattle.heapless_parser.proofs.InChunks.ApcBytes.{apc_skips}
use Rattle.heapless_parser.proofs.commands.skips_in_apc.Goals as goal

pub returns-in-C0 : goal.returns-in-C0
returns-in-C0 c = λ yes.
    let k = c.classify.result in
    let off : is_breaker k ≡ false = search (rules, c.in-C0.is) in
    let text : is_text k ≡ false = search (rules, c.in-C0.is) in
    apc_skips c.args.parser.now c.args.byte k c.requires c.classify.ensures off text
