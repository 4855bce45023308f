use Rattle.std.proofs.Common.{rules, ◌≡◌, true, false}
use Rattle.esc_frame.specs.Classes.{is_breaker, in_osc, is_text}
use Rattle.heapless_parser.proofs.InChunks.OscBytes.{skips}
use Rattle.heapless_parser.proofs.commands.skips_in_osc.Goals as goal

pub returns-in-C0 : goal.returns-in-C0
returns-in-C0 c = λ yes.
    let k = c.classify.result in
    let none : c.args.parser.now.pending ≡ 0 = search rules in
    let off : is_breaker k ≡ false = search (rules, c.in-C0.is) in
    let goes : in_osc k ≡ true = search (rules, c.in-C0.is) in
    let text : is_text k ≡ false = search (rules, c.in-C0.is) in
    skips c.args.parser.now c.args.byte k c.requires none c.classify.ensures off goes text
