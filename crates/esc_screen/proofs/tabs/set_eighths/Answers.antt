use Rattle.std.proofs.Common.{◌<◌, ◌≤◌, ◌%◌, ◌==◌, length, set, ap, ◌∙◌, arith, rules}
use Rattle.esc_screen.specs.Cursors.{eighths}
use Rattle.esc_screen.proofs.Sound.TabStops.{all_of_it, eighth_more, length_eighths}
use Rattle.esc_screen.proofs.tabs.set_eighths.Goals as goal

pub loop-i-preserved : goal.loop-i-preserved
loop-i-preserved c =
    let i = c.loop-i.i in
    let t = c.args.tabs.now in
    let less : i < length t = search rules in
    ap (λ z. set z i (i % 8 == 0)) c.loop-i.invariant ∙ eighth_more i t less

pub returns : goal.returns
returns c =
    let i = c.loop-i.i in
    let t = c.args.tabs.now in
    let all : length t ≤ i = c.loop-i-test.false in
    let same : length (eighths 0 t) ≤ i = omega (arith, length_eighths 0 t, all) in
    c.loop-i.invariant ∙ all_of_it i (eighths 0 t) t same all
