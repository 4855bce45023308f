use Rattle.std.proofs.Common.{rules, ◌≡◌, ◌+◌, true, length, refl, arith}
use Rattle.heapless_parser.proofs.InChunks.BodyBytes.{params_fit, params_full, params_past}
use Rattle.heapless_parser.proofs.bodies.add.Goals as goal

pub returns-then-parser-clause-first : goal.returns-then-parser-clause-first
returns-then-parser-clause-first c = λ all h.
    let p = c.args.parser.now in
    params_past p p c.args.entry all h refl refl c.if-parser.true refl

pub returns-then-parser-lt256-clause-first : goal.returns-then-parser-lt256-clause-first
returns-then-parser-lt256-clause-first c = λ all h.
    let p = c.args.parser.now in
    let long : length p.csi_params ≡ 256 = search rules in
    params_fit p (record p { count = p.count + 1; csi_params = c.put.new.csi_params }) c.args.entry
    all h c.if-parser.false c.if-parser-lt256.true long c.put.ensures refl refl

pub returns-else-parser-lt256-clause-first : goal.returns-else-parser-lt256-clause-first
returns-else-parser-lt256-clause-first c = λ all h.
    let p = c.args.parser.now in
    let long : length p.csi_params ≡ 256 = search rules in
    params_full p (record p { is_truncated = true }) c.args.entry all h refl refl c.if-parser.false
    (omega (arith, c.if-parser-lt256.false)) long refl
