use Rattle.std.proofs.Common.{ap, ◌∙◌}
use Rattle.screen_lines.specs.Parts.{out_by}
use Rattle.screen_lines.specs.Parts.Part.{Character}
use Rattle.screen_lines.specs.Written.{out_of}
use Rattle.screen_lines.proofs.Growing.{spaces_more}
use Rattle.screen_lines.proofs.lines.Lines.push_spaces.Goals as goal

pub loop-preserved : goal.loop-preserved
loop-preserved g c =
    c.in_ok-push.ensures.ok
    ∙ ap (λ o. out_by o (Character 0x20)) c.loop.invariant
    ∙ spaces_more (out_of c.args.self.now) c.loop.counter
