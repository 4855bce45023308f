use Rattle.std.proofs.Common.{◌≡◌, replicate}
use Rattle.screen_lines.specs.Parts.{out_from}
use Rattle.screen_lines.specs.Parts.Part.{Character}
use Rattle.screen_lines.specs.Written.{out_of}
use Rattle.screen_lines.proofs.lines.Lines.push_spaces.Given as goal

abbrev pub invariant-loop : goal.invariant-loop
invariant-loop g l =
    out_of l.self ≡ out_from (out_of l.fn.self) (replicate l.counter (Character 0x20))
