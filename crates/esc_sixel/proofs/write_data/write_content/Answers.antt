use Rattle.std.proofs.Common.{true, ◌++◌, ◌∙◌, [], refl, take, arith}
use Rattle.std.proofs.lemmas.Grind.{put_two}
use Rattle.core.proofs.fmt.Output.{writes_in_calls_nil}
use Rattle.esc_sixel.specs.Texts.{content_text}
use Rattle.esc_sixel.proofs.Writing.TextIsGathered.{text_more, zeros_ascii}
use Rattle.esc_sixel.proofs.write_data.write_content.Goals as goal

pub runs-init : goal.runs-init
runs-init g c = (
  omega arith,
  (zeros_ascii 128, λ plain. record { wrote = writes_in_calls_nil _ _; plain = plain }),
)

pub runs-preserved : goal.runs-preserved
runs-preserved g c = (
  omega arith,
  (
    c.gather-count.ensures.puts.ascii,
    λ plain.
        let so_far = c.runs.invariant.1.1 plain in
        let before = content_text (take c.runs.at c.args.content.now) in
        let run = c.as_str.result.now in
        let gathered = c.as_str.ensures ∙ c.gather-count.ensures.puts.text in
        put_two _ _ _ _ before run _ so_far
        (c.in_ok-write_str.ensures.writes so_far.plain (refl {a = true}))
        (text_more [] before (before ++ run) run c.args.content.now c.runs.at
        c.gather-count.result.0 refl refl gathered),
  ),
)
