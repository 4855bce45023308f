use Rattle.std.proofs.Common.{◌∙◌, append-nil, arith, sym}
use Rattle.esc_sixel.proofs.Writing.TextIsGathered.{stuck, text_more, zeros_ascii}
use Rattle.esc_sixel.proofs.appending.append_content.Goals as goal

pub runs-init : goal.runs-init
runs-init g c = (omega arith, (zeros_ascii 128, sym (append-nil c.args.text.now)))

pub runs-preserved : goal.runs-preserved
runs-preserved g c = (
  omega arith,
  (
    c.gather-count.ensures.puts.ascii,
    text_more c.args.text.now c.runs.text c.push_str.new.self c.as_str.result.now
        c.args.content.now c.runs.at c.gather-count.result.0 c.runs.invariant.1.1
        c.in_ok-push_str.ensures.ok (c.as_str.ensures ∙ c.gather-count.ensures.puts.text),
  ),
)

pub returns-then-count-eq0-clause-refused : goal.returns-then-count-eq0-clause-refused
returns-then-count-eq0-clause-refused g c = λ fits.
    absurd (stuck c.args.content.now c.runs.at c.runs-test.true fits
    (c.gather-count.ensures.none c.if-count-eq0.true))
