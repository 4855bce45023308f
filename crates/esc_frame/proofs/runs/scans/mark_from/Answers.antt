use Rattle.std.proofs.Common.{◌+◌, ◌≤◌, length, take, drop, arith}
use Rattle.std.proofs.lemmas.List.Sums.{prefix_len-le-length, prefix_len-drop_yes}
use Rattle.std.proofs.lemmas.List.Sums.{prefix_len-drop_no, prefix_len-drop_all}
use Rattle.std.proofs.lemmas.Simd.{length-chunk}
use Rattle.esc_frame.specs.Scans.{is_unmarked}
use Rattle.esc_frame.proofs.ByteRuns.LanesPass.{run_block, run_within, other_is_unmarked, mark_is_marked}
use Rattle.esc_frame.proofs.runs.scans.mark_from.Goals as goal

pub returns-then-run-lt16-clause-at : goal.returns-then-run-lt16-clause-at
returns-then-run-lt16-clause-at c =
    let room : c.by_block.at + 16 ≤ length c.args.text.now = omega arith in
    let b = run_within is_unmarked 16 c.args.text.now c.by_block.at room (omega arith) in
    let so = c.by_block.invariant.1 in omega arith

pub by_block-preserved : goal.by_block-preserved
by_block-preserved c =
    let text = c.args.text.now in
    let at = c.by_block.at in
    let room : at + 16 ≤ length text = omega arith in
    let few = prefix_len-le-length is_unmarked (take 16 (drop at text)) in
    let long = length-chunk at 16 text room in
    let b = run_block is_unmarked 16 text at room (omega arith) in
    let so = c.by_block.invariant.1 in
    (room, omega arith)

pub loop-at-preserved : goal.loop-at-preserved
loop-at-preserved c =
    let next = prefix_len-drop_yes is_unmarked c.args.text.now c.loop-at.at 0 c.loop-at-test.true
    (other_is_unmarked _ c.if-text-at-ne59.true) in
    let so = c.loop-at.invariant.1 in
    (omega arith, omega arith)

pub returns-else-text-at-ne59-clause-at : goal.returns-else-text-at-ne59-clause-at
returns-else-text-at-ne59-clause-at c =
    let none = prefix_len-drop_no is_unmarked c.args.text.now c.loop-at.at 0 c.loop-at-test.true
    (mark_is_marked _ c.if-text-at-ne59.false) in
    let so = c.loop-at.invariant.1 in omega arith

pub returns-after-loop-at-clause-at : goal.returns-after-loop-at-clause-at
returns-after-loop-at-clause-at c =
    let none = prefix_len-drop_all is_unmarked c.args.text.now c.loop-at.at c.loop-at-test.false in
    let so = c.loop-at.invariant.1 in omega arith
