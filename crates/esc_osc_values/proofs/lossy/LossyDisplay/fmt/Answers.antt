use Rattle.std.proofs.Common.{rules, ◌≡◌, ◌<◌, length, [], ◌∷◌, ◌++◌, sym, ◌∙◌, append_assoc, append-nil}
use Rattle.std.specs.Fmt.{HasWritten, IsPlainFormatter}
use Rattle.std.proofs.lemmas.Str.{utf8_lossy_chunk, utf8_lossy_last_chunk, utf8_lossy_empty}
use Rattle.std.proofs.Output.{has_written_append, has_written_of_eq}
use Rattle.esc_osc_values.proofs.lossy.LossyDisplay.fmt.Goals as goal

pub loop-chunk-preserved-in-Continue-branch-2 : goal.loop-chunk-preserved-in-Continue-branch-2
loop-chunk-preserved-in-Continue-branch-2 g c = λ plain.
    let steps = c.in-Some.ensures.steps in
    let some : 0 < length c.in-Some.chunk.invalid.now = search rules in
    let text = utf8_lossy_chunk _ _ _ _ steps.0 steps.3.0 steps.3.1 some in
    let so_far = c.loop-chunk.invariant plain in
    let here : IsPlainFormatter c.loop-chunk.f = so_far.1.plain in
    let one : HasWritten g.W.Write.write_str_gives c.loop-chunk.f c.in-Some.chunk.valid.now
    c.write_str.new.self = search rules in
    let there : IsPlainFormatter c.write_str.new.self = one.plain in
    let two : HasWritten g.W.Write.write_str_gives c.write_str.new.self (239 ∷ 191 ∷ 189 ∷ [])
    c.write_str-then-not-is_empty.new.self = search rules in (
      so_far.0 ++ (c.in-Some.chunk.valid.now ++ (239 ∷ 191 ∷ 189 ∷ [])),
      has_written_append _ _ _ _ _ _ so_far.1 (has_written_append _ _ _ _ _ _ one two),
      simp append_assoc (rw text at so_far.2),
    )

pub loop-chunk-preserved : goal.loop-chunk-preserved
loop-chunk-preserved g c = λ plain.
    let steps = c.in-Some.ensures.steps in
    let none : length c.in-Some.chunk.invalid.now ≡ 0 = search rules in
    let text = utf8_lossy_last_chunk _ _ _ _ steps.0 steps.3.0 none (steps.2 none) in
    let so_far = c.loop-chunk.invariant plain in (
      so_far.0 ++ c.in-Some.chunk.valid.now,
      has_written_append _ _ _ _ _ _ so_far.1 (search rules),
      rw append_assoc (rw text at so_far.2),
    )

pub returns-clause-writes : goal.returns-clause-writes
returns-clause-writes g c = λ plain _.
    let so_far = c.loop-chunk.invariant plain in
    has_written_of_eq _ _ _ _ _ (sym (append-nil so_far.0)
    ∙ rw (utf8_lossy_empty _ c.in-None.ensures.steps.0) at so_far.2) so_far.1
