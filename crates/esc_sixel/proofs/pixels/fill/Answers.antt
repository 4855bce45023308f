use Rattle.std.proofs.Common.{◌∙◌, ◌++◌, ap, arith, refl}
use Rattle.std.proofs.lemmas.List.{take_all}
use Rattle.esc_sixel.specs.Meaning.{drawn_data}
use Rattle.esc_sixel.proofs.Runs.RunsOfPixels.{drawn_more, drawn_one, some_pixels}
use Rattle.esc_sixel.proofs.pixels.fill.Goals as goal

pub by_block-preserved : goal.by_block-preserved
by_block-preserved g c = record {
  within = omega (arith, c.by_block-test.true, c.by_block.invariant.within);
  items = drawn_more c.args.vec.items c.by_block.vec.items _ c.args.run.now c.by_block.at 8
      c.by_block.invariant.items
      (c.put_block.ensures.items ∙ ap (λ t. c.by_block.vec.items ++ t) c.values_of.ensures);
  room = omega (
    arith,
    c.by_block.invariant.room,
    c.put_block.ensures.len,
    c.put_block.ensures.capacity,
  );
}

pub by_four-preserved : goal.by_four-preserved
by_four-preserved g c = record {
  within = omega (arith, c.by_four-test.true, c.by_four.invariant.within);
  items = drawn_more c.args.vec.items c.by_four.vec.items _ c.args.run.now c.by_four.at 4
      c.by_four.invariant.items
      (c.put_four.ensures.items ∙ ap (λ t. c.by_four.vec.items ++ t) c.four_values_of.ensures);
  room = omega (
    arith,
    c.by_four.invariant.room,
    c.put_four.ensures.len,
    c.put_four.ensures.capacity,
  );
}

pub by_two-preserved : goal.by_two-preserved
by_two-preserved g c = record {
  within = omega (arith, c.by_two-test.true, c.by_two.invariant.within);
  items = drawn_more c.args.vec.items c.by_two.vec.items _ c.args.run.now c.by_two.at 2
      c.by_two.invariant.items c.put_two.ensures.items;
  room = omega (arith, c.by_two.invariant.room, c.put_two.ensures.len, c.put_two.ensures.capacity);
}

pub loop-at-preserved : goal.loop-at-preserved
loop-at-preserved g c = record {
  within = omega (arith, c.loop-at-test.true);
  items = drawn_one c.args.vec.items c.loop-at.vec.items _ c.args.run.now c.loop-at.at _
      c.loop-at-test.true c.loop-at.invariant.items refl c.put.ensures.items;
  room = omega (arith, c.loop-at.invariant.room, c.put.ensures.len, c.put.ensures.capacity);
}

pub values_of-requires : goal.values_of-requires
values_of-requires g c = some_pixels c.args.run.now c.by_block.at 8
    (omega (arith, c.by_block-test.true)) c.requires.pixels

pub four_values_of-requires : goal.four_values_of-requires
four_values_of-requires g c = some_pixels c.args.run.now c.by_four.at 4
    (omega (arith, c.by_four-test.true)) c.requires.pixels

pub put_two-requires-clause-pixels : goal.put_two-requires-clause-pixels
put_two-requires-clause-pixels g c = some_pixels c.args.run.now c.by_two.at 2
    (omega (arith, c.by_two-test.true)) c.requires.pixels

pub returns : goal.returns
returns g c =
    c.loop-at.invariant.items
    ∙ ap (λ t. c.args.vec.items ++ drawn_data t)
    (take_all c.loop-at.at c.args.run.now (omega (arith, c.loop-at-test.false)))
