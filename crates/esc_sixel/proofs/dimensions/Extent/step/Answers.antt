use Rattle.esc_sixel.proofs.dimensions.Extent.step.Goals as goal

pub returns-in-Data : goal.returns-in-Data
returns-in-Data c = λ best n b f h. rw c.in-Data.is (c.add.ensures best n b f h)

pub returns-in-Repeat : goal.returns-in-Repeat
returns-in-Repeat c = λ best n b f h. rw c.in-Repeat.is (c.add-in-Repeat.ensures best n b f h)

pub returns-in-DefineColorMapRGB : goal.returns-in-DefineColorMapRGB
returns-in-DefineColorMapRGB c =
    λ best n b f h. rw c.in-DefineColorMapRGB.is (c.stay.ensures best n b f h)

pub returns-in-DefineColorMapHSL : goal.returns-in-DefineColorMapHSL
returns-in-DefineColorMapHSL c =
    λ best n b f h. rw c.in-DefineColorMapHSL.is (c.stay-in-DefineColorMapHSL.ensures best n b f h)

pub returns-in-SelectColorMapEntry : goal.returns-in-SelectColorMapEntry
returns-in-SelectColorMapEntry c = λ best n b f h.
    rw c.in-SelectColorMapEntry.is (c.stay-in-SelectColorMapEntry.ensures best n b f h)
