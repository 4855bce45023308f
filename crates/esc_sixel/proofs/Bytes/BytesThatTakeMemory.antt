-- The bytes that take memory.
use Rattle.std.proofs.Common.{Result, Ok, Err, OnErr, ◌≡◌, ℕ, true, Option, Some, None, refl}
use Rattle.esc_sixel.specs.Classes.{class_of}
use Rattle.esc_sixel.specs.Steps.{Open, Closed, In, WantsForData, wants_memory}
use Rattle.esc_sixel.specs.declared.class.Class.{Class}
use Rattle.esc_sixel.specs.declared.class.Class.TheVariants.{Return}
use Rattle.esc_sixel.specs.declared.introducer.Introducer.{Introducer}
use Rattle.esc_sixel.specs.declared.introducer.Introducer.TheVariants as introducer

pub wants_for_data : (o : Open) (c : Class) (b : ℕ) → WantsForData o c b
wants_for_data Closed Return b = refl
wants_for_data Closed c b = refl
wants_for_data (In introducer.Repeat r) Return b = refl
wants_for_data (In introducer.Repeat r) c b = refl
wants_for_data (In introducer.Color r) Return b = refl
wants_for_data (In introducer.Color r) c b = refl
wants_for_data (In introducer.Raster r) Return b = refl
wants_for_data (In introducer.Raster r) c b = refl

-- a byte that is dropped takes some only at the end of a `#`
dropped_wants : (o : Option Introducer) → wants_memory o (class_of 0) ≡ true
    → o ≡ Some introducer.Color
unfolding class_of
dropped_wants None h = cc
dropped_wants (Some introducer.Repeat) h = cc
dropped_wants (Some introducer.Color) h = refl
dropped_wants (Some introducer.Raster) h = cc

pub finish_wants : {T E : Type 0} (o : Option Introducer) (r : Result T E)
    → OnErr r (wants_memory o (class_of 0) ≡ true) → OnErr r (o ≡ Some introducer.Color)
finish_wants o (Ok x) h = tt
finish_wants o (Err e) h = dropped_wants o h
