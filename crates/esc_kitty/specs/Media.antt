-- A payload may name a file or a shared memory object.
use Rattle.std.specs.Prelude.{ℕ, List, Option}
use Rattle.esc_kitty.specs.declared.content.KittyImageData.{KittyImageData}
use Rattle.esc_kitty.specs.declared.content.KittyImageData.TheVariants.{File, TemporaryFile, SharedMem}
use Rattle.esc_kitty.specs.declared.read_transmit.Medium.{Medium}
use Rattle.esc_kitty.specs.declared.read_transmit.Medium.TheVariants as medium

-- the content with this name, its size and its offset
abbrev pub named_content : {A : Type 0} → Medium → List ℕ → Option ℕ → Option ℕ → KittyImageData A
named_content medium.File t size offset = File t size offset
named_content medium.TemporaryFile t size offset = TemporaryFile t size offset
named_content medium.SharedMem t size offset = SharedMem t size offset
