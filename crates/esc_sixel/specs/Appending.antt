-- Slices of data that are appended if there is room. Only private contracts cite it.
use Rattle.std.specs.Prelude.{ℕ, ◌≡◌, ◌+◌, ◌≤◌, List, ◌++◌, Vec, length, take, vec_capacity, vec_len}
use Rattle.std.specs.List.{All}
use Rattle.esc_sixel.specs.Classes.{IsPixels}
use Rattle.esc_sixel.specs.declared.sixel_data.SixelData.{SixelData}

-- The first n of these bytes are six pixels each.
pub record BeginsWithPixels (n : ℕ) (bytes : List ℕ) : Type 0 where
  pub room : n ≤ length bytes
  pub pixels : All IsPixels (take n bytes)

-- These n slices of data were appended, and no memory was taken.
pub record Appends {A : Type 0} (old : Vec SixelData A) (n : ℕ) (added : List SixelData)
    (new : Vec SixelData A) : Type 0 where
  pub items : new.items ≡ old.items ++ added
  pub len : vec_len new ≡ vec_len old + n
  pub capacity : vec_capacity new ≡ vec_capacity old
