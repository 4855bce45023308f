-- The sizes of blocks.
use Rattle.std.specs.Prelude.{◌≡◌, ℕ, ◌%◌, ◌^◌, ◌<◌, leb, if◌then◌else◌}

-- a size that a block may have: whole units of 16 bytes
abbrev pub IsBlockSize : ℕ → Type 0
IsBlockSize n = (n % 16 ≡ 0) × (n < 2 ^ 63)

-- the size of the block for a request of n bytes, at most 1024: the least of six sizes that holds
-- them
abbrev pub block_size : ℕ → ℕ
block_size n =
    if leb n 32 then 32
    else (if leb n 64 then 64
    else (if leb n 128 then 128 else (if leb n 256 then 256 else (if leb n 512 then 512 else
    1024))))
