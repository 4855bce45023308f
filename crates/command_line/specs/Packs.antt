-- Files that are compressed, by the bytes that they begin with.
use Rattle.std.specs.Prelude.{ℕ, nat_eq, ◌&&◌, if◌then◌else◌, List, [], ◌∷◌, drop, codes, Option, Some, None}
use Rattle.std.specs.List.{starts_with}
use Rattle.command_line.specs.declared.packed.Packed.{Packed}
use Rattle.command_line.specs.declared.packed.Packed.TheVariants as packed

-- LZ4 frame format; the .lzma format, with the settings and the unknown length that its programs
-- write; of compress; and APPNOTE.TXT of zip, 4.3.7
abbrev pub packed_rarely : List ℕ → Option Packed
packed_rarely bs =
    if starts_with nat_eq bs (0x04 ∷ 0x22 ∷ 0x4d ∷ 0x18 ∷ []) then Some packed.Lz4
    else if starts_with nat_eq bs (0x5d ∷ 0x00 ∷ 0x00 ∷ [])
    && starts_with nat_eq (drop 5 bs)
    (0xff ∷ 0xff ∷ 0xff ∷ 0xff ∷ 0xff ∷ 0xff ∷ 0xff ∷ 0xff ∷ [])
    then Some packed.Lzma
    else if starts_with nat_eq bs (0x1f ∷ 0x9d ∷ []) then Some packed.Compress
    else if starts_with nat_eq bs (0x50 ∷ 0x4b ∷ 0x03 ∷ 0x04 ∷ []) then Some packed.Zip
    else None

-- RFC 1952, 2.3.1; RFC 8878, 3.1.1; the .xz file format, 2.1.1.1; and of bzip2, after `BZh` and a
-- digit for the size of its blocks, the number that begins each block
abbrev pub packed_by : List ℕ → Option Packed
packed_by bs =
    if starts_with nat_eq bs (0x1f ∷ 0x8b ∷ []) then Some packed.Gzip
    else if starts_with nat_eq bs (0x28 ∷ 0xb5 ∷ 0x2f ∷ 0xfd ∷ []) then Some packed.Zstd
    else if starts_with nat_eq bs (0xfd ∷ 0x37 ∷ 0x7a ∷ 0x58 ∷ 0x5a ∷ 0x00 ∷ []) then Some packed.Xz
    else if starts_with nat_eq bs (codes "BZh") && starts_with nat_eq (drop 4 bs) (codes "1AY&SY")
    then Some packed.Bzip2
    else packed_rarely bs
