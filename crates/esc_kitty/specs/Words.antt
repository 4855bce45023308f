-- The values of an image's keys are words: each names something, and one of them is written.
use Rattle.std.specs.Prelude.{ℕ, ℤ, pos, negsuc, nat_eq, ◌==◌, Bool, true, false, if◌then◌else◌, List, codes, Option, Some, None}
use Rattle.std.specs.Cmp.Lexicographic.{pointwise}
use Rattle.esc_kitty.specs.declared.verbosity.KittyImageVerbosity.{KittyImageVerbosity}
use Rattle.esc_kitty.specs.declared.verbosity.KittyImageVerbosity.TheVariants.{Verbose, OnlyErrors, Quiet}
use Rattle.esc_kitty.specs.declared.format.KittyImageFormat.{KittyImageFormat}
use Rattle.esc_kitty.specs.declared.format.KittyImageFormat.TheVariants.{Rgb, Rgba, Png}
use Rattle.esc_kitty.specs.declared.compression.KittyImageCompression.{KittyImageCompression}
use Rattle.esc_kitty.specs.declared.compression.KittyImageCompression.TheVariants as compression
use Rattle.esc_kitty.specs.declared.composition.KittyFrameCompositionMode.{KittyFrameCompositionMode}
use Rattle.esc_kitty.specs.declared.composition.KittyFrameCompositionMode.TheVariants.{AlphaBlending, Overwrite}

abbrev pub is : List ℕ → List ℕ → Bool
is w x = pointwise nat_eq w x

-- the verbosity of a word: all if it is absent
abbrev pub verbosity_of : Option (List ℕ) → Option KittyImageVerbosity
verbosity_of None = Some Verbose
verbosity_of (Some w) = if is w (codes "0") then Some Verbose
    else if is w (codes "1") then Some OnlyErrors
    else if is w (codes "2") then Some Quiet
    else None

abbrev pub verbosity_word : KittyImageVerbosity → Option (List ℕ)
verbosity_word Verbose = None
verbosity_word OnlyErrors = Some (codes "1")
verbosity_word Quiet = Some (codes "2")

-- a flag: absent is false
abbrev pub flag_of : Option (List ℕ) → Option Bool
flag_of None = Some false
flag_of (Some w) =
    if is w (codes "0") then Some false else if is w (codes "1") then Some true else None

abbrev pub flag_word : Bool → Option (List ℕ)
flag_word true = Some (codes "1")
flag_word false = None

-- a format: absent is none
abbrev pub format_of : Option (List ℕ) → Option (Option KittyImageFormat)
format_of None = Some None
format_of (Some w) = if is w (codes "24") then Some (Some Rgb)
    else if is w (codes "32") then Some (Some Rgba)
    else if is w (codes "100") then Some (Some Png)
    else None

abbrev pub format_word : Option KittyImageFormat → Option (List ℕ)
format_word None = None
format_word (Some Rgb) = Some (codes "24")
format_word (Some Rgba) = Some (codes "32")
format_word (Some Png) = Some (codes "100")

-- a compression: absent is that there is none
abbrev pub compression_of : Option (List ℕ) → Option KittyImageCompression
compression_of None = Some compression.None
compression_of (Some w) = if is w (codes "z") then Some compression.Deflate else None

abbrev pub compression_word : KittyImageCompression → Option (List ℕ)
compression_word compression.None = None
compression_word compression.Deflate = Some (codes "z")

-- a way to put pixels over others, which is a number: absent is blending
abbrev pub composition_of : Option ℤ → Option KittyFrameCompositionMode
composition_of None = Some AlphaBlending
composition_of (Some (pos n)) =
    if n == 0 then Some AlphaBlending else if n == 1 then Some Overwrite else None
composition_of (Some (negsuc n)) = None

abbrev pub composition_word : KittyFrameCompositionMode → Option (List ℕ)
composition_word AlphaBlending = None
composition_word Overwrite = Some (codes "1")
