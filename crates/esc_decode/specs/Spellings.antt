-- Code points as UTF-8.
use Rattle.std.specs.Prelude.{ℕ, if◌then◌else◌, List, [], ◌∷◌, ◌++◌}
use Rattle.std.specs.Char.{encode_utf8}
use lib.Utf8.{scalar}

-- a surrogate, in place of a character that is not there
abbrev pub no_character : ℕ
no_character = 0xd800

-- The UTF-8 of a code point. A surrogate is no character: it becomes FF, which is in none either,
-- and is a stray byte to the framing.
abbrev pub spelling : ℕ → List ℕ
spelling n = if scalar n then encode_utf8 n else 0xff ∷ []

abbrev pub spell_all : List ℕ → List ℕ
spell_all [] = []
spell_all (n ∷ ns) = spelling n ++ spell_all ns
