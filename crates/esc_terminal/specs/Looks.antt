-- The looks of a screen, which its cells have the numbers of.
use Rattle.std.specs.Prelude.{ℕ, ◌≡◌, ◌≤◌, ◌+◌, ◌==◌, nat_lt, false, if◌then◌else◌, List, [], ◌∷◌, ◌++◌, length, get_or}
use Rattle.esc_sequences.specs.declared.underline.Underline.TheVariants as underline
use Rattle.esc_style.specs.Looks.{plain_look}
use Rattle.esc_style.specs.declared.color.Color.TheVariants as color
use Rattle.esc_style.specs.declared.look.Look.{Look}
use Rattle.esc_sgr.specs.Sgr.{same_look}

-- ---- their numbers

-- the place of a look among these; where it is not among them, how many they are
abbrev pub place_of : Look → List Look → ℕ
place_of l [] = 0
place_of l (k ∷ ks) = if same_look k l then 0 else place_of l ks + 1

-- at most so many are kept
abbrev pub most_looks : ℕ
most_looks = 0x1000

-- these and this one, where there is room for it
abbrev pub with_look : Look → List Look → List Look
with_look l ks = if nat_lt (place_of l ks) most_looks
    then if place_of l ks == length ks then ks ++ l ∷ [] else ks
    else ks

-- its number: its place, or that of the plain one where there is no room for it
abbrev pub number_in : Look → List Look → ℕ
number_in l ks = if nat_lt (place_of l ks) most_looks then place_of l ks else 0

-- none of these is this look
abbrev pub IsNew : Look → List Look → Type 0
IsNew k [] = 0 ≤ 0
IsNew k (l ∷ ls) = (same_look k l ≡ false) × IsNew k ls

-- each of these is there once
abbrev pub IsOnce : List Look → Type 0
IsOnce [] = 0 ≤ 0
IsOnce (k ∷ ks) = IsNew k ks × IsOnce ks

-- the look of a number
abbrev pub look_at : ℕ → List Look → Look
look_at n ks = get_or ks n plain_look

-- how a cell looks that is erased where characters look so: of that look it has the background
abbrev pub erased_look : Look → Look
erased_look l = record {
  bold = false;
  faint = false;
  italic = false;
  underline = underline.None;
  blink = false;
  inverse = false;
  concealed = false;
  strikethrough = false;
  overline = false;
  foreground = color.Default;
  background = l.background;
  underline_color = color.Default;
}
