-- The parts that paint a screen: their text, and their effect on a screen.
use Rattle.std.specs.Prelude.{ℕ, ◌+◌, List, [], ◌∷◌, ◌++◌, codes}
use Rattle.std.specs.Char.{encode_utf8}
use Rattle.std.specs.Fmt.{decimal}
use Rattle.std.specs.List.{flat_map}
use Rattle.esc_sgr.specs.Sgr.{look_text}
use Rattle.esc_style.specs.declared.look.Look.{Look}
use Rattle.esc_screen.specs.declared.change.Change.TheVariants as change
use Rattle.esc_screen.specs.declared.motion.Motion.TheVariants as motion
use Rattle.esc_screen.specs.declared.setting.Setting.TheVariants as setting
use Rattle.esc_screen.specs.declared.step.Step.{Step}
use Rattle.esc_screen.specs.declared.step.Step.TheVariants as step
use Rattle.esc_terminal.specs.Looks.{erased_look}
use Rattle.esc_terminal.specs.Steps.{print_step}

pub data Part : Type 0 where
  -- DECSTR
  soft_reset : Part
  -- ED 2, and EL
  erase_all : Part
  erase_right : Part
  -- CUP, to a row and a column, from 0 on
  place : ℕ → ℕ → Part
  -- a character or a mark
  character : ℕ → Part
  -- SGR: how the characters look that come
  look : Look → Part

abbrev pub part_text : Part → List ℕ
part_text soft_reset = 0x1b ∷ codes "[!p"
part_text erase_all = 0x1b ∷ codes "[2J"
part_text erase_right = 0x1b ∷ codes "[K"
part_text (place r n) =
    0x1b ∷ 0x5b ∷ (decimal (r + 1) ++ 0x3b ∷ (decimal (n + 1) ++ 0x48 ∷ []))
part_text (character c) = encode_utf8 c
part_text (look l) = look_text l

abbrev pub parts_text : List Part → List ℕ
parts_text ps = flat_map part_text ps

-- its effect, if looks have these numbers
abbrev pub part_step : (Look → ℕ) → Part → Step
part_step number soft_reset = step.Set setting.SoftReset
part_step number erase_all = step.Edit change.EraseAll
part_step number erase_right = step.Edit change.EraseRight
part_step number (place r n) = step.Move (motion.Position r n)
part_step number (character c) = print_step c
part_step number (look l) = step.Set (setting.Select (number l) (number (erased_look l)))
