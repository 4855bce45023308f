-- The words of semantic prompts.
use Rattle.std.specs.Prelude.{ℕ, nat_eq, if◌then◌else◌, List, codes, Option, Some, None}
use Rattle.std.specs.Cmp.Lexicographic.{pointwise}
use Rattle.esc_prompts.specs.declared.click.FinalTermClick.{FinalTermClick}
use Rattle.esc_prompts.specs.declared.click.FinalTermClick.TheVariants as click
use Rattle.esc_prompts.specs.declared.prompt_kind.FinalTermPromptKind.{FinalTermPromptKind}
use Rattle.esc_prompts.specs.declared.prompt_kind.FinalTermPromptKind.TheVariants as kind

-- the words of `cl`
abbrev pub click_word : FinalTermClick → List ℕ
click_word click.Line = codes "line"
click_word click.MultipleLine = codes "m"
click_word click.ConservativeVertical = codes "v"
click_word click.SmartVertical = codes "w"

-- the value that a word of `cl` names
abbrev pub click_of : List ℕ → Option FinalTermClick
click_of w = if pointwise nat_eq w (codes "line") then Some click.Line
    else if pointwise nat_eq w (codes "m") then Some click.MultipleLine
    else if pointwise nat_eq w (codes "v") then Some click.ConservativeVertical
    else if pointwise nat_eq w (codes "w") then Some click.SmartVertical
    else None

-- the words of `k`
abbrev pub kind_word : FinalTermPromptKind → List ℕ
kind_word kind.Initial = codes "i"
kind_word kind.RightSide = codes "r"
kind_word kind.Continuation = codes "c"
kind_word kind.Secondary = codes "s"

-- the value that a word of `k` names
abbrev pub kind_of : List ℕ → Option FinalTermPromptKind
kind_of w = if pointwise nat_eq w (codes "i") then Some kind.Initial
    else if pointwise nat_eq w (codes "r") then Some kind.RightSide
    else if pointwise nat_eq w (codes "c") then Some kind.Continuation
    else if pointwise nat_eq w (codes "s") then Some kind.Secondary
    else None
