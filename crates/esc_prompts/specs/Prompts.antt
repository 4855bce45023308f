-- Semantic prompts: how they are read and written, and which of them read back.
use Rattle.std.specs.Prelude.{ℕ, pos, ◌≡◌, ◌==◌, if◌then◌else◌, List, [], ◌∷◌, ◌++◌, codes, Option, Some, None}
use Rattle.std.specs.Fmt.{signed_decimal}
use Rattle.std.specs.Option.{option_map, unwrap_or}
use Rattle.esc_values.specs.Clear.{IsClearPart, AreClearParts, semicolon_list}
use Rattle.esc_values.specs.Scalars.{and_then, IsSigned, signed_of}
use Rattle.esc_prompts.specs.Pairs.{keys_of}
use Rattle.esc_prompts.specs.Words.{click_of, click_word, kind_of, kind_word}
use Rattle.esc_prompts.specs.declared.click.FinalTermClick.{FinalTermClick}
use Rattle.esc_prompts.specs.declared.prompt.FinalTermSemanticPrompt.{FinalTermSemanticPrompt}
use Rattle.esc_prompts.specs.declared.prompt.FinalTermSemanticPrompt.TheVariants as prompt
use Rattle.esc_prompts.specs.declared.prompt_kind.FinalTermPromptKind.{FinalTermPromptKind}
use Rattle.esc_prompts.specs.declared.prompt_kind.FinalTermPromptKind.TheVariants as kind

-- a prompt of a letter that comes alone
abbrev pub lone_prompt : {A : Type 0} → FinalTermSemanticPrompt A → List (List ℕ)
    → Option (FinalTermSemanticPrompt A)
lone_prompt p [] = Some p
lone_prompt p (a ∷ args) = None

-- the value of `cl`: absent, or one of its words
abbrev pub click_in : Option (List ℕ) → Option (Option FinalTermClick)
click_in None = Some None
click_in (Some w) = option_map (λ c. Some c) (click_of w)

-- the value of `k`: the initial kind where it is absent, or one of its words
abbrev pub kind_in : Option (List ℕ) → Option FinalTermPromptKind
kind_in None = Some kind.Initial
kind_in (Some w) = kind_of w

-- the values of `aid` and `cl`
abbrev pub aid_and_click : List (List ℕ) → Option (Option (List ℕ) × Option FinalTermClick)
aid_and_click args = and_then (keys_of args) (λ v. option_map (λ c. (v.aid, c)) (click_in v.cl))

-- the value of `aid`
abbrev pub aid_of : List (List ℕ) → Option (Option (List ℕ))
aid_of args = option_map (λ v. v.aid) (keys_of args)

-- the value of `k`
abbrev pub kind_among : List (List ℕ) → Option FinalTermPromptKind
kind_among args = and_then (keys_of args) (λ v. kind_in v.k)

-- a status, 0 where it is absent or is no number of 32 bits, and the value of `aid` after it
abbrev pub status_of : {A : Type 0} → List (List ℕ) → Option (FinalTermSemanticPrompt A)
status_of [] = Some (prompt.CommandStatus (pos 0) None)
status_of (s ∷ args) =
    option_map (λ aid. prompt.CommandStatus (unwrap_or (signed_of 32 s) (pos 0)) aid) (aid_of args)

-- the prompt of a letter and the parts after it, one line a letter
abbrev pub prompt_of_letter : {A : Type 0} → ℕ → List (List ℕ) → Option (FinalTermSemanticPrompt A)
prompt_of_letter c args = if c == 0x4c then lone_prompt prompt.FreshLine args
    else if c == 0x41 then option_map (λ (f : Option (List ℕ)
    × Option FinalTermClick). prompt.FreshLineAndStartPrompt f.0 f.1) (aid_and_click args)
    else if c == 0x4e then option_map (λ (f : Option (List ℕ)
    × Option FinalTermClick). prompt.MarkEndOfCommandWithFreshLine f.0 f.1) (aid_and_click args)
    else if c == 0x50 then option_map prompt.StartPrompt (kind_among args)
    else if c == 0x42 then lone_prompt prompt.MarkEndOfPromptAndStartOfInputUntilNextMarker args
    else if c == 0x49 then lone_prompt prompt.MarkEndOfPromptAndStartOfInputUntilEndOfLine args
    else if c == 0x43 then option_map prompt.MarkEndOfInputAndStartOfOutput (aid_of args)
    else if c == 0x44 then status_of args
    else None

-- the prompt of the parts after the code: a letter alone in the first of them, and the others
abbrev pub prompt_of : {A : Type 0} → List (List ℕ) → Option (FinalTermSemanticPrompt A)
prompt_of ((c ∷ []) ∷ args) = prompt_of_letter c args
prompt_of args = None

-- `aid` and its value, where it has one
abbrev pub aid_text : Option (List ℕ) → List ℕ
aid_text None = []
aid_text (Some a) = codes ";aid=" ++ a

-- `cl` and its word, where it has one
abbrev pub click_text : Option FinalTermClick → List ℕ
click_text None = []
click_text (Some c) = codes ";cl=" ++ click_word c

-- the text of a prompt: the code, the letter, and the text after it
abbrev pub prompt_text : {A : Type 0} → FinalTermSemanticPrompt A → List ℕ
prompt_text prompt.FreshLine = codes "133;L"
prompt_text (prompt.FreshLineAndStartPrompt aid cl) = codes "133;A" ++ aid_text aid ++ click_text cl
prompt_text (prompt.MarkEndOfCommandWithFreshLine aid cl) =
    codes "133;N" ++ aid_text aid ++ click_text cl
prompt_text (prompt.StartPrompt k) = codes "133;P;k=" ++ kind_word k
prompt_text prompt.MarkEndOfPromptAndStartOfInputUntilNextMarker = codes "133;B"
prompt_text prompt.MarkEndOfPromptAndStartOfInputUntilEndOfLine = codes "133;I"
prompt_text (prompt.MarkEndOfInputAndStartOfOutput aid) = codes "133;C" ++ aid_text aid
prompt_text (prompt.CommandStatus s None) = codes "133;D;" ++ signed_decimal s
prompt_text (prompt.CommandStatus s (Some a)) =
    codes "133;D;" ++ signed_decimal s ++ codes ";err=" ++ signed_decimal s ++ codes ";aid=" ++ a

-- no value, or a clear part
abbrev pub IsAid : Option (List ℕ) → Type 0
IsAid None = Unit {0}
IsAid (Some a) = IsClearPart a

-- a clear part for `aid`, and a status of 32 bits
abbrev pub IsWritablePrompt : {A : Type 0} → FinalTermSemanticPrompt A → Type 0
IsWritablePrompt (prompt.FreshLineAndStartPrompt aid cl) = IsAid aid
IsWritablePrompt (prompt.MarkEndOfCommandWithFreshLine aid cl) = IsAid aid
IsWritablePrompt (prompt.MarkEndOfInputAndStartOfOutput aid) = IsAid aid
IsWritablePrompt (prompt.CommandStatus s aid) = IsSigned 32 s × IsAid aid
IsWritablePrompt p = Unit {0}

-- says that the prompt's text is the code and clear parts, from which the prompt is read
abbrev pub WritesBack : {A : Type 0} → FinalTermSemanticPrompt A → Type 0
WritesBack {A = A} p =
    (args : List (List ℕ)) × (prompt_text p ≡ semicolon_list (codes "133" ∷ args)) × AreClearParts args
    × (prompt_of {A = A} args ≡ Some p)
