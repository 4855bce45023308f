-- The fields of semantic prompts.
use Rattle.std.specs.Prelude.{ℕ, List, [], ◌∷◌, ◌++◌, Option, Some, None}
use Rattle.esc_prompts.specs.declared.click.FinalTermClick.{FinalTermClick}
use Rattle.esc_prompts.specs.declared.click.FinalTermClick.TheVariants as click
use Rattle.esc_prompts.specs.declared.prompt.FinalTermSemanticPrompt.{FinalTermSemanticPrompt}
use Rattle.esc_prompts.specs.declared.prompt.FinalTermSemanticPrompt.TheVariants as prompt
use Rattle.esc_prompts.specs.declared.prompt_kind.FinalTermPromptKind.{FinalTermPromptKind}
use Rattle.esc_prompts.specs.declared.prompt_kind.FinalTermPromptKind.TheVariants as kind
use Rattle.flat_values.specs.Fields.{Field, number_field, signed_field, text_field}
use Rattle.flat_values.specs.declared.field_name.FieldName.TheVariants as name

-- the numbers of clicks
abbrev pub click_number : FinalTermClick → ℕ
click_number click.Line = 0
click_number click.MultipleLine = 1
click_number click.ConservativeVertical = 2
click_number click.SmartVertical = 3

-- the numbers of the kinds of prompts
abbrev pub kind_number : FinalTermPromptKind → ℕ
kind_number kind.Initial = 0
kind_number kind.RightSide = 1
kind_number kind.Continuation = 2
kind_number kind.Secondary = 3

-- the name of the application, where it is given
abbrev pub aid_fields : Option (List ℕ) → List Field
aid_fields None = []
aid_fields (Some t) = text_field name.Application t ∷ []

-- the effect of a click, if it is given
abbrev pub click_fields : Option FinalTermClick → List Field
click_fields None = []
click_fields (Some c) = number_field name.Click (click_number c) ∷ []

abbrev pub prompt_fields : {A : Type 0} → FinalTermSemanticPrompt A → List Field
prompt_fields prompt.FreshLine = []
prompt_fields (prompt.FreshLineAndStartPrompt aid cl) = aid_fields aid ++ click_fields cl
prompt_fields (prompt.MarkEndOfCommandWithFreshLine aid cl) = aid_fields aid ++ click_fields cl
prompt_fields (prompt.StartPrompt k) = number_field name.PromptKind (kind_number k) ∷ []
prompt_fields prompt.MarkEndOfPromptAndStartOfInputUntilNextMarker = []
prompt_fields prompt.MarkEndOfPromptAndStartOfInputUntilEndOfLine = []
prompt_fields (prompt.MarkEndOfInputAndStartOfOutput aid) = aid_fields aid
prompt_fields (prompt.CommandStatus s aid) = signed_field name.Status s ∷ aid_fields aid
