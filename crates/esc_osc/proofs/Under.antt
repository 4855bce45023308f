-- Each command is written under its code.
use Rattle.std.proofs.Common.{ℕ, inl, inr, List, [], ◌∷◌, ◌++◌, Some, None, IfSome, refl}
use Rattle.std.specs.List.{flat_map}
use Rattle.std.proofs.lemmas.List.{append-nil}
use Rattle.esc_prompts.specs.Prompts.{prompt_text}
use Rattle.esc_prompts.specs.declared.prompt.FinalTermSemanticPrompt.{FinalTermSemanticPrompt}
use Rattle.esc_prompts.specs.declared.prompt.FinalTermSemanticPrompt.TheVariants as prompt
use Rattle.esc_osc_values.specs.Codes.{code_text}
use Rattle.esc_osc.specs.Commands.{IsUnder, code_under, inner_text, listed_text}
use Rattle.esc_osc_values.specs.declared.code.OperatingSystemCommandCode.{OperatingSystemCommandCode}
use Rattle.esc_osc_values.specs.declared.code.OperatingSystemCommandCode.TheVariants as code
use Rattle.esc_osc.specs.declared.command.OperatingSystemCommand.{OperatingSystemCommand}
use Rattle.esc_osc.specs.declared.command.OperatingSystemCommand.TheVariants as command

-- a list of items, each after a `;`
listed_under : {X : Type 0} (k : OperatingSystemCommandCode) (f : X → List ℕ) (xs : List X)
    → IsUnder k (listed_text k f xs)
listed_under k f [] = inl (append-nil (code_text k))
listed_under k f (x ∷ xs) = inr (inl (f x ++ flat_map (λ y. 0x3b ∷ f y) xs, refl))

prompt_under : {A : Type 0} (p : FinalTermSemanticPrompt A)
    → IsUnder code.FinalTermSemanticPrompt (prompt_text p)
prompt_under prompt.FreshLine = inr (inl (_, refl))
prompt_under (prompt.FreshLineAndStartPrompt aid cl) = inr (inl (_, refl))
prompt_under (prompt.MarkEndOfCommandWithFreshLine aid cl) = inr (inl (_, refl))
prompt_under (prompt.StartPrompt k) = inr (inl (_, refl))
prompt_under prompt.MarkEndOfPromptAndStartOfInputUntilNextMarker = inr (inl (_, refl))
prompt_under prompt.MarkEndOfPromptAndStartOfInputUntilEndOfLine = inr (inl (_, refl))
prompt_under (prompt.MarkEndOfInputAndStartOfOutput aid) = inr (inl (_, refl))
prompt_under (prompt.CommandStatus s None) = inr (inl (_, refl))
prompt_under (prompt.CommandStatus s (Some a)) = inr (inl (_, refl))

pub under : {A : Type 0} (c : OperatingSystemCommand A)
    → IfSome (code_under c) (λ k. IsUnder k (inner_text c))
under (command.SetIconNameAndWindowTitle t) = inr (inl (_, refl))
under (command.SetWindowTitle t) = inr (inl (_, refl))
under (command.SetWindowTitleSun t) = inr (inr (inl refl, (_, refl)))
under (command.SetIconName t) = inr (inl (_, refl))
under (command.SetIconNameSun t) = inr (inr (inr refl, (_, refl)))
under (command.SetHyperlink None) = inr (inl (_, refl))
under (command.SetHyperlink (Some h)) = inr (inl (_, refl))
under (command.ClearSelection s) = inr (inl (_, refl))
under (command.QuerySelection s) = inr (inl (_, refl))
under (command.SetSelection s t) = inr (inl (_, refl))
under (command.SystemNotification t) = inr (inl (_, refl))
under (command.ITermProprietary c) = inr (inl (_, refl))
under (command.FinalTermSemanticPrompt p) = prompt_under p
under (command.ChangeColorNumber ps) = inr (inl (_, refl))
under (command.ChangeDynamicColors n cs) = listed_under _ _ cs
under (command.ResetDynamicColor n) = inl refl
under (command.CurrentWorkingDirectory t) = inr (inl (_, refl))
under (command.ResetColors ns) = listed_under _ _ ns
under (command.RxvtExtension ts) = listed_under _ _ ts
under (command.ConEmuProgress p) = inr (inl (_, refl))
under (command.Unspecified ps) = tt
