-- Equal operating system commands are the same.
use Rattle.std.specs.Prelude.{◌≡◌, ◌↔◌, nat_eq, true, IsTrue, Option, Some, None}
use Rattle.std.specs.declared.alloc.Allocator.{Ghosts}
use denote.RattleType.{RattleType}
use mir.Syntax.{Dict}
use Rattle.std.proofs.Common.{rules, ap, refl}
use Rattle.esc_osc.specs.declared.command.OperatingSystemCommand.{OperatingSystemCommand}
use Rattle.esc_osc.specs.declared.command.OperatingSystemCommand.TheVariants as command
use Rattle.esc_osc_values.specs.contracts.change_color_pair.ChangeColorPairPartialEq.TheImpl as color_pair
use Rattle.esc_osc_values.specs.contracts.color_or_query.ColorOrQueryPartialEq.TheImpl as color
use Rattle.esc_osc.specs.contracts.command.OperatingSystemCommandPartialEq.TheImpl as command_eq
use Rattle.esc_osc_values.specs.contracts.dynamic_color_number.DynamicColorNumberPartialEq.TheImpl as dynamic
use Rattle.esc_osc_values.specs.contracts.progress.ProgressPartialEq.TheImpl as progress
use Rattle.esc_osc_values.specs.contracts.selection.SelectionPartialEq.TheImpl as selection
use Rattle.esc_links.specs.declared.hyperlink.Hyperlink.{Hyperlink}
use Rattle.esc_prompts.specs.contracts.prompt.FinalTermSemanticPromptPartialEq.TheImpl as prompt
use Rattle.std.specs.Cmp.Lexicographic.{pointwise}
use Rattle.esc_equality.proofs.BelowSame.{hyperlinks}
use Rattle.esc_equality.proofs.ItermsSame.{iterms}
use Rattle.esc_equality.proofs.Same.{IsSame, both, lists, never, texts}

colors : IsSame color.ghosts.eq
colors a b = search rules

color_pairs : IsSame color_pair.ghosts.eq
color_pairs a b = search rules

dynamics : IsSame dynamic.ghosts.eq
dynamics a b = search rules

progresses : IsSame progress.ghosts.eq
progresses a b = search rules

selections : IsSame selection.ghosts.eq
selections a b = search rules

prompts : (T : RattleType) (G : Ghosts T.Denot) (x y : Dict) → IsSame (prompt.ghosts T G x y).eq
prompts T G x y a b = search (texts, rules)

-- links that are there are compared, and others are equal
links : (T : RattleType) (G : Ghosts T.Denot) (x y : Dict) (h k : Option (Hyperlink T.Denot))
    → IsTrue ((command_eq.ghosts T G x y).eq (command.SetHyperlink h) (command.SetHyperlink k))
    ↔ (h ≡ k)
links T G x y None None = (λ e. refl, λ e. refl)
links T G x y None (Some l) = (λ e. never e, λ e. absurd cc)
links T G x y (Some k) None = (λ e. never e, λ e. absurd cc)
links T G x y (Some k) (Some l) = (
  λ e. ap Some ((hyperlinks T G x y k l).0 e),
  λ e.
      let q : k ≡ l = cc in (hyperlinks T G x y k l).1 q,
)

commands_true : (T : RattleType) (G : Ghosts T.Denot) (x y : Dict)
    (a b : OperatingSystemCommand T.Denot) → (command_eq.ghosts T G x y).eq a b ≡ true → a ≡ b
commands_true T G x y (command.SetIconNameAndWindowTitle s) (command.SetIconNameAndWindowTitle t)
    e = ap command.SetIconNameAndWindowTitle ((texts s t).0 e)
commands_true T G x y (command.SetWindowTitle s) (command.SetWindowTitle t) e =
    ap command.SetWindowTitle ((texts s t).0 e)
commands_true T G x y (command.SetWindowTitleSun s) (command.SetWindowTitleSun t) e =
    ap command.SetWindowTitleSun ((texts s t).0 e)
commands_true T G x y (command.SetIconName s) (command.SetIconName t) e =
    ap command.SetIconName ((texts s t).0 e)
commands_true T G x y (command.SetIconNameSun s) (command.SetIconNameSun t) e =
    ap command.SetIconNameSun ((texts s t).0 e)
commands_true T G x y (command.SystemNotification s) (command.SystemNotification t) e =
    ap command.SystemNotification ((texts s t).0 e)
commands_true T G x y (command.CurrentWorkingDirectory s) (command.CurrentWorkingDirectory t) e =
    ap command.CurrentWorkingDirectory ((texts s t).0 e)
commands_true T G x y (command.ClearSelection s) (command.ClearSelection t) e =
    ap command.ClearSelection ((selections s t).0 e)
commands_true T G x y (command.QuerySelection s) (command.QuerySelection t) e =
    ap command.QuerySelection ((selections s t).0 e)
commands_true T G x y (command.ITermProprietary s) (command.ITermProprietary t) e =
    ap command.ITermProprietary ((iterms T G x y s t).0 e)
commands_true T G x y (command.FinalTermSemanticPrompt s) (command.FinalTermSemanticPrompt t) e =
    ap command.FinalTermSemanticPrompt ((prompts T G x y s t).0 e)
commands_true T G x y (command.ChangeColorNumber s) (command.ChangeColorNumber t) e =
    ap command.ChangeColorNumber ((lists color_pair.ghosts.eq color_pairs s t).0 e)
commands_true T G x y (command.ResetDynamicColor s) (command.ResetDynamicColor t) e =
    ap command.ResetDynamicColor ((dynamics s t).0 e)
commands_true T G x y (command.ResetColors s) (command.ResetColors t) e =
    ap command.ResetColors ((texts s t).0 e)
commands_true T G x y (command.RxvtExtension s) (command.RxvtExtension t) e =
    ap command.RxvtExtension ((lists (pointwise nat_eq) texts s t).0 e)
commands_true T G x y (command.ConEmuProgress s) (command.ConEmuProgress t) e =
    ap command.ConEmuProgress ((progresses s t).0 e)
commands_true T G x y (command.Unspecified s) (command.Unspecified t) e =
    ap command.Unspecified ((lists (pointwise nat_eq) texts s t).0 e)
commands_true T G x y (command.SetHyperlink s) (command.SetHyperlink t) e =
    ap command.SetHyperlink ((links T G x y s t).0 e)
commands_true T G x y (command.SetSelection m s) (command.SetSelection n t) e = let q =
    (both (selections m n) (texts s t)).0 e in rw (q.0, q.1) refl
commands_true T G x y (command.ChangeDynamicColors m s) (command.ChangeDynamicColors n t) e =
    let q =
    (both (dynamics m n) (lists color.ghosts.eq colors s t)).0 e in rw (q.0, q.1) refl
commands_true T G x y a b e = never e

commands_itself : (T : RattleType) (G : Ghosts T.Denot) (x y : Dict)
    (a : OperatingSystemCommand T.Denot) → (command_eq.ghosts T G x y).eq a a ≡ true
commands_itself T G x y (command.SetIconNameAndWindowTitle s) = (texts s s).1 refl
commands_itself T G x y (command.SetWindowTitle s) = (texts s s).1 refl
commands_itself T G x y (command.SetWindowTitleSun s) = (texts s s).1 refl
commands_itself T G x y (command.SetIconName s) = (texts s s).1 refl
commands_itself T G x y (command.SetIconNameSun s) = (texts s s).1 refl
commands_itself T G x y (command.SystemNotification s) = (texts s s).1 refl
commands_itself T G x y (command.CurrentWorkingDirectory s) = (texts s s).1 refl
commands_itself T G x y (command.ClearSelection s) = (selections s s).1 refl
commands_itself T G x y (command.QuerySelection s) = (selections s s).1 refl
commands_itself T G x y (command.ITermProprietary s) = (iterms T G x y s s).1 refl
commands_itself T G x y (command.FinalTermSemanticPrompt s) = (prompts T G x y s s).1 refl
commands_itself T G x y (command.ChangeColorNumber s) =
    (lists color_pair.ghosts.eq color_pairs s s).1 refl
commands_itself T G x y (command.ResetDynamicColor s) = (dynamics s s).1 refl
commands_itself T G x y (command.ResetColors s) = (texts s s).1 refl
commands_itself T G x y (command.RxvtExtension s) = (lists (pointwise nat_eq) texts s s).1 refl
commands_itself T G x y (command.ConEmuProgress s) = (progresses s s).1 refl
commands_itself T G x y (command.Unspecified s) = (lists (pointwise nat_eq) texts s s).1 refl
commands_itself T G x y (command.SetHyperlink s) = (links T G x y s s).1 refl
commands_itself T G x y (command.SetSelection m s) =
    (both (selections m m) (texts s s)).1 (refl, refl)
commands_itself T G x y (command.ChangeDynamicColors m s) =
    (both (dynamics m m) (lists color.ghosts.eq colors s s)).1 (refl, refl)

pub commands : (T : RattleType) (G : Ghosts T.Denot) (x y : Dict)
    → IsSame (command_eq.ghosts T G x y).eq
commands T G x y a b = (commands_true T G x y a b, λ e. rw e (commands_itself T G x y b))
