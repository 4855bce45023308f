use Rattle.std.proofs.Common.{chars, map, subst, sym, ◌∙◌}
use Rattle.std.proofs.lemmas.Str.{chars_past_char}
use Rattle.std.specs.List.{FoldsTo}
use Rattle.esc_actions.specs.declared.action.Action.TheVariants as action
use Rattle.esc_parse.proofs.Lists.ListTakesActions.{Keeps, first_taken}
use Rattle.esc_parse.proofs.sink.FirstSinkAction.receive_str.Goals as goal

pub returns-clause-given : goal.returns-clause-given
returns-clause-given g c =
    let p = c.args.self.now in
    let q = record p { action = c.keep_first.new.first } in
    subst (λ cs. FoldsTo Keeps p (map action.Print cs) q)
    (sym (chars_past_char c.args.text.now _ c.in-Some.first c.utf8.text
    (sym c.chars.ensures.rest ∙ c.in-Some.ensures.steps.0)))
    (first_taken c.in-Some.first (chars _) p q c.keep_first.ensures)
