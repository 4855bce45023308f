use Rattle.std.proofs.lemmas.Result.{err_from_is_err_and}
use Rattle.esc_actions.specs.declared.action.Action.TheVariants as action
use Rattle.esc_parse.proofs.Lists.ListTakesActions.{gathers_from, gathers_none}
use Rattle.esc_parse.proofs.Lists.StepsOverLists.{match_err}
use Rattle.esc_parse.proofs.sink.CollectSinkAction.receive_text.Goals as goal

pub returns-clause-given : goal.returns-clause-given
returns-clause-given g c =
    gathers_from action.Print c.args.text.now c.args.self.now _ _ c.requires.run.some
    c.reserve_for.ensures.unchanged.items c.push_text.ensures

pub returns-in_err-reserve_for-clause-given : goal.returns-in_err-reserve_for-clause-given
returns-in_err-reserve_for-clause-given g c =
    let p = err_from_is_err_and c.from_residual.result c.from_residual.ensures.1 in
    match_err _ _ c.from_residual.result p.0 p.1
    (gathers_none action.Print c.args.text.now _ _ c.requires.run.some
    c.reserve_for.ensures.unchanged.items
    c.in_err-reserve_for.ensures.refused)
