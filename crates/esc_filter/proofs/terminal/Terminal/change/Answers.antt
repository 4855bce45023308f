use Rattle.std.proofs.Common.{◌∙◌, ap}
use Rattle.esc_filter.specs.Terminal.{after_function}
use Rattle.esc_filter.proofs.Output.PartsAreAppended.{some_params}
use Rattle.esc_filter.proofs.GivingBack.TerminalIsUnmoved.{function_is, other_function}
use Rattle.esc_filter.proofs.terminal.Terminal.change.Goals as goal

pub returns-in-SGR : goal.returns-in-SGR
unfolding after_function
returns-in-SGR c = function_is _ _ c.args.params.now c.args.self.now c.in-SGR.is

pub returns-in-SM : goal.returns-in-SM
unfolding after_function
returns-in-SM c = c.change_modes.ensures
    ∙ function_is _ _ c.args.params.now c.args.self.now c.in-SM.is

pub returns-in-RM : goal.returns-in-RM
unfolding after_function
returns-in-RM c = c.change_modes-in-RM.ensures
    ∙ function_is _ _ c.args.params.now c.args.self.now c.in-RM.is

pub returns-in-DECSET : goal.returns-in-DECSET
unfolding after_function
returns-in-DECSET c = c.change_modes-in-DECSET.ensures
    ∙ function_is _ _ c.args.params.now c.args.self.now c.in-DECSET.is

pub returns-in-DECRST : goal.returns-in-DECRST
unfolding after_function
returns-in-DECRST c = c.change_modes-in-DECRST.ensures
    ∙ function_is _ _ c.args.params.now c.args.self.now c.in-DECRST.is

pub returns-in-XTSAVE : goal.returns-in-XTSAVE
unfolding after_function
returns-in-XTSAVE c = c.change_modes-in-XTSAVE.ensures
    ∙ function_is _ _ c.args.params.now c.args.self.now c.in-XTSAVE.is

pub returns-in-XTRESTORE : goal.returns-in-XTRESTORE
unfolding after_function
returns-in-XTRESTORE c = c.change_modes-in-XTRESTORE.ensures
    ∙ function_is _ _ c.args.params.now c.args.self.now c.in-XTRESTORE.is

pub returns-in-DECSTBM : goal.returns-in-DECSTBM
unfolding after_function
returns-in-DECSTBM c = ap (λ b. record c.args.self.now { margins = b })
    (some_params c.args.params.now c.is_empty.result c.is_empty.ensures)
    ∙ function_is _ _ c.args.params.now c.args.self.now c.in-DECSTBM.is

pub returns-in-SCOSC : goal.returns-in-SCOSC
unfolding after_function
returns-in-SCOSC c = c.save.ensures
    ∙ function_is _ _ c.args.params.now c.args.self.now c.in-SCOSC.is

pub returns-in-SCORC : goal.returns-in-SCORC
unfolding after_function
returns-in-SCORC c = c.restore.ensures
    ∙ function_is _ _ c.args.params.now c.args.self.now c.in-SCORC.is

pub returns-in-XTPOPSGR : goal.returns-in-XTPOPSGR
unfolding after_function
returns-in-XTPOPSGR c = function_is _ _ c.args.params.now c.args.self.now c.in-XTPOPSGR.is

pub returns-in-XTPOPSGR_2 : goal.returns-in-XTPOPSGR_2
unfolding after_function
returns-in-XTPOPSGR_2 c = function_is _ _ c.args.params.now c.args.self.now c.in-XTPOPSGR_2.is

pub returns-in-DECSTR : goal.returns-in-DECSTR
unfolding after_function
returns-in-DECSTR c = function_is _ _ c.args.params.now c.args.self.now c.in-DECSTR.is

pub returns-in_default : goal.returns-in_default
returns-in_default c =
    other_function c.args.function c.args.params.now c.args.self.now
    c.in_default.not-SGR c.in_default.not-SM c.in_default.not-RM c.in_default.not-DECSET
    c.in_default.not-DECRST c.in_default.not-XTSAVE c.in_default.not-XTRESTORE
    c.in_default.not-DECSTBM c.in_default.not-SCOSC c.in_default.not-SCORC
    c.in_default.not-XTPOPSGR c.in_default.not-XTPOPSGR_2 c.in_default.not-DECSTR
