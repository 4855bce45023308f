use Rattle.std.proofs.Common.{◌∙◌}
use Rattle.esc_filter.specs.Terminal.{after_escape_function}
use Rattle.esc_filter.proofs.GivingBack.TerminalIsUnmoved.{escape_is, other_escape_function}
use Rattle.esc_filter.proofs.terminal.Terminal.change_by_escape.Goals as goal

pub returns-in-DECSC : goal.returns-in-DECSC
unfolding after_escape_function
returns-in-DECSC c = c.save.ensures
    ∙ escape_is _ _ c.args.control c.args.self.now c.in-DECSC.is

pub returns-in-DECRC : goal.returns-in-DECRC
unfolding after_escape_function
returns-in-DECRC c = c.restore.ensures
    ∙ escape_is _ _ c.args.control c.args.self.now c.in-DECRC.is

pub returns-in-GZD4 : goal.returns-in-GZD4
unfolding after_escape_function
returns-in-GZD4 c = escape_is _ _ c.args.control c.args.self.now c.in-GZD4.is

pub returns-in-G1D4 : goal.returns-in-G1D4
unfolding after_escape_function
returns-in-G1D4 c = escape_is _ _ c.args.control c.args.self.now c.in-G1D4.is

pub returns-in-G2D4 : goal.returns-in-G2D4
unfolding after_escape_function
returns-in-G2D4 c = escape_is _ _ c.args.control c.args.self.now c.in-G2D4.is

pub returns-in-G3D4 : goal.returns-in-G3D4
unfolding after_escape_function
returns-in-G3D4 c = escape_is _ _ c.args.control c.args.self.now c.in-G3D4.is

pub returns-in-GZDM4 : goal.returns-in-GZDM4
unfolding after_escape_function
returns-in-GZDM4 c = escape_is _ _ c.args.control c.args.self.now c.in-GZDM4.is

pub returns-in-G1D6 : goal.returns-in-G1D6
unfolding after_escape_function
returns-in-G1D6 c = escape_is _ _ c.args.control c.args.self.now c.in-G1D6.is

pub returns-in-G2D6 : goal.returns-in-G2D6
unfolding after_escape_function
returns-in-G2D6 c = escape_is _ _ c.args.control c.args.self.now c.in-G2D6.is

pub returns-in-G3D6 : goal.returns-in-G3D6
unfolding after_escape_function
returns-in-G3D6 c = escape_is _ _ c.args.control c.args.self.now c.in-G3D6.is

pub returns-in-LS2 : goal.returns-in-LS2
unfolding after_escape_function
returns-in-LS2 c = escape_is _ _ c.args.control c.args.self.now c.in-LS2.is

pub returns-in-LS3 : goal.returns-in-LS3
unfolding after_escape_function
returns-in-LS3 c = escape_is _ _ c.args.control c.args.self.now c.in-LS3.is

pub returns-in_default : goal.returns-in_default
returns-in_default c =
    other_escape_function c.args.function c.args.control c.args.self.now
    c.in_default.not-DECSC c.in_default.not-DECRC c.in_default.not-GZD4
    c.in_default.not-G1D4 c.in_default.not-G2D4 c.in_default.not-G3D4 c.in_default.not-GZDM4
    c.in_default.not-G1D6 c.in_default.not-G2D6 c.in_default.not-G3D6 c.in_default.not-LS2
    c.in_default.not-LS3
