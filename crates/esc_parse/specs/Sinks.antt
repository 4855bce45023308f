-- The effect of calls on a sink, in the words of its trait.
use Rattle.std.specs.Prelude.{List, OnOk, Result}
use Rattle.esc_actions.specs.Values.{Value}
use Rattle.esc_actions.specs.declared.action.Action.{Action}
use Rattle.esc_parse.specs.Given.{Gives, MayReceive}
use Rattle.esc_parse.specs.declared.sink.Sink.{Ghosts as Sinks}

-- it may be given actions of these values, one after another
abbrev pub MayGive : {S A : Type 0} → Sinks S (Action A) → S → List (Value A) → Type 0
MayGive T sink vs = MayReceive T.is_ready T.may T.takes sink vs

-- it was given them; after an error, those before one that was refused, or those after which the
-- giver stopped by itself, which it does only if `own` holds
abbrev pub Gave : {S A U E : Type 0} → Sinks S (Action A) → Type 0 → S → List (Value A)
    → Result U E → S → Type 0
Gave T own sink vs result new = Gives own T.takes T.refuses result sink vs new

-- it is ready for any action, if it was before
abbrev pub StaysReady : {S A U E : Type 0} → Sinks S (Action A) → S → Result U E → S → Type 0
StaysReady T sink result new = T.is_ready sink → OnOk result (T.is_ready new)
