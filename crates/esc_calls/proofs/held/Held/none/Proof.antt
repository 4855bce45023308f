-- `none` owns nothing.
use mathlib.Core.Path.{refl}
use mathlib.Core.List.{[], ◌∷◌}
use Rattle.std.proofs.Common.{None, lit<}
use base.Logic.{emp}
use types.Kit.{raw, ◌$◌, ◌∵◌, !, qed, drop, join, suffices, done}
use types.Part.{agg}
use types.Run.{no_more, and_then, lit, returns, enter}
use types.ByLocal.{alloc_all, pass_all, free_all, look_at, sets}
use denote.RawPtr.{null_ptr, ptr_val}
use denote.Steps.{nothing}
use denote.Triple.Entry.{on_entry}
use denote.Triple.Walked.{says, Stays, walk_of, ends_at}
use Rattle.std.proofs.raw_atomic.Walks.{proved}
use Rattle.esc_calls.proofs.AsBox.{Held, held_none, word}
use Rattle.esc_calls.specs.contracts.held.Held.none as F
use Rattle.esc_calls.specs.contracts.held.Held.none.Key.{name as #self}
use Rattle.esc_calls.proofs.held.Held.none.Statement as stated
use Rattle.esc_calls.proofs.held.Held.none.Code as code

abbrev stayed : Stays F.ended.signature.params F.ended.kept
stayed = tt

pub none_spec : {M : Type 1} → stated.statement M
none_spec 𝓤 𝓛 𝓜 𝓡 wired =
    let c = F.clauses 𝓛 𝓜.mem 𝓡.returns in
    proved 𝓛 F.ended stayed c 𝓜 𝓡 tt #self code.function (code.unfolded 𝓤 𝓛.H 𝓜 𝓡 wired)
    (λ κs. tt) (λ κs. tt) (λ κs qs bounds a n are.
    let y : (walk_of 𝓛 F.ended stayed c).Ghost = ((κs, qs, bounds, a, tt), n) in
    let made : Held.Denot = record { at = null_ptr; kept = None } in
    qed 𝓛 (raw (on_entry 𝓛 F.signature κs qs a y.0.4) ∷ raw (emp 𝓤) ∷ []) ∵ drop ! $ drop ! $
    held_none ! null_ptr $ enter ! _ _ _ _ _ $ alloc_all ! (λ l. pass_all ! refl tt $
    sets ! (agg ! (and_then ! (lit ! tt) (no_more !))) refl (tt, (record { fits = lit< tt }, tt)) $
    returns ! (look_at ! 0 refl) $ free_all ! refl $
    suffices ! _ (ends_at 𝓛 F.ended stayed c y (word (ptr_val null_ptr)) made tt tt) $ says ! refl $
    nothing ! $ join ! $ nothing ! $ join ! $ done !))
