use Rattle.std.proofs.Common.{◌≡◌, map, length, [], ◌∷◌, ◌++◌, refl, sym, ap, subst, ◌∙◌, append_assoc, append-nil, arith}
use Rattle.std.proofs.lemmas.Result.{err_from_is_err_and}
use Rattle.std.specs.List.{FoldsTo}
use Rattle.std.specs.Vec.Iter.{into_iter_items}
use Rattle.esc_sequences.specs.Csis.{csi_value}
use Rattle.esc_parse.proofs.Lists.StepsOverLists.{folds_more, match_err, nothing_left, stops_more}
use Rattle.std.proofs.Math.Logic.{⊎_map}
use Rattle.esc_frame.proofs.Emits.MayAfterSome.{get_first, get_rest}
use Rattle.std.proofs.lemmas.List.{map-append}
use Rattle.esc_parse.proofs.performer.give_all.Goals as goal
use Rattle.esc_parse.specs.Given.{AnyAt, At, StopsAt}
use Rattle.esc_actions.specs.Values.{csi, value_of}
use Rattle.esc_actions.specs.declared.action.Action.TheVariants as action
use Rattle.fallible_alloc.specs.Refusals.{Refused}

pub loop-value-init : goal.loop-value-init
loop-value-init g c =
    let w = c.into_iter-value-iterator.ensures.into_iter_gives in
    let same = ap length w.0 in record {
      ready = λ r. r;
      parts = w.0;
      many = omega (arith, w.1, same);
      taken = refl;
    }

pub receive-requires : goal.receive-requires
receive-requires g c =
    let at = c.loop-value in
    let v = c.in-Some.value in
    let steps : into_iter_items at.value-iterator ≡ v ∷ into_iter_items c.next.new.self =
    c.in-Some.ensures.steps.0 in
    let all : at.yielded ++ v ∷ into_iter_items c.next.new.self ≡ c.args.values.items =
    rw (← steps) at.invariant.parts in
    let rest = map csi (map csi_value (into_iter_items c.next.new.self)) in
    let parts : map csi (map csi_value at.yielded) ++ csi (csi_value v) ∷ rest
    ≡ map csi (map csi_value c.args.values.items) =
    sym (map-append csi (map csi_value at.yielded) _)
    ∙ ap (map csi) (sym (map-append csi_value at.yielded (v ∷ into_iter_items c.next.new.self)))
    ∙ ap (λ vs. map csi (map csi_value vs)) all in
    ⊎_map (λ r. r) (λ any. any (action.CSI v) refl)
    (get_first g.S.Sink.is_ready (AnyAt value_of g.S.Sink.may)
    (At value_of g.S.Sink.takes) at.sink at.sink (csi (csi_value v)) rest
    (get_rest g.S.Sink.is_ready (AnyAt value_of g.S.Sink.may)
    (At value_of g.S.Sink.takes) c.args.sink.now at.sink
    (map csi (map csi_value at.yielded)) _ _ parts at.invariant.ready at.invariant.taken
    c.requires))

pub loop-value-preserved : goal.loop-value-preserved
loop-value-preserved g c =
    let at = c.loop-value in
    let v = c.in-Some.value in
    let steps : into_iter_items at.value-iterator ≡ v ∷ into_iter_items c.next.new.self =
    c.in-Some.ensures.steps.0 in
    let gone = c.in-Some.ensures.steps.1 in
    let short = ap length steps in record {
      ready = λ r. c.in_ok-receive.ensures.ready (at.invariant.ready r);
      parts = append_assoc at.yielded (v ∷ []) _ ∙ rw (← steps) at.invariant.parts;
      many = let was = at.invariant.many in omega arith;
      taken = folds_more
          (At value_of g.S.Sink.takes) csi_value csi _ at.yielded _ v _ at.invariant.taken
          (action.CSI v, refl, c.in_ok-receive.ensures.given);
    }

pub returns-in_err-receive-clause-given : goal.returns-in_err-receive-clause-given
returns-in_err-receive-clause-given g c =
    let at = c.loop-value in
    let v = c.in-Some.value in
    let steps : into_iter_items at.value-iterator ≡ v ∷ into_iter_items c.next.new.self =
    c.in-Some.ensures.steps.0 in
    let all : at.yielded ++ v ∷ into_iter_items c.next.new.self ≡ c.args.values.items =
    rw (← steps) at.invariant.parts in
    let p = err_from_is_err_and c.from_residual.result c.from_residual.ensures.1 in
    match_err _ _ c.from_residual.result p.0 p.1
    (subst (λ vs. StopsAt (Refused g.row.A.Denot) (At value_of g.S.Sink.takes)
    (At value_of g.S.Sink.refuses) c.args.sink.now
    (map csi (map csi_value vs)) c.receive.new.self) all
    (stops_more (At value_of g.S.Sink.takes) (At value_of g.S.Sink.refuses)
    (Refused g.row.A.Denot) csi_value csi _ at.yielded _ v
    (into_iter_items c.next.new.self) _ at.invariant.taken
    (action.CSI v, refl, c.in_err-receive.ensures.given)))

pub returns-clause-ready : goal.returns-clause-ready
returns-clause-ready g c = c.loop-value.invariant.ready

pub returns-clause-given : goal.returns-clause-given
returns-clause-given g c =
    let at = c.loop-value in
    let none = c.in-None.ensures.steps in
    let empty : into_iter_items at.value-iterator ≡ [] =
    nothing_left _ (sym at.invariant.many ∙ none.0) in
    let all : at.yielded ≡ c.args.values.items =
    sym (append-nil at.yielded) ∙ rw empty at at.invariant.parts in
    subst (λ vs. FoldsTo (At value_of g.S.Sink.takes) c.args.sink.now
    (map csi (map csi_value vs)) at.sink) all at.invariant.taken
