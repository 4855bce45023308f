-- `into_parts` moves the pointer, and its ownership goes with it.
use mathlib.Core.Path.{◌≡◌, refl, sym, subst}
use mathlib.Core.List.{List, [], ◌∷◌, ◌++◌}
use Rattle.std.proofs.Common.{Option, Some, None, ◌≢◌}
use seplogic.Ra.Ura.{Ura}
use mir.Val.{Val, vptr}
use base.Logic.{SProp, ent}
use base.Fml.{ftrue, fsep}
use prog.Memory.{Memory}
use prog.Routine.{Routine}
use prog.Wp.{WpFn, Tables}
use types.Logic.{Logic}
use contract.Monad.{Fun, fact}
use contract.Running.{tables, tables_of}
use sound.WpLaws.{WpFn-mono}
use types.Kit.{Item, ‵, raw, ◌⊛◌, ◌$◌, ◌∵◌, !, qed, by, move, drop, use1, join, split, fsplit, fjoin, suffices, done}
use types.Part.{whole, sub, agg}
use types.Run.{stop, fld, no_more, and_then, of_opd, returns, enter}
use types.ByLocal.{alloc_all, pass_all, free_all, look_at, get, get_in, sets}
use denote.Exit.{yes}
use denote.RawPtr.{block_ptr}
use denote.Signature.{plain}
use denote.Steps.{heard, nothing}
use denote.Triple.Spec.{triple_of}
use denote.Triple.Table.{entered}
use denote.Triple.Walked.{says, Stays, stay_dropped, walk_of, ends_at, Goes-dropped, walk_Meets}
use Rattle.core.proofs.alloc.Calls.{handle_tells}
use Rattle.std_alloc.proofs.BoxSteps.Form.{D, B, box_typed}
use Rattle.std_alloc.proofs.BoxSteps.Form as form
use Rattle.std_alloc.proofs.BoxSteps.Steps.{box_in}
use Rattle.std_heap.specs.contracts.Global as Heap
use Rattle.esc_calls.proofs.AsBox.{E, FromHeld as From, Held, Parts, held_out, word}
use Rattle.esc_calls.specs.contracts.held.Held.into_parts as F
use Rattle.esc_calls.specs.contracts.held.Held.into_parts.Key.{name as #self}
use Rattle.esc_calls.proofs.held.Held.into_parts.Statement as stated
use Rattle.esc_calls.proofs.held.Held.into_parts.Code as code

abbrev stayed : Stays (F.ended).signature.params (F.ended).kept
stayed = (stay_dropped From yes, (stay_dropped _ yes, tt))

known : {T : Type 0} (o : Option T) → o ≢ None → (x : T) × (o ≡ Some x)
known None some = absurd (some refl)
known (Some x) some = (x, refl)

module _ {M : Type 1} {𝓤 : Ura M} (𝓛 : Logic 𝓤) (at_mem : Memory → SProp 𝓤) (run : Routine → Fun 𝓤)
    (𝓣 : Tables 𝓤 𝓛.H) where
  open 𝓛 use {H}

  walk : (z : (walk_of 𝓛 F.ended stayed (F.clauses 𝓛 at_mem run)).Ghost)
      → ent 𝓤 ((walk_of 𝓛 F.ended stayed (F.clauses 𝓛 at_mem run)).pre z)
      (WpFn 𝓤 H 𝓣.C 𝓣.Λ code.function (z.0.4.0 ++ (z.0.4.1.0 ++ [])) ((walk_of 𝓛 F.ended stayed
      (F.clauses 𝓛 at_mem run)).post z))
  walk z =
      let Post = (walk_of 𝓛 F.ended stayed (F.clauses 𝓛 at_mem run)).post z in
      let held = z.0.3.0 in let a = z.0.3.1.0 in let vs = z.0.4.0 in let us = z.0.4.1.0 in
      qed 𝓛 ((‵ ftrue ⊛ ‵ (fsep (Held.own_val held vs) (fsep ((Heap.the_row).own_val a us) ftrue)))
      ∷ raw (fact 𝓤 (held.kept ≢ None)) ∷ []) ∵
      move ! (1 ∷ []) $ heard ! (held.kept ≢ None) (λ some.
      let x = (known held.kept some).0 in let is = (known held.kept some).1 in
      split ! $ drop ! $ fsplit ! $ held_out ! held x vs is (λ b o e ws. move ! (1 ∷ []) $ fsplit !
      $ handle_tells E.al ! a us (λ hv ea fa.
      let d : D E = record { ptr = block_ptr b o; alloc = a; value = x } in
      let made : Parts.Denot = record { ptr = block_ptr b o; alloc = a; value = x } in
      let w = form.word E hv b o in
      move ! (2 ∷ []) $ fsplit ! $ box_in E ! d b o x refl refl $ move ! (1 ∷ []) $ drop ! $
      let Γ : List (Item 𝓤) = ‵ ((B E).own_val d (w ∷ [])) ∷ [] in
      by ! (subst (λ (ps : List Val). ent 𝓤 (types.Kit.⋆ 𝓛 Γ) (WpFn 𝓤 H 𝓣.C 𝓣.Λ code.function (ps ++
      (us ++ [])) Post)) (sym ws)
      (subst (λ (ps : List Val). ent 𝓤 (types.Kit.⋆ 𝓛 Γ) (WpFn 𝓤 H 𝓣.C 𝓣.Λ code.function (word (vptr
      b o) ∷ (ps ++ [])) Post)) (sym ea)
      (qed 𝓛 Γ ∵ enter ! 𝓣.C 𝓣.Λ code.function (word (vptr b o) ∷ hv ∷ []) _ $ alloc_all ! (λ ls.
      pass_all ! refl ((tt, (tt, tt)), (fa, tt)) $
      sets ! (of_opd ! (get_in ! (fld ! refl (stop !)) (sub ! 0 refl (whole !)))) refl (tt, tt) $
      sets ! (of_opd ! (get ! refl)) refl (tt, tt) $
      sets ! (agg ! (and_then ! (get ! refl) (and_then ! (get ! refl) (no_more !)))) refl (box_typed
      E hv b o fa) $ returns ! (look_at ! 0 refl) $ free_all ! refl $
      suffices ! _ (ends_at 𝓛 F.ended stayed (F.clauses 𝓛 at_mem run) z w made (tt, (tt, tt)) (
        tt,
        (tt, tt),
      )) $ says ! is $
      nothing ! $ nothing ! $ fjoin ! $ nothing ! $ fjoin ! $ join ! $ nothing ! $ join ! $ done
      !)))))))

pub into_parts_spec : {M : Type 1} → stated.statement M
unfolding tables_of
into_parts_spec 𝓤 𝓛 𝓜 𝓡 wired =
    let 𝓣 : Tables 𝓤 𝓛.H = tables_of 𝓤 𝓛.H 𝓜 (tables 𝓤 𝓛.H 𝓜 𝓡 𝓡.env) in
    entered 𝓤 𝓛.H (triple_of 𝓛 F.signature (F.spec 𝓛 𝓜.mem 𝓡.returns)) 𝓣.C 𝓣.Λ #self code.function
    (code.unfolded 𝓤 𝓛.H 𝓜 𝓡 wired)
    (walk_Meets 𝓛 F.ended stayed (
      Goes-dropped 𝓛 0 From yes (λ κs x f. refl),
      (
        Goes-dropped 𝓛 0
            (plain (λ _. Heap.the_row)) yes (λ κs x f. refl),
        tt,
      ),
    ) (F.clauses 𝓛 𝓜.mem 𝓡.returns) (WpFn 𝓤 𝓛.H
    𝓣.C 𝓣.Λ code.function) (WpFn-mono 𝓤 𝓛.H 𝓛.laws 𝓣 code.function)
    (walk 𝓛 𝓜.mem 𝓡.returns 𝓣))
