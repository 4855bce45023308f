-- `new` makes an empty slot. Assumes `Logic`.
use Rattle.std.proofs.Common.{◌≡◌, ℕ, List, [], ◌∷◌, ◌++◌, refl, lit<, w64, None}
use mir.Syntax.{Fn, Args, a_type, dcons, dnil}
use mir.MapTy.{inst_fn}
use mir.Val.{Val, vint, vptr, vnil}
use base.Logic.{SProp, emp}
use base.Fml.{ftrue}
use prog.Wp.{Env, WpFn}
use contract.BorrowLft.{◌⊑◌}
use contract.Monad.{fact, fact_i}
use contract.Running.{tables}
use types.Kit.{‵, raw, ◌⊛◌, prop, ◌$◌, ◌∵◌, !, qed, by, move, drop, use0, split, regoal, fjoin, fpack}
use types.Part.{agg}
use types.Match.{live}
use types.Run.{lit, no_more, and_then, returns, enter}
use types.ByLocal.{alloc_all, pass_all, free_all, look_at, get, sets, env}
use denote.RattleType.{RattleType, owns}
use denote.Laws.{Typed}
use denote.Param.{param, bounded}
use denote.Signature.{types_at}
use denote.Steps.{nothing, heard}
use denote.Triple.Entry.{alive}
use denote.Triple.Walked.{walk_of, Goes-dropped}
use Rattle.core.proofs.cell.Inside.{round}
use Rattle.core.proofs.option.Made.{none_of}
use Rattle.std.proofs.raw_atomic.Walks.{proved_at, leaves}
use Rattle.caching_alloc.proofs.Cell.{Held, Fields, contents_in}
use Rattle.caching_alloc.proofs.Walks.{dropped_all, slot_at}
use Rattle.caching_alloc.specs.contracts.block.Block as block
use Rattle.caching_alloc.specs.contracts.slot.Slot.new.{ended, clauses}
use Rattle.caching_alloc.specs.contracts.slot.Slot.new.Key.{name as #self}
use Rattle.caching_alloc.proofs.slot.Slot.new.Statement.{statement}
use Rattle.caching_alloc.proofs.slot.Slot.new.Code as compiled

pub new_spec : {M : Type 1} → statement M
new_spec 𝓤 𝓛 𝓜 𝓡 wired A L g d dd met md =
    let H = 𝓛.H in
    let En₀ = ended A g d dd in
    let c₀ = clauses A g d dd 𝓛 𝓜.mem 𝓡.returns in
    let args : Args = bounded (a_type ∷ []) (A, tt) (dcons d (dcons dd dnil)) in
    let fn : Fn = inst_fn args compiled.function in
    let stays = dropped_all En₀.signature.params En₀.kept in
    let c = c₀ in
    let C = (tables 𝓤 H 𝓜 𝓡 𝓡.env).C in
    let Λ = (tables 𝓤 H 𝓜 𝓡 𝓡.env).Λ in
    proved_at 𝓛 En₀ stays c 𝓜 𝓡 (
      Goes-dropped 𝓛 2 (slot_at 0 En₀.signature.params) En₀.kept.0
          (λ κs x f. refl),
      (
        Goes-dropped 𝓛 2 (slot_at 1 En₀.signature.params) En₀.kept.1.0 (λ κs x f. refl),
        tt,
      ),
    ) (#self args) fn (compiled.unfolded 𝓤 H 𝓜 𝓡 wired (A, tt) d dd) (λ z are.
    let Post : Val → SProp 𝓤 = (walk_of 𝓛 En₀ stays c).post z in
    let a = z.0.3 in
    let vss = z.0.4 in
    let Z : RattleType = param 0 A in
    let at = a.0.ref_ptr in
    let n = a.1.0 in
    let s : Z.Denot × ℕ = (a.0.now, n) in
    let v : Val = live 0 vnil in
    qed 𝓛 ((raw (alive 𝓛 En₀.signature z.0.0 z.0.1)
    ⊛ ‵ (owns (types_at En₀.signature.params z.0.0) a vss)) ∷ (raw (fact 𝓤 (z.0.0.1.0 ⊑ A.lives))
    ⊛ ‵ ftrue) ∷ []) ∵
    move ! (1 ∷ []) $ split ! $ heard ! (z.0.0.1.0 ⊑ A.lives) (λ le. drop ! $ split ! $
    move ! (1 ∷ []) $ drop ! $
    regoal ! (λ (us : List Val). prop (WpFn 𝓤 H C Λ fn us Post))
    (λ i. are.0.0 i ++ (are.1.0.0 i ++ [])) refl $
    enter ! C Λ fn (vptr at.0 at.1 ∷ vint w64 n ∷ []) Post $
    alloc_all ! (λ l. pass_all ! refl ((tt, tt), ((tt, record { fits = are.1.0.1 }), tt)) $
    let En : Env 𝓤 𝓛.H = env fn.locals l in
    sets ! (agg ! (and_then ! (lit ! tt) (no_more !))) refl (tt, (record { fits = lit< tt }, tt)) $
    sets ! (agg ! (and_then ! (get ! refl) (no_more !))) refl (
      tt,
      (
        (record { fits = lit< tt }, tt),
        tt,
      ),
    ) $
    returns ! (look_at ! 0 refl) $ free_all ! refl $
    use0 𝓛 (‵ ((Held Z g).own_val None (v ∷ []))) (none_of 𝓛 (block.the_row Z g)) $
    contents_in A L g s ! None v tt $ nothing ! $
    fpack ! (Typed (Fields Z g).mir (round v ∷ [])) (λ _. ftrue) (
      (
        tt,
        ((record { fits = lit< tt }, tt), tt),
      ),
      tt,
    ) $ fjoin ! $
    use0 𝓛 (raw (fact 𝓤 ((s.0 ≡ s.0) × (n ≡ n)))) (fact_i 𝓤 ((s.0 ≡ s.0) × (n ≡ n)) (emp 𝓤) (
      refl,
      refl,
    )) $ nothing ! $ nothing ! $ fjoin ! $ nothing ! $ fjoin ! $ move ! (3 ∷ 0 ∷ 2 ∷ 1 ∷ []) $
    by ! (leaves 𝓛 En₀ stays c z (round v) s (tt, (tt, tt)) (tt, (tt, tt))))))
