-- `allocate` passes the request on to the pool. Assumes `Logic`.
use Rattle.std.proofs.Common.{◌≡◌, ℕ, ◌+◌, ◌^◌, Bool, List, [], ◌∷◌, ◌++◌, refl, w64}
use mir.Syntax.{Ty, Fn, Args, a_type, dcons, dnil}
use mir.Val.{Val, vint, vptr}
use mir.MapTy.{inst_fn}
use base.Logic.{SProp, emp, never, id⊢, fst∗}
use base.Fml.{Lft, Fml}
use prog.Memory.{size, align, capped, up}
use prog.Wp.{Env, WpFn}
use contract.BorrowLft.{◌⊑◌}
use contract.Monad.{fact, fact_i}
use contract.Running.{tables}
use types.Logic.{sem}
use types.Kit.{‵, raw, ◌⊛◌, some, later, given, prop, ◌$◌, ◌∵◌, !, qed, by, move, keep, drop, use0, use1, use2, split, join, pick, learn, regoal, fsplit, fjoin, feq_i, flt_i, await}
use types.Run.{stop, fld, addr, no_more, and_then, returns, enter}
use types.ByLocal.{alloc_all, pass_all, free_all, look_at, get, through, sets, lands_as, env}
use denote.Memory.{hidden_shr, lone}
use denote.RattleType.{RattleType, owns}
use denote.Opens.{unhide}
use denote.Param.{param, bounded}
use denote.RawPtr.{Ptr, null_ptr}
use denote.Signature.{types_at}
use denote.Steps.{nothing, heard}
use denote.Triple.Call.{calls_at}
use denote.Triple.Clauses.{Lasts, lasts}
use denote.Triple.Entry.{alive}
use denote.Triple.Spec.{triple_of}
use denote.Triple.Walked.{walk_of, Goes-dropped}
use Rattle.core.specs.Allocator.{block_if_ok}
use Rattle.core.proofs.alloc.Calls.{Answer, answer_val, Answer-typed}
use Rattle.core.proofs.alloc.Resizes.{result_of, result_own, by_flag}
use Rattle.core.proofs.atomic.Steps.{fm}
use Rattle.std.proofs.raw_atomic.Walks.{proved_at, leaves}
use Rattle.caching_alloc.proofs.Walks.{dropped_all, slot_at}
use Rattle.caching_alloc.specs.Ownership.{block_token}
use Rattle.caching_alloc.specs.contracts.pool.Pool as pool
use Rattle.caching_alloc.specs.contracts.pool.PoolAllocator.allocate as callee
use Rattle.caching_alloc.proofs.pool.PoolAllocator.allocate.Met.{met as meets}
use Rattle.caching_alloc.specs.contracts.reusing.ReusingAllocator.allocate.{ended, clauses}
use Rattle.caching_alloc.specs.contracts.reusing.ReusingAllocator.allocate.Key.{name as #self}
use Rattle.caching_alloc.proofs.reusing.ReusingAllocator.allocate.Statement.{statement}
use Rattle.caching_alloc.proofs.reusing.ReusingAllocator.allocate.Code as compiled

pub allocate_spec : {M : Type 1} → statement M
allocate_spec 𝓤 𝓛 𝓜 𝓡 wired A L g d dd met md =
    let H = 𝓛.H in
    let En₀ = ended A g d dd in
    let c₀ = clauses A g d dd 𝓛 𝓜.mem 𝓡.returns in
    let args : Args = bounded (a_type ∷ []) (A, tt) (dcons d (dcons dd dnil)) in
    let fn : Fn = inst_fn args compiled.function in
    let stays = dropped_all En₀.signature.params En₀.kept in
    let c = c₀ in
    let C = (tables 𝓤 H 𝓜 𝓡 𝓡.env).C in
    let Λ = (tables 𝓤 H 𝓜 𝓡 𝓡.env).Λ in
    proved_at 𝓛 En₀ stays c 𝓜 𝓡 (
      Goes-dropped 𝓛 2 (slot_at 0 En₀.signature.params) En₀.kept.0
          (λ κs x f. refl),
      (
        Goes-dropped 𝓛 2 (slot_at 1 En₀.signature.params) En₀.kept.1.0 (λ κs x f. refl),
        (
          Goes-dropped 𝓛 2 (slot_at 2 En₀.signature.params) En₀.kept.1.1.0 (λ κs x f. refl),
          tt,
        ),
      ),
    ) (#self args) fn (compiled.unfolded 𝓤 H 𝓜 𝓡 wired (A, tt) d dd) (λ z are.
    let Post : Val → SProp 𝓤 = (walk_of 𝓛 En₀ stays c).post z in
    let a = z.0.3 in
    let vss = z.0.4 in
    let κ : Lft = z.0.0.0 in
    let Z : RattleType = param 0 A in
    let Inner : RattleType = pool.the_row Z g in
    let within = a.0.now.pool in
    let t : Ty → Ptr → Fml = g.dealloc_token within.inner in
    let τ : Ty = z.1 in
    let n = a.1.0 in
    let al = a.1.1.0 in
    let me : Val = vptr a.0.ref_ptr.0 a.0.ref_ptr.1 in
    let place : ℕ × ℕ = (a.0.ref_ptr.0, a.0.ref_ptr.1 + up (align (lone Inner.mir)) 0) in
    let it : Val = vptr place.0 place.1 in
    let k = triple_of 𝓛 (callee.signature A g d dd) (callee.spec A g d dd 𝓛 𝓜.mem 𝓡.returns) in
    let y : k.Ghost = (
      (
        z.0.0,
        z.0.1,
        z.0.2,
        (
          record { ref_ptr = place; now = within },
          (n, (al, tt)),
        ),
        (it ∷ [], (vint w64 n ∷ [], (vint w64 al ∷ [], tt))),
      ),
      τ,
    ) in
    let F : Answer.Denot → Fml = block_if_ok (block_token t) τ in
    let InA : Type 0 = z.0.0.1.0 ⊑ A.lives in
    let Asked : Type 0 = (capped (size τ) ≡ n) × (capped (align τ) ≡ al) in
    qed 𝓛 ((raw (alive 𝓛 En₀.signature z.0.0 z.0.1)
    ⊛ ‵ (owns (types_at En₀.signature.params z.0.0) a vss))
    ∷ (raw (fact 𝓤 InA) ⊛ raw (fact 𝓤 Asked)) ∷ []) ∵
    move ! (1 ∷ []) $ split ! $ heard ! InA (λ le. heard ! Asked (λ asked. split ! $
    move ! (1 ∷ []) $ fsplit ! $ fsplit ! $ keep ! (1 ∷ 3 ∷ []) $
    unhide ! $ fsplit ! $ fsplit ! $
    use1 𝓛 (‵ (hidden_shr Inner κ within place.0 place.1)) (id⊢ 𝓤 _) $ move ! (1 ∷ []) $ drop ! $
    move ! (1 ∷ []) $ drop ! $
    regoal ! (λ (us : List Val). prop (WpFn 𝓤 H C Λ fn us Post))
    (λ i. are.0.0 i ++ (are.1.0.0 i ++ (are.1.1.0.0 i ++ []))) refl $
    enter ! C Λ fn (me ∷ vint w64 n ∷ vint w64 al ∷ []) Post $
    alloc_all ! (λ l. pass_all ! refl (
      (tt, tt),
      (
        (tt, record { fits = are.1.0.1 }),
        ((tt, record { fits = are.1.1.0.1 }), tt),
      ),
    ) $ let En : Env 𝓤 𝓛.H = env fn.locals l in
    sets ! (addr ! (through ! refl (fld ! refl (stop !)))) refl (tt, tt) $
    nothing ! $ flt_i ! al (2 ^ 64) are.1.1.0.1 $
    feq_i ! (List Val) (vint w64 al ∷ []) (vint w64 al ∷ []) refl $ fjoin ! $ fjoin ! $
    flt_i ! n (2 ^ 64) are.1.0.1 $ feq_i ! (List Val) (vint w64 n ∷ []) (vint w64 n ∷ []) refl $
    fjoin ! $ fjoin ! $
    move ! (1 ∷ 0 ∷ []) $ feq_i ! (List Val) (it ∷ []) (it ∷ []) refl $ fjoin ! $ fjoin ! $
    move ! (1 ∷ 0 ∷ []) $ join ! $
    use0 𝓛 (raw (fact 𝓤 Asked)) (fact_i 𝓤 Asked (emp 𝓤) asked) $
    use0 𝓛 (raw (fact 𝓤 InA)) (fact_i 𝓤 InA (emp 𝓤) le) $ join ! $ move ! (1 ∷ 0 ∷ []) $ join ! $
    use1 𝓛 (raw (k.pre y)) (id⊢ 𝓤 _) $
    calls_at ! (fm 𝓛 𝓜 𝓡) k (meets 𝓤 𝓛 𝓜 𝓡
    (compiled.calls-caching_alloc::pool::PoolAllocator::allocate
    𝓡.env wired) A L g d dd met md) y
    (and_then ! (get ! refl) (and_then ! (get ! refl) (and_then ! (get ! refl) (no_more !)))) (λ v.
    use1 𝓛 (later (some (λ (x : Answer.Denot). (raw (alive 𝓛 En₀.signature z.0.0 z.0.1)
    ⊛ ‵ (Answer.own_val x (v ∷ [])))
    ⊛ some (λ (ls : Lasts (callee.ended A g d dd) z.0.0 y.0.3). ‵ (lasts (callee.ended A g d dd)
    z.0.0 y.0.3 ls) ⊛ ‵ (F x))))) (id⊢ 𝓤 (k.post y v)) $
    await ! tt $ pick ! (λ x. split ! $ move ! (1 ∷ []) $ pick ! (λ _. split ! $ drop ! $
    move ! (1 ∷ []) $ split ! $ move ! (1 ∷ 2 ∷ []) $
    use2 𝓛 (some (λ (f : Bool × (ℕ × ℕ)). given (v ≡ answer_val f.0 f.1.0 f.1.1)
    (‵ (F (result_of f.0 f.1.0 f.1.1)))))
    (by_flag 𝓛 F (fst∗ 𝓤 (never 𝓤) (sem 𝓛 (block_token t τ null_ptr))) v x) $
    pick ! (λ f. learn ! (λ e.
    lands_as ! e refl (Answer-typed f.0 f.1.0 f.1.1) $ returns ! (look_at ! 0 refl) $
    free_all ! refl $
    use0 𝓛 (‵ (Answer.own_val (result_of f.0 f.1.0 f.1.1) (answer_val f.0 f.1.0 f.1.1
    ∷ []))) (result_own 𝓛 f.0 f.1.0 f.1.1) $ nothing ! $ nothing ! $ fjoin ! $ nothing ! $ fjoin ! $
    nothing ! $ fjoin ! $ move ! (3 ∷ 0 ∷ 1 ∷ 2 ∷ []) $
    by ! (leaves 𝓛 En₀ stays c z (answer_val f.0 f.1.0 f.1.1) (result_of f.0 f.1.0 f.1.1) (
      tt,
      (tt, (tt, tt)),
    ) (tt, (tt, (tt, tt)))))))))))))
