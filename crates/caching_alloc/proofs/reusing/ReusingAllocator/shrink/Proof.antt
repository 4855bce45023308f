-- `shrink` has the inner allocator shrink a block that stays large, and passes any other on to the
-- pool. Assumes `Logic`.
use Rattle.std.proofs.Common.{◌≡◌, ℕ, ◌+◌, ◌*◌, ◌^◌, ◌<◌, ◌≤◌, Bool, ltb→lt, List, [], ◌∷◌, ◌++◌, refl, sym, ap, ◌∙◌, arith, lit<, w64}
use Rattle.std.proofs.Math.Nat.{mul-le-mul_right}
use mir.Syntax.{Ty, Fn, Args, a_type, dcons, dnil}
use mir.Val.{Val, vint, vptr}
use mir.MapTy.{inst_fn}
use base.Logic.{SProp, emp, never, id⊢, fst∗}
use base.Fml.{Lft, Share, Fml, ftrue, ffalse, fsep, flft}
use prog.Memory.{size, align, up}
use prog.Wp.{Env, WpFn}
use contract.BorrowLft.{◌⊑◌, ⊑_trans}
use contract.Monad.{fact, fact_i}
use contract.Running.{tables}
use types.Logic.{sem}
use types.Kit.{‵, raw, ◌⊛◌, some, later, given, prop, at_ret, ◌$◌, ◌∵◌, !, qed, by, move, keep, drop, use0, use1, use2, split, split3, join, pick, learn, rewrite, regoal, fsplit, fjoin, feq_i, flt_i, await}
use types.Run.{stop, fld, addr, bin, size_word, no_more, and_then, first, branches, skips, exec, returns, returns_within, enter}
use types.ByLocal.{alloc_all, pass_all, free_all, look_at, get, through, sets, lands_as, is, env}
use denote.Memory.{hidden_shr, lone}
use denote.RattleType.{RattleType, owns}
use denote.Opens.{unhide}
use denote.Param.{param, bounded, layout}
use denote.RawPtr.{Ptr, block_ptr, null_ptr, ptr_val, in_a_block}
use denote.Signature.{types_at}
use denote.Steps.{nothing, heard}
use denote.Triple.Call.{calls_at}
use denote.Triple.Clauses.{Lasts, lasts}
use denote.Triple.Entry.{alive}
use denote.Triple.Spec.{triple_of}
use denote.Triple.Walked.{walk_of, Goes-dropped}
use Rattle.core.specs.Allocator.{array_of, block_with_items, resized_if_ok}
use Rattle.core.proofs.alloc.Calls.{Al, α, seen, Answer, answer_val, Answer-typed}
use Rattle.core.proofs.alloc.Resizes.{Sized, Shrinks, Shrinks-Sized, wider, result_of, result_own, by_flag, Resizes, at_resizes, left_by, Resizes-goes, Resizes-gives}
use Rattle.core.proofs.alloc.Shapes.{after}
use Rattle.core.proofs.atomic.Steps.{fm}
use Rattle.std.proofs.raw_atomic.Walks.{proved_at, leaves}
use Rattle.caching_alloc.proofs.Large.{product, product_fits, unwraps, wraps_result}
use Rattle.caching_alloc.proofs.Walks.{dropped_all, slot_at, big_lit}
use Rattle.caching_alloc.specs.Ownership.{block_token}
use Rattle.caching_alloc.specs.contracts.pool.Pool as pool
use Rattle.caching_alloc.specs.contracts.pool.PoolAllocator.shrink as callee
use Rattle.caching_alloc.proofs.pool.PoolAllocator.shrink.Met.{met as meets}
use Rattle.caching_alloc.specs.contracts.reusing.ReusingAllocator.shrink.{ended, clauses}
use Rattle.caching_alloc.specs.contracts.reusing.ReusingAllocator.shrink.Key.{name as #self}
use Rattle.caching_alloc.proofs.reusing.ReusingAllocator.shrink.Statement.{statement}
use Rattle.caching_alloc.proofs.reusing.ReusingAllocator.shrink.Code as compiled

pub shrink_spec : {M : Type 1} → statement M
shrink_spec 𝓤 𝓛 𝓜 𝓡 wired A T L LT g d dd met md =
    let H = 𝓛.H in
    let En₀ = ended A T g d dd in
    let c₀ = clauses A T g d dd 𝓛 𝓜.mem 𝓡.returns in
    let args : Args = bounded (a_type ∷ a_type ∷ []) (A, (T, tt)) (dcons d (dcons dd dnil)) in
    let fn : Fn = inst_fn args compiled.function in
    let stays = dropped_all En₀.signature.params En₀.kept in
    let c = c₀ in
    let C = (tables 𝓤 H 𝓜 𝓡 𝓡.env).C in
    let Λ = (tables 𝓤 H 𝓜 𝓡 𝓡.env).Λ in
    proved_at 𝓛 En₀ stays c 𝓜 𝓡 (
      Goes-dropped 𝓛 3 (slot_at 0 En₀.signature.params) En₀.kept.0
          (λ κs x f. refl),
      (
        Goes-dropped 𝓛 3 (slot_at 1 En₀.signature.params) En₀.kept.1.0 (λ κs x f. refl),
        (
          Goes-dropped 𝓛 3 (slot_at 2 En₀.signature.params) En₀.kept.1.1.0 (λ κs x f. refl),
          (
            Goes-dropped 𝓛 3 (slot_at 3 En₀.signature.params) En₀.kept.1.1.1.0 (λ κs x f. refl),
            (
              Goes-dropped 𝓛 3 (slot_at 4 En₀.signature.params) En₀.kept.1.1.1.1.0 (λ κs x f. refl),
              tt,
            ),
          ),
        ),
      ),
    ) (#self args) fn (compiled.unfolded 𝓤 H 𝓜 𝓡 wired (A, (T, tt)) d dd) (λ z are.
    let Post : Val → SProp 𝓤 = (walk_of 𝓛 En₀ stays c).post z in
    let a = z.0.3 in
    let vss = z.0.4 in
    let Y : Al = record { row = A; laws = L; g = g; d = d; drops = dd } in
    let κ : Lft = z.0.0.0 in
    let q : Share = z.0.1.0 in
    let κT : Lft = z.0.0.1.1.0 in
    let qT : Share = z.0.1.1.1.0 in
    let Z : RattleType = param 0 A in
    let R : RattleType = param 1 T in
    let s : ℕ = size (layout T) in
    let Inner : RattleType = pool.the_row Z g in
    let within = a.0.now.pool in
    let h : Z.Denot = within.inner in
    let t : Ty → Ptr → Fml = g.dealloc_token h in
    let from = a.1.0 in
    let len = a.1.1.0 in
    let old = a.1.1.1.0 in
    let new = a.1.1.1.1.0 in
    let fl = are.1.1.0.1 in let fo = are.1.1.1.0.1 in let fn' = are.1.1.1.1.0.1 in
    let xs = z.1 in
    let me : Val = vptr a.0.ref_ptr.0 a.0.ref_ptr.1 in
    let place : ℕ × ℕ = (a.0.ref_ptr.0, a.0.ref_ptr.1 + up (align (lone Inner.mir)) 0) in
    let it : Val = vptr place.0 place.1 in
    let handle : ℕ × ℕ = (place.0, place.1 + up (align (α Y)) 0) in
    let InA : Type 0 = z.0.0.1.0 ⊑ A.lives in
    let InT : Type 0 = κT ⊑ T.lives in
    let Asked : Type 0 = Shrinks T len old new in
    let Block : Ptr → Fml = λ r. block_with_items (block_token t) R r len old xs in
    let Left : Ptr → Answer.Denot → Fml = λ r. resized_if_ok (block_token t) R r len old new xs in
    qed 𝓛 ((raw (alive 𝓛 En₀.signature z.0.0 z.0.1)
    ⊛ ‵ (owns (types_at En₀.signature.params z.0.0) a vss)) ∷ (raw (fact 𝓤 InA) ⊛ raw (fact 𝓤 InT)
    ⊛ raw (fact 𝓤 Asked) ⊛ ‵ (Block from)) ∷ []) ∵
    move ! (1 ∷ []) $ split3 ! $
    heard ! InA (λ le. heard ! InT (λ leT. split ! $ heard ! Asked (λ asked.
    in_a_block ! from Block
    (fst∗ 𝓤 (never 𝓤) (sem 𝓛 (fsep ffalse (block_token t (array_of R old) null_ptr))))
    (λ b o placed. let p : Ptr = block_ptr b o in
    let sized : Sized T len old new = Shrinks-Sized T len old new asked in
    move ! (1 ∷ []) $ split ! $ move ! (1 ∷ []) $ fsplit ! $ fsplit ! $ keep ! (1 ∷ 3 ∷ 4 ∷ []) $
    regoal ! (λ (us : List Val). prop (WpFn 𝓤 H C Λ fn us Post))
    (λ i. are.0.0 i ++ ((are.1.0 ∙ ap (λ (r : Ptr). ptr_val r
    ∷ []) placed) i ++ (are.1.1.0.0 i ++ (are.1.1.1.0.0 i ++ (are.1.1.1.1.0.0 i ++ []))))) refl $
    enter ! C Λ fn (me ∷ vptr b o ∷ vint w64 len ∷ vint w64 old ∷ vint w64 new ∷ []) Post $
    alloc_all ! (λ l. pass_all ! refl (
      (tt, tt),
      (
        (tt, tt),
        (
          (tt, record { fits = fl }),
          (
            (tt, record { fits = fo }),
            ((tt, record { fits = fn' }), tt),
          ),
        ),
      ),
    ) $ let En : Env 𝓤 𝓛.H = env fn.locals l in
    sets ! (is ! (bin ! (get ! refl) (size_word !) (record { fits = product_fits new s sized.3 }))
    (product new s sized.3)) refl (tt, record { fits = wider (new * s) sized.3 }) $
    sets ! (bin ! (big_lit ! (record { fits = lit< tt })) (get ! refl) tt) refl (tt, tt) $
    unhide ! $ fsplit ! $ fsplit ! $ move ! (1 ∷ []) $ drop ! $ move ! (1 ∷ []) $ drop ! $
    first ! $ branches ! (get ! refl)
    (λ big. let large : 1024 < new * s = ltb→lt 1024 (new * s) big in
    let both : (1024 < old * s) × (1024 < new * s) = (
      let more : new * s ≤ old * s
          = mul-le-mul_right s asked.1 in omega arith,
      large,
    ) in
    let w = at_resizes Y T (Shrinks T) 𝓛 𝓜.mem 𝓡.returns κ κT q qT handle h b o len old new xs in
    let left : Answer.Denot
    → Fml = left_by Y T (Shrinks T) 𝓛 𝓜.mem 𝓡.returns κ κT q qT handle h b o len old new xs in
    fsplit ! $ fsplit ! $ use1 𝓛 (‵ (seen Y κ handle h)) (id⊢ 𝓤 _) $ move ! (1 ∷ []) $ drop ! $
    move ! (1 ∷ []) $ drop ! $ move ! (1 ∷ []) $
    use1 𝓛 (‵ (flft κ q) ⊛ ‵ (flft z.0.0.1.0 z.0.1.1.0) ⊛ ‵ (flft κT qT) ⊛ ‵ ftrue) (id⊢ 𝓤 _) $
    split3 ! $ move ! (2 ∷ []) $ split ! $
    -- [κT's; nothing; κ's; the other; the `&`; the block]
    move ! (2 ∷ 0 ∷ []) $ join ! $ move ! (3 ∷ 0 ∷ []) $ join ! $ move ! (3 ∷ []) $
    use1 𝓛 (‵ (block_with_items t R p len old xs)) (unwraps 𝓛 t R p len old xs both.0) $ join ! $
    sets ! (addr ! (through ! refl (fld ! refl (fld ! refl (stop !))))) refl (tt, tt) $
    use1 𝓛 (raw ((Resizes Y T (Shrinks T) 𝓛 𝓜.mem 𝓡.returns).pre w)) (Resizes-goes Y T (Shrinks T) 𝓛
    𝓜.mem 𝓡.returns κ κT q qT handle h b o len old new xs (⊑_trans κ z.0.0.1.0 A.lives z.0.2.0 le)
    leT asked fl fo fn') $
    calls_at ! (fm 𝓛 𝓜 𝓡) (Resizes Y T (Shrinks T) 𝓛 𝓜.mem 𝓡.returns) (met.shrink dd T LT) w
    (and_then ! (get ! refl)
    (and_then ! (get ! refl)
    (and_then ! (get ! refl) (and_then ! (get ! refl) (and_then ! (get ! refl) (no_more !))))))
    (λ v.
    use1 𝓛
    (later (some (λ (f : Bool × (ℕ × ℕ)). given (v ≡ answer_val f.0 f.1.0 f.1.1)
    (‵ (left (result_of f.0 f.1.0 f.1.1)))) ⊛ ‵ (flft κ q) ⊛ ‵ (flft κT qT)))
    (Resizes-gives Y T (Shrinks T) 𝓛 𝓜.mem 𝓡.returns κ κT q qT handle h b o len old new xs v) $
    await ! tt $ split3 ! $ pick ! (λ f. learn ! (λ e.
    use1 𝓛 (‵ (Left p (result_of f.0 f.1.0 f.1.1))) (wraps_result 𝓛 t R p len old new xs both.0
    both.1 f.0 f.1.0 f.1.1) $
    rewrite ! 0 (λ (r : Ptr). ‵ (Left r (result_of f.0 f.1.0 f.1.1))) (sym placed) refl $
    lands_as ! e refl (Answer-typed f.0 f.1.0 f.1.1) $
    returns_within ! Post refl (look_at ! 0 refl) $ free_all ! refl $
    -- [the answer's block; κ's; κT's; nothing; the other]
    move ! (2 ∷ 3 ∷ []) $ join ! $ move ! (3 ∷ 0 ∷ []) $ join ! $ move ! (2 ∷ 0 ∷ []) $ join ! $
    move ! (1 ∷ 0 ∷ []) $
    use0 𝓛 (‵ (Answer.own_val (result_of f.0 f.1.0 f.1.1) (answer_val f.0 f.1.0 f.1.1
    ∷ []))) (result_own 𝓛 f.0 f.1.0 f.1.1) $ nothing ! $ nothing ! $ fjoin ! $ nothing ! $ fjoin ! $
    nothing ! $ fjoin ! $ nothing ! $ fjoin ! $ nothing ! $ fjoin ! $ move ! (3 ∷ 0 ∷ 1 ∷ 2 ∷ []) $
    by ! (leaves 𝓛 En₀ stays c z (answer_val f.0 f.1.0 f.1.1) (result_of f.0 f.1.0 f.1.1) (
      tt,
      (tt, (tt, (tt, (tt, tt)))),
    ) (tt, (tt, (tt, (tt, (tt, tt))))))))))
    (λ _. let k = triple_of 𝓛 (callee.signature A T g d dd) (callee.spec A T g d dd 𝓛 𝓜.mem
    𝓡.returns) in
    let counts : List Val × (List Val × (List Val × Unit {0})) =
    (vint w64 len ∷ [], (vint w64 old ∷ [], (vint w64 new ∷ [], tt))) in
    let y : k.Ghost = (
      (
        z.0.0,
        z.0.1,
        z.0.2,
        (
          record { ref_ptr = place; now = within },
          (p, (len, (old, (new, tt)))),
        ),
        (it ∷ [], (vptr b o ∷ [], counts)),
      ),
      xs,
    ) in
    use1 𝓛 (‵ (hidden_shr Inner κ within place.0 place.1)) (id⊢ 𝓤 _) $
    skips ! $ exec ! C Λ En (after 3 fn.body) (at_ret En Post) $
    sets ! (addr ! (through ! refl (fld ! refl (stop !)))) refl (tt, tt) $
    nothing ! $ flt_i ! new (2 ^ 64) fn' $
    feq_i ! (List Val) (vint w64 new ∷ []) (vint w64 new ∷ []) refl $ fjoin ! $ fjoin ! $
    flt_i ! old (2 ^ 64) fo $ feq_i ! (List Val) (vint w64 old ∷ []) (vint w64 old ∷ []) refl $
    fjoin ! $ fjoin ! $
    flt_i ! len (2 ^ 64) fl $ feq_i ! (List Val) (vint w64 len ∷ []) (vint w64 len ∷ []) refl $
    fjoin ! $ fjoin ! $ feq_i ! (List Val) (vptr b o ∷ []) (vptr b o ∷ []) refl $ fjoin ! $
    move ! (1 ∷ 0 ∷ []) $ feq_i ! (List Val) (it ∷ []) (it ∷ []) refl $ fjoin ! $ fjoin ! $
    move ! (1 ∷ 0 ∷ []) $ join ! $ move ! (1 ∷ []) $
    use0 𝓛 (raw (fact 𝓤 Asked)) (fact_i 𝓤 Asked (emp 𝓤) asked) $ join ! $
    use0 𝓛 (raw (fact 𝓤 InT)) (fact_i 𝓤 InT (emp 𝓤) leT) $ join ! $
    use0 𝓛 (raw (fact 𝓤 InA)) (fact_i 𝓤 InA (emp 𝓤) le) $ join ! $ move ! (1 ∷ 0 ∷ []) $ join ! $
    use1 𝓛 (raw (k.pre y)) (id⊢ 𝓤 _) $
    calls_at ! (fm 𝓛 𝓜 𝓡) k (meets 𝓤 𝓛 𝓜 𝓡
    (compiled.calls-caching_alloc::pool::PoolAllocator::shrink
    𝓡.env wired) A T L LT g d dd met md) y
    (and_then ! (get ! refl)
    (and_then ! (get ! refl)
    (and_then ! (get ! refl) (and_then ! (get ! refl) (and_then ! (get ! refl) (no_more !))))))
    (λ v.
    use1 𝓛 (later (some (λ (x : Answer.Denot). (raw (alive 𝓛 En₀.signature z.0.0 z.0.1)
    ⊛ ‵ (Answer.own_val x (v ∷ [])))
    ⊛ some (λ (ls : Lasts (callee.ended A T g d dd) z.0.0 y.0.3). ‵ (lasts (callee.ended A T g d dd)
    z.0.0 y.0.3 ls) ⊛ ‵ (Left p x))))) (id⊢ 𝓤 (k.post y v)) $
    await ! tt $ pick ! (λ x. split ! $ move ! (1 ∷ []) $ pick ! (λ _. split ! $ drop ! $
    move ! (1 ∷ []) $ split ! $ move ! (1 ∷ 2 ∷ []) $
    use2 𝓛 (some (λ (f : Bool × (ℕ × ℕ)). given (v ≡ answer_val f.0 f.1.0 f.1.1)
    (‵ (Left p (result_of f.0 f.1.0 f.1.1)))))
    (by_flag 𝓛 (Left p)
    (fst∗ 𝓤 (never 𝓤) (sem 𝓛 (fsep ffalse (block_token t (array_of R new) null_ptr)))) v x) $
    pick ! (λ f. learn ! (λ e.
    rewrite ! 0 (λ (r : Ptr). ‵ (Left r (result_of f.0 f.1.0 f.1.1))) (sym placed) refl $
    lands_as ! e refl (Answer-typed f.0 f.1.0 f.1.1) $ returns ! (look_at ! 0 refl) $
    free_all ! refl $
    use0 𝓛 (‵ (Answer.own_val (result_of f.0 f.1.0 f.1.1) (answer_val f.0 f.1.0 f.1.1
    ∷ []))) (result_own 𝓛 f.0 f.1.0 f.1.1) $ nothing ! $ nothing ! $ fjoin ! $ nothing ! $ fjoin ! $
    nothing ! $ fjoin ! $ nothing ! $ fjoin ! $ nothing ! $ fjoin ! $ move ! (3 ∷ 0 ∷ 1 ∷ 2 ∷ []) $
    by ! (leaves 𝓛 En₀ stays c z (answer_val f.0 f.1.0 f.1.1) (result_of f.0 f.1.0 f.1.1) (
      tt,
      (tt, (tt, (tt, (tt, tt)))),
    ) (tt, (tt, (tt, (tt, (tt, tt))))))))))))))))))
