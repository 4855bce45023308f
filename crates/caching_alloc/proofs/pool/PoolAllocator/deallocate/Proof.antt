-- `deallocate` turns the room into the block again, and keeps it. A large block it passes on.
-- Assumes `Logic`.
use Rattle.std.proofs.Common.{◌≡◌, ℕ, ◌+◌, ◌^◌, ◌<◌, ◌≤◌, Bool, ltb→lt, nltb→le, List, [], ◌∷◌, ◌++◌, refl, ap, ◌∙◌, lit<, w64}
use mir.Syntax.{Ty, Fn, Args, a_type, dcons, dnil}
use mir.Val.{Val, vint, vptr, vunit}
use mir.MapTy.{inst_fn}
use base.Logic.{SProp, emp, never, id⊢, fst∗, apply∗}
use base.Fml.{Lft, Share, Fml, ftrue, flft}
use prog.Memory.{size, align, capped, up}
use prog.Wp.{Env, WpFn}
use contract.BorrowLft.{◌⊑◌, ⊑_trans}
use contract.Monad.{fact, fact_i}
use contract.Running.{tables}
use types.Logic.{sem}
use types.Kit.{use3, given, learn, feq_l, ‵, raw, ◌⊛◌, some, later, prop, at_ret, ◌$◌, ◌∵◌, !, qed, by, move, keep, drop, use0, use1, use2, split, split3, join, pick, rewrite, regoal, fsplit, fjoin, feq_i, flt_i, await}
use types.Part.{agg}
use types.Run.{stop, fld, unit_lit, bin, addr, of_opd, no_more, and_then, first, branches, skips, exec, returns, returns_within, enter}
use types.ByLocal.{alloc_all, pass_all, free_all, look_at, get, through, sets, lands_as, env}
use denote.Builtin.{unit}
use denote.RattleType.{RattleType, owns}
use denote.Opens.{unhide}
use denote.Param.{param, bounded}
use denote.RawPtr.{Ptr, block_ptr, null_ptr, ptr_val, room_for, in_a_block}
use denote.Signature.{types_at}
use denote.Steps.{nothing, only, heard}
use denote.Triple.Call.{calls_at}
use denote.Triple.Clauses.{Lasts, lasts}
use denote.Triple.Entry.{alive}
use denote.Triple.Spec.{triple_of}
use denote.Triple.Walked.{walk_of, Goes-dropped}
use Rattle.core.proofs.alloc.Calls.{Al, α, seen, Gives, at_gives, Gives-goes, Gives-Gives}
use Rattle.core.proofs.alloc.Shapes.{after}
use Rattle.core.proofs.atomic.Steps.{fm}
use Rattle.std.proofs.raw_atomic.Walks.{proved_at, leaves}
use Rattle.caching_alloc.proofs.Walks.{dropped_all, slot_at, big_lit}
use Rattle.caching_alloc.proofs.Numbers.{small_size, is_small, is_large}
use Rattle.caching_alloc.proofs.Values.{block_val, block_own, block_made}
use Rattle.caching_alloc.specs.Sizes.{block_size}
use Rattle.caching_alloc.specs.Ownership.{units_of, either, part_of_block, block_token}
use Rattle.core.specs.Allocator.{owned_block}
use Rattle.caching_alloc.specs.contracts.block.Block as block
use Rattle.caching_alloc.specs.contracts.pool.Pool.give as callee
use Rattle.caching_alloc.proofs.pool.Pool.give.Met.{met as gives}
use Rattle.caching_alloc.specs.contracts.pool.PoolAllocator.deallocate.{ended, clauses}
use Rattle.caching_alloc.specs.contracts.pool.PoolAllocator.deallocate.Key.{name as #self}
use Rattle.caching_alloc.proofs.pool.PoolAllocator.deallocate.Statement.{statement}
use Rattle.caching_alloc.proofs.pool.PoolAllocator.deallocate.Code as compiled

pub deallocate_spec : {M : Type 1} → statement M
deallocate_spec 𝓤 𝓛 𝓜 𝓡 wired A L g d dd met md =
    let H = 𝓛.H in
    let En₀ = ended A g d dd in
    let c₀ = clauses A g d dd 𝓛 𝓜.mem 𝓡.returns in
    let args : Args = bounded (a_type ∷ []) (A, tt) (dcons d (dcons dd dnil)) in
    let fn : Fn = inst_fn args compiled.function in
    let stays = dropped_all En₀.signature.params En₀.kept in
    let c = c₀ in
    let C = (tables 𝓤 H 𝓜 𝓡 𝓡.env).C in
    let Λ = (tables 𝓤 H 𝓜 𝓡 𝓡.env).Λ in
    proved_at 𝓛 En₀ stays c 𝓜 𝓡 (
      Goes-dropped 𝓛 2 (slot_at 0 En₀.signature.params) En₀.kept.0
          (λ κs x f. refl),
      (
        Goes-dropped 𝓛 2 (slot_at 1 En₀.signature.params) En₀.kept.1.0 (λ κs x f. refl),
        (
          Goes-dropped 𝓛 2 (slot_at 2 En₀.signature.params) En₀.kept.1.1.0 (λ κs x f. refl),
          (
            Goes-dropped 𝓛 2 (slot_at 3 En₀.signature.params) En₀.kept.1.1.1.0 (λ κs x f. refl),
            tt,
          ),
        ),
      ),
    ) (#self args) fn (compiled.unfolded 𝓤 H 𝓜 𝓡 wired (A, tt) d dd) (λ z are.
    let Post : Val → SProp 𝓤 = (walk_of 𝓛 En₀ stays c).post z in
    let a = z.0.3 in
    let vss = z.0.4 in
    let Y : Al = record { row = A; laws = L; g = g; d = d; drops = dd } in
    let κ : Lft = z.0.0.0 in
    let q : Share = z.0.1.0 in
    let Z : RattleType = param 0 A in
    let h : Z.Denot = a.0.now.inner in
    let t : Ty → Ptr → Fml = g.dealloc_token h in
    let τ : Ty = z.1 in
    let from = a.1.0 in
    let n = a.1.1.0 in
    let al = a.1.1.1.0 in
    let fn' = are.1.1.0.1 in
    let me : Val = vptr a.0.ref_ptr.0 a.0.ref_ptr.1 in
    let place' : ℕ × ℕ = (a.0.ref_ptr.0, a.0.ref_ptr.1 + up (align (α Y)) 0) in
    let k = triple_of 𝓛 (callee.signature A g d dd) (callee.spec A g d dd 𝓛 𝓜.mem 𝓡.returns) in
    let m = block_size (size τ) in
    let InA : Type 0 = z.0.0.1.0 ⊑ A.lives in
    let Asked : Type 0 = (capped (size τ) ≡ n) × (capped (align τ) ≡ al) in
    qed 𝓛 ((raw (alive 𝓛 En₀.signature z.0.0 z.0.1)
    ⊛ ‵ (owns (types_at En₀.signature.params z.0.0) a vss)) ∷ (raw (fact 𝓤 InA) ⊛ raw (fact 𝓤 Asked)
    ⊛ ‵ (owned_block (block_token t) τ from)) ∷ []) ∵
    move ! (1 ∷ []) $ split3 ! $ heard ! InA (λ le. heard ! Asked (λ asked.
    in_a_block ! from (λ r. owned_block (block_token t) τ r)
    (fst∗ 𝓤 (never 𝓤) (sem 𝓛 (block_token t τ null_ptr))) (λ b o placed. let p : Ptr = block_ptr
    b o in
    let Way : Bool → Fml = λ small. either small (part_of_block t m τ p) (t τ p) in
    fsplit ! $ move ! (2 ∷ 1 ∷ 0 ∷ []) $ split ! $ move ! (1 ∷ []) $ fsplit ! $ fsplit ! $
    keep ! (1 ∷ 3 ∷ 4 ∷ 5 ∷ []) $
    regoal ! (λ (us : List Val). prop (WpFn 𝓤 H C Λ fn us Post))
    (λ i. are.0.0 i ++ ((are.1.0 ∙ ap (λ (r : Ptr). ptr_val r
    ∷ []) placed) i ++ (are.1.1.0.0 i ++ (are.1.1.1.0.0 i ++ [])))) refl $
    enter ! C Λ fn (me ∷ vptr b o ∷ vint w64 n ∷ vint w64 al ∷ []) Post $
    alloc_all ! (λ l. pass_all ! refl (
      (tt, tt),
      ((tt, tt), ((tt, record { fits = fn' }), ((tt, record { fits = are.1.1.1.0.1 }), tt))),
    ) $
    let En : Env 𝓤 𝓛.H = env fn.locals l in
    sets ! (bin ! (big_lit ! (record { fits = lit< tt })) (get ! refl) tt) refl (tt, tt) $
    first ! $ branches ! (get ! refl)
    (λ big. let large : 1024 < n = ltb→lt 1024 n big in
    let w = at_gives Y 𝓛 𝓜.mem 𝓡.returns κ q place' h b o n al τ in
    rewrite ! 2 (λ (s : Bool). ‵ (Way s)) (is_large τ n asked.0 large) refl $
    unhide ! $ fsplit ! $ fsplit ! $ use1 𝓛 (‵ (seen Y κ place' h)) (id⊢ 𝓤 _) $ move ! (1 ∷ []) $
    drop ! $ move ! (1 ∷ []) $ drop ! $ move ! (1 ∷ []) $
    use1 𝓛 (‵ (flft κ q) ⊛ ‵ (flft z.0.0.1.0 z.0.1.1.0) ⊛ ‵ ftrue) (id⊢ 𝓤 _) $ split3 ! $
    move ! (3 ∷ 0 ∷ []) $ join ! $ move ! (4 ∷ 3 ∷ 0 ∷ []) $
    sets ! (addr ! (through ! refl (fld ! refl (stop !)))) refl (tt, tt) $
    use3 𝓛 (raw ((Gives Y 𝓛 𝓜.mem 𝓡.returns).pre w)) (Gives-goes Y 𝓛 𝓜.mem 𝓡.returns κ q place' h
    (⊑_trans κ z.0.0.1.0 A.lives z.0.2.0 le) b o n al τ asked.0 asked.1 fn' are.1.1.1.0.1) $
    calls_at ! (fm 𝓛 𝓜 𝓡) (Gives Y 𝓛 𝓜.mem 𝓡.returns) (met.deallocate dd) w
    (and_then ! (get ! refl)
    (and_then ! (get ! refl) (and_then ! (get ! refl) (and_then ! (get ! refl) (no_more !))))) (λ v.
    use1 𝓛 (later (given (v ≡ vunit) (‵ (flft κ q)))) (Gives-Gives Y 𝓛 𝓜.mem 𝓡.returns κ q place' h
    b o n al τ v) $ await ! tt $ learn ! (λ e.
    lands_as ! e refl (tt, tt) $
    sets ! (of_opd ! (unit_lit !)) refl (tt, tt) $
    returns_within ! Post refl (look_at ! 0 refl) $ free_all ! refl $
    move ! (1 ∷ 2 ∷ []) $ join ! $ move ! (1 ∷ 0 ∷ []) $ join ! $
    feq_i ! (List Val) (vunit ∷ []) (vunit ∷ []) refl $ nothing ! $ nothing ! $ nothing ! $
    fjoin ! $ nothing ! $ fjoin ! $ nothing ! $ fjoin ! $ nothing ! $ fjoin ! $
    move ! (3 ∷ 0 ∷ 2 ∷ 1 ∷ []) $
    by ! (leaves 𝓛 En₀ stays c z (vunit) (tt) (tt, (tt, (tt, (tt, tt)))) (
      tt,
      (tt, (tt, (tt, tt))),
    )))))
    (λ not_big. let low : n ≤ 1024 = nltb→le 1024 n not_big in
    let same = small_size τ n asked.0 low in
    rewrite ! 2 (λ (s : Bool). ‵ (Way s)) (is_small τ n asked.0 low) refl $
    skips ! $ exec ! C Λ En (after 2 fn.body) (at_ret En Post) $
    move ! (2 ∷ 3 ∷ []) $ fsplit ! $ move ! (2 ∷ 0 ∷ []) $
    use2 𝓛 (‵ (room_for (units_of m) p)) (apply∗ 𝓤 (sem 𝓛 (room_for τ p))
    (sem 𝓛 (room_for (units_of m) p))) $ fjoin ! $
    sets ! (agg ! (no_more !)) refl (tt, tt) $
    sets ! (agg ! (and_then ! (get ! refl) (and_then ! (get ! refl) (no_more !)))) refl (
      tt,
      (tt, (tt, tt)),
    ) $
    let x : (block.the_row Z g).Denot = record { ptr = p; marker = record {}; alloc = h; size = m }
    in
    let y : k.Ghost = (
      (
        z.0.0,
        z.0.1,
        z.0.2,
        (a.0, (x, (n, tt))),
        (me ∷ [], (block_val p ∷ [], (vint w64 n ∷ [], tt))),
      ),
      tt,
    ) in
    let Wanted : Type 0 = (n ≤ 1024) × (h ≡ h) × (m ≡ block_size n) in
    use0 𝓛 (‵ (block_own p (block_val p ∷ []))) (block_made 𝓛 p) $ fjoin ! $
    nothing ! $ flt_i ! n (2 ^ 64) fn' $
    feq_i ! (List Val) (vint w64 n ∷ []) (vint w64 n ∷ []) refl $ fjoin ! $ fjoin ! $
    move ! (1 ∷ 0 ∷ []) $ fjoin ! $ move ! (1 ∷ 0 ∷ []) $
    feq_i ! (List Val) (me ∷ []) (me ∷ []) refl $ fjoin ! $ fjoin ! $ move ! (1 ∷ 0 ∷ []) $ join ! $
    use0 𝓛 (raw (fact 𝓤 Wanted)) (fact_i 𝓤 Wanted (emp 𝓤) (low, refl, ap block_size same)) $
    use0 𝓛 (raw (fact 𝓤 InA)) (fact_i 𝓤 InA (emp 𝓤) le) $ join ! $ move ! (1 ∷ 0 ∷ []) $ join ! $
    use1 𝓛 (raw (k.pre y)) (id⊢ 𝓤 _) $
    calls_at ! (fm 𝓛 𝓜 𝓡) k (gives 𝓤 𝓛 𝓜 𝓡
    (compiled.calls-caching_alloc::pool::Pool::give 𝓡.env wired) A
    L g d dd met md) y
    (and_then ! (get ! refl) (and_then ! (get ! refl) (and_then ! (get ! refl) (no_more !)))) (λ u.
    use1 𝓛 (later (some (λ (r : Unit {0}). (raw (alive 𝓛 En₀.signature z.0.0 z.0.1)
    ⊛ ‵ (unit.own_val r (u ∷ [])))
    ⊛ some (λ (ls : Lasts (callee.ended A g d dd) z.0.0 y.0.3). ‵ (lasts (callee.ended A g d dd)
    z.0.0 y.0.3 ls) ⊛ ‵ ftrue)))) (id⊢ 𝓤 (k.post y u)) $
    await ! tt $ pick ! (λ r. split ! $ move ! (1 ∷ []) $ drop ! $ split ! $ move ! (1 ∷ []) $
    feq_l ! (λ e. lands_as ! (ap only e) refl (tt, tt) $
    sets ! (of_opd ! (unit_lit !)) refl (tt, tt) $
    returns ! (look_at ! 0 refl) $ free_all ! refl $
    feq_i ! (List Val) (vunit ∷ []) (vunit ∷ []) refl $ nothing ! $ nothing ! $ nothing ! $
    fjoin ! $ nothing ! $ fjoin ! $ nothing ! $ fjoin ! $ nothing ! $ fjoin ! $
    move ! (3 ∷ 0 ∷ 2 ∷ 1 ∷ []) $
    by ! (leaves 𝓛 En₀ stays c z (vunit) (tt) (tt, (tt, (tt, (tt, tt)))) (
      tt,
      (tt, (tt, (tt, tt))),
    )))))))))))
