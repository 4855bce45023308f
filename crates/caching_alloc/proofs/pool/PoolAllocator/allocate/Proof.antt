-- `allocate` hands out a block as room for the type that was asked, and the way back as the token.
-- A large request it passes on. Assumes `Logic`.
use Rattle.std.proofs.Common.{◌≡◌, ℕ, ◌+◌, ◌^◌, ◌<◌, ◌≤◌, Bool, true, false, ltb→lt, nltb→le, List, [], ◌∷◌, ◌++◌, refl, sym, arith, lit<, w64, Ok, Err}
use mir.Syntax.{Ty, Fn, Args, a_type, dcons, dnil}
use mir.Val.{Val, vint, vptr}
use mir.MapTy.{inst_fn}
use base.Logic.{SProp, emp, id⊢}
use base.Fml.{Lft, Share, Fml, ftrue, froom, fwand, flft}
use prog.Memory.{size, align, capped, up}
use prog.Wp.{Env, WpFn}
use contract.BorrowLft.{◌⊑◌, ⊑_trans}
use contract.Monad.{fact, fact_i}
use contract.Running.{tables}
use types.Kit.{‵, raw, ◌⊛◌, some, later, prop, at_ret, ◌$◌, ◌∵◌, !, qed, by, move, keep, drop, use0, use1, use2, split, split3, join, pick, rewrite, regoal, fsplit, fjoin, feq_i, flt_i, await}
use types.Part.{whole, sub, agg}
use types.Match.{vrt, in_variant}
use types.Run.{stop, fld, lit, bin, addr, of_opd, no_more, and_then, first, branches, skips, switches_on, exec, returns, returns_within, enter}
use types.ByLocal.{alloc_all, pass_all, free_all, look_at, get, get_in, get_tag, through, sets, sets_last, lands_as, env}
use denote.RattleType.{RattleType, owns}
use denote.Opens.{unhide}
use denote.Param.{param, bounded}
use denote.RawPtr.{Ptr, block_ptr}
use denote.Signature.{types_at}
use denote.Steps.{nothing, heard}
use denote.Triple.Call.{calls_at}
use denote.Triple.Clauses.{Lasts, lasts}
use denote.Triple.Entry.{alive}
use denote.Triple.Spec.{triple_of}
use denote.Triple.Walked.{walk_of, Goes-dropped}
use Rattle.core.proofs.alloc.Calls.{Al, α, seen, Answer, answer_val, Answer-typed, Answer-Ok, Answer-err, Takes, at_takes, Answered, Takes-goes, Takes-gives, answers}
use Rattle.core.proofs.alloc.Shapes.{after, head, arm_body}
use Rattle.core.proofs.atomic.Steps.{fm}
use Rattle.std.proofs.raw_atomic.Walks.{proved_at, leaves}
use Rattle.caching_alloc.proofs.Walks.{dropped_all, slot_at, then_runs, big_lit}
use Rattle.caching_alloc.proofs.Numbers.{block_holds, small_size, is_small, is_large}
use Rattle.caching_alloc.proofs.Room.{retypes}
use Rattle.caching_alloc.proofs.Taken.{Taken, Told, taken}
use Rattle.caching_alloc.specs.Sizes.{block_size}
use Rattle.caching_alloc.specs.Ownership.{units_of, either, part_of_block}
use Rattle.caching_alloc.specs.contracts.pool.Pool.take as callee
use Rattle.caching_alloc.proofs.pool.Pool.take.Met.{met as takes}
use Rattle.caching_alloc.specs.contracts.pool.PoolAllocator.allocate.{ended, clauses}
use Rattle.caching_alloc.specs.contracts.pool.PoolAllocator.allocate.Key.{name as #self}
use Rattle.caching_alloc.proofs.pool.PoolAllocator.allocate.Statement.{statement}
use Rattle.caching_alloc.proofs.pool.PoolAllocator.allocate.Code as compiled

pub allocate_spec : {M : Type 1} → statement M
allocate_spec 𝓤 𝓛 𝓜 𝓡 wired A L g d dd met md =
    let H = 𝓛.H in
    let En₀ = ended A g d dd in
    let c₀ = clauses A g d dd 𝓛 𝓜.mem 𝓡.returns in
    let args : Args = bounded (a_type ∷ []) (A, tt) (dcons d (dcons dd dnil)) in
    let fn : Fn = inst_fn args compiled.function in
    let stays = dropped_all En₀.signature.params En₀.kept in
    let c = c₀ in
    let C = (tables 𝓤 H 𝓜 𝓡 𝓡.env).C in
    let Λ = (tables 𝓤 H 𝓜 𝓡 𝓡.env).Λ in
    proved_at 𝓛 En₀ stays c 𝓜 𝓡 (
      Goes-dropped 𝓛 2 (slot_at 0 En₀.signature.params) En₀.kept.0
          (λ κs x f. refl),
      (
        Goes-dropped 𝓛 2 (slot_at 1 En₀.signature.params) En₀.kept.1.0 (λ κs x f. refl),
        (
          Goes-dropped 𝓛 2 (slot_at 2 En₀.signature.params) En₀.kept.1.1.0 (λ κs x f. refl),
          tt,
        ),
      ),
    ) (#self args) fn (compiled.unfolded 𝓤 H 𝓜 𝓡 wired (A, tt) d dd) (λ z are.
    let Post : Val → SProp 𝓤 = (walk_of 𝓛 En₀ stays c).post z in
    let a = z.0.3 in
    let vss = z.0.4 in
    let Y : Al = record { row = A; laws = L; g = g; d = d; drops = dd } in
    let κ : Lft = z.0.0.0 in
    let q : Share = z.0.1.0 in
    let Z : RattleType = param 0 A in
    let h : Z.Denot = a.0.now.inner in
    let t : Ty → Ptr → Fml = g.dealloc_token h in
    let τ : Ty = z.1 in
    let n = a.1.0 in
    let al = a.1.1.0 in
    let fn' = are.1.0.1 in
    let me : Val = vptr a.0.ref_ptr.0 a.0.ref_ptr.1 in
    let place : ℕ × ℕ = (a.0.ref_ptr.0, a.0.ref_ptr.1 + up (align (α Y)) 0) in
    let w = at_takes Y 𝓛 𝓜.mem 𝓡.returns κ q place h n al τ in
    let k = triple_of 𝓛 (callee.signature A g d dd) (callee.spec A g d dd 𝓛 𝓜.mem 𝓡.returns) in
    let y : k.Ghost = (
      (z.0.0, z.0.1, z.0.2, (a.0, (n, tt)), (me ∷ [], (vint w64 n ∷ [], tt))),
      tt,
    ) in
    let m = block_size (size τ) in
    let Way : Bool → Ptr → Fml = λ small p. either small (part_of_block t m τ p) (t τ p) in
    let InA : Type 0 = z.0.0.1.0 ⊑ A.lives in
    let Asked : Type 0 = (capped (size τ) ≡ n) × (capped (align τ) ≡ al) in
    qed 𝓛 ((raw (alive 𝓛 En₀.signature z.0.0 z.0.1)
    ⊛ ‵ (owns (types_at En₀.signature.params z.0.0) a vss))
    ∷ (raw (fact 𝓤 InA) ⊛ raw (fact 𝓤 Asked)) ∷ []) ∵
    move ! (1 ∷ []) $ split ! $ heard ! InA (λ le. heard ! Asked (λ asked. split ! $
    move ! (1 ∷ []) $ fsplit ! $ fsplit ! $ keep ! (1 ∷ 3 ∷ []) $
    regoal ! (λ (us : List Val). prop (WpFn 𝓤 H C Λ fn us Post))
    (λ i. are.0.0 i ++ (are.1.0.0 i ++ (are.1.1.0.0 i ++ []))) refl $
    enter ! C Λ fn (me ∷ vint w64 n ∷ vint w64 al ∷ []) Post $
    alloc_all ! (λ l. pass_all ! refl (
      (tt, tt),
      (
        (tt, record { fits = fn' }),
        ((tt, record { fits = are.1.1.0.1 }), tt),
      ),
    ) $ let En : Env 𝓤 𝓛.H = env fn.locals l in
    sets ! (bin ! (big_lit ! (record { fits = lit< tt })) (get ! refl) tt) refl (tt, tt) $
    first ! $ branches ! (get ! refl)
    (λ big. let large : 1024 < n = ltb→lt 1024 n big in
    unhide ! $ fsplit ! $ fsplit ! $ use1 𝓛 (‵ (seen Y κ place h)) (id⊢ 𝓤 _) $ move ! (1 ∷ []) $
    drop ! $ move ! (1 ∷ []) $ drop ! $ move ! (1 ∷ []) $
    use1 𝓛 (‵ (flft κ q) ⊛ ‵ (flft z.0.0.1.0 z.0.1.1.0) ⊛ ‵ ftrue) (id⊢ 𝓤 _) $ split3 ! $
    move ! (3 ∷ 0 ∷ []) $
    sets ! (addr ! (through ! refl (fld ! refl (stop !)))) refl (tt, tt) $
    use2 𝓛 (raw ((Takes Y 𝓛 𝓜.mem 𝓡.returns).pre w)) (Takes-goes Y 𝓛 𝓜.mem 𝓡.returns κ q place h
    (⊑_trans κ z.0.0.1.0 A.lives z.0.2.0 le) n al τ asked.0 asked.1 fn' are.1.1.0.1) $
    calls_at ! (fm 𝓛 𝓜 𝓡) (Takes Y 𝓛 𝓜.mem 𝓡.returns) (met.allocate dd) w
    (and_then ! (get ! refl) (and_then ! (get ! refl) (and_then ! (get ! refl) (no_more !)))) (λ v.
    use1 𝓛 (later (raw (Answered Y 𝓛 𝓜.mem 𝓡.returns h τ v)
    ⊛ ‵ (flft κ q))) (Takes-gives Y 𝓛 𝓜.mem 𝓡.returns κ q place h n al τ v) $ await ! tt $ split ! $
    answers Y ! 𝓜.mem 𝓡.returns h τ v
    (λ b o e. let p : Ptr = block_ptr b o in move ! (1 ∷ []) $
    rewrite ! 0 (λ (small : Bool). ‵ (Way small p)) (sym (is_large τ n asked.0 large)) refl $
    move ! (1 ∷ 0 ∷ []) $ fjoin ! $
    lands_as ! e refl (Answer-typed true b o) $
    returns_within ! Post refl (look_at ! 0 refl) $ free_all ! refl $
    move ! (2 ∷ 3 ∷ []) $ join ! $ move ! (2 ∷ 0 ∷ []) $ join ! $ move ! (1 ∷ 0 ∷ []) $
    use0 𝓛 (‵ (Answer.own_val (Ok p) (answer_val true b o ∷ []))) (Answer-Ok 𝓛 b o) $ nothing ! $
    nothing ! $ fjoin ! $ nothing ! $ fjoin ! $ nothing ! $ fjoin ! $ move ! (3 ∷ 0 ∷ 1 ∷ 2 ∷ []) $
    by ! (leaves 𝓛 En₀ stays c z (answer_val true b o) (Ok p) (tt, (tt, (tt, tt))) (
      tt,
      (tt, (tt, tt)),
    )))
    (λ e. nothing ! $ lands_as ! e refl (Answer-typed false 0 0) $
    returns_within ! Post refl (look_at ! 0 refl) $ free_all ! refl $
    move ! (2 ∷ 3 ∷ []) $ join ! $ move ! (2 ∷ 0 ∷ []) $ join ! $ move ! (1 ∷ 0 ∷ []) $
    use0 𝓛 (‵ (Answer.own_val (Err (record {})) (answer_val false 0 0 ∷ []))) (Answer-err 𝓛) $
    nothing ! $ nothing ! $ fjoin ! $ nothing ! $ fjoin ! $ nothing ! $ fjoin ! $
    move ! (3 ∷ 0 ∷ 1 ∷ 2 ∷ []) $
    by ! (leaves 𝓛 En₀ stays c z (answer_val false 0 0) (Err (record {})) (tt, (tt, (tt, tt))) (
      tt,
      (tt, (tt, tt)),
    )))))
    (λ not_big. let low : n ≤ 1024 = nltb→le 1024 n not_big in
    skips ! $ exec ! C Λ En (after 2 fn.body) (at_ret En Post) $
    nothing ! $ flt_i ! n (2 ^ 64) fn' $
    feq_i ! (List Val) (vint w64 n ∷ []) (vint w64 n ∷ []) refl $ fjoin ! $ fjoin ! $
    move ! (1 ∷ 0 ∷ []) $ feq_i ! (List Val) (me ∷ []) (me ∷ []) refl $ fjoin ! $ fjoin ! $
    move ! (1 ∷ 0 ∷ []) $ join ! $
    use0 𝓛 (raw (fact 𝓤 (n ≤ 1024))) (fact_i 𝓤 (n ≤ 1024) (emp 𝓤) low) $
    use0 𝓛 (raw (fact 𝓤 InA)) (fact_i 𝓤 InA (emp 𝓤) le) $ join ! $ move ! (1 ∷ 0 ∷ []) $ join ! $
    use1 𝓛 (raw (k.pre y)) (id⊢ 𝓤 _) $
    calls_at ! (fm 𝓛 𝓜 𝓡) k (takes 𝓤 𝓛 𝓜 𝓡
    (compiled.calls-caching_alloc::pool::Pool::take 𝓡.env wired) A
    L g d dd met md) y (and_then ! (get ! refl) (and_then ! (get ! refl) (no_more !))) (λ v.
    use1 𝓛 (later (some (λ (x : (Taken Z g).Denot). (raw (alive 𝓛 En₀.signature z.0.0 z.0.1)
    ⊛ ‵ ((Taken Z g).own_val x (v ∷ [])))
    ⊛ some (λ (ls : Lasts (callee.ended A g d dd) z.0.0 y.0.3). ‵ (lasts (callee.ended A g d dd)
    z.0.0 y.0.3 ls) ⊛ raw (fact 𝓤 (Told Z g h n x)))))) (id⊢ 𝓤 (k.post y v)) $
    await ! tt $ pick ! (λ x. split ! $ move ! (1 ∷ []) $ pick ! (λ _. split ! $ drop ! $
    heard ! (Told Z g h n x) (λ said. split ! $ move ! (1 ∷ []) $
    taken Z g ! h n x v said
    (λ b o e. let p : Ptr = block_ptr b o in let same = small_size τ n asked.0 low in
    let holds = block_holds (size τ) (omega arith) in
    rewrite ! 0 (λ (j : ℕ). ‵ (froom (units_of (block_size j)) b o)) (sym same) refl $
    rewrite ! 1 (λ (j : ℕ). ‵ (t (units_of (block_size j)) p)) (sym same) refl $
    use1 𝓛 (‵ (froom τ b o)
    ⊛ ‵ (fwand (froom τ b o) (froom (units_of m) b o))) (retypes 𝓛 τ b o m holds.0 holds.1) $
    split ! $ move ! (1 ∷ 2 ∷ []) $ fjoin ! $
    rewrite ! 0 (λ (small : Bool). ‵ (Way small p)) (sym (is_small τ n asked.0 low)) refl $
    move ! (1 ∷ 0 ∷ []) $ fjoin ! $
    lands_as ! e refl (tt, (record { fits = lit< tt }, ((tt, (tt, tt)), tt))) $
    first ! $ switches_on ! (get_tag ! (vrt ! refl (fld ! refl (stop !))) (whole !)) $
    exec ! C Λ En (arm_body 0 (head (after 3 fn.body))) (then_runs 𝓛 C Λ En (after 4 fn.body)
    (at_ret En Post)) $
    sets ! (of_opd ! (get_in ! (vrt ! refl (fld ! refl (fld ! refl (stop !))))
    (sub ! 0 refl (in_variant ! 1 0 refl refl (whole !))))) refl (tt, tt) $
    sets_last ! (agg ! (and_then ! (lit ! tt) (and_then ! (get ! refl) (no_more !)))) refl (
      tt,
      (record { fits = lit< tt }, (tt, tt)),
    ) $
    exec ! C Λ En (after 4 fn.body) (at_ret En Post) $
    sets ! (of_opd ! (get ! refl)) refl (tt, (record { fits = lit< tt }, (tt, tt))) $
    returns ! (look_at ! 0 refl) $ free_all ! refl $
    use0 𝓛 (‵ (Answer.own_val (Ok p) (answer_val true b o ∷ []))) (Answer-Ok 𝓛 b o) $ nothing ! $
    nothing ! $ fjoin ! $ nothing ! $ fjoin ! $ nothing ! $ fjoin ! $ move ! (3 ∷ 0 ∷ 1 ∷ 2 ∷ []) $
    by ! (leaves 𝓛 En₀ stays c z (answer_val true b o) (Ok p) (tt, (tt, (tt, tt))) (
      tt,
      (tt, (tt, tt)),
    )))
    (λ e. nothing ! $ lands_as ! e refl (tt, (record { fits = lit< tt }, tt)) $
    first ! $ switches_on ! (get_tag ! (vrt ! refl (fld ! refl (stop !))) (whole !)) $
    exec ! C Λ En (arm_body 1 (head (after 3 fn.body))) (then_runs 𝓛 C Λ En (after 4 fn.body)
    (at_ret En Post)) $
    sets ! (agg ! (no_more !)) refl (tt, tt) $
    sets_last ! (agg ! (and_then ! (lit ! tt) (and_then ! (get ! refl) (no_more !)))) refl (
      tt,
      (record { fits = lit< tt }, (tt, tt)),
    ) $
    exec ! C Λ En (after 4 fn.body) (at_ret En Post) $
    sets ! (of_opd ! (get ! refl)) refl (tt, (record { fits = lit< tt }, (tt, tt))) $
    returns ! (look_at ! 0 refl) $ free_all ! refl $
    use0 𝓛 (‵ (Answer.own_val (Err (record {})) (answer_val false 0 0 ∷ []))) (Answer-err 𝓛) $
    nothing ! $ nothing ! $ fjoin ! $ nothing ! $ fjoin ! $ nothing ! $ fjoin ! $
    move ! (3 ∷ 0 ∷ 1 ∷ 2 ∷ []) $
    by ! (leaves 𝓛 En₀ stays c z (answer_val false 0 0) (Err (record {})) (tt, (tt, (tt, tt))) (
      tt,
      (tt, (tt, tt)),
    ))))))))))))
