-- The steps that the walks share: parameters that a call lets go of, the rest after a part of a
-- body, a constant above 255, and a walk that holds the thread's token. Assumes `Logic`.
use Rattle.std.proofs.Common.{ℕ, zero, suc, List, [], ◌∷◌, subst}
use seplogic.Ra.Ura.{Ura}
use mir.Syntax.{Fn, Callee, Body, Width, int_big}
use mir.Val.{Fits, vint}
use base.Logic.{ent, via, fst∗, snd∗, guard_i}
use base.Mask.{every}
use prog.Wp.{Env, Calls, Loops, Wp, WpFn, Tables, after_seq, after_block}
use prog.Model.{Model}
use prog.Routine.{over, ◌≼⁺◌}
use types.Logic.{Logic, sem}
use types.Kit.{Item, Post, any_q, post}
use types.Run.{Opd}
use contract.Monad.{fact_use}
use contract.Running.{Running, tables_of, bare_tables}
use contract.Beside.{Carries}
use contract.Named.{bare_unfolds}
use sound.WpLaws.{WpFn-mono}
use denote.RattleType.{owns}
use denote.Laws.{Ises, Are, owns_show, showss}
use denote.Builtin.{unit}
use denote.Signature.{Signature, Slot, plain, types_at}
use denote.Triple.Clauses.{Ended, Clauses, closing}
use denote.Triple.End.{Kepts}
use denote.Triple.Entry.{on_entry, alive}
use denote.Triple.Spec.{Meets, triple_of}
use denote.Triple.Table.{entered}
use denote.Triple.Handed.{holding, hands}
use denote.Triple.Walked.{Stays, AllGo, stay_dropped, walk_of, walk_Meets}

abbrev pub slot_at : {n : ℕ} → ℕ → List (Slot n) → Slot n
slot_at k [] = plain (λ _. unit)
slot_at zero (s ∷ ss) = s
slot_at (suc k) (s ∷ ss) = slot_at k ss

-- every parameter is dropped
abbrev pub dropped_all : {n : ℕ} (ss : List (Slot n)) (ks : Kepts ss) → Stays ss ks
dropped_all [] ks = tt
dropped_all (s ∷ ss) ks = (stay_dropped s ks.0, dropped_all ss ks.1)

module _ {M : Type 1} {𝓤 : Ura M} (𝓛 : Logic 𝓤) where
  open 𝓛 use {H}

  abbrev pub then_runs : Calls 𝓤 H → Loops 𝓤 H → Env 𝓤 H → Body → Post 𝓤 H → Post 𝓤 H
  then_runs C Λ E b q = any_q (after_seq 𝓤 H (Wp 𝓤 H C Λ E b (post 𝓤 H q)) (post 𝓤 H q))

  abbrev pub out_of_block : Post 𝓤 H → Post 𝓤 H
  out_of_block q = any_q (after_block 𝓤 H (post 𝓤 H q))

module _ {M : Type 1} {𝓤 : Ura M} {𝓛 : Logic 𝓤} {K : Type 0} {Γ : List (Item 𝓤)} {E : Env 𝓤 𝓛.H}
  where
    pub big_lit : K → {w : Width} {n : ℕ} → Fits w n → Opd K 𝓛 Γ E (int_big w n) (vint w n)
    big_lit t {w} {n} z = record {
      go = λ Kt h. via 𝓤 (Kt (vint w n)) h
          (guard_i 𝓤 (Fits w n) (Kt (vint w n)) z);
    }

module _ {M : Type 1} {𝓤 : Ura M} (𝓛 : Logic 𝓤) (T : Ended) (hs : Stays T.signature.params T.kept)
    (c : Clauses 𝓤 T) where
  open 𝓛 use {H, A}

  abbrev S : Signature
  S = T.signature

  abbrev pub with_token : Clauses 𝓤 T
  with_token = holding 𝓤 T (A.tok every) c

  pub proved_with_token : (𝓜 : Model 𝓤 H) (𝓡 : Running 𝓤 H 𝓜)
      → AllGo 𝓛 S.lifetimes S.params T.kept hs → (k : Callee) (e : Fn) → over 𝓡.env e ≼⁺ 𝓡.env k
      → ((C : Calls 𝓤 H) (Λ : Loops 𝓤 H) (y : (walk_of 𝓛 T hs with_token).Ghost)
      → Are (types_at S.params y.0.0) (Ises (types_at S.params y.0.0)) y.0.3 y.0.4
      → ent 𝓤 ((walk_of 𝓛 T hs with_token).pre y)
      (WpFn 𝓤 H C Λ e ((walk_of 𝓛 T hs with_token).args y) ((walk_of 𝓛 T hs with_token).post y)))
      → Meets 𝓛 S (𝓡.run (𝓡.env k)) (closing 𝓛 T c)
  unfolding tables_of
  proved_with_token 𝓜 𝓡 go k e is walk =
      let 𝓒 : Carries 𝓤 H 𝓜 (A.tok every) = subst (Carries 𝓤 H 𝓜) 𝓛.turn_is 𝓡.carries in
      let 𝓣 : Tables 𝓤 H = tables_of 𝓤 H 𝓒.inner (bare_tables 𝓤 H 𝓒.inner 𝓡.allowed 𝓡.how 𝓡.env) in
      hands 𝓛 T (A.tok every) c 𝓜 𝓒 𝓡 (𝓡.env k)
      (entered 𝓤 H (triple_of 𝓛 S (closing 𝓛 T with_token)) 𝓣.C 𝓣.Λ k e
      (bare_unfolds 𝓤 H 𝓒.inner 𝓡.allowed 𝓡.how 𝓡.env k e is)
      (walk_Meets 𝓛 T hs go with_token (WpFn 𝓤 H 𝓣.C 𝓣.Λ e) (WpFn-mono 𝓤 H 𝓛.laws 𝓣 e)
      (λ y. let Rs = types_at S.params y.0.0 in let a = y.0.3 in let vss = y.0.4 in
      fact_use 𝓤 (Are Rs (Ises Rs) a vss) (via 𝓤 (sem 𝓛 (owns Rs a vss))
      (via 𝓤 (on_entry 𝓛 S y.0.0 y.0.1 a vss) (fst∗ 𝓤 (on_entry 𝓛 S y.0.0 y.0.1 a vss)
      ((with_token y.0.0 a).requires y.1))
      (snd∗ 𝓤 (alive 𝓛 S y.0.0 y.0.1) (sem 𝓛 (owns Rs a vss))))
      (owns_show 𝓛 Rs (Ises Rs) (showss 𝓛 Rs) a vss)) (walk 𝓣.C 𝓣.Λ y))))
