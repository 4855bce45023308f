-- The facts that are known of values, and the fate of these values.
use Rattle.std.proofs.Common.{ℕ, ◌≡◌, Bool, true, false, ◌&&◌, ◌||◌, List, [], ◌∷◌, Option, refl, ap, sym, ◌∙◌, subst}
use Rattle.std.specs.List.{FoldsTo, list_all, list_any}
use Rattle.esc_segments.specs.declared.kind.SegmentKind.{SegmentKind}
use Rattle.esc_actions.specs.Texts.{list_text}
use Rattle.esc_actions.specs.Values.{Value, value_of}
use Rattle.esc_actions.specs.declared.action.Action.{Action}
use Rattle.esc_parse.specs.Given.{At}
use Rattle.esc_filter.specs.declared.guard.Guard.{Guard}
use Rattle.esc_account.specs.Rules.{before_after, fate_of, is_own, is_shown, is_written}
use Rattle.esc_account.specs.Weighed.{fate_by, facts_of_none, weighed_all, weighed_with}
use Rattle.esc_account.specs.Weighings.{HasWeighed, Weighs}
use Rattle.esc_account.specs.declared.policy_judge.PolicyJudge.{PolicyJudge}
use Rattle.esc_account.specs.declared.verdict.Verdict.{Verdict}
use Rattle.esc_account.specs.declared.weighed.Weighed.{Weighed}
use Rattle.esc_account.specs.declared.weighing.Weighing.{Weighing}

or_more : (a b c : Bool) → ((a || b) || c) ≡ (a || (b || c))
or_more true b c = refl
or_more false b c = refl

or_none : (a : Bool) → (a || false) ≡ a
or_none true = refl
or_none false = refl

and_more : (a b c : Bool) → ((a && b) && c) ≡ (a && (b && c))
and_more true b c = refl
and_more false b c = refl

and_all : (a : Bool) → (a && true) ≡ a
and_all true = refl
and_all false = refl

module _ {A : Type 0} (by_lines : Bool) (u : Guard) (admits : Value A → Bool) (b : Option ℕ)
    (k : SegmentKind) where
  abbrev With : Weighed → Value A → Weighed
  With w v = weighed_with by_lines u admits b k w v

  abbrev All : Weighed → List (Value A) → Weighed
  All w vs = weighed_all by_lines u admits b k w vs

  own_is : (w : Weighed) (vs : List (Value A))
      → (All w vs).has_own ≡ (w.has_own || list_any (is_own k) vs)
  own_is w [] = sym (or_none w.has_own)
  own_is w (v ∷ vs) =
      own_is (With w v) vs ∙ or_more w.has_own (is_own k v) (list_any (is_own k) vs)

  all_is : (w : Weighed) (vs : List (Value A))
      → (All w vs).writes_all ≡ (w.writes_all && list_all (is_written by_lines u admits) vs)
  all_is w [] = sym (and_all w.writes_all)
  all_is w (v ∷ vs) =
      all_is (With w v) vs
      ∙ and_more w.writes_all (is_written by_lines u admits v)
      (list_all (is_written by_lines u admits) vs)

  some_is : (w : Weighed) (vs : List (Value A))
      → (All w vs).shows_some ≡ (w.shows_some || list_any (is_shown u b) vs)
  some_is w [] = sym (or_none w.shows_some)
  some_is w (v ∷ vs) =
      some_is (With w v) vs ∙ or_more w.shows_some (is_shown u b v) (list_any (is_shown u b) vs)

  last_is : (w : Weighed) (vs : List (Value A))
      → (All w vs).last ≡ before_after u admits w.last vs
  last_is w [] = refl
  last_is w (v ∷ vs) = last_is (With w v) vs

  fate_is : (bytes : List ℕ) (vs : List (Value A))
      → fate_by (All (facts_of_none b) vs) k bytes (list_text vs)
      ≡ fate_of by_lines u admits b k bytes vs
  fate_is bytes vs =
      rw (own_is (facts_of_none b) vs, all_is (facts_of_none b) vs, some_is (facts_of_none b) vs)
      refl

  abbrev verdict : Weighed → List ℕ → List (Value A) → Verdict
  verdict w bytes vs = record { fate = fate_by w k bytes (list_text vs); before = w.last }

  -- the verdict on what this is known of
  pub verdict_is : (bytes : List ℕ) (vs : List (Value A)) (w : Weighed) → w
      ≡ All (facts_of_none b) vs
      → verdict w bytes vs ≡ record {
        fate = fate_of by_lines u admits b k bytes vs;
        before = before_after u admits b vs;
      }
  verdict_is bytes vs w e =
      ap (λ x. verdict x bytes vs) e
      ∙ ap (λ f. record { fate = f; before = (All (facts_of_none b) vs).last }) (fate_is bytes vs)
      ∙ ap (λ l. record { fate = fate_of by_lines u admits b k bytes vs; before = l })
      (last_is (facts_of_none b) vs)

-- ---- weighing by a judge

-- an action makes q of p
abbrev pub Took : {P A : Type 0} → (P → Value A → Bool) → Weighing P A → Action A → Weighing P A
    → Type 0
Took admits p a q = Weighs admits p (value_of a) q

module _ {P A : Type 0} (admits : P → Value A → Bool) (j : PolicyJudge P A) (b : Option ℕ)
    (k : SegmentKind) where
  abbrev By : Weighed → Value A → Weighed
  By w v = weighed_with j.by_lines j.guard (admits j.policy) b k w v

  abbrev Ran : Weighing P A → Action A → Weighing P A → Type 0
  Ran p a q = Weighs admits p (value_of a) q

  one_more : (w : Weighed) (p q : Weighing P A) (v : Value A) → HasWeighed p j b k w
      → Weighs admits p v q → HasWeighed q j b k (By w v)
  one_more w p q v h t = record {
    judge = t.judge ∙ h.judge;
    before = t.before ∙ h.before;
    kind = t.kind ∙ h.kind;
    weighed =
        t.weighed
        ∙ ap (λ x. weighed_with x.by_lines x.guard (admits x.policy) p.before p.kind p.weighed v)
        h.judge
        ∙ ap (λ x. weighed_with j.by_lines j.guard (admits j.policy) x p.kind p.weighed v) h.before
        ∙ ap (λ x. weighed_with j.by_lines j.guard (admits j.policy) b x p.weighed v) h.kind
        ∙ ap (λ x. By x v) h.weighed;
  }

  pub weighs : (w : Weighed) (vs : List (Value A)) (p q : Weighing P A) → HasWeighed p j b k w
      → FoldsTo (At value_of Ran) p vs q
      → q.weighed ≡ weighed_all j.by_lines j.guard (admits j.policy) b k w vs
  weighs w [] p q h e = ap (λ x. x.weighed) (sym e) ∙ h.weighed
  weighs w (v ∷ vs) p q h (m, (a, is, t), rest) =
      weighs (By w v) vs m q
      (one_more w p m v h (subst (λ x. Weighs admits p x m) is t)) rest
