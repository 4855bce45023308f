-- The weights of the actions of a segment.
use Rattle.std.specs.Prelude.{ℕ, ◌≡◌, Bool, Option}
use Rattle.esc_segments.specs.declared.kind.SegmentKind.{SegmentKind}
use Rattle.esc_actions.specs.Values.{Value}
use Rattle.esc_account.specs.Weighed.{facts_of_none, weighed_with}
use Rattle.esc_account.specs.declared.policy_judge.PolicyJudge.{PolicyJudge}
use Rattle.esc_account.specs.declared.weighed.Weighed.{Weighed}
use Rattle.esc_account.specs.declared.weighing.Weighing.{Weighing}

-- it weighed this by this judge, in a segment of this kind that comes after this character
pub record HasWeighed {P A : Type 0} (w : Weighing P A) (j : PolicyJudge P A) (b : Option ℕ)
    (k : SegmentKind) (known : Weighed) : Type 0 where
  pub judge : w.judge.now ≡ j
  pub before : w.before ≡ b
  pub kind : w.kind ≡ k
  pub weighed : w.weighed ≡ known

-- the weight of no value yet
abbrev pub BeginsWeighing : {P A : Type 0} → Weighing P A → PolicyJudge P A → Option ℕ
    → SegmentKind → Type 0
BeginsWeighing w j b k = HasWeighed w j b k (facts_of_none b)

-- a value makes q of p, by a judge whose policy admits these values
abbrev pub Weighs : {P A : Type 0} → (P → Value A → Bool) → Weighing P A → Value A → Weighing P A
    → Type 0
Weighs admits p v q = HasWeighed q p.judge.now p.before p.kind
    (weighed_with p.judge.now.by_lines p.judge.now.guard (admits p.judge.now.policy) p.before p.kind
    p.weighed v)
