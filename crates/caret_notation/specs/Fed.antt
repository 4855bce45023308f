-- The bytes that a reveal was fed.
use Rattle.std.specs.Prelude.{ℕ, ◌≡◌, ◌<◌, ◌≤◌, Bool, true, false, if◌then◌else◌, is_ok, List, [], ◌++◌, length, take, IfOk, OnErr, Result, Some}
use Rattle.esc_filter.specs.declared.admit.Admit.{Ghosts as Admitter}
use Rattle.esc_frame.specs.Stream.{HasConsumedWithin}
use Rattle.caret_notation.specs.Grown.{Grows, Keeps}
use Rattle.caret_notation.specs.Spans.{rest, rest_after}
use Rattle.caret_notation.specs.Revealed.{is_kept, revealed_after, revealed_as, revealed_whole_as}
use Rattle.caret_notation.specs.Visible.{rest_text, shown_text}
use Rattle.caret_notation.specs.declared.marking.Marking.{Marking}
use Rattle.caret_notation.specs.declared.reveal.Reveal.{Reveal}
use Rattle.caret_notation.specs.declared.reveal.Rule.{Rule}
use Rattle.fallible_alloc.specs.Refusals.{Refused}

-- its rule, and the parts of it
abbrev pub policy_of : {P A : Type 0} → Reveal P A → P
policy_of f = f.rule.policy

abbrev pub limit_of : {P A : Type 0} → Reveal P A → ℕ
limit_of f = f.rule.limit

abbrev pub marking_of : {P A : Type 0} → Reveal P A → Marking
marking_of f = f.rule.marking

abbrev pub by_lines_of : {P A : Type 0} → Reveal P A → Bool
by_lines_of f = f.rule.by_lines

-- the text that the last call added
abbrev pub added_by : {P A : Type 0} → Reveal P A → List ℕ
added_by f = f.text.items

-- r is the unfinished rest of a span
pub record AtRest {P A : Type 0} (r : List ℕ) (f : Reveal P A) : Type 0 where
  pub unfailed : f.has_failed ≡ false
  pub framed : HasConsumedWithin (Some f.rule.limit) r f.framer
  pub kept : Keeps f.rule.limit r f.kept

-- r is the unfinished rest of a span, and x came after it, which is framed and not kept yet
pub record IsFramed {P A : Type 0} (r x : List ℕ) (f : Reveal P A) : Type 0 where
  pub unfailed : f.has_failed ≡ false
  pub framed : HasConsumedWithin (Some f.rule.limit) (r ++ x) f.framer
  pub kept : Keeps f.rule.limit r f.kept

-- it was fed this stream
abbrev pub HasConsumed : {P A : Type 0} → List ℕ → Reveal P A → Type 0
HasConsumed s f = AtRest (rest (by_lines_of f) s) f

-- the text of a stream that goes on, and of one that has ended, by its rule
abbrev pub text_by : {P A : Type 0} → Admitter P A → Rule P → List ℕ → List ℕ
text_by {A = A} V rule s =
    revealed_as {A = A} rule.marking rule.by_lines rule.limit (V.admits rule.policy) s

abbrev pub whole_by : {P A : Type 0} → Admitter P A → Rule P → List ℕ → List ℕ
whole_by {A = A} V rule s =
    revealed_whole_as {A = A} rule.marking rule.by_lines rule.limit (V.admits rule.policy) s

-- it added the text that b adds after s
abbrev pub AddsTo : {P A : Type 0} → Admitter P A → List ℕ → List ℕ → Reveal P A → Reveal P A
    → Type 0
AddsTo V s b old new =
    text_by V old.rule (s ++ b) ≡ text_by V old.rule s ++ added_by new

-- it added the text that the end of s adds
abbrev pub EndsAs : {P A : Type 0} → Admitter P A → List ℕ → Reveal P A → Reveal P A → Type 0
EndsAs V s old new = whole_by V old.rule s ≡ text_by V old.rule s ++ added_by new

-- an error is for good, and adds nothing
abbrev pub FailsForGood : {P A T E : Type 0} → Reveal P A → Result T E → Reveal P A → Type 0
FailsForGood old result new = (old.has_failed ≡ true → is_ok result ≡ false)
    × OnErr result ((new.has_failed ≡ true) × (added_by new ≡ []))

-- r is the unfinished rest now, and the text grew by the text that makes `before` into `after`
abbrev pub Holds : {P A : Type 0} → List ℕ → List ℕ → List ℕ → Reveal P A → Reveal P A → Type 0
Holds r before after old new = AtRest r new × Grows (added_by old) (added_by new) before after

-- the text of a span that no line feed ends
abbrev pub closed_text : {P A : Type 0} → Admitter P A → Rule P → List ℕ → List ℕ
closed_text {A = A} V rule p =
    if is_kept {A = A} rule.marking rule.limit (V.admits rule.policy) p then p
    else shown_text rule.marking p

-- if r was unfinished, it took b, and its text grew by the text that this adds
abbrev pub GrowsBy : {P A : Type 0} → Admitter P A → Rule P → List ℕ → List ℕ → List ℕ → List ℕ
    → Reveal P A → Type 0
GrowsBy {A = A} V rule r b told tnew new =
    AtRest (rest_after rule.by_lines r b) new
    × Grows told tnew (rest_text rule.marking rule.limit r)
    (revealed_after {A = A} rule.marking rule.by_lines rule.limit (V.admits rule.policy) r b)

-- r is the unfinished rest of a span, and is empty
abbrev pub AtSpanEnd : {P A : Type 0} → List ℕ → Reveal P A → Type 0
AtSpanEnd r f = (r ≡ []) × AtRest r f

abbrev pub GrowsTo : {P A : Type 0} → Admitter P A → List ℕ → List ℕ → Reveal P A → Reveal P A
    → Type 0
GrowsTo V r b old new = GrowsBy V old.rule r b (added_by old) (added_by new) new

-- The promises of a call that takes some of the bytes b; `rests` says of r that it may be the
-- unfinished rest before.
pub record TakesSome {P A E : Type 0} (V : Admitter P A) (rests : List ℕ → Reveal P A → Type 0)
    (old : Reveal P A) (b : List ℕ) (result : Result ℕ E) (new : Reveal P A) : Type 0 where
  -- at least one
  pub count : IfOk result (λ n. (0 < n) × (n ≤ length b))
  -- the text grew by the text that they add
  pub given : (r : List ℕ) → rests r old → IfOk result (λ n. GrowsTo V r (take n b) old new)
  -- the rule is the same
  pub rule : new.rule ≡ old.rule
  -- an error says that memory was refused
  pub refused : (r : List ℕ) → rests r old → OnErr result (Refused A)
