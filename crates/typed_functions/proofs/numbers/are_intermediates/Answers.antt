use Rattle.std.proofs.Common.{◌≡◌, ℕ, ◌+◌, ◌<◌, Bool, ◌&&◌, List, length, get_or, drop, ap, sym, ◌∙◌}
use Rattle.std.specs.List.{list_all}
use Rattle.std.proofs.lemmas.List.{at_drop_all, at_drop_more}
use Rattle.typed_functions.specs.Arguments.{is_intermediate}
use Rattle.typed_functions.proofs.numbers.are_intermediates.Goals as goal

-- the next one decides, or those after it
step : {X : Type 0} (p : X → Bool) (xs : List X) (i : ℕ) (d : X) (b : Bool) → i < length xs
    → p (get_or xs i d) ≡ b → list_all p (drop i xs) ≡ (b && list_all p (drop (i + 1) xs))
step p xs i d b lt e =
    at_drop_more (list_all p) xs i d lt ∙ ap (λ t. t && list_all p (drop (i + 1) xs)) e

pub returns-then-not-is_intermediate : goal.returns-then-not-is_intermediate
returns-then-not-is_intermediate c =
    sym (c.loop-entry.invariant
    ∙ step is_intermediate c.args.entries.now c.loop-entry.entry-index _ _ c.loop-entry-test.true
    (sym c.is_intermediate.ensures ∙ c.if-not-is_intermediate.true))

pub loop-entry-preserved : goal.loop-entry-preserved
loop-entry-preserved c =
    c.loop-entry.invariant
    ∙ step is_intermediate c.args.entries.now c.loop-entry.entry-index _ _ c.loop-entry-test.true
    (sym c.is_intermediate.ensures ∙ c.if-not-is_intermediate.false)

pub returns : goal.returns
returns c =
    sym (c.loop-entry.invariant
    ∙ at_drop_all (list_all is_intermediate) c.args.entries.now c.loop-entry.entry-index
    c.loop-entry-test.false)
