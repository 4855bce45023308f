use Rattle.std.proofs.Common.{rules, ℕ, ◌≡◌, ◌==◌, List, [], ◌∷◌, length, true, refl, sym, ◌∙◌}
use Rattle.std.proofs.Common.{arith}
use Rattle.std.proofs.lemmas.Bool.Decides.{nat_tests}
use Rattle.asciicast.proofs.recording.Recording.finish.Goals as goal

nothing : (x : List ℕ) → (length x == 0) ≡ true → x ≡ []
nothing [] h = refl
nothing (b ∷ x) h = absurd (grind (arith, nat_tests))

pub returns-else-not-is_empty-clause-given : goal.returns-else-not-is_empty-clause-given
returns-else-not-is_empty-clause-given g c = λ m e s given.
    let none = nothing c.output-added.result.now
    (sym c.is_empty.ensures ∙ c.if-not-is_empty.false) in
    record {
      added = g.F.StreamFilter.added c.finish.new.self;
      longer = c.in_ok-finish.ensures.ended m e s given;
      silent = λ _. search rules;
      heard = λ some. absurd (some (sym c.output-added.ensures ∙ none));
    }
