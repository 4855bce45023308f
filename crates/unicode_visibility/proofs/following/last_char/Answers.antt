use Rattle.std.proofs.Common.{chars, sym, ap, ◌∙◌, rules}
use Rattle.unicode_visibility.specs.Following.{last_of}
use Rattle.unicode_visibility.proofs.Strays.{last_is, nothing_left}
use Rattle.std.proofs.lemmas.Str.{chars-nil}
use Rattle.unicode_visibility.proofs.following.last_char.Goals as goal

pub returns-in-Some : goal.returns-in-Some
returns-in-Some c =
    last_is _ _ _ c.in-Some.c c.utf8.text (search rules)
    (sym c.chars.ensures.rest ∙ c.in-Some.ensures.steps)

pub returns-in-None : goal.returns-in-None
returns-in-None c =
    let none = nothing_left _ c.in-None.ensures.steps.0 in
    sym (ap (λ t. last_of c.args.before (chars t)) (sym c.chars.ensures.rest ∙ none)
    ∙ ap (last_of c.args.before) chars-nil)
