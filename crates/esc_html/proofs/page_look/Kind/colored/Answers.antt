use Rattle.esc_html.proofs.Looks.KindsOfLooks.{colored_colored, kind_plain, other_colored, plain_colored}
use Rattle.std.proofs.Common.{◌≡◌, true, subst}
use Rattle.esc_html.specs.Plain.{is_of_kind}
use Rattle.esc_html.proofs.page_look.Kind.colored.Goals as goal

pub returns-in-Plain : goal.returns-in-Plain
returns-in-Plain c = λ l k h. plain_colored l k (kind_plain _ l h c.in-Plain.is)

pub returns-in-Colored : goal.returns-in-Colored
returns-in-Colored c = λ l k h.
    colored_colored l k (subst (λ j. is_of_kind j l ≡ true) c.in-Colored.is h)

pub returns-in-Marked : goal.returns-in-Marked
returns-in-Marked c = λ l k h. other_colored l k

pub returns-in-Other : goal.returns-in-Other
returns-in-Other c = λ l k h. other_colored l k
