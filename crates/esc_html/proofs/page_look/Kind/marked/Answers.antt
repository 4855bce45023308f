use Rattle.esc_html.proofs.Looks.KindsOfLooks.{kind_plain, other_marked, plain_marked}
use Rattle.esc_html.proofs.page_look.Kind.marked.Goals as goal

pub returns-in-Plain : goal.returns-in-Plain
returns-in-Plain c = λ l h. plain_marked l c.args.mark (kind_plain _ l h c.in-Plain.is)

pub returns-in-Colored : goal.returns-in-Colored
returns-in-Colored c = λ l h. other_marked l c.args.mark

pub returns-in-Marked : goal.returns-in-Marked
returns-in-Marked c = λ l h. other_marked l c.args.mark

pub returns-in-Other : goal.returns-in-Other
returns-in-Other c = λ l h. other_marked l c.args.mark
