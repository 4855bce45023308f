use Rattle.std.proofs.Common.{refl, subst, sym}
use Rattle.esc_html.specs.Lining.{WasLined}
use Rattle.eschtml.proofs.lined.Lined.new.Goals as goal

pub returns-clause-begins : goal.returns-clause-begins
returns-clause-begins g c = λ m e given none only. record {
  inner = m;
  inner_end = e;
  first = c.args.first;
  adds = only;
  given = given;
  lines = subst (λ t. WasLined c.args.first t c.new.result) (sym none) c.new.ensures.given;
  goes_on = refl;
  ended = refl;
}
