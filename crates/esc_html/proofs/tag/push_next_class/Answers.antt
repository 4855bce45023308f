use Rattle.std.proofs.Common.{string_bytes}
use Rattle.esc_html.proofs.Texts.RunsAreEscaped.{grows_then}
use Rattle.esc_html.proofs.tag.push_next_class.Goals as goal

pub returns-in_err-push_pair-clause-grown : goal.returns-in_err-push_pair-clause-grown
returns-in_err-push_pair-clause-grown g c = c.push_pair.ensures.grown

pub returns-clause-grown : goal.returns-clause-grown
returns-clause-grown g c =
    grows_then (string_bytes c.args.html.now) (string_bytes c.push_pair.new.html)
    (string_bytes c.push_index.new.html) c.push_pair.ensures.grown c.push_index.ensures.grown

pub returns-in_err-push_index-clause-grown : goal.returns-in_err-push_index-clause-grown
returns-in_err-push_index-clause-grown g c =
    grows_then (string_bytes c.args.html.now) (string_bytes c.push_pair.new.html)
    (string_bytes c.push_index.new.html) c.push_pair.ensures.grown c.push_index.ensures.grown
