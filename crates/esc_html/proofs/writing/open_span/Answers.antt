use Rattle.std.proofs.Common.{string_bytes}
use Rattle.esc_html.proofs.Texts.RunsAreEscaped.{cut_back}
use Rattle.esc_html.proofs.writing.open_span.Goals as goal

pub truncate-requires : goal.truncate-requires
truncate-requires g c = λ small.
    rw c.as_str-len.ensures.value (cut_back (string_bytes c.args.html.now)
    (string_bytes c.push_span.new.html) c.in-Err.ensures.grown).0
