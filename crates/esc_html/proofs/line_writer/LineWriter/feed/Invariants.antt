use Rattle.std.proofs.Common.{◌≡◌, ◌++◌, length, string_bytes}
use denote.Text.{Utf8}
use denote.Shadow.{shadow}
use Rattle.esc_html.specs.Lines.{lined_page, number_after, open_after}
use Rattle.esc_html.proofs.line_writer.LineWriter.feed.Given as goal

abbrev pub invariant-loop-at : goal.invariant-loop-at
invariant-loop-at g l =
    shadow (Utf8 l.rest)
    × (string_bytes l.self.text ++ lined_page l.self.number l.self.is_open l.rest
    ≡ lined_page l.fn.self.number l.fn.self.is_open l.fn.page)
    × (number_after l.self.number l.rest ≡ number_after l.fn.self.number l.fn.page)
    × (open_after l.self.is_open l.rest ≡ open_after l.fn.self.is_open l.fn.page)

abbrev pub decreases-loop-at : goal.decreases-loop-at
decreases-loop-at g l = length l.rest
