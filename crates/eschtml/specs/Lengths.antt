-- The most bytes that the output for a stream can have.
use Rattle.std.specs.Prelude.{ℕ, ◌≤◌, ◌+◌, ◌*◌, Bool, true, false, List, Option, None, Some, length}
use Rattle.esc_decode.specs.declared.encoding.Encoding.{Encoding}
use Rattle.esc_decode.specs.declared.encoding.Encoding.TheVariants.{CodePage, EightBit, Utf8}
use Rattle.esc_html.specs.Lines.{feeds}
use Rattle.eschtml.specs.declared.options.Options.{Options}

-- So many bytes of a stream become at most so many of UTF-8: with a code page a character each.
abbrev pub most_decoded : Encoding → ℕ → ℕ
most_decoded Utf8 n = n
most_decoded EightBit n = n
most_decoded (CodePage p) n = 4 * n

-- And if the actions that are left out are shown, each of these is at most 7: of two, one may be a
-- character that stays, and the other its number, as `<FF>`, between SGR 7 and SGR 27.
abbrev pub most_seen : Bool → ℕ → ℕ
most_seen true n = 7 * n + 6
most_seen false n = n

abbrev pub most_content : Options → List ℕ → ℕ
most_content o s = most_seen o.shows (most_decoded o.encoding (length s))

-- The text t is at most 150 times as long as the text of the stream s that becomes HTML, and 150
-- bytes more; if lines are elements, with 126 bytes more for each line.
abbrev pub IsShortBy : Option ℕ → ℕ → List ℕ → Type 0
IsShortBy None n t = length t ≤ 150 * n + 150
IsShortBy (Some first) n t = length t ≤ 150 * n + 150 + 126 * (feeds t + 1)

abbrev pub IsShort : Options → List ℕ → List ℕ → Type 0
IsShort o s t = IsShortBy o.first (most_content o s) t
