-- How long a page can become.
use Rattle.std.specs.Prelude.{ℕ, ◌≤◌, ◌+◌, ◌*◌, List, length}

-- The text t is at most 150 times as long as the stream s, and 150 bytes more.
abbrev pub IsBounded : List ℕ → List ℕ → Type 0
IsBounded s t = length t ≤ 150 * length s + 150

-- The text that bytes b add, whatever came before them: at most 150 times as many bytes, and the
-- bytes that a link that is open or unfinished can still take, on 16 lines.
abbrev pub IsBoundedPagePart : List ℕ → List ℕ → Type 0
IsBoundedPagePart b t = length t ≤ 150 * length b + 401000
