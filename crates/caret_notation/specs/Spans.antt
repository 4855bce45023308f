-- Spans of a stream: the bytes between two places with no segment unfinished.
use Rattle.std.specs.Prelude.{ℕ, Bool, false, ◌&&◌, ◌||◌, if◌then◌else◌, List, [], ◌∷◌, ◌++◌}
use Rattle.esc_filter.specs.Lines.{ends_line}
use Rattle.esc_frame.specs.Leads.Unfinished.{Ground}
use Rattle.esc_frame.specs.Machine.Moves.{after_all, is_ground}

-- no segment of the stream is unfinished
unfoldable pub is_at_ground : List ℕ → Bool
is_at_ground s = is_ground (after_all Ground s)

-- a line feed comes last
abbrev pub ends_in_line : Bool → List ℕ → Bool
ends_in_line by_lines p = by_lines && ends_line false p

-- These bytes, which follow the end of a span, are a span: no segment of them is unfinished, or
-- if `by_lines` a line feed ends them.
abbrev pub is_span : Bool → List ℕ → Bool
is_span by_lines p = ends_in_line by_lines p || is_at_ground p

-- the spans that s ends or brings, if r is the unfinished rest of a span before it; and the
-- unfinished rest of one after it
abbrev pub spans_after : Bool → List ℕ → List ℕ → List (List ℕ)
spans_after by_lines r [] = []
spans_after by_lines r (b ∷ s) =
    if is_span by_lines (r ++ b ∷ []) then (r ++ b ∷ []) ∷ spans_after by_lines [] s
    else spans_after by_lines (r ++ b ∷ []) s

abbrev pub rest_after : Bool → List ℕ → List ℕ → List ℕ
rest_after by_lines r [] = r
rest_after by_lines r (b ∷ s) =
    if is_span by_lines (r ++ b ∷ []) then rest_after by_lines [] s
    else rest_after by_lines (r ++ b ∷ []) s

-- The spans of a stream, each the shortest that ends there; and the rest, which has not ended.
abbrev pub spans : Bool → List ℕ → List (List ℕ)
spans by_lines s = spans_after by_lines [] s

abbrev pub rest : Bool → List ℕ → List ℕ
rest by_lines s = rest_after by_lines [] s
