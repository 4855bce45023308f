-- A stream in which each span that is not admitted is shown as visible text.
use Rattle.std.specs.Prelude.{ℕ, Bool, true, false, ◌&&◌, nat_le, if◌then◌else◌, List, [], ◌∷◌, ◌++◌, Some, length}
use Rattle.std.specs.List.{flat_map}
use Rattle.esc_actions.specs.Meaning.{meaning_within}
use Rattle.esc_actions.specs.Texts.{is_string, is_terminator, list_text}
use Rattle.esc_actions.specs.Values.{Value}
use Rattle.esc_filter.specs.Passing.{passes}
use Rattle.caret_notation.specs.Spans.{ends_in_line, spans, spans_after, rest, rest_after}
use Rattle.caret_notation.specs.Visible.{lets_stay, rest_text, shown_text}
use Rattle.caret_notation.specs.declared.marking.Marking.{Marking}
use Rattle.caret_notation.specs.declared.marking.Marking.TheVariants as marking
use Rattle.caret_notation.specs.Spelled.{is_spelled}

-- the value passes; a string terminator exactly if a string comes directly before it, which it ends
abbrev pub goes_through : {A : Type 0} → (Value A → Bool) → Bool → Value A → Bool
goes_through admits follows v = if is_terminator v then follows else passes admits v

-- each of them does; `follows` says whether a string comes before them
abbrev pub all_through : {A : Type 0} → (Value A → Bool) → Bool → List (Value A) → Bool
all_through admits follows [] = true
all_through admits follows (v ∷ vs) =
    goes_through admits follows v && all_through admits (is_string v) vs

abbrev pub is_some : {T : Type 0} → List T → Bool
is_some [] = false
is_some (_ ∷ _) = true

-- there are some, and all go through
abbrev pub are_kept : {A : Type 0} → (Value A → Bool) → List (Value A) → Bool
are_kept admits vs = is_some vs && all_through admits false vs

-- holds of a span that stays as it is: of at most so many bytes, without marks if these are shown;
-- it means values, each of which passes; and all of its bytes are in the text of these
abbrev pub is_kept : {A : Type 0} → Marking → ℕ → (Value A → Bool) → List ℕ → Bool
is_kept {A = A} m limit admits p =
    (nat_le (length p) limit && lets_stay m p)
    && (are_kept admits (meaning_within {A = A} (Some limit) p)
    && is_spelled p (list_text (meaning_within {A = A} (Some limit) p)))

-- all but the last
abbrev pub but_last : List ℕ → List ℕ
but_last [] = []
but_last (b ∷ []) = []
but_last (b ∷ c ∷ s) = b ∷ but_last (c ∷ s)

-- The text of a span: the span itself, or its visible text. A line feed that ends one is written,
-- and the part of the chunk before it was unfinished.
abbrev pub span_text : {A : Type 0} → Marking → Bool → ℕ → (Value A → Bool) → List ℕ → List ℕ
span_text m by_lines limit admits p =
    if ends_in_line by_lines p then shown_text m (but_last p) ++ 0x0a ∷ []
    else if is_kept m limit admits p then p else shown_text m p

-- the text of s and the unfinished rest r before it
abbrev pub revealed_after : {A : Type 0} → Marking → Bool → ℕ → (Value A → Bool) → List ℕ → List ℕ
    → List ℕ
revealed_after m by_lines limit admits r s =
    flat_map (span_text m by_lines limit admits) (spans_after by_lines r s)
    ++ rest_text m limit (rest_after by_lines r s)

-- A stream that goes on, and one that has ended, whose rest is shown.
abbrev pub revealed_as : {A : Type 0} → Marking → Bool → ℕ → (Value A → Bool) → List ℕ → List ℕ
revealed_as m by_lines limit admits s = revealed_after m by_lines limit admits [] s

abbrev pub revealed_whole_as : {A : Type 0} → Marking → Bool → ℕ → (Value A → Bool) → List ℕ
    → List ℕ
revealed_whole_as m by_lines limit admits s =
    flat_map (span_text m by_lines limit admits) (spans by_lines s)
    ++ shown_text m (rest by_lines s)

-- the same if shown text is not told from other text
abbrev pub revealed_text : {A : Type 0} → Bool → ℕ → (Value A → Bool) → List ℕ → List ℕ
revealed_text by_lines limit admits s = revealed_as marking.Plain by_lines limit admits s

abbrev pub revealed_whole : {A : Type 0} → Bool → ℕ → (Value A → Bool) → List ℕ → List ℕ
revealed_whole by_lines limit admits s = revealed_whole_as marking.Plain by_lines limit admits s
