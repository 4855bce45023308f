-- Bytes that are taken at once.
use Rattle.std.specs.Prelude.{ℕ, ◌≡◌, ◌<◌, Bool, true, false, nat_le, nat_lt, not, ◌==◌, ◌&&◌, List, ◌++◌, length, take}
use Rattle.std.specs.List.{list_all}
use Rattle.std.specs.Str.{encode_utf8_all}
use Rattle.esc_actions.specs.Values.{Value, print}
use Rattle.esc_filter.specs.Lines.{has_line_feed}
use Rattle.esc_values.specs.Clear.{is_clear}
use Rattle.caret_notation.specs.Spans.{is_at_ground}

-- holds of characters that are no controls, as UTF-8, each of which is admitted
abbrev pub IsAdmittedText : {A : Type 0} → (Value A → Bool) → List ℕ → Type 0
IsAdmittedText admits x = (cs : List ℕ) × (list_all is_clear cs ≡ true)
    × (list_all (λ c. admits (print c)) cs ≡ true) × (encode_utf8_all cs ≡ x)

-- a line feed among them ends a span
abbrev pub has_line_end : Bool → List ℕ → Bool
has_line_end by_lines x = by_lines && has_line_feed x

-- some bytes, none of which is a line feed that ends a span
pub record IsOpenRun (by_lines : Bool) (x : List ℕ) : Type 0 where
  pub some : 0 < length x
  pub lineless : has_line_end by_lines x ≡ false

-- If r is the unfinished rest of a span, x is more of the same span, at most up to its end.
pub record IsPart (by_lines : Bool) (r x : List ℕ) : Type 0 where
  pub some : 0 < length x
  pub lineless : has_line_end by_lines x ≡ false
  pub quiet : (k : ℕ) → 0 < k → k < length x → is_at_ground (r ++ take k x) ≡ false

-- a character of ASCII whose visible text it is itself
abbrev pub is_plain : ℕ → Bool
is_plain b = nat_le 0x20 b && (nat_lt b 0x7f && (not (b == 0x3c) && not (b == 0x5e)))
