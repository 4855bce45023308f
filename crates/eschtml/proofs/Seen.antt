-- The text of a stream that becomes HTML if the actions that are left out are shown.
use Rattle.std.proofs.Common.{ℕ, suc, ◌≡◌, ◌≤◌, ◌<◌, Bool, true, false, List, [], ◌∷◌, length, get_or, refl, ap, ◌∙◌, arith}
use Rattle.std.specs.List.{list_all}
use Rattle.std.proofs.lemmas.Bool.{false_from_ne_true}
use Rattle.memchr.specs.Find.{is_byte}
use Rattle.esc_actions.specs.Values.{print}
use Rattle.esc_decode.specs.Decodings.{OnlyAdds, decoded_stream}
use Rattle.esc_decode.specs.declared.encoding.Encoding.{Encoding}
use Rattle.esc_decode.specs.declared.encoding.Encoding.TheVariants.{CodePage, EightBit, Utf8}
use Rattle.esc_filter.specs.declared.admit.Admit.{Ghosts as Admitter}
use Rattle.caret_notation.proofs.Filters.BeginsAsOneFilter.{through_longer}
use Rattle.caret_notation.proofs.Spans.SpansGrow.{rest_none}
use Rattle.caret_notation.proofs.Streams.TextStays.{revealed_longer}
use Rattle.caret_notation.specs.Fed.{text_by, whole_by}
use Rattle.caret_notation.specs.Revealed.{revealed_as, revealed_whole_as}
use Rattle.caret_notation.specs.Through.{through, through_whole}
use Rattle.caret_notation.specs.declared.marking.Marking.TheVariants as marking
use Rattle.caret_notation.specs.declared.reveal.Rule.{Rule}
use Rattle.eschtml.specs.Joined.{text_without_pairs}
use Rattle.eschtml.specs.Written.{going_in, is_kept, whole_in}

-- if nothing is shown
pub whole_same : (A : Type 0) (b : Bool) (limit : ℕ) (moves : Bool) → b ≡ false → (s : List ℕ)
    → s ≡ whole_in A b limit moves s
whole_same A true limit moves e s = absurd cc
whole_same A false limit moves e s = refl

pub going_same : (A : Type 0) (b : Bool) (limit : ℕ) (moves : Bool) → b ≡ false → (s : List ℕ)
    → s ≡ going_in A b limit moves s
going_same A true limit moves e s = absurd cc
going_same A false limit moves e s = refl

-- if the actions that are left out are shown, by this rule
module _ {P A : Type 0} (V : Admitter P A) (rule : Rule P) (limit : ℕ) (moves : Bool)
    (kept : rule.limit ≡ limit)
    (lines : (rule.by_lines ≡ false) × (rule.marking ≡ marking.Reversed))
    (admits : V.admits rule.policy ≡ is_kept moves) where
  whole_is : (s : List ℕ) → whole_by {A = A} V rule s
      ≡ revealed_whole_as {A = A} marking.Reversed false limit (is_kept moves) s
  whole_is s =
      ap (λ m. revealed_whole_as m rule.by_lines rule.limit (V.admits rule.policy) s) lines.1
      ∙ ap (λ l. revealed_whole_as marking.Reversed rule.by_lines l (V.admits rule.policy) s) kept
      ∙ ap (λ b. revealed_whole_as marking.Reversed b limit (V.admits rule.policy) s) lines.0
      ∙ ap (λ a. revealed_whole_as marking.Reversed false limit a s) admits

  pub whole_shown : (b : Bool) → b ≡ true → (s : List ℕ)
      → text_without_pairs (whole_by {A = A} V rule s) ≡ whole_in A b limit moves s
  whole_shown true e s = ap text_without_pairs (whole_is s)
  whole_shown false e s = absurd cc

  going_is : (s : List ℕ) → text_by {A = A} V rule s
      ≡ revealed_as {A = A} marking.Reversed false limit (is_kept moves) s
  going_is s =
      ap (λ m. revealed_as m rule.by_lines rule.limit (V.admits rule.policy) s) lines.1
      ∙ ap (λ l. revealed_as marking.Reversed rule.by_lines l (V.admits rule.policy) s) kept
      ∙ ap (λ b. revealed_as marking.Reversed b limit (V.admits rule.policy) s) lines.0
      ∙ ap (λ a. revealed_as marking.Reversed false limit a s) admits

  pub going_shown : (b : Bool) → b ≡ true → (s : List ℕ)
      → text_without_pairs (text_by {A = A} V rule s) ≡ going_in A b limit moves s
  going_shown true e s = ap text_without_pairs (going_is s)
  going_shown false e s = absurd cc

-- the text that is revealed of a stream, and then becomes HTML
pub through_adds : {P A : Type 0} (V : Admitter P A) (rule : Rule P) (m e : List ℕ → List ℕ)
    → OnlyAdds m e → OnlyAdds (through V rule m) (through_whole V rule e)
through_adds V rule m e only = record {
  more = λ s b.
      let (x, q) =
      revealed_longer rule.marking rule.limit rule.by_lines (V.admits rule.policy) s b in
      let (t, f) = only.more (text_by V rule s) x in (t, ap m q ∙ f);
  end = through_longer V rule m e only.more only.end;
}

-- ---- characters

-- without DEL each stays
pub all_stay : (A : Type 0) (moves : Bool) (x : List ℕ)
    → ((k : ℕ) → 0 ≤ k → k < length x → is_byte 0x7f (get_or x k 0) ≡ true → ⊥)
    → list_all (λ c. is_kept {A = A} moves (print c)) x ≡ true
all_stay A moves [] h = refl
all_stay A moves (b ∷ x) h =
    rw (false_from_ne_true (is_byte 0x7f b) (h 0 (omega arith) (omega arith)))
    (all_stay A moves x (λ k l m. h (suc k) (omega arith) (omega (arith, m))))

-- ---- nothing

-- nothing becomes nothing
pub nothing_decoded : (e : Encoding) → decoded_stream e [] ≡ []
nothing_decoded Utf8 = refl
nothing_decoded EightBit = refl
nothing_decoded (CodePage p) = refl

-- a filter that has no text for nothing has none for the revealed text of nothing
no_sight_of : (m : List ℕ → List ℕ) (A : Type 0) (shows : Bool) (limit : ℕ) (moves : Bool)
    → m [] ≡ [] → m (going_in A shows limit moves []) ≡ []
no_sight_of m A true limit moves h =
    ap (λ s. m (text_without_pairs s)) (rest_none marking.Reversed limit) ∙ h
no_sight_of m A false limit moves h = h

pub no_sight : (m : List ℕ → List ℕ) (A : Type 0) (e : Encoding) (shows : Bool) (limit : ℕ)
    (moves : Bool) → m [] ≡ [] → m (going_in A shows limit moves (decoded_stream e [])) ≡ []
no_sight m A e shows limit moves h =
    ap (λ s. m (going_in A shows limit moves s)) (nothing_decoded e)
    ∙ no_sight_of m A shows limit moves h
