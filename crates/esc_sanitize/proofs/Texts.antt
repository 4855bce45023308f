-- The texts of filters by options.
use Rattle.std.proofs.Common.{ℕ, ◌≡◌, Bool, true, false, List, [], ◌++◌, Option, None, Some, refl, ap, sym, subst, ◌∙◌, append_assoc}
use Rattle.esc_actions.specs.Texts.{list_text, texts_after}
use Rattle.esc_actions.specs.Values.{Value}
use Rattle.esc_decode.specs.Decodings.{OnlyAdds, decoded_stream}
use Rattle.esc_decode.specs.declared.encoding.Encoding.{Encoding}
use Rattle.esc_decode.specs.declared.encoding.Encoding.TheVariants.{CodePage, EightBit, Utf8}
use Rattle.esc_filter.proofs.ByLine.LinesAreStreams.{by_more, closed_longer}
use Rattle.esc_filter.proofs.GivingBack.GivingBackIsWritable.{closed_more}
use Rattle.esc_filter.proofs.Renditions.RenditionsAreResumed.{resumed_longer, resumed_more}
use Rattle.esc_filter.proofs.Output.TextsGrow.{added_as, text_longer_as}
use Rattle.esc_filter.specs.Closing.{closing}
use Rattle.esc_filter.specs.Lines.{closed_by_lines_as, text_by_lines_as}
use Rattle.esc_filter.specs.Openings.{resumed_closed, resumed_text}
use Rattle.esc_filter.specs.Passing.{closed_text_as, passed_as, passed_text_as}
use Rattle.esc_filter.specs.declared.admit.Admit.{Ghosts as Admitter}
use Rattle.esc_filter.specs.declared.guard.Guard.{Guard}
use Rattle.line_collapse.proofs.Streams.{final_after_nil, final_longer}
use Rattle.line_collapse.specs.Streams.{open_of, values_of}
use Rattle.line_collapse.specs.Windows.{Size}
use Rattle.esc_normal.specs.Texts.{ends_in_string}
use Rattle.caret_notation.proofs.Filters.BeginsAsOneFilter.{through_longer}
use Rattle.caret_notation.proofs.Streams.TextStays.{revealed_longer}
use Rattle.caret_notation.specs.Fed.{text_by, whole_by}
use Rattle.caret_notation.specs.Revealed.{revealed_as, revealed_whole_as}
use Rattle.caret_notation.specs.Through.{through, through_whole}
use Rattle.caret_notation.specs.declared.marking.Marking.{Marking}
use Rattle.caret_notation.specs.declared.reveal.Rule.{Rule}
use Rattle.esc_sanitize.specs.Written.{final_text, left_text, revealed_by, revealed_whole_by}
use Rattle.esc_sanitize.specs.declared.options.FilterOptions.{FilterOptions}

-- nothing becomes nothing
pub nothing_decoded : (e : Encoding) → decoded_stream e [] ≡ []
nothing_decoded Utf8 = refl
nothing_decoded EightBit = refl
nothing_decoded (CodePage p) = refl

-- the text that is revealed by this rule is that by the options
module _ {P A : Type 0} (V : Admitter P A) (rule : Rule P) (o : FilterOptions P) (k : Marking)
    (limit : rule.limit ≡ o.limit) (lines : (rule.by_lines ≡ o.by_lines) × (rule.marking ≡ k))
    (policy : rule.policy ≡ o.policy) where
  pub whole_shown : (s : List ℕ) → whole_by {A = A} V rule s ≡ revealed_whole_by V o (Some k) s
  whole_shown s =
      ap (λ m. revealed_whole_as m rule.by_lines rule.limit (V.admits rule.policy) s) lines.1
      ∙ ap (λ l. revealed_whole_as k rule.by_lines l (V.admits rule.policy) s) limit
      ∙ ap (λ b. revealed_whole_as k b o.limit (V.admits rule.policy) s) lines.0
      ∙ ap (λ p. revealed_whole_as k o.by_lines o.limit (V.admits p) s) policy

  pub going_shown : (s : List ℕ) → text_by {A = A} V rule s ≡ revealed_by V o (Some k) s
  going_shown s =
      ap (λ m. revealed_as m rule.by_lines rule.limit (V.admits rule.policy) s) lines.1
      ∙ ap (λ l. revealed_as k rule.by_lines l (V.admits rule.policy) s) limit
      ∙ ap (λ b. revealed_as k b o.limit (V.admits rule.policy) s) lines.0
      ∙ ap (λ p. revealed_as k o.by_lines o.limit (V.admits p) s) policy

-- ---- more of a stream only adds

-- to what is revealed of it, and then filtered
pub through_adds : {P A : Type 0} (V : Admitter P A) (rule : Rule P) (m e : List ℕ → List ℕ)
    → OnlyAdds m e → OnlyAdds (through V rule m) (through_whole V rule e)
through_adds V rule m e only = record {
  more = λ s b.
      let (x, q) =
      revealed_longer rule.marking rule.limit rule.by_lines (V.admits rule.policy) s b in
      let (t, f) = only.more (text_by V rule s) x in (t, ap m q ∙ f);
  end = through_longer V rule m e only.more only.end;
}

-- to the text of a filter
pub whole_adds : {A : Type 0} (u : Guard) (limit : ℕ) (p : Value A → Bool)
    → OnlyAdds (passed_text_as u (Some limit) p) (closed_text_as u (Some limit) p)
whole_adds u limit p = record {
  more = λ s b. (
    texts_after (ends_in_string false (passed_as u (Some limit) p s))
        (added_as u (Some limit) p s b),
    text_longer_as u (Some limit) p s b,
  );
  end = λ s.
      let vs = passed_as u (Some limit) p s in (list_text (closing p vs), closed_more p vs);
}

-- the text of lines only grows
pub lines_add : {A : Type 0} (u : Guard) (limit : ℕ) (p : Value A → Bool)
    → OnlyAdds (text_by_lines_as {A = A} u limit p) (closed_by_lines_as u limit p)
lines_add u limit p = record {
  more = λ s b. by_more u limit p s b;
  end = closed_longer u limit p;
}

-- the text of lines in which renditions go on only grows
pub resumed_add : {A : Type 0} (u : Guard) (limit : ℕ) (p : Value A → Bool)
    → OnlyAdds (resumed_text {A = A} true u limit p) (resumed_closed {A = A} true u limit p)
resumed_add u limit p = record {
  more = λ s b. resumed_more true u limit p s b;
  end = λ s. resumed_longer true u limit p s;
}

-- to what is final of its lines
pub rows_longer : (A : Type 0) (r : Option Size) (u x : List ℕ)
    → (t : List ℕ) × (final_text A r (u ++ x) ≡ final_text A r u ++ t)
rows_longer A None u x = (x, refl)
rows_longer A (Some z) u x = final_longer A z u x

-- and its end to that
pub rows_end : (A : Type 0) (r : Option Size) (u x : List ℕ)
    → (t : List ℕ) × (left_text A r (u ++ x) ≡ final_text A r u ++ t)
rows_end A None u x = (x, refl)
rows_end A (Some z) u x =
    let k = final_longer A z u x in
    let rest = open_of z (values_of A (u ++ x)) in (
      k.0 ++ rest,
      ap (λ y. y ++ rest) k.1 ∙ append_assoc (final_text A (Some z) u) k.0 rest,
    )

-- nothing has no row
pub rows_none : (A : Type 0) (r : Option Size) → final_text A r [] ≡ []
rows_none A None = refl
rows_none A (Some z) = final_after_nil A z (λ x. x) refl

-- ---- parts added to the rest of lines

module _ (A : Type 0) (r : Option Size) (u b : List ℕ) where
  pub all_fed : r ≡ None → final_text A r (u ++ b) ≡ final_text A r u ++ b
  all_fed e = subst (λ k. final_text A k (u ++ b) ≡ final_text A k u ++ b) (sym e) refl

  pub all_ended : r ≡ None → left_text A r (u ++ b) ≡ final_text A r u ++ b
  all_ended e = subst (λ k. left_text A k (u ++ b) ≡ final_text A k u ++ b) (sym e) refl

  pub rows_fed : (z : Size) (t : List ℕ) → r ≡ Some z
      → final_text A (Some z) (u ++ b) ≡ final_text A (Some z) u ++ t
      → final_text A r (u ++ b) ≡ final_text A r u ++ t
  rows_fed z t e h = subst (λ k. final_text A k (u ++ b) ≡ final_text A k u ++ t) (sym e) h

  pub rows_ended : (z : Size) (t : List ℕ) → r ≡ Some z
      → left_text A (Some z) (u ++ b) ≡ final_text A (Some z) u ++ t
      → left_text A r (u ++ b) ≡ final_text A r u ++ t
  rows_ended z t e h = subst (λ k. left_text A k (u ++ b) ≡ final_text A k u ++ t) (sym e) h
