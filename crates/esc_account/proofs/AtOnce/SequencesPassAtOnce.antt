-- A control sequence that passes is entered at once, and is as if it were judged.
use Rattle.std.proofs.Common.{ℕ, ◌≡◌, ◌+◌, Bool, true, ◌&&◌, None, List, [], ◌∷◌, ◌++◌, length, refl, sym, ap, ◌∙◌, subst, arith}
use Rattle.esc_frame.specs.Segments.{Segment as Shape, HasShape, bytes_of}
use Rattle.esc_frame.specs.Segments.Opener.{Long}
use Rattle.esc_frame.specs.Segments.Segment.{Csi}
use Rattle.esc_frame.proofs.Emits.SequencesSay.{body_in, body_of}
use Rattle.esc_segments.specs.declared.kind.SegmentKind.TheVariants as kinds
use Rattle.esc_account.specs.Accounts.{Rule, entered_as, feeds, step, sums_with, total}
use Rattle.esc_account.specs.Entries.{Entry, ends_string, entry_as, entry_of, noted_entries}
use Rattle.esc_account.specs.Finished.{Finishes}
use Rattle.esc_account.specs.Passing.{IsPassedSequence, passed_as, sequence_passed}
use Rattle.esc_account.specs.declared.account.Account.{Account}
use Rattle.esc_account.specs.declared.fate.Fate.TheVariants as fates
use Rattle.esc_account.proofs.AtOnce.SeenIsFirst.{final_is}
use Rattle.esc_account.proofs.AtOnce.SequencesAreLeftOut.{and_none, body_feeds, no_return, own_fate}
use Rattle.esc_account.proofs.Entries.FinishedAreEntered.{finishes_one}

abbrev shape_of : (r : Rule) (bytes : List ℕ) → IsPassedSequence r bytes → Shape
shape_of r bytes h = Csi (Long []) h.sequence.body h.final

bytes_are : (r : Rule) (bytes : List ℕ) (h : IsPassedSequence r bytes)
    → bytes ≡ 0x1b ∷ 0x5b ∷ (h.sequence.body ++ h.final ∷ [])
bytes_are r bytes h = h.whole ∙ ap (λ v. 0x1b ∷ 0x5b ∷ v) h.sequence.whole

no_feeds : (r : Rule) (bytes : List ℕ) → IsPassedSequence r bytes → feeds bytes ≡ 0
no_feeds r bytes h =
    ap feeds (bytes_are r bytes h)
    ∙ body_feeds h.sequence.body h.final h.sequence.each h.sequence.low

passed_step : (r : Rule) (x : Account) (bytes : List ℕ) (h : IsPassedSequence r bytes)
    → step r x (shape_of r bytes h) true ≡ sequence_passed bytes x
passed_step r x bytes h =
    let same : bytes_of (shape_of r bytes h) ≡ bytes = sym (bytes_are r bytes h) in
    let lines : x.lines + feeds bytes ≡ x.lines = omega (arith, no_feeds r bytes h) in
    ap (entered_as x kinds.Csi (bytes_of (shape_of r bytes h))) (h.passes x.before)
    ∙ ap (λ s. entered_as x kinds.Csi s (passed_as None)) same
    ∙ ap (λ f. record {
      sums = sums_with f (length bytes) x.sums;
      string = None;
      before = None;
      lines = x.lines + feeds bytes;
    }) (own_fate x.string bytes fates.Passed)
    ∙ ap (λ n. record {
      sums = sums_with fates.Passed (length bytes) x.sums;
      string = None;
      before = None;
      lines = n;
    }) lines

abbrev passed_entry : Account → List ℕ → Entry
passed_entry x bytes = record {
  kind = kinds.Csi;
  bytes = bytes;
  finished = true;
  fate = fates.Passed;
  place = total x.sums;
  line = x.lines;
  is_end = ends_string x.string kinds.Csi bytes;
}

passed_is : (r : Rule) (x : Account) (bytes : List ℕ) (h : IsPassedSequence r bytes)
    → entry_of r x (shape_of r bytes h) true ≡ passed_entry x bytes
passed_is r x bytes h =
    let same : bytes_of (shape_of r bytes h) ≡ bytes = sym (bytes_are r bytes h) in
    ap (λ v. entry_as x kinds.Csi (bytes_of (shape_of r bytes h)) true v.fate) (h.passes x.before)
    ∙ ap (λ s. entry_as x kinds.Csi s true fates.Passed) same
    ∙ ap (λ f. record {
      kind = kinds.Csi;
      bytes = bytes;
      finished = true;
      fate = f;
      place = total x.sums;
      line = x.lines;
      is_end = ends_string x.string kinds.Csi bytes;
    }) (own_fate x.string bytes fates.Passed)

pub passed_finishes : (ends : Bool) (r : Rule) (x y : Account) (s p t : List ℕ) → s ≡ p ++ t
    → IsPassedSequence r p → y ≡ sequence_passed p x → Finishes ends r x s t y []
passed_finishes ends r x y s p t e h f =
    let g = shape_of r p h in
    let q = h.sequence in
    let shape : HasShape g t =
    (refl, body_in q.body (body_of q.body q.each), final_is h.final q.low q.high) in
    subst (λ v. Finishes ends r x v t y []) (ap (λ v. v ++ t) (sym (bytes_are r p h)) ∙ sym e)
    (finishes_one ends r x y g t [] shape refl
    (ap (λ d. ends && d) (no_return 0x5b ((q.body ++ h.final ∷ []) ++ t)) ∙ and_none ends)
    (f ∙ sym (passed_step r x p h))
    (sym (ap (λ k. noted_entries (k ∷ [])) (passed_is r x p h))))
