-- A control sequence that is left out is entered at once, and is as if it were judged.
use Rattle.std.proofs.Common.{ℕ, ◌≡◌, ◌+◌, ◌≤◌, Bool, true, false, ◌&&◌, Option, None, Some, List, [], ◌∷◌, ◌++◌, length, refl, sym, ap, ◌∙◌, subst, arith}
use Rattle.std.proofs.lemmas.Bool.{and_parts}
use Rattle.std.proofs.lemmas.Bool.Decides.{nat_tests}
use Rattle.std.specs.List.{list_all}
use Rattle.esc_filter.specs.Lines.{is_line_feed}
use Rattle.esc_frame.specs.Classes.{class_of}
use Rattle.esc_frame.specs.Scans.{is_body_byte}
use Rattle.esc_frame.specs.Segments.{Segment as Shape, HasShape, bytes_of}
use Rattle.esc_frame.specs.Segments.Opener.{Long}
use Rattle.esc_frame.specs.Segments.Segment.{Csi, Escape}
use Rattle.esc_frame.proofs.Emits.SequencesSay.{body_in, body_of}
use Rattle.esc_segments.specs.declared.kind.SegmentKind.TheVariants as kinds
use Rattle.esc_account.specs.Accounts.{Rule, entered_as, fate_after, feeds, is_end, step, sums_with, total}
use Rattle.esc_account.specs.Entries.{ends_string, entry_as, entry_of, noted_entries}
use Rattle.esc_account.specs.Finished.{Finishes}
use Rattle.esc_account.specs.Leaving.{IsLeftOut, LeavesEnds, all_left, left_entry}
use Rattle.esc_account.specs.LineEnds.{is_return_feed}
use Rattle.esc_account.specs.Rules.{left_as}
use Rattle.esc_account.specs.declared.account.Account.{Account}
use Rattle.esc_account.specs.declared.fate.Fate.{Fate}
use Rattle.esc_account.specs.declared.fate.Fate.TheVariants as fates
use Rattle.esc_account.proofs.AtOnce.CommandsAreLeftOut.{end_bytes}
use Rattle.esc_account.proofs.AtOnce.SeenIsFirst.{final_is}
use Rattle.esc_account.proofs.Entries.FinishedAreEntered.{finishes_one}

-- ---- its bytes

body_feed : (b : ℕ) → is_body_byte b ≡ true → is_line_feed b ≡ false
body_feed b h = grind (arith, nat_tests)

final_feed : (b : ℕ) → 0x40 ≤ b → is_line_feed b ≡ false
final_feed b h = grind (arith, nat_tests)

pub body_feeds : (x : List ℕ) (f : ℕ) → list_all is_body_byte x ≡ true → 0x40 ≤ f
    → feeds (x ++ f ∷ []) ≡ 0
body_feeds [] f h low = rw (final_feed f low) refl
body_feeds (b ∷ x) f h low =
    let p = and_parts (is_body_byte b) (list_all is_body_byte x) h in
    rw (body_feed b p.0) (body_feeds x f p.1 low)

abbrev shape_of : (r : Rule) (bytes : List ℕ) → IsLeftOut r bytes → Shape
shape_of r bytes h = Csi (Long []) h.sequence.body h.final

bytes_are : (r : Rule) (bytes : List ℕ) (h : IsLeftOut r bytes)
    → bytes ≡ 0x1b ∷ 0x5b ∷ (h.sequence.body ++ h.final ∷ [])
bytes_are r bytes h = h.whole ∙ ap (λ v. 0x1b ∷ 0x5b ∷ v) h.sequence.whole

no_feeds : (r : Rule) (bytes : List ℕ) → IsLeftOut r bytes → feeds bytes ≡ 0
no_feeds r bytes h =
    ap feeds (bytes_are r bytes h)
    ∙ body_feeds h.sequence.body h.final h.sequence.each h.sequence.low

pub no_return : (c : ℕ) (s : List ℕ) → is_return_feed (0x1b ∷ c ∷ s) ≡ false
no_return c [] = refl
no_return c (b ∷ s) = refl

pub and_none : (t : Bool) → (t && false) ≡ false
and_none true = refl
and_none false = refl

-- ---- it ends no string

pub own_fate : (o : Option Fate) (bytes : List ℕ) (own : Fate)
    → fate_after o kinds.Csi bytes own ≡ own
own_fate None bytes own = refl
own_fate (Some f) bytes own = refl

no_end : (o : Option Fate) (bytes : List ℕ) → ends_string o kinds.Csi bytes ≡ false
no_end None bytes = refl
no_end (Some f) bytes = refl

left_step : (r : Rule) (x : Account) (bytes : List ℕ) (h : IsLeftOut r bytes)
    → step r x (shape_of r bytes h) true ≡ all_left bytes x
left_step r x bytes h =
    let same : bytes_of (shape_of r bytes h) ≡ bytes = sym (bytes_are r bytes h) in
    let lines : x.lines + feeds bytes ≡ x.lines = omega (arith, no_feeds r bytes h) in
    ap (entered_as x kinds.Csi (bytes_of (shape_of r bytes h))) (h.leaves x.before)
    ∙ ap (λ s. entered_as x kinds.Csi s (left_as x.before)) same
    ∙ ap (λ f. record {
      sums = sums_with f (length bytes) x.sums;
      string = None;
      before = x.before;
      lines = x.lines + feeds bytes;
    }) (own_fate x.string bytes fates.LeftOut)
    ∙ ap (λ n. record {
      sums = sums_with fates.LeftOut (length bytes) x.sums;
      string = None;
      before = x.before;
      lines = n;
    }) lines

left_is : (r : Rule) (x : Account) (bytes : List ℕ) (h : IsLeftOut r bytes)
    → entry_of r x (shape_of r bytes h) true ≡ left_entry x bytes
left_is r x bytes h =
    let same : bytes_of (shape_of r bytes h) ≡ bytes = sym (bytes_are r bytes h) in
    ap (λ v. entry_as x kinds.Csi (bytes_of (shape_of r bytes h)) true v.fate) (h.leaves x.before)
    ∙ ap (λ s. entry_as x kinds.Csi s true fates.LeftOut) same
    ∙ ap (λ f. record {
      kind = kinds.Csi;
      bytes = bytes;
      finished = true;
      fate = f;
      place = total x.sums;
      line = x.lines;
      is_end = ends_string x.string kinds.Csi bytes;
    }) (own_fate x.string bytes fates.LeftOut)
    ∙ ap (λ e. record {
      kind = kinds.Csi;
      bytes = bytes;
      finished = true;
      fate = fates.LeftOut;
      place = total x.sums;
      line = x.lines;
      is_end = e;
    }) (no_end x.string bytes)

-- ---- at once

pub left_finishes : (ends : Bool) (r : Rule) (x y : Account) (s p t : List ℕ) → s ≡ p ++ t
    → IsLeftOut r p → y ≡ all_left p x → Finishes ends r x s t y (left_entry x p ∷ [])
left_finishes ends r x y s p t e h f =
    let g = shape_of r p h in
    let q = h.sequence in
    let es = left_entry x p ∷ [] in
    let shape : HasShape g t =
    (refl, body_in q.body (body_of q.body q.each), final_is h.final q.low q.high) in
    subst (λ v. Finishes ends r x v t y es) (ap (λ v. v ++ t) (sym (bytes_are r p h)) ∙ sym e)
    (finishes_one ends r x y g t es shape refl
    (ap (λ d. ends && d) (no_return 0x5b ((q.body ++ h.final ∷ []) ++ t)) ∙ and_none ends)
    (f ∙ sym (left_step r x p h)) (sym (ap (λ k. noted_entries (k ∷ [])) (left_is r x p h))))

-- ---- the end of a string

end_shape : (t : List ℕ) → HasShape (Escape [] 0x5c) t
unfolding class_of
end_shape t = (refl, refl, refl)

pub end_finishes : (ends : Bool) (r : Rule) (x y : Account) (s p t : List ℕ) → s ≡ p ++ t
    → is_end p ≡ true → LeavesEnds r → y ≡ entered_as x kinds.Escape p (left_as x.before)
    → Finishes ends r x s t y
    (noted_entries (entry_as x kinds.Escape p true fates.LeftOut ∷ []))
end_finishes ends r x y s p t e end leaves f =
    let g = Escape [] 0x5c in
    let es = noted_entries (entry_as x kinds.Escape p true fates.LeftOut ∷ []) in
    let same : p ≡ bytes_of g = end_bytes p end in
    let out = sym (leaves x.before) in
    subst (λ v. Finishes ends r x v t y es) (ap (λ v. v ++ t) (sym same) ∙ sym e)
    (finishes_one ends r x y g t es (end_shape t) refl
    (ap (λ d. ends && d) (no_return 0x5c t) ∙ and_none ends)
    (f ∙ ap (λ v. entered_as x kinds.Escape v (left_as x.before)) same
    ∙ ap (entered_as x kinds.Escape (bytes_of g)) out)
    (ap (λ v. noted_entries (entry_as x kinds.Escape v true fates.LeftOut ∷ [])) same
    ∙ ap (λ v. noted_entries (entry_as x kinds.Escape (bytes_of g) true v.fate ∷ [])) out))
