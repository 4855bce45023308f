-- The end of a stream, in the words of an auditor.
use Rattle.std.proofs.Common.{ℕ, ◌≡◌, ◌+◌, ◌-◌, ◌<◌, ◌^◌, min, arith, true, false, if◌then◌else◌, Option, None, Some, is_some, List, [], ◌∷◌, length, refl, sym, ap, ◌∙◌, subst}
use Rattle.esc_account.specs.Accounts.{Rule, total}
use Rattle.esc_account.specs.Judges.{GoesBy}
use Rattle.esc_account.specs.Leaving.{IsLeftOut, LeavesEnds}
use Rattle.esc_account.specs.Ledgers.{IsCounted}
use Rattle.esc_account.specs.Passing.{AllPass, IsPassedSequence, IsPassing, passed_as, says}
use Rattle.esc_account.specs.Rules.{rule_of}
use Rattle.esc_account.specs.Ways.{IsToldBy, Way, by_lines, silent_way, whole_way}
use Rattle.esc_account.specs.declared.account.Account.{Account}
use Rattle.esc_account.specs.declared.sums.Sums.{Sums}
use Rattle.esc_account.specs.declared.book.Book.{Ghosts as Writer}
use Rattle.esc_account.specs.declared.policy_judge.PolicyJudge.{PolicyJudge}
use Rattle.esc_decode.specs.Decodings.{decoded_stream}
use Rattle.esc_filter.specs.declared.admit.Admit.{Ghosts as Admitter}
use Rattle.esc_frame.specs.Segments.{Segment as Shape, bytes_of}
use Rattle.esc_frame.specs.Segments.Opener.{Long}
use Rattle.esc_frame.specs.Segments.Segment.{Csi, Escape}
use Rattle.caret_notation.specs.declared.marking.Marking.{Marking}
use Rattle.esc_sanitize.specs.Audits.{HasNoted, HeardAll, IsAudited, Told, account_of, way_by, way_of}
use Rattle.esc_sanitize.specs.Fates.{shown_as}
use Rattle.esc_sanitize.specs.Judged.{judged_rule, rule_by}
use Rattle.esc_sanitize.specs.Overwritten.{lost_of_stream, sums_with_overwritten, with_overwritten}
use Rattle.esc_sanitize.specs.Written.{passed_of}
use Rattle.esc_sanitize.specs.declared.auditor.Auditor.{Auditor}
use Rattle.esc_sanitize.specs.declared.auditor.Auditor.TheVariants as auditors
use Rattle.esc_sanitize.specs.declared.options.FilterOptions.{FilterOptions}

total_moved : (n : ℕ) (x : Sums) → total x < 2 ^ 64 → total (sums_with_overwritten n x) ≡ total x
total_moved n x few = omega (arith, few)

-- the account with the bytes that are overwritten
told_moved : (y : Account) (w : Way) (s t : List ℕ) (m n : ℕ) → m ≡ n → IsCounted s
    → total y.sums ≡ length s → IsToldBy w s t y → Told w s t n (Some (with_overwritten m y))
told_moved y w s t m n noted few all is = (
  total_moved m y.sums (omega (arith, few, all)) ∙ all,
  (y, ap (λ k. with_overwritten k y) noted, is),
)

pub told : {P B A : Type 0} (V : Admitter P A) (W : Writer B A) (a : Auditor P B A) (w : Way)
    (s t : List ℕ) (n : ℕ) → HeardAll V W a s t → way_of V a ≡ w → HasNoted n a → IsCounted s
    → Told w s t n (account_of a)
told V W auditors.Nobody w s t n heard e noted few = sym e
told V W (auditors.Lines k m) w s t n heard e noted few =
    let h = heard few in
    told_moved k.account w s t m n noted few h.0
    (subst (λ v. IsToldBy v s t k.account) e (h.1.0, h.1.1))
told V W (auditors.Whole k m) w s t n heard e noted few =
    let h = heard few in
    told_moved k.account w s t m n noted few h.0
    (subst (λ v. IsToldBy v s t k.account) e (h.1.0, h.1.1, h.1.2))

pub audited : {P B A : Type 0} (V : Admitter P A) (W : Writer B A) (o : FilterOptions P)
    (a : Auditor P B A) (s : List ℕ)
    → HeardAll V W a (decoded_stream o.encoding s) (passed_of V o s)
    → way_of V a ≡ way_by V o → HasNoted (lost_of_stream V o s) a → IsAudited V W o a s
audited V W o a s heard way noted = record {
  told = told V W a (way_by V o) (decoded_stream o.encoding s) (passed_of V o s)
      (lost_of_stream V o s) heard way noted;
  heard = heard;
  way = way;
}

-- ---- segments that pass at once

all_shown : (m : Option Marking) (r : Rule) (o n : Option ℕ) (gs : List Shape) → AllPass r o gs n
    → AllPass (λ b g f. shown_as m (bytes_of g) (r b g f)) o gs n
all_shown m r o n [] h = h
all_shown m r o n (g ∷ gs) h = (
  h.0,
  ap (shown_as m (bytes_of g)) h.1 ∙ same m (bytes_of g) (says g),
  all_shown m r (says g) n gs h.2,
)
  where
    same : (m : Option Marking) (x : List ℕ) (o : Option ℕ)
        → shown_as m x (passed_as o) ≡ passed_as o
    same None x o = refl
    same (Some k) x o = refl

-- it passes also where what does not pass is shown
pub shown_pass : (m : Option Marking) (r : Rule) (o n : Option ℕ) (x : List ℕ)
    → IsPassing r o x n → IsPassing (λ b g f. shown_as m (bytes_of g) (r b g f)) o x n
shown_pass m r o n x h = (h.0, h.1, all_shown m r o n h.0 h.2)

-- bytes that are left out are so if nothing is shown
pub shown_left : (m : Option Marking) (r : Rule) (x : List ℕ) → is_some m ≡ false
    → IsLeftOut r x → IsLeftOut (λ b g f. shown_as m (bytes_of g) (r b g f)) x
shown_left None r x none h = record {
  rest = h.rest;
  final = h.final;
  whole = h.whole;
  sequence = h.sequence;
  leaves = λ b.
      ap (shown_as None (bytes_of (Csi (Long []) h.sequence.body h.final))) (h.leaves b);
}
shown_left (Some k) r x none h = absurd cc

-- the end of a string too
pub shown_ends : (m : Option Marking) (r : Rule) → is_some m ≡ false → LeavesEnds r
    → LeavesEnds (λ b g f. shown_as m (bytes_of g) (r b g f))
shown_ends None r none h = λ b. ap (shown_as None (bytes_of (Escape [] 0x5c))) (h b)
shown_ends (Some k) r none h = absurd cc

-- a sequence that passes does so whatever is shown
pub shown_passed : (m : Option Marking) (r : Rule) (x : List ℕ) → IsPassedSequence r x
    → IsPassedSequence (λ b g f. shown_as m (bytes_of g) (r b g f)) x
shown_passed m r x h = record {
  rest = h.rest;
  final = h.final;
  whole = h.whole;
  sequence = h.sequence;
  passes = λ b.
      ap (shown_as m (bytes_of (Csi (Long []) h.sequence.body h.final))) (h.passes b)
      ∙ same m (bytes_of (Csi (Long []) h.sequence.body h.final));
}
  where
    same : (m : Option Marking) (s : List ℕ) → shown_as m s (passed_as None) ≡ passed_as None
    same None s = refl
    same (Some k) s = refl

-- ---- the options

pub judged_is : {P A : Type 0} (V : Admitter P A) (p : PolicyJudge P A) (m : Option Marking)
    (o : FilterOptions P) → GoesBy p o.by_lines o.guard o.limit o.policy → m ≡ o.show
    → judged_rule V (record { policy = p; show = m }) ≡ rule_by V o
judged_is V p m o (l, u, n, q) e =
    ap (λ k. judged_rule V (record { policy = p; show = k })) e
    ∙ ap (λ b. λ x g f. shown_as o.show (bytes_of g) (rule_of b p.guard p.limit
    (V.admits p.policy) x g f)) l
    ∙ ap (λ v. λ x g f. shown_as o.show (bytes_of g) (rule_of o.by_lines v p.limit
    (V.admits p.policy) x g f)) u
    ∙ ap (λ k. λ x g f. shown_as o.show (bytes_of g) (rule_of o.by_lines o.guard k
    (V.admits p.policy) x g f)) n
    ∙ ap (λ c. λ x g f. shown_as o.show (bytes_of g) (rule_of o.by_lines o.guard o.limit
    (V.admits c) x g f)) q

module _ {P A : Type 0} (V : Admitter P A) (o : FilterOptions P) where
  pub way_none : o.audits ≡ false → silent_way ≡ way_by V o
  way_none e =
      ap (λ t. if t then (if o.by_lines then by_lines (rule_by V o) else whole_way (rule_by V o))
      else silent_way) (sym e)

  some_way : o.audits ≡ true
      → (if o.by_lines then by_lines (rule_by V o) else whole_way (rule_by V o)) ≡ way_by V o
  some_way e =
      ap (λ t. if t then (if o.by_lines then by_lines (rule_by V o) else whole_way (rule_by V o))
      else silent_way) (sym e)

  pub way_lines : (r : Rule) → o.audits ≡ true → o.by_lines ≡ true → r ≡ rule_by V o
      → by_lines r ≡ way_by V o
  way_lines r e l same =
      ap by_lines same
      ∙ ap (λ t. if t then by_lines (rule_by V o) else whole_way (rule_by V o)) (sym l) ∙ some_way e

  pub way_whole : (r : Rule) → o.audits ≡ true → o.by_lines ≡ false → r ≡ rule_by V o
      → whole_way r ≡ way_by V o
  way_whole r e l same =
      ap whole_way same
      ∙ ap (λ t. if t then by_lines (rule_by V o) else whole_way (rule_by V o)) (sym l) ∙ some_way e
