-- The sums of an account are those of its entries.
use Rattle.std.proofs.Common.{ℕ, ◌≡◌, ◌≢◌, ◌+◌, Bool, true, false, not, ◌&&◌, if◌then◌else◌, List, [], ◌∷◌, ◌++◌, length, bytes_eq, refl, sym, ap, ◌∙◌, arith}
use Rattle.std.proofs.lemmas.Slice.Eq.{bytes_eq-Decides}
use Rattle.esc_frame.specs.Segments.{Segment as Shape, is_finished, joined_bytes}
use Rattle.esc_account.specs.Accounts.{Rule, sums_with, all_passed, begun, count_of, line_begun, run, step}
use Rattle.esc_account.specs.Entries.{Entry, bytes_with, entries, entry_of, is_passed, noted_entries, part}
use Rattle.esc_account.specs.Ledgers.{IsLineAccount, LineRuns, LinesRun, first, others}
use Rattle.esc_account.specs.LineEnds.{ends_so, is_return_feed, line_entries, run_line}
use Rattle.esc_account.specs.declared.account.Account.{Account}
use Rattle.esc_account.specs.declared.fate.Fate.{Fate}
use Rattle.esc_account.specs.declared.fate.Fate.TheVariants as fates
use Rattle.esc_account.specs.declared.sums.Sums.{Sums}
use Rattle.esc_account.proofs.Entries.LedgerIsGiven.{HasCut, noted_more}

count_added : (f g : Fate) (n : ℕ) (x : Sums)
    → count_of f (sums_with g n x) ≡ count_of f x + part f g n
count_added fates.Passed fates.Passed n x = refl
count_added fates.Passed _ n x = omega arith
count_added fates.Respelled fates.Respelled n x = refl
count_added fates.Respelled _ n x = omega arith
count_added fates.Shown fates.Shown n x = refl
count_added fates.Shown _ n x = omega arith
count_added fates.Replaced fates.Replaced n x = refl
count_added fates.Replaced _ n x = omega arith
count_added fates.LeftOut fates.LeftOut n x = refl
count_added fates.LeftOut _ n x = omega arith
count_added fates.Swallowed fates.Swallowed n x = refl
count_added fates.Swallowed _ n x = omega arith
count_added fates.Overwritten fates.Overwritten n x = refl
count_added fates.Overwritten _ n x = omega arith

pub bytes_both : (f : Fate) (es fs : List Entry)
    → bytes_with f (es ++ fs) ≡ bytes_with f es + bytes_with f fs
bytes_both f [] fs = omega arith
bytes_both f (e ∷ es) fs = omega (arith, bytes_both f es fs)

module _ (f : Fate) (other : is_passed f ≡ false) where
  abbrev of : Entry → ℕ
  of e = part f e.fate (length e.bytes)

  not_passed : (n : ℕ) → part f fates.Passed n ≡ 0
  not_passed n = by f other
    where
      by : (g : Fate) → is_passed g ≡ false → part g fates.Passed n ≡ 0
      by fates.Passed h = absurd cc
      by _ h = refl

  alone : (n : ℕ) → n + 0 ≡ n
  alone n = omega arith

  -- one entry
  one_noted : (e : Entry) → bytes_with f (noted_entries (e ∷ [])) ≡ of e
  one_noted e = by e.fate refl
    where
      by : (g : Fate) → e.fate ≡ g
          → bytes_with f (if not (is_passed g) then e ∷ [] else []) ≡ of e
      by fates.Passed h =
          sym (not_passed (length e.bytes)) ∙ ap (λ g. part f g (length e.bytes)) (sym h)
      by _ h = alone (of e)

  added_to : (x y : Sums) (e : Entry) (es : List Entry) (n : ℕ)
      → y ≡ sums_with e.fate (length e.bytes) x → n ≡ count_of f y + bytes_with f (noted_entries es)
      → n ≡ count_of f x + bytes_with f (noted_entries (e ∷ es))
  added_to x y e es n is h =
      omega (
        arith,
        h,
        ap (count_of f) is,
        count_added f e.fate (length e.bytes) x,
        ap (bytes_with f) (noted_more e es),
        bytes_both f (noted_entries (e ∷ [])) (noted_entries es),
        one_noted e,
      )

  passed_adds : (x : Account) (s : List ℕ)
      → count_of f (all_passed s x).sums ≡ count_of f x.sums + 0
  passed_adds x s =
      omega (arith, count_added f fates.Passed (length s) x.sums, not_passed (length s))

  -- ---- segments, one after another

  pub run_adds : (r : Rule) (x : Account) (gs : List Shape)
      → count_of f (run r x gs).sums ≡ count_of f x.sums
      + bytes_with f (noted_entries (entries r x gs))
  run_adds r x [] = omega arith
  run_adds r x (g ∷ gs) =
      let y = step r x g (is_finished g (joined_bytes gs)) in
      added_to x.sums y.sums (entry_of r x g (is_finished g (joined_bytes gs))) (entries r y gs)
      (count_of f (run r y gs).sums) refl (run_adds r y gs)

  pub line_adds : (ends : Bool) (r : Rule) (x : Account) (gs : List Shape)
      → count_of f (run_line ends r x gs).sums
      ≡ count_of f x.sums + bytes_with f (noted_entries (line_entries ends r x gs))
  line_adds ends r x [] = omega arith
  line_adds ends r x (g ∷ gs) =
      let y = step r x g (is_finished g (joined_bytes gs)) in
      let e = entry_of r x g (is_finished g (joined_bytes gs)) in
      by (ends && is_return_feed (joined_bytes (g ∷ gs)))
      (added_to x.sums y.sums e (line_entries ends r y gs)
      (count_of f (run_line ends r y gs).sums) refl (line_adds ends r y gs))
    where
      by : (t : Bool)
          → (count_of f (run_line ends r (step r x g (is_finished g (joined_bytes gs))) gs).sums
          ≡ count_of f x.sums + bytes_with f
          (noted_entries (entry_of r x g (is_finished g (joined_bytes gs))
          ∷ line_entries ends r (step r x g (is_finished g (joined_bytes gs))) gs)))
          → count_of f (if t then all_passed (joined_bytes (g ∷ gs)) x
          else run_line ends r (step r x g (is_finished g (joined_bytes gs))) gs).sums
          ≡ count_of f x.sums + bytes_with f (noted_entries (if t then [] else
          entry_of r x g (is_finished g (joined_bytes gs))
          ∷ line_entries ends r (step r x g (is_finished g (joined_bytes gs))) gs))
      by true h = passed_adds x (joined_bytes (g ∷ gs))
      by false h = h

  -- ---- lines, one after another

  apart : (t : Bool) → t ≡ true → t ≡ false → ⊥
  apart true h k = cc
  apart false h k = cc

  one_line : HasCut → (r : Rule) (x y : Account) (l w : List ℕ) (es : List Entry)
      → LineRuns r x l w y es → count_of f y.sums ≡ count_of f x.sums + bytes_with f es
  one_line has r x y l w es run = by (bytes_eq w l) refl
    where
      by : (t : Bool) → bytes_eq w l ≡ t
          → count_of f y.sums ≡ count_of f x.sums + bytes_with f es
      by true h =
          let same : w ≡ l = (bytes_eq-Decides w l).0 h in
          ap (λ z. count_of f z.sums) (run.0.same same) ∙ passed_adds x l
          ∙ ap (λ z. count_of f x.sums + bytes_with f z) (sym (run.1.same same))
      by false h =
          let differ : w ≢ l =
          λ e. apart (bytes_eq w l) ((bytes_eq-Decides w l).1 e) h in
          let cut = has l in
          ap (λ z. count_of f z.sums) (run.0.other differ cut.0 cut.1)
          ∙ line_adds (ends_so w) r (line_begun x) cut.0
          ∙ ap (λ z. count_of f x.sums + bytes_with f z) (sym (run.1.other differ cut.0 cut.1))

  lines_add : HasCut → (r : Rule) (x y : Account) (ls ts : List (List ℕ)) (es : List Entry)
      → LinesRun r x ls ts y es → count_of f y.sums ≡ count_of f x.sums + bytes_with f es
  lines_add has r x y [] ts es (a, b) =
      omega (arith, ap (λ z. count_of f z.sums) a, ap (bytes_with f) b)
  lines_add has r x y (l ∷ ls) ts es (z, fs, gs, one, more, is) =
      omega (
        arith,
        one_line has r x z l (first ts) fs one,
        lines_add has r z y ls (others ts) gs more,
        ap (bytes_with f) is,
        bytes_both f fs gs,
      )

  pub stream_adds : HasCut → (r : Rule) (s t : List ℕ) (x : Account) (es : List Entry)
      → IsLineAccount r s t x es → count_of f x.sums ≡ bytes_with f es
  stream_adds has r s t x es run =
      lines_add has r begun x _ _ es run ∙ nothing_before f (bytes_with f es)
    where
      nothing_before : (f : Fate) (n : ℕ) → count_of f begun.sums + n ≡ n
      nothing_before fates.Passed n = omega arith
      nothing_before _ n = omega arith

  pub whole_adds : (r : Rule) (gs : List Shape)
      → count_of f (run r begun gs).sums ≡ bytes_with f (noted_entries (entries r begun gs))
  whole_adds r gs =
      run_adds r begun gs ∙ nothing_before f (bytes_with f (noted_entries (entries r begun gs)))
    where
      nothing_before : (f : Fate) (n : ℕ) → count_of f begun.sums + n ≡ n
      nothing_before fates.Passed n = omega arith
      nothing_before _ n = omega arith
