-- Runs of bytes that pass a test.
use Rattle.std.proofs.Common.{ℕ, suc, ◌≡◌, ◌+◌, ◌<◌, Bool, true, false, cond, if◌then◌else◌, List, [], ◌∷◌, ◌++◌, length, take, drop, get_or}
use Rattle.std.proofs.Common.{refl, ap, sym, ◌∙◌, subst, take-append-drop, arith}
use Rattle.std.specs.List.{prefix_len}
use Rattle.std.proofs.lemmas.List.{drop_more, drop_all}
use Rattle.std.proofs.lemmas.List.Folds.{length-prefix_len}
use Rattle.std.proofs.lemmas.List.Sums.{prefix_len-le-length, prefix_len-drop_yes, prefix_len-drop_no, prefix_len-drop_all, prefix_len_stops}
use Rattle.esc_frame.specs.declared.classes.Class.{Class}
use Rattle.esc_frame.specs.Classes.{class_of, AllOf}

-- the lemmas for a loop that looks for the end of a run
pub ruleset runs =
    (prefix_len-le-length, prefix_len-drop_yes, prefix_len-drop_no, prefix_len-drop_all)

-- the longest prefix of a class, and the bytes after it
abbrev pub prefix : (Class → Bool) → List ℕ → List ℕ
prefix test [] = []
prefix test (b ∷ s) = if test (class_of b) then b ∷ prefix test s else []

abbrev pub rest : (Class → Bool) → List ℕ → List ℕ
rest test [] = []
rest test (b ∷ s) = if test (class_of b) then rest test s else b ∷ s

abbrev in_class : (Class → Bool) → ℕ → Bool
in_class test = λ b. test (class_of b)

take_by : (test : Class → Bool) (b : ℕ) (s : List ℕ) (n : ℕ) (t : Bool) → take n s ≡ prefix test s
    → take (cond t (1 + n) 0) (b ∷ s) ≡ (if t then b ∷ prefix test s else [])
take_by test b s n true h = let one : 1 + n ≡ suc n = omega arith in
    ap (λ k. take k (b ∷ s)) one ∙ ap (λ y. b ∷ y) h
take_by test b s n false h = refl

drop_by : (test : Class → Bool) (b : ℕ) (s : List ℕ) (n : ℕ) (t : Bool) → drop n s ≡ rest test s
    → drop (cond t (1 + n) 0) (b ∷ s) ≡ (if t then rest test s else b ∷ s)
drop_by test b s n true h = let one : 1 + n ≡ suc n = omega arith in
    ap (λ k. drop k (b ∷ s)) one ∙ h
drop_by test b s n false h = refl

take_prefix : (test : Class → Bool) (s : List ℕ)
    → take (prefix_len (in_class test) s) s ≡ prefix test s
take_prefix test [] = refl
take_prefix test (b ∷ s) =
    take_by test b s (prefix_len (in_class test) s) (test (class_of b)) (take_prefix test s)

drop_prefix : (test : Class → Bool) (s : List ℕ)
    → drop (prefix_len (in_class test) s) s ≡ rest test s
drop_prefix test [] = refl
drop_prefix test (b ∷ s) =
    drop_by test b s (prefix_len (in_class test) s) (test (class_of b)) (drop_prefix test s)

all_by : (test : Class → Bool) (b : ℕ) (s : List ℕ) (t : Bool) → test (class_of b) ≡ t
    → AllOf test (prefix test s)
    → AllOf test (if t then b ∷ prefix test s else [])
all_by test b s true e h = rw e h
all_by test b s false e h = refl

all_prefix : (test : Class → Bool) (s : List ℕ) → AllOf test (prefix test s)
all_prefix test [] = refl
all_prefix test (b ∷ s) = all_by test b s (test (class_of b)) refl (all_prefix test s)

-- the bytes, split at the end of the run
pub record Split (test : Class → Bool) (s : List ℕ) (n : ℕ) : Type 0 where
  pub parts : s ≡ take n s ++ drop n s
  pub passes : AllOf test (take n s)
  pub len : n ≡ length (take n s)
  pub takes : take n s ≡ prefix test s
  pub drops : drop n s ≡ rest test s

pub split : (test : Class → Bool) (s : List ℕ) (n : ℕ) → n ≡ prefix_len (in_class test) s
    → Split test s n
split test s n e = record {
  parts = sym (take-append-drop n s);
  passes = subst (λ x. AllOf test x) (sym (ap (λ k. take k s) e ∙ take_prefix test s))
      (all_prefix test s);
  len = subst (λ k. k ≡ length (take k s)) (sym e) (sym (length-prefix_len (in_class test) s));
  takes = ap (λ k. take k s) e ∙ take_prefix test s;
  drops = ap (λ k. drop k s) e ∙ drop_prefix test s;
}

-- if it ends with the bytes, and before them
pub at_end : (s : List ℕ) (n : ℕ) → n ≡ length s → drop n s ≡ []
at_end s n e = drop_all n s (omega arith)

pub next : (s : List ℕ) (n : ℕ) → n < length s → drop n s ≡ get_or s n 0 ∷ drop (n + 1) s
next s n h = drop_more s n 0 h

pub stops : (test : Class → Bool) (s : List ℕ) (n : ℕ) → n ≡ prefix_len (in_class test) s
    → n < length s → test (class_of (get_or s n 0)) ≡ false
stops test s n e h =
    subst (λ k. test (class_of (get_or s k 0)) ≡ false) (sym e)
    (prefix_len_stops (in_class test) s 0 (subst (λ k. k < length s) e h))
