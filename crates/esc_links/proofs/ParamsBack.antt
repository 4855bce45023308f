-- Parameters that were read read back from their text.
use Rattle.std.proofs.Common.{ℕ, ◌≡◌, ◌≢◌, List, [], ◌∷◌, ◌++◌, map, Option, Some, None, lit<, refl, ap, sym, ◌∙◌, subst}
use Rattle.std.specs.declared.cmp.Ordering.{Ordering}
use Rattle.std.specs.declared.cmp.Ordering.TheVariants.{Less, Equal, Greater}
use Rattle.std.specs.Cmp.Lexicographic.{slice_cmp}
use Rattle.std.specs.List.{slice_split, flat_map}
use Rattle.std.specs.Option.{option_map}
use Rattle.std.specs.Ordering.{nat_cmp}
use Rattle.std.proofs.lemmas.List.{append-nil}
use Rattle.esc_values.specs.Clear.{is_part_char, IsClearPart}
use Rattle.esc_values.specs.Cuts.{Pairs, key_and_value, pairs_in, pair_text}
use Rattle.esc_links.specs.Hyperlinks.{pairs_with, put_all, is_colon, params_of, params_text}
use Rattle.esc_values.specs.Scalars.{and_then}
use Rattle.esc_values.proofs.Clear.ClearPairs.{IsClearPair, key_keeps, key_clear, key_back}
use Rattle.esc_values.proofs.Clear.ClearTexts.{part_append}
use Rattle.esc_values.proofs.Clear.CutAtCharacter.{Free, BothFree, free_more, free_append, cut_keeps, split_free, IsStretch, AreStretchs, SplitsAt, splits}
use Rattle.esc_links.proofs.PairsOrder.{AreOrdered, all_ordered, all_put_some, all_back}
use Rattle.esc_links.proofs.PairsRead.{params_some}
use Rattle.esc_values.proofs.Clear.PlainPartsAreClear.{plain_part}
use Rattle.esc_values.proofs.Numbers.FactsIfSome.{Where, where_map, where_then, where_both}

-- a key and a value that can be written: clear parts without `:`, and the key without `=`
abbrev pub IsGood : List ℕ × List ℕ → Type 0
IsGood e = IsClearPair e × BothFree 0x3a e

abbrev pub AreGood : Pairs → Type 0
AreGood [] = Unit {0}
AreGood (e ∷ es) = IsGood e × AreGood es

-- a stretch that is read is good
good_stretch : (t : List ℕ) → IsStretch 0x3a t → Where IsGood (key_and_value t)
good_stretch t h = where_both IsClearPair (BothFree 0x3a) (key_and_value t) (key_clear t h.0)
    (key_keeps (BothFree 0x3a) t (cut_keeps 0x3a 0x3d t h.1))

good_pairs : (ts : List (List ℕ)) → AreStretchs 0x3a ts → Where AreGood (pairs_in ts)
good_pairs [] h = tt
good_pairs (t ∷ ts) h =
    where_then IsGood AreGood (λ e. option_map (λ es. e ∷ es) (pairs_in ts))
    (λ e good. where_map AreGood AreGood (λ es. e ∷ es) (λ es more. (good, more)) (pairs_in ts)
    (good_pairs ts h.1))
    (key_and_value t) (good_stretch t h.0)

some_pairs : (t : List ℕ) (ts : List (List ℕ)) → Where (λ qs. (q : List ℕ × List ℕ) × (more : Pairs)
    × (qs ≡ q ∷ more)) (pairs_in (t ∷ ts))
some_pairs t ts = by (key_and_value t) (pairs_in ts)
  where
    by : (o : Option (List ℕ × List ℕ)) (m : Option Pairs)
        → Where (λ qs. (q : List ℕ × List ℕ) × (more : Pairs)
        × (qs ≡ q ∷ more)) (and_then o (λ e. option_map (λ es. e ∷ es) m))
    by None m = tt
    by (Some q) None = tt
    by (Some q) (Some more) = (q, more, refl)

-- putting a good pair keeps all good
put_good : (k v : List ℕ) (es : Pairs) → IsGood (k, v) → AreGood es → AreGood (pairs_with k v es)
put_good k v [] h all = (h, tt)
put_good k v (e ∷ es) h all = by (slice_cmp nat_cmp k e.0) refl (put_good k v es h all.1)
  where
    by : (o : Ordering) → slice_cmp nat_cmp k e.0 ≡ o → AreGood (pairs_with k v es)
        → AreGood (pairs_with k v (e ∷ es))
    by Less is rest = rw is (h, all)
    by Equal is rest = rw is ((((all.0.0.0.0, h.0.0.1), all.0.0.1), (all.0.1.0, h.1.1)), all.1)
    by Greater is rest = rw is (all.0, rest)

all_good : (es qs : Pairs) → AreGood es → AreGood qs → AreGood (put_all es qs)
all_good es [] h k = h
all_good es (q ∷ qs) h k = all_good (pairs_with q.0 q.1 es) qs (put_good q.0 q.1 es k.0 h) k.1

-- parameters that can be written: good, in order, and some
abbrev pub AreReadable : Pairs → Type 0
AreReadable es = AreGood es × AreOrdered es × (es ≢ [])

readable_pairs : (t : List ℕ) (ts : List (List ℕ)) → AreStretchs 0x3a (t ∷ ts)
    → Where AreReadable (option_map (λ qs. put_all [] qs) (pairs_in (t ∷ ts)))
readable_pairs t ts h =
    where_map (λ qs. AreGood qs × ((q : List ℕ × List ℕ) × (more : Pairs) × (qs ≡ q ∷ more)))
    AreReadable (λ qs. put_all [] qs)
    (λ qs k. (
      all_good [] qs tt k.0,
      all_ordered [] qs tt,
      let P : Pairs
          → Type 0 = λ xs. put_all [] xs ≢ [] in subst P (sym k.1.2) (all_put_some k.1.0 k.1.1),
    ))
    (pairs_in (t ∷ ts))
    (where_both AreGood (λ qs. (q : List ℕ × List ℕ) × (more : Pairs)
    × (qs ≡ q ∷ more)) (pairs_in (t ∷ ts)) (good_pairs (t ∷ ts) h) (some_pairs t ts))

-- parameters that are read from a clear part, not empty, can be written
readable_split : (t : List ℕ) → SplitsAt 0x3a t
    → Where AreReadable (option_map (λ qs. put_all [] qs) (pairs_in (slice_split is_colon t)))
readable_split t (p, ps, is, one, more) =
    let P : List (List ℕ) → Type 0 =
    λ ts. Where AreReadable (option_map (λ qs. put_all [] qs) (pairs_in ts)) in
    subst P (sym is) (readable_pairs p ps (one, more))

pub readable : (b : ℕ) (t : List ℕ) → IsClearPart (b ∷ t) → Where AreReadable (params_of (b ∷ t))
readable b t h =
    readable_split (b ∷ t) (splits is_part_char 0x3a (b ∷ t) (lit< tt) (λ c ok other. ok) h)

-- the text of good pairs
pair_free : (e : List ℕ × List ℕ) → IsGood e → Free 0x3a (pair_text e)
pair_free e h = free_append 0x3a e.0 (0x3d ∷ e.1) h.1.0 (free_more 0x3a 0x3d e.1 refl h.1.1)

pair_clear : (e : List ℕ × List ℕ) → IsGood e → IsClearPart (pair_text e)
pair_clear e h =
    part_append e.0 (0x3d ∷ e.1) h.0.0.0 (part_append (0x3d ∷ []) e.1 (plain_part (0x3d ∷ []) refl)
    h.0.0.1)

more_clear : (es : Pairs) → AreGood es → IsClearPart (flat_map (λ d. 0x3a ∷ pair_text d) es)
more_clear [] h = ([], refl, refl)
more_clear (e ∷ es) h =
    part_append (0x3a ∷ pair_text e) (flat_map (λ d. 0x3a ∷ pair_text d) es)
    (part_append (0x3a ∷ []) (pair_text e) (plain_part (0x3a ∷ []) refl) (pair_clear e h.0))
    (more_clear es h.1)

pub params_clear : (es : Pairs) → AreGood es → IsClearPart (params_text es)
params_clear [] h = ([], refl, refl)
params_clear (e ∷ es) h = part_append (pair_text e) (flat_map (λ d. 0x3a ∷ pair_text d) es)
    (pair_clear e h.0) (more_clear es h.1)

-- it splits into the pairs' texts
split_pairs : (e : List ℕ × List ℕ) (es : Pairs) → AreGood (e ∷ es)
    → slice_split is_colon (params_text (e ∷ es)) ≡ map pair_text (e ∷ es)
split_pairs e [] h = split_free 0x3a (pair_text e) [] [] [] (pair_free e h.0) refl
    ∙ ap (λ t. t ∷ []) (append-nil (pair_text e))
split_pairs e (d ∷ es) h =
    split_free 0x3a (pair_text e) (0x3a ∷ params_text (d ∷ es)) []
    (slice_split is_colon (params_text (d ∷ es))) (pair_free e h.0) refl
    ∙ ap (λ t. t ∷ slice_split is_colon (params_text (d ∷ es))) (append-nil (pair_text e))
    ∙ ap (λ ts. pair_text e ∷ ts) (split_pairs d es h.1)

pairs_back : (es : Pairs) → AreGood es → pairs_in (map pair_text es) ≡ Some es
pairs_back [] h = refl
pairs_back (e ∷ es) h = rw (key_back e.0 e.1 h.0.0.0.0 h.0.0.1 h.0.0.0.1, pairs_back es h.1) refl

pair_text_some : (e : List ℕ × List ℕ) (r : List ℕ) → pair_text e ++ r ≢ []
pair_text_some (([], v)) r e = cc
pair_text_some ((b ∷ k, v)) r e = cc

pub params_text_some : (es : Pairs) → es ≢ [] → params_text es ≢ []
params_text_some [] h = absurd (h refl)
params_text_some (e ∷ es) h = pair_text_some e (flat_map (λ d. 0x3a ∷ pair_text d) es)

pub params_back : (es : Pairs) → AreReadable es → params_of (params_text es) ≡ Some es
params_back [] h = absurd (h.2 refl)
params_back (e ∷ es) h =
    params_some (params_text (e ∷ es)) (params_text_some (e ∷ es) h.2)
    ∙ rw (split_pairs e es h.0, pairs_back (e ∷ es) h.0) (ap Some (all_back (e ∷ es) h.1))
