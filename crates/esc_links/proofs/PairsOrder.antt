-- Pairs stand in the order of their keys: putting keeps the order, and putting in pairs in order
-- gives these pairs.
use Rattle.std.proofs.Common.{ℕ, ◌≡◌, ◌≢◌, List, [], ◌∷◌, ◌++◌, refl, ap, sym, ◌∙◌, append_assoc}
use Rattle.std.specs.Cmp.Lexicographic.{slice_cmp, nat_list_cmp_total}
use Rattle.std.specs.declared.cmp.Ordering.{Ordering}
use Rattle.std.specs.declared.cmp.Ordering.TheVariants.{Less, Equal, Greater}
use Rattle.std.specs.Ordering.{nat_cmp, ordering_reverse}
use Rattle.std.proofs.lemmas.List.{append-nil}
use Rattle.esc_values.specs.Cuts.{Pairs}
use Rattle.esc_links.specs.Hyperlinks.{pairs_with, put_all}

-- one key is below another
abbrev pub Below : List ℕ → List ℕ → Type 0
Below j k = slice_cmp nat_cmp j k ≡ Less

-- a key is below the keys of all pairs
abbrev pub BelowAll : List ℕ → Pairs → Type 0
BelowAll j [] = Unit {0}
BelowAll j (e ∷ es) = Below j e.0 × BelowAll j es

-- each key is below those after it
abbrev pub AreOrdered : Pairs → Type 0
AreOrdered [] = Unit {0}
AreOrdered (e ∷ es) = BelowAll e.0 es × AreOrdered es

-- each key of the first is below all of the second
abbrev AreBelow : Pairs → Pairs → Type 0
AreBelow [] es = Unit {0}
AreBelow (d ∷ ds) es = BelowAll d.0 es × AreBelow ds es

below_trans : (j k : List ℕ) (es : Pairs) → Below j k → BelowAll k es → BelowAll j es
below_trans j k [] h all = tt
below_trans j k (e ∷ es) h all =
    (nat_list_cmp_total.trans j k e.0 h all.0, below_trans j k es h all.1)

turned : (j k : List ℕ) → slice_cmp nat_cmp j k ≡ Greater → Below k j
turned j k e = nat_list_cmp_total.antisymm k j ∙ ap ordering_reverse e

greater : (j k : List ℕ) → Below j k → slice_cmp nat_cmp k j ≡ Greater
greater j k e = nat_list_cmp_total.antisymm k j ∙ ap ordering_reverse e

put_below : (j k v : List ℕ) (es : Pairs) → Below j k → BelowAll j es
    → BelowAll j (pairs_with k v es)
put_below j k v [] h all = (h, tt)
put_below j k v (e ∷ es) h all = by (slice_cmp nat_cmp k e.0) refl (put_below j k v es h all.1)
  where
    by : (o : Ordering) → slice_cmp nat_cmp k e.0 ≡ o → BelowAll j (pairs_with k v es)
        → BelowAll j (pairs_with k v (e ∷ es))
    by Less is rest = rw is (h, all)
    by Equal is rest = rw is all
    by Greater is rest = rw is (all.0, rest)

pub put_ordered : (k v : List ℕ) (es : Pairs) → AreOrdered es → AreOrdered (pairs_with k v es)
put_ordered k v [] h = (tt, tt)
put_ordered k v (e ∷ es) h = by (slice_cmp nat_cmp k e.0) refl (put_ordered k v es h.1)
  where
    by : (o : Ordering) → slice_cmp nat_cmp k e.0 ≡ o → AreOrdered (pairs_with k v es)
        → AreOrdered (pairs_with k v (e ∷ es))
    by Less is rest = rw is ((is, below_trans k e.0 es is h.0), h)
    by Equal is rest = rw is h
    by Greater is rest = rw is (put_below e.0 k v es (turned k e.0 is) h.0, rest)

pub all_ordered : (es qs : Pairs) → AreOrdered es → AreOrdered (put_all es qs)
all_ordered es [] h = h
all_ordered es (q ∷ qs) h = all_ordered (pairs_with q.0 q.1 es) qs (put_ordered q.0 q.1 es h)

-- a pair that was put is there
some_cons : (e : List ℕ × List ℕ) (es : Pairs) → e ∷ es ≢ []
some_cons e es h = cc

put_some : (k v : List ℕ) (es : Pairs) → pairs_with k v es ≢ []
put_some k v [] = some_cons (k, v) []
put_some k v (e ∷ es) = by (slice_cmp nat_cmp k e.0) refl
  where
    by : (o : Ordering) → slice_cmp nat_cmp k e.0 ≡ o → pairs_with k v (e ∷ es) ≢ []
    by Less is = rw is (some_cons (k, v) (e ∷ es))
    by Equal is = rw is (some_cons (e.0, v) es)
    by Greater is = rw is (some_cons e (pairs_with k v es))

all_some : (es qs : Pairs) → es ≢ [] → put_all es qs ≢ []
all_some es [] h = h
all_some es (q ∷ qs) h = all_some (pairs_with q.0 q.1 es) qs (put_some q.0 q.1 es)

pub all_put_some : (q : List ℕ × List ℕ) (qs : Pairs) → put_all [] (q ∷ qs) ≢ []
all_put_some q qs = all_some (pairs_with q.0 q.1 []) qs (put_some q.0 q.1 [])

-- a greater key goes to the end
put_last : (ds : Pairs) (e : List ℕ × List ℕ) → AreBelow ds (e ∷ []) → pairs_with e.0 e.1 ds ≡ ds
    ++ e ∷ []
put_last [] e h = refl
put_last (d ∷ ds) e h = rw (greater d.0 e.0 h.0.0) (ap (λ es. d ∷ es) (put_last ds e h.1))

below_first : (ds : Pairs) (e : List ℕ × List ℕ) (es : Pairs) → AreBelow ds (e ∷ es)
    → AreBelow ds (e ∷ [])
below_first [] e es h = tt
below_first (d ∷ ds) e es h = ((h.0.0, tt), below_first ds e es h.1)

below_more : (ds : Pairs) (e : List ℕ × List ℕ) (es : Pairs) → AreBelow ds (e ∷ es)
    → BelowAll e.0 es → AreBelow (ds ++ e ∷ []) es
below_more [] e es h all = (all, tt)
below_more (d ∷ ds) e es h all = (h.0.1, below_more ds e es h.1 all)

all_after : (ds es : Pairs) → AreBelow ds es → AreOrdered es → put_all ds es ≡ ds ++ es
all_after ds [] h o = sym (append-nil ds)
all_after ds (e ∷ es) h o =
    ap (λ xs. put_all xs es) (put_last ds e (below_first ds e es h))
    ∙ all_after (ds ++ e ∷ []) es (below_more ds e es h o.0) o.1
    ∙ append_assoc ds (e ∷ []) es

-- pairs in order, put in, are these pairs
pub all_back : (es : Pairs) → AreOrdered es → put_all [] es ≡ es
all_back es o = all_after [] es tt o
