-- The items of a body, read one after another.
use Rattle.std.proofs.Common.{ℕ, suc, ◌≡◌, ◌+◌, ◌<◌, Bool, true, false, not, cond, List, [], ◌∷◌, ◌++◌, length, take, drop, Option, Some, None}
use Rattle.std.proofs.Common.{IfSome, is_some, ◌≤◌, refl, ap, sym, ◌∙◌, arith, append_assoc}
use Rattle.std.specs.List.{slice_split, onto_first, position_or_len}
use Rattle.std.specs.Option.{option_map}
use Rattle.std.proofs.lemmas.List.{append-nil}
use Rattle.esc_values.specs.declared.csi_param.CsiParam.{CsiParam}
use Rattle.esc_sequences.specs.declared.sgr.Sgr.{Sgr}
use Rattle.esc_sequences.specs.Csis.{CsiValue, sgr, is_separator, rendition, put_first, renditions}

-- the items after the first
abbrev later : (CsiParam → Bool) → List CsiParam → List (List CsiParam)
later p [] = []
later p (x ∷ xs) = cond (p x) (slice_split p xs) (later p xs)

split_by : (p : CsiParam → Bool) (x : CsiParam) (xs : List CsiParam) (t : Bool)
    → slice_split p xs ≡ take (position_or_len p xs) xs ∷ later p xs
    → cond t ([] ∷ slice_split p xs) (onto_first x (slice_split p xs))
    ≡ take (cond (not t) (1 + position_or_len p xs) 0) (x ∷ xs)
    ∷ cond t (slice_split p xs) (later p xs)
split_by p x xs true h = refl
split_by p x xs false h =
    let one : 1 + position_or_len p xs ≡ suc (position_or_len p xs) = omega arith in
    rw (h, one) refl

split_is : (p : CsiParam → Bool) (xs : List CsiParam)
    → slice_split p xs ≡ take (position_or_len p xs) xs ∷ later p xs
split_is p [] = refl
split_is p (x ∷ xs) = split_by p x xs (p x) (split_is p xs)

after_by : (p : CsiParam → Bool) (x : CsiParam) (xs : List CsiParam) (t : Bool)
    → (position_or_len p xs < length xs
    → later p xs ≡ slice_split p (drop (position_or_len p xs + 1) xs))
    → cond (not t) (1 + position_or_len p xs) 0 < length (x ∷ xs)
    → cond t (slice_split p xs) (later p xs)
    ≡ slice_split p (drop (cond (not t) (1 + position_or_len p xs) 0 + 1) (x ∷ xs))
after_by p x xs true h below = refl
after_by p x xs false h below =
    let one : 1 + position_or_len p xs + 1 ≡ suc (position_or_len p xs + 1) = omega arith in
    rw one (h (omega arith))

after_is : (p : CsiParam → Bool) (xs : List CsiParam) → position_or_len p xs < length xs
    → later p xs ≡ slice_split p (drop (position_or_len p xs + 1) xs)
after_is p [] below = absurd (omega arith)
after_is p (x ∷ xs) below = after_by p x xs (p x) (after_is p xs) below

none_by : (p : CsiParam → Bool) (x : CsiParam) (xs : List CsiParam) (t : Bool)
    → (position_or_len p xs ≡ length xs → later p xs ≡ [])
    → cond (not t) (1 + position_or_len p xs) 0 ≡ length (x ∷ xs)
    → cond t (slice_split p xs) (later p xs) ≡ []
none_by p x xs true h all = absurd (omega arith)
none_by p x xs false h all = h (omega arith)

none_is : (p : CsiParam → Bool) (xs : List CsiParam) → position_or_len p xs ≡ length xs
    → later p xs ≡ []
none_is p [] all = refl
none_is p (x ∷ xs) all = none_by p x xs (p x) (none_is p xs) all

-- an item that is none
pub no_rendition : (xs : List CsiParam) (n : ℕ) → n ≡ position_or_len is_separator xs
    → rendition (take n xs) ≡ None
    → renditions (slice_split is_separator xs) ≡ None
no_rendition xs n at none =
    let first : rendition (take (position_or_len is_separator xs) xs) ≡ None =
    ap (λ k. rendition (take k xs)) (sym at) ∙ none in
    ap renditions (split_is is_separator xs)
    ∙ ap (λ i. put_first i (renditions (later is_separator xs))) first

abbrev pub after : List CsiValue → Option (List CsiValue) → Option (List CsiValue)
after made more = option_map (λ vs. made ++ vs) more

after_one : (made : List CsiValue) (s : Sgr) (more : Option (List CsiValue))
    → after made (put_first (Some s) more) ≡ after (made ++ sgr s ∷ []) more
after_one made s None = refl
after_one made s (Some vs) = ap Some (sym (append_assoc made (sgr s ∷ []) vs))

first_is : (xs : List CsiParam) (n : ℕ) (s : Sgr) → n ≡ position_or_len is_separator xs
    → rendition (take n xs) ≡ Some s
    → renditions (slice_split is_separator xs)
    ≡ put_first (Some s) (renditions (later is_separator xs))
first_is xs n s at one =
    let first : rendition (take (position_or_len is_separator xs) xs) ≡ Some s =
    ap (λ k. rendition (take k xs)) (sym at) ∙ one in
    ap renditions (split_is is_separator xs)
    ∙ ap (λ i. put_first i (renditions (later is_separator xs))) first

-- an item, and more after it
pub one_more : (xs : List CsiParam) (n : ℕ) (s : Sgr) (made : List CsiValue)
    (whole : Option (List CsiValue)) → n ≡ position_or_len is_separator xs
    → n < length xs → rendition (take n xs) ≡ Some s
    → whole ≡ after made (renditions (slice_split is_separator xs))
    → whole ≡ after (made ++ sgr s ∷ []) (renditions (slice_split is_separator (drop (n + 1) xs)))
one_more xs n s made whole at below one h =
    let rest : later is_separator xs ≡ slice_split is_separator (drop (n + 1) xs) =
    after_is is_separator xs (omega arith)
    ∙ ap (λ k. slice_split is_separator (drop (k + 1) xs)) (sym at) in
    h ∙ ap (after made) (first_is xs n s at one)
    ∙ after_one made s (renditions (later is_separator xs))
    ∙ ap (λ is. after (made ++ sgr s ∷ []) (renditions is)) rest

-- the last item
pub last_one : (xs : List CsiParam) (n : ℕ) (s : Sgr) (made : List CsiValue)
    (whole : Option (List CsiValue)) → n ≡ position_or_len is_separator xs
    → n ≡ length xs → rendition (take n xs) ≡ Some s
    → whole ≡ after made (renditions (slice_split is_separator xs))
    → whole ≡ Some (made ++ sgr s ∷ [])
last_one xs n s made whole at all one h =
    let rest : later is_separator xs ≡ [] = none_is is_separator xs (sym at ∙ all) in
    h ∙ ap (after made) (first_is xs n s at one)
    ∙ after_one made s (renditions (later is_separator xs))
    ∙ ap (λ is. after (made ++ sgr s ∷ []) (renditions is)) rest
    ∙ ap Some (append-nil (made ++ sgr s ∷ []))

-- ---- how many there are

some_after : (made : List CsiValue) (o : Option (List CsiValue))
    → is_some (after made o) ≡ is_some o
some_after made None = refl
some_after made (Some vs) = refl

after_none : (o : Option (List CsiValue)) → o ≡ after [] o
after_none None = refl
after_none (Some vs) = refl

-- after an item that is one, the rest decides
pub rest_decides : (xs : List CsiParam) (n : ℕ) (s : Sgr) → n ≡ position_or_len is_separator xs
    → n < length xs → rendition (take n xs) ≡ Some s
    → is_some (renditions (slice_split is_separator xs))
    ≡ is_some (renditions (slice_split is_separator (drop (n + 1) xs)))
rest_decides xs n s at below one =
    ap is_some (one_more xs n s [] (renditions (slice_split is_separator xs)) at below one
    (after_none (renditions (slice_split is_separator xs))))
    ∙ some_after (sgr s ∷ []) (renditions (slice_split is_separator (drop (n + 1) xs)))

put_some : (i : Option Sgr) (o : Option (List CsiValue))
    → IfSome (put_first i o) (λ vs. 1 ≤ length vs)
put_some None o = tt
put_some (Some s) None = tt
put_some (Some s) (Some vs) = omega arith

some_items : (xs : List CsiParam)
    → IfSome (renditions (slice_split is_separator xs)) (λ vs. 1 ≤ length vs)
some_items xs =
    rw (split_is is_separator xs) (put_some (rendition (take (position_or_len is_separator xs) xs))
    (renditions (later is_separator xs)))

put_more : (i : Option Sgr) (o : Option (List CsiValue)) → IfSome o (λ vs. 1 ≤ length vs)
    → IfSome (put_first i o) (λ vs. 2 ≤ length vs)
put_more None o h = tt
put_more (Some s) None h = tt
put_more (Some s) (Some vs) h = omega (arith, h)

-- items after the first
pub several : (xs : List CsiParam) (n : ℕ) → n ≡ position_or_len is_separator xs → n < length xs
    → IfSome (renditions (slice_split is_separator xs)) (λ vs. 2 ≤ length vs)
several xs n at below =
    rw (split_is is_separator xs, after_is is_separator xs (omega arith))
    (put_more (rendition (take (position_or_len is_separator xs) xs))
    (renditions (slice_split is_separator (drop (position_or_len is_separator xs + 1) xs)))
    (some_items (drop (position_or_len is_separator xs + 1) xs)))
