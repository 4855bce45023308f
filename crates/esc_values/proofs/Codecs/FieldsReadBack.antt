-- The text of fields reads back, and the values that are read fit: one proof for all structs.
use Rattle.std.proofs.Common.{ℕ, ◌≡◌, nat_eq, Bool, true, false, ◌&&◌, if◌then◌else◌, List, [], ◌∷◌, Option, Some, None}
use Rattle.std.proofs.Common.{refl, sym, ◌∙◌, inl, inr}
use Rattle.std.proofs.lemmas.Bool.{and_parts, cases_Bool}
use Rattle.std.proofs.Math.Path.{fun_ext}
use Rattle.std.specs.Cmp.Lexicographic.{pointwise}
use Rattle.std.specs.List.{list_all}
use Rattle.esc_values.specs.Cuts.{Pairs, last_value}
use Rattle.esc_values.specs.Fields.{Values, values_of, Entry, with_value, present_pairs, is_bare, cut_before, ascends, with_entry, in_order, Kinds, Field}
use Rattle.esc_values.specs.Fields.{entries, FitAll, Makes, read_with}
use Rattle.esc_values.proofs.Numbers.FactsIfSome.{Where, where_then}

-- the value of a key among entries
abbrev pub later : Option (List ℕ) → Option (List ℕ) → Option (List ℕ)
later (Some v) o = Some v
later None o = o

abbrev pub find : List ℕ → List Entry → Option (List ℕ)
find k [] = None
find k (e ∷ es) = if pointwise nat_eq e.0 k then later (find k es) e.1 else find k es

later_none : (o : Option (List ℕ)) → later o None ≡ o
later_none None = refl
later_none (Some v) = refl

later_later : (a b c : Option (List ℕ)) → later (later a b) c ≡ later a (later b c)
later_later None b c = refl
later_later (Some v) b c = refl

find_step : (k n : List ℕ) (v found r : Option (List ℕ)) (es : Pairs) (t : Bool)
    → pointwise nat_eq n k ≡ t
    → ((f : Option (List ℕ)) → last_value k f es ≡ later r f)
    → last_value k found (with_value n v es) ≡ later (if t then later r v else r) found
find_step k n None found r es true e h = h found ∙ sym (later_later r None found)
find_step k n None found r es false e h = h found
find_step k n (Some v) found r es true e h =
    rw (e, last_value) (h (Some v) ∙ sym (later_later r (Some v) found))
find_step k n (Some v) found r es false e h = rw (e, last_value) (h found)

values_found : (k : List ℕ) (found : Option (List ℕ)) (es : List Entry)
    → last_value k found (present_pairs es) ≡ later (find k es) found
values_found k found [] = refl
values_found k found (e ∷ es) =
    find_step k e.0 e.1 found (find k es) (present_pairs es) (pointwise nat_eq e.0 k) refl (λ f.
    values_found k f es)

pub written_values : (es : List Entry) → values_of (present_pairs es) ≡ (λ k. find k es)
written_values es = fun_ext (λ k. values_found k None es ∙ later_none (find k es))

-- keys, one of which is written, are not bare
bare_with : (n : List ℕ) (v : Option (List ℕ)) (es : Pairs) → is_bare es ≡ false
    → is_bare (with_value n v es) ≡ false
bare_with n None es h = h
bare_with n (Some v) es h = refl

pub with_some : (n v : List ℕ) (es : List Entry)
    → is_bare (present_pairs (with_entry (n, Some v) es)) ≡ false
with_some n v [] = refl
with_some n v (d ∷ ds) =
    elim (cases_Bool (cut_before n d.0)) [
      | inl held ↦ rw held refl
      | inr failed ↦ rw failed (bare_with d.0 d.1 (present_pairs (with_entry (n, Some v) ds))
          (with_some n v ds))
    ]

-- the order of entries is that of the keys that are written
abbrev pub entries_ascend : List Entry → Bool
entries_ascend [] = true
entries_ascend (e ∷ es) = list_all (λ (d : Entry). cut_before e.0 d.0) es && entries_ascend es

before_with : (n m : List ℕ) (v : Option (List ℕ)) (es : Pairs) → cut_before n m ≡ true
    → list_all (λ (d : List ℕ × List ℕ). cut_before n d.0) es ≡ true
    → list_all (λ (d : List ℕ × List ℕ). cut_before n d.0) (with_value m v es) ≡ true
before_with n m None es h k = k
before_with n m (Some v) es h k = rw (h, k) refl

before_written : (n : List ℕ) (es : List Entry)
    → list_all (λ (d : Entry). cut_before n d.0) es ≡ true
    → list_all (λ (d : List ℕ × List ℕ). cut_before n d.0) (present_pairs es) ≡ true
before_written n [] h = refl
before_written n (e ∷ es) h =
    let q = and_parts (cut_before n e.0) (list_all (λ (d : Entry). cut_before n d.0) es) h in
    before_with n e.0 e.1 (present_pairs es) q.0 (before_written n es q.1)

ascends_with : (n : List ℕ) (v : Option (List ℕ)) (es : Pairs)
    → list_all (λ (d : List ℕ × List ℕ). cut_before n d.0) es ≡ true → ascends es ≡ true
    → ascends (with_value n v es) ≡ true
ascends_with n None es h k = k
ascends_with n (Some v) es h k = rw (h, k) refl

pub written_ascends : (es : List Entry) → entries_ascend es ≡ true → ascends (present_pairs es)
    ≡ true
written_ascends [] h = refl
written_ascends (e ∷ es) h =
    let q = and_parts (list_all (λ (d : Entry). cut_before e.0 d.0) es) (entries_ascend es) h in
    ascends_with e.0 e.1 (present_pairs es) (before_written e.0 es q.0) (written_ascends es q.1)

-- entries put in order pass a test that they pass
with_passes : (test : Entry → Bool) (e : Entry) (es : List Entry) → test e ≡ true
    → list_all test es ≡ true
    → list_all test (with_entry e es) ≡ true
with_passes test e [] h k = rw h refl
with_passes test e (d ∷ ds) h k =
    let q = and_parts (test d) (list_all test ds) k in
    elim (cases_Bool (cut_before e.0 d.0)) [
      | inl held ↦ rw (held, h, q.0, q.1) refl
      | inr failed ↦ rw (failed, q.0, with_passes test e ds h q.1) refl
    ]

pub order_passes : (test : Entry → Bool) (es : List Entry) → list_all test es ≡ true
    → list_all test (in_order es) ≡ true
order_passes test [] h = refl
order_passes test (e ∷ es) h =
    let q = and_parts (test e) (list_all test es) h in
    with_passes test e (in_order es) q.0 (order_passes test es q.1)

-- The facts that a format proves about its kinds: fitting values read back, values that are read
-- fit, and the text of fitting values passes a test.
pub record AreLawful (K : Kinds) (test : Option (List ℕ) → Bool) : Type 0 where
  pub back : (k : K.Kind) (x : K.Of k) → K.Fits k x → K.read_as k (K.text_as k x) ≡ Some x
  pub fits : (k : K.Kind) (o : Option (List ℕ)) → Where (λ x. K.Fits k x) (K.read_as k o)
  pub passes : (k : K.Kind) (x : K.Of k) → K.Fits k x → test (K.text_as k x) ≡ true

-- the texts of the fields, and the values at their keys
abbrev pub texts : {K : Kinds} {S : Type 0} → List (Field K S) → S → List (Option (List ℕ))
texts [] s = []
texts {K = K} (f ∷ fs) s = K.text_as f.kind (f.get s) ∷ texts fs s

abbrev pub texts_at : {K : Kinds} {S : Type 0} → List (Field K S) → Values
    → List (Option (List ℕ))
texts_at [] v = []
texts_at (f ∷ fs) v = v f.key ∷ texts_at fs v

-- the value that is made of the fields of a struct
abbrev pub made_of : {K : Kinds} {S R : Type 0} → (fs : List (Field K S)) → Makes fs R → S → R
made_of [] make s = make
made_of (f ∷ fs) make s = made_of fs (make (f.get s)) s

heads : {X : Type 0} (x y : X) (xs ys : List X) → x ∷ xs ≡ y ∷ ys → (x ≡ y) × (xs ≡ ys)
heads x y xs ys h = (cc, cc)

-- the text of a struct that fits reads back
pub reads_back : {K : Kinds} {test : Option (List ℕ) → Bool} {S R : Type 0} → AreLawful K test
    → (fs : List (Field K S)) (make : Makes fs R) (s : S) (v : Values)
    → FitAll fs s → texts_at fs v ≡ texts fs s
    → read_with fs make v ≡ Some (made_of fs make s)
reads_back laws [] make s v h e = refl
reads_back {K = K} laws (f ∷ fs) make s v h e =
    let q = heads (v f.key) (K.text_as f.kind (f.get s)) (texts_at fs v) (texts fs s) e in
    rw (q.0, laws.back f.kind (f.get s) h.0) (reads_back laws fs (make (f.get s)) s v h.1 q.1)

-- the values that are read from all keys, one after another, and that all of them fit
abbrev pub AllOf : {K : Kinds} {S : Type 0} → List (Field K S) → Type 0
AllOf [] = Unit {0}
AllOf {K = K} (f ∷ fs) = K.Of f.kind × AllOf fs

abbrev pub AllFit : {K : Kinds} {S : Type 0} → (fs : List (Field K S)) → AllOf fs → Type 0
AllFit [] xs = Unit {0}
AllFit {K = K} (f ∷ fs) xs = K.Fits f.kind xs.0 × AllFit fs xs.1

abbrev pub make_all : {K : Kinds} {S R : Type 0} → (fs : List (Field K S)) → Makes fs R → AllOf fs
    → R
make_all [] make xs = make
make_all (f ∷ fs) make xs = make_all fs (make xs.0) xs.1

-- a struct that is read fits; at a struct the premise is `λ xs h. h`
pub read_fits : {K : Kinds} {test : Option (List ℕ) → Bool} {S R : Type 0} → AreLawful K test
    → (fs : List (Field K S)) (make : Makes fs R) (v : Values) (P : R → Type 0)
    → ((xs : AllOf fs) → AllFit fs xs → P (make_all fs make xs))
    → Where P (read_with fs make v)
read_fits laws [] make v P h = h tt tt
read_fits {K = K} laws (f ∷ fs) make v P h =
    where_then (λ x. K.Fits f.kind x) P (λ x. read_with fs (make x) v)
    (λ x hx. read_fits laws fs (make x) v P (λ xs hxs. h (x, xs) (hx, hxs)))
    (K.read_as f.kind (v f.key)) (laws.fits f.kind (v f.key))

-- the entries of a fitting struct pass a test, if their names do
abbrev pub is_entry_of : (List ℕ → Bool) → (Option (List ℕ) → Bool) → Entry → Bool
is_entry_of name test e = name e.0 && test e.1

abbrev pub names_pass : {K : Kinds} {S : Type 0} → (List ℕ → Bool) → List (Field K S) → Bool
names_pass name [] = true
names_pass name (f ∷ fs) = name f.key && names_pass name fs

pub entries_pass : {K : Kinds} {test : Option (List ℕ) → Bool} {S : Type 0} → AreLawful K test
    → (name : List ℕ → Bool) (fs : List (Field K S)) (s : S)
    → names_pass name fs ≡ true → FitAll fs s
    → list_all (is_entry_of name test) (entries fs s) ≡ true
entries_pass laws name [] s g h = refl
entries_pass laws name (f ∷ fs) s g h =
    let q = and_parts (name f.key) (names_pass name fs) g in
    rw (q.0, laws.passes f.kind (f.get s) h.0, entries_pass laws name fs s q.1 h.1) refl
