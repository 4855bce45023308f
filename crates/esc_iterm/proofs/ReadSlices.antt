-- The values of slices, one slice after another.
use Rattle.std.proofs.Common.{ℕ, ◌≡◌, List, [], ◌∷◌, ◌++◌, map, nat_eq, if◌then◌else◌, Option, Some, None, Result, Ok, Err, refl, sym, ap, ◌∙◌}
use Rattle.std.specs.Cmp.Lexicographic.{pointwise}
use Rattle.std.specs.Option.{option_map}
use Rattle.std.specs.Prelude.{IfOk}
use Rattle.std.proofs.Math.Path.{fun_ext}
use Rattle.esc_values.specs.Base64.{base64_of}
use Rattle.esc_values.specs.Cuts.{Pairs, last_value}
use Rattle.esc_values.specs.Fields.{Values, values_of, Kinds, Field, Makes, read_with}
use Rattle.esc_values.specs.Scalars.{and_then}
use Rattle.esc_iterm.specs.Files.{slice_pairs, pairs_of, file_fields, filled_file, file_with, file_from}
use Rattle.esc_iterm.specs.declared.file_data.ITermFileData.{ITermFileData}
use Rattle.esc_iterm.specs.Keys.{values_after, no_values, file_keys, held, held_after}

heads : {X : Type 0} (x y : X) (xs ys : List X) → x ∷ xs ≡ y ∷ ys → (x ≡ y) × (xs ≡ ys)
heads x y xs ys h = (cc, cc)

-- values that agree on keys, with those of pairs
keys_after : (ks : List (List ℕ)) (v w : Values) (es : Pairs) → map v ks ≡ map w ks
    → map (values_after v es) ks ≡ map (values_after w es) ks
keys_after [] v w es h = refl
keys_after (k ∷ ks) v w es h =
    let q = heads (v k) (w k) (map v ks) (map w ks) h in
    ap (λ o. last_value k o es ∷ map (values_after v es) ks) q.0
    ∙ ap (λ os. last_value k (w k) es ∷ os) (keys_after ks v w es q.1)

last_more : (k : List ℕ) (found : Option (List ℕ)) (es more : Pairs)
    → last_value k found (es ++ more) ≡ last_value k (last_value k found es) more
last_more k found [] more = refl
last_more k found (e ∷ es) more =
    last_more k (if pointwise nat_eq e.0 k then Some e.1 else found) es more

values_more : (v : Values) (es more : Pairs)
    → values_after v (es ++ more) ≡ values_after (values_after v es) more
values_more v es more = fun_ext (λ k. last_more k (v k) es more)

turn_by : (v w : Values) (o : Option Pairs) (r : Option (Pairs × List ℕ))
    → Some (held w) ≡ option_map (λ es. held (values_after v es)) o
    → held_after w r
    ≡ held_after v (and_then o (λ es. option_map (λ (m : Pairs × List ℕ). (es ++ m.0, m.1)) r))
turn_by v w None r h = absurd cc
turn_by v w (Some es) None h = refl
turn_by v w (Some es) (Some m) h =
    let same : held w ≡ held (values_after v es) = cc in
    ap (λ u. Some (u, m.1)) (keys_after file_keys w (values_after v es) m.0 same
    ∙ sym (ap held (values_more v es m.0)))

-- a slice was read, and the next one follows
pub turn : (v w : Values) (p q : List ℕ) (ps : List (List ℕ))
    → Some (held w) ≡ option_map (λ es. held (values_after v es)) (slice_pairs p)
    → held_after w (pairs_of (q ∷ ps)) ≡ held_after v (pairs_of (p ∷ q ∷ ps))
turn v w p q ps h = turn_by v w (slice_pairs p) (pairs_of (q ∷ ps)) h

stop_by : (v : Values) (o : Option Pairs) (r : Option (Pairs × List ℕ))
    → None ≡ option_map (λ es. held (values_after v es)) o
    → None ≡ held_after v
    (and_then o (λ es. option_map (λ (m : Pairs × List ℕ). (es ++ m.0, m.1)) r))
stop_by v None r h = refl
stop_by v (Some es) r h = absurd cc

-- a slice before the last does not fit
pub stop : (v : Values) (p q : List ℕ) (ps : List (List ℕ))
    → None ≡ option_map (λ es. held (values_after v es)) (slice_pairs p)
    → None ≡ held_after v (pairs_of (p ∷ q ∷ ps))
stop v p q ps h = stop_by v (slice_pairs p) (pairs_of (q ∷ ps)) h

-- values that agree on the keys of fields are read as the same
read_same : {K : Kinds} {S R : Type 0} (fs : List (Field K S)) (make : Makes fs R) (v w : Values)
    → map v (map (λ f. f.key) fs) ≡ map w (map (λ f. f.key) fs)
    → read_with fs make v ≡ read_with fs make w
read_same [] make v w h = refl
read_same {K = K} (f ∷ fs) make v w h =
    let ks = map (λ f. f.key) fs in
    let q = heads (v f.key) (w f.key) (map v ks) (map w ks) h in
    ap (λ o. and_then (K.read_as f.kind o) (λ x. read_with fs (make x) v)) q.0
    ∙ ap (and_then (K.read_as f.kind (w f.key))) (fun_ext (λ x. read_same fs (make x) v w q.1))

file_by : {A : Type 0} (v : Values) (t : List ℕ) (o : Option (Pairs × List ℕ))
    → Some (held v, t) ≡ held_after no_values o
    → file_with {A = A} v t ≡ and_then o (λ (m : Pairs × List ℕ). file_with (values_of m.0) m.1)
file_by v t None h = absurd cc
file_by {A = A} v t (Some m) h =
    let both : ◌≡◌ {A = List (Option (List ℕ)) × List ℕ} (held v, t) (held (values_of m.0), m.1) =
    cc in
    ap (file_with v) (ap (λ b. b.1) both)
    ∙ ap (and_then (base64_of m.1)) (fun_ext (λ bytes.
    read_same (file_fields {A = A}) (filled_file bytes) v (values_of m.0) (ap (λ b. b.0) both)))

-- the slices were read
pub file_read : {A E : Type 0} (r : Result (Option (ITermFileData A)) E) (v : Values) (t : List ℕ)
    (ps : List (List ℕ)) → Some (held v, t) ≡ held_after no_values (pairs_of ps)
    → IfOk r (λ f. f ≡ file_with v t) → IfOk r (λ f. f ≡ file_from ps)
file_read (Ok f) v t ps h k = k ∙ file_by v t (pairs_of ps) h
file_read (Err e) v t ps h k = tt

nothing_by : {A : Type 0} (o : Option (Pairs × List ℕ)) → None ≡ held_after no_values o
    → None ≡ and_then o (λ (m : Pairs × List ℕ). file_with {A = A} (values_of m.0) m.1)
nothing_by None h = refl
nothing_by (Some m) h = absurd cc

-- they do not fit
pub nothing_read : {A : Type 0} (ps : List (List ℕ)) → None ≡ held_after no_values (pairs_of ps)
    → None ≡ file_from {A = A} ps
nothing_read ps h = nothing_by (pairs_of ps) h
