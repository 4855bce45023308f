-- The segment that an opener begins: control sequences, device control strings, and the strings
-- without a header.
use Rattle.std.proofs.Common.{ℕ, ◌≡◌, ◌+◌, ◌-◌, ◌<◌, ◌≤◌, Bool, true, false, nat_lt, List, [], ◌∷◌, ◌++◌, length, take, drop, get_or}
use Rattle.std.proofs.Common.{refl, ap, sym, ◌∙◌, append_assoc, length-append, length-drop, arith}
use Rattle.std.specs.List.{prefix_len}
use Rattle.std.proofs.lemmas.List.{take_rest}
use Rattle.std.proofs.lemmas.List.Sums.{prefix_len-le-length}
use Rattle.std.proofs.lemmas.Bool.Decides.{nat_tests}
use Rattle.esc_segments.specs.declared.kind.SegmentKind.TheVariants as kinds
use Rattle.esc_segments.specs.Places.{found_at, IsOpened}
use Rattle.esc_frame.specs.declared.classes.Class.{Class}
use Rattle.esc_frame.specs.declared.classes.Class.TheVariants.{Introducer, Final, Breaks}
use Rattle.esc_frame.specs.declared.classes.Kind.{Kind}
use Rattle.esc_frame.specs.declared.classes.Kind.TheVariants as kind
use Rattle.esc_frame.specs.Classes.{class_of, AllOf, in_csi, ends_csi, in_data, is_breaker, is_ignored}
use Rattle.esc_frame.specs.Segments.{opener, breaks}
use Rattle.esc_frame.specs.Segments.Segment.{Csi, Dcs, Apc, Ignored, CutCsi, CutDcs}
use Rattle.esc_segments.proofs.Prefixes.{Split, split, at_end, next, stops}

-- ---- bytes after others

pub joins : (p s x t : List ℕ) → s ≡ x ++ t → p ++ s ≡ (p ++ x) ++ t
joins p s x t e = ap (λ y. p ++ y) e ∙ sym (append_assoc p x t)

pub joins_one : (p s x t u : List ℕ) (f : ℕ) → s ≡ x ++ t → t ≡ f ∷ u
    → p ++ s ≡ (p ++ x ++ f ∷ []) ++ u
joins_one p s x t u f e i =
    joins p s x t e ∙ ap (λ y. (p ++ x) ++ y) i ∙ sym (append_assoc (p ++ x) (f ∷ []) u)

pub lengths : (p x : List ℕ) (n : ℕ) → n ≡ length x → length p + n ≡ length (p ++ x)
lengths p x n e = omega (arith, length-append p x)

pub lengths_one : (p x : List ℕ) (n f : ℕ) → n ≡ length x
    → length p + (n + 1) ≡ length (p ++ x ++ f ∷ [])
lengths_one p x n f e = let l : length (f ∷ []) ≡ 1 = refl in
    omega (arith, length-append (p ++ x) (f ∷ []), length-append p x)

-- the bytes end here, or a breaker stands here
pub no_breaker : (t : List ℕ) → t ≡ [] → false ≡ breaks t
no_breaker t e = sym (ap breaks e)

pub breaker : (t u : List ℕ) (f : ℕ) → t ≡ f ∷ u → is_breaker (class_of f) ≡ true → true ≡ breaks t
breaker t u f e h = sym (ap breaks e ∙ h)

pub not_true : (t : List ℕ) → true ≡ false → t ≡ []
not_true t e = absurd cc

ends_by : (c : Class) → in_csi c ≡ false → is_breaker c ≡ false → ends_csi c ≡ true
ends_by (Introducer k) h i = refl
ends_by Final h i = refl
ends_by _ h i = absurd cc

breaks_by : (c : Class) → in_data c ≡ false → is_breaker c ≡ true
breaks_by (Breaks k) h = refl
breaks_by _ h = absurd cc

-- ---- a header, cut short

module _ (body : List ℕ) (r : ℕ) (e : r ≡ prefix_len (λ b. in_csi (class_of b)) body) where
  s : Split in_csi body r
  s = split in_csi body r e

  cut_csi : (w : Bool) → w ≡ breaks (drop r body) → (w ≡ false → drop r body ≡ [])
      → IsOpened kind.Csi body (found_at kinds.CutShort r w)
  cut_csi w f d = λ o io. record {
    g = CutCsi o (take r body);
    after = drop r body;
    whole = joins (opener kind.Csi o) body (take r body) (drop r body) s.parts;
    shape = (io, s.passes);
    kind = refl;
    len = lengths (opener kind.Csi o) (take r body) r s.len;
    finished = f;
    last = d;
  }

  cut_dcs : (w : Bool) → w ≡ breaks (drop r body) → (w ≡ false → drop r body ≡ [])
      → IsOpened kind.Dcs body (found_at kinds.CutShort r w)
  cut_dcs w f d = λ o io. record {
    g = CutDcs o (take r body);
    after = drop r body;
    whole = joins (opener kind.Dcs o) body (take r body) (drop r body) s.parts;
    shape = (io, s.passes);
    kind = refl;
    len = lengths (opener kind.Dcs o) (take r body) r s.len;
    finished = f;
    last = d;
  }

  pub csi_pending : r ≡ length body → IsOpened kind.Csi body (found_at kinds.CutShort r false)
  csi_pending h = cut_csi false (no_breaker (drop r body) (at_end body r h)) (λ _. at_end body r h)

  pub csi_broken : r < length body → is_breaker (class_of (get_or body r 0)) ≡ true
      → IsOpened kind.Csi body (found_at kinds.CutShort r true)
  csi_broken h b =
      cut_csi true (breaker (drop r body) (drop (r + 1) body) (get_or body r 0) (next body r h) b)
      (not_true (drop r body))

  pub dcs_pending : r ≡ length body → IsOpened kind.Dcs body (found_at kinds.CutShort r false)
  dcs_pending h = cut_dcs false (no_breaker (drop r body) (at_end body r h)) (λ _. at_end body r h)

  pub dcs_broken : r < length body → is_breaker (class_of (get_or body r 0)) ≡ true
      → IsOpened kind.Dcs body (found_at kinds.CutShort r true)
  dcs_broken h b =
      cut_dcs true (breaker (drop r body) (drop (r + 1) body) (get_or body r 0) (next body r h) b)
      (not_true (drop r body))

  pub csi_whole : r < length body → is_breaker (class_of (get_or body r 0)) ≡ false
      → IsOpened kind.Csi body (found_at kinds.Csi (r + 1) true)
  csi_whole h b = λ o io. record {
    g = Csi o (take r body) (get_or body r 0);
    after = drop (r + 1) body;
    whole = joins_one (opener kind.Csi o) body (take r body) (drop r body) (drop (r + 1) body)
        (get_or body r 0) s.parts (next body r h);
    shape = (io, s.passes, ends_by (class_of (get_or body r 0)) (stops in_csi body r e h) b);
    kind = refl;
    len = lengths_one (opener kind.Csi o) (take r body) r (get_or body r 0) s.len;
    finished = refl;
    last = not_true (drop (r + 1) body);
  }

-- ---- data up to a breaker

less : (n m : ℕ) → nat_lt n m ≡ true → n < m
less n m h = grind (arith, nat_tests)

not_less : (n m : ℕ) → nat_lt n m ≡ false → m ≤ n
not_less n m h = grind (arith, nat_tests)

all_data : (d : List ℕ) (n : ℕ) → n ≡ prefix_len (λ b. in_data (class_of b)) d → length d ≤ n
    → n ≡ length d
all_data d n e h = let k = prefix_len-le-length (λ b. in_data (class_of b)) d in omega (arith, e, k)

-- whether bytes are left at the end of the run of data
data_breaks : (d : List ℕ) (n : ℕ) → n ≡ prefix_len (λ b. in_data (class_of b)) d → (w : Bool)
    → nat_lt n (length d) ≡ w → w ≡ breaks (drop n d)
data_breaks d n e true l =
    let h = less n (length d) l in
    breaker (drop n d) (drop (n + 1) d) (get_or d n 0) (next d n h)
    (breaks_by (class_of (get_or d n 0)) (stops in_data d n e h))
data_breaks d n e false l =
    no_breaker (drop n d) (at_end d n (all_data d n e (not_less n (length d) l)))

data_last : (d : List ℕ) (n : ℕ) → n ≡ prefix_len (λ b. in_data (class_of b)) d → (w : Bool)
    → nat_lt n (length d) ≡ w → w ≡ false → drop n d ≡ []
data_last d n e true l z = absurd cc
data_last d n e false l z = at_end d n (all_data d n e (not_less n (length d) l))

module _ (d : List ℕ) (n : ℕ) (e : n ≡ prefix_len (λ b. in_data (class_of b)) d) (w : Bool)
    (l : nat_lt n (length d) ≡ w) where
  t : Split in_data d n
  t = split in_data d n e

  pub apc_is : IsOpened kind.Apc d (found_at kinds.Apc n w)
  apc_is = λ o io. record {
    g = Apc o (take n d);
    after = drop n d;
    whole = joins (opener kind.Apc o) d (take n d) (drop n d) t.parts;
    shape = (io, t.passes);
    kind = refl;
    len = lengths (opener kind.Apc o) (take n d) n t.len;
    finished = data_breaks d n e w l;
    last = data_last d n e w l;
  }

  pub ignored_is : (k : Kind) → is_ignored k ≡ true → IsOpened k d (found_at kinds.Ignored n w)
  ignored_is k i = λ o io. record {
    g = Ignored k o (take n d);
    after = drop n d;
    whole = joins (opener k o) d (take n d) (drop n d) t.parts;
    shape = (i, io, t.passes);
    kind = refl;
    len = lengths (opener k o) (take n d) n t.len;
    finished = data_breaks d n e w l;
    last = data_last d n e w l;
  }

  -- a device control string with its header and its final byte before the data
  dcs_by : (body x : List ℕ) (f : ℕ) (r : ℕ) → body ≡ x ++ (f ∷ d) → AllOf in_csi x
      → ends_csi (class_of f) ≡ true → r ≡ length x
      → IsOpened kind.Dcs body (found_at kinds.Dcs (r + 1 + n) w)
  dcs_by body x f r p a h m = λ o io.
      let q = opener kind.Dcs o in record {
        g = Dcs o x f (take n d);
        after = drop n d;
        whole = joins_one q body x (f ∷ d) d f p refl ∙ ap (λ y. (q ++ x ++ f ∷ []) ++ y) t.parts
            ∙ sym (append_assoc (q ++ x ++ f ∷ []) (take n d) (drop n d));
        shape = (io, a, h, t.passes);
        kind = refl;
        len = omega (
          arith,
          lengths_one q x r f m,
          length-append (q ++ x ++ f ∷ []) (take n d),
          t.len,
        );
        finished = data_breaks d n e w l;
        last = data_last d n e w l;
      }

less_same : (a b c : ℕ) → nat_lt (a + b) (a + c) ≡ nat_lt b c
less_same a b c = grind (arith, nat_tests)

pub dcs_whole : (body : List ℕ) (r n : ℕ) → r ≡ prefix_len (λ b. in_csi (class_of b)) body
    → r < length body
    → is_breaker (class_of (get_or body r 0)) ≡ false
    → n ≡ prefix_len (λ b. in_data (class_of b)) (take (length body - (r + 1)) (drop (r + 1) body))
    → IsOpened kind.Dcs body (found_at kinds.Dcs (r + 1 + n) (nat_lt (r + 1 + n) (length body)))
dcs_whole body r n e h b i =
    let d : List ℕ = drop (r + 1) body in
    let j : n ≡ prefix_len (λ b. in_data (class_of b)) d =
    i ∙ ap (prefix_len (λ b. in_data (class_of b))) (take_rest body (r + 1)) in
    let s = split in_csi body r e in
    let long : length body ≡ r + 1 + length d = omega (arith, length-drop (r + 1) body) in
    let w : nat_lt n (length d) ≡ nat_lt (r + 1 + n) (length body) =
    sym (ap (λ k. nat_lt (r + 1 + n) k) long ∙ less_same (r + 1) n (length d)) in
    dcs_by d n j (nat_lt (r + 1 + n) (length body)) w body (take r body) (get_or body r 0) r
    (s.parts ∙ ap (λ y. take r body ++ y) (next body r h)) s.passes
    (ends_by (class_of (get_or body r 0)) (stops in_csi body r e h) b) s.len
