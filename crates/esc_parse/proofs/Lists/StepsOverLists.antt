-- Lists, and runs of steps over them.
use Rattle.std.proofs.Common.{◌≡◌, ◌≢◌, ◌⊎◌, ◌<◌, ◌+◌, ℕ, List, [], ◌∷◌, ◌++◌, length, map, take, get_or, arith, refl, ap, sym, ◌∙◌}
use Rattle.std.proofs.Common.{subst, inl, inr, Option, Some, None, IfSome, Result, Ok, Err, OnOk, OnErr, IfOk, IfErr, IsOkAnd, MatchResult}
use Rattle.std.specs.List.{FoldsTo, flat_map}
use Rattle.std.proofs.lemmas.Grind.{flat_map-append}
use Rattle.std.proofs.lemmas.List.{append-nil, take_more}
use Rattle.esc_frame.specs.Events.{Awaits}
use Rattle.esc_parse.specs.Given.{AnyAt, AnyBy, At, By, StopsAt, GetsPrefix}

-- one chunk more
pub input_chunks_more : {P : Type 0} (f : P → List ℕ) (ps : List P) (i : ℕ) (d : P) → i < length ps
    → flat_map f (take i ps) ++ f (get_or ps i d) ≡ flat_map f (take (i + 1) ps)
input_chunks_more f ps i d h =
    sym (ap (flat_map f) (take_more ps i d h) ∙ flat_map-append f (take i ps) (get_or ps i d ∷ [])
    ∙ ap (λ l. flat_map f (take i ps) ++ l) (append-nil (f (get_or ps i d))))

module _ {P V : Type 0} (R : P → V → P → Type 0) where
  pub FoldsTo-append : (p : P) (xs : List V) (j : P) (ys : List V) (q : P) → FoldsTo R p xs j
      → FoldsTo R j ys q → FoldsTo R p (xs ++ ys) q
  FoldsTo-append p [] j ys q e f = subst (λ x. FoldsTo R x ys q) (sym e) f
  FoldsTo-append p (x ∷ xs) j ys q e f = (e.0, e.1, FoldsTo-append e.0 xs j ys q e.2 f)

module _ {P V : Type 0} (R Q : P → V → P → Type 0) (own : Type 0) where
  pub StopsAt-weaker : (less : Type 0) (p : P) (xs : List V) (q : P) → (less → own)
      → StopsAt less R Q p xs q → StopsAt own R Q p xs q
  StopsAt-weaker less p [] q f e = (f e.0, e.1)
  StopsAt-weaker less p (x ∷ xs) q f e =
      elim e [
        | inl a ↦ inl (f a.0, a.1)
        | inr b ↦ inr
            (elim b [ inl c ↦ inl c | inr d ↦ inr (d.0, d.1, StopsAt-weaker less d.0 xs q f d.2) ])
      ]

  pub StopsAt-append : (p : P) (xs : List V) (j : P) (ys : List V) (q : P) → FoldsTo R p xs j
      → StopsAt own R Q j ys q → StopsAt own R Q p (xs ++ ys) q
  StopsAt-append p [] j ys q e f = subst (λ x. StopsAt own R Q x ys q) (sym e) f
  StopsAt-append p (x ∷ xs) j ys q e f = inr (inr (e.0, e.1, StopsAt-append e.0 xs j ys q e.2 f))

  pub StopsAt-here : (p : P) (ys : List V) (q : P) → own → p ≡ q → StopsAt own R Q p ys q
  StopsAt-here p [] q o e = (o, e)
  StopsAt-here p (y ∷ ys) q o e = inl (o, e)

  pub StopsAt-longer : (p : P) (xs ys : List V) (q : P) → StopsAt own R Q p xs q
      → StopsAt own R Q p (xs ++ ys) q
  StopsAt-longer p [] ys q e = StopsAt-here p ys q e.0 e.1
  StopsAt-longer p (x ∷ xs) ys q e =
      elim e [
        | inl a ↦ inl a
        | inr b ↦ inr
            (elim b [ inl c ↦ inl c | inr d ↦ inr (d.0, d.1, StopsAt-longer d.0 xs ys q d.2) ])
      ]

-- A giver stops by itself, or at a value; both for the reason for which the taker refuses.
module _ {P V : Type 0} (R Q : P → V → P → Type 0) (own why : Type 0)
    (says : (p : P) (v : V) (q : P) → Q p v q → why) where
  stops_why : (p : P) (vs : List V) (q : P) → StopsAt (own × why) R Q p vs q → why
  stops_why p [] q e = e.0.1
  stops_why p (v ∷ vs) q (inl e) = e.0.1
  stops_why p (v ∷ vs) q (inr (inl z)) = says p v q z
  stops_why p (v ∷ vs) q (inr (inr (mid, t, rest))) = stops_why mid vs q rest

  stops_or_some : (p : P) (vs : List V) (q : P) → StopsAt (own × why) R Q p vs q → own ⊎ (vs ≢ [])
  stops_or_some p [] q e = inl e.0.0
  stops_or_some p (v ∷ vs) q e = inr (λ z. absurd cc)

  pub stops_wanting : (p : P) (vs : List V) (q : P) → StopsAt (own × why) R Q p vs q
      → (own ⊎ (vs ≢ [])) × why
  stops_wanting p vs q e = (stops_or_some p vs q e, stops_why p vs q e)

-- if nothing is refused, the taken values are a prefix, and the giver stopped by itself
module _ {P V : Type 0} (R Q : P → V → P → Type 0) (own : Type 0)
    (never : (p : P) (v : V) (q : P) → Q p v q → ⊥) where
  pub gets_prefix : (p : P) (vs : List V) (q : P) → StopsAt own R Q p vs q → own × GetsPrefix R p vs
  gets_prefix p [] q e = (e.0, ([], [], p, refl, refl))
  gets_prefix p (v ∷ vs) q e = elim e [
    | inl x ↦ (x.0, ([], v ∷ vs, p, refl, refl))
    | inr y ↦ elim y [
      | inl z ↦ absurd (never p v q z)
      | inr w ↦ let s = gets_prefix w.0 vs q w.2 in let r =
          s.1 in (s.0, (v ∷ r.0, r.1, r.2, ap (λ l. v ∷ l) r.3, (w.0, w.1, r.4)))
    ]
  ]

-- the same relation, seen through f
module _ {C P T V : Type 0} (f : C → P) (g : T → V) (R : P → T → P → Type 0) where
  pub moved : (c : C) (vs : List V) (d : C) → FoldsTo (At g (λ p a q. R (f p) a (f q))) c vs d
      → FoldsTo (At g R) (f c) vs (f d)
  moved c [] d e = ap f e
  moved c (v ∷ vs) d e = (f e.0, e.1, moved e.0 vs d e.2)

  pub moved_prefix : (own : Type 0) (c : C) (vs : List V) (d : C)
      → StopsAt own (At g (λ p a q. R (f p) a (f q))) (At g (λ p a q. ⊥)) c vs d
      → own × GetsPrefix (At g R) (f c) vs
  moved_prefix own c vs d h =
      let s = gets_prefix (At g (λ p a q. R (f p) a (f q))) (At g (λ p a q. ⊥)) own
      (λ p v q w. w.2) c vs d h in
      let r = s.1 in (s.0, (r.0, r.1, f r.2, r.3, moved c r.0 r.2 r.4))

-- who may be given values as they are seen, may be given them through f
module _ {C P T V : Type 0} (f : C → P) (g : T → V) (may : P → T → Type 0)
    (R : P → T → P → Type 0) where
  pub awaits_moved : (c : C) (vs : List V) → Awaits (AnyAt g may) (At g R) (f c) vs
      → Awaits (AnyAt g (λ p a. may (f p) a)) (At g (λ p a q. R (f p) a (f q))) c vs
  awaits_moved c [] m = tt
  awaits_moved c (v ∷ vs) m = (m.0, λ d t. awaits_moved d vs (m.1 (f d) t))

-- values given in one of two equal forms were given in the other
module _ {P T V W : Type 0} (g : T → W) (f : V → W) (R Q : P → T → P → Type 0) where
  abbrev SeenSo : T → V → Type 0
  SeenSo t v = g t ≡ f v

  pub awaits_seen : (may : P → T → Type 0) (p : P) (vs : List V)
      → Awaits (AnyAt g may) (At g R) p (map f vs) → Awaits (AnyBy SeenSo may) (By SeenSo R) p vs
  awaits_seen may p [] m = tt
  awaits_seen may p (v ∷ vs) m = (m.0, λ q t. awaits_seen may q vs (m.1 q t))

  pub folds_seen : (p : P) (vs : List V) (q : P) → FoldsTo (By SeenSo R) p vs q
      → FoldsTo (At g R) p (map f vs) q
  folds_seen p [] q e = e
  folds_seen p (v ∷ vs) q (j, t, rest) = (j, t, folds_seen j vs q rest)

  pub stops_seen : (own : Type 0) (p : P) (vs : List V) (q : P)
      → StopsAt own (By SeenSo R) (By SeenSo Q) p vs q
      → StopsAt own (At g R) (At g Q) p (map f vs) q
  stops_seen own p [] q e = e
  stops_seen own p (v ∷ vs) q (inl e) = inl e
  stops_seen own p (v ∷ vs) q (inr (inl e)) = inr (inl e)
  stops_seen own p (v ∷ vs) q (inr (inr (j, t, rest))) = inr
      (inr (j, t, stops_seen own j vs q rest))

-- results
pub on_ok_more : {T E : Type 0} (X Y : Type 0) (r : Result T E) → (X → Y) → OnOk r X → OnOk r Y
on_ok_more X Y (Ok x) f w = f w
on_ok_more X Y (Err e) f w = tt

pub on_ok_at : {T E X : Type 0} {x : T} (r : Result T E) → r ≡ Ok x → OnOk r X → X
on_ok_at (Ok x) is h = h
on_ok_at (Err e) is h = absurd cc

pub on_err_at : {T E X : Type 0} {e : E} (r : Result T E) → r ≡ Err e → OnErr r X → X
on_err_at (Ok x) is h = absurd cc
on_err_at (Err e) is h = h

pub on_err_any : {T E : Type 0} (X : Type 0) (r : Result T E) → X → OnErr r X
on_err_any X (Ok x) h = tt
on_err_any X (Err e) h = h

pub on_ok_second : {T E : Type 0} (X Y Z : Type 0) (r : Result T E) → (Y → Z) → OnOk r (X × Y)
    → OnOk r (X × Z)
on_ok_second X Y Z (Ok x) f w = (w.0, f w.1)
on_ok_second X Y Z (Err e) f w = tt

pub if_ok_more : {T E : Type 0} (P Q : T → Type 0) (r : Result T E) → ((t : T) → P t → Q t)
    → IfOk r P → IfOk r Q
if_ok_more P Q (Ok x) f h = f x h
if_ok_more P Q (Err e) f h = tt

pub if_err_third : {T E : Type 0} (Y Z : Type 0) (r : Result T E) (A B : E → Type 0) → (Y → Z)
    → IfErr r (λ e. A e × B e × Y) → IfErr r (λ e. A e × B e × Z)
if_err_third Y Z (Ok x) A B f w = tt
if_err_third Y Z (Err e) A B f w = (w.0, w.1, f w.2)

pub if_err_parts : {T E : Type 0} (Y Z W V : Type 0) (r : Result T E) (A B : E → Type 0)
    → (Y → (Z × W) × V)
    → IfErr r (λ e. A e × B e × Y) → IfErr r (λ e. A e × B e × (Z × V) × W)
if_err_parts Y Z W V (Ok x) A B f w = tt
if_err_parts Y Z W V (Err e) A B f w = let p = f w.2 in (w.0, w.1, (p.0.0, p.1), p.0.1)

-- no error, if its cause never happens
pub is_ok_unless : {T E : Type 0} (P : T → Type 0) (B : E → Type 0) (W : Type 0) (r : Result T E)
    → (W → ⊥) → IfOk r P
    → IfErr r (λ e. B e × W) → IsOkAnd r P
is_ok_unless P B W (Ok x) never h f = h
is_ok_unless P B W (Err e) never h f = never f.1

pub if_ok_second : {T E : Type 0} (X Y Z : T → Type 0) (r : Result T E) → ((t : T) → Y t → Z t)
    → IfOk r (λ t. X t × Y t) → IfOk r (λ t. X t × Z t)
if_ok_second X Y Z (Ok x) f w = (w.0, f x w.1)
if_ok_second X Y Z (Err e) f w = tt

-- a step more, and a refused one, over a list that is seen through two functions
pub folds_more : {P C D V : Type 0} (R : P → V → P → Type 0) (f : C → D) (g : D → V) (p : P)
    (cs : List C) (j : P) (c : C) (q : P)
    → FoldsTo R p (map g (map f cs)) j → R j (g (f c)) q
    → FoldsTo R p (map g (map f (cs ++ c ∷ []))) q
folds_more R f g p [] j c q e r = (q, subst (λ x. R x (g (f c)) q) (sym e) r, refl)
folds_more R f g p (d ∷ cs) j c q e r = (e.0, e.1, folds_more R f g e.0 cs j c q e.2 r)

pub stops_more : {P C D V : Type 0} (R Q : P → V → P → Type 0) (own : Type 0) (f : C → D)
    (g : D → V) (p : P) (cs : List C) (j : P) (c : C) (rest : List C)
    (q : P)
    → FoldsTo R p (map g (map f cs)) j → Q j (g (f c)) q
    → StopsAt own R Q p (map g (map f (cs ++ c ∷ rest))) q
stops_more R Q own f g p [] j c rest q e r = inr (inl (subst (λ x. Q x (g (f c)) q) (sym e) r))
stops_more R Q own f g p (d ∷ cs) j c rest q e r = inr
    (inr (e.0, e.1, stops_more R Q own f g e.0 cs j c rest q e.2 r))

pub if_some_at : {T : Type 0} (P : T → Type 0) (o : Option T) (x : T) → o ≡ Some x → IfSome o P
    → P x
if_some_at P None x is h = absurd cc
if_some_at P (Some y) x is h = let same : y ≡ x = cc in subst P same h

pub if_err_is : {T E : Type 0} (P : E → Type 0) (r : Result T E) (x : E) → r ≡ Err x → P x
    → IfErr r P
if_err_is P (Ok t) x is h = tt
if_err_is P (Err e) x is h = let same : x ≡ e = cc in subst P same h

pub nothing_left : {X : Type 0} (l : List X) → length l ≡ 0 → l ≡ []
nothing_left [] h = refl
nothing_left (x ∷ xs) h = absurd (omega arith)

pub match_err : {T E : Type 0} (X Y : Type 0) (r : Result T E) (e : E) → r ≡ Err e → Y
    → MatchResult r (λ _. X) (λ _. Y)
match_err X Y (Ok t) e is y = absurd cc
match_err X Y (Err f) e is y = y
