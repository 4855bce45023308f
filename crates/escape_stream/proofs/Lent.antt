-- A sink of borrowed actions takes actions: it is given their values.
use Rattle.std.proofs.Common.{◌≡◌, ◌⊎◌, ◌<◌, ℕ, Bor, true, List, length, arith, MatchResult, Result, Ok, Err, [], ◌∷◌, ◌++◌, map, refl, ap, sym, ◌∙◌, subst, append_assoc, inl, inr}
use Rattle.std.proofs.lemmas.List.{append-nil}
use Rattle.std.proofs.Math.Logic.{⊎_map}
use Rattle.std.proofs.lemmas.Bool.{and_parts}
use Rattle.std.proofs.lemmas.Bool.Decides.{nat_tests}
use Rattle.std.proofs.lemmas.Str.{IsUtf8-from_ascii, chars-IsAscii, chars-nil}
use Rattle.std.proofs.lemmas.Str.Ascii.{IsAscii-cons, IsAscii-nil}
use Rattle.std.specs.List.{FoldsTo, flat_map, list_all}
use Rattle.std.specs.Str.{IsAscii, IsUtf8, chars}
use Rattle.esc_values.specs.Clear.{is_clear}
use Rattle.esc_frame.specs.Scans.{is_text_byte}
use Rattle.esc_frame.specs.Events.{Awaits, MayGet}
use Rattle.esc_actions.specs.Values.{Value, print, value_of}
use Rattle.esc_actions.specs.declared.action.Action.{Action}
use Rattle.esc_actions.specs.declared.action.Action.TheVariants as action
use Rattle.esc_parse.specs.Given.{At, AnyAt, AnyBy, By, Receives, StopsAt}
use Rattle.escape_stream.specs.Borrowed.{Awaits as AwaitsRefs, Gets, GetsSome, IsSome, Stops, values_of}
use Rattle.escape_stream.specs.Lent.{Ends, Lends, LendsNot, MayLend}
use Rattle.escape_stream.specs.declared.borrowed.ActionRef.{ActionRef}
use Rattle.escape_stream.specs.declared.borrowed.ActionRef.TheVariants.{Text, Print, Control, Sgr, Sequence, Command, Owned}
use Rattle.escape_stream.specs.declared.borrow_adapter.BorrowAdapter.{BorrowAdapter}

-- a run of ASCII is UTF-8, and its bytes are its characters
text_small : (b : ℕ) → is_text_byte b ≡ true → b < 128
text_small b h = grind (arith, nat_tests)

text_ascii : (xs : List ℕ) → list_all is_text_byte xs ≡ true → IsAscii xs
text_ascii [] h = IsAscii-nil
text_ascii (x ∷ xs) h = let k = and_parts (is_text_byte x) (list_all is_text_byte xs) h in
    IsAscii-cons x xs (text_small x k.0) (text_ascii xs k.1)

pub text_utf8 : (xs : List ℕ) → list_all is_text_byte xs ≡ true → IsUtf8 xs
text_utf8 xs h = IsUtf8-from_ascii xs (text_ascii xs h)

pub text_chars : (xs : List ℕ) → list_all is_text_byte xs ≡ true → chars xs ≡ xs
text_chars xs h = chars-IsAscii xs (text_ascii xs h)

text_clear : (b : ℕ) → is_text_byte b ≡ true → is_clear b ≡ true
text_clear b h = grind (arith, nat_tests)

bytes_clear : (xs : List ℕ) → list_all is_text_byte xs ≡ true → list_all is_clear xs ≡ true
bytes_clear [] h = refl
bytes_clear (x ∷ xs) h = let k = and_parts (is_text_byte x) (list_all is_text_byte xs) h in
    rw (text_clear x k.0) (bytes_clear xs k.1)

-- and none is a control
pub run_clear : (xs text : List ℕ) → list_all is_text_byte xs ≡ true → chars text ≡ xs
    → list_all is_clear (chars text) ≡ true
run_clear xs text h is = ap (list_all is_clear) is ∙ bytes_clear xs h

-- characters that were begun, and one more
one_more : {A : Type 0} (xs : List ℕ) (c : ℕ) (ys : List (Value A))
    → map print (xs ++ c ∷ []) ++ ys ≡ map print xs ++ print c ∷ ys
one_more [] c ys = refl
one_more (x ∷ xs) c ys = ap (λ l. print x ∷ l) (one_more xs c ys)

-- the last of a run
last_of : {A : Type 0} (xs : List ℕ) (c : ℕ)
    → map print (xs ++ c ∷ []) ≡ map {B = Value A} print xs ++ print c ∷ []
last_of [] c = refl
last_of (x ∷ xs) c = ap (λ l. print x ∷ l) (last_of xs c)

-- a text that means something is not empty
no_text : {A : Type 0} (t : List ℕ) (v : Value A) (vs : List (Value A)) → t ≡ []
    → map print (chars t) ≡ v ∷ vs → ⊥
no_text {A} t v vs none e =
    let empty : [] ≡ v ∷ vs = sym (ap (λ x. map {B = Value A} print (chars x)) none
    ∙ ap (map print) chars-nil) ∙ e in
    absurd cc

some_ends : {A : Type 0} (r : ActionRef (Action A)) (vs : List (Value A)) (v : Value A)
    (ws : List (Value A)) → values_of r ≡ vs ++ v ∷ ws → IsSome r
some_ends (Text t) [] v ws e = λ none. no_text t.now v ws none e
some_ends (Text t) (x ∷ xs) v ws e = λ none. no_text t.now x (xs ++ v ∷ ws) none e
some_ends (Print c) vs v ws e = tt
some_ends (Control code) vs v ws e = tt
some_ends (Sgr s) vs v ws e = tt
some_ends (Sequence params truncated control) vs v ws e = tt
some_ends (Command t) vs v ws e = tt
some_ends (Owned a) vs v ws e = tt

module _ {S A : Type 0} (R : S → ActionRef (Action A) → S → Type 0) where
  abbrev with_one : BorrowAdapter S → ℕ → BorrowAdapter S
  with_one p c = record { sink = p.sink; begun = p.begun ++ c ∷ [] }

  -- one action, as it is handed on
  module _ (p q : BorrowAdapter S) (a : Action A) (r : ActionRef (Action A)) (none : p.begun ≡ [])
      (done : q.begun ≡ []) (means : values_of r ≡ value_of a ∷ []) where
    ends_alone : Ends p a r
    ends_alone = means ∙ ap (λ l. map print l ++ value_of a ∷ []) (sym none)

    pub may_alone : (is_ready : Type 0) (may : S → ActionRef (Action A) → Type 0)
        → is_ready ⊎ MayLend may p a → is_ready ⊎ may p.sink r
    may_alone is_ready may w = ⊎_map (λ x. x) (λ x. x r ends_alone) w

    pub alone_given : (Q : S → ActionRef (Action A) → S → Type 0) {E : Type 0}
        (result : Result (Unit {0}) E)
        → MatchResult result (λ _. R p.sink r q.sink) (λ _. Q p.sink r q.sink)
        → MatchResult result (λ _. Lends R p a q) (λ _. LendsNot Q p a q)
    alone_given Q (Ok x) h = inr (done, r, ends_alone, h)
    alone_given Q (Err e) h = (r, ends_alone, h)

  pub lends_run : (cs : List ℕ) (p q : BorrowAdapter S) (r : ActionRef (Action A)) → 0 < length cs
      → q.begun ≡ []
      → values_of r ≡ map print (p.begun ++ cs) → R p.sink r q.sink
      → FoldsTo (Lends R) p (map action.Print cs) q
  lends_run [] p q r some done means took = absurd (omega arith)
  lends_run (c ∷ []) p q r some done means took =
      (q, inr (done, r, means ∙ last_of p.begun c, took), refl)
  lends_run (c ∷ d ∷ cs) p q r some done means took = (
    with_one p c,
    inl (c, refl, refl, refl),
    lends_run (d ∷ cs) (with_one p c) q r (omega arith) done
        (means ∙ ap (map print) (sym (append_assoc p.begun (c ∷ []) (d ∷ cs)))) took,
  )

  pub run_refused : (Q : S → ActionRef (Action A) → S → Type 0) (cs : List ℕ)
      (p q : BorrowAdapter S)
      (r : ActionRef (Action A)) → 0 < length cs
      → values_of r ≡ map print (p.begun ++ cs) → Q p.sink r q.sink
      → StopsAt ⊥ (Lends R) (LendsNot Q) p (map action.Print cs) q
  run_refused Q [] p q r some means refused = absurd (omega arith)
  run_refused Q (c ∷ []) p q r some means refused =
      inr (inl (r, means ∙ last_of p.begun c, refused))
  run_refused Q (c ∷ d ∷ cs) p q r some means refused =
      inr (inr (
        with_one p c,
        inl (c, refl, refl, refl),
        run_refused Q (d ∷ cs) (with_one p c) q r (omega arith)
            (means ∙ ap (map print) (sym (append_assoc p.begun (c ∷ []) (d ∷ cs)))) refused,
      ))

  pub may_run : (may : S → ActionRef (Action A) → Type 0) (cs : List ℕ) (p : BorrowAdapter S)
      (r : ActionRef (Action A)) → 0 < length cs → values_of r ≡ map print (p.begun ++ cs)
      → Awaits (MayLend may) (Lends R) p (map action.Print cs) → may p.sink r
  may_run may [] p r some means w = absurd (omega arith)
  may_run may (c ∷ []) p r some means w = w.0 r (means ∙ last_of p.begun c)
  may_run may (c ∷ d ∷ cs) p r some means w =
      may_run may (d ∷ cs) (with_one p c) r (omega arith)
      (means ∙ ap (map print) (sym (append_assoc p.begun (c ∷ []) (d ∷ cs))))
      (w.1 (with_one p c) (inl (c, refl, refl, refl)))

  -- the values of the run that ends here, and those after it
  ends : (p : BorrowAdapter S) (a : Action A) (r : ActionRef (Action A)) (v : Value A)
      (vs : List (Value A))
      → value_of a ≡ v → Ends p a r → values_of r ++ vs ≡ map print p.begun ++ v ∷ vs
  ends p a r v vs is means =
      ap (λ l. l ++ vs) means ∙ append_assoc (map print p.begun) (value_of a ∷ []) vs
      ∙ ap (λ x. map print p.begun ++ x ∷ vs) is

  -- one more borrowed action
  one_ref : (rs : List (ActionRef (Action A))) (r : ActionRef (Action A)) (vs : List (Value A))
      → flat_map values_of rs ++ (values_of r ++ vs) ≡ flat_map values_of (rs ++ r ∷ []) ++ vs
  one_ref [] r vs = ap (λ l. l ++ vs) (sym (append-nil (values_of r)))
  one_ref (x ∷ rs) r vs =
      append_assoc (values_of x) (flat_map values_of rs) (values_of r ++ vs)
      ∙ ap (λ l. values_of x ++ l) (one_ref rs r vs)
      ∙ sym (append_assoc (values_of x) (flat_map values_of (rs ++ r ∷ [])) vs)

  folds_one : (rs : List (ActionRef (Action A))) (p mid : S) (r : ActionRef (Action A)) (q : S)
      → FoldsTo R p rs mid → R mid r q → FoldsTo R p (rs ++ r ∷ []) q
  folds_one [] p mid r q e t = (q, subst (λ x. R x r q) (sym e) t, refl)
  folds_one (x ∷ rs) p mid r q (j, t, rest) u = (j, t, folds_one rs j mid r q rest u)

  -- all that was given, in borrowed actions
  pub gets_refs : (p : BorrowAdapter S) (vs : List (Value A)) (q : BorrowAdapter S)
      → FoldsTo (At value_of (Lends R)) p vs q → q.begun ≡ []
      → Gets R p.sink (map print p.begun ++ vs) q.sink
  gets_refs p [] q e done =
      ([], sym (ap (λ l. map print l ++ []) (ap (λ x. x.begun) e ∙ done)), ap (λ x. x.sink) e)
  gets_refs p (v ∷ vs) q (j, (a, is, inl (c, chr, more, same)), rest) done =
      let w = gets_refs j vs q rest done in (
        w.0,
        w.1 ∙ ap (λ l. map print l ++ vs) more ∙ one_more p.begun c vs
            ∙ ap (λ x. map print p.begun ++ x ∷ vs) (sym chr ∙ is),
        subst (λ x. FoldsTo R x w.0 q.sink) same w.2,
      )
  gets_refs p (v ∷ vs) q (j, (a, is, inr (none, r, means, took)), rest) done =
      let w = gets_refs j vs q rest done in (
        r ∷ w.0,
        ap (λ l. l ++ flat_map values_of w.0) means
            ∙ ap (λ l. (map print p.begun ++ value_of a ∷ []) ++ l)
            (w.1 ∙ ap (λ l. map print l ++ vs) none)
            ∙ append_assoc (map print p.begun) (value_of a ∷ []) vs
            ∙ ap (λ x. map print p.begun ++ x ∷ vs) is,
        (j.sink, took, w.2),
      )

  -- a prefix that was given, and why no more was
  pub refs_stop : (Q : S → ActionRef (Action A) → S → Type 0) (own : Type 0) (p : BorrowAdapter S)
      (vs : List (Value A)) (q : BorrowAdapter S) → q.begun ≡ []
      → StopsAt own (At value_of (Lends R)) (At value_of (LendsNot Q)) p vs q
      → Stops own R Q p.sink (map print p.begun ++ vs) q.sink
  refs_stop Q own p [] q done e =
      ([], map print p.begun ++ [], p.sink, refl, refl, inl (e.0, ap (λ x. x.sink) e.1))
  refs_stop Q own p (v ∷ vs) q done (inl e) =
      ([], map print p.begun ++ v ∷ vs, p.sink, refl, refl, inl (e.0, ap (λ x. x.sink) e.1))
  refs_stop Q own p (v ∷ vs) q done (inr (inl (a, is, (r, means, refused)))) = (
    [],
    map print p.begun ++ v ∷ vs,
    p.sink,
    refl,
    refl,
    inr (
      r,
      vs,
      sym (ap (λ l. l ++ vs) means ∙ append_assoc (map print p.begun) (value_of a ∷ []) vs
          ∙ ap (λ x. map print p.begun ++ x ∷ vs) is),
      refused,
    ),
  )
  refs_stop Q own p (v ∷ vs) q done (inr (inr (j, (a, is, inl (c, chr, more, same)), rest))) =
      let w = refs_stop Q own j vs q done rest in (
        w.0,
        w.1,
        w.2,
        sym (ap (λ l. map print l ++ vs) more ∙ one_more p.begun c vs
            ∙ ap (λ x. map print p.begun ++ x ∷ vs) (sym chr ∙ is)) ∙ w.3,
        subst (λ x. FoldsTo R x w.0 w.2) same w.4,
        w.5,
      )
  refs_stop Q own p (v ∷ vs) q done (inr (inr (j, (a, is, inr (none, r, means, took)), rest))) =
      let w = refs_stop Q own j vs q done rest in (
        r ∷ w.0,
        w.1,
        w.2,
        sym (ap (λ l. (l ++ flat_map values_of w.0) ++ w.1) means
            ∙ append_assoc (map print p.begun ++ value_of a ∷ []) (flat_map values_of w.0) w.1
            ∙ ap (λ l. (map print p.begun ++ value_of a ∷ []) ++ l)
            (sym w.3 ∙ ap (λ l. map print l ++ vs) none)
            ∙ append_assoc (map print p.begun) (value_of a ∷ []) vs
            ∙ ap (λ x. map print p.begun ++ x ∷ vs) is),
        (j.sink, took, w.4),
        w.5,
      )

  module _ (may : S → ActionRef (Action A) → Type 0) (old : S) (all : List (Value A))
      (can : AwaitsRefs may R old all) where
    -- who awaits borrowed actions with these values may be given them by actions
    pub awaits_lent : (rs : List (ActionRef (Action A))) (p : BorrowAdapter S) (vs : List (Value A))
        → all ≡ flat_map values_of rs ++ (map print p.begun ++ vs) → FoldsTo R old rs p.sink
        → Awaits (AnyAt value_of (MayLend may)) (At value_of (Lends R)) p vs
    awaits_lent rs p [] whole took = tt
    awaits_lent rs p (v ∷ vs) whole took = (
      λ a is r means. can rs r vs p.sink (some_ends r (map print p.begun) (value_of a) [] means)
          (whole ∙ ap (λ l. flat_map values_of rs ++ l) (sym (ends p a r v vs is means))) took,
      λ q (a, is, step). elim step [
        | inl x ↦
            let (c, chr, more, same) = x in
            awaits_lent rs q vs
            (whole ∙ ap (λ l. flat_map values_of rs ++ l)
            (sym (ap (λ l. map print l ++ vs) more ∙ one_more p.begun c vs
            ∙ ap (λ x. map print p.begun ++ x ∷ vs) (sym chr ∙ is))))
            (subst (λ x. FoldsTo R old rs x) (sym same) took)
        | inr x ↦
            let (none, r, means, taken) = x in
            awaits_lent (rs ++ r ∷ []) q vs
            (whole ∙ ap (λ l. flat_map values_of rs ++ l) (sym (ends p a r v vs is means))
            ∙ one_ref rs r vs ∙ ap
            (λ l. flat_map values_of (rs ++ r ∷ []) ++ (map print l ++ vs)) (sym none))
            (folds_one rs old p.sink r q.sink took taken)
      ],
    )

  -- a run of characters at once
  module _ (cs : List ℕ) (text : Bor (List ℕ)) (is : chars text.now ≡ cs) (some : 0 < length cs)
      (p : BorrowAdapter S) (none : p.begun ≡ []) where
    meant : values_of {A = A} (Text text) ≡ map print (p.begun ++ cs)
    meant = ap (map print) is ∙ ap (λ l. map print (l ++ cs)) (sym none)

    pub may_text : (is_ready : S → Type 0) (may : S → ActionRef (Action A) → Type 0)
        → MayGet (λ x. is_ready x.sink) (MayLend may) (Lends R) p (map action.Print cs)
        → is_ready p.sink ⊎ may p.sink (Text text)
    may_text is_ready may w =
        ⊎_map (λ r. r) (may_run may cs p (Text text) some meant) w

    pub text_given : (Q : S → ActionRef (Action A) → S → Type 0) {E : Type 0}
        (result : Result (Unit {0}) E) (q : BorrowAdapter S) → q.begun ≡ []
        → MatchResult result (λ _. R p.sink (Text text) q.sink) (λ _. Q p.sink (Text text) q.sink)
        → Receives ⊥ (Lends R) (LendsNot Q) result p (map action.Print cs) q
    text_given Q (Ok x) q done h = lends_run cs p q (Text text) some done meant h
    text_given Q (Err e) q done h = run_refused Q cs p q (Text text) some meant h

  -- one action, by its kind
  module _ {V : Type 0} (IsIt : Action A → V → Type 0) (p : BorrowAdapter S) (none : p.begun ≡ [])
      (vs : List V) (v : V) (a : Action A) (r : ActionRef (Action A)) (one : vs ≡ v ∷ [])
      (is : IsIt a v)
      (means : values_of r ≡ value_of a ∷ []) where
    ends_one : Ends p a r
    ends_one = means ∙ ap (λ l. map print l ++ value_of a ∷ []) (sym none)

    pub may_one : (is_ready : S → Type 0) (may : S → ActionRef (Action A) → Type 0)
        → MayGet (λ x. is_ready x.sink) (AnyBy IsIt (MayLend may)) (By IsIt (Lends R)) p vs
        → is_ready p.sink ⊎ may p.sink r
    may_one is_ready may w =
        ⊎_map (λ x. x) (λ x. (subst (Awaits (AnyBy IsIt (MayLend may)) (By IsIt (Lends R)) p)
        one x).0 a is r ends_one) w

    pub one_given : (q : BorrowAdapter S) → q.begun ≡ [] → R p.sink r q.sink
        → FoldsTo (By IsIt (Lends R)) p vs q
    one_given q done took =
        subst (λ l. FoldsTo (By IsIt (Lends R)) p l q) (sym one)
        (q, (a, is, inr (done, r, ends_one, took)), refl)

    pub one_refused : (Q : S → ActionRef (Action A) → S → Type 0) (q : BorrowAdapter S)
        → Q p.sink r q.sink
        → StopsAt ⊥ (By IsIt (Lends R)) (By IsIt (LendsNot Q)) p vs q
    one_refused Q q refused =
        subst (λ l. StopsAt ⊥ (By IsIt (Lends R)) (By IsIt (LendsNot Q)) p l q) (sym one)
        (inr (inl (a, is, (r, ends_one, refused))))

  -- the same for a call that begins and ends with no character begun
  module _ (p q : BorrowAdapter S) (vs : List (Value A)) (sink last : S) (first : p.sink ≡ sink)
      (none : p.begun ≡ []) (after : last ≡ q.sink) (done : q.begun ≡ []) where
    pub gets_lent : FoldsTo (At value_of (Lends R)) p vs q → Gets R sink vs last
    gets_lent h =
        subst (λ x. Gets R sink vs x) (sym after)
        (subst (λ x. Gets R x vs q.sink) first
        (subst (λ l. Gets R p.sink (map print l ++ vs) q.sink) none (gets_refs p vs q h done)))

    pub stops_lent : (Q : S → ActionRef (Action A) → S → Type 0) (own : Type 0)
        → StopsAt own (At value_of (Lends R)) (At value_of (LendsNot Q)) p vs q
        → Stops own R Q sink vs last
    stops_lent Q own h =
        subst (λ x. Stops own R Q sink vs x) (sym after)
        (subst (λ x. Stops own R Q x vs q.sink) first
        (subst (λ l. Stops own R Q p.sink (map print l ++ vs) q.sink) none
        (refs_stop Q own p vs q done h)))

  pub may_lend : (may : S → ActionRef (Action A) → Type 0) (old : S) (p : BorrowAdapter S)
      (vs : List (Value A)) → p.sink ≡ old → p.begun ≡ []
      → AwaitsRefs may R old vs → Awaits (AnyAt value_of (MayLend may)) (At value_of (Lends R)) p vs
  may_lend may old p vs same none can =
      awaits_lent may old vs can [] p vs (ap (λ l. map print l ++ vs) (sym none)) (sym same)

-- the same relation, seen through f
module _ {C S A : Type 0} (f : C → S) (R : S → ActionRef (Action A) → S → Type 0) where
  folds_through : (c : C) (rs : List (ActionRef (Action A))) (d : C)
      → FoldsTo (λ p a q. R (f p) a (f q)) c rs d → FoldsTo R (f c) rs (f d)
  folds_through c [] d e = ap f e
  folds_through c (r ∷ rs) d (j, t, rest) = (f j, t, folds_through j rs d rest)

  pub gets_through : (c : C) (vs : List (Value A)) (d : C)
      → Gets (λ p a q. R (f p) a (f q)) c vs d → Gets R (f c) vs (f d)
  gets_through c vs d (rs, means, h) = (rs, means, folds_through c rs d h)

  pub stops_through : (own : Type 0) (c : C) (vs : List (Value A)) (d : C)
      → Stops own (λ p a q. R (f p) a (f q)) (λ p a q. ⊥) c vs d
      → own × ((last : S) × GetsSome R (f c) vs last)
  stops_through own c vs d (rs, rest, mid, whole, h, inl (o, e)) = (
    o,
    (f mid, (flat_map values_of rs, rest, whole, (rs, refl, folds_through c rs mid h))),
  )
  stops_through own c vs d (rs, rest, mid, whole, h, inr (r, later, is, never)) = absurd never

  pub awaits_through : (may : S → ActionRef (Action A) → Type 0) (c : C) (vs : List (Value A))
      → AwaitsRefs may R (f c) vs
      → AwaitsRefs (λ p a. may (f p) a) (λ p a q. R (f p) a (f q)) c vs
  awaits_through may c vs can =
      λ rs r later q some whole h. can rs r later (f q) some whole (folds_through c rs q h)
