-- A list takes actions, one after another or as a run.
use Rattle.std.proofs.Common.{ℕ, ◌≡◌, ◌<◌, ◌+◌, List, [], ◌∷◌, ◌++◌, get_or, length, map, refl, ap, sym, ◌∙◌, append_assoc, inl, inr, arith}
use Rattle.std.proofs.lemmas.List.{append-nil, length-append, length-map, map-append}
use Rattle.std.proofs.Common.{Option, Some, None, Result, Ok, Err, subst}
use Rattle.std.proofs.lemmas.Result.{IfErr-at_err, IfOk-at_ok}
use Rattle.std.specs.List.{FoldsTo}
use Rattle.std.specs.Option.{option_map}
use Rattle.esc_frame.specs.declared.error.ParseError.{ParseError}
use Rattle.esc_actions.specs.Writable.{EmittedAreWritable}
use Rattle.esc_parse.proofs.Lists.ResultIsError.{ok_is_no_error, same_error}
use Rattle.esc_parse.specs.Calls.{FindsFirstList, FindsFirsts}
use Rattle.esc_parse.specs.Firsts.{IsFirstStop}
use Rattle.esc_parse.specs.declared.parser.Parser.{Parser}
use Rattle.esc_actions.specs.declared.action.Action.{Action}
use Rattle.esc_actions.specs.declared.action.Action.TheVariants as action
use Rattle.esc_actions.specs.Values.{Value, value_of}
use Rattle.esc_parse.specs.Collected.{Adds, AddsSome, Gathers}
use Rattle.esc_parse.specs.Given.{At, StopsAt, first_of}
use Rattle.esc_parse.specs.declared.sink.Collect.{Collect}
use Rattle.esc_parse.specs.declared.sink.First.{First}
use Rattle.fallible_alloc.specs.Refusals.{Refused}

module _ {A : Type 0} (f : ℕ → Action A) where
  -- a list takes a run as one with the same actions does
  pub gathers_from : (xs : List ℕ) (p r q : Collect A) → 0 < length xs
      → r.actions.items ≡ p.actions.items → FoldsTo Gathers r (map f xs) q
      → FoldsTo Gathers p (map f xs) q
  gathers_from [] p r q some e h = absurd (omega arith)
  gathers_from (x ∷ xs) p r q some e (j, t, h) = (j, t ∙ ap (λ is. is ++ f x ∷ []) e, h)

  -- and stays as it was if there is no room
  pub gathers_none : (xs : List ℕ) (p q : Collect A) → 0 < length xs
      → q.actions.items ≡ p.actions.items
      → Refused A
      → StopsAt ⊥ Gathers (λ p a q. (q.actions.items ≡ p.actions.items) × Refused A) p (map f xs) q
  gathers_none [] p q some e r = absurd (omega arith)
  gathers_none (x ∷ xs) p q some e r = inr (inl (e, r))

-- a list is refused a place for an action
abbrev pub Full : {A : Type 0} → Collect A → Action A → Collect A → Type 0
Full {A} p a q = (q.actions.items ≡ p.actions.items) × Refused A

pub adds_none : {A : Type 0} (had all : List (Action A)) → all ≡ had → Adds had [] all
adds_none had all e = ([], e ∙ sym (append-nil had), refl)

pub adds_more : {A : Type 0} (had mid all : List (Action A)) (vs ws : List (Value A))
    → Adds had vs mid → Adds mid ws all → Adds had (vs ++ ws) all
adds_more had mid all vs ws (one, is, of) (two, same, more) = (
  one ++ two,
  same ∙ ap (λ l. l ++ two) is ∙ append_assoc had one two,
  map-append value_of one two ∙ ap (λ l. l ++ map value_of two) of ∙ ap (λ l. vs ++ l) more,
)

pub adds_some : {A : Type 0} (had mid all : List (Action A)) (vs ws : List (Value A))
    → Adds had vs mid → AddsSome mid ws all → AddsSome had (vs ++ ws) all
adds_some had mid all vs ws one (prefix, rest, whole, two) = (
  vs ++ prefix,
  rest,
  ap (λ l. vs ++ l) whole ∙ sym (append_assoc vs prefix rest),
  adds_more had mid all vs prefix one two,
)

pub adds_one : {A : Type 0} (had all : List (Action A)) (a : Action A) (v : Value A)
    → all ≡ had ++ a ∷ [] → value_of a ≡ v → Adds had (v ∷ []) all
adds_one had all a v e is = (a ∷ [], e, ap (λ x. x ∷ []) is)

-- those that came after none are all
pub adds_all : {A : Type 0} (had all : List (Action A)) (vs : List (Value A)) → had ≡ []
    → Adds had vs all → map value_of all ≡ vs
adds_all had all vs e (more, is, of) =
    ap (map value_of) (is ∙ ap (λ l. l ++ more) e) ∙ of

-- how many there are then, of lists that are seen as slices
pub counts_more : {A : Type 0} (had all now later : List (Action A)) (vs : List (Value A))
    → had ≡ now → all ≡ later → Adds now vs later → length all ≡ length had + length vs
counts_more had all now later vs h a (more, is, of) =
    ap length (a ∙ is ∙ ap (λ l. l ++ more) (sym h)) ∙ length-append had more
    ∙ ap (λ n. length had + n) (sym (length-map more value_of) ∙ ap length of)

-- the values that it was given, one after another, were appended
pub gathers : {A : Type 0} (p : Collect A) (vs : List (Value A)) (q : Collect A)
    → FoldsTo (At value_of Gathers) p vs q → Adds p.actions.items vs q.actions.items
gathers p [] q e = adds_none _ _ (ap (λ x. x.actions.items) (sym e))
gathers p (v ∷ vs) q (j, (a, is, t), rest) =
    adds_more p.actions.items j.actions.items q.actions.items (v ∷ []) vs
    (adds_one _ _ a v t is) (gathers j vs q rest)

-- or a prefix of it
pub gathers_some : {A : Type 0} (own : Type 0) (p : Collect A) (vs : List (Value A))
    (q : Collect A) → StopsAt own (At value_of Gathers) (At value_of Full) p vs q
    → AddsSome p.actions.items vs q.actions.items
gathers_some own p [] q e = ([], [], refl, adds_none _ _ (ap (λ x. x.actions.items) (sym e.1)))
gathers_some own p (v ∷ vs) q (inl e) =
    ([], v ∷ vs, refl, adds_none _ _ (ap (λ x. x.actions.items) (sym e.1)))
gathers_some own p (v ∷ vs) q (inr (inl r)) = ([], v ∷ vs, refl, adds_none _ _ r.2.0)
gathers_some own p (v ∷ vs) q (inr (inr (j, (a, is, t), rest))) =
    adds_some p.actions.items j.actions.items q.actions.items (v ∷ []) vs
    (adds_one _ _ a v t is) (gathers_some own j vs q rest)

-- a sink that keeps the first action takes a run by its first character
abbrev pub Keeps : {A : Type 0} → First A → Action A → First A → Type 0
Keeps p a q = q.action ≡ first_of p.action a

some_first : {T : Type 0} (o : Option T) (t : T) → (f : T) × (first_of o t ≡ Some f)
some_first None t = (t, refl)
some_first (Some f) t = (f, refl)

passes_over : {A : Type 0} (xs : List ℕ) (q : First A) (a : Action A) → q.action ≡ Some a
    → FoldsTo Keeps q (map action.Print xs) q
passes_over [] q a e = refl
passes_over (x ∷ xs) q a e =
    (q, e ∙ sym (ap (λ o. first_of o (action.Print x)) e), passes_over xs q a e)

pub first_taken : {A : Type 0} (x : ℕ) (xs : List ℕ) (p q : First A)
    → Keeps p (action.Print x) q → FoldsTo Keeps p (map action.Print (x ∷ xs)) q
first_taken x xs p q k =
    let (a, is) = some_first p.action (action.Print x) in (q, k, passes_over xs q a (k ∙ is))

pub first_byte : {A : Type 0} (xs : List ℕ) (d : ℕ) (p q : First A) → 0 < length xs
    → Keeps p (action.Print (get_or xs 0 d)) q → FoldsTo Keeps p (map action.Print xs) q
first_byte [] d p q some k = absurd (omega (arith, some))
first_byte (x ∷ xs) d p q some k = first_taken x xs p q k

-- the actions that were appended to an empty list are a list of their own
pub lists_found : {A L : Type 0} (items : L → List (Action A)) (old : Parser A) (b : List ℕ)
    (had : List (Action A)) (r : Result (Option ℕ) ParseError) (o : Option ℕ) (new : Parser A)
    (l : L) → r ≡ Ok o → had ≡ [] → FindsFirsts old b had r new (items l)
    → FindsFirstList items old b (Ok (option_map (λ n. (l, n)) o)) new
lists_found {A} items old b had r (Some n) new l is none found =
    let P : List (Value A) → Type 0 = λ vs. EmittedAreWritable vs in record {
      count = IfOk-at_ok _ is found.count;
      some = λ limit s h.
          let w = IfOk-at_ok _ is (found.some limit s h) in
          let Q : List (Value A) → Type 0 = λ vs. IsFirstStop limit s b vs n in
          (w.0, subst Q (sym (adds_all _ _ _ none w.2)) w.1);
      handed_out = λ limit s h.
          let w = IfOk-at_ok _ is (found.some limit s h) in
          subst P (sym (adds_all _ _ _ none w.2)) (found.handed_out limit s h n);
      none = λ limit s h. tt;
      refused = λ limit s h. tt;
      failed = λ h. absurd (ok_is_no_error _ _ _ is (found.failed h).0);
    }
lists_found items old b had r None new l is none found = record {
  count = tt;
  some = λ limit s h. tt;
  handed_out = λ limit s h. tt;
  none = λ limit s h. let w = IfOk-at_ok _ is (found.none limit s h) in (w.0, w.2);
  refused = λ limit s h. tt;
  failed = λ h. absurd (ok_is_no_error _ _ _ is (found.failed h).0);
}

pub list_refused : {A L : Type 0} (items : L → List (Action A)) (old : Parser A) (b : List ℕ)
    (had all : List (Action A)) (r : Result (Option ℕ) ParseError) (e : ParseError)
    (new : Parser A) → r ≡ Err e → FindsFirsts old b had r new all
    → FindsFirstList items old b (Err e) new
list_refused items old b had all r e new is found = record {
  count = tt;
  some = λ limit s h. tt;
  handed_out = λ limit s h. tt;
  none = λ limit s h. tt;
  refused = λ limit s h.
      let f = IfErr-at_err _ is (found.refused limit s h) in (f.0, f.1, f.2.0, f.3);
  failed = λ h. let f = found.failed h in (same_error _ _ _ is f.0, f.1);
}
