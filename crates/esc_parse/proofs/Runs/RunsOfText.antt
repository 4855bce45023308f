-- A run of text: as events, and as actions.
use Rattle.std.proofs.Common.{◌≡◌, ◌<◌, ◌+◌, ℕ, true, List, [], ◌∷◌, ◌++◌, length, map, take, drop, get_or, refl, ap, sym, subst, ◌∙◌, append_assoc}
use Rattle.std.proofs.Common.{take-append-drop, arith, inl, inr, ◌⊎◌, Option}
use Rattle.std.proofs.lemmas.List.{append-nil, take_more, map-append}
use Rattle.std.proofs.lemmas.Str.{encodes-chars, chars-nil, chars_past_char}
use Rattle.std.specs.List.{FoldsTo}
use Rattle.std.specs.Char.{encode_utf8}
use Rattle.std.specs.Str.{IsUtf8, chars, encode_utf8_all}
use Rattle.esc_frame.specs.Events.{Awaits, Event, MayGet, StopsAt as StopsAtEvent}
use Rattle.esc_frame.specs.Events.Event.{Print}
use Rattle.esc_frame.proofs.Emits.EventsFold.{stops_then}
use Rattle.esc_frame.proofs.Emits.MayAfterSome.{get_first, get_rest}
use Rattle.esc_parse.proofs.Lists.StepsOverLists.{FoldsTo-append, StopsAt-append, StopsAt-longer}
use Rattle.esc_parse.specs.Fed.{Hooks}
use Rattle.esc_parse.specs.Given.{AnyAt, At, StopsAt}
use Rattle.esc_actions.specs.Values.{Mode, mode_after, event_values, value_of, wants_memory}
use Rattle.esc_actions.specs.declared.action.Action.{Action}
use Rattle.esc_actions.specs.declared.action.Action.TheVariants as action
use Rattle.esc_parse.specs.declared.performer.Performer.{Performer}
use Rattle.fallible_alloc.specs.Refusals.{Refused}

-- one character after another
module _ {S V : Type 0} (print : ℕ → V) (R Q : S → V → S → Type 0) (xs : List ℕ) (i : ℕ)
    (l : i < length xs) (p j q : S)
    (so : FoldsTo R p (map print (take i xs)) j) where
  next : map print (take (i + 1) xs) ≡ map print (take i xs) ++ print (get_or xs i 0) ∷ []
  next = ap (map print) (take_more xs i 0 l) ∙ map-append print (take i xs) (get_or xs i 0 ∷ [])

  pub takes_next : R j (print (get_or xs i 0)) q → FoldsTo R p (map print (take (i + 1) xs)) q
  takes_next h =
      subst (λ vs. FoldsTo R p vs q) (sym next)
      (FoldsTo-append R p (map print (take i xs)) j (print (get_or xs i 0) ∷ []) q so (q, h, refl))

  pub stops_next : Q j (print (get_or xs i 0)) q → StopsAt ⊥ R Q p (map print xs) q
  stops_next h =
      let all : map print (take (i + 1) xs) ++ map print (drop (i + 1) xs) ≡ map print xs =
      sym (map-append print (take (i + 1) xs) (drop (i + 1) xs))
      ∙ ap (map print) (take-append-drop (i + 1) xs) in
      let here : StopsAt ⊥ R Q p (map print (take (i + 1) xs)) q =
      subst (λ vs. StopsAt ⊥ R Q p vs q) (sym next)
      (StopsAt-append R Q ⊥ p (map print (take i xs)) j (print (get_or xs i 0) ∷ []) q so
      (inr (inl h))) in
      subst (λ vs. StopsAt ⊥ R Q p vs q) all
      (StopsAt-longer R Q ⊥ p (map print (take (i + 1) xs)) (map print (drop (i + 1) xs)) q here)

-- the characters before the rest were taken
abbrev pub HasTaken : {S V : Type 0} → (ℕ → V) → (S → V → S → Type 0) → List ℕ → List ℕ → S → S
    → Type 0
HasTaken print R text rest p q =
    (cs : List ℕ) × (chars text ≡ cs ++ chars rest) × FoldsTo R p (map print cs) q

module _ {S V : Type 0} (print : ℕ → V) (R Q : S → V → S → Type 0) (text rest later : List ℕ)
    (c : ℕ) (p j q : S) (u : IsUtf8 rest)
    (e : rest ≡ encode_utf8 c ++ later) (so : HasTaken print R text rest p j) where
  pub char_taken : R j (print c) q → HasTaken print R text later p q
  char_taken h = (
    so.0 ++ c ∷ [],
    so.1 ∙ ap (λ x. so.0 ++ x) (chars_past_char rest later c u e)
        ∙ sym (append_assoc so.0 (c ∷ []) (chars later)),
    subst (λ vs. FoldsTo R p vs q) (sym (map-append print so.0 (c ∷ [])))
        (FoldsTo-append R p (map print so.0) j (print c ∷ []) q so.2 (q, h, refl)),
  )

  pub char_stopped : Q j (print c) q → StopsAt ⊥ R Q p (map print (chars text)) q
  char_stopped h =
      let all : map print so.0 ++ print c ∷ map print (chars later) ≡ map print (chars text) =
      sym (map-append print so.0 (c ∷ chars later))
      ∙ ap (λ x. map print (so.0 ++ x)) (sym (chars_past_char rest later c u e))
      ∙ ap (map print) (sym so.1) in
      subst (λ vs. StopsAt ⊥ R Q p vs q) all
      (StopsAt-append R Q ⊥ p (map print so.0) j (print c ∷ map print (chars later)) q so.2
      (inr (inl h)))

-- who may be given the text's characters may be given the next
pub char_may : {S V : Type 0} (is_ready : S → Type 0) (may : S → V → Type 0) (print : ℕ → V)
    (R : S → V → S → Type 0) (text rest later : List ℕ) (c : ℕ) (p j : S) → IsUtf8 rest
    → rest ≡ encode_utf8 c ++ later → HasTaken print R text rest p j → (is_ready p → is_ready j)
    → MayGet is_ready may R p (map print (chars text)) → is_ready j ⊎ may j (print c)
char_may is_ready may print R text rest later c p j u e (cs, is, so) k m =
    let all : map print cs ++ (print c ∷ map print (chars later)) ≡ map print (chars text) =
    sym (map-append print cs (c ∷ chars later))
    ∙ ap (λ x. map print (cs ++ x)) (sym (chars_past_char rest later c u e))
    ∙ ap (map print) (sym is) in
    get_first is_ready may R j j (print c) (map print (chars later))
    (get_rest is_ready may R p j (map print cs) _ (map print (chars text)) all k so m)

pub chars_taken : {S V : Type 0} (print : ℕ → V) (R : S → V → S → Type 0) (text rest : List ℕ)
    (p q : S) → length rest ≡ 0
    → HasTaken print R text rest p q → FoldsTo R p (map print (chars text)) q
chars_taken print R text [] p q e so =
    subst (λ x. FoldsTo R p (map print x) q)
    (sym (so.1 ∙ ap (λ x. so.0 ++ x) chars-nil ∙ append-nil so.0)) so.2
chars_taken print R text (b ∷ rest) p q e so = absurd (omega arith)

-- a run that a sink takes is a run that its actor takes as events
module _ {S A : Type 0} (R Q : S → Action A → S → Type 0) where
  abbrev pub Takes : Performer S A → Event → Performer S A → Type 0
  Takes p e q = (limit : Option ℕ) (m : Mode) → Hooks limit p.unfinished m
      → Hooks limit q.unfinished (mode_after m e)
      × FoldsTo (At value_of R) p.sink (event_values limit m e) q.sink

  abbrev pub Refuses : Performer S A → Event → Performer S A → Type 0
  Refuses p e q = (limit : Option ℕ) (m : Mode) → Hooks limit p.unfinished m
      → StopsAt ((wants_memory e ≡ true) × Refused A) (At value_of R) (At value_of Q) p.sink
      (event_values limit m e) q.sink

  abbrev pub May : (S → Action A → Type 0) → Performer S A → Event → Type 0
  May may p e = (limit : Option ℕ) × (m : Mode) × Hooks limit p.unfinished m
      × Awaits (AnyAt value_of may) (At value_of R) p.sink (event_values limit m e)

  abbrev with_sink : Performer S A → S → Performer S A
  with_sink p s = record p { sink = s }

  one_taken : (p : Performer S A) (s : S) (x : ℕ) → R p.sink (action.Print x) s
      → Takes p (Print x) (record p { sink = s })
  one_taken p s x h = λ limit m k. (k, (s, (action.Print x, refl, h), refl))

  pub run_taken : (xs : List ℕ) (p : Performer S A) (s : S)
      → FoldsTo R p.sink (map action.Print xs) s
      → FoldsTo Takes p (map Print xs) (record p { sink = s })
  run_taken [] p s e = ap (with_sink p) e
  run_taken (x ∷ xs) p s (j, t, h) =
      (record p { sink = j }, one_taken p j x t, run_taken xs (record p { sink = j }) s h)

  pub run_awaits : (may : S → Action A → Type 0) (xs : List ℕ) (p : Performer S A)
      → Awaits (May may) Takes p (map Print xs) → Awaits may R p.sink (map action.Print xs)
  run_awaits may [] p m = tt
  run_awaits may (x ∷ xs) p ((limit, m, k, (here, more)), rest) = (
    here (action.Print x) refl,
    λ s t.
        run_awaits may xs (record p { sink = s }) (rest (record p { sink = s })
        (one_taken p s x t)),
  )

  pub run_stopped : (own : Type 0) (xs : List ℕ) (p : Performer S A) (s : S)
      → StopsAt ⊥ R Q p.sink (map action.Print xs) s
      → StopsAtEvent own Takes Refuses p (map Print xs) (record p { sink = s })
  run_stopped own [] p s e = absurd e.0
  run_stopped own (x ∷ xs) p s (inl z) = absurd z.0
  run_stopped own (x ∷ xs) p s (inr (inl h)) = (
    [],
    map Print (x ∷ xs),
    refl,
    inr
        (p, Print x, map Print xs, refl, refl, λ limit m k. inr (inl (action.Print x, refl, h))),
  )
  run_stopped own (x ∷ xs) p s (inr (inr (j, t, h))) =
      stops_then own Takes Refuses (Print x ∷ []) (map Print xs) p (record p { sink = j })
      (record p { sink = s })
      (record p { sink = j }, one_taken p j x t, refl)
      (run_stopped own xs (record p { sink = j }) s h)

-- if a run is refused, its first character may be refused
pub refuses_run : {S A : Type 0} (R Q : S → Action A → S → Type 0) (xs : List ℕ) (p q : S)
    → 0 < length xs
    → ((x : ℕ) → Q p (action.Print x) q) → StopsAt ⊥ R Q p (map action.Print xs) q
refuses_run R Q [] p q l refused = absurd (omega arith)
refuses_run R Q (x ∷ xs) p q l refused = inr (inl (refused x))

-- a text has characters
some_spelled : (cs text : List ℕ) → encode_utf8_all cs ≡ text → 0 < length text → 0 < length cs
some_spelled [] text e l = absurd (omega (arith, ap length e))
some_spelled (c ∷ cs) text e l = omega arith

pub some_chars : (text : List ℕ) → IsUtf8 text → 0 < length text → 0 < length (chars text)
some_chars text u l = some_spelled (chars text) text (encodes-chars text u) l
