-- The options and the files that one word adds.
use Rattle.std.proofs.Common.{◌≡◌, ℕ, Bool, true, false, if◌then◌else◌, List, [], ◌∷◌, ◌++◌, Option, None, Some, Bor, drop, length, map, nat_eq, refl, sym, subst, ap, ◌∙◌, append-nil, inl, inr}
use Rattle.std.specs.List.{starts_with}
use Rattle.std.specs.Option.{MatchOption, option_map}
use Rattle.std.specs.Str.{IsCharBoundary}
use Rattle.std.specs.Str.Pattern.{FindsTextPrefix, StripsPrefix}
use Rattle.std.proofs.lemmas.List.{append_assoc, drop-map}
use Rattle.std.proofs.lemmas.Bool.{cases_Bool, true≢false}
use Rattle.std.proofs.lemmas.Str.Pattern.{starts_text}
use Rattle.command_line.specs.declared.table.Known.{Known}
use Rattle.command_line.specs.Words.{are_right, ends_options, files_of, given_by, is_file, is_next_right, is_right, options_of, takes_next}

-- how many words an option takes
abbrev pub taken : List Known → List ℕ → ℕ
taken known w = if takes_next known w then 1 else 0

-- if an option takes the next word, the rest is after it
options_left : (known : List Known) (t : Bool) (ws : List (List ℕ))
    → options_of known t ws ≡ options_of known false (drop (if t then 1 else 0) ws)
options_left known false ws = refl
options_left known true [] = refl
options_left known true (w ∷ ws) = refl

files_left : (known : List Known) (t : Bool) (ws : List (List ℕ))
    → files_of known t ws ≡ files_of known false (drop (if t then 1 else 0) ws)
files_left known false ws = refl
files_left known true [] = refl
files_left known true (w ∷ ws) = refl

-- the options of all words are those that the first adds and those that are left
options_next : (known : List Known) (os ns : List (List ℕ × List ℕ × ℕ × ℕ)) (w : List ℕ)
    (ws rest : List (List ℕ)) → ends_options w ≡ false
    → (is_file w ≡ true → (rest ≡ ws) × (ns ≡ os))
    → (is_file w ≡ false → (rest ≡ drop (taken known w) ws)
    × (ns ≡ os ++ given_by known w ws))
    → ns ++ options_of known false rest ≡ os ++ options_of known false (w ∷ ws)
options_next known os ns w ws rest e f o = elim (cases_Bool (is_file w)) [
  | inl is ↦ rw e (rw is (rw (f is).0 (rw (f is).1 refl)))
  | inr is ↦ let given = given_by known w ws in
      rw e (rw is (rw (o is).0 (rw (o is).1
      (append_assoc os given (options_of known false (drop (taken known w) ws))
      ∙ ap (λ us. os ++ (given ++ us)) (sym (options_left known (takes_next known w) ws))))))
]

files_next : (known : List Known) (os ns : List (List ℕ)) (w : List ℕ) (ws rest : List (List ℕ))
    → ends_options w ≡ false
    → (is_file w ≡ true → (rest ≡ ws) × (ns ≡ os ++ w ∷ []))
    → (is_file w ≡ false → (rest ≡ drop (taken known w) ws) × (ns ≡ os))
    → ns ++ files_of known false rest ≡ os ++ files_of known false (w ∷ ws)
files_next known os ns w ws rest e f o = elim (cases_Bool (is_file w)) [
  | inl is ↦ rw e (rw is (rw (f is).0 (rw (f is).1
      (append_assoc os (w ∷ []) (files_of known false ws)))))
  | inr is ↦ rw e (rw is (rw (o is).0 (rw (o is).1
      (ap (λ us. os ++ us) (sym (files_left known (takes_next known w) ws))))))
]

-- the same for words that have a text, the first of which may end the options
pub options_step : {S : Type 0} (text : S → List ℕ) (known : List Known)
    (os ns : List (List ℕ × List ℕ × ℕ × ℕ)) (w : List ℕ) (x : S) (all after rest : List S)
    → w ≡ text x → all ≡ x ∷ after
    → (ends_options w ≡ true → (rest ≡ []) × (ns ≡ os))
    → (ends_options w ≡ false → is_file w ≡ true → (rest ≡ after) × (ns ≡ os))
    → (ends_options w ≡ false → is_file w ≡ false → (rest ≡ drop (taken known w) after)
    × (ns ≡ os ++ given_by known w (map text after)))
    → ns ++ options_of known false (map text rest) ≡ os ++ options_of known false (map text all)
options_step text known os ns w x all after rest t a l f o =
    elim (cases_Bool (ends_options w)) [
      | inl e ↦ rw ((l e).0, (l e).1) (rw e refl)
      | inr e ↦ options_next known os ns w (map text after) (map text rest) e
          (λ is. (ap (map text) (f e is).0, (f e is).1))
          (λ is. (
            ap (map text) (o e is).0 ∙ sym (drop-map text (taken known w) after),
            (o e is).1,
          ))
    ]
    ∙ ap (λ v. os ++ options_of known false (v ∷ map text after)) t
    ∙ ap (λ us. os ++ options_of known false (map text us)) (sym a)

pub files_step : {S : Type 0} (text : S → List ℕ) (known : List Known) (os ns : List (List ℕ))
    (w : List ℕ) (x : S) (all after rest : List S) → w ≡ text x → all ≡ x ∷ after
    → (ends_options w ≡ true → (rest ≡ []) × (ns ≡ os ++ map text after))
    → (ends_options w ≡ false → is_file w ≡ true → (rest ≡ after) × (ns ≡ os ++ w ∷ []))
    → (ends_options w ≡ false → is_file w ≡ false → (rest ≡ drop (taken known w) after)
    × (ns ≡ os))
    → ns ++ files_of known false (map text rest) ≡ os ++ files_of known false (map text all)
files_step text known os ns w x all after rest t a l f o =
    elim (cases_Bool (ends_options w)) [
      | inl e ↦ rw ((l e).0, (l e).1) (rw e (append-nil (os ++ map text after)))
      | inr e ↦ files_next known os ns w (map text after) (map text rest) e
          (λ is. (ap (map text) (f e is).0, (f e is).1))
          (λ is. (
            ap (map text) (o e is).0 ∙ sym (drop-map text (taken known w) after),
            (o e is).1,
          ))
    ]
    ∙ ap (λ v. os ++ files_of known false (v ∷ map text after)) t
    ∙ ap (λ us. os ++ files_of known false (map text us)) (sym a)

-- ---- which words are right

right_left : (known : List Known) (t : Bool) (ws : List (List ℕ))
    → are_right known t ws ≡ are_right known false (drop (if t then 1 else 0) ws)
right_left known false ws = refl
right_left known true [] = refl
right_left known true (w ∷ ws) = refl

-- if a file or an option is right, the other words decide
right_next : (known : List Known) (w : List ℕ) (ws rest : List (List ℕ)) → ends_options w ≡ false
    → (is_file w ≡ true → rest ≡ ws) → (is_file w ≡ false → rest ≡ drop (taken known w) ws)
    → (if is_file w then true else is_right known w ws) ≡ true
    → are_right known false rest ≡ are_right known false (w ∷ ws)
right_next known w ws rest e f o r = elim (cases_Bool (is_file w)) [
  | inl is ↦ rw e (rw is (rw (f is) refl))
  | inr is ↦
      let right : is_right known w ws ≡ true = rw is at r in
      rw e (rw is (rw (right, o is) (sym (right_left known (takes_next known w) ws))))
]

-- if it is wrong, it decides
wrong_next : (known : List Known) (w : List ℕ) (ws : List (List ℕ))
    → is_next_right known w ws ≡ false → are_right known false (w ∷ ws) ≡ false
wrong_next known w ws r = elim (cases_Bool (ends_options w)) [
  | inl e ↦ absurd (true≢false (rw e at r))
  | inr e ↦ elim (cases_Bool (is_file w)) [
    | inl is ↦ absurd (true≢false (rw (e, is) at r))
    | inr is ↦
        let wrong : is_right known w ws ≡ false = rw (e, is) at r in
        rw (e, is, wrong) refl
  ]
]

pub right_step : {S : Type 0} (text : S → List ℕ) (known : List Known) (w : List ℕ) (x : S)
    (all after rest : List S) → w ≡ text x → all ≡ x ∷ after
    → (ends_options w ≡ true → rest ≡ [])
    → (ends_options w ≡ false → is_file w ≡ true → rest ≡ after)
    → (ends_options w ≡ false → is_file w ≡ false → rest ≡ drop (taken known w) after)
    → is_next_right known w (map text after) ≡ true
    → are_right known false (map text rest) ≡ are_right known false (map text all)
right_step text known w x all after rest t a l f o r =
    elim (cases_Bool (ends_options w)) [
      | inl e ↦ rw (l e) (rw e refl)
      | inr e ↦
          let right : (if is_file w then true else is_right known w (map text after)) ≡ true =
          rw e at r in
          right_next known w (map text after) (map text rest) e
          (λ is. ap (map text) (f e is))
          (λ is. ap (map text) (o e is) ∙ sym (drop-map text (taken known w) after)) right
    ]
    ∙ ap (λ v. are_right known false (v ∷ map text after)) t
    ∙ ap (λ us. are_right known false (map text us)) (sym a)

-- a word that is not right decides
pub wrong_step : {S : Type 0} (text : S → List ℕ) (known : List Known) (w : List ℕ) (x : S)
    (all after : List S) → w ≡ text x → all ≡ x ∷ after
    → is_next_right known w (map text after) ≡ false → are_right known false (map text all) ≡ false
wrong_step text known w x all after t a r =
    ap (λ us. are_right known false (map text us)) a
    ∙ ap (λ v. are_right known false (v ∷ map text after)) (sym t)
    ∙ wrong_next known w (map text after) r

-- the rest of a text after another, if it begins with it
pub strip_is : (n s : List ℕ) (r : Option (Bor (List ℕ)))
    → MatchOption r (FindsTextPrefix n s None) (λ x. StripsPrefix (FindsTextPrefix n) s x.now)
    → option_map (λ x. x.now) r
    ≡ (if starts_with nat_eq s n then Some (drop (length n) s) else None)
strip_is n s None h = rw (sym (starts_text false n s h)) refl
strip_is n s (Some x) h =
    let m = h.1 in
    let starts : true ≡ starts_with nat_eq s n =
    starts_text true n s (h.0, m, subst (λ z. IsCharBoundary s z) (sym m.0) m.2) in
    rw (sym starts, h.2, m.0) refl
