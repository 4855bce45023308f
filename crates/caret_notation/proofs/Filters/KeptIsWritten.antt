-- The text that a filter writes for a span that stays.
use Rattle.std.proofs.Common.{ℕ, ◌≡◌, ◌&&◌, Bool, true, false, if◌then◌else◌, List, [], ◌∷◌, ◌++◌, Some, refl, ap, sym, ◌∙◌, subst, true≢false}
use Rattle.std.specs.List.{filter}
use Rattle.std.proofs.lemmas.Bool.{and_parts}
use Rattle.esc_actions.specs.Meaning.{meaning_within}
use Rattle.esc_actions.specs.Texts.{is_string, is_terminator, list_text, text_after, texts_after, whole_text}
use Rattle.esc_actions.specs.Values.{Value, print, string, control, esc, csi, osc, kitty, sixel, termcap, short, enter, datum, exit}
use Rattle.esc_filter.specs.Passing.{passed_text, passes}
use Rattle.caret_notation.specs.Revealed.{all_through, are_kept, goes_through, is_kept, is_some}
use Rattle.caret_notation.specs.Spelled.{is_spelled}
use Rattle.caret_notation.specs.declared.marking.Marking.{Marking}

-- a terminator is no string
terminator_plain : {A : Type 0} (v : Value A) → is_terminator v ≡ true → is_string v ≡ false
terminator_plain (print c) h = refl
terminator_plain (string t) h = refl
terminator_plain (control c) h = refl
terminator_plain (esc e) h = refl
terminator_plain (csi c) h = refl
terminator_plain (osc c) h = absurd (true≢false (sym h))
terminator_plain (kitty i) h = absurd (true≢false (sym h))
terminator_plain (sixel s) h = absurd (true≢false (sym h))
terminator_plain (termcap ns) h = absurd (true≢false (sym h))
terminator_plain (short s) h = absurd (true≢false (sym h))
terminator_plain (enter e) h = refl
terminator_plain (datum b) h = refl
terminator_plain exit h = absurd (true≢false (sym h))

-- The same of any values, by any tests and texts of them: no proof goes over the kinds of a value.
module _ {V : Type 0} (ends strings admitted : V → Bool) (text : V → List ℕ)
    (plain : (v : V) → ends v ≡ true → strings v ≡ false) where
  -- the text of these values, after a string or not
  texts : Bool → List V → List ℕ
  texts follows [] = []
  texts follows (v ∷ vs) = (if ends v && follows then [] else text v) ++ texts (strings v) vs

  -- each of them passes, or ends the string before it
  through : Bool → List V → Bool
  through follows [] = true
  through follows (v ∷ vs) = (if ends v then follows else admitted v) && through (strings v) vs

  abbrev some : List V → List V
  some vs = filter admitted vs

  -- a value that goes through after no string is no terminator, and passes
  goes_first : (t p : Bool) → (if t then false else p) ≡ true → (t ≡ false) × (p ≡ true)
  goes_first true p h = absurd (true≢false (sym h))
  goes_first false p h = (refl, h)

  -- one that passes, and is no terminator or ends no string, has its text
  first_same : (vs : List V) → through false vs ≡ true
      → texts true (some vs) ≡ texts false (some vs)
  unfolding texts through
  first_same [] h = refl
  first_same (v ∷ vs) h =
      let q = and_parts (if ends v then false else admitted v) (through (strings v) vs) h in
      let k = goes_first (ends v) (admitted v) q.0 in
      let rest = texts (strings v) (some vs) in
      ap (λ p. texts true (if p then v ∷ some vs else some vs)) k.1
      ∙ ap (λ t. (if t && true then [] else text v) ++ rest) k.0
      ∙ sym (ap (λ t. (if t && false then [] else text v) ++ rest) k.0)
      ∙ sym (ap (λ p. texts false (if p then v ∷ some vs else some vs)) k.1)

  -- a terminator writes nothing after a string
  nothing : (t f : Bool) (x : List ℕ) → f ≡ true → t ≡ true → (if t && f then [] else x) ≡ []
  nothing true true x e h = refl
  nothing true false x e h = absurd (true≢false (sym e))
  nothing false f x e h = absurd (true≢false (sym h))

  by_pass : (follows : Bool) (v : V) (vs : List V) → follows ≡ true → ends v ≡ true
      → strings v ≡ false → through false vs ≡ true → (p : Bool)
      → texts follows (if p then v ∷ some vs else some vs) ≡ texts false (some vs)
  unfolding texts
  by_pass follows v vs f e s h true =
      ap (λ t. t ++ texts (strings v) (some vs)) (nothing (ends v) follows (text v) f e)
      ∙ ap (λ b. texts b (some vs)) s
  by_pass follows v vs f e s h false = ap (λ b. texts b (some vs)) f ∙ first_same vs h

  goes : (t p follows e : Bool) → t ≡ e → (if t then follows else p) ≡ true
      → (if e then follows else p) ≡ true
  goes t p follows e h w = subst (λ x. (if x then follows else p) ≡ true) h w

  by_end : (follows : Bool) (v : V) (vs : List V)
      → (if ends v then follows else admitted v) ≡ true → through (strings v) vs ≡ true
      → ((b : Bool) → through b vs ≡ true → texts b (some vs) ≡ texts b vs)
      → (t : Bool) → ends v ≡ t → texts follows (some (v ∷ vs)) ≡ texts follows (v ∷ vs)
  unfolding texts
  by_end follows v vs one rest more true e =
      let s = plain v e in
      let f = goes (ends v) (admitted v) follows true e one in
      let w = subst (λ b. through b vs ≡ true) s rest in
      by_pass follows v vs f e s w (admitted v)
      ∙ more false w
      ∙ sym (ap (λ b. texts b vs) s)
      ∙ sym (ap (λ t. t ++ texts (strings v) vs) (nothing (ends v) follows (text v) f e))
  by_end follows v vs one rest more false e =
      ap (λ p. texts follows (if p then v ∷ some vs else some vs))
      (goes (ends v) (admitted v) follows false e one)
      ∙ ap (λ x. (if ends v && follows then [] else text v) ++ x) (more (strings v) rest)

  -- the values that pass have the text of all
  through_text : (follows : Bool) (vs : List V) → through follows vs ≡ true
      → texts follows (some vs) ≡ texts follows vs
  unfolding texts through
  through_text follows [] h = refl
  through_text follows (v ∷ vs) h =
      let q = and_parts (if ends v then follows else admitted v) (through (strings v) vs) h in
      by_end follows v vs q.0 q.1 (λ b. through_text b vs) (ends v) refl

module _ {A : Type 0} (admits : Value A → Bool) where
  -- the texts of values are those by the tests and texts of these
  same_texts : (follows : Bool) (vs : List (Value A))
      → texts_after follows vs
      ≡ texts is_terminator is_string (passes admits) whole_text terminator_plain follows vs
  unfolding texts
  same_texts follows [] = refl
  same_texts follows (v ∷ vs) = ap (λ x. text_after follows v ++ x) (same_texts (is_string v) vs)

  same_through : (follows : Bool) (vs : List (Value A))
      → through is_terminator is_string (passes admits) whole_text terminator_plain follows vs
      ≡ all_through admits follows vs
  unfolding through
  same_through follows [] = refl
  same_through follows (v ∷ vs) =
      ap (λ x. goes_through admits follows v && x) (same_through (is_string v) vs)

  -- the text of the values that go through is that of those that pass
  passed_have_text : (vs : List (Value A)) → all_through admits false vs ≡ true
      → texts_after false (filter (passes admits) vs) ≡ texts_after false vs
  passed_have_text vs h =
      same_texts false (filter (passes admits) vs)
      ∙ through_text is_terminator is_string (passes admits) whole_text terminator_plain false vs
      (same_through false vs ∙ h)
      ∙ sym (same_texts false vs)

  -- all of it is in the text that a filter writes
  pub kept_written : (m : Marking) (limit : ℕ) (p : List ℕ) → is_kept m limit admits p ≡ true
      → is_spelled p (passed_text (Some limit) admits p) ≡ true
  kept_written m limit p h =
      let vs = meaning_within {A = A} (Some limit) p in
      let q = and_parts (are_kept admits vs) (is_spelled p (list_text vs)) (and_parts _ _ h).1 in
      let k = and_parts (is_some vs) (all_through admits false vs) q.0 in
      ap (is_spelled p) (passed_have_text vs k.1) ∙ q.1
