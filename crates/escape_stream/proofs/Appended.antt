-- Characters appended to a list.
use Rattle.std.proofs.Common.{◌≡◌, ◌≤◌, ◌+◌, ◌++◌, ℕ, List, [], ◌∷◌, ap, arith, chars, encode_utf8, length, map, refl, sym, ◌∙◌}
use Rattle.std.proofs.lemmas.List.{length-append, map-append}
use Rattle.std.proofs.lemmas.Str.{length-encode, len_utf8_bounds}
use Rattle.esc_actions.specs.Values.{print, value_of}
use Rattle.escape_stream.specs.Borrowed.{HasGrown}
use Rattle.esc_actions.specs.declared.action.Action.{Action}
use Rattle.esc_actions.specs.declared.action.Action.TheVariants.{Print}

one_char : {A : Type 0} (actions : List (Action A)) (c : ℕ) (cs : List ℕ)
    → map value_of (actions ++ Print c ∷ []) ++ map print cs
    ≡ map value_of actions ++ map print (c ∷ cs)
one_char [] c cs = refl
one_char (a ∷ actions) c cs = ap (λ l. value_of a ∷ l) (one_char actions c cs)

-- an appended character, and the rest of a text
pub pushed : {A : Type 0} (old new : List (Action A)) (c : ℕ) (text later : List ℕ)
    → new ≡ old ++ Print c ∷ [] → chars text ≡ c ∷ chars later
    → map value_of new ++ map print (chars later) ≡ map value_of old ++ map print (chars text)
pushed old new c text later is step =
    ap (λ l. map value_of l ++ map print (chars later)) is ∙ one_char old c (chars later)
    ∙ ap (λ cs. map value_of old ++ map print cs) (sym step)

pub has_grown : {A : Type 0} (old new : List (Action A)) (a : Action A) → new ≡ old ++ a ∷ []
    → HasGrown old (value_of a ∷ []) new
has_grown old new a is = ap (map value_of) is ∙ map-append value_of old (a ∷ [])

pub shorter : (bs rest : List ℕ) (c : ℕ) → bs ≡ encode_utf8 c ++ rest → length rest + 1 ≤ length bs
shorter bs rest c e =
    let sum = ap length e ∙ length-append (encode_utf8 c) rest in
    omega (arith, sum, length-encode c, (len_utf8_bounds c).0)
