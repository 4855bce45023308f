-- A normal form that grows with its stream.
use Rattle.std.proofs.Common.{ℕ, ◌≡◌, false, List, [], ◌∷◌, ◌++◌, Option, Some, None, Ok, Err, OnOk, Result, sym, subst, ap, ◌∙◌}
use Rattle.std.proofs.KnownBytes.{Consumes-whole}
use Rattle.std.specs.List.{FoldsTo}
use Rattle.std.specs.Prelude.{IfSome}
use Rattle.std.specs.Io.KnownBytes.{Appends, Consumes, IsAtEnd}
use Rattle.esc_actions.proofs.Meaning.MeaningsJoin.{meaning_more}
use Rattle.esc_actions.specs.Meaning.{meaning_within, yield_within}
use Rattle.esc_actions.specs.Texts.{is_string, list_text, texts_after}
use Rattle.esc_actions.specs.Values.{Value, value_of}
use Rattle.esc_parse.specs.Given.{At}
use Rattle.esc_normal.proofs.Results.{prefix_longer}
use Rattle.esc_normal.proofs.Spelling.{spells}
use Rattle.esc_normal.proofs.Texts.{ends_more, texts_more}
use Rattle.esc_normal.specs.Io.{AppendsPrefix}
use Rattle.esc_normal.specs.Normalising.{normal_form}
use Rattle.esc_normal.specs.Spelled.{Adds}
use Rattle.esc_normal.specs.Texts.{ends_in_string}
use Rattle.esc_normal.specs.declared.spell.TextSink.{TextSink}

-- the text that b adds to the normal form of s
abbrev pub added_form : (A : Type 0) → Option ℕ → List ℕ → List ℕ → List ℕ
added_form A limit s b =
    texts_after {A = A} (ends_in_string false (meaning_within {A = A} limit s))
    (yield_within {A = A} limit s b)

pub form_longer : (A : Type 0) (limit : Option ℕ) (s b : List ℕ)
    → normal_form A limit (s ++ b)
    ≡ normal_form A limit s ++ added_form A limit s b
form_longer A limit s b =
    ap list_text (sym (meaning_more {A = A} limit s b))
    ∙ texts_more false (meaning_within {A = A} limit s) (yield_within {A = A} limit s b)

-- whether the text of the given values ends in a string
ends : {A : Type 0} (p : TextSink A) (vs : List (Value A)) (q : TextSink A)
    → FoldsTo (At value_of Adds) p vs q → q.follows_string ≡ ends_in_string p.follows_string vs
ends p [] q e = ap (λ x. x.follows_string) (sym e)
ends p (v ∷ vs) q (j, (a, is, w), rest) = ends j vs q rest
    ∙ ap (λ b. ends_in_string b vs) (w.1 ∙ ap is_string is)

-- the values that are given for b after s are the values that b adds
pub fed_more : {A : Type 0} (limit : Option ℕ) (s b : List ℕ) (p q : TextSink A) → p.text ≡ []
    → p.follows_string ≡ ends_in_string false (meaning_within {A = A} limit s)
    → FoldsTo (At value_of Adds) p (yield_within limit s b) q
    → (q.follows_string ≡ ends_in_string false (meaning_within {A = A} limit (s ++ b)))
    × (normal_form A limit (s ++ b) ≡ normal_form A limit s ++ q.text)
fed_more {A} limit s b p q none end folds =
    let vs = yield_within {A = A} limit s b in (
      ends p vs q folds
          ∙ ap (λ x. ends_in_string x vs) end
          ∙ sym (ends_more false (meaning_within limit s) vs)
          ∙ ap (ends_in_string false) (meaning_more limit s b),
      form_longer A limit s b
          ∙ ap (λ t. normal_form A limit s ++ t)
          (sym (spells p vs q folds ∙ ap (λ t. t ++ texts_after p.follows_string vs) none
          ∙ ap (λ x. texts_after x vs) end)),
    )

-- a prefix of the text of the bytes that were read is one of the text of all that the reader had
pub prefix_of_had : (A : Type 0) (limit : Option ℕ) (had left before after : Option (List ℕ))
    (s : List ℕ) → Consumes had left s
    → AppendsPrefix before after (normal_form A limit s)
    → IfSome had (λ xs. AppendsPrefix before after (normal_form A limit xs))
prefix_of_had A limit None left before after s c p = tt
prefix_of_had A limit (Some xs) None before after s c p = absurd c
prefix_of_had A limit (Some xs) (Some ys) before after s c p =
    subst (λ x. AppendsPrefix before after (normal_form A limit x)) (sym c)
    (prefix_longer before after (normal_form A limit s)
    (normal_form A limit (s ++ ys))
    (added_form A limit s ys, form_longer A limit s ys) p)

-- if all was read, and the text of the bytes that were read was written, it is the text of all that
-- the reader had
pub written_all : (A : Type 0) {X E : Type 0} (limit : Option ℕ)
    (had left before after : Option (List ℕ)) (r : Result X E) → OnOk r (IsAtEnd left)
    → OnOk r ((s : List ℕ) × (t : List ℕ) × Consumes had left s × Appends before after t
    × (t ≡ normal_form A limit s))
    → OnOk r (IfSome had (λ xs. Appends before after (normal_form A limit xs)))
written_all A limit had left before after (Ok x) end (s, t, c, w, e) =
    Consumes-whole had left s (λ xs. Appends before after (normal_form A limit xs)) c end
    (subst (λ y. Appends before after y) e w)
written_all A limit had left before after (Err x) end h = tt
