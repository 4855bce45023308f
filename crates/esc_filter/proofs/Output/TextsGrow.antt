-- Texts that grow by one value after another.
use Rattle.std.proofs.Common.{◌≡◌, ℕ, Bool, false, List, [], ◌∷◌, ◌++◌, Option, None, refl, sym, ap, ◌∙◌}
use Rattle.std.proofs.lemmas.List.Elements.{filter-append}
use Rattle.std.specs.List.{filter}
use Rattle.esc_actions.proofs.Meaning.MeaningsJoin.{meaning_more}
use Rattle.esc_actions.specs.Meaning.{meaning_within, yield_within}
use Rattle.esc_actions.specs.Texts.{list_text, texts_after}
use Rattle.esc_actions.specs.Values.{Value}
use Rattle.esc_filter.specs.Closing.{after_value, after_values}
use Rattle.esc_filter.specs.Pens.{pen_after, pen_after_value}
use Rattle.esc_pen.specs.declared.pen.Pen.{Pen}
use Rattle.esc_filter.specs.Terminal.{as_at_start}
use Rattle.esc_filter.specs.declared.terminal.Terminal.{Terminal}
use Rattle.esc_filter.specs.Passing.{passed_values, passed_as, passed_text, passed_text_as, passes}
use Rattle.esc_filter.specs.Characters.{in_values, in_values_after, keep_all, last_after}
use Rattle.esc_filter.specs.declared.guard.Guard.{Guard}
use Rattle.esc_filter.proofs.Output.DeceivingCharacters.{in_both, last_more}
use Rattle.esc_normal.proofs.Texts.{ends_more, texts_more}
use Rattle.esc_normal.specs.Texts.{ends_in_string}

-- the values of a longer stream that pass
pub passed_longer : {A : Type 0} (limit : Option ℕ) (admits : Value A → Bool) (s b : List ℕ)
    → passed_values limit admits (s ++ b) ≡ passed_values limit admits s ++ filter (passes admits)
    (yield_within limit s b)
passed_longer limit admits s b =
    ap (filter (passes admits)) (sym (meaning_more limit s b))
    ∙ filter-append (passes admits) (meaning_within limit s) (yield_within limit s b)

-- the values that are written for a longer stream
abbrev pub added_as : {A : Type 0} → Guard → Option ℕ → (Value A → Bool) → List ℕ → List ℕ
    → List (Value A)
added_as u limit admits s b = in_values_after u (last_after None (passed_as u limit admits s))
    (filter (passes admits) (yield_within limit s b))

pub written_longer : {A : Type 0} (u : Guard) (limit : Option ℕ) (admits : Value A → Bool)
    (s b : List ℕ)
    → passed_as u limit admits (s ++ b) ≡ passed_as u limit admits s ++ added_as u limit admits s b
written_longer u limit admits s b =
    ap (in_values u) (passed_longer limit admits s b)
    ∙ in_both u None (passed_values limit admits s)
    (filter (passes admits) (yield_within limit s b))

pub text_longer_as : {A : Type 0} (u : Guard) (limit : Option ℕ) (admits : Value A → Bool)
    (s b : List ℕ)
    → passed_text_as u limit admits (s ++ b) ≡ passed_text_as u limit admits s
    ++ texts_after (ends_in_string false (passed_as u limit admits s)) (added_as u limit admits s b)
text_longer_as u limit admits s b =
    ap list_text (written_longer u limit admits s b)
    ∙ texts_more false (passed_as u limit admits s) (added_as u limit admits s b)

pub text_longer : {A : Type 0} (limit : Option ℕ) (admits : Value A → Bool) (s b : List ℕ)
    → passed_text limit admits (s ++ b) ≡ passed_text limit admits s
    ++ texts_after (ends_in_string false (passed_values limit admits s))
    (filter (passes admits) (yield_within limit s b))
text_longer limit admits s b = text_longer_as keep_all limit admits s b

pub end_longer : {A : Type 0} (u : Guard) (limit : Option ℕ) (admits : Value A → Bool)
    (s b : List ℕ)
    → ends_in_string false (passed_as u limit admits (s ++ b)) ≡ ends_in_string
    (ends_in_string false (passed_as u limit admits s)) (added_as u limit admits s b)
end_longer u limit admits s b =
    ap (ends_in_string false) (written_longer u limit admits s b)
    ∙ ends_more false (passed_as u limit admits s) (added_as u limit admits s b)

-- the changes that are left after one list and another
pub after_more : {A : Type 0} (vs ws : List (Value A)) (o : Terminal)
    → after_values (vs ++ ws) o ≡ after_values ws (after_values vs o)
after_more [] ws o = refl
after_more (v ∷ vs) ws o = after_more vs ws (after_value v o)

pub left_longer : {A : Type 0} (u : Guard) (limit : Option ℕ) (admits : Value A → Bool)
    (s b : List ℕ)
    → after_values (passed_as u limit admits (s ++ b)) as_at_start
    ≡ after_values (added_as u limit admits s b)
    (after_values (passed_as u limit admits s) as_at_start)
left_longer u limit admits s b =
    ap (λ vs. after_values vs as_at_start) (written_longer u limit admits s b)
    ∙ after_more (passed_as u limit admits s) (added_as u limit admits s b) as_at_start

-- the character written last
pub last_longer : {A : Type 0} (u : Guard) (limit : Option ℕ) (admits : Value A → Bool)
    (s b : List ℕ)
    → last_after None (passed_as u limit admits (s ++ b))
    ≡ last_after (last_after None (passed_as u limit admits s)) (added_as u limit admits s b)
last_longer u limit admits s b =
    ap (last_after None) (written_longer u limit admits s b)
    ∙ last_more None (passed_as u limit admits s) (added_as u limit admits s b)

-- the renditions that are on
pub pens_more : {A : Type 0} (vs ws : List (Value A)) (p : Option Pen)
    → pen_after (vs ++ ws) p ≡ pen_after ws (pen_after vs p)
pens_more [] ws p = refl
pens_more (v ∷ vs) ws p = pens_more vs ws (pen_after_value v p)

pub pens_longer : {A : Type 0} (u : Guard) (limit : Option ℕ) (admits : Value A → Bool)
    (s b : List ℕ) (p : Option Pen)
    → pen_after (passed_as u limit admits (s ++ b)) p
    ≡ pen_after (added_as u limit admits s b) (pen_after (passed_as u limit admits s) p)
pens_longer u limit admits s b p =
    ap (λ vs. pen_after vs p) (written_longer u limit admits s b)
    ∙ pens_more (passed_as u limit admits s) (added_as u limit admits s b) p
