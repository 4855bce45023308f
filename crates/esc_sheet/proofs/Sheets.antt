-- Sheets that grow by a part.
use Rattle.std.proofs.Common.{ℕ, ◌≡◌, Bool, true, false, ◌||◌, if◌then◌else◌, List, [], ◌∷◌, ◌++◌, refl, ap, sym, subst, ◌∙◌, append-nil}
use Rattle.std.specs.Prelude.{Result, Ok, Err, Option, Some, None, OnErr, OnOk, ◌==◌}
use Rattle.std.specs.Fmt.{decimal}
use Rattle.std.proofs.lemmas.List.Folds.{list_all-append}
use Rattle.std.proofs.lemmas.Grind.{flat_map-append}
use Rattle.std.proofs.Math.Logic.{∥∥₁_map}
use Rattle.esc_style.specs.declared.look.Look.{Look}
use Rattle.esc_sgr.specs.Sgr.{change_text, look_text, same_look}
use Rattle.unicode_visibility.specs.Characters.{is_among, is_shown}
use Rattle.unicode_visibility.specs.Following.{belongs, joins_emoji, joins_letters}
use Rattle.esc_sheet.specs.Sheets.{IsSheet, Part, is_character, is_fit, is_joiner, lead_text, part_text}
use Rattle.esc_sheet.specs.Sheets.Part.{Change, Lead, Number}

sheet_part : (s : List ℕ) (p : Part) → is_fit p ≡ true → IsSheet s
    → IsSheet (s ++ part_text p)
sheet_part s p fit (ps, all, e) = (
  ps ++ p ∷ [],
  rw (list_all-append is_fit ps (p ∷ []), all, fit) refl,
  flat_map-append part_text ps (p ∷ []) ∙ ap (λ t. t ++ (part_text p ++ [])) e
      ∙ ap (λ t. s ++ t) (append-nil (part_text p)),
)

pub no_sheet : ∥ IsSheet [] ∥₁
no_sheet = ∣ ([], refl, refl) ∣₁

-- the text t after a push of a part to the text s, that may be refused
pub sheet_push : (b : Bool) (s t : List ℕ) (p : Part) → is_fit p ≡ true → ∥ IsSheet s ∥₁
    → t ≡ (if b then s ++ part_text p else s) → ∥ IsSheet t ∥₁
sheet_push true s t p fit h e =
    subst (λ x. ∥ IsSheet x ∥₁) (sym e) (∥∥₁_map h (sheet_part s p fit))
sheet_push false s t p fit h e = subst (λ x. ∥ IsSheet x ∥₁) (sym e) h

sheet_cleared : (t : List ℕ) → t ≡ [] → ∥ IsSheet t ∥₁
sheet_cleared t e = subst (λ x. ∥ IsSheet x ∥₁) (sym e) no_sheet

-- after a number, or nothing where that was refused
pub sheet_number : {U E : Type 0} (r : Result U E) (s t : List ℕ) (n : ℕ) → ∥ IsSheet s ∥₁
    → OnOk r (t ≡ s ++ decimal n) → OnErr r (t ≡ []) → ∥ IsSheet t ∥₁
sheet_number (Ok u) s t n h ok err = sheet_push true s t (Number n) refl h ok
sheet_number (Err e) s t n h ok err = sheet_cleared t err

-- the same holds of the sequences that change one look into another
pub sheet_change : {U E : Type 0} (r : Result U E) (s t : List ℕ) (a b : Look) → ∥ IsSheet s ∥₁
    → OnOk r (t ≡ s ++ change_text a b) → OnErr r (t ≡ []) → ∥ IsSheet t ∥₁
sheet_change (Ok u) s t a b h ok err = change (same_look a b) ok
  where
    change : (c : Bool) → t ≡ s ++ (if c then [] else look_text b) → ∥ IsSheet t ∥₁
    change true f = subst (λ x. ∥ IsSheet x ∥₁) (sym (f ∙ append-nil s)) h
    change false f = sheet_push true s t (Change b) refl h f
sheet_change (Err e) s t a b h ok err = sheet_cleared t err

-- the same holds of the beginning of a link
pub sheet_lead : {U E : Type 0} (r : Result U E) (s t : List ℕ) (i : Option (List ℕ)) (a : List ℕ)
    → is_fit (Lead i a) ≡ true → ∥ IsSheet s ∥₁ → OnOk r (t ≡ s ++ lead_text i a)
    → OnErr r (t ≡ []) → ∥ IsSheet t ∥₁
sheet_lead (Ok u) s t i a fit h ok err = sheet_push true s t (Lead i a) fit h ok
sheet_lead (Err e) s t i a fit h ok err = sheet_cleared t err

-- a character that shows
pub shown_fits : (c : ℕ) → is_shown c ≡ true → is_character c ≡ true
shown_fits c h = ap (λ b. b || is_joiner c) h

joins : (p q r x y z : Bool)
    → (if p then x else if q then y else if r then z else false) ≡ true → (p || (q || r)) ≡ true
joins true q r x y z h = refl
joins false true r x y z h = refl
joins false false true x y z h = refl
joins false false false x y z h = h

follows_fits : (b : Option ℕ) (c : ℕ) → belongs b c ≡ true → is_joiner c ≡ true
follows_fits None c h = absurd cc
follows_fits (Some b) c h = joins (is_among 0xfe0e 0xfe0f c) (c == 0x200d) (c == 0x200c)
    _ (joins_emoji b || joins_letters b) (joins_letters b) h

-- one that shows, or belongs to the one before it
pub shows_fits : (b : Option ℕ) (c : ℕ) → (is_shown c || belongs b c) ≡ true
    → is_character c ≡ true
shows_fits b c h = by (is_shown c) (belongs b c) h (follows_fits b c)
  where
    by : (p q : Bool) → (p || q) ≡ true → (q ≡ true → is_joiner c ≡ true)
        → (p || is_joiner c) ≡ true
    by true q e k = refl
    by false q e k = k e
