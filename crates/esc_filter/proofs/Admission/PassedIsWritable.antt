-- The actions that pass are writable.
use Rattle.std.proofs.Common.{◌≡◌, ◌⊎◌, inl, inr, ℕ, Bool, true, false, cond, not, if◌then◌else◌, List, [], ◌∷◌, ◌++◌, map, Option, None, refl, sym, subst}
use Rattle.std.proofs.lemmas.Bool.{and_parts, not-true, true≢false}
use Rattle.std.specs.List.{filter, list_all}
use Rattle.esc_actions.specs.Meaning.{meaning, meaning_within, Reads}
use Rattle.esc_actions.specs.Texts.{list_text, normal}
use Rattle.esc_actions.specs.Values.{Value, print, string, control, esc, csi, osc, kitty, sixel, termcap, short, enter, datum, exit}
use Rattle.esc_actions.specs.Writable.{EmittedAreWritable, AreWritable, AreWritableFrom, IsWritable, is_exception, is_within, stays_within}
use Rattle.esc_actions.specs.declared.control_code.ControlCode.{ControlCode}
use Rattle.esc_filter.proofs.GivingBack.GivingBackIsWritable.{closed_writable}
use Rattle.esc_filter.specs.Passing.{IsFilteredAs, is_mode_step, is_whole, passed_values, passed_as, passes, when_ended}
use Rattle.unicode_visibility.specs.Characters.{is_deceiving, number_text}
use Rattle.unicode_visibility.specs.Following.{may_follow}
use Rattle.esc_filter.specs.Characters.{each_in_guard, in_guard, in_return, in_values, replacement_values, is_return, keeps_all, last_after}
use Rattle.esc_filter.specs.declared.guard.Guard.{Guard}
use Rattle.esc_filter.specs.declared.returns.Returns.{Returns}
use Rattle.esc_filter.specs.declared.returns.Returns.TheVariants as way
use Rattle.esc_filter.specs.declared.unicode.Unicode.{Unicode}
use Rattle.esc_filter.specs.declared.unicode.Unicode.TheVariants.{Drop, Join, Keep, Show}
use Rattle.esc_filter.proofs.Output.DeceivingCharacters.{kinds, number_clear}
use Rattle.esc_values.specs.Clear.{is_clear}

-- a value that is no step of a mode may come outside of modes, and enters none
no_step : {A : Type 0} (v : Value A) → is_mode_step v ≡ false → (is_within v ≡ false)
    × (stays_within v ≡ false)
no_step (print c) e = (refl, refl)
no_step (string t) e = (refl, refl)
no_step (control c) e = (refl, refl)
no_step (esc e) h = (refl, refl)
no_step (csi c) e = (refl, refl)
no_step (osc c) e = (refl, refl)
no_step (kitty i) e = (refl, refl)
no_step (sixel s) e = (refl, refl)
no_step (termcap ns) e = (refl, refl)
no_step (short s) e = (refl, refl)
no_step (enter e) h = absurd cc
no_step (datum b) h = absurd cc
no_step exit h = absurd cc

one_writable : {A : Type 0} (b : Bool) (v : Value A) (vs : List (Value A))
    → (b ≡ true → (is_within v ≡ false) × IsWritable v × (stays_within v ≡ false))
    → AreWritable vs → AreWritable (cond b (v ∷ vs) vs)
one_writable true v vs f h = let k = f refl in
    (k.0, k.1, subst (λ b. AreWritableFrom b vs) (sym k.2) h)
one_writable false v vs f h = h

pub filtered_writable : {A : Type 0} (admits : Value A → Bool) (vs : List (Value A))
    → EmittedAreWritable vs → AreWritable (filter (passes admits) vs)
filtered_writable admits [] h = refl
filtered_writable admits (v ∷ vs) h =
    one_writable (passes admits v) v (filter (passes admits) vs)
    (λ e.
    let whole = (and_parts (is_whole v) (admits v) e).0 in
    let parts = and_parts (not (is_exception v)) (not (is_mode_step v)) whole in
    let outside = no_step v (not-true (is_mode_step v) parts.1) in
    (outside.0, h.0 (not-true (is_exception v) parts.0), outside.1))
    (filtered_writable admits vs h.1)

-- ---- the values that are written for values are writable if these are

prints_writable : {A : Type 0} (xs : List ℕ) (ws : List (Value A)) → list_all is_clear xs ≡ true
    → AreWritable ws → AreWritable (map print xs ++ ws)
prints_writable [] ws h k = k
prints_writable (x ∷ xs) ws h k =
    let p = and_parts (is_clear x) (list_all is_clear xs) h in
    (refl, p.0, prints_writable xs ws p.1 k)

-- the values that are written for a character
char_writable : {A : Type 0} (u : Unicode) (b : Option ℕ) (t w : Bool) (c : ℕ)
    (ws : List (Value A))
    → (is_within {A = A} (print c) ≡ w) × IsWritable {A = A} (print c) × AreWritable ws
    → AreWritableFrom w ((if t then replacement_values u b c else print c ∷ []) ++ ws)
char_writable Keep b true w c ws h = h
char_writable Show b true true c ws h = absurd cc
char_writable Show b true false c ws h = prints_writable (number_text c) ws (number_clear c) h.2
char_writable Drop b true true c ws h = absurd cc
char_writable Drop b true false c ws h = h.2
char_writable Join b true true c ws h = absurd cc
char_writable {A} Join b true false c ws h = by (may_follow b c)
  where
    by : (f : Bool)
        → AreWritable ((if f then print c ∷ [] else map print (number_text c)) ++ ws)
    by true = h
    by false = prints_writable (number_text c) ws (number_clear c) h.2
char_writable u b false w c ws h = h

-- the values that are written for a control
control_writable : {A : Type 0} (r : Returns) (t w : Bool) (c : ControlCode) (ws : List (Value A))
    → (is_within {A = A} (control c) ≡ w) × IsWritable {A = A} (control c) × AreWritable ws
    → AreWritableFrom w ((if t then in_return r else control c ∷ []) ++ ws)
control_writable r false w c ws h = h
control_writable r true true c ws h = absurd (true≢false (sym h.0))
control_writable way.Keep true false c ws h = (refl, refl, h.2)
control_writable way.Show true false c ws h = (refl, refl, (refl, refl, h.2))
control_writable way.Drop true false c ws h = h.2

all_writable : {A : Type 0} (u : Guard) (b : Option ℕ) (w : Bool) (vs : List (Value A))
    → AreWritableFrom w vs → AreWritableFrom w (each_in_guard u b vs)
all_writable u b w [] h = h
all_writable {A} u b w (v ∷ vs) (i, k, h) =
    by (kinds v) (all_writable u (last_after b (in_guard u b v)) (stays_within v) vs h)
  where
    ws : List (Value A)
    ws = each_in_guard u (last_after b (in_guard u b v)) vs

    by : ((c : ℕ) × (v ≡ print c)) ⊎ (((c : ControlCode) × (v ≡ control c))
        ⊎ ((u : Guard) (l : Option ℕ) → in_guard u l v ≡ v ∷ []))
        → AreWritableFrom (stays_within v) ws → AreWritableFrom w (in_guard u b v ++ ws)
    by (inl (c, e)) rest =
        subst (λ x. AreWritableFrom w (in_guard u b x ++ ws)) (sym e)
        (char_writable u.characters b (is_deceiving c) w c ws (
          subst (λ x. is_within x ≡ w) e i,
          subst IsWritable e k,
          subst (λ x. AreWritableFrom (stays_within x) ws) e rest,
        ))
    by (inr (inl (c, e))) rest =
        subst (λ x. AreWritableFrom w (in_guard u b x ++ ws)) (sym e)
        (control_writable u.returns (is_return c) w c ws (
          subst (λ x. is_within x ≡ w) e i,
          subst IsWritable e k,
          subst (λ x. AreWritableFrom (stays_within x) ws) e rest,
        ))
    by (inr (inr same)) rest =
        subst (λ xs. AreWritableFrom w (xs ++ ws)) (sym (same u b)) (i, k, rest)

in_writable : {A : Type 0} (u : Guard) (vs : List (Value A)) → AreWritable vs
    → AreWritable (in_values u vs)
in_writable u vs h = by (keeps_all u)
  where
    by : (t : Bool) → AreWritable (if t then vs else each_in_guard u None vs)
    by true = h
    by false = all_writable u None false vs h

writable_when : {A : Type 0} (b : Bool) (admits : Value A → Bool) (vs : List (Value A))
    → AreWritable vs → AreWritable (when_ended b admits vs)
writable_when true admits vs h = closed_writable admits vs h
writable_when false admits vs h = h

pub is_filtered : {A : Type 0} → ((limit : Option ℕ) (s : List ℕ)
    → EmittedAreWritable {A = A} (meaning_within limit s))
    → ((vs : List (Value A)) → AreWritable vs → meaning (list_text vs) ≡ normal vs)
    → ((vs : List (Value A)) → AreWritable vs → Reads (list_text vs) (normal vs))
    → (b : Bool) (u : Guard) (limit : Option ℕ) (admits : Value A → Bool) (s : List ℕ)
    → IsFilteredAs u b limit admits s (list_text (when_ended b admits (passed_as u limit admits s)))
is_filtered out back itself b u limit admits s =
    let vs = when_ended b admits (passed_as u limit admits s) in
    let w : AreWritable vs = writable_when b admits (passed_as u limit admits s)
    (in_writable u (passed_values limit admits s)
    (filtered_writable admits (meaning_within limit s) (out limit s))) in
    record {
      text = refl;
      writable = w;
      reads_back = back vs w;
      whatever_follows = itself vs w;
    }
