-- Tables of rows in the order of an enum's variants.
use Rattle.std.proofs.Common.{◌≡◌, ℕ, ◌+◌, ◌-◌, ◌%◌, ◌<◌, Bool, true, false, ◌==◌, ◌&&◌, nat_le, List, [], ◌∷◌, map, length, get_or, Some, None, zero-add, refl, sym, ap, ◌∙◌, arith, inl, inr}
use Rattle.std.specs.List.{range_with_len, list_all}
use Rattle.std.proofs.lemmas.List.{get_or-map}
use Rattle.std.proofs.lemmas.List.FromFn.{get_or-range_with_len}
use Rattle.std.proofs.lemmas.Bool.{cases_Bool, and_parts, eq-eqb, eqb-true, leb-true, agree_below, agree_below_at}
use Rattle.esc_values.specs.Params.{is_from}
use Rattle.control_functions.specs.declared.row.Row.{Row}
use Rattle.control_functions.specs.declared.mode_row.ModeRow.{ModeRow}
use Rattle.control_functions.specs.declared.effect.Effect.{Effect}
use Rattle.control_functions.specs.declared.effect.Effect.TheVariants as effect
use Rattle.control_functions.specs.declared.parameters.Parameters.TheVariants as has
use Rattle.control_functions.specs.declared.standard.Standard.TheVariants as standard
use Rattle.control_functions.specs.Effects.{is_screen_effect, is_answered_effect}
use Rattle.control_functions.specs.Rows.{Rise, first_grouped, first_keyed, group}
use Rattle.control_functions.proofs.ByKey.{Found, found, found_in_group}

-- the rows of a table are those of the variants, by their places
pub record Table {R F : Type 0} (rows : List R) (of : R → F) (place : F → ℕ) : Type 0 where
  pub below : (f : F) → place f < length rows
  pub one : (f g : F) → place f ≡ place g → f ≡ g
  pub in_order : map (λ r. place (of r)) rows ≡ range_with_len 0 (length rows)

pub row_has : {R F : Type 0} (rows : List R) (of : R → F) (place : F → ℕ) → Table rows of place
    → (f : F) (d : R) → of (get_or rows (place f) d) ≡ f
row_has rows of place T f d =
    T.one _ _
    (sym (get_or-map (λ r. place (of r)) rows (place f) d 0 (T.below f))
    ∙ ap (λ t. get_or t (place f) 0) T.in_order
    ∙ get_or-range_with_len 0 (length rows) (place f) 0 (T.below f) ∙ zero-add (place f))

-- a fact about each row is one about a variant's row
pub row_fact : {R F A : Type 0} (rows : List R) (of : R → F) (place : F → ℕ)
    → Table rows of place → (g h : R → A) → map g rows ≡ map h rows → (f : F) (d : R)
    → g (get_or rows (place f) d) ≡ h (get_or rows (place f) d)
row_fact rows of place T g h e f d =
    sym (get_or-map g rows (place f) d (g d) (T.below f))
    ∙ ap (λ t. get_or t (place f) (g d)) e
    ∙ get_or-map h rows (place f) d (g d) (T.below f)

-- and so of the variant
pub variant_fact : {R F A : Type 0} (rows : List R) (of : R → F) (place : F → ℕ)
    → Table rows of place → (g : R → A) (h : F → A) → map g rows ≡ map (λ r. h (of r)) rows
    → (f : F) (d : R) → g (get_or rows (place f) d) ≡ h f
variant_fact rows of place T g h e f d =
    row_fact rows of place T g (λ r. h (of r)) e f d ∙ ap h (row_has rows of place T f d)

-- the facts about the rows of a table: each has the key of its function, and the effect says
-- whether that changes the screen alone
pub record Sheet {R F : Type 0} (rows : List R) (key : R → ℕ) (of : R → F) (does : R → Effect)
    (place key_of : F → ℕ) (screen : F → Bool) : Type 0 where
  pub table : Table rows of place
  pub keys : map key rows ≡ map (λ r. key_of (of r)) rows
  pub screens : map (λ r. is_screen_effect (does r)) rows ≡ map (λ r. screen (of r)) rows
  pub some : F → R

pub sheet_of : {R F : Type 0} {rows : List R} {key : R → ℕ} {of : R → F} {does : R → Effect}
    {place key_of : F → ℕ} {screen : F → Bool} → ((f : F) → place f < length rows)
    → ((f g : F) → place f ≡ place g → f ≡ g)
    → map (λ r. place (of r)) rows ≡ range_with_len 0 (length rows)
    → map key rows ≡ map (λ r. key_of (of r)) rows
    → map (λ r. is_screen_effect (does r)) rows ≡ map (λ r. screen (of r)) rows → (F → R)
    → Sheet rows key of does place key_of screen
sheet_of below one in_order keys screens some = record {
  table = record { below = below; one = one; in_order = in_order };
  keys = keys;
  screens = screens;
  some = some;
}

-- that of functions, and of modes
abbrev pub Functions : {F : Type 0} → List (Row F) → (F → ℕ) → (F → ℕ) → (F → Bool) → Type 0
Functions rows place key_of screen =
    Sheet rows (λ r. r.key) (λ r. r.function) (λ r. r.effect) place key_of screen

abbrev pub Modes : {M : Type 0} → List (ModeRow M) → (M → ℕ) → (M → ℕ) → (M → Bool) → Type 0
Modes rows place number_of screen =
    Sheet rows (λ r. r.number) (λ r. r.mode) (λ r. r.effect) place number_of screen

-- a row, in place of one past a table's end
pub some_row : {F : Type 0} → F → Row F
some_row f = record {
  function = f;
  key = 0;
  effect = effect.Other;
  parameters = has.Nothing;
  standard = standard.Ecma48;
}

pub some_mode : {M : Type 0} → M → ModeRow M
some_mode m = record { mode = m; number = 0; effect = effect.Other }

-- the parts of the row in a variant's place
pub row_of : {R F : Type 0} {rows : List R} {key : R → ℕ} {of : R → F} {does : R → Effect}
    {place key_of : F → ℕ} {screen : F → Bool} → Sheet rows key of does place key_of screen
    → (f : F) (d : R) → of (get_or rows (place f) d) ≡ f
row_of {rows = rows} {of = of} {place = place} S f d = row_has rows of place S.table f d

pub row_key : {R F : Type 0} {rows : List R} {key : R → ℕ} {of : R → F} {does : R → Effect}
    {place key_of : F → ℕ} {screen : F → Bool} → Sheet rows key of does place key_of screen
    → (f : F) (d : R) → key (get_or rows (place f) d) ≡ key_of f
row_key {rows = rows} {key = key} {of = of} {place = place} {key_of = key_of} S f d =
    variant_fact rows of place S.table key key_of S.keys f d

pub row_screen : {R F : Type 0} {rows : List R} {key : R → ℕ} {of : R → F} {does : R → Effect}
    {place key_of : F → ℕ} {screen : F → Bool} → Sheet rows key of does place key_of screen
    → (f : F) (d : R) → is_screen_effect (does (get_or rows (place f) d)) ≡ screen f
row_screen {rows = rows} {of = of} {does = does} {place = place} {screen = screen} S f d =
    variant_fact rows of place S.table (λ r. is_screen_effect (does r)) screen S.screens f d

-- some of the functions are answered
pub record Answers {F : Type 0} (rows : List (Row F)) (answered : F → Bool) : Type 0 where
  pub each : map (λ r. is_answered_effect r.effect) rows ≡ map (λ r. answered r.function) rows

pub row_answered : {F : Type 0} {rows : List (Row F)} {place key_of : F → ℕ}
    {screen answered : F → Bool} → Functions rows place key_of screen → Answers rows answered
    → (f : F) (d : Row F) → is_answered_effect (get_or rows (place f) d).effect ≡ answered f
row_answered {rows = rows} {place = place} {answered = answered} S answers f d =
    variant_fact rows (λ r. r.function) place S.table (λ r. is_answered_effect r.effect) answered
    answers.each f d

-- no effect is both
apart : (e : Effect) → is_answered_effect e ≡ true → is_screen_effect e ≡ false
apart effect.Screen h = cc
apart effect.Answered h = refl
apart effect.Report h = cc
apart effect.Other h = cc

pub not_both : {F : Type 0} {rows : List (Row F)} {place key_of : F → ℕ}
    {screen answered : F → Bool} → Functions rows place key_of screen → Answers rows answered
    → (f : F) → answered f ≡ true → screen f ≡ false
not_both {rows = rows} {place = place} S answers f h =
    sym (row_screen S f (S.some f))
    ∙ apart (get_or rows (place f) (S.some f)).effect (row_answered S answers f (S.some f) ∙ h)

-- a fact about the function of each row, or about its key, is one about each function, or about its
-- key
pub of_each : {R F A : Type 0} {rows : List R} {key : R → ℕ} {of : R → F} {does : R → Effect}
    {place key_of : F → ℕ} {screen : F → Bool} → Sheet rows key of does place key_of screen
    → (g h : F → A) → map (λ r. g (of r)) rows ≡ map (λ r. h (of r)) rows
    → (f : F) → g f ≡ h f
of_each {rows = rows} {of = of} {place = place} S g h each f =
    sym (ap g (row_of S f (S.some f)))
    ∙ variant_fact rows of place S.table (λ r. g (of r)) h each f (S.some f)

pub of_each_key : {R F A : Type 0} {rows : List R} {key : R → ℕ} {of : R → F} {does : R → Effect}
    {place key_of : F → ℕ} {screen : F → Bool} → Sheet rows key of does place key_of screen
    → (g : ℕ → A) (h : F → A) → map (λ r. g (key r)) rows ≡ map (λ r. h (of r)) rows
    → (f : F) → g (key_of f) ≡ h f
of_each_key {rows = rows} {key = key} {of = of} {place = place} S g h each f =
    ap g (sym (row_key S f (S.some f)))
    ∙ variant_fact rows of place S.table (λ r. g (key r)) h each f (S.some f)

-- a row that is found by a key has it
same_keys : {R : Type 0} (f g : R → ℕ) (rs : List R) → map f rs ≡ map g rs
    → list_all (λ r. g r == f r) rs ≡ true
same_keys f g [] e = refl
same_keys f g (r ∷ rs) e =
    let first : g r ≡ f r = cc in
    let more : map f rs ≡ map g rs = cc in
    rw (eq-eqb (g r) (f r) first) (same_keys f g rs more)

is_keyed : {R F : Type 0} (key : R → ℕ) (of : R → F) (key_of : F → ℕ) (k : ℕ) (f : F)
    → Found key of (λ r. key_of (of r) == key r) k f → key_of f ≡ k
is_keyed key of key_of k f h =
    ap key_of (sym h.named) ∙ eqb-true (key_of (of h.row)) (key h.row) h.passes ∙ h.keyed

pub keyed_in : {R F : Type 0} {rows : List R} {key : R → ℕ} {of : R → F} {does : R → Effect}
    {place key_of : F → ℕ} {screen : F → Bool} → Sheet rows key of does place key_of screen
    → (k : ℕ) (f : F) → first_keyed key of rows k ≡ Some f → key_of f ≡ k
keyed_in {rows = rows} {key = key} {of = of} {key_of = key_of} S k f h =
    is_keyed key of key_of k f
    (found key of (λ r. key_of (of r) == key r) rows k f
    (same_keys key (λ r. key_of (of r)) rows S.keys) h)

pub keyed_in_group : {R F : Type 0} {rows : List R} {key : R → ℕ} {of : R → F} {does : R → Effect}
    {place key_of : F → ℕ} {screen : F → Bool} → Sheet rows key of does place key_of screen
    → (starts : List ℕ) (first k : ℕ) (f : F)
    → first_grouped key of (group rows starts) first k ≡ Some f → key_of f ≡ k
keyed_in_group {rows = rows} {key = key} {of = of} {key_of = key_of} S starts first k f h =
    elim (cases_Bool (is_from first 0x7e (k % 256))) [
      | inl inside ↦ is_keyed key of key_of k f
          (found_in_group key of (λ r. key_of (of r) == key r) rows starts (k % 256 - first) k f
          (same_keys key (λ r. key_of (of r)) rows S.keys) (rw inside at h))
      | inr outside ↦ let none : None ≡ Some f = rw outside at h in cc
    ]

-- whether the places of the groups rise
unfoldable pub rises : List ℕ → ℕ → ℕ → Bool
rises starts size i = nat_le (get_or starts i 0) (get_or starts (i + 1) 0)
    && nat_le (get_or starts (i + 1) 0) size

unfoldable pub AllRise : List ℕ → ℕ → Type 0
AllRise starts size = agree_below (rises starts size) (λ i. true) (length starts - 1) ≡ true

pub rise : (starts : List ℕ) (size : ℕ) → AllRise starts size → Rise starts size
unfolding AllRise rises
rise starts size all i lt =
    let parts = and_parts (nat_le (get_or starts i 0) (get_or starts (i + 1) 0))
    (nat_le (get_or starts (i + 1) 0) size)
    (agree_below_at (rises starts size) (λ j. true) (length starts - 1) i all (omega arith)) in
    (leb-true _ _ parts.0, leb-true _ _ parts.1)
