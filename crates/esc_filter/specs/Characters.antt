-- The values that are written for characters that deceive, and for carriage returns.
use Rattle.std.specs.Prelude.{ℕ, Bool, true, false, ◌&&◌, ◌||◌, if◌then◌else◌, List, [], ◌∷◌, ◌++◌, map, Option, None, Some}
use Rattle.unicode_visibility.specs.Characters.{is_deceiving, number_text}
use Rattle.unicode_visibility.specs.Following.{is_stray, may_follow}
use Rattle.esc_actions.specs.Values.{Value, control, print}
use Rattle.esc_actions.specs.declared.control_code.ControlCode.{ControlCode}
use Rattle.esc_actions.specs.declared.control_code.ControlCode.TheVariants.{CarriageReturn}
use Rattle.esc_filter.specs.declared.guard.Guard.{Guard}
use Rattle.esc_filter.specs.declared.returns.Returns.{Returns}
use Rattle.esc_filter.specs.declared.returns.Returns.TheVariants as way
use Rattle.esc_filter.specs.declared.unicode.Unicode.{Unicode}
use Rattle.esc_filter.specs.declared.unicode.Unicode.TheVariants.{Drop, Join, Keep, Show}

-- this is written of characters that deceive, and carriage returns are kept
abbrev pub of_unicode : Unicode → Guard
of_unicode u = record { characters = u; returns = way.Keep }

-- all is
abbrev pub keep_all : Guard
keep_all = of_unicode Keep

abbrev pub keeps_characters : Unicode → Bool
keeps_characters Keep = true
keeps_characters _ = false

abbrev pub keeps_returns : Returns → Bool
keeps_returns way.Keep = true
keeps_returns _ = false

abbrev pub keeps_all : Guard → Bool
keeps_all g = keeps_characters g.characters && keeps_returns g.returns

abbrev pub is_return : ControlCode → Bool
is_return CarriageReturn = true
is_return _ = false

-- the values that are written for a character that deceives, if this one was written before it
abbrev pub replacement_values : {A : Type 0} → Unicode → Option ℕ → ℕ → List (Value A)
replacement_values Keep b c = print c ∷ []
replacement_values Join b c = if may_follow b c then print c ∷ [] else map print (number_text c)
replacement_values Show b c = map print (number_text c)
replacement_values Drop b c = []

-- the values that are written for a carriage return: `^M` if it is shown
abbrev pub in_return : {A : Type 0} → Returns → List (Value A)
in_return way.Keep = control CarriageReturn ∷ []
in_return way.Show = map print (0x5e ∷ 0x4d ∷ [])
in_return way.Drop = []

-- the values that are written for a value, if this character was written before it, or none was
abbrev pub in_guard : {A : Type 0} → Guard → Option ℕ → Value A → List (Value A)
in_guard g b (print c) = if is_deceiving c then replacement_values g.characters b c else print c
    ∷ []
in_guard g b (control c) = if is_return c then in_return g.returns else control c ∷ []
in_guard g b v = v ∷ []

-- the character that comes before the values after these: a control, a sequence or a string leaves
-- none
abbrev pub character_of : {A : Type 0} → Value A → Option ℕ
character_of (print c) = Some c
character_of _ = None

abbrev pub last_after : {A : Type 0} → Option ℕ → List (Value A) → Option ℕ
last_after b [] = b
last_after b (v ∷ vs) = last_after (character_of v) vs

-- the values that are written for values, one after another; each depends on those before it
abbrev pub each_in_guard : {A : Type 0} → Guard → Option ℕ → List (Value A) → List (Value A)
each_in_guard g b [] = []
each_in_guard g b (v ∷ vs) =
    in_guard g b v ++ each_in_guard g (last_after b (in_guard g b v)) vs

-- they themselves if all is kept
abbrev pub in_values_after : {A : Type 0} → Guard → Option ℕ → List (Value A) → List (Value A)
in_values_after g b vs = if keeps_all g then vs else each_in_guard g b vs

-- the values that are written for those of a stream
abbrev pub in_values : {A : Type 0} → Guard → List (Value A) → List (Value A)
in_values g vs = in_values_after g None vs

-- it is a character that deceives, and does not belong to this one, which was written directly
-- before it
abbrev pub strays : {A : Type 0} → Option ℕ → Value A → Bool
strays b (print c) = is_stray b c
strays b _ = false

-- one of them is
abbrev pub some_strays : {A : Type 0} → Option ℕ → List (Value A) → Bool
some_strays b [] = false
some_strays b (v ∷ vs) = strays b v || some_strays (character_of v) vs
