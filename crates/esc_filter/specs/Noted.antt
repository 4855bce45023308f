-- The effect of an action on the writer of actions.
use Rattle.std.specs.Prelude.{ℕ, ◌≡◌, ◌⊎◌, Bool, false, true, ◌&&◌, if◌then◌else◌, List, [], ◌∷◌, ◌++◌, Option, None}
use Rattle.std.specs.List.{list_all, list_any}
use Rattle.esc_values.specs.declared.csi_param.CsiParam.{CsiParam}
use Rattle.esc_sequences.specs.Csis.{CsiValue, csi_of}
use Rattle.esc_osc.specs.Reading.{meaning as command_meant}
use Rattle.esc_actions.specs.Texts.{texts_after}
use Rattle.esc_actions.specs.Values.{Value, csi, osc, value_of}
use Rattle.esc_actions.specs.declared.action.Action.{Action}
use Rattle.esc_normal.specs.Spelled.{Denies}
use Rattle.unicode_visibility.specs.Characters.{is_deceiving}
use Rattle.unicode_visibility.specs.Following.{has_stray}
use Rattle.esc_filter.specs.Characters.{in_guard, last_after}
use Rattle.esc_filter.specs.Closing.{after_values}
use Rattle.esc_filter.specs.Terminal.{as_at_start}
use Rattle.esc_filter.specs.Pens.{pen_after, start_pen}
use Rattle.esc_filter.specs.Passing.{is_line_feed}
use Rattle.esc_filter.specs.Rules.{is_link, is_plain_param}
use Rattle.esc_normal.specs.Texts.{ends_in_string}
use Rattle.esc_filter.specs.declared.guard.Guard.{Guard}
use Rattle.esc_filter.specs.declared.unicode.Unicode.TheVariants.{Join, Keep}
use Rattle.esc_filter.specs.declared.written.Written.{Written}

-- the same without its text
abbrev pub without_text : {A : Type 0} → Written A → Written A
without_text w = record w { spell = record w.spell { text = [] } }

-- the text of these values was appended, and the changes that they leave were noted
abbrev pub Writes : {A : Type 0} → Written A → List (Value A) → Written A → Type 0
Writes p vs q = (q.spell.text ≡ p.spell.text ++ texts_after p.spell.follows_string vs)
    × (q.spell.follows_string ≡ ends_in_string p.spell.follows_string vs)
    × (q.left ≡ after_values vs p.left) × (q.by_lines ≡ p.by_lines) × (q.guard ≡ p.guard)
    × (q.before ≡ last_after p.before vs) × (q.pen ≡ pen_after vs p.pen)

-- the values that are written for a value, if this character was written before it: none for a line
-- feed if lines are streams of their own
abbrev pub written_of : {A : Type 0} → Bool → Guard → Option ℕ → Value A → List (Value A)
written_of b u before v = if is_line_feed v && b then [] else in_guard u before v

-- that was done for the values that are written for the action
abbrev pub Notes : {A : Type 0} → Written A → Action A → Written A → Type 0
Notes p a q = Writes p (written_of p.by_lines p.guard p.before (value_of a)) q

-- each of these characters is written as it is, if this one was written before them
abbrev pub AreKept : Guard → Option ℕ → List ℕ → Type 0
AreKept u b xs = (u.characters ≡ Keep) ⊎ ((list_any is_deceiving xs ≡ false)
    ⊎ ((u.characters ≡ Join) × (has_stray b xs ≡ false)))

-- an action that has a text is refused if memory is
abbrev pub WriteDenies : {A : Type 0} → Written A → Action A → Written A → Type 0
WriteDenies p a q = Denies p.spell a q.spell

-- it wrote these values, by lines or not; u says how characters that deceive are written
abbrev pub HasNoted : {A : Type 0} → Bool → Guard → List (Value A) → Written A → Type 0
HasNoted b u vs w = (w.spell.follows_string ≡ ends_in_string false vs)
    × (w.left ≡ after_values vs as_at_start) × (w.by_lines ≡ b) × (w.guard ≡ u)
    × (w.before ≡ last_after None vs) × (w.pen ≡ pen_after vs (start_pen b))

-- ---- sequences and commands that are written from their parameters or their text

-- the control sequence with these parameters that ends in `m` is one rendition, which was written
-- and noted
abbrev pub WritesRendition : {A : Type 0} → Written A → List CsiParam → Written A → Type 0
WritesRendition p es q = (list_all is_plain_param es ≡ true)
    × ((v : CsiValue) × (csi_of es false 0x6d ≡ v ∷ []) × Writes p (csi v ∷ []) q)

-- the command of these parts is a link, or the end of one, which was written and noted
abbrev pub WritesLink : {A : Type 0} → Written A → List (List ℕ) → Written A → Type 0
WritesLink {A} p ps q = (is_link (command_meant {A = A} ps) ≡ true)
    × Writes p (osc (command_meant ps) ∷ []) q
