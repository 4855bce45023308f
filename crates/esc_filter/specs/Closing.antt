-- The changes that values leave at a terminal, and the values that undo them.
use Rattle.std.specs.Prelude.{ℕ, ◌≡◌, pos, Bool, true, false, not, ◌==◌, ◌&&◌, if◌then◌else◌, List, [], ◌∷◌, ◌++◌, Option, None, Some}
use Rattle.esc_sequences.specs.Csis.{CsiValue, csi_of, sgr, unspecified}
use Rattle.esc_sequences.specs.declared.esc.Esc.{Esc}
use Rattle.esc_sequences.specs.declared.esc.Esc.TheVariants as esc_variant
use Rattle.esc_sequences.specs.declared.sgr.Sgr.{Sgr}
use Rattle.esc_sequences.specs.declared.sgr.Sgr.TheVariants as sgr_variant
use Rattle.esc_values.specs.declared.csi_param.CsiParam.{CsiParam}
use Rattle.esc_values.specs.declared.csi_param.CsiParam.TheVariants.{Integer, P}
use Rattle.control_functions.specs.Escapes.{escape_of_name as named_escape}
use Rattle.control_functions.specs.Functions.{function_of, sequence_key}
use Rattle.esc_frame.specs.Segments.{is_empty}
use Rattle.esc_links.specs.declared.hyperlink.Hyperlink.{Hyperlink}
use Rattle.esc_osc.specs.declared.command.OperatingSystemCommand.{OperatingSystemCommand}
use Rattle.esc_osc.specs.declared.command.OperatingSystemCommand.TheVariants as command
use Rattle.esc_actions.specs.Values.{Value, control, esc, csi, osc}
use Rattle.esc_actions.specs.declared.control_code.ControlCode.{ControlCode}
use Rattle.esc_actions.specs.declared.control_code.ControlCode.TheVariants.{ShiftIn, ShiftOut}
use Rattle.esc_write.specs.declared.short_numbers.ShortNumbers.{ShortNumbers}
use Rattle.esc_write.specs.declared.short_numbers.ShortNumbers.TheVariants as short
use Rattle.esc_pen.specs.declared.pen.Pen.{Pen}
use Rattle.esc_filter.specs.Addresses.{address_in, is_address}
use Rattle.esc_filter.specs.Pens.{pen_after_final, pen_after_sequence, pen_selected}
use Rattle.esc_filter.specs.Terminal.{after_named, after_named_escape, is_changed_saved, nothing_saved, as_at_start}
use Rattle.esc_filter.specs.declared.terminal.Screen.{Screen}
use Rattle.esc_filter.specs.declared.terminal.Screen.TheVariants as screen
use Rattle.esc_filter.specs.declared.terminal.Terminal.{Terminal}

-- ---- the changes that are left

-- after a control sequence that has no name of its own
abbrev pub after_body : List CsiParam → ℕ → Terminal → Terminal
after_body es f t = after_named (function_of (sequence_key es f)) es t

-- a reset of all renditions
abbrev pub is_reset : Sgr → Bool
is_reset sgr_variant.Reset = true
is_reset _ = false

abbrev pub turned_terminal : Bool → Terminal → Terminal
turned_terminal b t = record t { rendition = b }

abbrev pub after_sequence : CsiValue → Terminal → Terminal
after_sequence (sgr s) t = turned_terminal (not (is_reset s)) t
after_sequence (unspecified es more f) t = after_body es f t

-- a sequence of these parameters and `m` is one action, after which renditions are on, or not
abbrev pub Turns : List CsiParam → Bool → Type 0
Turns es b = (v : CsiValue) × (csi_of es false 0x6d ≡ v ∷ [])
    × ((t : Terminal) → after_sequence v t ≡ turned_terminal b t)
    × ((p : Option Pen) → pen_after_sequence v p ≡ pen_selected es p)

-- the sequence is one value, after which t is u
abbrev pub IsAfter : List CsiParam → ℕ → Terminal → Terminal → Type 0
IsAfter es f t u = (v : CsiValue) × (csi_of es false f ≡ v ∷ []) × (u ≡ after_sequence v t)
    × ((p : Option Pen) → pen_after_final es f p ≡ pen_after_sequence v p)

-- whether renditions of these numbers leave any on
abbrev pub lights : ShortNumbers → Bool
lights (short.Lone n) = not (n == 0)
lights short.Nothing = true
lights (short.Pair a b) = true
lights (short.Palette i) = true

-- after a sequence of these parameters, if it is known whether renditions are on then, or its
-- function says which changes it leaves
abbrev pub noted_terminal : Option Bool → List CsiParam → ℕ → Terminal → Terminal
noted_terminal None es f t = after_body es f t
noted_terminal (Some b) es f t = turned_terminal b t

-- this number comes first
abbrev pub BeginsWith : ℕ → List CsiParam → Type 0
BeginsWith n es = (rest : List CsiParam) × (es ≡ Integer (pos n) ∷ rest)

abbrev pub after_escape : Esc → Terminal → Terminal
after_escape (esc_variant.Unspecified i f) t =
    after_named_escape (named_escape (esc_variant.Unspecified i f)) f t
after_escape (esc_variant.Code c) t = t

-- SO uses G1, and SI uses G0
abbrev pub after_control : ControlCode → Terminal → Terminal
after_control ShiftOut t = record t { sets = record t.sets { shifted = true } }
after_control ShiftIn t = record t { sets = record t.sets { shifted = false } }
after_control c t = t

-- a link to an address is open after it: one without an address ends a link, as no link does
abbrev pub opens : {A : Type 0} → Option (Hyperlink A) → Bool
opens None = false
opens (Some link) = not (is_empty link.uri)

-- a semicolon comes last; `before` says so of the bytes before these
abbrev pub ends_in_semicolon : Bool → List ℕ → Bool
ends_in_semicolon before [] = before
ends_in_semicolon before (b ∷ s) = ends_in_semicolon (b == 0x3b) s

-- the same for a link whose address is in parts; none are no link
abbrev pub after_address : List (List ℕ) → Terminal → Terminal
after_address [] t = t
after_address (u ∷ us) t = record t { link = is_address (u ∷ us) }

abbrev pub after_command : {A : Type 0} → OperatingSystemCommand A → Terminal → Terminal
after_command (command.SetHyperlink link) t = record t { link = opens link }
after_command (command.Unspecified ps) t = after_address (address_in ps) t
after_command _ t = t

-- after a value
abbrev pub after_value : {A : Type 0} → Value A → Terminal → Terminal
after_value (control c) t = after_control c t
after_value (esc e) t = after_escape e t
after_value (csi c) t = after_sequence c t
after_value (osc c) t = after_command c t
after_value _ t = t

-- after values, one after another
abbrev pub after_values : {A : Type 0} → List (Value A) → Terminal → Terminal
after_values [] t = t
after_values (v ∷ vs) t = after_values vs (after_value v t)

-- ---- the values that undo them

-- a private mode of this number is reset, or set
abbrev pub private_mode : {A : Type 0} → ℕ → ℕ → Value A
private_mode n f = csi (unspecified (P 0x3f ∷ Integer (pos n) ∷ []) false f)

-- an escape sequence
abbrev pub escape : {A : Type 0} → Option ℕ → ℕ → Value A
escape i f = esc (esc_variant.Unspecified i f)

-- G0 to G3, by the intermediates `(` to `+`, are US-ASCII
abbrev pub ascii_in : {A : Type 0} → ℕ → Value A
ascii_in i = escape (Some i) 0x42

abbrev pub give : {A : Type 0} → Bool → Value A → List (Value A)
give true v = v ∷ []
give false v = []

-- lists, one after another
abbrev pub joined_lists : {X : Type 0} → List (List X) → List X
joined_lists [] = []
joined_lists (x ∷ xs) = x ++ joined_lists xs

-- the main screen, by the mode that shows the other
abbrev pub main_by : {A : Type 0} → Screen → List (Value A)
main_by screen.Main = []
main_by screen.Alternate = private_mode 47 0x6c ∷ []
main_by screen.Cleared = private_mode 1047 0x6c ∷ []
main_by screen.WithCursor = private_mode 1049 0x6c ∷ []

abbrev pub screen_back : {A : Type 0} → Terminal → List (Value A)
screen_back t = main_by t.screen

-- Left and right margins; the origin; that characters are not inserted; the cursor; colours that
-- are not reversed; lines that wrap; a screen that is drawn; no rendition; no link; and the
-- character sets.
abbrev pub states_back : {A : Type 0} → Terminal → List (Value A)
states_back t = joined_lists (
    give t.sides (private_mode 69 0x6c)
    ∷ give t.origin (private_mode 6 0x6c)
    ∷ give t.insert (csi (unspecified (Integer (pos 4) ∷ []) false 0x6c))
    ∷ give t.hidden (private_mode 25 0x68)
    ∷ give t.reverse (private_mode 5 0x6c)
    ∷ give t.no_wrap (private_mode 7 0x68)
    ∷ give t.held (private_mode 2026 0x6c)
    ∷ give t.rendition (csi (sgr sgr_variant.Reset))
    ∷ give t.link (osc (command.SetHyperlink None))
    ∷ give t.sets.shifted (control ShiftIn)
    ∷ give t.sets.g0 (ascii_in 0x28)
    ∷ give t.sets.g1 (ascii_in 0x29)
    ∷ give t.sets.g2 (ascii_in 0x2a)
    ∷ give t.sets.g3 (ascii_in 0x2b)
    ∷ []
    )

-- the margins; the cursor stays at its place if it may be saved and restored, and goes home
-- otherwise
abbrev pub without_margins : {A : Type 0} → Bool → List (Value A)
without_margins true = escape None 0x37 ∷ csi (unspecified [] false 0x72) ∷ escape None 0x38 ∷ []
without_margins false = csi (unspecified [] false 0x72) ∷ []

abbrev pub margins_back : {A : Type 0} → Bool → Terminal → List (Value A)
margins_back keeps t = if t.margins then without_margins keeps else []

-- the state that is saved with the cursor of the main screen: it is saved anew, by DECSC or by mode
-- 1048
abbrev pub saved_by : {A : Type 0} → Bool → Value A
saved_by true = escape None 0x37
saved_by false = private_mode 1048 0x68

abbrev pub saved_back : {A : Type 0} → Bool → Terminal → List (Value A)
saved_back keeps t = give (is_changed_saved t.saved) (saved_by keeps)

-- one part, and then others, for the state that it leaves
abbrev pub next : {A : Type 0} → (Terminal → List (Value A)) → (Terminal → List (Value A))
    → Terminal → List (Value A)
next first others t = first t ++ others (after_values (first t) t)

-- The values that undo the changes that are left, one part after another, each for the state that
-- those before it leave. The last two go by whether DECSC and DECRC may be written.
abbrev pub given_back : {A : Type 0} → Bool → Terminal → List (Value A)
given_back keeps =
    next screen_back (next states_back (next (margins_back keeps) (saved_back keeps)))

-- whether a policy that admits these values admits DECSC and DECRC
abbrev pub keeps_cursor : {A : Type 0} → (Value A → Bool) → Bool
keeps_cursor admits = admits (escape None 0x37) && admits (escape None 0x38)

-- the values that undo the changes of these values, for a policy that admits the values of `admits`
abbrev pub closing : {A : Type 0} → (Value A → Bool) → List (Value A) → List (Value A)
closing admits vs = given_back (keeps_cursor admits) (after_values vs as_at_start)

-- values, and those that undo the changes that they leave
abbrev pub closed_values : {A : Type 0} → (Value A → Bool) → List (Value A) → List (Value A)
closed_values admits vs = vs ++ closing admits vs

-- ---- as at the start

-- the state of a terminal, once the changes that were left are undone
pub record IsAtStart (t : Terminal) : Type 0 where
  pub rendition : t.rendition ≡ false
  pub link : t.link ≡ false
  pub insert : t.insert ≡ false
  pub origin : t.origin ≡ false
  pub margins : t.margins ≡ false
  pub sides : t.sides ≡ false
  pub hidden : t.hidden ≡ false
  pub reverse : t.reverse ≡ false
  pub no_wrap : t.no_wrap ≡ false
  pub held : t.held ≡ false
  pub sets : t.sets ≡ as_at_start.sets
  pub screen : t.screen ≡ screen.Main
  pub saved : t.saved ≡ nothing_saved
