-- The slots of looks and links in the tables that find them: any number serves, and the fewer looks
-- have the same one, the sooner each is found.
use Rattle.std.specs.Prelude.{ℕ, ◌+◌, ◌*◌, ◌%◌, Bool, if◌then◌else◌, List, [], ◌∷◌, Option, None, Some, codes}
use Rattle.esc_links.specs.Hyperlinks.{value_at}
use Rattle.esc_links.specs.declared.hyperlink.Hyperlink.{Hyperlink}
use Rattle.esc_sequences.specs.declared.underline.Underline.{Underline}
use Rattle.esc_sequences.specs.declared.underline.Underline.TheVariants as underline
use Rattle.esc_style.specs.declared.color.Color.{Color}
use Rattle.esc_style.specs.declared.color.Color.TheVariants as color
use Rattle.esc_style.specs.declared.look.Look.{Look}
use Rattle.esc_terminal.specs.Chains.{slot_count}
use Rattle.esc_terminal.specs.declared.styles.Linked.{Linked}
use Rattle.esc_values.specs.Cuts.{Pairs}
use Rattle.typed_functions.specs.Numbers.{ansi_color_number}

-- ---- looks

abbrev pub color_number : Color → ℕ
color_number color.Default = 0
color_number (color.Named c) = 1 + ansi_color_number c
color_number (color.Palette n) = 17 + n
color_number (color.Direct v) = 273 + v.0 + 7 * v.1 + 59 * v.2

abbrev pub flag_number : Bool → ℕ → ℕ
flag_number b n = if b then n else 0

abbrev pub underline_number : Underline → ℕ
underline_number underline.None = 0
underline_number underline.Single = 131
underline_number _ = 653

abbrev pub flags_number : Look → ℕ
flags_number l = flag_number l.bold 287 + flag_number l.faint 541 + flag_number l.italic 773
    + flag_number l.inverse 389 + underline_number l.underline

abbrev pub look_slot : Look → ℕ
look_slot l = (color_number l.foreground + 61 * color_number l.background + flags_number l)
    % slot_count

-- ---- links

-- a number after each byte of a text
abbrev pub text_number : ℕ → List ℕ → ℕ
text_number n [] = n
text_number n (b ∷ bs) = text_number ((n * 33 + b) % 0x10000) bs

abbrev pub id_number : Option (List ℕ) → ℕ
id_number None = 0
id_number (Some i) = text_number 0 i

-- by the id, among these parameters, and the address
abbrev pub target_slot : Pairs × List ℕ → ℕ
target_slot t = text_number (id_number (value_at (codes "id") t.0)) t.1 % slot_count

abbrev pub link_slot : {A : Type 0} → Hyperlink A → ℕ
link_slot h = target_slot (h.params, h.uri)

abbrev pub linked_slot : Linked → ℕ
linked_slot p = (p.link + 37 * p.look) % slot_count
