-- The numbers of the colours of a screen are bytes.
use Rattle.std.proofs.Common.{ℕ, zero, suc, ◌<◌, ◌==◌, nat_lt, Bool, true, false, List, [], ◌∷◌, ◌++◌, length, get_or, Option, None, Some, IfSome, if◌then◌else◌}
use Rattle.esc_actions.specs.Values.{Value, print, string, control, esc, csi, osc, kitty, sixel, termcap, short, enter, datum, exit}
use Rattle.esc_sequences.specs.declared.intensity.Intensity.{Intensity}
use Rattle.esc_sequences.specs.declared.intensity.Intensity.TheVariants as intensity
use Rattle.typed_functions.proofs.Selected.{csi_small, esc_small}
use Rattle.typed_functions.specs.Escapes.{of_escape}
use Rattle.typed_functions.specs.Functions.{Value as Function, charset, cursor, device, edit, escape, keyboard, mode_status, modes, mouse, of_csi, other, renditions, tabs, window}
use Rattle.typed_functions.specs.Numbers.{ansi_color_at}
use Rattle.typed_functions.specs.Renditions.{IsColor as IsColorSpec, IsRendition}
use Rattle.typed_functions.specs.Selected.{AreSelected, IsSelected, Selection}
use Rattle.typed_functions.specs.declared.color_spec.ColorSpec.{ColorSpec}
use Rattle.typed_functions.specs.declared.color_spec.ColorSpec.TheVariants as spec
use Rattle.typed_functions.specs.declared.rendition.Rendition.{Rendition}
use Rattle.typed_functions.specs.declared.rendition.Rendition.TheVariants as rendition
use Rattle.esc_style.specs.Colors.{color_of}
use Rattle.esc_style.specs.Looks.{look_by, look_by_all, look_by_optional, plain_look, with_intensity}
use Rattle.esc_style.specs.declared.color.Color.TheVariants as color
use Rattle.esc_style.specs.declared.look.Look.{Look}
use Rattle.esc_screen.specs.declared.cursor.Cursor.{Cursor as Place}
use Rattle.esc_terminal.specs.Bounds.{AreLooks, IsColor, IsLook}
use Rattle.esc_terminal.specs.Links.{Known, Target, known_by_look, known_look, lead_in, look_number}
use Rattle.esc_terminal.specs.Looks.{erased_look, most_looks, place_of, with_look}
use Rattle.esc_terminal.specs.Steps.{function_known, known_by, lead_known}

-- ---- looks

spec_color : (c : ColorSpec) → IsColorSpec c → IsColor (color_of c)
spec_color spec.Default h = tt
spec_color (spec.PaletteIndex n) h = by (nat_lt n 16)
  where
    by : (b : Bool) → IsColor (if b then color.Named (ansi_color_at n) else color.Palette n)
    by true = tt
    by false = h
spec_color (spec.TrueColor c) h = h

intensity_look : (l : Look) (i : Intensity) → IsLook l → IsLook (with_intensity l i)
intensity_look l intensity.Normal h = h
intensity_look l intensity.Bold h = h
intensity_look l intensity.Half h = h

rendition_look : (l : Look) (r : Rendition) → IsLook l → IsRendition r → IsLook (look_by l r)
rendition_look l rendition.Reset h k = (tt, tt, tt)
rendition_look l (rendition.Intensity i) h k = intensity_look l i h
rendition_look l (rendition.Italic b) h k = h
rendition_look l (rendition.Underline u) h k = h
rendition_look l (rendition.Blink b) h k = h
rendition_look l (rendition.Inverse b) h k = h
rendition_look l (rendition.Invisible b) h k = h
rendition_look l (rendition.StrikeThrough b) h k = h
rendition_look l (rendition.Font f) h k = h
rendition_look l (rendition.Proportional b) h k = h
rendition_look l (rendition.AnsiForeground c) h k = (tt, h.1, h.2)
rendition_look l (rendition.AnsiBackground c) h k = (h.0, tt, h.2)
rendition_look l (rendition.Foreground c) h k = (spec_color c k, h.1, h.2)
rendition_look l (rendition.Background c) h k = (h.0, spec_color c k, h.2)
rendition_look l (rendition.UnderlineColor c) h k = (h.0, h.1, spec_color c k)
rendition_look l (rendition.Frame f) h k = h
rendition_look l (rendition.Overline b) h k = h
rendition_look l (rendition.Ideogram i) h k = h
rendition_look l (rendition.VerticalAlign a) h k = h

optional_look : (l : Look) (o : Option Rendition) → IsLook l → IfSome o IsRendition
    → IsLook (look_by_optional l o)
optional_look l None h k = h
optional_look l (Some r) h k = rendition_look l r h k

look_after : (l : Look) (rs : List Selection) → IsLook l → AreSelected rs
    → IsLook (look_by_all l rs)
look_after l [] h k = h
look_after l (r ∷ rs) h k =
    look_after (look_by_optional l r.0) rs (optional_look l r.0 h k.0) k.1

pub look_within : (ls : List Look) (n : ℕ) → AreLooks ls → IsLook (get_or ls n plain_look)
look_within [] n are = (tt, tt, tt)
look_within (l ∷ ls) zero are = are.0
look_within (l ∷ ls) (suc n) are = look_within ls n are.1

pushed : (ls : List Look) (l : Look) → AreLooks ls → IsLook l → AreLooks (ls ++ l ∷ [])
pushed [] l h k = (k, tt)
pushed (m ∷ ls) l h k = (h.0, pushed ls l h.1 k)

with_within : (l : Look) (ls : List Look) → IsLook l → AreLooks ls → AreLooks (with_look l ls)
with_within l ls h k = by (nat_lt (place_of l ls) most_looks) (place_of l ls == length ls)
  where
    by : (a b : Bool) → AreLooks (if a then if b then ls ++ l ∷ [] else ls else ls)
    by true true = pushed ls l k h
    by true false = k
    by false b = k

-- ---- values

known_after : (l : Look) (n : ℕ) (k : Known) → IsLook l → AreLooks k.looks
    → AreLooks (known_by_look l n k).looks
known_after l n k h are =
    with_within (erased_look l) (with_look l k.looks) (tt, h.1, tt)
    (with_within l k.looks h are)

by_function : (k : Known) (c : Place) (f : Function) → IsSelected f → AreLooks k.looks
    → AreLooks (function_known k c f).looks
by_function k c (cursor x) h are = are
by_function k c (edit x) h are = are
by_function k c (device x) h are = are
by_function k c (keyboard x) h are = are
by_function k c (mouse x) h are = are
by_function k c (window x) h are = are
by_function k c (mode_status x) h are = are
by_function k c (charset x) h are = are
by_function k c (escape x) h are = are
by_function k c (modes x ms) h are = are
by_function k c (tabs x ns) h are = are
by_function k c (renditions rs) h are =
    known_after (look_by_all (known_look c.look k) rs) c.look k
    (look_after (known_look c.look k) rs (look_within k.looks (look_number c.look k.linked) are) h)
    are
by_function k c (other u) h are = are

by_lead : (c : Place) (k : Known) (o : Option (Option Target)) → AreLooks k.looks
    → AreLooks (lead_known c k o).looks
by_lead c k None are = are
by_lead c k (Some t) are = are

pub by_value : {A : Type 0} (k : Known) (c : Place) (v : Value A) → AreLooks k.looks
    → AreLooks (known_by k c v).looks
by_value k c (print x) are = are
by_value k c (string x) are = are
by_value k c (control x) are = are
by_value k c (esc e) are = by_function k c (of_escape e) (esc_small e) are
by_value k c (csi s) are = by_function k c (of_csi s) (csi_small s) are
by_value k c (osc o) are = by_lead c k (lead_in o) are
by_value k c (kitty x) are = are
by_value k c (sixel x) are = are
by_value k c (termcap x) are = are
by_value k c (short x) are = are
by_value k c (enter x) are = are
by_value k c (datum x) are = are
by_value k c exit are = are
