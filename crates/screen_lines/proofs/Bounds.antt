-- The length of the text of rows, with the room that is left for links.
use Rattle.std.proofs.Common.{ℕ, zero, suc, ◌≡◌, ◌+◌, ◌-◌, ◌*◌, ◌<◌, ◌≤◌, ◌==◌, nat_le, nat_lt, Bool, true, false, List, [], ◌∷◌, ◌++◌, codes, length, get_or, replicate, is_some, Option, None, Some, if◌then◌else◌, refl, sym, subst, ◌∙◌, length-append, arith}
use Rattle.std.specs.Char.{encode_utf8}
use Rattle.std.specs.Fmt.{decimal}
use Rattle.std.specs.List.{All}
use Rattle.std.proofs.Math.Nat.{suc-mul}
use Rattle.std.proofs.lemmas.Bool.{leb-true}
use Rattle.std.proofs.lemmas.Fmt.{length-decimal-le}
use Rattle.std.proofs.lemmas.List.Elements.{All-head, All-tail}
use Rattle.std.proofs.lemmas.Str.{len_utf8_bounds, length-encode}
use Rattle.esc_filter.specs.declared.unicode.Unicode.{Unicode}
use Rattle.esc_sequences.specs.declared.underline.Underline.{Underline}
use Rattle.esc_sequences.specs.declared.underline.Underline.TheVariants as underline
use Rattle.esc_screen.specs.Cells.{is_rest}
use Rattle.esc_screen.specs.declared.cell.Cell.{Cell}
use Rattle.esc_screen.specs.declared.content.Content.{Content}
use Rattle.esc_screen.specs.declared.content.Content.TheVariants as content
use Rattle.esc_screen.specs.declared.marks.Marks.{Marks}
use Rattle.esc_sgr.specs.Sgr.{change_text, color_text, colors_text, flag_text, flags_text, look_text, named_number, number_text, rgb_text, same_look, underline_color_text, underline_text, weight_text}
use Rattle.esc_style.specs.Looks.{plain_look}
use Rattle.esc_style.specs.declared.color.Color.{Color}
use Rattle.esc_style.specs.declared.color.Color.TheVariants as color
use Rattle.esc_style.specs.declared.look.Look.{Look}
use Rattle.esc_terminal.specs.Bounds.{AreLooks, IsColor, IsLook}
use Rattle.esc_terminal.specs.Links.{Known, Target, known_look, known_target, link_number, look_number}
use Rattle.esc_terminal.specs.Scrolled.{Row}
use Rattle.esc_terminal.proofs.Colors.{look_within}
use Rattle.esc_values.specs.Clear.{string_terminator}
use Rattle.typed_functions.specs.Numbers.{ansi_color_number}
use Rattle.typed_functions.specs.declared.ansi_color.AnsiColor.{AnsiColor}
use Rattle.typed_functions.specs.declared.ansi_color.AnsiColor.TheVariants as ansi
use Rattle.unicode_visibility.specs.Characters.{digit_at, four_digits, leading, number_text as character_number}
use Rattle.screen_lines.specs.Bounds.{AreBounded, IsRow, row_most}
use Rattle.screen_lines.specs.Parts.{Out, Part, begun_ink, begun_text, end_text, ended_ink, first_out, first_room, id_length, id_of, is_writable, lead_length, lead_text, more_room, most_room, out_by, out_from, part_ink, part_text, room_after, spelled_ink, spelled_text, spelling}
use Rattle.screen_lines.specs.Parts.Part.{Change, Character, Lead, LineEnd}
use Rattle.screen_lines.specs.Rows.{blanks_held, blanks_parts, cell_parts, cells_parts, change_parts, content_parts, ended_parts, first_going, gap_parts, going_by, held_link, held_look, is_hidden, is_same_number, leads_parts, mark_parts, marked_parts, out_by_row, out_by_rows, plain_parts, row_parts, seen_parts}
use Rattle.screen_lines.specs.declared.going.Going.{Going}
use Rattle.screen_lines.specs.declared.ink.Ink.{Ink}
use Rattle.screen_lines.specs.declared.spelling.Spelling.{Spelling}
use Rattle.screen_lines.specs.declared.spelling.Spelling.TheVariants.{Absent, AsItIs, ByNumber}
use Rattle.screen_lines.proofs.Growing.{from_more}

-- ---- the sequence that makes a look

number_short : (n : ℕ) → n < 1000 → length (number_text n) ≤ 4
number_short n h =
    let few = length-decimal-le 3 n (omega arith) (omega (arith, h)) (omega (arith, h)) in
    omega (arith, few)

rgb_short : (c : ℕ × ℕ × ℕ) → (c.0 < 256) × (c.1 < 256) × (c.2 < 256)
    → length (rgb_text c) ≤ 12
rgb_short c h =
    let first = length-append (number_text c.0) (number_text c.1 ++ number_text c.2) in
    let second = length-append (number_text c.1) (number_text c.2) in
    let red = number_short c.0 (omega (arith, h.0)) in
    let green = number_short c.1 (omega (arith, h.1)) in
    let blue = number_short c.2 (omega (arith, h.2)) in
    omega (arith, first, second, red, green, blue)

ansi_few : (c : AnsiColor) → ansi_color_number c < 16
ansi_few ansi.Black = omega arith
ansi_few ansi.Red = omega arith
ansi_few ansi.Green = omega arith
ansi_few ansi.Yellow = omega arith
ansi_few ansi.Blue = omega arith
ansi_few ansi.Magenta = omega arith
ansi_few ansi.Cyan = omega arith
ansi_few ansi.White = omega arith
ansi_few ansi.BrightBlack = omega arith
ansi_few ansi.BrightRed = omega arith
ansi_few ansi.BrightGreen = omega arith
ansi_few ansi.BrightYellow = omega arith
ansi_few ansi.BrightBlue = omega arith
ansi_few ansi.BrightMagenta = omega arith
ansi_few ansi.BrightCyan = omega arith
ansi_few ansi.BrightWhite = omega arith

named_few : (base n : ℕ) → base ≤ 40 → n < 16 → named_number base n < 1000
named_few base n h k = by (nat_lt n 8)
  where
    by : (t : Bool) → (if t then base + n else base + 52 + n) < 1000
    by true = omega (arith, h, k)
    by false = omega (arith, h, k)

after_mark : (s t : List ℕ) (m : ℕ) → length s ≤ 5 → length t ≤ m → length (s ++ t) ≤ 5 + m
after_mark s t m h k =
    let both = length-append s t in
    omega (arith, both, h, k)

color_short : (base : ℕ) (s t : List ℕ) (c : Color) → base ≤ 40 → length s ≤ 5 → length t ≤ 5
    → IsColor c → length (color_text base s t c) ≤ 17
color_short base s t color.Default b h k is = omega arith
color_short base s t (color.Named c) b h k is =
    let few = number_short (named_number base (ansi_color_number c))
    (named_few base (ansi_color_number c) b (ansi_few c)) in
    omega (arith, few)
color_short base s t (color.Palette n) b h k is =
    let few = after_mark s (number_text n) 4 h (number_short n (omega (arith, is))) in
    omega (arith, few)
color_short base s t (color.Direct c) b h k is = after_mark t (rgb_text c) 12 k (rgb_short c is)

underline_color_short : (c : Color) → IsColor c → length (underline_color_text c) ≤ 17
underline_color_short color.Default is = omega arith
underline_color_short (color.Named c) is =
    let small = ansi_few c in
    let few = after_mark (codes ";58;5") (number_text (ansi_color_number c)) 4 (omega arith)
    (number_short (ansi_color_number c) (omega (arith, small))) in
    omega (arith, few)
underline_color_short (color.Palette n) is =
    let few = after_mark (codes ";58;5") (number_text n) 4 (omega arith)
    (number_short n (omega (arith, is))) in
    omega (arith, few)
underline_color_short (color.Direct c) is =
    after_mark (codes ";58;2") (rgb_text c) 12 (omega arith) (rgb_short c is)

colors_short : (l : Look) → IsLook l → length (colors_text l) ≤ 51
colors_short l is =
    let text = color_text 30 (codes ";38;5") (codes ";38;2") l.foreground in
    let ground = color_text 40 (codes ";48;5") (codes ";48;2") l.background in
    let under = underline_color_text l.underline_color in
    let first = length-append text (ground ++ under) in
    let second = length-append ground under in
    let a = color_short 30 (codes ";38;5") (codes ";38;2") l.foreground (omega arith)
    (omega arith) (omega arith) is.0 in
    let b = color_short 40 (codes ";48;5") (codes ";48;2") l.background (omega arith)
    (omega arith) (omega arith) is.1 in
    let c = underline_color_short l.underline_color is.2 in
    omega (arith, first, second, a, b, c)

flag_short : (b : Bool) (t : List ℕ) → length (flag_text b t) ≤ length t
flag_short true t = omega arith
flag_short false t = omega arith

weight_short : (b f : Bool) → length (weight_text b f) ≤ 4
weight_short true true = omega arith
weight_short true false = omega arith
weight_short false true = omega arith
weight_short false false = omega arith

underline_short : (u : Underline) → length (underline_text u) ≤ 4
underline_short underline.None = omega arith
underline_short underline.Single = omega arith
underline_short underline.Double = omega arith
underline_short underline.Curly = omega arith
underline_short underline.Dotted = omega arith
underline_short underline.Dashed = omega arith

flag_before : (b : Bool) (s t : List ℕ) (m n : ℕ) → length s ≤ m → length t ≤ n
    → length (flag_text b s ++ t) ≤ m + n
flag_before b s t m n h k =
    let both = length-append (flag_text b s) t in
    let few = flag_short b s in
    omega (arith, both, few, h, k)

flags_short : (l : Look) → length (flags_text l) ≤ 13
flags_short l =
    flag_before l.italic (codes ";3") _ 2 11 (omega arith)
    (flag_before l.blink (codes ";5") _ 2 9 (omega arith)
    (flag_before l.inverse (codes ";7") _ 2 7 (omega arith)
    (flag_before l.concealed (codes ";8") _ 2 5 (omega arith)
    (flag_before l.strikethrough (codes ";9") _ 2 3 (omega arith)
    (flag_short l.overline (codes ";53"))))))

look_short : (l : Look) → IsLook l → length (look_text l) ≤ 76
look_short l is =
    let weight = weight_text l.bold l.faint in
    let under = underline_text l.underline in
    let flags = flags_text l in
    let colors = colors_text l in
    let first = length-append weight (under ++ (flags ++ (colors ++ codes "m"))) in
    let second = length-append under (flags ++ (colors ++ codes "m")) in
    let third = length-append flags (colors ++ codes "m") in
    let fourth = length-append colors (codes "m") in
    let a = weight_short l.bold l.faint in
    let b = underline_short l.underline in
    let c = flags_short l in
    let d = colors_short l is in
    omega (arith, first, second, third, fourth, a, b, c, d)

-- ---- a character

leading_short : (c : ℕ) → length (leading c) ≤ 2
leading_short c = by (nat_lt c 0x10000) (nat_lt c 0x100000)
  where
    high : List ℕ
    high = digit_at 0x10000 c ∷ []

    by : (s t : Bool) → length (if s then [] else if t then high
        else digit_at 0x100000 c ∷ high) ≤ 2
    by true t = omega arith
    by false true = omega arith
    by false false = omega arith

number_few : (c : ℕ) → length (character_number c) ≤ 10
unfolding character_number
number_few c =
    let both = length-append (leading c) (four_digits c ++ 0x3e ∷ []) in
    let few = leading_short c in
    omega (arith, both, few)

character_short : (c : ℕ) → length (encode_utf8 c) ≤ 4
character_short c = omega (arith, length-encode c, (len_utf8_bounds c).1)

room_grows : (n : ℕ) → more_room n ≤ n + 0x40
room_grows n = by (nat_lt n most_room)
  where
    by : (t : Bool) → (if t then n + 0x40 else n) ≤ n + 0x40
    by true = omega arith
    by false = omega arith

spelled_short : (s : Spelling) (c : ℕ) (i : Ink)
    → length (spelled_text s c) + (spelled_ink s c i).room ≤ i.room + 76
spelled_short AsItIs c i =
    let few = character_short c in
    let grown = room_grows i.room in
    omega (arith, few, grown)
spelled_short ByNumber c i =
    let few = number_few c in
    let grown = room_grows i.room in
    omega (arith, few, grown)
spelled_short Absent c i = omega arith

-- ---- a link

lead_short : (i : Option (List ℕ)) (a : List ℕ)
    → length (lead_text i a) ≤ id_length i + length a + 0x20
lead_short None a =
    let last = length-append a string_terminator in
    omega (arith, last)
lead_short (Some i) a =
    let first = length-append i (0x3b ∷ a ++ string_terminator) in
    let last = length-append a string_terminator in
    omega (arith, first, last)

end_short : (b : Bool) (i : Ink)
    → length (end_text b) + (if b then record i { last = None; leads = false } else i).room
    ≤ i.room + 76
end_short true i = omega arith
end_short false i = omega arith

ended_short : (i : Ink) → length (end_text i.leads) + (ended_ink i).room ≤ i.room + 76
ended_short i = end_short i.leads i

begun_short : (i : Ink) (t : Target) → length (begun_text i (lead_text (id_of t) t.1)
    (room_after i.room t)) + (begun_ink i (room_after i.room t)).room ≤ i.room + 76
begun_short i t = by (is_writable t) (nat_le (lead_length t) i.room) refl
  where
    by : (w f : Bool) → nat_le (lead_length t) i.room ≡ f
        → length (begun_text i (lead_text (id_of t) t.1)
        (if w then if f then Some (i.room - lead_length t) else None else None))
        + (begun_ink i (if w then if f then Some (i.room - lead_length t) else None else None)).room
        ≤ i.room + 76
    by true true e =
        let few = lead_short (id_of t) t.1 in
        let fits = leb-true (lead_length t) i.room e in
        omega (arith, few, fits)
    by true false e = ended_short i
    by false f e = ended_short i

-- ---- a part

-- how long the text is, with the room that is left for links
abbrev pub size : Out → ℕ
size o = length o.text + o.ink.room

abbrev IsShort : Part → Type 0
IsShort p = (o : Out) → length (part_text o.characters o.ink p)
    + (part_ink o.characters o.ink p).room ≤ o.ink.room + 76

change_short : (a b : Look) → IsLook b → IsShort (Change a b)
change_short a b is o = by (same_look a b)
  where
    by : (t : Bool) → length (if t then [] else look_text b)
        + (if t then o.ink else record o.ink { last = None }).room ≤ o.ink.room + 76
    by true = omega arith
    by false =
        let few = look_short b is in
        omega (arith, few)

character_fits : (c : ℕ) → IsShort (Character c)
character_fits c o = spelled_short (spelling o.characters o.ink.last c) c o.ink

end_fits : IsShort LineEnd
end_fits o = omega arith

lead_fits : (t : Option Target) → IsShort (Lead t)
lead_fits None o = ended_short o.ink
lead_fits (Some t) o = begun_short o.ink t

-- ---- parts

-- parts make it at most so much larger
abbrev pub Adds : ℕ → List Part → Type 0
Adds m ps = (o : Out) → size (out_from o ps) ≤ size o + m

none : (m : ℕ) → Adds m []
none m o = omega arith

one : (p : Part) → IsShort p → Adds 76 (p ∷ [])
one p h o =
    let both = length-append o.text (part_text o.characters o.ink p) in
    let few = h o in
    omega (arith, both, few)

both : (m n : ℕ) (ps qs : List Part) → Adds m ps → Adds n qs → Adds (m + n) (ps ++ qs)
both m n ps qs h k o =
    let first = h o in
    let second = k (out_from o ps) in
    subst (λ z. size z ≤ size o + (m + n)) (sym (from_more o ps qs))
    (omega (arith, first, second))

more : (m n : ℕ) (ps : List Part) → m ≤ n → Adds m ps → Adds n ps
more m n ps less h o =
    let few = h o in
    omega (arith, few, less)

if_one : (t : Bool) (p : Part) → IsShort p → Adds 76 (if t then [] else p ∷ [])
if_one true p h = none 76
if_one false p h = one p h

-- ---- cells

mark_adds : (c : Option ℕ) → Adds 76 (mark_parts c)
mark_adds None = none 76
mark_adds (Some c) = one (Character c) (character_fits c)

marked_adds : (c : ℕ) (m : Marks) → Adds 228 (marked_parts c m)
marked_adds c m =
    both 76 152 (Character c ∷ []) (mark_parts m.first ++ mark_parts m.second)
    (one (Character c) (character_fits c))
    (both 76 76 (mark_parts m.first) (mark_parts m.second) (mark_adds m.first)
    (mark_adds m.second))

content_adds : (c : Content) → Adds 228 (content_parts c)
content_adds content.Blank =
    more 76 228 (Character 0x20 ∷ []) (omega arith) (one (Character 0x20) (character_fits 0x20))
content_adds content.Rest = none 228
content_adds (content.Narrow c m) = marked_adds c m
content_adds (content.Wide c m) = marked_adds c m

spaces_add : (n : ℕ) → Adds (76 * n) (replicate n (Character 0x20))
spaces_add zero = none 0
spaces_add (suc n) =
    let spaces = replicate n (Character 0x20) in
    more (76 + 76 * n) (76 * suc n) (Character 0x20 ∷ spaces) (omega arith)
    (both 76 (76 * n) (Character 0x20 ∷ []) spaces (one (Character 0x20) (character_fits 0x20))
    (spaces_add n))

ended_adds : (b : Bool) → Adds 76 (ended_parts b)
ended_adds true = one (Lead None) (lead_fits None)
ended_adds false = none 76

module _ (k : Known) (are : AreLooks k.looks) where
  known_within : (n : ℕ) → IsLook (known_look n k)
  known_within n = look_within k.looks (look_number n k.linked) are

  plain_adds : (h : Option ℕ) → Adds 152 (plain_parts k h)
  plain_adds None = none 152
  plain_adds (Some n) =
      both 76 76 (ended_parts (is_some (link_number n k.linked)))
      (Change (known_look n k) plain_look ∷ [])
      (ended_adds (is_some (link_number n k.linked)))
      (one (Change (known_look n k) plain_look)
      (change_short (known_look n k) plain_look (tt, tt, tt)))

  change_adds : (h : Option ℕ) (n : ℕ) → Adds 152 (change_parts k h n)
  change_adds h n = by (is_same_number h (Some n))
    where
      by : (t : Bool) → Adds 152 (if t then []
          else leads_parts k h n ++ Change (held_look k h) (known_look n k) ∷ [])
      by true = none 152
      by false =
          both 76 76 (leads_parts k h n) (Change (held_look k h) (known_look n k) ∷ [])
          (if_one (is_same_number (held_link k h) (link_number n k.linked))
          (Lead (known_target n k)) (lead_fits (known_target n k)))
          (one (Change (held_look k h) (known_look n k))
          (change_short (held_look k h) (known_look n k) (known_within n)))

  blanks_add : (h : Option ℕ) (n : ℕ) → Adds (152 + 76 * n) (blanks_parts k h n)
  blanks_add h n = by (n == 0)
    where
      by : (t : Bool) → Adds (152 + 76 * n) (if t then []
          else plain_parts k h ++ replicate n (Character 0x20))
      by true = none (152 + 76 * n)
      by false =
          both 152 (76 * n) (plain_parts k h) (replicate n (Character 0x20)) (plain_adds h)
          (spaces_add n)

  seen_add : (w : Going) (x : Cell)
      → Adds ((152 + 76 * w.blanks) + (152 + 228)) (seen_parts k w x)
  seen_add w x =
      let held = blanks_held w.held w.blanks in
      both (152 + 76 * w.blanks) (152 + 228) (blanks_parts k w.held w.blanks)
      (change_parts k held x.look ++ content_parts x.content) (blanks_add w.held w.blanks)
      (both 152 228 (change_parts k held x.look) (content_parts x.content)
      (change_adds held x.look) (content_adds x.content))

  -- with spaces that are still to come
  abbrev most : Going → ℕ → ℕ
  most w n = 608 * n + 76 * w.blanks + 152

  cells_add : (w : Going) (xs : List Cell) → Adds (most w (length xs)) (cells_parts k w xs)
  cells_add w [] = more 152 (most w 0) (plain_parts k w.held) (omega arith) (plain_adds w.held)
  cells_add w (x ∷ xs) =
      by (is_hidden k x) (is_rest x) (cells_add (record w { blanks = w.blanks + 1 }) xs)
      (cells_add w xs) (cells_add (record { held = Some x.look; blanks = 0 }) xs)
    where
      by : (s t : Bool) → Adds (most (record w { blanks = w.blanks + 1 }) (length xs))
          (cells_parts k (record w { blanks = w.blanks + 1 }) xs)
          → Adds (most w (length xs)) (cells_parts k w xs)
          → Adds (most (record { held = Some x.look; blanks = 0 }) (length xs))
          (cells_parts k (record { held = Some x.look; blanks = 0 }) xs)
          → Adds (most w (suc (length xs)))
          ((if s then [] else if t then [] else seen_parts k w x)
          ++ cells_parts k (if s then record w { blanks = w.blanks + 1 }
          else if t then w
          else record { held = Some x.look; blanks = 0 }) xs)
      by true t hidden rest seen =
          more (most (record w { blanks = w.blanks + 1 }) (length xs)) (most w (suc (length xs)))
          (cells_parts k (record w { blanks = w.blanks + 1 }) xs) (omega arith) hidden
      by false true hidden rest seen =
          more (most w (length xs)) (most w (suc (length xs))) (cells_parts k w xs) (omega arith)
          rest
      by false false hidden rest seen =
          more (((152 + 76 * w.blanks) + (152 + 228))
          + most (record { held = Some x.look; blanks = 0 }) (length xs))
          (most w (suc (length xs)))
          (seen_parts k w x ++ cells_parts k (record { held = Some x.look; blanks = 0 }) xs)
          (omega arith)
          (both ((152 + 76 * w.blanks) + (152 + 228))
          (most (record { held = Some x.look; blanks = 0 }) (length xs)) (seen_parts k w x)
          (cells_parts k (record { held = Some x.look; blanks = 0 }) xs) (seen_add w x) seen)

-- ---- rows

gap_adds : (b : Bool) → Adds 76 (gap_parts b)
gap_adds true = one LineEnd end_fits
gap_adds false = none 76

row_adds : (n : ℕ) (b : Bool) (r : Row) → IsRow n r → Adds (row_most n) (row_parts b r)
row_adds n b r is =
    let few = is.0 in
    more (76 + most r.1 is.1 first_going (length r.0)) (row_most n) (row_parts b r)
    (omega (arith, few))
    (both 76 (most r.1 is.1 first_going (length r.0)) (gap_parts b)
    (cells_parts r.1 first_going r.0) (gap_adds b) (cells_add r.1 is.1 first_going r.0))

pub rows_add : (n : ℕ) (o : Out) (rs : List Row) → All (IsRow n) rs
    → size (out_by_rows o rs) ≤ length rs * row_most n + size o
rows_add n o [] are = omega arith
rows_add n o (r ∷ rs) are =
    let m = length rs * row_most n in
    let all : suc (length rs) * row_most n ≡ m + row_most n = suc-mul (length rs) (row_most n) in
    let first : size (out_by_row o r) ≤ size o + row_most n =
    row_adds n o.gap r (All-head (IsRow n) r rs are) o in
    let rest = rows_add n (out_by_row o r) rs (All-tail (IsRow n) r rs are) in
    omega (arith, all, first, rest)

pub are_bounded : AreBounded
are_bounded = λ n u rs are.
    let all = rows_add n (first_out u) rs are in
    omega (arith, all)
