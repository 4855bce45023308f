-- The growth of a page by a step: by no more than the step pays, with the credit that was paid
-- before. The credit is kept for the tags that are not open, for the end tags of those that are,
-- and for each line on which a link may be opened again.
use Rattle.std.proofs.Common.{ℕ, zero, suc, ◌≡◌, ◌≤◌, ◌+◌, ◌-◌, ◌*◌, Bool, true, false, ◌==◌, if◌then◌else◌, List, [], ◌∷◌, ◌++◌, codes, length, map, Option, Some, None, is_some, refl, ap, arith, true≢false}
use Rattle.std.specs.Char.{encode_utf8}
use Rattle.std.specs.List.{flat_map}
use Rattle.std.proofs.lemmas.Bool.{leb-true}
use Rattle.std.proofs.lemmas.Grind.{flat_map-append}
use Rattle.std.proofs.lemmas.List.{append-nil, length-append}
use Rattle.esc_actions.specs.Values.{csi}
use Rattle.esc_html.specs.Characters.{shown_as}
use Rattle.esc_html.specs.Marks.{Pen, Step, redirects, shows, nothing, begins_line, control_step, ends_line, escape_begins_line, escape_step, function_step, next_line, print_step, with_look}
use Rattle.esc_html.specs.Pages.{State, after_character, before_character, closing, link_end_if, link_opening, opening, page_parts_by, page_parts_from, span_closing, span_end_unless, span_unless, state_by, state_from, without_span}
use Rattle.esc_html.specs.PageParts.{PagePart, escape_text, escape_value, html_text, link, page_part_text, span, text}
use Rattle.esc_html.specs.declared.tags.Tags.{Tags}
use Rattle.esc_html.specs.declared.tags.Tags.TheVariants.{Closed, Link, Open}
use Rattle.esc_html.proofs.Lengths.LengthOfParts.{char_size, span_size, value_size}
use Rattle.esc_style.specs.Looks.{is_plain}
use Rattle.esc_style.specs.declared.look.Look.{Look}
use Rattle.esc_sequences.specs.Csis.{CsiValue}
use Rattle.esc_sequences.specs.declared.esc.Esc.{Esc}
use Rattle.typed_functions.specs.Functions.{Value as Function, of_csi, cursor, edit, device, keyboard, mouse, window, mode_status, charset, escape, modes, tabs, renditions, other}

-- ---- a size so many times

abbrev pub times : ℕ → ℕ → ℕ
times zero z = 0
times (suc n) z = z + times n z

times_nothing : (n : ℕ) → times n 0 ≡ 0
times_nothing zero = refl
times_nothing (suc n) = omega (arith, times_nothing n)

times_less : (n z : ℕ) → (n == 0) ≡ false → z + times (n - 1) z ≡ times n z
times_less zero z h = absurd (true≢false h)
times_less (suc n) z h =
    let one : suc n - 1 ≡ n = omega arith in ap (λ k. z + times k z) one

pub times_all : (n z : ℕ) → times n z ≡ n * z
times_all zero z = omega arith
times_all (suc n) z = grind (arith, times_all n z)

-- ---- the credit that is kept

abbrev pub address_size : Option (List ℕ) → ℕ
address_size None = 0
address_size (Some a) = value_size a

-- how often a link may still be opened
abbrev pub openings : Tags → ℕ → ℕ
openings Closed n = suc n
openings Link n = n
openings Open n = n

abbrev pub held : Tags → Pen → ℕ
held t p = times (openings t p.lines) (address_size p.link)

-- for a part of the tags that are not open
abbrev pub reserve : Tags → ℕ
reserve Closed = 144
reserve Link = 144
reserve Open = 0

pub reserve_most : (t : Tags) → reserve t ≤ 144
reserve_most Closed = leb-true 144 144 refl
reserve_most Link = leb-true 144 144 refl
reserve_most Open = leb-true 0 144 refl

-- the end tags
abbrev pub ending : Tags → Pen → ℕ
ending t p = length (html_text (closing t p))

abbrev pub core : State → ℕ
core g = ending g.tags g.pen + held g.tags g.pen

abbrev pub kept : State → ℕ
kept g = core g + reserve g.tags

-- ---- how long the tags are

abbrev span_end_size : Bool → ℕ
span_end_size true = 0
span_end_size false = 7

abbrev link_end_size : Bool → ℕ
link_end_size true = 4
link_end_size false = 0

ends_size : (b k : Bool)
    → length (html_text (span_end_unless b ++ link_end_if k)) ≡ span_end_size b + link_end_size k
ends_size true true = refl
ends_size true false = refl
ends_size false true = refl
ends_size false false = refl

span_end_long : (b : Bool) → length (html_text (span_end_unless b)) ≡ span_end_size b
span_end_long true = refl
span_end_long false = refl

link_end_long : (k : Bool) → length (html_text (link_end_if k)) ≡ link_end_size k
link_end_long true = refl
link_end_long false = refl

link_size : (a : List ℕ) → length (page_part_text (link a)) ≡ 46 + value_size a
link_size a =
    let v = flat_map escape_value a in
    let first : length (codes "<a href=\"") ≡ 9 = refl in
    let last : length (codes "\" rel=\"nofollow noopener noreferrer\">") ≡ 37 = refl in
    omega (
      arith,
      length-append (codes "<a href=\"") (v ++ codes "\" rel=\"nofollow noopener noreferrer\">"),
      length-append v (codes "\" rel=\"nofollow noopener noreferrer\">"),
      first,
      last,
    )

one_size : (p : PagePart) → length (html_text (p ∷ [])) ≡ length (page_part_text p)
one_size p = ap length (append-nil (page_part_text p))

span_opens : (i b : Bool) (l : Look)
    → length (html_text (span_unless i b l)) + span_end_size b ≤ 238
span_opens i true l = leb-true 0 238 refl
span_opens i false l = omega (arith, one_size (span i l), span_size i l)

all_opens : (i b : Bool) (k : Option (List ℕ)) (l : Look)
    → length (html_text (link_opening k ++ span_unless i b l)) + span_end_size b
    + link_end_size (is_some k) ≤ address_size k + 288
all_opens i true None l = leb-true 0 288 refl
all_opens i false None l = omega (arith, one_size (span i l), span_size i l)
all_opens i true (Some a) l = omega (arith, one_size (link a), link_size a)
all_opens i false (Some a) l =
    omega (
      arith,
      length-append (page_part_text (link a)) (html_text (span i l ∷ [])),
      link_size a,
      one_size (span i l),
      span_size i l,
    )

ends_most : (b k : Bool) → span_end_size b + link_end_size k ≤ 11
ends_most true true = leb-true 4 11 refl
ends_most true false = leb-true 0 11 refl
ends_most false true = leb-true 11 11 refl
ends_most false false = leb-true 7 11 refl

pub ending_most : (t : Tags) (p : Pen) → ending t p ≤ 11
ending_most Closed p = leb-true 0 11 refl
ending_most Link p =
    omega (arith, link_end_long (is_some p.link), ends_most true (is_some p.link))
ending_most Open p =
    omega (
      arith,
      ends_size (is_plain p.look) (is_some p.link),
      ends_most (is_plain p.look) (is_some p.link),
    )

-- if an address takes no more than z, and so many lines may follow
times_most : (m n y z : ℕ) → m ≤ n → y ≤ z → times m y ≤ times n z
times_most zero n y z h k = omega arith
times_most (suc m) zero y z h k = absurd (omega (arith, h))
times_most (suc m) (suc n) y z h k =
    omega (arith, k, times_most m n y z (omega (arith, h)) k)

openings_most : (t : Tags) (n : ℕ) → n ≤ 15 → openings t n ≤ 16
openings_most Closed n h = omega (arith, h)
openings_most Link n h = omega (arith, h)
openings_most Open n h = omega (arith, h)

pub held_most : (t : Tags) (p : Pen) (z : ℕ) → address_size p.link ≤ z → p.lines ≤ 15
    → held t p ≤ 16 * z
held_most t p z h k =
    omega (
      arith,
      times_most (openings t p.lines) 16 (address_size p.link) z
          (openings_most t p.lines k) h,
      times_all 16 z,
    )

-- ---- characters

-- the tags that are opened before a character of n bytes
open_pays : (t : Tags) (p : Pen) (n : ℕ) → n ≤ 6
    → length (html_text (opening t p)) + n + (ending Open p + held Open p)
    ≤ ending t p + held t p + reserve t + 150
open_pays Closed p n h =
    omega (
      arith,
      h,
      all_opens p.inline (is_plain p.look) p.link p.look,
      ends_size (is_plain p.look) (is_some p.link),
    )
open_pays Link p n h =
    omega (
      arith,
      h,
      span_opens p.inline (is_plain p.look) p.look,
      ends_size (is_plain p.look) (is_some p.link),
      link_end_long (is_some p.link),
    )
open_pays Open p n h = omega (arith, h)

next_held : (p : Pen) → held Closed (next_line p) ≤ times p.lines (address_size p.link)
next_held p = by (p.lines == 0) refl
  where
    by : (b : Bool) → (p.lines == 0) ≡ b
        → held Closed (if b then record p { link = None } else record p { lines = p.lines - 1 })
        ≤ times p.lines (address_size p.link)
    by true e = omega (arith, times_nothing p.lines)
    by false e = omega (arith, times_less p.lines (address_size p.link) e)

held_more : (t : Tags) (p : Pen) → times p.lines (address_size p.link) ≤ held t p
held_more Closed p = omega arith
held_more Link p = omega arith
held_more Open p = omega arith

line_pays : (t : Tags) (p : Pen) (n : ℕ) → n ≤ 6
    → length (html_text (closing t p)) + n + (held Closed (next_line p) + 144)
    ≤ ending t p + held t p + reserve t + 150
line_pays t p n h = omega (arith, h, next_held p, held_more t p)

before_pays : (e : Bool) (g : State) (n : ℕ) → n ≤ 6
    → length (html_text (before_character e g)) + n + kept (after_character e g) ≤ kept g + 150
before_pays true g n h = omega (arith, line_pays g.tags g.pen n h)
before_pays false g n h = omega (arith, open_pays g.tags g.pen n h)

-- ---- steps

-- a step of these parts pays n
abbrev pub Pays : Bool → State → Step → ℕ → Type 0
Pays pl g s n = length (html_text (page_parts_by pl g s)) + kept (state_by pl g s) ≤ kept g + n

pub shows_pays : (pl : Bool) (g : State) (c : ℕ) → Pays pl g (shows c) 150
shows_pays pl g c =
    let e = ends_line pl c in
    let t = encode_utf8 c in
    omega (
      arith,
      ap length (flat_map-append page_part_text (before_character e g) (text t ∷ [])),
      length-append (html_text (before_character e g)) (html_text (text t ∷ [])),
      one_size (text t),
      before_pays e g (length (flat_map escape_text t)) (char_size c),
    )

pub nothing_pays : (pl : Bool) (g : State) (n : ℕ) → Pays pl g nothing n
nothing_pays pl g n = omega arith

pub redirects_pays : (pl : Bool) (g : State) (k : Option (List ℕ))
    → Pays pl g (redirects k) (144 + 16 * address_size k)
redirects_pays pl g k = omega (arith, times_all 16 (address_size k))

-- a look pays nothing, but for the reserve
restyled : (t : Tags) (p : Pen) (l : Look)
    → length (html_text (span_closing t p))
    + (ending (without_span t) (with_look p l) + held (without_span t) (with_look p l))
    ≡ ending t p + held t p
restyled Closed p l = omega arith
restyled Link p l = omega arith
restyled Open p l =
    omega (
      arith,
      ends_size (is_plain p.look) (is_some p.link),
      span_end_long (is_plain p.look),
      link_end_long (is_some p.link),
    )

abbrev Keeps : Bool → State → Step → Type 0
Keeps pl g s = length (html_text (page_parts_by pl g s)) + core (state_by pl g s) ≡ core g

unchanged : (pl : Bool) (g : State) → Keeps pl g nothing
unchanged pl g = omega arith

function_keeps : (pl : Bool) (g : State) (f : Function) → Keeps pl g (function_step g.pen f)
function_keeps pl g (renditions rs) = restyled g.tags g.pen _
function_keeps pl g (cursor c) = unchanged pl g
function_keeps pl g (edit e) = unchanged pl g
function_keeps pl g (device d) = unchanged pl g
function_keeps pl g (keyboard k) = unchanged pl g
function_keeps pl g (mouse m) = unchanged pl g
function_keeps pl g (window w) = unchanged pl g
function_keeps pl g (mode_status s) = unchanged pl g
function_keeps pl g (charset c) = unchanged pl g
function_keeps pl g (escape e) = unchanged pl g
function_keeps pl g (modes c ms) = unchanged pl g
function_keeps pl g (tabs c ns) = unchanged pl g
function_keeps pl g (other u) = unchanged pl g

-- the renditions of one sequence
pub csis_keep : (A : Type 0) (pl : Bool) (g : State) (cs : List CsiValue)
    → length (html_text (page_parts_from {A = A} pl g (map csi cs)))
    + core (state_from {A = A} pl g (map csi cs)) ≡ core g
csis_keep A pl g [] = omega arith
csis_keep A pl g (c ∷ cs) =
    let s = function_step g.pen (of_csi c) in
    let j = state_by pl g s in
    let first = page_parts_by pl g s in
    let rest = page_parts_from {A = A} pl j (map csi cs) in
    omega (
      arith,
      ap length (flat_map-append page_part_text first rest),
      length-append (html_text first) (html_text rest),
      function_keeps pl g (of_csi c),
      csis_keep A pl j cs,
    )

pub print_pays : (pl : Bool) (g : State) (c : ℕ) → Pays pl g (print_step c) 150
print_pays pl g c = by (c == 0x7f)
  where
    by : (b : Bool) → Pays pl g (if b then nothing else shows (shown_as c)) 150
    by true = nothing_pays pl g 150
    by false = shows_pays pl g (shown_as c)

pub control_pays : (pl : Bool) (g : State) (n : ℕ) → Pays pl g (control_step n) 150
control_pays pl g n = by (n == 0x09) (begins_line n)
  where
    by : (b x : Bool)
        → Pays pl g (if b then shows n else if x then shows 0x0a else nothing) 150
    by true x = shows_pays pl g n
    by false true = shows_pays pl g 0x0a
    by false false = nothing_pays pl g 150

pub escape_pays : (pl : Bool) (g : State) (e : Esc) → Pays pl g (escape_step e) 150
escape_pays pl g e = by (escape_begins_line e)
  where
    by : (b : Bool) → Pays pl g (if b then shows 0x0a else nothing) 150
    by true = shows_pays pl g 0x0a
    by false = nothing_pays pl g 150
