-- The text of rows is of characters, line feeds, renditions and links.
use Rattle.std.proofs.Common.{ℕ, ◌≡◌, ◌-◌, ◌==◌, nat_le, Bool, true, false, not, if◌then◌else◌, List, [], ◌∷◌, ◌++◌, codes, Option, Some, None, inl, inr, refl, sym, ap, ◌∙◌, subst, arith, lit<, append_assoc}
use Rattle.std.specs.List.{All, list_all}
use Rattle.std.proofs.lemmas.Bool.{and_parts, true≢false}
use Rattle.std.proofs.lemmas.Bool.Decides.{nat_tests}
use Rattle.std.proofs.lemmas.List.Elements.{All-cons, All-head, All-nil, All-tail}
use Rattle.std.proofs.lemmas.Str.{encode_ascii}
use Rattle.esc_filter.specs.Rules.{is_shown}
use Rattle.esc_filter.specs.Tokens.{IsLink, IsOfTokens, is_plain}
use Rattle.esc_filter.specs.declared.unicode.Unicode.{Unicode}
use Rattle.esc_filter.specs.declared.unicode.Unicode.TheVariants.{Drop, Join, Keep, Show}
use Rattle.esc_filter.proofs.ByLine.DataHasNoFeed.{both}
use Rattle.esc_filter.proofs.Output.AdmittedTextsAreUnits.{clear_plain, more_parts, no_parts, one_part, plain_part}
use Rattle.esc_filter.proofs.Output.DeceivingCharacters.{ascii_low, is_ascii, number_ascii, number_clear, number_shown}
use Rattle.esc_sgr.specs.Sgr.{change_text, look_text, same_look}
use Rattle.esc_style.specs.declared.look.Look.{Look}
use Rattle.esc_terminal.specs.Links.{Target}
use Rattle.esc_terminal.specs.Scrolled.{Row}
use Rattle.esc_values.specs.Clear.{is_clear}
use Rattle.esc_values.proofs.Clear.PlainIsClear.{is_plain as is_low, plain_clear}
use Rattle.unicode_visibility.specs.Characters.{is_deceiving, number_text}
use Rattle.unicode_visibility.specs.Following.{may_follow}
use Rattle.screen_lines.specs.Parts.{Out, Part, begun_text, end_text, ended_ink, id_of, id_text, replacement, is_address_char, is_id, is_text, is_writable, lead_length, lead_text, out_by, out_from, part_ink, part_text, room_after, spelled_ink, spelled_text, spelling}
use Rattle.screen_lines.specs.Parts.Part.{Change, Character, Lead, LineEnd}
use Rattle.screen_lines.specs.Rows.{out_by_row, out_by_rows, row_parts}
use Rattle.screen_lines.specs.declared.ink.Ink.{Ink}
use Rattle.screen_lines.specs.declared.spelling.Spelling.{Spelling}
use Rattle.screen_lines.specs.declared.spelling.Spelling.TheVariants.{Absent, AsItIs, ByNumber}
use Rattle.screen_lines.proofs.Looks.{look_rendition}

-- ---- characters

bytes_tokens : (k : Bool) (t : List ℕ) → list_all is_ascii t ≡ true → list_all is_clear t ≡ true
    → list_all is_shown t ≡ true → IsOfTokens k t
bytes_tokens k [] a b c = no_parts k
bytes_tokens k (x ∷ t) a b c =
    let p = and_parts (is_ascii x) (list_all is_ascii t) a in
    let q = and_parts (is_clear x) (list_all is_clear t) b in
    let r = and_parts (is_shown x) (list_all is_shown t) c in
    more_parts k (x ∷ []) t
    (subst (IsOfTokens k) (encode_ascii x (ascii_low x p.0))
    (plain_part k x (clear_plain x q.0 r.0)))
    (bytes_tokens k t p.1 q.1 r.1)

number_tokens : (k : Bool) (c : ℕ) → IsOfTokens k (number_text c)
number_tokens k c =
    bytes_tokens k (number_text c) (number_ascii c) (number_clear c) (number_shown c)

text_plain : (c : ℕ) → is_text c ≡ true → is_plain c ≡ true
text_plain c h =
    let q = and_parts (is_clear c) (not (c == 0x7f)) h in
    clear_plain c q.0 q.1

instead_tokens : (k : Bool) (u : Unicode) (b : Option ℕ) (c : ℕ) → is_plain c ≡ true
    → IsOfTokens k (spelled_text (replacement u b c) c)
instead_tokens k Keep b c h = plain_part k c h
instead_tokens k Join b c h = by (may_follow b c)
  where
    by : (t : Bool) → IsOfTokens k (spelled_text (if t then AsItIs else ByNumber) c)
    by true = plain_part k c h
    by false = number_tokens k c
instead_tokens k Show b c h = number_tokens k c
instead_tokens k Drop b c h = no_parts k

char_tokens : (k : Bool) (u : Unicode) (b : Option ℕ) (c : ℕ)
    → IsOfTokens k (spelled_text (spelling u b c) c)
char_tokens k u b c = by (is_text c) refl (is_deceiving c)
  where
    by : (t : Bool) → is_text c ≡ t → (d : Bool) → IsOfTokens k
        (spelled_text (if t then if d then replacement u b c else AsItIs else Absent) c)
    by false e d = no_parts k
    by true e false = plain_part k c (text_plain c e)
    by true e true = instead_tokens k u b c (text_plain c e)

-- ---- links

low_char : (c : ℕ) → is_address_char c ≡ true → is_low c ≡ true
low_char c h = grind (arith, nat_tests)

shown_char : (c : ℕ) → is_address_char c ≡ true → is_shown c ≡ true
shown_char c h = grind (arith, nat_tests)

-- a property of each character of an address holds of all of them
each : (p : ℕ → Bool) → ((c : ℕ) → is_address_char c ≡ true → p c ≡ true) → (t : List ℕ)
    → list_all is_address_char t ≡ true → list_all p t ≡ true
each p f [] h = refl
each p f (c ∷ t) h =
    let q = and_parts (is_address_char c) (list_all is_address_char t) h in
    rw (f c q.0, each p f t q.1) refl

lead_chars : (i : Option (List ℕ)) (a : List ℕ) → is_id i ≡ true
    → list_all is_address_char a ≡ true → list_all is_address_char (id_text i ++ 0x3b ∷ a) ≡ true
lead_chars None a h k = k
lead_chars (Some i) a h k = both is_address_char (codes "id=" ++ i) (0x3b ∷ a) h k

lead_link : (i : Option (List ℕ)) (a : List ℕ) → is_id i ≡ true
    → list_all is_address_char a ≡ true → IsLink (lead_text i a)
lead_link i a h k =
    let y = id_text i ++ 0x3b ∷ a in
    let q = lead_chars i a h k in (
      y,
      plain_clear (codes "8;" ++ y) (each is_low low_char y q),
      each is_shown shown_char y q,
      ap (λ t. 0x1b ∷ 0x5d ∷ 0x38 ∷ 0x3b ∷ t)
          (sym (append_assoc (id_text i) (0x3b ∷ a) (0x1b ∷ 0x5c ∷ []))),
    )

end_tokens : (b : Bool) → IsOfTokens true (end_text b)
end_tokens true = one_part true (lead_text None []) (inr (inr (lead_link None [] refl refl)))
end_tokens false = no_parts true

begun_tokens : (i : Ink) (t : Target)
    → IsOfTokens true (begun_text i (lead_text (id_of t) t.1) (room_after i.room t))
begun_tokens i t = by (is_writable t) refl (nat_le (lead_length t) i.room)
  where
    by : (w : Bool) → is_writable t ≡ w → (f : Bool) → IsOfTokens true
        (begun_text i (lead_text (id_of t) t.1)
        (if w then if f then Some (i.room - lead_length t) else None else None))
    by true e true =
        let q = and_parts (is_id (id_of t)) (list_all is_address_char t.1) e in
        one_part true (lead_text (id_of t) t.1) (inr (inr (lead_link (id_of t) t.1 q.0 q.1)))
    by true e false = end_tokens i.leads
    by false e f = end_tokens i.leads

-- ---- parts: where there is no colour, these change no look and begin no link

abbrev pub is_bare : Part → Bool
is_bare (Character c) = true
is_bare LineEnd = true
is_bare (Change a b) = same_look a b
is_bare (Lead None) = true
is_bare (Lead (Some t)) = false

abbrev pub fits : Bool → Part → Bool
fits true p = true
fits false p = is_bare p

-- and no link is open
abbrev pub IsOpen : Bool → Ink → Type 0
IsOpen true i = Unit {0}
IsOpen false i = i.leads ≡ false

feed_tokens : (k : Bool) → IsOfTokens k (0x0a ∷ [])
feed_tokens k = subst (IsOfTokens k) (encode_ascii 0x0a (lit< tt)) (plain_part k 0x0a refl)

change_tokens : (a b : Look) → IsOfTokens true (change_text a b)
change_tokens a b = by (same_look a b)
  where
    by : (t : Bool) → IsOfTokens true (if t then [] else look_text b)
    by true = no_parts true
    by false = one_part true (look_text b) (inr (inl (look_rendition b)))

bare_change : (a b : Look) → same_look a b ≡ true → IsOfTokens false (change_text a b)
bare_change a b h =
    subst (IsOfTokens false) (sym (ap (λ t. if t then [] else look_text b) h)) (no_parts false)

bare_end : (b : Bool) → b ≡ false → IsOfTokens false (end_text b)
bare_end b h = subst (IsOfTokens false) (sym (ap end_text h)) (no_parts false)

part_tokens : (k : Bool) (u : Unicode) (i : Ink) (p : Part) → fits k p ≡ true → IsOpen k i
    → IsOfTokens k (part_text u i p)
part_tokens k u i (Character c) h o = char_tokens k u i.last c
part_tokens k u i LineEnd h o = feed_tokens k
part_tokens true u i (Change a b) h o = change_tokens a b
part_tokens false u i (Change a b) h o = bare_change a b h
part_tokens true u i (Lead None) h o = end_tokens i.leads
part_tokens true u i (Lead (Some t)) h o = begun_tokens i t
part_tokens false u i (Lead None) h o = bare_end i.leads o
part_tokens false u i (Lead (Some t)) h o = absurd (true≢false (sym h))

spelled_open : (s : Spelling) (c : ℕ) (i : Ink) → i.leads ≡ false
    → (spelled_ink s c i).leads ≡ false
spelled_open AsItIs c i o = o
spelled_open ByNumber c i o = o
spelled_open Absent c i o = o

change_open : (t : Bool) (i : Ink) → i.leads ≡ false
    → (if t then i else record i { last = None }).leads ≡ false
change_open true i o = o
change_open false i o = o

ended_open : (i : Ink) → i.leads ≡ false → (ended_ink i).leads ≡ false
ended_open i o =
    ap (λ (b : Bool). (if b then record i { last = None; leads = false } else i).leads) o ∙ o

part_open : (k : Bool) (u : Unicode) (i : Ink) (p : Part) → fits k p ≡ true → IsOpen k i
    → IsOpen k (part_ink u i p)
part_open true u i p h o = tt
part_open false u i (Character c) h o = spelled_open (spelling u i.last c) c i o
part_open false u i LineEnd h o = o
part_open false u i (Change a b) h o = change_open (same_look a b) i o
part_open false u i (Lead None) h o = ended_open i o
part_open false u i (Lead (Some t)) h o = absurd (true≢false (sym h))

from_tokens : (k : Bool) (o : Out) (ps : List Part) → list_all (fits k) ps ≡ true
    → IsOpen k o.ink → IsOfTokens k o.text
    → IsOfTokens k (out_from o ps).text × IsOpen k (out_from o ps).ink
from_tokens k o [] h i t = (t, i)
from_tokens k o (p ∷ ps) h i t =
    let q = and_parts (fits k p) (list_all (fits k) ps) h in
    let u = o.characters in
    from_tokens k (out_by o p) ps q.1 (part_open k u o.ink p q.0 i)
    (more_parts k o.text (part_text u o.ink p) t (part_tokens k u o.ink p q.0 i))

-- ---- rows

abbrev pub AreFit : Bool → Row → Type 0
AreFit k r = (b : Bool) → list_all (fits k) (row_parts b r) ≡ true

pub rows_tokens : (k : Bool) (o : Out) (rs : List Row) → All (AreFit k) rs
    → IsOpen k o.ink → IsOfTokens k o.text
    → IsOfTokens k (out_by_rows o rs).text × IsOpen k (out_by_rows o rs).ink
rows_tokens k o [] f i t = (t, i)
rows_tokens k o (r ∷ rs) f i t =
    let q = from_tokens k o (row_parts o.gap r) (All-head (AreFit k) r rs f o.gap) i t in
    rows_tokens k (out_by_row o r) rs (All-tail (AreFit k) r rs f) q.1 q.0

all_fit : (ps : List Part) → list_all (fits true) ps ≡ true
all_fit [] = refl
all_fit (p ∷ ps) = all_fit ps

rows_fit : (rs : List Row) → All (AreFit true) rs
rows_fit [] = All-nil (AreFit true)
rows_fit (r ∷ rs) = All-cons (AreFit true) r rs (λ b. all_fit (row_parts b r)) (rows_fit rs)

pub color_rows : (o : Out) (rs : List Row) → IsOfTokens true o.text
    → IsOfTokens true (out_by_rows o rs).text
color_rows o rs t = (rows_tokens true o rs (rows_fit rs) tt t).0
