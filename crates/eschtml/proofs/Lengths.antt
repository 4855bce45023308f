-- The revealed text of a stream, and its page, are no longer than the stream allows.
use Rattle.std.proofs.Common.{ℕ, zero, suc, ◌≡◌, ◌≤◌, ◌<◌, ◌+◌, ◌*◌, ◌-◌, ◌==◌, ◌||◌, ◌&&◌, Bool, true, false, nat_lt, if◌then◌else◌, List, [], ◌∷◌, ◌++◌, length, map, Option, None, Some, Result, Ok, Err, OnOk, refl, ap, sym, subst, ◌∙◌, arith}
use Rattle.std.specs.Char.{encode_utf8}
use Rattle.std.specs.List.{flat_map}
use Rattle.std.specs.declared.io.traits.Read.{Ghosts as Reader}
use Rattle.std.specs.declared.io.traits.Write.{Ghosts as Writer}
use Rattle.std.proofs.lemmas.Bool.Decides.{nat_tests}
use Rattle.std.proofs.lemmas.Bool.{leb-true}
use Rattle.std.proofs.lemmas.List.{length-append}
use Rattle.std.proofs.lemmas.Str.{len_utf8_bounds, length-encode}
use lib.Utf8.{scalar}
use Rattle.esc_actions.specs.Values.{Value}
use Rattle.esc_decode.proofs.Masks.{length_stays}
use Rattle.esc_decode.specs.Decodings.{decoded_stream}
use Rattle.esc_decode.specs.Pages.{point_in, read_in, table_of}
use Rattle.esc_decode.specs.Spellings.{spelling}
use Rattle.esc_decode.specs.declared.encoding.Encoding.{Encoding}
use Rattle.esc_decode.specs.declared.encoding.Encoding.TheVariants.{CodePage, EightBit, Utf8}
use Rattle.esc_frame.specs.Sequences.{is_prefix, is_sequence, number_of, outcome}
use Rattle.esc_frame.specs.declared.utf8.sequence.Outcome.{Outcome}
use Rattle.esc_frame.specs.declared.utf8.sequence.Outcome.TheVariants.{Whole, More, Broken}
use Rattle.esc_html.specs.Lines.{begin_unless, end_if, feeds, in_lines, line_end, lined_page, next_number, open_after}
use Rattle.esc_html.specs.Pages.{closing_text, page_text}
use Rattle.esc_html.specs.declared.layout.Layout.{Layout}
use Rattle.esc_normal.specs.Io.{Borrowed}
use Rattle.esc_normal.specs.Streams.{Filters, HasFiltered}
use Rattle.esc_normal.specs.declared.filter_error.FilterError.{FilterError}
use Rattle.caret_notation.specs.Spans.{is_span, spans_after, rest_after}
use Rattle.caret_notation.specs.Revealed.{is_kept, span_text, revealed_whole_as}
use Rattle.caret_notation.specs.Visible.{begun_after, closing, opening, character_text, first_begun, first_text, hex_byte, next_begun, next_text, settled_text, shown_text, single_text, stray_text, visible_text}
use Rattle.caret_notation.specs.declared.marking.Marking.TheVariants.{Reversed}
use Rattle.unicode_visibility.specs.Characters.{digit_at, four_digits, is_shown, leading, number_text}
use Rattle.eschtml.proofs.Joined.{held_append, joined_append, joined_most}
use Rattle.eschtml.specs.Joined.{held_after, text_without_pairs, joined_after}
use Rattle.eschtml.specs.Lengths.{IsShort, IsShortBy, most_content, most_decoded, most_seen}
use Rattle.eschtml.specs.Written.{IsHtml, IsPageBy, html_of, layout_by, seen_by, whole_in}
use Rattle.eschtml.specs.Written.{is_kept as is_kept_value}
use Rattle.eschtml.specs.declared.options.Options.{Options}

-- ---- visible text: at most four bytes for each

single_most : (b : ℕ) → length (single_text b) ≤ 4
single_most b = by (nat_lt b 0x80) (nat_lt b 0x20) (b == 0x7f) ((b == 0x3c) || (b == 0x5e))
  where
    by : (w x y z : Bool) → length (if w then (if x then 0x5e ∷ (0x40 + b) ∷ []
        else if y then 0x5e ∷ 0x3f ∷ []
        else if z then hex_byte b else b ∷ []) else hex_byte b) ≤ 4
    by false x y z = leb-true 4 4 refl
    by true true y z = leb-true 2 4 refl
    by true false true z = leb-true 2 4 refl
    by true false false true = leb-true 4 4 refl
    by true false false false = leb-true 1 4 refl

stray_size : (f : List ℕ) → length (stray_text f) ≡ 4 * length f
stray_size [] = refl
stray_size (b ∷ f) = omega (arith, stray_size f)

leading_most : (c : ℕ) → length (leading c) ≤ 2
leading_most c = by (nat_lt c 0x10000) (nat_lt c 0x100000)
  where
    by : (x y : Bool) → length (if x then [] else if y then digit_at 0x10000 c ∷ []
        else digit_at 0x100000 c ∷ digit_at 0x10000 c ∷ []) ≤ 2
    by true y = leb-true 0 2 refl
    by false true = leb-true 1 2 refl
    by false false = leb-true 2 2 refl

number_size : (c : ℕ) → length (number_text c) ≡ 8 + length (leading c)
unfolding number_text
number_size c = omega (arith, length-append (leading c) (four_digits c ++ 0x3e ∷ []))

below_lead : (c : ℕ) → c < 0x10000 → length (leading c) ≡ 0
below_lead c h = let e : nat_lt c 0x10000 ≡ true = grind (arith, nat_tests) in
    ap (λ x. length (if x then [] else if nat_lt c 0x100000 then digit_at 0x10000 c ∷ []
    else digit_at 0x100000 c ∷ digit_at 0x10000 c ∷ [])) e

two_below : (a b : ℕ) → is_sequence (a ∷ b ∷ []) ≡ true → number_of (a ∷ b ∷ []) < 0x10000
unfolding is_sequence number_of
two_below a b h = grind (arith, nat_tests)

-- the text of a character by its number
sequence_most : (x : List ℕ) → is_sequence x ≡ true
    → length (number_text (number_of x)) ≤ 4 * length x
unfolding is_sequence
sequence_most [] h = absurd cc
sequence_most (a ∷ []) h = absurd cc
sequence_most (a ∷ b ∷ []) h =
    let n = number_of (a ∷ b ∷ []) in
    omega (arith, number_size n, below_lead n (two_below a b h))
sequence_most (a ∷ b ∷ c ∷ x) h =
    let n = number_of (a ∷ b ∷ c ∷ x) in omega (arith, number_size n, leading_most n)

character_most : (x : List ℕ) → is_sequence x ≡ true
    → length (character_text x) ≤ 4 * length x
character_most x h = by (is_shown (number_of x))
  where
    by : (b : Bool) → length (if b then x else number_text (number_of x)) ≤ 4 * length x
    by true = omega arith
    by false = sequence_most x h

-- the text that a byte shows and the bytes that it leaves begun
first_most : (b : ℕ) → length (first_text b) + 4 * length (first_begun b) ≤ 4
first_most b = by (is_prefix (b ∷ []))
  where
    by : (p : Bool) → length (if p then [] else single_text b)
        + 4 * length (if p then b ∷ [] else []) ≤ 4
    by true = omega arith
    by false = omega (arith, single_most b)

next_most : (f : List ℕ) (b : ℕ) → length (next_text f b (outcome f b))
    + 4 * length (next_begun f b (outcome f b)) ≤ 4 * (length f + 1)
next_most f b = by (is_sequence (f ++ b ∷ [])) (is_prefix (f ++ b ∷ [])) refl
  where
    Most : Outcome → Type 0
    Most o = length (next_text f b o) + 4 * length (next_begun f b o) ≤ 4 * (length f + 1)

    by : (x y : Bool) → is_sequence (f ++ b ∷ []) ≡ x
        → Most (if x then Whole else if y then More else Broken)
    by true y e = omega (arith, character_most (f ++ b ∷ []) e, length-append f (b ∷ []))
    by false true e = omega (arith, length-append f (b ∷ []))
    by false false e =
        omega (arith, length-append (stray_text f) (first_text b), stray_size f, first_most b)

settled_most : (f s : List ℕ)
    → length (settled_text f s) + 4 * length (begun_after f s) ≤ 4 * length f + 4 * length s
settled_most f [] = omega arith
settled_most f (b ∷ s) =
    let n = next_begun f b (outcome f b) in
    omega (
      arith,
      length-append (next_text f b (outcome f b)) (settled_text n s),
      next_most f b,
      settled_most n s,
    )

visible_most : (s : List ℕ) → length (visible_text s) ≤ 4 * length s
visible_most s =
    let f = begun_after [] s in
    omega (
      arith,
      length-append (settled_text [] s) (stray_text f),
      stray_size f,
      settled_most [] s,
    )

-- ---- the text that is revealed in reverse video, which goes on over neighbours: at most 7 bytes
-- for each

-- so many bytes are written of a text after these that are held back, or are held back then
abbrev total : ℕ → List ℕ → ℕ
total k t = length (joined_after k t) + held_after k t

-- the bytes that are put by for SGR 7 and 27 of the text that is shown next: none after SGR 27
abbrev left_by : ℕ → ℕ
left_by k = if k == 5 then 0 else 6

left_most : (k : ℕ) → left_by k ≤ 6
left_most k = by (k == 5)
  where
    by : (b : Bool) → (if b then 0 else 6) ≤ 6
    by true = omega arith
    by false = omega arith

total_append : (k : ℕ) (x y : List ℕ)
    → total k (x ++ y) ≡ length (joined_after k x) + total (held_after k x) y
total_append k x y = omega (
  arith,
  ap length (joined_append k x y),
  length-append (joined_after k x) (joined_after (held_after k x) y),
  held_append k x y,
)

-- after SGR 27 it is held back, whatever came before
closing_held : (k : ℕ) → held_after k (closing Reversed) ≡ 5
closing_held zero = refl
closing_held (suc zero) = refl
closing_held (suc (suc zero)) = refl
closing_held (suc (suc (suc zero))) = refl
closing_held (suc (suc (suc (suc zero)))) = refl
closing_held (suc (suc (suc (suc (suc zero))))) = refl
closing_held (suc (suc (suc (suc (suc (suc zero)))))) = refl
closing_held (suc (suc (suc (suc (suc (suc (suc zero))))))) = refl
closing_held (suc (suc (suc (suc (suc (suc (suc (suc zero)))))))) = refl
closing_held (suc (suc (suc (suc (suc (suc (suc (suc (suc k))))))))) =
    by (suc (suc (suc (suc (suc (suc (suc (suc (suc k)))))))) == 7)
  where
    by : (x : Bool)
        → held_after (if x && false then 3 else 1) (0x5b ∷ 0x32 ∷ 0x37 ∷ 0x6d ∷ []) ≡ 5
    by true = refl
    by false = refl

-- and SGR 7 goes on after it
open_again : (t : List ℕ) → total 5 (opening Reversed ++ t) ≡ total 0 t
open_again t = refl

-- bytes that stay, and bytes that are shown
stay_most : (k : ℕ) (p : List ℕ) → 0 < length p
    → total k p + left_by (held_after k p) ≤ k + left_by k + 7 * length p
stay_most k p h = omega (arith, h, joined_most k p, left_most (held_after k p))

show_by : (k : ℕ) (v : List ℕ) (n : ℕ) → 0 < n → length v ≤ 4 * n → (b : Bool) → (k == 5) ≡ b
    → total k (opening Reversed ++ (v ++ closing Reversed)) ≤ k + (if b then 0 else 6) + 7 * n
show_by k v n h l true e =
    let is : k ≡ 5 = grind (arith, nat_tests) in
    let t = v ++ closing Reversed in
    omega (
      arith,
      is,
      h,
      l,
      ap (λ i. total i (opening Reversed ++ t)) is,
      open_again t,
      joined_most 0 t,
      length-append v (closing Reversed),
    )
show_by k v n h l false e =
    let t = v ++ closing Reversed in
    omega (
      arith,
      h,
      l,
      joined_most k (opening Reversed ++ t),
      length-append (opening Reversed) t,
      length-append v (closing Reversed),
    )

show_most : (k : ℕ) (p : List ℕ) → 0 < length p
    → total k (shown_text Reversed p) + left_by (held_after k (shown_text Reversed p))
    ≤ k + left_by k + 7 * length p
show_most k [] h = absurd (omega (arith, h))
show_most k (b ∷ p) h =
    let v = visible_text (b ∷ p) in
    let held : held_after k (opening Reversed ++ (v ++ closing Reversed)) ≡ 5 =
    held_append k (opening Reversed) (v ++ closing Reversed)
    ∙ held_append (held_after k (opening Reversed)) v (closing Reversed)
    ∙ closing_held (held_after (held_after k (opening Reversed)) v) in
    omega (
      arith,
      ap left_by held,
      show_by k v (length (b ∷ p)) h (visible_most (b ∷ p)) (k == 5) refl,
    )

module _ {A : Type 0} (limit : ℕ) (admits : Value A → Bool) where
  abbrev text : List ℕ → List ℕ
  text p = span_text {A = A} Reversed false limit admits p

  text_most : (k : ℕ) (p : List ℕ) → 0 < length p
      → total k (text p) + left_by (held_after k (text p)) ≤ k + left_by k + 7 * length p
  text_most k p h = by (is_kept Reversed limit admits p)
    where
      by : (b : Bool) → total k (if b then p else shown_text Reversed p)
          + left_by (held_after k (if b then p else shown_text Reversed p))
          ≤ k + left_by k + 7 * length p
      by true = stay_most k p h
      by false = show_most k p h

  abbrev texts : List ℕ → List ℕ → List ℕ
  texts r s = flat_map text (spans_after false r s)

  abbrev Most : ℕ → List ℕ → List ℕ → ℕ → Type 0
  Most k t r n = total k t + left_by (held_after k t) + 7 * length r ≤ k + left_by k + 7 * n

  one_more : (k : ℕ) (p t r : List ℕ) (n : ℕ) → 0 < length p
      → Most (held_after k (text p)) t r n → Most k (text p ++ t) r (length p + n)
  one_more k p t r n h more = omega (
    arith,
    more,
    text_most k p h,
    total_append k (text p) t,
    ap left_by (held_append k (text p) t),
  )

  all_most : (k : ℕ) (r s : List ℕ)
      → Most k (texts r s) (rest_after false r s) (length r + length s)
  all_most k r [] = omega arith
  all_most k r (b ∷ s) =
      by (is_span false (r ++ b ∷ [])) (all_most (held_after k (text (r ++ b ∷ []))) [] s)
      (all_most k (r ++ b ∷ []) s)
    where
      p : List ℕ
      p = r ++ b ∷ []

      size : length p ≡ length r + 1
      size = length-append r (b ∷ [])

      by : (t : Bool)
          → Most (held_after k (text p)) (texts [] s) (rest_after false [] s) (0 + length s)
          → Most k (texts p s) (rest_after false p s) (length p + length s)
          → Most k (flat_map text (if t then p ∷ spans_after false [] s
          else spans_after false p s))
          (if t then rest_after false [] s else rest_after false p s) (length r + suc (length s))
      by true h m =
          omega (
            arith,
            size,
            one_more k p (texts [] s) (rest_after false [] s) (length s) (omega (arith, size))
                (omega (arith, h)),
          )
      by false h m = omega (arith, size, m)

  last_most : (k : ℕ) (r : List ℕ) → total k (shown_text Reversed r) ≤ k + left_by k + 7 * length r
  last_most k [] = omega arith
  last_most k (b ∷ r) = omega (arith, show_most k (b ∷ r) (omega arith))

  pub revealed_most : (s : List ℕ)
      → length (text_without_pairs (revealed_whole_as {A = A} Reversed false limit admits s))
      ≤ 7 * length s + 6
  revealed_most s =
      let r = rest_after false [] s in
      let t = texts [] s in
      let k = held_after 0 t in
      omega (
        arith,
        total_append 0 t (shown_text Reversed r),
        all_most 0 [] s,
        last_most k r,
      )

-- ---- the stream in its encoding

spelling_most : (n : ℕ) → length (spelling n) ≤ 4
spelling_most n = by (scalar n)
  where
    by : (t : Bool) → length (if t then encode_utf8 n else 0xff ∷ []) ≤ 4
    by true = omega (arith, length-encode n, (len_utf8_bounds n).1)
    by false = omega arith

characters_most : (t s : List ℕ) → length (read_in t s) ≤ 4 * length s
characters_most t [] = omega arith
characters_most t (b ∷ s) =
    let n = point_in t b in
    omega (
      arith,
      length-append (spelling n) (read_in t s),
      spelling_most n,
      characters_most t s,
    )

decoded_most : (e : Encoding) (s : List ℕ) → length (decoded_stream e s) ≤ most_decoded e (length s)
decoded_most Utf8 s = omega (arith, length_stays s)
decoded_most EightBit s = omega arith
decoded_most (CodePage p) s = characters_most (table_of p) s

whole_most : (A : Type 0) (shows : Bool) (limit : ℕ) (s : List ℕ) (n : ℕ) → length s ≤ n
    → length (whole_in A shows limit false s) ≤ most_seen shows n
whole_most A true limit s n h =
    omega (arith, h, revealed_most {A = A} limit (is_kept_value {A = A} false) s)
whole_most A false limit s n h = h

seen_most : (A : Type 0) (o : Options) (s : List ℕ)
    → length (seen_by A o false true s) ≤ most_content o s
seen_most A o s = whole_most A o.shows o.limit (decoded_stream o.encoding s)
    (most_decoded o.encoding (length s)) (decoded_most o.encoding s)

-- ---- lines

feeds_append : (s t : List ℕ) → feeds (s ++ t) ≡ feeds s + feeds t
feeds_append [] t = omega arith
feeds_append (b ∷ s) t = omega (arith, feeds_append s t)

-- no line feed of a text is left out if its lines are elements
more_feeds : (n : ℕ) (t : List ℕ) (x : Bool) → feeds t ≤ feeds (lined_page (next_number n) false t)
    → feeds t ≤ feeds (lined_page n true t)
    → feeds t ≤ feeds (if x then line_end ++ lined_page (next_number n) false t
    else lined_page n true t)
more_feeds n t true h k =
    omega (arith, h, feeds_append line_end (lined_page (next_number n) false t))
more_feeds n t false h k = k

lined_feeds : (n : ℕ) (begun : Bool) (t : List ℕ) → feeds t ≤ feeds (lined_page n begun t)
lined_feeds n begun [] = omega arith
lined_feeds n begun (b ∷ t) =
    let more = if b == 0x0a then line_end ++ lined_page (next_number n) false t
    else lined_page n true t in
    omega (
      arith,
      feeds_append (begin_unless begun n) (b ∷ more),
      more_feeds n t (b == 0x0a) (lined_feeds (next_number n) false t) (lined_feeds n true t),
    )

in_lines_feeds : (n : ℕ) (t : List ℕ) → feeds t ≤ feeds (in_lines n t)
in_lines_feeds n t = omega (
  arith,
  lined_feeds n false t,
  feeds_append (lined_page n false t) (end_if (open_after false t)),
)

-- ---- pages

short_by : (A : Type 0) (r : Option ℕ) (limit : ℕ) (y : Layout) (s t : List ℕ) (n : ℕ)
    → length s ≤ n → IsPageBy A r limit y s t → IsShortBy r n t
short_by A None limit y s t n h page = omega (arith, h, page.bounded)
short_by A (Some k) limit y s t n h page =
    let p = page_text A (Some limit) y s ++ closing_text A (Some limit) y s in
    omega (
      arith,
      h,
      page.bounded,
      subst (λ x. feeds p ≤ feeds x) (sym page.text) (in_lines_feeds k p),
    )

module _ {R W : Type 0} (Rd : Reader R) (Wr : Writer W) (A : Type 0) (o : Options)
    (reader : Borrowed R) (writer : Borrowed W) where
  short_on : {X : Type 0} (result : Result X FilterError)
      → OnOk result (HasFiltered Rd Wr (λ s t. IsHtml A o true (seen_by A o false true s) t) reader
      writer)
      → OnOk result (HasFiltered Rd Wr (IsShort o) reader writer)
  short_on (Ok x) (s, t, reads, writes, page) = (
    s,
    t,
    reads,
    writes,
    short_by A o.first o.limit (layout_by o.first o.layout) (seen_by A o false true s) t
        (most_content o s) (seen_most A o s) page,
  )
  short_on (Err e) h = tt

pub short_written : {R W X : Type 0} {Rd : Reader R} {Wr : Writer W} (A : Type 0) (o : Options)
    (result : Result X FilterError) (reader : Borrowed R) (writer : Borrowed W)
    → Filters Rd Wr (λ s. html_of A o (seen_by A o false true s))
    (λ b s t. IsHtml A o b (seen_by A o false b s) t) result reader writer
    → OnOk result (HasFiltered Rd Wr (IsShort o) reader writer)
short_written {Rd} {Wr} A o result reader writer f =
    short_on Rd Wr A o reader writer result f.written
