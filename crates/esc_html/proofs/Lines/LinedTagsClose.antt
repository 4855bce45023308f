-- A page with its lines in elements: its tags are listed and close, and it shows its characters in
-- their lines.
use Rattle.std.proofs.Common.{ℕ, ◌≡◌, ◌<◌, ◌==◌, Bool, true, false, not, ◌&&◌, ◌||◌, if◌then◌else◌, inl, inr, List, [], ◌∷◌, ◌++◌, codes, map, Option, refl, ap, sym, subst, ◌∙◌, append-nil, arith}
use Rattle.std.specs.Char.{encode_utf8}
use Rattle.std.specs.List.{All, flat_map, list_all}
use Rattle.std.specs.Str.{bytes_eq}
use Rattle.std.proofs.lemmas.Bool.{and_parts}
use Rattle.std.proofs.lemmas.Bool.Decides.{nat_tests}
use Rattle.std.proofs.lemmas.Grind.{flat_map-append}
use Rattle.std.proofs.lemmas.List.Elements.{All-cons, All-head, All-nil, All-tail}
use Rattle.std.proofs.lemmas.List.Folds.{list_all-append}
use Rattle.esc_actions.specs.Meaning.{meaning_within}
use Rattle.esc_actions.specs.Values.{Value}
use Rattle.esc_actions.specs.Writable.{EmittedAreWritable}
use Rattle.esc_html.specs.Addresses.{is_safe_address}
use Rattle.esc_html.specs.LinedPages.{IsLineTag, IsLinedPage, IsListedInLines, line_attributes, line_element, number_attributes, with_lines}
use Rattle.esc_html.specs.Lines.{in_lines, next_number}
use Rattle.esc_html.specs.Listed.{IsListed, closes, has_open_link}
use Rattle.esc_html.specs.Marks.{Pen, Step, restyles, redirects, shows, nothing, marked_character, marks, pen_at, pen_by, plain_pen, step_of}
use Rattle.esc_html.specs.Pages.{closing_parts, closing_text, first_state, page_text, page_parts_of, state_of_stream}
use Rattle.esc_html.specs.PageParts.{is_kept_page_part, is_unbroken, page_part_text}
use Rattle.esc_html.specs.Shown.{Element, IsPage, elements, marked_bytes, shown_characters}
use Rattle.esc_html.specs.Tokens.{Token, character, start_tag, end_tag, stray, tokens}
use Rattle.esc_html.specs.declared.layout.Layout.{Layout}
use Rattle.esc_html.proofs.Lines.LinedPartByPart.{lined_size, stays}
use Rattle.esc_html.proofs.Lines.LinesReadAsTokens.{begin_tokens, is_feed, is_unbroken_page_part, lined_tokens, lines_read_back}
use Rattle.esc_html.proofs.Parts.PartsAreSafe.{char_passes, page_passes, unbroken_kept}
use Rattle.esc_html.proofs.Texts.PartsReadAsTokens.{page_parts_read_back}

-- ---- the tokens that are listed

abbrev Listed : List Token → Type 0
Listed ts = All IsListedInLines ts

line_listed : (n : ℕ) (t : Token) → IsLineTag t → IsListedInLines t
line_listed n t h = inr h

begin_listed : (o : Bool) (n : ℕ) (ts : List Token) → Listed ts → Listed (begin_tokens o n ++ ts)
begin_listed true n ts h = h
begin_listed false n ts h =
    let l = start_tag (codes "span") (line_attributes n) in
    let a = start_tag (codes "a") (number_attributes n) in
    let e = end_tag (codes "a") in
    All-cons IsListedInLines l (a ∷ e ∷ ts) (inr (n, inl (refl, refl)))
    (All-cons IsListedInLines a (e ∷ ts) (inr (n, inr (refl, refl)))
    (All-cons IsListedInLines e ts (inl (inr refl)) h))

end_listed : (ts : List Token) → Listed ts → Listed (end_tag (codes "span") ∷ ts)
end_listed ts h = All-cons IsListedInLines (end_tag (codes "span")) ts (inl (inl refl)) h

lined_listed : (n : ℕ) (o : Bool) (ts : List Token) → All IsListed ts
    → Listed (lined_tokens n o ts)
lined_listed n true [] h = end_listed [] (All-nil IsListedInLines)
lined_listed n false [] h = All-nil IsListedInLines
lined_listed n o (t ∷ ts) h =
    let tail = All-tail IsListed t ts h in
    begin_listed o n (t ∷ rest (is_feed t))
    (All-cons IsListedInLines t (rest (is_feed t)) (inl (All-head IsListed t ts h))
    (by (λ m p. lined_listed m p ts tail) (is_feed t)))
  where
    rest : Bool → List Token
    rest x = if x then end_tag (codes "span") ∷ lined_tokens (next_number n) false ts
        else lined_tokens n true ts

    by : ((m : ℕ) (p : Bool) → Listed (lined_tokens m p ts)) → (x : Bool) → Listed (rest x)
    by h true = end_listed (lined_tokens (next_number n) false ts) (h (next_number n) false)
    by h false = h n true

-- ---- no element is open at the end of a line

abbrev is_none_open : List Element → Bool
is_none_open [] = true
is_none_open (e ∷ es) = false

abbrev is_out : ℕ × List Element → Bool
is_out m = not (m.0 == 0x0a) || is_none_open m.1

all_outside : (x : List ℕ) → list_all is_out (map (λ b. (b, [])) x) ≡ true
all_outside [] = refl
all_outside (b ∷ x) = by (b == 0x0a) (all_outside x)
  where
    by : (y : Bool) → list_all is_out (map (λ b. (b, [])) x) ≡ true
        → (not y || true) && list_all is_out (map (λ b. (b, [])) x) ≡ true
    by true h = h
    by false h = h

all_staying : (es : List Element) (x : List ℕ) → list_all stays x ≡ true
    → list_all is_out (map (λ b. (b, es)) x) ≡ true
all_staying es [] h = refl
all_staying es (b ∷ x) h =
    let q = and_parts (stays b) (list_all stays x) h in
    rw (q.0, all_staying es x q.1) refl

low_stays : (b : ℕ) → stays b ≡ false → b < 128
low_stays b h = grind (arith, nat_tests)

mark_out : (c : ℕ) (p : Pen) (x : Bool) → (c == 0x0a) ≡ x
    → list_all is_out (marked_bytes (c, pen_at x p)) ≡ true
mark_out c p true e = all_outside (encode_utf8 c)
mark_out c p false e =
    all_staying (elements p) (encode_utf8 c) (char_passes stays low_stays c (rw e refl))

step_out : (p : Pen) (s : Step)
    → list_all is_out (flat_map marked_bytes (marked_character true p s)) ≡ true
step_out p (restyles l) = refl
step_out p (redirects k) = refl
step_out p (shows c) =
    ap (list_all is_out) (append-nil (marked_bytes (c, pen_at (c == 0x0a) p)))
    ∙ mark_out c p (c == 0x0a) refl
step_out p nothing = refl

marks_out : {A : Type 0} (p : Pen) (vs : List (Value A))
    → list_all is_out (flat_map marked_bytes (marks true p vs)) ≡ true
marks_out p [] = refl
marks_out p (v ∷ vs) =
    let s = step_of p v in
    ap (list_all is_out)
    (flat_map-append marked_bytes (marked_character true p s) (marks true (pen_by true p s) vs))
    ∙ list_all-append is_out (flat_map marked_bytes (marked_character true p s))
    (flat_map marked_bytes (marks true (pen_by true p s) vs))
    ∙ ap (λ b. b && list_all is_out (flat_map marked_bytes (marks true (pen_by true p s) vs)))
    (step_out p s)
    ∙ marks_out (pen_by true p s) vs

-- ---- the tokens that close

abbrev names : List Element → List (List ℕ)
names es = map (λ e. e.0) es

abbrev in_line : List (List ℕ)
in_line = codes "span" ∷ []

no_more_links : (ns : List (List ℕ)) → has_open_link (ns ++ in_line) ≡ has_open_link ns
no_more_links [] = refl
no_more_links (n ∷ ns) = ap (λ b. bytes_eq n (codes "a") || b) (no_more_links ns)

past_character : (ns : List (List ℕ)) (c : ℕ) (ts : List Token)
    → closes ns (character c ∷ ts) ≡ closes ns ts
past_character [] c ts = refl
past_character (n ∷ ns) c ts = refl

past_start : (ns : List (List ℕ)) (m : List ℕ) (ats : List (List ℕ × List ℕ)) (ts : List Token)
    → closes ns (start_tag m ats ∷ ts)
    ≡ not (bytes_eq m (codes "a") && has_open_link ns) && closes (m ∷ ns) ts
past_start [] m ats ts = refl
past_start (n ∷ ns) m ats ts = refl

-- if a line is open, so is one that is begun
shut : (n : ℕ) (ts : List Token) → closes in_line (lined_tokens n true ts) ≡ true
    → closes [] (lined_tokens n false ts) ≡ true
shut n [] h = refl
shut n (t ∷ ts) h = h

lined_closes : (n : ℕ) (es : List Element) (ts : List Token) → closes (names es) ts ≡ true
    → list_all is_out (shown_characters es ts) ≡ true
    → closes (names es ++ in_line) (lined_tokens n true ts) ≡ true
lined_closes n [] [] h k = refl
lined_closes n (e ∷ es) [] h k = absurd cc
lined_closes n es (character c ∷ ts) h k =
    let q = and_parts (is_out (c, es)) (list_all is_out (shown_characters es ts)) k in
    past_character (names es ++ in_line) c (if c == 0x0a
    then end_tag (codes "span") ∷ lined_tokens (next_number n) false ts
    else lined_tokens n true ts)
    ∙ by es (λ m. lined_closes m es ts (sym (past_character (names es) c ts) ∙ h) q.1)
    (c == 0x0a) q.0
  where
    by : (es : List Element)
        → ((m : ℕ) → closes (names es ++ in_line) (lined_tokens m true ts) ≡ true)
        → (x : Bool) → not x || is_none_open es ≡ true
        → closes (names es ++ in_line) (if x
        then end_tag (codes "span") ∷ lined_tokens (next_number n) false ts
        else lined_tokens n true ts) ≡ true
    by [] h true o = shut (next_number n) ts (h (next_number n))
    by (e ∷ es) h true o = absurd cc
    by es h false o = h n
lined_closes n es (start_tag m ats ∷ ts) h k =
    let ns = names es in
    let q = and_parts (not (bytes_eq m (codes "a") && has_open_link ns)) (closes (m ∷ ns) ts)
    (sym (past_start ns m ats ts) ∙ h) in
    past_start (ns ++ in_line) m ats (lined_tokens n true ts)
    ∙ ap (λ b. not (bytes_eq m (codes "a") && b)
    && closes (m ∷ (ns ++ in_line)) (lined_tokens n true ts)) (no_more_links ns)
    ∙ ap (λ b. b && closes (m ∷ (ns ++ in_line)) (lined_tokens n true ts)) q.0
    ∙ lined_closes n ((m, ats) ∷ es) ts q.1 k
lined_closes n [] (end_tag m ∷ ts) h k = absurd cc
lined_closes n (e ∷ es) (end_tag m ∷ ts) h k =
    let q = and_parts (bytes_eq e.0 m) (closes (names es) ts) h in
    ap (λ b. b && closes (names es ++ in_line) (lined_tokens n true ts)) q.0
    ∙ lined_closes n es ts q.1 k
lined_closes n [] (stray ∷ ts) h k = absurd cc
lined_closes n (e ∷ es) (stray ∷ ts) h k = absurd cc

-- ---- the characters that are shown

shut_shown : (n : ℕ) (ts : List Token) (ms : List (ℕ × List Element))
    → shown_characters (line_element n ∷ []) (lined_tokens n true ts) ≡ ms
    → shown_characters [] (lined_tokens n false ts) ≡ ms
shut_shown n [] ms h = h
shut_shown n (t ∷ ts) ms h = h

lined_shows : (n : ℕ) (es : List Element) (ts : List Token) → closes (names es) ts ≡ true
    → list_all is_out (shown_characters es ts) ≡ true
    → shown_characters (es ++ line_element n ∷ []) (lined_tokens n true ts)
    ≡ with_lines n (shown_characters es ts)
lined_shows n [] [] h k = refl
lined_shows n (e ∷ es) [] h k = absurd cc
lined_shows n es (character c ∷ ts) h k =
    let q = and_parts (is_out (c, es)) (list_all is_out (shown_characters es ts)) k in
    ap (λ ms. (c, es ++ line_element n ∷ []) ∷ ms)
    (by es (λ m. lined_shows m es ts (sym (past_character (names es) c ts) ∙ h) q.1) (c == 0x0a)
    q.0)
  where
    by : (es : List Element)
        → ((m : ℕ) → shown_characters (es ++ line_element m ∷ []) (lined_tokens m true ts)
        ≡ with_lines m (shown_characters es ts))
        → (x : Bool) → not x || is_none_open es ≡ true
        → shown_characters (es ++ line_element n ∷ []) (if x
        then end_tag (codes "span") ∷ lined_tokens (next_number n) false ts
        else lined_tokens n true ts)
        ≡ with_lines (if x then next_number n else n) (shown_characters es ts)
    by [] h true o =
        shut_shown (next_number n) ts (with_lines (next_number n) (shown_characters [] ts))
        (h (next_number n))
    by (e ∷ es) h true o = absurd cc
    by es h false o = h n
lined_shows n es (start_tag m ats ∷ ts) h k =
    let ns = names es in
    let q = and_parts (not (bytes_eq m (codes "a") && has_open_link ns)) (closes (m ∷ ns) ts)
    (sym (past_start ns m ats ts) ∙ h) in
    lined_shows n ((m, ats) ∷ es) ts q.1 k
lined_shows n [] (end_tag m ∷ ts) h k = absurd cc
lined_shows n (e ∷ es) (end_tag m ∷ ts) h k =
    let q = and_parts (bytes_eq e.0 m) (closes (names es) ts) h in lined_shows n es ts q.1 k
lined_shows n [] (stray ∷ ts) h k = absurd cc
lined_shows n (e ∷ es) (stray ∷ ts) h k = absurd cc

-- ---- pages

outside : {A : Type 0} (pl i : Bool) (vs : List (Value A)) → pl ≡ true
    → list_all is_out (flat_map marked_bytes (marks pl (plain_pen i) vs)) ≡ true
outside true i vs e = marks_out (plain_pen i) vs
outside false i vs e = absurd cc

pub lined_page_is : {A : Type 0} (limit : Option ℕ) (n : ℕ) (y : Layout) (s : List ℕ)
    → y.per_line ≡ true → EmittedAreWritable {A = A} (meaning_within limit s)
    → IsPage A limit y s (page_text A limit y s ++ closing_text A limit y s)
    → IsLinedPage A limit n y s
    (in_lines n (page_text A limit y s ++ closing_text A limit y s))
lined_page_is {A} limit n y s pl h page =
    let vs = meaning_within {A = A} limit s in
    let first = first_state y.inline in
    let last = closing_parts (state_of_stream A limit y s) in
    let ps = page_parts_of A limit y s ++ last in
    let t = page_text A limit y s ++ closing_text A limit y s in
    let same = flat_map-append page_part_text (page_parts_of A limit y s) last in
    let kept = page_passes is_kept_page_part (λ b l. refl) refl refl (λ t k. k)
    (λ a k. unbroken_kept a (and_parts (is_safe_address a) (list_all is_unbroken a) k).1)
    y.per_line first vs tt h in
    let unbroken = page_passes is_unbroken_page_part (λ b l. refl) refl refl (λ t k. refl)
    (λ a k. (and_parts (is_safe_address a) (list_all is_unbroken a) k).1)
    y.per_line first vs tt h in
    let plain = sym (ap tokens same) ∙ page_parts_read_back ps kept in
    let read : tokens (in_lines n t) ≡ lined_tokens n false (tokens t) =
    sym (ap (λ x. tokens (in_lines n x)) same) ∙ lines_read_back ps kept unbroken n
    ∙ ap (lined_tokens n false) (sym plain) in
    let out = ap (list_all is_out) page.shows ∙ outside y.per_line y.inline vs pl in
    record {
      text = refl;
      listed = subst (All IsListedInLines) (sym read) (lined_listed n false (tokens t) page.listed);
      closes = ap (closes []) read
          ∙ shut n (tokens t) (lined_closes n [] (tokens t) page.closes out);
      shows = ap (shown_characters []) read
          ∙ shut_shown n (tokens t) (with_lines n (shown_characters [] (tokens t)))
          (lined_shows n [] (tokens t) page.closes out)
          ∙ ap (with_lines n) page.shows;
      bounded = omega (arith, lined_size n t, page.bounded);
    }
