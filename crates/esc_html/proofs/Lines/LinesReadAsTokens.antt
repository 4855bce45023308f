-- The tokens that a browser's tokenizer reads from a page with its lines in elements.
use Rattle.std.proofs.Common.{ℕ, suc, ◌≡◌, ◌≤◌, ◌<◌, ◌==◌, Bool, true, false, not, ◌&&◌, ◌||◌, if◌then◌else◌, inl, inr, List, [], ◌∷◌, ◌++◌, codes, length, get_or, map, min, refl, ap, sym, ◌∙◌, append_assoc, arith}
use Rattle.std.specs.List.{flat_map, list_all}
use Rattle.std.proofs.lemmas.Bool.{and_parts, cases_Bool, eqb-true, not-true}
use Rattle.std.proofs.lemmas.Bool.Decides.{nat_tests}
use Rattle.std.proofs.lemmas.Fmt.{decimal_is_IsNumeral}
use Rattle.std.proofs.lemmas.Grind.{flat_map-append}
use Rattle.std.proofs.lemmas.List.{append-nil}
use Rattle.std.proofs.lemmas.List.Folds.{list_all-append}
use Rattle.std.proofs.lemmas.Str.Parse.{digit_at}
use Rattle.esc_html.specs.Inline.{inline_text}
use Rattle.esc_html.specs.LinedPages.{line_attributes, number_attributes}
use Rattle.esc_html.specs.Lines.{begin_unless, end_if, highest, in_lines, line_begin, line_end, lined_page, next_number, numeral, open_after}
use Rattle.esc_html.specs.Names.{span_names}
use Rattle.esc_html.specs.PageParts.{PagePart, text, span, span_end, link, link_end, attribute_text, attributes_text, class_attribute, escape, escape_text, escape_value, html_text, is_kept, is_kept_page_part, is_unbroken, page_part_text, page_part_tokens, style_attribute, tokens_of}
use Rattle.esc_html.specs.Tokens.{Tag, Token, character, start_tag, end_tag, stray, data_state, tokens, tokens_from, value}
use Rattle.esc_style.specs.Looks.{look_classes, look_styles, values_of}
use Rattle.esc_style.specs.Styles.{styles_text}
use Rattle.esc_style.specs.declared.class.Class.{Class}
use Rattle.esc_style.specs.declared.look.Look.{Look}
use Rattle.esc_style.specs.declared.style.Style.{Style}
use Rattle.esc_html.proofs.Lines.LinedPartByPart.{part_in_line, stays}
use Rattle.esc_html.proofs.Texts.PartsReadAsTokens.{all_joined, inline_plain, is_low, is_name_char, kept_same, name_chars, name_kept, names_plain, page_part_kept, page_part_reads, styles_plain}

-- ---- numbers

digit_plain : (b : ℕ) → 48 ≤ b → b ≤ 57 → is_name_char b ≡ true
digit_plain b h k = grind (arith, nat_tests)

digits_plain : (x : List ℕ)
    → ((k : ℕ) → k < length x → is_name_char (get_or x k 0) ≡ true)
    → list_all is_name_char x ≡ true
digits_plain [] h = refl
digits_plain (b ∷ x) h =
    rw (h 0 (omega arith), digits_plain x (λ k l. h (suc k) (omega (arith, l)))) refl

numeral_plain : (n : ℕ) → list_all is_name_char (numeral n) ≡ true
numeral_plain n =
    let m = min n highest in
    let f = decimal_is_IsNumeral m (omega arith) in
    digits_plain (numeral n) (λ k below.
    let range = digit_at (numeral n) k f.0.1 below in
    digit_plain (get_or (numeral n) k 0) (omega (arith, range)) (omega (arith, range)))

-- ---- the beginning of a line

abbrev pub line_tokens : ℕ → List Token
line_tokens n = start_tag (codes "span") (line_attributes n)
    ∷ start_tag (codes "a") (number_attributes n) ∷ end_tag (codes "a") ∷ []

abbrev line_tag : Tag
line_tag = record {
  is_end = false;
  name = codes "span";
  attributes = (codes "class", codes "es-line") ∷ [];
}

abbrev number_tag : Tag
number_tag = record { is_end = false; name = codes "a"; attributes = [] }

begin_regrouped : (a d b e c r : List ℕ)
    → (a ++ (d ++ (b ++ (e ++ c)))) ++ r ≡ a ++ (d ++ (b ++ (e ++ (c ++ r))))
begin_regrouped a d b e c r =
    append_assoc a (d ++ (b ++ (e ++ c))) r
    ∙ ap (λ x. a ++ x) (append_assoc d (b ++ (e ++ c)) r
    ∙ ap (λ x. d ++ x) (append_assoc b (e ++ c) r
    ∙ ap (λ x. b ++ x) (append_assoc e c r)))

number_reads : (d r : List ℕ) → list_all is_name_char d ≡ true
    → tokens_from (value number_tag (codes "href") (codes "#L"))
    (d ++ (codes "\" tabindex=\"-1\" aria-hidden=\"true\"></a>" ++ r))
    ≡ start_tag (codes "a") ((codes "href", 0x23 ∷ 0x4c ∷ d) ∷ (codes "tabindex", codes "-1")
    ∷ (codes "aria-hidden", codes "true") ∷ []) ∷ end_tag (codes "a") ∷ tokens_from data_state r
number_reads d r h =
    name_chars number_tag (codes "href") (codes "#L") d
    (codes "\" tabindex=\"-1\" aria-hidden=\"true\"></a>" ++ r) h

begin_reads : (n : ℕ) (r : List ℕ)
    → tokens_from data_state (line_begin n ++ r) ≡ line_tokens n ++ tokens_from data_state r
begin_reads n r =
    let d = numeral n in
    let mid = codes "\"><a href=\"#L" in
    let last = codes "\" tabindex=\"-1\" aria-hidden=\"true\"></a>" in
    ap (tokens_from data_state) (begin_regrouped (codes "<span class=\"es-line\" id=\"L") d mid d
    last r)
    ∙ name_chars line_tag (codes "id") (codes "L") d (mid ++ (d ++ (last ++ r))) (numeral_plain n)
    ∙ ap (λ ts. start_tag (codes "span") (line_attributes n) ∷ ts)
    (number_reads d r (numeral_plain n))

-- ---- parts that end no line

name_stays : (x : List ℕ) → list_all is_name_char x ≡ true → list_all stays x ≡ true
name_stays [] h = refl
name_stays (c ∷ x) h =
    let q = and_parts (is_name_char c) (list_all is_name_char x) h in
    let k = and_parts (is_kept c) (not (c == 0x22) && (not (c == 0x26) && is_low c)) q.0 in
    let o = and_parts (not (c == 0x22)) (not (c == 0x26) && is_low c) k.1 in
    let l = and_parts (not (c == 0x26)) (is_low c) o.1 in
    rw ((and_parts _ (stays c) l.1).1, name_stays x q.1) refl

quoted_stays : (v : List ℕ) → list_all is_name_char v ≡ true
    → list_all stays (v ++ codes "\"") ≡ true
quoted_stays v h = rw (list_all-append stays v (codes "\""), name_stays v h) refl

classes_stay : (cs : List Class) → list_all stays (attributes_text (class_attribute cs)) ≡ true
classes_stay [] = refl
classes_stay (c ∷ cs) =
    let v = span_names (c ∷ cs) in
    ap (λ x. list_all stays (codes " class=\"" ++ x)) (append-nil (v ++ codes "\""))
    ∙ quoted_stays v (names_plain (c ∷ cs))

styles_stay : (ss : List Style) → list_all stays (attributes_text (style_attribute ss)) ≡ true
styles_stay [] = refl
styles_stay (s ∷ ss) =
    let v = styles_text (s ∷ ss) in
    ap (λ x. list_all stays (codes " style=\"" ++ x)) (append-nil (v ++ codes "\""))
    ∙ quoted_stays v (styles_plain (s ∷ ss))

span_stays : (cs : List Class) (ss : List Style)
    → list_all stays
    (codes "<span" ++ (attributes_text (class_attribute cs ++ style_attribute ss) ++ codes ">"))
    ≡ true
span_stays cs ss =
    rw (
      flat_map-append attribute_text (class_attribute cs) (style_attribute ss),
      list_all-append stays (attributes_text (class_attribute cs)
          ++ attributes_text (style_attribute ss)) (codes ">"),
      list_all-append stays (attributes_text (class_attribute cs))
          (attributes_text (style_attribute ss)),
      classes_stay cs,
      styles_stay ss,
    ) refl

inline_stays : (l : Look) → list_all stays
    (codes "<span" ++ (attributes_text ((codes "style", inline_text l) ∷ []) ++ codes ">")) ≡ true
inline_stays l =
    rw (
      append-nil (inline_text l ++ codes "\""),
      list_all-append stays (inline_text l ++ codes "\"") (codes ">"),
      quoted_stays (inline_text l) (inline_plain l),
    ) refl

escape_stays : (mark c : ℕ) → stays c ≡ true → list_all stays (escape mark c) ≡ true
escape_stays mark c h = by (c == 0x26 || c == 0x3c || c == mark) (c == 0x26) (c == 0x3c) (c == 0x3e)
  where
    by : (e x y z : Bool) → list_all stays (if e then (if x then codes "&amp;"
        else if y then codes "&lt;" else if z then codes "&gt;" else codes "&quot;")
        else c ∷ []) ≡ true
    by true true y z = refl
    by true false true z = refl
    by true false false true = refl
    by true false false false = refl
    by false x y z = rw h refl

-- the address of a part ends no line
abbrev pub is_unbroken_page_part : PagePart → Bool
is_unbroken_page_part (text t) = true
is_unbroken_page_part (span b l) = true
is_unbroken_page_part span_end = true
is_unbroken_page_part (link a) = list_all is_unbroken a
is_unbroken_page_part link_end = true

unbroken_stays : (c : ℕ) → is_unbroken c ≡ true → stays c ≡ true
unbroken_stays c h = (and_parts (is_kept c) (stays c) h).1

link_stays : (a : List ℕ) → list_all is_unbroken a ≡ true
    → list_all stays (page_part_text (link a)) ≡ true
link_stays a h =
    let last = codes "\" rel=\"nofollow noopener noreferrer\">" in
    rw (
      list_all-append stays (flat_map escape_value a) last,
      all_stay a h,
    ) refl
  where
    all_stay : (a : List ℕ) → list_all is_unbroken a ≡ true
        → list_all stays (flat_map escape_value a) ≡ true
    all_stay [] h = refl
    all_stay (c ∷ a) h =
        let q = and_parts (is_unbroken c) (list_all is_unbroken a) h in
        rw (
          list_all-append stays (escape_value c) (flat_map escape_value a),
          escape_stays 0x22 c (unbroken_stays c q.0),
          all_stay a q.1,
        ) refl

-- ---- tokens with those of lines

abbrev pub is_feed : Token → Bool
is_feed (character c) = c == 0x0a
is_feed (start_tag n attributes) = false
is_feed (end_tag n) = false
is_feed stray = false

abbrev pub begin_tokens : Bool → ℕ → List Token
begin_tokens true n = []
begin_tokens false n = line_tokens n

abbrev pub end_tokens : Bool → List Token
end_tokens true = end_tag (codes "span") ∷ []
end_tokens false = []

abbrev pub lined_tokens : ℕ → Bool → List Token → List Token
lined_tokens n o [] = end_tokens o
lined_tokens n o (t ∷ ts) = begin_tokens o n ++ (t ∷ (if is_feed t
    then end_tag (codes "span") ∷ lined_tokens (next_number n) false ts
    else lined_tokens n true ts))

-- the text of lines that has ended
abbrev ended : ℕ → Bool → List ℕ → List ℕ
ended n o t = lined_page n o t ++ end_if (open_after o t)

-- it is begun, if a byte comes
opens : (n : ℕ) (o : Bool) (b : ℕ) (t : List ℕ) (ts : List Token)
    → tokens_from data_state (ended n true (b ∷ t)) ≡ ts
    → tokens_from data_state (ended n o (b ∷ t)) ≡ begin_tokens o n ++ ts
opens n true b t ts h = h
opens n false b t ts h =
    ap (tokens_from data_state) (append_assoc (line_begin n) (lined_page n true (b ∷ t))
    (end_if (open_after true (b ∷ t))))
    ∙ begin_reads n (ended n true (b ∷ t)) ∙ ap (λ x. line_tokens n ++ x) h

-- after a part of a line
stays_open : (s t : List ℕ) → list_all stays s ≡ true → open_after true (s ++ t) ≡ open_after true t
stays_open [] t h = refl
stays_open (b ∷ s) t h =
    let q = and_parts (stays b) (list_all stays s) h in
    ap (λ x. open_after (not x) (s ++ t)) (not-true (b == 0x0a) q.0) ∙ stays_open s t q.1

part_ended : (n : ℕ) (s t : List ℕ) → list_all stays s ≡ true
    → ended n true (s ++ t) ≡ s ++ ended n true t
part_ended n s t h =
    ap (λ x. x ++ end_if (open_after true (s ++ t))) (part_in_line n s t h)
    ∙ ap (λ o. (s ++ lined_page n true t) ++ end_if o) (stays_open s t h)
    ∙ append_assoc s (lined_page n true t) (end_if (open_after true t))

-- a part of one token, which is no line feed, and whose text ends no line
one_lined : (p : PagePart) (x : Token) (b : ℕ) (s r : List ℕ) (ts : List Token)
    → page_part_text p ≡ b ∷ s → page_part_tokens p ≡ x ∷ [] → is_feed x ≡ false
    → is_kept_page_part p ≡ true → list_all stays (page_part_text p) ≡ true
    → ((n : ℕ) → tokens_from data_state (ended n true r) ≡ lined_tokens n true ts)
    → (n : ℕ) (o : Bool)
    → tokens_from data_state (ended n o (page_part_text p ++ r)) ≡ lined_tokens n o (x ∷ ts)
one_lined p x b s r ts is one other kept part rest n o =
    let read : tokens_from data_state (ended n true (page_part_text p ++ r))
    ≡ x ∷ lined_tokens n true ts =
    ap (tokens_from data_state) (part_ended n (page_part_text p) r part)
    ∙ page_part_reads p (ended n true r) kept
    ∙ ap (λ y. y ++ tokens_from data_state (ended n true r)) one
    ∙ ap (λ y. x ∷ y) (rest n) in
    ap (λ y. tokens_from data_state (ended n o (y ++ r))) is
    ∙ opens n o b (s ++ r) (x ∷ lined_tokens n true ts)
    (ap (λ y. tokens_from data_state (ended n true (y ++ r))) (sym is) ∙ read)
    ∙ ap (λ z. begin_tokens o n ++ (x ∷ (if z
    then end_tag (codes "span") ∷ lined_tokens (next_number n) false ts
    else lined_tokens n true ts))) (sym other)

-- a character
feed_lined : (n : ℕ) (o : Bool) (r : List ℕ) (ts : List Token)
    → tokens_from data_state (ended (next_number n) false r)
    ≡ lined_tokens (next_number n) false ts
    → tokens_from data_state (ended n o (0x0a ∷ r)) ≡ lined_tokens n o (character 0x0a ∷ ts)
feed_lined n o r ts h =
    opens n o 0x0a r (character 0x0a ∷ end_tag (codes "span")
    ∷ lined_tokens (next_number n) false ts)
    (ap (λ x. character 0x0a ∷ end_tag (codes "span") ∷ x) h)

first_of : (c : ℕ) → (b : ℕ) × ((s : List ℕ) × (page_part_text (text (c ∷ [])) ≡ b ∷ s))
first_of c = by (c == 0x26 || c == 0x3c || c == 0x3e) (c == 0x26) (c == 0x3c) (c == 0x3e)
  where
    by : (e x y z : Bool) → (b : ℕ) × ((s : List ℕ) × ((if e then (if x then codes "&amp;"
        else if y then codes "&lt;" else if z then codes "&gt;" else codes "&quot;")
        else c ∷ []) ++ [] ≡ b ∷ s))
    by true true y z = (0x26, (_, refl))
    by true false true z = (0x26, (_, refl))
    by true false false true = (0x26, (_, refl))
    by true false false false = (0x26, (_, refl))
    by false x y z = (c, ([], refl))

char_lined : (c : ℕ) (r : List ℕ) (ts : List Token) → is_kept c ≡ true
    → ((n : ℕ) (o : Bool) → tokens_from data_state (ended n o r) ≡ lined_tokens n o ts)
    → (n : ℕ) (o : Bool)
    → tokens_from data_state (ended n o (escape_text c ++ r)) ≡ lined_tokens n o (character c ∷ ts)
char_lined c r ts h rest n o =
    elim (cases_Bool (c == 0x0a)) [
      | inl held ↦ let same : c ≡ 0x0a = eqb-true c 0x0a held in
          rw same (feed_lined n o r ts (rest (next_number n) false))
      | inr other ↦
          let (b, (s, is)) = first_of c in
          let part : list_all stays (escape_text c ++ []) ≡ true =
          ap (list_all stays) (append-nil (escape_text c)) ∙ escape_stays 0x3e c (rw other refl) in
          ap (λ x. tokens_from data_state (ended n o (x ++ r))) (sym (append-nil (escape_text c)))
          ∙ one_lined (text (c ∷ [])) (character c) b s r ts is refl other (rw h refl) part
          (λ k. rest k true) n o
    ]

text_lined : (t r : List ℕ) (ts : List Token) → list_all is_kept t ≡ true
    → ((n : ℕ) (o : Bool) → tokens_from data_state (ended n o r) ≡ lined_tokens n o ts)
    → (n : ℕ) (o : Bool)
    → tokens_from data_state (ended n o (flat_map escape_text t ++ r))
    ≡ lined_tokens n o (map character t ++ ts)
text_lined [] r ts h rest n o = rest n o
text_lined (c ∷ t) r ts h rest n o =
    let q = and_parts (is_kept c) (list_all is_kept t) h in
    ap (λ x. tokens_from data_state (ended n o x))
    (append_assoc (escape_text c) (flat_map escape_text t) r)
    ∙ char_lined c (flat_map escape_text t ++ r) (map character t ++ ts) q.0
    (text_lined t r ts q.1 rest) n o

-- ---- parts

page_parts_lined : (ps : List PagePart) → list_all is_kept_page_part ps ≡ true
    → list_all is_unbroken_page_part ps ≡ true → (n : ℕ) (o : Bool)
    → tokens_from data_state (ended n o (html_text ps)) ≡ lined_tokens n o (tokens_of ps)
page_parts_lined [] h k n true = refl
page_parts_lined [] h k n false = refl
page_parts_lined (p ∷ ps) h k n o =
    let q = and_parts (is_kept_page_part p) (list_all is_kept_page_part ps) h in
    let u = and_parts (is_unbroken_page_part p) (list_all is_unbroken_page_part ps) k in
    page_part_lined p q.0 u.0 (page_parts_lined ps q.1 u.1) n o
  where
    page_part_lined : (p : PagePart) → is_kept_page_part p ≡ true → is_unbroken_page_part p ≡ true
        → ((n : ℕ) (o : Bool)
        → tokens_from data_state (ended n o (html_text ps)) ≡ lined_tokens n o (tokens_of ps))
        → (n : ℕ) (o : Bool)
        → tokens_from data_state (ended n o (page_part_text p ++ html_text ps))
        ≡ lined_tokens n o (page_part_tokens p ++ tokens_of ps)
    page_part_lined (text t) h k rest n o = text_lined t (html_text ps) (tokens_of ps) h rest n o
    page_part_lined (span true l) h k rest n o =
        one_lined (span true l) _ _ _ (html_text ps) (tokens_of ps) refl refl refl refl
        (inline_stays l) (λ m. rest m true) n o
    page_part_lined (span false l) h k rest n o =
        one_lined (span false l) _ _ _ (html_text ps) (tokens_of ps) refl refl refl refl
        (span_stays (values_of (look_classes l)) (values_of (look_styles l))) (λ m. rest m true) n o
    page_part_lined span_end h k rest n o =
        one_lined span_end _ _ _ (html_text ps) (tokens_of ps) refl refl refl refl refl
        (λ m. rest m true) n o
    page_part_lined (link a) h k rest n o =
        one_lined (link a) _ _ _ (html_text ps) (tokens_of ps) refl refl refl h (link_stays a k)
        (λ m. rest m true) n o
    page_part_lined link_end h k rest n o =
        one_lined link_end _ _ _ (html_text ps) (tokens_of ps) refl refl refl refl refl
        (λ m. rest m true) n o

-- ---- newlines

begin_kept : (n : ℕ) → list_all is_kept (line_begin n) ≡ true
begin_kept n =
    let d = numeral n in
    let mid = codes "\"><a href=\"#L" in
    let last = codes "\" tabindex=\"-1\" aria-hidden=\"true\"></a>" in
    let kept = name_kept d (numeral_plain n) in
    rw (
      list_all-append is_kept d (mid ++ (d ++ last)),
      list_all-append is_kept d last,
      kept,
    ) refl

unless_kept : (o : Bool) (n : ℕ) → list_all is_kept (begin_unless o n) ≡ true
unless_kept true n = refl
unless_kept false n = begin_kept n

end_kept : (o : Bool) → list_all is_kept (end_if o) ≡ true
end_kept true = refl
end_kept false = refl

lined_kept : (n : ℕ) (o : Bool) (t : List ℕ) → list_all is_kept t ≡ true
    → list_all is_kept (lined_page n o t) ≡ true
lined_kept n o [] h = refl
lined_kept n o (b ∷ t) h =
    let q = and_parts (is_kept b) (list_all is_kept t) h in
    rw (list_all-append is_kept (begin_unless o n) (b ∷ rest (b == 0x0a)), unless_kept o n, q.0)
    (by (λ m p. lined_kept m p t q.1) (b == 0x0a))
  where
    rest : Bool → List ℕ
    rest x = if x then line_end ++ lined_page (next_number n) false t else lined_page n true t

    by : ((m : ℕ) (p : Bool) → list_all is_kept (lined_page m p t) ≡ true)
        → (x : Bool) → list_all is_kept (rest x) ≡ true
    by h true = h (next_number n) false
    by h false = h n true

pub lines_read_back : (ps : List PagePart) → list_all is_kept_page_part ps ≡ true
    → list_all is_unbroken_page_part ps ≡ true → (n : ℕ)
    → tokens (in_lines n (html_text ps)) ≡ lined_tokens n false (tokens_of ps)
lines_read_back ps h k n =
    let t = html_text ps in
    let kept : list_all is_kept (in_lines n t) ≡ true =
    list_all-append is_kept (lined_page n false t) (end_if (open_after false t))
    ∙ ap (λ b. b && list_all is_kept (end_if (open_after false t)))
    (lined_kept n false t (all_joined page_part_text is_kept_page_part page_part_kept ps h))
    ∙ end_kept (open_after false t) in
    ap (tokens_from data_state) (kept_same (in_lines n t) kept) ∙ page_parts_lined ps h k n false
