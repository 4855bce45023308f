-- Runs of characters of ASCII, and what they add.
use Rattle.std.proofs.Common.{ℕ, zero, suc, ◌≡◌, ◌+◌, ◌-◌, ◌*◌, ◌<◌, ◌≤◌, ◌==◌, Bool, true, false, not, ◌&&◌, ◌||◌, if◌then◌else◌, List, [], ◌∷◌, ◌++◌, length, drop, get_or, map, replicate, take, IfSome, Option, Some, None, refl, sym, ap, ◌∙◌, subst, append_assoc, append-nil, eq-eqb, arith}
use Rattle.std.specs.List.{list_all}
use Rattle.std.specs.Str.{IsAscii}
use Rattle.std.proofs.lemmas.Bool.{and_parts, lt-ltb}
use Rattle.std.proofs.lemmas.Bool.Decides.{nat_tests}
use Rattle.std.proofs.lemmas.List.{drop-drop, drop_more, length-drop, take_rest}
use Rattle.std.proofs.lemmas.Str.{encode_ascii}
use Rattle.std.proofs.lemmas.Str.Ascii.{IsAscii-cons, IsAscii-nil}
use Rattle.esc_screen.specs.Cells.{is_rest, is_rest_content}
use Rattle.esc_screen.specs.declared.cell.Cell.{Cell}
use Rattle.esc_screen.specs.declared.content.Content.{Content}
use Rattle.esc_screen.specs.declared.content.Content.TheVariants as content
use Rattle.esc_screen.specs.declared.marks.Marks.{Marks}
use Rattle.esc_sgr.specs.Sgr.{same_look}
use Rattle.esc_style.specs.Looks.{plain_look}
use Rattle.esc_terminal.specs.Links.{Known, known_look}
use Rattle.esc_filter.specs.declared.unicode.Unicode.{Unicode}
use Rattle.esc_values.proofs.Clear.PlainIsClear.{is_plain as is_low, plain_is_clear}
use Rattle.unicode_visibility.specs.Characters.{is_deceiving}
use Rattle.unicode_visibility.proofs.Ranges.{low_plain}
use Rattle.screen_lines.specs.Parts.{Out, replacement, is_text, more_room, most_room, out_by, out_from, spelled_ink, spelled_text, spelling}
use Rattle.screen_lines.specs.Parts.Part.{Change, Character}
use Rattle.screen_lines.specs.Rows.{cell_parts, cells_parts, change_parts, content_parts, going_by, held_look, is_blank_content, is_hidden, leads_parts, mark_parts, seen_parts}
use Rattle.screen_lines.specs.Runs.{BeginWith, HoldsAlone, IsPlain, going_on, ink_after, is_plain_char}
use Rattle.screen_lines.specs.declared.going.Going.{Going}
use Rattle.screen_lines.specs.declared.ink.Ink.{Ink}
use Rattle.screen_lines.specs.declared.spelling.Spelling.TheVariants.{Absent, AsItIs}
use Rattle.screen_lines.proofs.Growing.{cells_more, from_more}

-- ---- the bytes of a run

pub zeros_ascii : (n : ℕ) → IsAscii (replicate n 0)
zeros_ascii zero = IsAscii-nil
zeros_ascii (suc n) = IsAscii-cons 0 (replicate n 0) (omega arith) (zeros_ascii n)

pub take_ascii : (n : ℕ) (xs : List ℕ) → IsAscii xs → IsAscii (take n xs)
take_ascii zero xs h = IsAscii-nil
take_ascii (suc n) [] h = IsAscii-nil
take_ascii (suc n) (x ∷ xs) h = IsAscii-cons x (take n xs) (h 0) (take_ascii n xs (λ i. h (suc i)))

pub plain_low : (c : ℕ) → is_plain_char c ≡ true → c < 0x80
plain_low c h = grind (arith, nat_tests)

pub plain_from : (c : ℕ) → 0x20 ≤ c → c ≤ 0x7e → is_plain_char c ≡ true
plain_from c low high = grind (arith, nat_tests)

-- the character of a cell
pub plain_is : (n : ℕ) (x : Cell) (c : ℕ) (m : Marks) (r : Option ℕ)
    → x.content ≡ content.Narrow c m → x.look ≡ n
    → IfSome r (λ b. (is_plain_char b ≡ true) × (c ≡ b))
    → IfSome r (λ b. mark_parts m.first ++ mark_parts m.second ≡ [])
    → IfSome r (λ b. IsPlain n b x)
plain_is n x c m None e l p q = tt
plain_is n x c m (Some b) e l (p, i) q = (p, (subst (HoldsAlone b) (sym e) (i, q), l))

abbrev place : Option ℕ → ℕ → Going
place h n = record { held = h; blanks = n }

-- the place after it
pub going_is : (w : Going) (r : Option ℕ) → w.blanks ≡ 0 → r ≡ w.held
    → IfSome r (λ n. w ≡ going_on n)
going_is w None e h = tt
going_is w (Some n) e h = ap (place w.held) e ∙ ap (λ o. place o 0) (sym h)

-- a cell more
pub begin_more : (n : ℕ) (bs : List ℕ) (xs : List Cell) (b : ℕ) (d : Cell) → BeginWith n bs xs
    → length bs < length xs → IsPlain n b (get_or xs (length bs) d)
    → BeginWith n (bs ++ b ∷ []) xs
begin_more n [] [] b d h less p = absurd (omega (arith, less))
begin_more n [] (x ∷ xs) b d h less p = (p, tt)
begin_more n (c ∷ bs) [] b d h less p = h
begin_more n (c ∷ bs) (x ∷ xs) b d (q, h) less p =
    (q, begin_more n bs xs b d h (omega (arith, less)) p)

pub begin_few : (n : ℕ) (bs : List ℕ) (xs : List Cell) → BeginWith n bs xs
    → length bs ≤ length xs
begin_few n [] xs h = omega arith
begin_few n (b ∷ bs) [] h = absurd h
begin_few n (b ∷ bs) (x ∷ xs) (p, h) = omega (arith, begin_few n bs xs h)

pub begin_plain : (n : ℕ) (bs : List ℕ) (xs : List Cell) → BeginWith n bs xs
    → list_all is_plain_char bs ≡ true
begin_plain n [] xs h = refl
begin_plain n (b ∷ bs) [] h = absurd h
begin_plain n (b ∷ bs) (x ∷ xs) (p, h) = rw (p.0, begin_plain n bs xs h) refl

-- ---- their parts

alone_parts : (b : ℕ) (c : Content) → HoldsAlone b c → content_parts c ≡ Character b ∷ []
alone_parts b content.Blank h = absurd h
alone_parts b content.Rest h = absurd h
alone_parts b (content.Narrow c m) (e, bare) =
    ap (λ ps. Character c ∷ ps) bare ∙ ap (λ z. Character z ∷ []) e
alone_parts b (content.Wide c m) h = absurd h

alone_seen : (b : ℕ) (c : Content) → HoldsAlone b c → is_blank_content c ≡ false
alone_seen b content.Blank h = absurd h
alone_seen b content.Rest h = absurd h
alone_seen b (content.Narrow c m) h = refl
alone_seen b (content.Wide c m) h = absurd h

alone_first : (b : ℕ) (c : Content) → HoldsAlone b c → is_rest_content c ≡ false
alone_first b content.Blank h = absurd h
alone_first b content.Rest h = absurd h
alone_first b (content.Narrow c m) h = refl
alone_first b (content.Wide c m) h = absurd h

last_of : {X : Type 0} (s t : Bool) (x y z : X) → s ≡ false → t ≡ false
    → (if s then x else if t then y else z) ≡ z
last_of true t x y z h k = absurd cc
last_of false true x y z h k = absurd cc
last_of false false x y z h k = refl

module _ (k : Known) (n b : ℕ) (x : Cell) (h : IsPlain n b x) where
  is_there : is_hidden k x ≡ false
  is_there =
      ap (λ t. t && ((x.look == 0) || same_look plain_look (known_look x.look k)))
      (alone_seen b x.content h.1.0)

  is_first : is_rest x ≡ false
  is_first = alone_first b x.content h.1.0

  no_change : change_parts k (Some n) x.look ≡ []
  no_change =
      ap (λ (t : Bool). if t then []
      else leads_parts k (Some n) x.look
      ++ Change (held_look k (Some n)) (known_look x.look k) ∷ [])
      (eq-eqb n x.look (sym h.1.1))

  plain_part : cell_parts k (going_on n) x ≡ Character b ∷ []
  plain_part =
      last_of (is_hidden k x) (is_rest x) [] [] (seen_parts k (going_on n) x) is_there is_first
      ∙ ap (λ ps. ps ++ content_parts x.content) no_change
      ∙ alone_parts b x.content h.1.0

  plain_going : going_by k (going_on n) x ≡ going_on n
  plain_going =
      last_of (is_hidden k x) (is_rest x) (record (going_on n) { blanks = 1 }) (going_on n)
      (going_on x.look) is_there is_first
      ∙ ap going_on h.1.1

run_parts : (k : Known) (n : ℕ) (bs : List ℕ) (xs : List Cell) → BeginWith n bs xs
    → cells_parts k (going_on n) xs
    ≡ map Character bs ++ cells_parts k (going_on n) (drop (length bs) xs)
run_parts k n [] xs h = refl
run_parts k n (b ∷ bs) [] h = absurd h
run_parts k n (b ∷ bs) (x ∷ xs) (p, h) =
    ap (λ ps. ps ++ cells_parts k (going_by k (going_on n) x) xs) (plain_part k n b x p)
    ∙ ap (λ w. Character b ∷ cells_parts k w xs) (plain_going k n b x p)
    ∙ ap (λ ps. Character b ∷ ps) (run_parts k n bs xs h)

-- a run more
pub run_added : (k : Known) (o q : Out) (w : Going) (n : ℕ) (bs : List ℕ) (xs : List Cell)
    → w ≡ going_on n → BeginWith n bs xs → q ≡ out_from o (map Character bs)
    → out_from q (cells_parts k w (drop (length bs) xs)) ≡ out_from o (cells_parts k w xs)
run_added k o q w n bs xs is h e =
    let v = going_on n in
    let rest = drop (length bs) xs in
    ap (λ z. out_from q (cells_parts k z rest)) is
    ∙ ap (λ z. out_from z (cells_parts k v rest)) e
    ∙ sym (from_more o (map Character bs) (cells_parts k v rest))
    ∙ ap (out_from o) (sym (run_parts k n bs xs h))
    ∙ ap (λ z. out_from o (cells_parts k z xs)) (sym is)

-- the cells from a place on
abbrev pub rest_of : List Cell → ℕ → List Cell
rest_of xs i = take (length xs - i) (drop i xs)

pub rest_length : (xs : List Cell) (i : ℕ) → length (rest_of xs i) ≡ length xs - i
rest_length xs i = ap length (take_rest xs i) ∙ length-drop i xs

rest_added : (k : Known) (p q : Out) (w v : Going) (i n : ℕ) (xs : List Cell)
    → out_from q (cells_parts k v (drop n (rest_of xs i)))
    ≡ out_from p (cells_parts k w (rest_of xs i))
    → out_from q (cells_parts k v (drop (i + n) xs)) ≡ out_from p (cells_parts k w (drop i xs))
rest_added k p q w v i n xs h =
    let is = take_rest xs i in
    ap (λ ys. out_from q (cells_parts k v ys)) (sym (drop-drop n i xs))
    ∙ ap (λ ys. out_from q (cells_parts k v (drop n ys))) (sym is)
    ∙ h
    ∙ ap (λ ys. out_from p (cells_parts k w ys)) is

-- cells more, from those of a place on
pub more_added : (k : Known) (o p q : Out) (w v : Going) (i n : ℕ) (xs : List Cell)
    → out_from q (cells_parts k v (drop n (rest_of xs i)))
    ≡ out_from p (cells_parts k w (rest_of xs i))
    → out_from p (cells_parts k w (drop i xs)) ≡ o
    → out_from q (cells_parts k v (drop (i + n) xs)) ≡ o
more_added k o p q w v i n xs h e = rest_added k p q w v i n xs h ∙ e

-- a cell, and others after it
pub some_added : (k : Known) (o p q : Out) (w v : Going) (n : ℕ) (xs : List Cell) (d : Cell)
    → 0 < length xs → p ≡ out_from o (cell_parts k w (get_or xs 0 d))
    → v ≡ going_by k w (get_or xs 0 d)
    → out_from q (cells_parts k v (drop n (rest_of xs 1)))
    ≡ out_from p (cells_parts k v (rest_of xs 1))
    → out_from q (cells_parts k v (drop (n + 1) xs)) ≡ out_from o (cells_parts k w xs)
some_added k o p q w v n xs d some e f h =
    let more : n + 1 ≡ 1 + n = omega arith in
    ap (λ i. out_from q (cells_parts k v (drop i xs))) more
    ∙ rest_added k p q v v 1 n xs h
    ∙ cells_more k o p p w v 0 xs d some e f

-- ---- their text

pub plain_spelling : (u : Unicode) (b : Option ℕ) (c : ℕ) → is_plain_char c ≡ true
    → spelling u b c ≡ AsItIs
plain_spelling u b c h =
    let low : is_low c ≡ true = grind (arith, nat_tests) in
    let other : (c == 0x7f) ≡ false = grind (arith, nat_tests) in
    let small = plain_low c h in
    let text : is_text c ≡ true =
    ap (λ t. t && not (c == 0x7f)) (plain_is_clear c low) ∙ ap not other in
    let shown : is_deceiving c ≡ false = low_plain c (omega (arith, small)) in
    ap (λ (t : Bool). if t then if is_deceiving c then replacement u b c else AsItIs else Absent)
    text
    ∙ ap (λ (t : Bool). if t then replacement u b c else AsItIs) shown

abbrev with_char : Out → ℕ → Out
with_char o c = record o {
  text = o.text ++ c ∷ [];
  ink = record o.ink { last = Some c; room = more_room o.ink.room };
}

char_added : (o : Out) (c : ℕ) → is_plain_char c ≡ true → out_by o (Character c) ≡ with_char o c
char_added o c h =
    ap (λ s. record o { text = o.text ++ spelled_text s c; ink = spelled_ink s c o.ink })
    (plain_spelling o.characters o.ink.last c h)
    ∙ ap (λ t. record (with_char o c) { text = o.text ++ t }) (encode_ascii c (plain_low c h))

pub run_text : (o : Out) (bs : List ℕ) → list_all is_plain_char bs ≡ true
    → out_from o (map Character bs)
    ≡ record o { text = o.text ++ bs; ink = ink_after o.ink bs }
run_text o [] h = ap (λ t. record o { text = t }) (sym (append-nil o.text))
run_text o (c ∷ bs) h =
    let q = and_parts (is_plain_char c) (list_all is_plain_char bs) h in
    let p = with_char o c in
    ap (λ z. out_from z (map Character bs)) (char_added o c q.0)
    ∙ run_text p bs q.1
    ∙ ap (λ t. record p { text = t; ink = ink_after p.ink bs }) (append_assoc o.text (c ∷ []) bs)

pub text_added : (o p : Out) (bs : List ℕ) → list_all is_plain_char bs ≡ true
    → p ≡ record o { text = o.text ++ bs; ink = ink_after o.ink bs }
    → p ≡ out_from o (map Character bs)
text_added o p bs h e = e ∙ sym (run_text o bs h)

-- ---- the ink after them

pub ink_more : (i j e : Ink) (n : ℕ) (bs : List ℕ) (d : ℕ) → n < length bs
    → j ≡ record i { last = Some (get_or bs n d); room = more_room i.room }
    → ink_after i (drop n bs) ≡ e → ink_after j (drop (n + 1) bs) ≡ e
ink_more i j e n bs d less is h =
    ap (λ z. ink_after z (drop (n + 1) bs)) is ∙ ap (ink_after i) (sym (drop_more bs n d less)) ∙ h

more_is : (n : ℕ) → n < most_room → more_room n ≡ n + 0x40
more_is n less = ap (λ (t : Bool). if t then n + 0x40 else n) (lt-ltb n most_room less)

abbrev quick : Bool → ℕ → ℕ → Ink
quick h c n = record { last = Some c; leads = h; room = n }

ink_quick : (l : Option ℕ) (h : Bool) (m b : ℕ) (bs : List ℕ) (d : ℕ)
    → m + 0x40 * length (b ∷ bs) ≤ most_room
    → ink_after (record { last = l; leads = h; room = m }) (b ∷ bs)
    ≡ quick h (get_or (b ∷ bs) (length bs) d) (m + 0x40 * length (b ∷ bs))
ink_quick l h m b [] d fit =
    let less : m < most_room = omega (arith, fit) in
    let one : m + 0x40 ≡ m + 0x40 * length (b ∷ []) = omega arith in
    ap (quick h b) (more_is m less ∙ one)
ink_quick l h m b (c ∷ bs) d fit =
    let less : m < most_room = omega (arith, fit) in
    let fits : (m + 0x40) + 0x40 * length (c ∷ bs) ≤ most_room = omega (arith, fit) in
    let all : (m + 0x40) + 0x40 * length (c ∷ bs) ≡ m + 0x40 * length (b ∷ c ∷ bs) = omega arith in
    ap (λ r. ink_after (quick h b r) (c ∷ bs)) (more_is m less)
    ∙ ink_quick (Some b) h (m + 0x40) c bs d fits
    ∙ ap (quick h (get_or (c ∷ bs) (length bs) d)) all

pub ink_all : (i : Ink) (bs : List ℕ) (d n : ℕ) → 0 < length bs
    → n ≡ i.room + 0x40 * length bs → n ≤ most_room
    → record i { last = Some (get_or bs (length bs - 1) d); room = n } ≡ ink_after i bs
ink_all i [] d n some is fit = absurd (omega (arith, some))
ink_all i (b ∷ bs) d n some is fit =
    let at : length (b ∷ bs) - 1 ≡ length bs = omega arith in
    ap (λ j. record i { last = Some (get_or (b ∷ bs) j d); room = n }) at
    ∙ ap (quick i.leads (get_or (b ∷ bs) (length bs) d)) is
    ∙ sym (ink_quick i.last i.leads i.room b bs d (omega (arith, is, fit)))
