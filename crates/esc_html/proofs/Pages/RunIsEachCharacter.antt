-- A run of characters at once has the same effect on a page as each of them, one after another.
use Rattle.std.proofs.Common.{ℕ, zero, suc, ◌≡◌, ◌≤◌, ◌<◌, ◌+◌, ◌==◌, ◌&&◌, Bool, true, false, not, inl, inr, List, [], ◌∷◌, ◌++◌, length, map, take, drop, get_or, Some, chars, Result, Ok, Err, OnOk, OnErr, MatchResult, refl, ap, sym, ◌∙◌, subst, append_assoc, arith}
use Rattle.std.specs.Char.{encode_utf8}
use Rattle.std.specs.List.{FoldsTo, filter, flat_map, list_all}
use Rattle.std.specs.Str.{IsAscii, IsUtf8, encode_utf8_all}
use Rattle.std.proofs.lemmas.Bool.{and_parts, cases_Bool, false_from_ne_true, true≢false}
use Rattle.std.proofs.lemmas.Bool.Decides.{nat_tests}
use Rattle.std.proofs.lemmas.Grind.{flat_map-append}
use Rattle.std.proofs.lemmas.List.{append-nil}
use Rattle.std.proofs.lemmas.List.Elements.{filter-append}
use Rattle.std.proofs.lemmas.Str.{IsUtf8-from_ascii, encode_ascii, encodes-chars, inside_one, len_utf8_bounds, length-encode}
use Rattle.std.proofs.lemmas.Str.Ascii.{IsAscii-cons, IsAscii-nil}
use Rattle.memchr.specs.Find.{is_byte, IsFirstByte}
use Rattle.esc_actions.specs.declared.action.Action.TheVariants as action
use Rattle.esc_frame.specs.Scans.{is_text_byte}
use Rattle.esc_values.specs.Clear.{is_clear}
use Rattle.esc_html.specs.Characters.{is_bare, is_character}
use Rattle.esc_html.specs.Fed.{Adds, Takes, is_visible, state_of, text_of, with_text}
use Rattle.esc_html.specs.Marks.{ends_line, print_step, shows}
use Rattle.esc_html.specs.Pages.{after_character, before_character, opening_tags, with_tags}
use Rattle.esc_html.specs.PageParts.{escape_text, html_text, page_part_text, text}
use Rattle.esc_html.specs.declared.page.Page.{Page}
use Rattle.esc_html.specs.declared.tags.Tags.TheVariants.{Open}
use Rattle.esc_html.proofs.Pages.ValuesOfPage.{adds_nothing}
use Rattle.esc_html.proofs.Texts.NoNoncharacters.{low_character, stays}

-- ---- DEL in a run

pub visible_all : (x : List ℕ)
    → ((k : ℕ) → 0 ≤ k → k < length x → is_byte 0x7f (get_or x k 0) ≡ true → ⊥)
    → filter is_visible x ≡ x
visible_all [] h = refl
visible_all (b ∷ x) h =
    rw (false_from_ne_true (is_byte 0x7f b) (h 0 (omega arith) (omega arith)))
    (ap (λ y. b ∷ y) (visible_all x (λ k l m. h (suc k) (omega arith) (omega (arith, m)))))

visible_at : (x : List ℕ) (n : ℕ) → n < length x
    → ((k : ℕ) → 0 ≤ k → k < n → is_byte 0x7f (get_or x k 0) ≡ true → ⊥)
    → is_byte 0x7f (get_or x n 0) ≡ true
    → filter is_visible x ≡ take n x ++ filter is_visible (drop (n + 1) x)
visible_at [] n l h e = absurd (omega (arith, l))
visible_at (b ∷ x) zero l h e = rw e refl
visible_at (b ∷ x) (suc n) l h e =
    rw (false_from_ne_true (is_byte 0x7f b) (h 0 (omega arith) (omega arith)))
    (ap (λ y. b ∷ y) (visible_at x n (omega (arith, l))
    (λ k i m. h (suc k) (omega arith) (omega (arith, m))) e)
    ∙ ap (λ k. b ∷ (take n x ++ filter is_visible (drop k (b ∷ x)))) (sym (more n)))
  where
    more : (n : ℕ) → suc n + 1 ≡ suc (n + 1)
    more n = omega arith

pub del_small : (b : ℕ) → is_byte 0x7f b ≡ true → b < 128
del_small b h = grind (arith, nat_tests)

-- ---- runs that are written as they are

off : (b : Bool) → not b ≡ true → b ≡ false
off true h = absurd (true≢false (sym h))
off false h = refl

bare_byte : (b : ℕ) → is_bare b ≡ true → (is_visible b ≡ true) × (escape_text b ≡ b ∷ [])
bare_byte b h =
    let one = and_parts (not (b == 0x7f))
    (not (b == 0x26) && (not (b == 0x3c) && not (b == 0x3e))) h in
    let two = and_parts (not (b == 0x26)) (not (b == 0x3c) && not (b == 0x3e)) one.1 in
    let three = and_parts (not (b == 0x3c)) (not (b == 0x3e)) two.1 in
    (one.0, rw (off (b == 0x26) two.0, off (b == 0x3c) three.0, off (b == 0x3e) three.1) refl)

pub bare_visible : (x : List ℕ) → list_all is_bare x ≡ true → filter is_visible x ≡ x
bare_visible [] h = refl
bare_visible (b ∷ x) h =
    let k = and_parts (is_bare b) (list_all is_bare x) h in
    rw (bare_byte b k.0).0 (ap (λ y. b ∷ y) (bare_visible x k.1))

pub bare_text : (x : List ℕ) → list_all is_bare x ≡ true → flat_map escape_text x ≡ x
bare_text [] h = refl
bare_text (b ∷ x) h =
    let k = and_parts (is_bare b) (list_all is_bare x) h in
    ap (λ y. y ++ flat_map escape_text x) (bare_byte b k.0).1
    ∙ ap (λ y. b ∷ y) (bare_text x k.1)

-- ---- text after text

pub text_more : {A : Type 0} (p : Page A) (s t : List ℕ)
    → with_text (with_text p s) t ≡ with_text p (s ++ t)
text_more p [] t = refl
text_more p (b ∷ s) [] = ap (with_text p) (sym (append-nil (b ∷ s)))
text_more p (b ∷ s) (c ∷ t) =
    let o = html_text (opening_tags (state_of p)) in
    let one = flat_map escape_text (b ∷ s) in
    let two = flat_map escape_text (c ∷ t) in
    ap (λ x. record p { html = x; tags = Open })
    (append_assoc p.html (o ++ one) two ∙ ap (λ x. p.html ++ x) (append_assoc o one two
    ∙ ap (λ x. o ++ x) (sym (flat_map-append escape_text (b ∷ s) (c ∷ t)))))

-- up to the next DEL, and from there on
pub text_next : {A : Type 0} (p q want : Page A) (rest run later : List ℕ) (at : ℕ)
    → IsFirstByte (is_byte 0x7f) rest (Some at) → q ≡ with_text p run → run ≡ take at rest
    → later ≡ drop (at + 1) rest → with_text p (filter is_visible rest) ≡ want
    → with_text q (filter is_visible later) ≡ want
text_next p q want rest run later at (n, e) i j k h =
    ap (λ x. with_text x (filter is_visible later)) (i ∙ ap (with_text p) j)
    ∙ text_more p (take at rest) (filter is_visible later)
    ∙ ap (λ x. with_text p (take at rest ++ filter is_visible x)) k
    ∙ ap (with_text p) (sym (visible_at rest at n.high n.before e)) ∙ h

-- ---- character by character

shown_text : {A : Type 0} (p : Page A) (t : List ℕ) → 0 < length t
    → text_of (with_text p t) ≡ p.html ++ html_text (opening_tags (state_of p) ++ text t ∷ [])
shown_text p [] l = absurd (omega (arith, l))
shown_text p (b ∷ t) l =
    let o = opening_tags (state_of p) in
    ap (λ x. p.html ++ x) (ap (λ x. html_text o ++ x)
    (sym (append-nil (flat_map escape_text (b ∷ t))))
    ∙ sym (flat_map-append page_part_text o (text (b ∷ t) ∷ [])))

shown_state : {A : Type 0} (p : Page A) (t : List ℕ) → 0 < length t
    → state_of (with_text p t) ≡ with_tags (state_of p) Open
shown_state p [] l = absurd (omega (arith, l))
shown_state p (b ∷ t) l = refl

same_layout : {A : Type 0} (p : Page A) (t : List ℕ) → (with_text p t).layout ≡ p.layout
same_layout p [] = refl
same_layout p (b ∷ t) = refl

shown_added : {A : Type 0} (p : Page A) (c : ℕ) → 0 < length (encode_utf8 c)
    → ends_line p.layout.per_line c ≡ false → Adds p (shows c) (with_text p (encode_utf8 c))
shown_added p c l e =
    let t = encode_utf8 c in
    record {
      text = shown_text p t l ∙ ap (λ b. p.html ++ html_text
          (before_character b (state_of p) ++ text t ∷ [])) (sym e);
      state = shown_state p t l ∙ ap (λ b. after_character b (state_of p)) (sym e);
      layout = same_layout p t;
    }

clear_stays : (l : Bool) (c : ℕ) → is_clear c ≡ true → ends_line l c ≡ false
clear_stays true c h = grind (arith, nat_tests)
clear_stays false c h = refl

some_bytes : (c : ℕ) → 0 < length (encode_utf8 c)
some_bytes c = omega (arith, length-encode c, (len_utf8_bounds c).0)

visible_char : (c : ℕ) → is_byte 0x7f c ≡ false → filter is_visible (encode_utf8 c) ≡ encode_utf8 c
visible_char c h =
    visible_all (encode_utf8 c) (λ k l m p.
    let low : get_or (encode_utf8 c) k 0 < 128 = grind (arith, nat_tests) in
    let same = inside_one c [] (encode_utf8 c) k (sym (append-nil (encode_utf8 c))) m low in
    true≢false (sym p ∙ ap (is_byte 0x7f) (sym same) ∙ h))

deleted : (c : ℕ) → is_byte 0x7f c ≡ true → filter is_visible (encode_utf8 c) ≡ []
deleted c h =
    let low : c < 128 = grind (arith, nat_tests) in
    ap (filter is_visible) (encode_ascii c low) ∙ rw h refl

char_added : {A : Type 0} (p : Page A) (c : ℕ) → is_clear c ≡ true → is_character c ≡ true
    → Adds p (print_step c) (with_text p (filter is_visible (encode_utf8 c)))
char_added p c h k =
    elim (cases_Bool (is_byte 0x7f c)) [
      | inl held ↦ rw (held, deleted c held) (adds_nothing p)
      | inr failed ↦ rw (failed, visible_char c failed)
          (subst (λ d. Adds p (shows d) (with_text p (encode_utf8 c))) (sym (stays c k))
          (shown_added p c (some_bytes c) (clear_stays p.layout.per_line c h)))
    ]

run_added : {A : Type 0} (cs : List ℕ) (p : Page A) → list_all is_clear cs ≡ true
    → list_all is_character cs ≡ true
    → FoldsTo Takes p (map action.Print cs) (with_text p (filter is_visible (encode_utf8_all cs)))
run_added [] p h s = refl
run_added (c ∷ cs) p h s =
    let k = and_parts (is_clear c) (list_all is_clear cs) h in
    let m = and_parts (is_character c) (list_all is_character cs) s in
    let one = filter is_visible (encode_utf8 c) in
    let j = with_text p one in (
      j,
      char_added p c k.0 m.0,
      subst (λ q. FoldsTo Takes j (map action.Print cs) q)
          (text_more p one (filter is_visible (encode_utf8_all cs))
          ∙ ap (with_text p) (sym (filter-append is_visible (encode_utf8 c) (encode_utf8_all cs))))
          (run_added cs j k.1 m.1),
    )

-- ---- runs

run_is : {A : Type 0} (cs t : List ℕ) (p q : Page A) → list_all is_clear cs ≡ true
    → list_all is_character cs ≡ true → encode_utf8_all cs ≡ t
    → q ≡ with_text p (filter is_visible t)
    → FoldsTo Takes p (map action.Print cs) q
run_is cs t p q h s e i =
    subst (λ x. FoldsTo Takes p (map action.Print cs) x)
    (ap (λ x. with_text p (filter is_visible x)) e ∙ sym i) (run_added cs p h s)

pub chars_taken : {A : Type 0} (t : List ℕ) (p q : Page A) → IsUtf8 t
    → list_all is_clear (chars t) ≡ true → list_all is_character (chars t) ≡ true
    → q ≡ with_text p (filter is_visible t)
    → FoldsTo Takes p (map action.Print (chars t)) q
chars_taken t p q u h s i = run_is (chars t) t p q h s (encodes-chars t u) i

byte_clear : (b : ℕ) → is_text_byte b ≡ true → is_clear b ≡ true
byte_clear b h = grind (arith, nat_tests)

byte_small : (b : ℕ) → is_text_byte b ≡ true → b < 128
byte_small b h = grind (arith, nat_tests)

bytes_clear : (x : List ℕ) → list_all is_text_byte x ≡ true → list_all is_clear x ≡ true
bytes_clear [] h = refl
bytes_clear (b ∷ x) h =
    let k = and_parts (is_text_byte b) (list_all is_text_byte x) h in
    rw (byte_clear b k.0, bytes_clear x k.1) refl

bytes_characters : (x : List ℕ) → list_all is_text_byte x ≡ true
    → list_all is_character x ≡ true
bytes_characters [] h = refl
bytes_characters (b ∷ x) h =
    let k = and_parts (is_text_byte b) (list_all is_text_byte x) h in
    let small = byte_small b k.0 in
    rw (low_character b (omega (arith, small)), bytes_characters x k.1) refl

bytes_encoded : (x : List ℕ) → list_all is_text_byte x ≡ true → encode_utf8_all x ≡ x
bytes_encoded [] h = refl
bytes_encoded (b ∷ x) h =
    let k = and_parts (is_text_byte b) (list_all is_text_byte x) h in
    rw (encode_ascii b (byte_small b k.0), bytes_encoded x k.1) refl

pub bytes_taken : {A : Type 0} (x : List ℕ) (p q : Page A) → list_all is_text_byte x ≡ true
    → q ≡ with_text p (filter is_visible x) → FoldsTo Takes p (map action.Print x) q
bytes_taken x p q h i =
    run_is x x p q (bytes_clear x h) (bytes_characters x h) (bytes_encoded x h) i

bytes_ascii : (x : List ℕ) → list_all is_text_byte x ≡ true → IsAscii x
bytes_ascii [] h = IsAscii-nil
bytes_ascii (b ∷ x) h =
    let k = and_parts (is_text_byte b) (list_all is_text_byte x) h in
    IsAscii-cons b x (byte_small b k.0) (bytes_ascii x k.1)

pub bytes_utf8 : (x : List ℕ) → list_all is_text_byte x ≡ true → IsUtf8 x
bytes_utf8 x h = IsUtf8-from_ascii x (bytes_ascii x h)

-- ---- results

pub ok_same : {X E T : Type 0} (r : Result X E) (a b c : T) → OnOk r (a ≡ b) → b ≡ c
    → OnOk r (a ≡ c)
ok_same (Ok x) a b c h k = h ∙ k
ok_same (Err e) a b c h k = tt

pub ok_first : {X E : Type 0} (P Q : Type 0) (r : Result X E) → OnOk r (P × Q) → OnOk r P
ok_first P Q (Ok x) h = h.0
ok_first P Q (Err e) h = tt

pub received : {E : Type 0} (X Y P Q : Type 0) (r : Result (Unit {0}) E) → (X → Y) → (P → Q)
    → OnOk r X → OnErr r P → MatchResult r (λ _. Y) (λ _. Q)
received X Y P Q (Ok t) f k x p = f x
received X Y P Q (Err e) f k x p = k p
