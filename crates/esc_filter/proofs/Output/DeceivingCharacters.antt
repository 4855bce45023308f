-- Characters that deceive, and the values that are written for them.
use Rattle.std.proofs.Common.{◌≡◌, ℕ, zero, suc, ◌+◌, length, get_or, ◌<◌, ◌/◌, ◌%◌, ◌&&◌, ◌||◌, ◌⊎◌, inl, inr, arith, Bool, true, false, nat_lt, if◌then◌else◌, not, List, [], ◌∷◌, ◌++◌, map, Option, None, Some, refl, sym, ap, ◌∙◌, subst, append_assoc}
use Rattle.std.specs.Fmt.{digit_glyph}
use Rattle.std.specs.List.{filter, list_all, list_any}
use Rattle.std.proofs.lemmas.Bool.{and_parts, true≢false}
use Rattle.std.proofs.lemmas.Bool.Decides.{nat_tests}
use Rattle.unicode_visibility.proofs.Ranges.{low_plain}
use Rattle.unicode_visibility.specs.Characters.{digit_at, four_digits, is_deceiving, leading, number_text}
use Rattle.unicode_visibility.specs.Following.{has_stray, last_of, may_follow}
use Rattle.esc_frame.specs.Scans.{is_text_byte}
use Rattle.std.proofs.lemmas.Str.{encode_ascii}
use Rattle.esc_values.specs.Clear.{is_clear}
use Rattle.esc_actions.specs.Texts.{texts_after}
use Rattle.esc_actions.specs.Values.{Value, print, string, control, esc, csi, osc, kitty, sixel, termcap, short, enter, datum, exit}
use Rattle.esc_filter.specs.Characters.{each_in_guard, in_guard, in_return, in_values, in_values_after, replacement_values, is_return, keeps_all, keeps_characters, keeps_returns, last_after}
use Rattle.esc_actions.specs.declared.control_code.ControlCode.{ControlCode}
use Rattle.esc_actions.specs.declared.control_code.ControlCode.TheVariants.{CarriageReturn}
use Rattle.esc_filter.specs.Closing.{after_values}
use Rattle.esc_filter.specs.Pens.{pen_after}
use Rattle.esc_pen.specs.declared.pen.Pen.{Pen}
use Rattle.esc_filter.specs.declared.terminal.Terminal.{Terminal}
use Rattle.esc_filter.specs.Noted.{AreKept, Writes}
use Rattle.esc_filter.specs.declared.written.Written.{Written}
use Rattle.esc_filter.specs.Passing.{passes}
use Rattle.esc_filter.specs.Rules.{is_shown}
use Rattle.esc_normal.specs.Texts.{ends_in_string}
use Rattle.esc_filter.specs.declared.guard.Guard.{Guard}
use Rattle.esc_filter.specs.declared.returns.Returns.{Returns}
use Rattle.esc_filter.specs.declared.returns.Returns.TheVariants as way
use Rattle.esc_filter.specs.declared.unicode.Unicode.{Unicode}
use Rattle.esc_filter.specs.declared.unicode.Unicode.TheVariants.{Drop, Join, Keep, Show}

-- a value is a character or a control, or is written as it is
pub kinds : {A : Type 0} (v : Value A)
    → ((c : ℕ) × (v ≡ print c)) ⊎ (((c : ControlCode) × (v ≡ control c))
    ⊎ ((u : Guard) (b : Option ℕ) → in_guard u b v ≡ v ∷ []))
kinds (print c) = inl (c, refl)
kinds (string t) = inr (inr (λ u b. refl))
kinds (control c) = inr (inl (c, refl))
kinds (esc e) = inr (inr (λ u b. refl))
kinds (csi c) = inr (inr (λ u b. refl))
kinds (osc c) = inr (inr (λ u b. refl))
kinds (kitty i) = inr (inr (λ u b. refl))
kinds (sixel s) = inr (inr (λ u b. refl))
kinds (termcap ns) = inr (inr (λ u b. refl))
kinds (short s) = inr (inr (λ u b. refl))
kinds (enter e) = inr (inr (λ u b. refl))
kinds (datum b) = inr (inr (λ u b. refl))
kinds exit = inr (inr (λ u b. refl))

-- ---- the characters that are kept

instead_kept : {A : Type 0} (k : Unicode) (b : Option ℕ) (c : ℕ) (t : Bool)
    → keeps_characters k ≡ true
    → (if t then replacement_values {A = A} k b c else print c ∷ []) ≡ print c ∷ []
instead_kept k b c false e = refl
instead_kept Keep b c true e = refl
instead_kept Join b c true e = absurd (true≢false (sym e))
instead_kept Show b c true e = absurd (true≢false (sym e))
instead_kept Drop b c true e = absurd (true≢false (sym e))

return_is : (c : ControlCode) → is_return c ≡ true → c ≡ CarriageReturn
return_is CarriageReturn e = refl
return_is _ e = absurd (true≢false (sym e))

return_kept : {A : Type 0} (r : Returns) (c : ControlCode) (t : Bool) → is_return c ≡ t
    → keeps_returns r ≡ true
    → (if t then in_return {A = A} r else control c ∷ []) ≡ control c ∷ []
return_kept r c false is e = refl
return_kept way.Keep c true is e = ap (λ x. control x ∷ []) (sym (return_is c is))
return_kept way.Show c true is e = absurd (true≢false (sym e))
return_kept way.Drop c true is e = absurd (true≢false (sym e))

-- the values that are written for a value if all is kept
pub keep_one : {A : Type 0} (u : Guard) (b : Option ℕ) (v : Value A) → keeps_all u ≡ true
    → in_guard u b v ≡ v ∷ []
keep_one {A} u b v e = by (kinds v)
  where
    q : (keeps_characters u.characters ≡ true) × (keeps_returns u.returns ≡ true)
    q = and_parts (keeps_characters u.characters) (keeps_returns u.returns) e

    by : ((c : ℕ) × (v ≡ print c)) ⊎ (((c : ControlCode) × (v ≡ control c))
        ⊎ ((w : Guard) (l : Option ℕ) → in_guard w l v ≡ v ∷ [])) → in_guard u b v ≡ v ∷ []
    by (inl (c, is)) =
        subst (λ x. in_guard u b x ≡ x ∷ []) (sym is)
        (instead_kept u.characters b c (is_deceiving c) q.0)
    by (inr (inl (c, is))) =
        subst (λ x. in_guard u b x ≡ x ∷ []) (sym is)
        (return_kept u.returns c (is_return c) refl q.1)
    by (inr (inr f)) = f u b

-- ---- one value after another

pub last_more : {A : Type 0} (b : Option ℕ) (vs ws : List (Value A))
    → last_after b (vs ++ ws) ≡ last_after (last_after b vs) ws
last_more b [] ws = refl
last_more b (v ∷ vs) ws = last_more _ vs ws

pub in_more : {A : Type 0} (u : Guard) (b : Option ℕ) (v : Value A) (vs : List (Value A))
    → in_values_after u b (v ∷ vs)
    ≡ in_guard u b v ++ in_values_after u (last_after b (in_guard u b v)) vs
in_more u b v vs = by (keeps_all u) refl
  where
    by : (t : Bool) → keeps_all u ≡ t
        → (if t then v ∷ vs
        else in_guard u b v ++ each_in_guard u (last_after b (in_guard u b v)) vs)
        ≡ in_guard u b v
        ++ (if t then vs else each_in_guard u (last_after b (in_guard u b v)) vs)
    by true e = ap (λ ws. ws ++ vs) (sym (keep_one u b v e))
    by false e = refl

each_both : {A : Type 0} (u : Guard) (b : Option ℕ) (vs ws : List (Value A))
    → each_in_guard u b (vs ++ ws)
    ≡ each_in_guard u b vs ++ each_in_guard u (last_after b (each_in_guard u b vs)) ws
each_both u b [] ws = refl
each_both u b (v ∷ vs) ws =
    let x = in_guard u b v in
    let l = last_after b x in
    let y = each_in_guard u l vs in
    ap (λ zs. x ++ zs) (each_both u l vs ws)
    ∙ sym (append_assoc x y (each_in_guard u (last_after l y) ws))
    ∙ ap (λ k. (x ++ y) ++ each_in_guard u k ws) (sym (last_more b x y))

pub in_both : {A : Type 0} (u : Guard) (b : Option ℕ) (vs ws : List (Value A))
    → in_values_after u b (vs ++ ws)
    ≡ in_values_after u b vs ++ in_values_after u (last_after b (in_values_after u b vs)) ws
in_both u b vs ws = by (keeps_all u)
  where
    by : (t : Bool) → (if t then vs ++ ws else each_in_guard u b (vs ++ ws))
        ≡ (if t then vs else each_in_guard u b vs)
        ++ (if t then ws
        else each_in_guard u (last_after b (if t then vs else each_in_guard u b vs)) ws)
    by true = refl
    by false = each_both u b vs ws

pub in_none : {A : Type 0} (u : Guard) (b : Option ℕ) → in_values_after {A = A} u b [] ≡ []
in_none {A} u b = by (keeps_all u)
  where
    none : List (Value A)
    none = []

    by : (t : Bool) → (if t then none else none) ≡ none
    by true = refl
    by false = refl

-- nothing of nothing, filtered
pub of_nothing : {A : Type 0} (u : Guard) (admits : Value A → Bool) {vs : List (Value A)}
    → [] ≡ vs → [] ≡ in_values u (filter (passes admits) vs)
of_nothing u admits e =
    sym (in_none u None) ∙ ap (λ vs. in_values u (filter (passes admits) vs)) e

-- ---- characters that are written as they are

abbrev pub AreThemselves : Type 0 → Guard → Option ℕ → List ℕ → Type 0
AreThemselves A u b [] = Unit {0}
AreThemselves A u b (x ∷ xs) = (in_guard {A = A} u b (print x) ≡ print x ∷ [])
    × AreThemselves A u (Some x) xs

pub plain_one : {A : Type 0} (u : Guard) (b : Option ℕ) (c : ℕ) → is_deceiving c ≡ false
    → in_guard {A = A} u b (print c) ≡ print c ∷ []
plain_one u b c h = rw h refl

character_kept : {A : Type 0} (u : Guard) (b : Option ℕ) (x : ℕ) → u.characters ≡ Keep
    → in_guard {A = A} u b (print x) ≡ print x ∷ []
character_kept u b x e = instead_kept u.characters b x (is_deceiving x) (ap keeps_characters e)

-- a character that is not stray, if stray ones are shown
joined_one : {A : Type 0} (u : Guard) (b : Option ℕ) (x : ℕ) → u.characters ≡ Join
    → (is_deceiving x && not (may_follow b x)) ≡ false
    → in_guard {A = A} u b (print x) ≡ print x ∷ []
joined_one {A} u b x e h =
    ap (λ k. if is_deceiving x then replacement_values {A = A} k b x else print x ∷ []) e
    ∙ by (is_deceiving x) (may_follow b x) h
  where
    one : List (Value A)
    one = print x ∷ []

    number : List (Value A)
    number = map print (number_text x)

    by : (d f : Bool) → (d && not f) ≡ false
        → (if d then (if f then one else number) else one) ≡ one
    by true true h = refl
    by true false h = absurd cc
    by false f h = refl

pub kept_themselves : (A : Type 0) (u : Guard) (b : Option ℕ) (xs : List ℕ) → AreKept u b xs
    → AreThemselves A u b xs
kept_themselves A u b [] h = tt
kept_themselves A u b (x ∷ xs) (inl e) = (
  character_kept u b x e,
  kept_themselves A u (Some x) xs (inl e),
)
kept_themselves A u b (x ∷ xs) (inr (inl h)) =
    by (is_deceiving x) refl h (λ k. kept_themselves A u (Some x) xs (inr (inl k)))
  where
    by : (t : Bool) → is_deceiving x ≡ t → (t || list_any is_deceiving xs) ≡ false
        → (list_any is_deceiving xs ≡ false → AreThemselves A u (Some x) xs)
        → AreThemselves A u b (x ∷ xs)
    by true e h rest = absurd cc
    by false e h rest = (plain_one u b x e, rest h)
kept_themselves A u b (x ∷ xs) (inr (inr (e, h))) =
    let k = or_parts (is_deceiving x && not (may_follow b x)) (has_stray (Some x) xs) h in
    (joined_one u b x e k.0, kept_themselves A u (Some x) xs (inr (inr (e, k.1))))
  where
    or_parts : (p q : Bool) → (p || q) ≡ false → (p ≡ false) × (q ≡ false)
    or_parts true q h = absurd cc
    or_parts false q h = (refl, h)

text_low : (x : ℕ) → is_text_byte x ≡ true → x < 0xad
text_low x h = grind (arith, nat_tests)

pub text_themselves : (A : Type 0) (u : Guard) (b : Option ℕ) (xs : List ℕ)
    → list_all is_text_byte xs ≡ true → AreThemselves A u b xs
text_themselves A u b [] h = tt
text_themselves A u b (x ∷ xs) h =
    let k = and_parts (is_text_byte x) (list_all is_text_byte xs) h in
    (plain_one u b x (low_plain x (text_low x k.0)), text_themselves A u (Some x) xs k.1)

-- ---- the text of a number

abbrev pub is_ascii : ℕ → Bool
is_ascii b = nat_lt b 128

pub ascii_low : (b : ℕ) → is_ascii b ≡ true → b < 128
ascii_low b h = grind (arith, nat_tests)

digit_ascii : (d : ℕ) → d < 16 → is_ascii (digit_glyph true d) ≡ true
digit_ascii d h = grind (arith, nat_tests)

digit_clear : (d : ℕ) → d < 16 → is_clear (digit_glyph true d) ≡ true
digit_clear d h = grind (arith, nat_tests)

sixteenth : (n : ℕ) → n % 16 < 16
sixteenth n = omega arith

-- if a test holds for each hexadecimal digit, and for the other characters, it holds for the whole
-- form
module _ (t : ℕ → Bool) (digit : (d : ℕ) → d < 16 → t (digit_glyph true d) ≡ true) where
  one : (p c : ℕ) → t (digit_at p c) ≡ true
  one p c = digit (c / p % 16) (sixteenth (c / p))

  more : (b : ℕ) (xs : List ℕ) → t b ≡ true → list_all t xs ≡ true → list_all t (b ∷ xs) ≡ true
  more b xs h k = rw (h, k) refl

  after_leading : (c : ℕ) (xs : List ℕ) → list_all t xs ≡ true → list_all t (leading c ++ xs) ≡ true
  after_leading c xs h = by (nat_lt c 0x10000) (nat_lt c 0x100000)
    where
      by : (x y : Bool) → list_all t ((if x then [] else if y then digit_at 0x10000 c ∷ []
          else digit_at 0x100000 c ∷ digit_at 0x10000 c ∷ []) ++ xs) ≡ true
      by true y = h
      by false true = more (digit_at 0x10000 c) xs (one 0x10000 c) h
      by false false = more (digit_at 0x100000 c) (digit_at 0x10000 c ∷ xs) (one 0x100000 c)
          (more (digit_at 0x10000 c) xs (one 0x10000 c) h)

  all_number : (c : ℕ) → t 0x3c ≡ true → t 0x55 ≡ true → t 0x2b ≡ true → t 0x3e ≡ true
      → list_all t (number_text c) ≡ true
  unfolding number_text
  all_number c h j k l =
      let d0 = digit_glyph true (c % 16) ∷ 0x3e ∷ [] in
      let d1 = digit_at 0x10 c ∷ d0 in
      let d2 = digit_at 0x100 c ∷ d1 in
      let d3 = digit_at 0x1000 c ∷ d2 in
      let all = leading c ++ d3 in
      more 0x3c (0x55 ∷ 0x2b ∷ all) h (more 0x55 (0x2b ∷ all) j (more 0x2b all k
      (after_leading c d3
      (more (digit_at 0x1000 c) d2 (one 0x1000 c) (more (digit_at 0x100 c) d1 (one 0x100 c)
      (more (digit_at 0x10 c) d0 (one 0x10 c)
      (more (digit_glyph true (c % 16)) (0x3e ∷ []) (digit (c % 16) (sixteenth c))
      (more 0x3e [] l refl))))))))

digit_shown : (d : ℕ) → d < 16 → is_shown (digit_glyph true d) ≡ true
digit_shown d h = grind (arith, nat_tests)

pub number_shown : (c : ℕ) → list_all is_shown (number_text c) ≡ true
number_shown c = all_number is_shown digit_shown c refl refl refl refl

pub number_clear : (c : ℕ) → list_all is_clear (number_text c) ≡ true
number_clear c = all_number is_clear digit_clear c refl refl refl refl

pub number_ascii : (c : ℕ) → list_all is_ascii (number_text c) ≡ true
number_ascii c = all_number is_ascii digit_ascii c refl refl refl refl

-- ---- its text

prints_text : (A : Type 0) (f : Bool) (xs : List ℕ) → list_all is_ascii xs ≡ true
    → texts_after {A = A} f (map print xs) ≡ xs
prints_text A f [] h = refl
prints_text A f (x ∷ xs) h =
    let k = and_parts (is_ascii x) (list_all is_ascii xs) h in
    ap (λ t. t ++ texts_after {A = A} false (map print xs)) (encode_ascii x (ascii_low x k.0))
    ∙ ap (λ t. x ∷ t) (prints_text A false xs k.1)

prints_end : (A : Type 0) (f : Bool) (x : ℕ) (xs : List ℕ)
    → ends_in_string {A = A} f (map print (x ∷ xs)) ≡ false
prints_end A f x [] = refl
prints_end A f x (y ∷ xs) = prints_end A false y xs

prints_leave : (A : Type 0) (xs : List ℕ) (o : Terminal)
    → after_values {A = A} (map print xs) o ≡ o
prints_leave A [] o = refl
prints_leave A (x ∷ xs) o = prints_leave A xs o

prints_last : (A : Type 0) (b : Option ℕ) (xs : List ℕ)
    → last_after {A = A} b (map print xs) ≡ last_of b xs
prints_last A b [] = refl
prints_last A b (x ∷ xs) = prints_last A (Some x) xs

prints_pen : (A : Type 0) (xs : List ℕ) (p : Option Pen)
    → pen_after {A = A} (map print xs) p ≡ p
prints_pen A [] p = refl
prints_pen A (x ∷ xs) p = prints_pen A xs p

-- characters of ASCII were appended
writes_prints : {A : Type 0} (p q : Written A) (x : ℕ) (xs : List ℕ)
    → list_all is_ascii (x ∷ xs) ≡ true
    → q.spell.text ≡ p.spell.text ++ (x ∷ xs) → q.spell.follows_string ≡ false
    → q.left ≡ p.left → q.by_lines ≡ p.by_lines → q.guard ≡ p.guard
    → q.before ≡ last_of (Some x) xs → q.pen ≡ p.pen → Writes p (map print (x ∷ xs)) q
writes_prints {A} p q x xs h t e o b u l m = (
  t ∙ ap (λ z. p.spell.text ++ z) (sym (prints_text A p.spell.follows_string (x ∷ xs) h)),
  e ∙ sym (prints_end A p.spell.follows_string x xs),
  o ∙ sym (prints_leave A (x ∷ xs) p.left),
  b,
  u,
  l ∙ sym (prints_last A (Some x) xs),
  m ∙ sym (prints_pen A (x ∷ xs) p.pen),
)

-- the last character of the text of a number is `>`
number_last : (b : Option ℕ) (c : ℕ)
    → last_of b (leading c ++ (four_digits c ++ 0x3e ∷ [])) ≡ Some 0x3e
number_last b c = by (nat_lt c 0x10000) (nat_lt c 0x100000)
  where
    by : (x y : Bool) → last_of b ((if x then [] else if y then digit_at 0x10000 c ∷ []
        else digit_at 0x100000 c ∷ digit_at 0x10000 c ∷ []) ++ (four_digits c ++ 0x3e ∷ []))
        ≡ Some 0x3e
    by true y = refl
    by false true = refl
    by false false = refl

pub number_ends : (A : Type 0) (b : Option ℕ) (c : ℕ)
    → last_after {A = A} b (map print (number_text c)) ≡ Some 0x3e
unfolding number_text
number_ends A b c =
    prints_last A (Some 0x2b) (leading c ++ (four_digits c ++ 0x3e ∷ []))
    ∙ number_last (Some 0x2b) c

-- the text of a number was
pub writes_number : {A : Type 0} (p q : Written A) (c : ℕ)
    → q.spell.text ≡ p.spell.text ++ number_text c → q.spell.follows_string ≡ false
    → q.left ≡ p.left → q.by_lines ≡ p.by_lines → q.guard ≡ p.guard
    → q.before ≡ Some 0x3e → q.pen ≡ p.pen → Writes p (map print (number_text c)) q
unfolding number_text
writes_number p q c t e o b u l m =
    writes_prints p q 0x3c (0x55 ∷ 0x2b ∷ (leading c ++ (four_digits c ++ 0x3e ∷ [])))
    (number_ascii c) t e o b u (l ∙ sym (number_last (Some 0x2b) c)) m

-- the last of some bytes
pub last_at : (b : Option ℕ) (xs : List ℕ) (n : ℕ) → length xs ≡ n + 1
    → last_of b xs ≡ Some (get_or xs n 0)
last_at b [] n e = absurd (omega (arith, e))
last_at b (x ∷ []) zero e = refl
last_at b (x ∷ []) (suc n) e = absurd (omega (arith, e))
last_at b (x ∷ y ∷ xs) zero e = absurd (omega (arith, e))
last_at b (x ∷ y ∷ xs) (suc n) e = last_at (Some x) (y ∷ xs) n (omega (arith, e))
