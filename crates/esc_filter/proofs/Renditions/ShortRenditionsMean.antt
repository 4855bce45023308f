-- Renditions of one number, and colours of the palette: the meaning of their texts, and the values
-- that are written for it.
use Rattle.std.proofs.Common.{ℕ, suc, pos, ◌≡◌, ◌+◌, ◌-◌, ◌*◌, ◌/◌, ◌%◌, get_or, ◌<◌, ◌≤◌, ◌^◌, ◌==◌, length, drop, take, Bool, true, false, not, ◌&&◌, ◌||◌, List, [], ◌∷◌, ◌++◌, codes, Option, None, inl, inr, arith, refl, ap, sym, ◌∙◌, subst, append-nil, lit≤}
use Rattle.std.specs.Prelude.{nat_eq, nat_lt}
use Rattle.std.specs.Char.{encode_utf8}
use Rattle.std.specs.Cmp.Lexicographic.{pointwise, same_text}
use Rattle.std.specs.Fmt.{decimal}
use Rattle.std.specs.List.{list_all, prefix_len}
use Rattle.std.proofs.Math.Seq.{take-add}
use Rattle.std.proofs.lemmas.Bool.{and_parts}
use Rattle.std.proofs.lemmas.Bool.Decides.{nat_tests}
use Rattle.std.proofs.lemmas.List.{take_all}
use Rattle.std.proofs.lemmas.List.Folds.{list_all-append}
use Rattle.std.proofs.lemmas.Str.{encode_ascii}
use Rattle.esc_values.specs.Params.{after_private_prefix, csi_params, capped_at_i64, is_csi_body, is_csi_parameter, is_digit, is_private_prefix}
use Rattle.esc_values.specs.declared.csi_param.CsiParam.{CsiParam}
use Rattle.esc_values.specs.declared.csi_param.CsiParam.TheVariants.{Integer, P}
use Rattle.esc_values.proofs.Numbers.AtMostThreeDigits.{decimal_one, decimal_two}
use Rattle.esc_sequences.specs.Csis.{CsiValue, csi_of, csi_text, csi_value, unspecified}
use Rattle.esc_sequences.proofs.ParamsText.{number_all, number_is}
use Rattle.esc_frame.specs.Bodies.{has_more_csi_params, kept_csi_params}
use Rattle.esc_frame.specs.Events.Event.{CsiDispatch}
use Rattle.esc_frame.specs.Leads.Unfinished.{Ground, InCsi}
use Rattle.esc_frame.specs.Machine.Moves.{after_all, events_all}
use Rattle.esc_frame.specs.Classes.{without_noise}
use Rattle.esc_frame.specs.Scans.{is_body_byte}
use Rattle.esc_frame.specs.Segments.{csi_events}
use Rattle.esc_frame.specs.Segments.Opener.{Long}
use Rattle.esc_frame.proofs.ByteRuns.CsiRuns.{body_quiet, body_strip, csi_opens, final_by}
use Rattle.esc_frame.proofs.Emits.EventsAreTheCuts.{after_append, events_append}
use Rattle.esc_normal.proofs.LoneNumbers.{lone_number}
use Rattle.esc_write.specs.Plain.{last_text}
use Rattle.esc_write.proofs.ShortNumbers.{last_one, last_two, last_three}
use Rattle.esc_filter.specs.Closing.{after_sequence, turned_terminal}
use Rattle.esc_filter.specs.declared.terminal.Terminal.{Terminal}
use Rattle.esc_filter.specs.Lines.{IsNumber, IsShortRendition, is_line_feed, is_return}
use Rattle.esc_filter.specs.Rules.{is_plain_param, is_rendition}
use Rattle.esc_filter.proofs.GivingBack.RenditionsAfterSequence.{first_turns, large_unnamed, lone_turns, plain_lit}
use Rattle.esc_filter.proofs.Output.RunsOfText.{all_more}
use Rattle.esc_filter.proofs.Renditions.SequencesFromParameters.{renditions_pass}

-- a byte of ASCII that ends no line
abbrev pub is_inner : ℕ → Bool
is_inner b = nat_lt b 128 && not (is_line_feed b || is_return b)

-- ---- the body of a sequence

parameter_in_body : (b : ℕ) → is_csi_parameter b ≡ true → is_body_byte b ≡ true
parameter_in_body b h = grind (arith, nat_tests)

parameter_inner : (b : ℕ) → is_csi_parameter b ≡ true → is_inner b ≡ true
parameter_inner b h = grind (arith, nat_tests)

digit_parameter : (b : ℕ) → is_digit b ≡ true → is_csi_parameter b ≡ true
digit_parameter b h = grind (arith, nat_tests)

no_prefix : (b : ℕ) → is_csi_parameter b ≡ true → is_private_prefix b ≡ false
no_prefix b h = grind (arith, nat_tests)

unprefixed : (y : List ℕ) → list_all is_csi_parameter y ≡ true → after_private_prefix y ≡ y
unprefixed [] h = refl
unprefixed (b ∷ y) h =
    rw (no_prefix b (and_parts (is_csi_parameter b) (list_all is_csi_parameter y) h).0) refl

all_dropped : (p : ℕ → Bool) (y : List ℕ) → list_all p y ≡ true → drop (prefix_len p y) y ≡ []
all_dropped p [] h = refl
all_dropped p (b ∷ y) h =
    let q = and_parts (p b) (list_all p y) h in
    let more : 1 + prefix_len p y ≡ suc (prefix_len p y) = omega arith in
    rw (q.0, more) (all_dropped p y q.1)

form : (y : List ℕ) → list_all is_csi_parameter y ≡ true → is_csi_body y ≡ true
unfolding is_csi_body
form y h = rw (unprefixed y h, all_dropped is_csi_parameter y h) refl

dispatched : (y : List ℕ) (es : List CsiParam) → list_all is_csi_parameter y ≡ true
    → csi_params y ≡ es → length es ≤ 256
    → csi_events y 0x6d ≡ CsiDispatch es false 0x6d ∷ []
unfolding kept_csi_params has_more_csi_params
dispatched y es h is few =
    let more : nat_lt 256 (length es) ≡ false = grind (arith, nat_tests) in
    rw (form y h, is, take_all 256 es few, more) refl

-- ---- the facts about a rendition that is written as it came, after which renditions are on, or
-- not

pub record Shade (x : List ℕ) (b : Bool) : Type 0 where
  pub value : CsiValue
  pub params : List CsiParam
  pub ground : after_all Ground x ≡ Ground
  pub events : (limit : Option ℕ) → events_all limit Ground x ≡ CsiDispatch params false 0x6d ∷ []
  pub one : csi_of params false 0x6d ≡ value ∷ []
  pub text : csi_text value ≡ x
  pub rendition : is_rendition value ≡ true
  pub turns : (t : Terminal) → after_sequence value t ≡ turned_terminal b t
  pub inner : list_all is_inner x ≡ true

-- one with the body y
module _ (y : List ℕ) (es : List CsiParam) (bytes : list_all is_csi_parameter y ≡ true)
    (is : csi_params y ≡ es) (few : length es ≤ 256) where
  abbrev whole : List ℕ
  whole = 0x1b ∷ 0x5b ∷ (y ++ 0x6d ∷ [])

  abbrev rest : List ℕ
  rest = y ++ 0x6d ∷ []

  in_body : list_all is_body_byte y ≡ true
  in_body = all_more is_csi_parameter is_body_byte parameter_in_body y bytes

  alone : without_noise y ≡ y
  alone = body_strip [] y in_body

  moves : (limit : Option ℕ) → (after_all Ground whole ≡ Ground)
      × (events_all limit Ground whole ≡ CsiDispatch es false 0x6d ∷ [])
  moves limit =
      let o = csi_opens limit (0x1b ∷ 0x5b ∷ []) (omega arith) refl refl in
      let q = body_quiet limit (Long []) [] y in_body in
      let f = final_by None (Long []) y 0x6d (lit≤ tt) (lit≤ tt) in
      let g = final_by limit (Long []) y 0x6d (lit≤ tt) (lit≤ tt) in (
        after_append Ground (0x1b ∷ 0x5b ∷ []) rest ∙ ap (λ v. after_all v rest) o.0
            ∙ after_append (InCsi (Long []) []) y (0x6d ∷ [])
            ∙ ap (λ v. after_all v (0x6d ∷ [])) q.0 ∙ ap (λ m. m.0) f,
        events_append limit Ground (0x1b ∷ 0x5b ∷ []) rest
            ∙ ap (λ es. es ++ events_all limit (after_all Ground (0x1b ∷ 0x5b ∷ [])) rest) o.1
            ∙ ap (λ v. events_all limit v rest) o.0
            ∙ events_append limit (InCsi (Long []) []) y (0x6d ∷ [])
            ∙ ap (λ es. es ++ events_all limit (after_all (InCsi (Long []) []) y) (0x6d ∷ [])) q.1
            ∙ ap (λ v. events_all limit v (0x6d ∷ [])) q.0
            ∙ append-nil _ ∙ ap (λ m. m.1) g ∙ ap (λ z. csi_events z 0x6d) alone
            ∙ dispatched y es bytes is few,
      )

  inside : list_all is_inner whole ≡ true
  inside =
      rw (
        list_all-append is_inner y (0x6d ∷ []),
        all_more is_csi_parameter is_inner parameter_inner y bytes,
      ) refl

  shade : (v : CsiValue) (b : Bool) → csi_of es false 0x6d ≡ v ∷ [] → csi_text v ≡ whole
      → list_all is_plain_param es ≡ true
      → ((t : Terminal) → after_sequence v t ≡ turned_terminal b t) → Shade whole b
  shade v b one text plain turns =
      let pass : list_all is_rendition (v ∷ []) ≡ true =
      subst (λ vs. list_all is_rendition vs ≡ true) one (renditions_pass es 0x6d refl plain) in
      record {
        value = v;
        params = es;
        ground = (moves None).0;
        events = λ limit. (moves limit).1;
        one = one;
        text = text;
        rendition = (and_parts (is_rendition v) true pass).0;
        turns = turns;
        inner = inside;
      }

-- ---- numbers

small : (n : ℕ) → n < 1000 → n < 2 ^ 64
small n h = omega (arith, h)

number_bytes : (n : ℕ) → n < 1000 → list_all is_csi_parameter (decimal n) ≡ true
number_bytes n h = number_all is_csi_parameter digit_parameter n (small n h)

number_params : (n : ℕ) → n < 1000 → csi_params (decimal n) ≡ Integer (pos n) ∷ []
number_params n h =
    let same : capped_at_i64 n ≡ n = omega (arith, h) in
    ap csi_params (sym (append-nil (decimal n)))
    ∙ subst (λ k. csi_params (decimal k ++ []) ≡ Integer (pos k) ∷ []) same (number_is n [] refl)

-- a rendition of one number
lone : (n : ℕ) → n < 1000 → Shade (0x1b ∷ 0x5b ∷ last_text n 0x6d) (not (n == 0))
lone n h =
    let (v, one, turns, pens) = lone_turns (Integer (pos n) ∷ []) n refl in
    let (c, same, text) = lone_number {A = Unit {0}} (pos n) false 0x6d in
    let is : csi_value c ≡ v = head_same (sym same ∙ one) in
    shade (decimal n) (Integer (pos n) ∷ []) (number_bytes n h) (number_params n h)
    (omega arith) v (not (n == 0)) one
    (ap csi_text (sym is) ∙ text ∙ ap (λ t. 0x1b ∷ 0x5b ∷ (t ++ encode_utf8 0x6d))
    (append-nil (decimal n)) ∙ ap (λ t. 0x1b ∷ 0x5b ∷ (decimal n ++ t))
    (encode_ascii 0x6d (lit≤ tt))) refl turns
  where
    head_same : {x z : CsiValue} → x ∷ [] ≡ z ∷ [] → x ≡ z
    head_same e = cc

-- a colour of the palette
indexed : (k n : ℕ) (t : List ℕ) → 24 < k → n < 1000 → decimal k ≡ t
    → list_all is_csi_parameter (t ++ 0x3b ∷ 0x35 ∷ 0x3b ∷ decimal n) ≡ true
    → csi_params (t ++ 0x3b ∷ 0x35 ∷ 0x3b ∷ decimal n)
    ≡ Integer (pos k) ∷ P 0x3b ∷ Integer (pos 5) ∷ P 0x3b ∷ Integer (pos n) ∷ []
    → Shade (0x1b ∷ 0x5b ∷ ((t ++ 0x3b ∷ 0x35 ∷ 0x3b ∷ decimal n) ++ 0x6d ∷ [])) true
indexed k n t high h first bytes is =
    let es = P 0x3b ∷ Integer (pos 5) ∷ P 0x3b ∷ Integer (pos n) ∷ [] in
    let (v, one, turns, pens) = first_turns (Integer (pos k) ∷ es) k (es, refl) high refl in
    let none = large_unnamed k es high in
    shade (t ++ 0x3b ∷ 0x35 ∷ 0x3b ∷ decimal n) (Integer (pos k) ∷ es) bytes is (omega arith)
    (unspecified (Integer (pos k) ∷ es) false 0x6d) true none text refl
    (plain_lit (Integer (pos k) ∷ es) refl)
  where
    text : csi_text (unspecified (Integer (pos k) ∷ P 0x3b ∷ Integer (pos 5) ∷ P 0x3b
        ∷ Integer (pos n) ∷ []) false 0x6d)
        ≡ 0x1b ∷ 0x5b ∷ ((t ++ 0x3b ∷ 0x35 ∷ 0x3b ∷ decimal n) ++ 0x6d ∷ [])
    text =
        rw (
          first,
          decimal_one 5 (lit≤ tt),
          encode_ascii 0x3b (lit≤ tt),
          encode_ascii 0x6d (lit≤ tt),
          append-nil (decimal n),
        ) refl

colour : (n : ℕ) → n < 1000
    → Shade (0x1b ∷ 0x5b ∷ (codes "38;5;" ++ last_text n 0x6d)) true
colour n h =
    indexed 38 n (0x33 ∷ 0x38 ∷ []) (lit≤ tt) h (decimal_two 38 (lit≤ tt) (lit≤ tt))
    (number_bytes n h)
    (ap (λ z. Integer (pos 38) ∷ P 0x3b ∷ Integer (pos 5) ∷ P 0x3b ∷ z) (number_params n h))

background : (n : ℕ) → n < 1000
    → Shade (0x1b ∷ 0x5b ∷ (codes "48;5;" ++ last_text n 0x6d)) true
background n h =
    indexed 48 n (0x34 ∷ 0x38 ∷ []) (lit≤ tt) h (decimal_two 48 (lit≤ tt) (lit≤ tt))
    (number_bytes n h)
    (ap (λ z. Integer (pos 48) ∷ P 0x3b ∷ Integer (pos 5) ∷ P 0x3b ∷ z) (number_params n h))

-- ---- numbers as they are read

zero : (a n : ℕ) → a ≡ 48 + n → (t : Bool) → (n == 0) ≡ t → nat_eq a 48 ≡ t
zero a n e true h = grind (arith, nat_tests)
zero a n e false h = grind (arith, nat_tests)

some : (n : ℕ) → 10 ≤ n → true ≡ not (n == 0)
some n h = let e : (n == 0) ≡ false = grind (arith, nat_tests) in rw e refl

pub one_digit : (s : List ℕ) → 4 ≤ length s → 48 ≤ get_or s 0 0 → get_or s 0 0 ≤ 57
    → get_or s 1 0 ≡ 109 → IsNumber (take 2 s) (not (nat_eq (get_or s 0 0) 48))
one_digit [] l _ _ _ = absurd (omega arith)
one_digit (a ∷ []) l _ _ _ = absurd (omega arith)
one_digit (a ∷ b ∷ s) l low high last =
    let n = a - 48 in
    let is : a ≡ 48 + n = omega arith in (
      n,
      omega (arith, high),
      ap (λ x. x ∷ b ∷ []) is ∙ ap (λ y. (48 + n) ∷ y ∷ []) last
          ∙ sym (last_one n 109 (omega (arith, high))),
      ap not (zero a n is (n == 0) refl),
    )

pub two_digits : (s : List ℕ) → 4 ≤ length s → 49 ≤ get_or s 0 0 → get_or s 0 0 ≤ 57
    → 48 ≤ get_or s 1 0 → get_or s 1 0 ≤ 57 → get_or s 2 0 ≡ 109 → IsNumber (take 3 s) true
two_digits [] l _ _ _ _ _ = absurd (omega arith)
two_digits (a ∷ []) l _ _ _ _ _ = absurd (omega arith)
two_digits (a ∷ b ∷ []) l _ _ _ _ _ = absurd (omega arith)
two_digits (a ∷ b ∷ c ∷ s) l low high from to last =
    let n = 10 * (a - 48) + (b - 48) in
    let first : a ≡ 48 + n / 10 = omega arith in
    let second : b ≡ 48 + n % 10 = omega arith in (
      n,
      omega arith,
      ap (λ x. x ∷ b ∷ c ∷ []) first ∙ ap (λ x. (48 + n / 10) ∷ x ∷ c ∷ []) second
          ∙ ap (λ x. (48 + n / 10) ∷ (48 + n % 10) ∷ x ∷ []) last
          ∙ sym (last_two n 109 (omega arith) (omega arith)),
      some n (omega arith),
    )

pub three_digits : (s : List ℕ) → 4 ≤ length s → 49 ≤ get_or s 0 0 → get_or s 0 0 ≤ 57
    → 48 ≤ get_or s 1 0 → get_or s 1 0 ≤ 57 → 48 ≤ get_or s 2 0 → get_or s 2 0 ≤ 57
    → get_or s 3 0 ≡ 109 → IsNumber (take 4 s) true
three_digits [] l _ _ _ _ _ _ _ = absurd (omega arith)
three_digits (a ∷ []) l _ _ _ _ _ _ _ = absurd (omega arith)
three_digits (a ∷ b ∷ []) l _ _ _ _ _ _ _ = absurd (omega arith)
three_digits (a ∷ b ∷ c ∷ []) l _ _ _ _ _ _ _ = absurd (omega arith)
three_digits (a ∷ b ∷ c ∷ d ∷ s) l low high from to least most last =
    let n = 100 * (a - 48) + 10 * (b - 48) + (c - 48) in
    let first : a ≡ 48 + n / 100 = omega arith in
    let second : b ≡ 48 + n / 10 % 10 = omega arith in
    let third : c ≡ 48 + n % 10 = omega arith in (
      n,
      omega arith,
      ap (λ x. x ∷ b ∷ c ∷ d ∷ []) first ∙ ap (λ x. (48 + n / 100) ∷ x ∷ c ∷ d ∷ []) second
          ∙ ap (λ x. (48 + n / 100) ∷ (48 + n / 10 % 10) ∷ x ∷ d ∷ []) third
          ∙ ap (λ x. (48 + n / 100) ∷ (48 + n / 10 % 10) ∷ (48 + n % 10) ∷ x ∷ []) last
          ∙ sym (last_three n 109 (omega arith) (omega arith)),
      some n (omega arith),
    )

-- after some bytes
pub after : (s p r : List ℕ) (n k : ℕ) → pointwise nat_eq (take n s) p ≡ true → r ≡ drop n s
    → take (n + k) s ≡ p ++ take k r
after s p r n k same is =
    take-add n k s ∙ ap (λ x. x ++ take k (drop n s)) (same_text (take n s) p (sym same))
    ∙ ap (λ z. p ++ take k z) (sym is)

-- ---- as they are read

pub shade_of : (x : List ℕ) (b : Bool) → IsShortRendition x b → Shade x b
shade_of x b (y, inl (whole, (n, few, is, on))) =
    subst (λ c. Shade x c) (sym on)
    (subst (λ z. Shade z (not (n == 0))) (sym (whole ∙ ap (λ z. 0x1b ∷ 0x5b ∷ z) is)) (lone n few))
shade_of x b (y, inr (inl whole, on, (c, (n, few, is, lit)))) =
    subst (λ d. Shade x d) (sym on)
    (subst (λ z. Shade z true)
    (sym (whole ∙ ap (λ z. 0x1b ∷ 0x5b ∷ (codes "38;5;" ++ z)) is)) (colour n few))
shade_of x b (y, inr (inr whole, on, (c, (n, few, is, lit)))) =
    subst (λ d. Shade x d) (sym on)
    (subst (λ z. Shade z true)
    (sym (whole ∙ ap (λ z. 0x1b ∷ 0x5b ∷ (codes "48;5;" ++ z)) is)) (background n few))
