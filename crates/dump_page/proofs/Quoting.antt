-- Quoted texts, one after another.
use Rattle.std.proofs.Common.{arith, ℕ, ◌≡◌, ◌≢◌, ◌/◌, ◌%◌, ◌==◌, true, false, List, [], ◌∷◌, ◌++◌, refl, ap, sym, ◌∙◌, append-nil, append_assoc}
use Rattle.std.specs.Prelude.{Option, Some, None, Result, Ok, Err, OnOk, length}
use Rattle.std.specs.Char.{encode_utf8, digit_value}
use Rattle.std.specs.List.{flat_map}
use Rattle.std.proofs.lemmas.List.Folds.{list_all-append}
use Rattle.std.proofs.lemmas.Grind.{flat_map-append}
use Rattle.std.proofs.lemmas.Str.{encode_ascii}
use Rattle.std.proofs.Math.Nat.{div-add-mod}
use Rattle.unicode_visibility.specs.Characters.{is_shown}
use Rattle.std.proofs.Math.Logic.{∥∥₁_map}
use Rattle.dump_page.specs.Quoted.{AddsQuote, IsQuote, Quotes, QuotesSome, bytes_before, unquoted_bytes}
use Rattle.dump_page.specs.Quoted.Reader.{InText}

put_append : (x y : List ℕ) (r : Option (List ℕ)) → bytes_before (x ++ y) r
    ≡ bytes_before x (bytes_before y r)
put_append x y None = refl
put_append x y (Some t) = ap Some (append_assoc x y t)

put_nothing : (r : Option (List ℕ)) → r ≡ bytes_before [] r
put_nothing None = refl
put_nothing (Some t) = refl

pub quotes_nothing : (s : List ℕ) → Quotes s s []
quotes_nothing s = record {
  added = [];
  shown = refl;
  appends = sym (append-nil s);
  reads = λ rest. put_nothing (unquoted_bytes InText rest);
}

pub quotes_more : (s t u x y : List ℕ) → Quotes s t x → Quotes t u y → Quotes s u (x ++ y)
quotes_more s t u x y h k = record {
  added = h.added ++ k.added;
  shown = rw (list_all-append is_shown h.added k.added, h.shown, k.shown) refl;
  appends = k.appends ∙ ap (λ z. z ++ flat_map encode_utf8 k.added) h.appends
      ∙ append_assoc s (flat_map encode_utf8 h.added) (flat_map encode_utf8 k.added)
      ∙ ap (λ z. s ++ z) (sym (flat_map-append encode_utf8 h.added k.added));
  reads = λ rest. ap (unquoted_bytes InText) (append_assoc h.added k.added rest)
      ∙ h.reads (k.added ++ rest) ∙ ap (bytes_before x) (k.reads rest)
      ∙ sym (put_append x y (unquoted_bytes InText rest));
}

-- a character that is shown and is no `"` and no `\`
pub quotes_itself : (s t : List ℕ) (c : ℕ) → is_shown c ≡ true → (c == 0x22) ≡ false
    → (c == 0x5c) ≡ false → t ≡ s ++ encode_utf8 c → Quotes s t (encode_utf8 c)
quotes_itself s t c shown quote backslash e = record {
  added = c ∷ [];
  shown = rw shown refl;
  appends = e ∙ ap (λ z. s ++ z) (sym (append-nil (encode_utf8 c)));
  reads = λ rest. rw (quote, backslash) refl;
}

-- one of these two after a `\`
pub quotes_marked : (s t u : List ℕ) (c : ℕ) → is_shown c ≡ true → c ≢ 0x78
    → t ≡ s ++ encode_utf8 0x5c → u ≡ t ++ encode_utf8 c → Quotes s u (encode_utf8 c)
quotes_marked s t u c shown other e f = let x : (c == 0x78) ≡ false = grind arith in record {
  added = 0x5c ∷ c ∷ [];
  shown = rw shown refl;
  appends = f ∙ ap (λ z. z ++ encode_utf8 c) e
      ∙ append_assoc s (encode_utf8 0x5c) (encode_utf8 c)
      ∙ ap (λ z. s ++ (encode_utf8 0x5c ++ z)) (sym (append-nil (encode_utf8 c)));
  reads = λ rest. rw x (sym (put_nothing _));
}

-- a byte as its number
pub quotes_number : (s t u v w : List ℕ) (b c d : ℕ) → is_shown c ≡ true → is_shown d ≡ true
    → digit_value c ≡ b / 16 → digit_value d ≡ b % 16 → t ≡ s ++ encode_utf8 0x5c
    → u ≡ t ++ encode_utf8 0x78 → v ≡ u ++ encode_utf8 c → w ≡ v ++ encode_utf8 d
    → Quotes s w (b ∷ [])
quotes_number s t u v w b c d shown shown' high low e f g h = record {
  added = 0x5c ∷ 0x78 ∷ c ∷ d ∷ [];
  shown = rw (shown, shown') refl;
  appends = rw (h, g, f, e) simp (append_assoc, append-nil);
  reads = λ rest. rw (high, low, div-add-mod b 16)
      (sym (put_nothing _ ∙ put_nothing _ ∙ put_nothing _));
}

-- the promise of a result, if it follows from the promise of another
pub on_ok : {U E A B : Type 0} (r : Result U E) → (A → B) → OnOk r A → OnOk r B
on_ok (Ok u) f h = f h
on_ok (Err e) f h = tt

pub nothing_left : (s : List ℕ) → length s ≡ 0 → s ≡ []
nothing_left [] e = refl
nothing_left (x ∷ xs) e = absurd (omega arith)

pub no_quote : ∥ IsQuote [] ∥₁
no_quote = ∣ ([], quotes_nothing []) ∣₁

-- a quoted text grows by more
pub quote_more : (s t : List ℕ) → ∥ IsQuote s ∥₁ → QuotesSome s t → ∥ IsQuote t ∥₁
quote_more s t h k = ∥∥₁_map h (λ x. (x.0 ++ k.0, quotes_more [] s t x.0 k.0 x.1 k.1))

quote_sign : encode_utf8 0x22 ≡ 0x22 ∷ []
quote_sign = encode_ascii 0x22 (omega arith)

quote_ends : (s t u v a : List ℕ) → t ≡ s ++ encode_utf8 0x22 → u ≡ t ++ a
    → v ≡ u ++ encode_utf8 0x22 → v ≡ s ++ 0x22 ∷ (a ++ 0x22 ∷ [])
quote_ends s t u v a e k f =
    f ∙ ap (λ z. u ++ z) quote_sign
    ∙ ap (λ z. z ++ 0x22 ∷ []) (k ∙ ap (λ z. z ++ a) (e ∙ ap (λ z. s ++ z) quote_sign))
    ∙ append_assoc (s ++ 0x22 ∷ []) a (0x22 ∷ [])
    ∙ append_assoc s (0x22 ∷ []) (a ++ 0x22 ∷ [])

-- a text that is added between two quotes
pub quote_put : {U E : Type 0} (r : Result U E) (s t u v : List ℕ) → t ≡ s ++ encode_utf8 0x22
    → QuotesSome t u → OnOk r (v ≡ u ++ encode_utf8 0x22) → OnOk r (AddsQuote s v)
quote_put r s t u v e (bytes, k) = on_ok r (λ f. (
  flat_map encode_utf8 k.added,
  (bytes, record { added = k.added; shown = k.shown; appends = refl; reads = k.reads }),
  quote_ends s t u v (flat_map encode_utf8 k.added) e k.appends f,
))
