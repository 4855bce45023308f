-- Characters that come as they are.
use Rattle.std.proofs.Common.{arith, ℕ, ◌≡◌, ◌==◌, ◌<◌, nat_le, not, true, false, Bool, List, [], ◌∷◌, ◌++◌, refl, ap, sym, subst, append-nil, append_assoc}
use Rattle.std.specs.Prelude.{Result, OnOk}
use Rattle.std.specs.Char.{encode_utf8}
use Rattle.std.specs.List.{list_all}
use Rattle.std.proofs.lemmas.Bool.{and_parts, false≢true}
use Rattle.std.proofs.lemmas.Bool.Decides.{nat_tests}
use Rattle.std.proofs.lemmas.Str.{encode_ascii}
use Rattle.unicode_visibility.specs.Characters.{is_shown}
use Rattle.dump_page.specs.Quoted.{IsQuote, Quotes, is_plain, is_word_byte}
use Rattle.dump_page.specs.Pages.{IsPage, is_word}
use Rattle.dump_page.specs.Pages.PagePart.{Word}
use Rattle.dump_page.proofs.Quoting.{on_ok, quotes_itself, quotes_more, quotes_nothing}

record IsPlain (b : ℕ) : Type 0 where
  shown : is_shown b ≡ true
  quote : (b == 0x22) ≡ false
  backslash : (b == 0x5c) ≡ false
  small : b < 128

not_true : (b : Bool) → not b ≡ true → b ≡ false
not_true true h = absurd (false≢true h)
not_true false h = refl

below : (b : ℕ) → nat_le b 0x7e ≡ true → b < 128
below b h = grind (arith, nat_tests)

plain_byte : (b : ℕ) → is_plain b ≡ true → IsPlain b
plain_byte b h =
    let k = and_parts (nat_le 0x20 b) _ h in
    let l = and_parts (nat_le b 0x7e) _ k.1 in
    let m = and_parts (not (b == 0x22)) (not (b == 0x5c)) l.1 in record {
      shown = rw (k.0, l.0) refl;
      quote = not_true (b == 0x22) m.0;
      backslash = not_true (b == 0x5c) m.1;
      small = below b l.0;
    }

record IsOfWords (b : ℕ) : Type 0 where
  word : is_word b ≡ true
  small : b < 128

word_byte : (b : ℕ) → is_word_byte b ≡ true → IsOfWords b
word_byte b h =
    let k = and_parts (nat_le 0x20 b) _ h in
    let l = and_parts (nat_le b 0x7e) _ k.1 in record {
      word = rw (k.0, l.0, l.1) refl;
      small = below b l.0;
    }

word_more : (b : ℕ) (bs : List ℕ) → is_word b ≡ true → b < 128 → IsPage bs → IsPage (b ∷ bs)
word_more b bs word small (ps, all, e) =
    (Word b ∷ ps, rw (word, all) refl, rw (encode_ascii b small) (ap (λ t. b ∷ t) e))

words : (bs : List ℕ) → list_all is_word_byte bs ≡ true → IsPage bs
words [] h = ([], refl, refl)
words (b ∷ bs) h =
    let k = and_parts (is_word_byte b) (list_all is_word_byte bs) h in
    let p = word_byte b k.0 in
    word_more b bs p.word p.small (words bs k.1)

-- words of ASCII are a page
pub word_page : (bs : List ℕ) → list_all is_word_byte bs ≡ true → ∥ IsPage bs ∥₁
word_page bs h = ∣ words bs h ∣₁

plain_quotes : (s bs : List ℕ) → list_all is_plain bs ≡ true → Quotes s (s ++ bs) bs
plain_quotes s [] h = subst (λ t. Quotes s t []) (sym (append-nil s)) (quotes_nothing s)
plain_quotes s (b ∷ bs) h =
    let k = and_parts (is_plain b) (list_all is_plain bs) h in
    let p = plain_byte b k.0 in
    let one : Quotes s (s ++ b ∷ []) (b ∷ []) =
    subst (λ x. Quotes s (s ++ x) x) (encode_ascii b p.small)
    (quotes_itself s (s ++ encode_utf8 b) b p.shown p.quote p.backslash refl) in
    subst (λ t. Quotes s t (b ∷ bs)) (append_assoc s (b ∷ []) bs)
    (quotes_more s (s ++ b ∷ []) _ (b ∷ []) bs one (plain_quotes (s ++ b ∷ []) bs k.1))

-- a quoted text grows by plain bytes, that may be refused
pub plain_pushed : {U E : Type 0} (r : Result U E) (s t bs : List ℕ) → list_all is_plain bs ≡ true
    → OnOk r (t ≡ s ++ bs) → OnOk r (Quotes s t bs)
plain_pushed r s t bs h = on_ok r (λ e. subst (λ x. Quotes s x bs) (sym e) (plain_quotes s bs h))

-- plain bytes read as themselves
pub plain_quote : (bs : List ℕ) → list_all is_plain bs ≡ true → ∥ IsQuote bs ∥₁
plain_quote bs h = ∣ (bs, plain_quotes [] bs h) ∣₁

-- plain bytes are bytes of words
pub plain_words : (bs : List ℕ) → list_all is_plain bs ≡ true → list_all is_word_byte bs ≡ true
plain_words [] h = refl
plain_words (b ∷ bs) h =
    let k = and_parts (is_plain b) (list_all is_plain bs) h in
    let l = and_parts (nat_le 0x20 b) _ k.0 in
    let m = and_parts (nat_le b 0x7e) _ l.1 in
    let n = and_parts (not (b == 0x22)) (not (b == 0x5c)) m.1 in
    rw (l.0, m.0, n.0, plain_words bs k.1) refl
