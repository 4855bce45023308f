-- Characters that belong to the one before them, and those that do not.
use Rattle.std.proofs.Common.{◌≡◌, ℕ, Bool, true, false, not, ◌&&◌, ◌||◌, List, [], ◌∷◌, ◌++◌, length, Option, Some, refl, sym, ap, ◌∙◌, arith, append-nil, subst, take, chars, IsUtf8}
use Rattle.std.specs.Char.{IsScalar, encode_utf8}
use Rattle.std.proofs.Math.Seq.{take-append_seam}
use Rattle.std.proofs.lemmas.Str.{IsCharBoundary-at_seam, IsUtf8-encode, IsUtf8-take, chars-append, chars-nil, chars_past_char}
use Rattle.std.specs.List.{list_any}
use Rattle.unicode_visibility.specs.Characters.{is_deceiving}
use Rattle.unicode_visibility.specs.Following.{has_stray, last_of, may_follow}

pub nothing_left : {X : Type 0} (l : List X) → length l ≡ 0 → l ≡ []
nothing_left [] h = refl
nothing_left (x ∷ xs) h = absurd (omega arith)

-- none is stray if none deceives
pub none_stray : (b : Option ℕ) (cs : List ℕ) → list_any is_deceiving cs ≡ false
    → has_stray b cs ≡ false
none_stray b [] h = refl
none_stray b (c ∷ cs) h =
    by (is_deceiving c) (may_follow b c) (list_any is_deceiving cs) h
    (λ k. none_stray (Some c) cs k)
  where
    by : (d f : Bool) (r : Bool) → (d || r) ≡ false
        → (r ≡ false → has_stray (Some c) cs ≡ false)
        → ((d && not f) || has_stray (Some c) cs) ≡ false
    by true f r e rest = absurd cc
    by false f r e rest = rest e

-- the last character of a text

last_pushed : (b : Option ℕ) (cs : List ℕ) (c : ℕ) → last_of b (cs ++ c ∷ []) ≡ Some c
last_pushed b [] c = refl
last_pushed b (d ∷ cs) c = last_pushed (Some d) cs c

encode_chars : (c : ℕ) → IsUtf8 (encode_utf8 c) → chars (encode_utf8 c) ≡ c ∷ []
encode_chars c u =
    chars_past_char (encode_utf8 c) [] c u (sym (append-nil (encode_utf8 c)))
    ∙ ap (λ cs. c ∷ cs) chars-nil

-- the text before a character is UTF-8
before_last : (s r : List ℕ) (c : ℕ) → IsUtf8 s → IsUtf8 (encode_utf8 c)
    → s ≡ r ++ encode_utf8 c → IsUtf8 r
before_last s r c u v e =
    subst IsUtf8 (ap (take (length r)) e ∙ take-append_seam r (encode_utf8 c))
    (IsUtf8-take s (length r) u (IsCharBoundary-at_seam s r (encode_utf8 c) e v))

pub last_is : (b : Option ℕ) (s r : List ℕ) (c : ℕ) → IsUtf8 s → IsScalar c
    → s ≡ r ++ encode_utf8 c → Some c ≡ last_of b (chars s)
last_is b s r c u k e =
    let v = IsUtf8-encode c k in
    sym (ap (λ t. last_of b (chars t)) e
    ∙ ap (last_of b) (chars-append r (encode_utf8 c) (before_last s r c u v e)
    ∙ ap (λ cs. chars r ++ cs) (encode_chars c v))
    ∙ last_pushed b (chars r) c)
