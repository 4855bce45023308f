-- Bytes that are ASCII.
use Rattle.std.proofs.Common.{ℕ, zero, suc, ◌≡◌, ◌<◌, List, [], ◌∷◌, ◌++◌, replicate, take, ap, ◌∙◌, append_assoc, arith}
use Rattle.std.proofs.lemmas.Str.Ascii.{IsAscii-cons, IsAscii-nil}
use Rattle.std.specs.Str.{IsAscii}

pub zeros_ascii : (n : ℕ) → IsAscii (replicate n 0)
zeros_ascii zero = IsAscii-nil
zeros_ascii (suc n) = IsAscii-cons 0 (replicate n 0) (omega arith) (zeros_ascii n)

pub take_ascii : (n : ℕ) (xs : List ℕ) → IsAscii xs → IsAscii (take n xs)
take_ascii zero xs h = IsAscii-nil
take_ascii (suc n) [] h = IsAscii-nil
take_ascii (suc n) (x ∷ xs) h = IsAscii-cons x (take n xs) (h 0) (take_ascii n xs (λ i. h (suc i)))

pub eight_ascii : (a b c d e f g h : ℕ) → a < 128 → b < 128 → c < 128 → d < 128 → e < 128 → f < 128
    → g < 128 → h < 128
    → IsAscii (a ∷ b ∷ c ∷ d ∷ e ∷ f ∷ g ∷ h ∷ [])
eight_ascii a b c d e f g h la lb lc ld le lf lg lh =
    IsAscii-cons a (b ∷ c ∷ d ∷ e ∷ f ∷ g ∷ h ∷ []) la
    (IsAscii-cons b (c ∷ d ∷ e ∷ f ∷ g ∷ h ∷ []) lb
    (IsAscii-cons c (d ∷ e ∷ f ∷ g ∷ h ∷ []) lc (IsAscii-cons d (e ∷ f ∷ g ∷ h ∷ []) ld
    (IsAscii-cons e (f ∷ g ∷ h ∷ []) le
    (IsAscii-cons f (g ∷ h ∷ []) lf
    (IsAscii-cons g (h ∷ []) lg (IsAscii-cons h [] lh IsAscii-nil)))))))

pub eleven_ascii : (a b c d e f g h i j k : ℕ) → a < 128 → b < 128 → c < 128 → d < 128 → e < 128
    → f < 128 → g < 128 → h < 128 → i < 128 → j < 128 → k < 128
    → IsAscii (a ∷ b ∷ c ∷ d ∷ e ∷ f ∷ g ∷ h ∷ i ∷ j ∷ k ∷ [])
eleven_ascii a b c d e f g h i j k la lb lc ld le lf lg lh li lj lk =
    IsAscii-cons a (b ∷ c ∷ d ∷ e ∷ f ∷ g ∷ h ∷ i ∷ j ∷ k ∷ []) la
    (IsAscii-cons b (c ∷ d ∷ e ∷ f ∷ g ∷ h ∷ i ∷ j ∷ k ∷ []) lb
    (IsAscii-cons c (d ∷ e ∷ f ∷ g ∷ h ∷ i ∷ j ∷ k ∷ []) lc
    (eight_ascii d e f g h i j k ld le lf lg lh li lj lk)))

-- bytes that are appended one after another
pub two_pushed : (old mid new : List ℕ) (a b : ℕ) → mid ≡ old ++ a ∷ [] → new ≡ mid ++ b ∷ []
    → new ≡ old ++ a ∷ b ∷ []
two_pushed old mid new a b h k = k ∙ ap (λ t. t ++ b ∷ []) h ∙ append_assoc old (a ∷ []) (b ∷ [])

pub three_pushed : (old one two new : List ℕ) (a b c : ℕ) → one ≡ old ++ a ∷ []
    → two ≡ one ++ b ∷ [] → new ≡ two ++ c ∷ [] → new ≡ old ++ a ∷ b ∷ c ∷ []
three_pushed old one two new a b c h k l =
    l ∙ ap (λ t. t ++ c ∷ []) (two_pushed old one two a b h k)
    ∙ append_assoc old (a ∷ b ∷ []) (c ∷ [])
