-- The texts that are written under the policies `Text` and `Color`: parts, one after another.
use Rattle.std.specs.Prelude.{ℕ, ◌≡◌, ◌⊎◌, Bool, true, false, nat_le, ◌==◌, ◌&&◌, ◌||◌, List, [], ◌∷◌, ◌++◌, codes}
use Rattle.std.specs.Char.{encode_utf8}
use Rattle.std.specs.List.{All, list_all}
use lib.Utf8.{scalar}
use Rattle.esc_values.specs.Clear.{IsClearText, framed_text}
use Rattle.esc_values.specs.Params.{is_csi_parameter, is_from}
use Rattle.esc_actions.specs.Values.{Value}
use Rattle.esc_filter.specs.Closing.{joined_lists}
use Rattle.esc_filter.specs.Rules.{admits, is_shown}
use Rattle.esc_filter.specs.declared.policy.Policy.{Policy}

-- a character of plain text: tab, line feed, carriage return, U+0020 to U+007E, or a Guard scalar
-- value from U+00A0 on; so no other control of C0, no DEL, and no control of C1
abbrev pub is_plain : ℕ → Bool
is_plain c = (c == 0x09) || ((c == 0x0a) || ((c == 0x0d)
    || (is_from 0x20 0x7e c || (scalar c && nat_le 0xa0 c))))

-- its UTF-8, which is the one byte below U+0080
abbrev pub IsCharacter : List ℕ → Type 0
IsCharacter x = (c : ℕ) × (is_plain c ≡ true) × (x ≡ encode_utf8 c)

-- `ESC [`, digits, `:` and `;`, and `m`
abbrev pub IsRendition : List ℕ → Type 0
IsRendition x = (y : List ℕ) × (list_all is_csi_parameter y ≡ true)
    × (x ≡ 0x1b ∷ 0x5b ∷ (y ++ 0x6d ∷ []))

-- `ESC ]`, a text of clear characters but DEL that begins with `8;`, and `ESC \`
abbrev pub IsLink : List ℕ → Type 0
IsLink x = (y : List ℕ) × IsClearText (codes "8;" ++ y) × (list_all is_shown y ≡ true)
    × (x ≡ framed_text (codes "8;" ++ y))

-- a part: a character, and if there is colour also a rendition or a link
abbrev pub IsToken : Bool → List ℕ → Type 0
IsToken false x = IsCharacter x
IsToken true x = IsCharacter x ⊎ (IsRendition x ⊎ IsLink x)

-- parts, one after another
abbrev pub IsOfTokens : Bool → List ℕ → Type 0
IsOfTokens colour t = (xs : List (List ℕ)) × All (IsToken colour) xs × (t ≡ joined_lists xs)

abbrev pub IsPlainText : List ℕ → Type 0
IsPlainText t = IsOfTokens false t

abbrev pub IsColorText : List ℕ → Type 0
IsColorText t = IsOfTokens true t

-- a filter of these values admits no more than this policy does
abbrev pub AdmitsAtMost : {A : Type 0} → Policy → (Value A → Bool) → Type 0
AdmitsAtMost {A} p f = (v : Value A) → f v ≡ true → admits p v ≡ true
