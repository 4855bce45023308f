-- The normal form of a stream that comes in chunks.
use Rattle.std.specs.Prelude.{ℕ, ◌≡◌, false, List, ◌++◌, Option}
use Rattle.esc_actions.specs.Meaning.{meaning_within}
use Rattle.esc_actions.specs.Texts.{list_text}
use Rattle.esc_parse.specs.Fed.{IsBroken as IsBrokenParser, ParserHasConsumedWithin}
use Rattle.esc_normal.specs.Texts.{ends_in_string}
use Rattle.esc_normal.specs.declared.normaliser.Normaliser.{Normaliser}

-- the normal form of a stream: the text of its meaning, if no more than the limit is kept of a
-- segment
abbrev pub normal_form : (A : Type 0) → Option ℕ → List ℕ → List ℕ
normal_form A limit s = list_text (meaning_within {A = A} limit s)

-- the normaliser, under this limit, was fed these bytes, and knows whether their text ends in a
-- string
abbrev pub HasConsumed : {A : Type 0} → Option ℕ → List ℕ → Normaliser A → Type 0
HasConsumed {A} limit s n = ParserHasConsumedWithin limit s n.parser
    × (n.spell.follows_string ≡ ends_in_string false (meaning_within {A = A} limit s))

-- an earlier call was refused memory
abbrev pub IsBroken : {A : Type 0} → Normaliser A → Type 0
IsBroken n = IsBrokenParser n.parser

-- the text that the last call added
abbrev pub added_by : {A : Type 0} → Normaliser A → List ℕ
added_by n = n.spell.text

-- this holds for each limit that the normaliser may have, and for each stream that it may have
-- been fed
abbrev pub After : {A : Type 0} → Normaliser A → (Option ℕ → List ℕ → Type 0) → Type 0
After n C = (limit : Option ℕ) (s : List ℕ) → HasConsumed limit s n → C limit s

-- the normaliser, which was fed s, was fed b too, and has the text that b adds
abbrev pub Takes : {A : Type 0} → Option ℕ → List ℕ → List ℕ → Normaliser A → Type 0
Takes {A} limit s b n = HasConsumed limit (s ++ b) n
    × (normal_form A limit (s ++ b) ≡ normal_form A limit s ++ added_by n)
