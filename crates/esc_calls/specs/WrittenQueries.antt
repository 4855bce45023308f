-- The text of the termcap query of fields.
use Rattle.std.specs.Prelude.{ℕ, ◌≡◌, true, List, ◌++◌}
use Rattle.std.specs.List.{list_all}
use Rattle.flat_values.specs.Fields.{Table}
use Rattle.flat_values.specs.FoundNames.{HasNames}
use Rattle.flat_values.specs.Held.{AreTexts, types}
use Rattle.xtgettcap.specs.Names.{AreWritable, is_query_byte, names_of, names_text, query_text}
use Rattle.esc_calls.specs.Written.{RefusedFor}
use Rattle.esc_values.specs.Clear.{string_terminator}

-- the fields are those of names that a query can ask for; the text between `ESC P + q` and `ESC \`
-- is of digits and `;`, and asks for the same names
pub record IsWrittenAs (t : Table) (ns : List (List ℕ)) : Type 0 where
  pub has : HasNames t ns
  pub writable : AreWritable ns
  pub clear : list_all is_query_byte (names_text ns) ≡ true
  pub back : names_of (names_text ns) ≡ ns

-- the whole text of such a query
abbrev pub IsText : Table → List ℕ → Type 0
IsText t s = (ns : List (List ℕ)) × IsWrittenAs t ns × (s ≡ query_text ns ++ string_terminator)

-- why none was written
abbrev pub IsRefusal : Table → ℕ → Type 0
IsRefusal t = RefusedFor (HasNames t) (AreTexts types) AreWritable
