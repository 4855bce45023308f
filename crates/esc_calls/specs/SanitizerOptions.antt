-- The options of a sanitizer, as numbers.
use Rattle.std.specs.Prelude.{ℕ, ◌≡◌, ◌≢◌, ◌≤◌, ◌<◌, ◌==◌, ◌⊎◌, ◌&&◌, if◌then◌else◌, Bool, true, false, not, Option, Some, None, is_some}
use Rattle.esc_decode.specs.declared.byte_order.ByteOrder.{ByteOrder}
use Rattle.esc_decode.specs.declared.byte_order.ByteOrder.TheVariants as byte_order
use Rattle.esc_decode.specs.declared.code_page.CodePage.TheVariants as page
use Rattle.esc_decode.specs.declared.encoding.Encoding.{Encoding}
use Rattle.esc_decode.specs.declared.encoding.Encoding.TheVariants as encoding
use Rattle.esc_filter.specs.declared.groups.Groups.{Groups}
use Rattle.esc_filter.specs.declared.guard.Guard.{Guard}
use Rattle.esc_filter.specs.declared.policy.Policy.{Policy}
use Rattle.esc_filter.specs.declared.returns.Returns.{Returns}
use Rattle.esc_filter.specs.declared.returns.Returns.TheVariants as returns
use Rattle.esc_filter.specs.declared.unicode.Unicode.{Unicode}
use Rattle.esc_filter.specs.declared.unicode.Unicode.TheVariants as unicode
use Rattle.caret_notation.specs.declared.marking.Marking.{Marking}
use Rattle.caret_notation.specs.declared.marking.Marking.TheVariants as marking
use Rattle.line_collapse.specs.Windows.{Size, window_of}
use Rattle.line_collapse.specs.declared.window.TheConstants.{COLUMNS}
use Rattle.esc_sanitize.specs.Defaults.{is_for_reading}
use Rattle.esc_sanitize.specs.declared.options.FilterOptions.{FilterOptions}
use Rattle.esc_calls.specs.Policies.{policy_numbered}
use Rattle.esc_calls.specs.SanitizerGroups.{AreSaid, links_numbered}
use Rattle.esc_calls.specs.Sanitizers.{Settings}
use Rattle.esc_calls.specs.declared.TheConstants.{TOO_MANY_COLUMNS, TOO_MANY_ROWS, UNKNOWN_CHARACTERS, UNKNOWN_ENCODING, UNKNOWN_FRAMING, UNKNOWN_GROUP, UNKNOWN_LINKS, UNKNOWN_POLICY, UNKNOWN_RETURNS, UNKNOWN_SHOW, UNKNOWN_SIZE}
use Rattle.esc_calls.specs.declared.fault.Fault.{Fault}
use Rattle.esc_calls.specs.declared.fault.Fault.TheVariants as fault
use Rattle.esc_calls.specs.declared.sanitizer_options.SanitizerOptions.{SanitizerOptions}
use Rattle.esc_calls.specs.declared.sanitizer_options.TheConstants.{MOST_COLUMNS, MOST_ROWS, OPTIONS_SIZE}

-- ---- the meaning of each number; 0 means the usual choice, if there is one

abbrev pub framing_numbered : ℕ → Bool → Option Bool
framing_numbered n usual =
    if n == 0 then Some usual
    else if n == 1 then Some true
    else if n == 2 then Some false
    else if n == 3 then Some true
    else None

-- whether, by lines, renditions go on over line feeds
abbrev pub resumes_numbered : ℕ → Bool
resumes_numbered n = not (n == 3)

abbrev pub characters_numbered : ℕ → Unicode → Option Unicode
characters_numbered n usual =
    if n == 0 then Some usual
    else if n == 1 then Some unicode.Keep
    else if n == 2 then Some unicode.Join
    else if n == 3 then Some unicode.Show
    else if n == 4 then Some unicode.Drop
    else None

abbrev pub returns_numbered : ℕ → Returns → Option Returns
returns_numbered n usual =
    if n == 0 then Some usual
    else if n == 1 then Some returns.Keep
    else if n == 2 then Some returns.Show
    else if n == 3 then Some returns.Drop
    else None

abbrev pub marking_numbered : ℕ → Option (Option Marking)
marking_numbered n =
    if n == 0 then Some None
    else if n == 1 then Some (Some marking.Plain)
    else if n == 2 then Some (Some marking.Escaped)
    else if n == 3 then Some (Some marking.Reversed)
    else None

-- if actions that do not pass are shown, no byte is replaced
abbrev pub utf8_by : Bool → Encoding
utf8_by shows = if shows then encoding.EightBit else encoding.Utf8

abbrev pub encoding_numbered : ℕ → Bool → Option Encoding
encoding_numbered n shows =
    if n == 0 then Some (utf8_by shows)
    else if n == 1 then Some encoding.EightBit
    else if n == 2
    then Some (encoding.CodePage (if shows then page.Latin1WithControls else page.Latin1))
    else if n == 3 then Some (encoding.CodePage page.Latin1WithControls)
    else if n == 4 then Some (encoding.CodePage page.Windows1250)
    else if n == 5 then Some (encoding.CodePage page.Windows1251)
    else if n == 6 then Some (encoding.CodePage page.Windows1252)
    else if n == 7 then Some (encoding.CodePage page.Windows1253)
    else if n == 8 then Some (encoding.CodePage page.Windows1254)
    else if n == 9 then Some (encoding.CodePage page.Windows1255)
    else if n == 10 then Some (encoding.CodePage page.Windows1256)
    else if n == 11 then Some (encoding.CodePage page.Windows1257)
    else if n == 12 then Some (encoding.CodePage page.Windows1258)
    else if n == 13 then Some (utf8_by shows)
    else if n == 14 then Some (utf8_by shows)
    else if n == 15 then Some (utf8_by shows)
    else None

-- the order of bytes in a stream of UTF-16, which goes to the filter as UTF-8
abbrev pub order_numbered : ℕ → Option ByteOrder
order_numbered n =
    if n == 13 then Some byte_order.Marked
    else if n == 14 then Some byte_order.Little
    else if n == 15 then Some byte_order.Big
    else None

abbrev pub columns_numbered : ℕ → ℕ
columns_numbered n = if n == 0 then COLUMNS else n

-- ---- characters and carriage returns that hide or reorder text

-- The usual choice for text and its colours alone, which people read, is that characters that do so
-- are shown, but those that belong to the character before them, and that carriage returns are
-- shown, but if rows may be written again: there they move.
abbrev pub usual_guard : Policy → ℕ → Guard
usual_guard p rows =
    if is_for_reading p
    then (if rows == 0 then record { characters = unicode.Join; returns = returns.Show }
    else record { characters = unicode.Join; returns = returns.Keep })
    else record { characters = unicode.Keep; returns = returns.Keep }

-- carriage returns are kept in a stream that is one
abbrev pub stream_returns : Returns → Bool → Returns
stream_returns way by_lines = if by_lines then way else returns.Keep

pub record SaysGuard (r : SanitizerOptions) (usual : Guard) (by_lines : Bool) (g : Guard)
    : Type 0 where
  pub characters : characters_numbered r.characters usual.characters ≡ Some g.characters
  pub way : Returns
  pub named : returns_numbered r.returns usual.returns ≡ Some way
  pub returns : g.returns ≡ stream_returns way by_lines

-- ---- rows that may be written again

-- a screen of these rows and columns, on which this is written of characters that deceive; where
-- counts, its text is counted
abbrev pub window_numbered : ℕ → ℕ → Unicode → Bool → Option Size
window_numbered rows columns u counts =
    if rows == 0 then None
    else Some (record (window_of rows (columns_numbered columns) u) { counts = counts })

pub record SaysWindow (r : SanitizerOptions) (u : Unicode) (w : Option Size) : Type 0 where
  pub window : w ≡ window_numbered r.rows r.columns u (not (r.account == 0))
  pub few : r.rows ≤ MOST_ROWS
  pub narrow : r.columns ≤ MOST_COLUMNS

-- ---- the options

-- the options o are those that r means under the policy p
pub record Says (r : SanitizerOptions) (p : Policy) (o : FilterOptions Groups) : Type 0 where
  pub groups : AreSaid r p o.policy
  pub limit : o.limit ≡ r.limit
  pub framing : framing_numbered r.framing (is_for_reading p && (r.rows == 0)) ≡ Some o.by_lines
  pub resumes : o.resumes ≡ resumes_numbered r.framing
  pub guard : SaysGuard r (usual_guard p r.rows) o.by_lines o.guard
  pub show : marking_numbered r.show ≡ Some o.show
  pub encoding : encoding_numbered r.encoding (is_some o.show) ≡ Some o.encoding
  pub window : SaysWindow r o.guard.characters o.window
  pub audits : o.audits ≡ not (r.account == 0)

-- and under its own
abbrev pub IsSaid : SanitizerOptions → Settings → Type 0
IsSaid r o = (p : Policy) × (policy_numbered r.policy ≡ Some p) × (r.size ≡ OPTIONS_SIZE)
    × (r.reserved ≡ 0) × Says r p o.filter × (o.order ≡ order_numbered r.encoding)

-- ---- the numbers that mean nothing

abbrev pub IsFault : SanitizerOptions → Fault → Type 0
IsFault r fault.Size = (r.size ≢ OPTIONS_SIZE) ⊎ (r.reserved ≢ 0)
IsFault r fault.Policy = policy_numbered r.policy ≡ None
IsFault r fault.Group = (0xffff < r.allowed) ⊎ (0xffff < r.denied)
IsFault r fault.Links = links_numbered r.links ≡ None
IsFault r fault.Framing = (b : Bool) × (framing_numbered r.framing b ≡ None)
IsFault r fault.Characters = (u : Unicode) × (characters_numbered r.characters u ≡ None)
IsFault r fault.Returns = (w : Returns) × (returns_numbered r.returns w ≡ None)
IsFault r fault.Encoding = (b : Bool) × (encoding_numbered r.encoding b ≡ None)
IsFault r fault.Show = marking_numbered r.show ≡ None
IsFault r fault.Rows = MOST_ROWS < r.rows
IsFault r fault.Columns = MOST_COLUMNS < r.columns

-- the status that says so
abbrev pub status_of : Fault → ℕ
status_of fault.Size = UNKNOWN_SIZE
status_of fault.Policy = UNKNOWN_POLICY
status_of fault.Group = UNKNOWN_GROUP
status_of fault.Links = UNKNOWN_LINKS
status_of fault.Framing = UNKNOWN_FRAMING
status_of fault.Characters = UNKNOWN_CHARACTERS
status_of fault.Returns = UNKNOWN_RETURNS
status_of fault.Encoding = UNKNOWN_ENCODING
status_of fault.Show = UNKNOWN_SHOW
status_of fault.Rows = TOO_MANY_ROWS
status_of fault.Columns = TOO_MANY_COLUMNS

-- a status says which number says nothing
abbrev pub SaysFault : SanitizerOptions → ℕ → Type 0
SaysFault r status = (f : Fault) × IsFault r f × (status ≡ status_of f)
