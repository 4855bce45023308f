-- The rows of a report on the losses of a stream, and their names.
use Rattle.std.specs.Prelude.{ℕ, ◌≡◌, ◌+◌, ◌≤◌, ◌==◌, ◌&&◌, nat_le, Bool, true, false, not, if◌then◌else◌, List, [], ◌∷◌, ◌++◌, map, is_some, Option, Some, None}
use Rattle.std.specs.Global.{Global}
use Rattle.std.specs.List.{All, filter, list_any}
use Rattle.control_functions.specs.Functions.{function_of_csi}
use Rattle.esc_account.specs.Brief.{brief}
use Rattle.esc_account.specs.Entries.{Entry}
use Rattle.esc_account.specs.Judges.{GoesBy}
use Rattle.esc_account.specs.Rows.{HasRowsOf, Named, has_row, joined_entries, rows_of, under}
use Rattle.esc_account.specs.Rules.{is_written}
use Rattle.esc_account.specs.Tables.{HasAll}
use Rattle.esc_account.specs.declared.fate.Fate.{Fate}
use Rattle.esc_account.specs.declared.fate.Fate.TheVariants as fates
use Rattle.esc_account.specs.declared.row.Row.{Row}
use Rattle.esc_account.specs.declared.table.Table.{Table}
use Rattle.esc_actions.specs.Readings.{reading_within}
use Rattle.esc_actions.specs.Values.{Value, csi}
use Rattle.esc_frame.specs.Segments.{AreSegments, Segment as Shape, bytes_of, is_finished, joined_bytes}
use Rattle.esc_sanitize.specs.declared.judging.Judging.{Judging}
use Rattle.esc_sanitize.specs.declared.options.FilterOptions.{FilterOptions}
use Rattle.esc_segments.specs.declared.item.Segment.{Segment as Item}
use Rattle.esc_segments.specs.Items.{IsItem, kind_of}
use Rattle.esc_segments.specs.declared.kind.SegmentKind.{SegmentKind}
use Rattle.esc_sequences.specs.Csis.{csi_of, unspecified}
use Rattle.esc_values.specs.declared.csi_param.CsiParam.{CsiParam}
use Rattle.escfilter.specs.Choices.{admits_choice}
use Rattle.escfilter.specs.Names.{Title, bare, has_key, kind_title, sequence_title, title_of, value_title}
use Rattle.escfilter.specs.contracts.name.NamePartialEq.TheImpl as name_test
use Rattle.escfilter.specs.declared.name.Name.{Name}
use Rattle.escfilter.specs.declared.named_groups.Choice.{Choice}
use Rattle.escfilter.specs.declared.options.Options.{Options}
use Rattle.escfilter.specs.declared.rows.Rows.{Rows}

-- it is in the output, in another spelling
abbrev pub is_respelled : Fate → Bool
is_respelled fates.Respelled = true
is_respelled _ = false

abbrev pub is_told : Entry → Bool
is_told e = not (is_respelled e.fate)

-- the entries that have a row
abbrev pub entries_with_row : List Entry → List Entry
entries_with_row es = filter is_told es

-- ---- names

-- something is written of the value
abbrev pub writes : FilterOptions Choice → Value Global → Bool
writes o v = is_written o.by_lines o.guard (admits_choice o.policy) v

-- the same by a judge
abbrev pub judge_writes : Judging Choice Global → Value Global → Bool
judge_writes j v =
    is_written j.policy.by_lines j.policy.guard (admits_choice j.policy.policy) v

-- the first of these of which nothing is written
abbrev pub first_out : {A : Type 0} → (Value A → Bool) → List (Value A) → Option (Value A)
first_out written [] = None
first_out written (v ∷ vs) = if written v then first_out written vs else Some v

-- it means something that is not in the output as itself
abbrev pub is_meant : Fate → Bool
is_meant fates.LeftOut = true
is_meant fates.Shown = true
is_meant _ = false

-- as this value, else so
abbrev pub title_or : {A : Type 0} → Title → Option (Value A) → Title
title_or t None = t
title_or t (Some v) = value_title v

-- A segment of this kind, these bytes and these values, which became this, is called as its first
-- value of which nothing is written, and else as what it is.
abbrev pub title_by : {A : Type 0} → (Value A → Bool) → Fate → SegmentKind → List ℕ
    → List (Value A) → Title
title_by written f k bytes vs =
    if is_meant f then title_or (kind_title k bytes) (first_out written vs)
    else kind_title k bytes

-- it is the name of the first value of the segment of which nothing is written, and there is one
abbrev pub IsOutFirst : FilterOptions Choice → Item → Name → Type 0
IsOutFirst o x n = (g : Shape) (gs : List Shape) (t : Title) → AreSegments (g ∷ gs)
    → IsItem x g (joined_bytes gs) → title_of n ≡ title_or t (first_out (writes o)
    (brief (reading_within (Some o.limit) g (is_finished g (joined_bytes gs)))))

-- It is the name of a control sequence of these parameters and this final byte, which are of one
-- function, and which does not pass.
pub record IsLeftName (c : Choice) (es : List CsiParam) (last : ℕ) (n : Name) : Type 0 where
  pub title : title_of n ≡ sequence_title (function_of_csi (unspecified es false last))
  pub one : (last == 0x6d) ≡ false
  pub stays : list_any (λ v. admits_choice {A = Global} c (csi v))
      (csi_of es false last) ≡ false

-- the entry is of this segment, which these follow
pub record IsOf (e : Entry) (g : Shape) (gs : List Shape) : Type 0 where
  pub kind : e.kind ≡ kind_of g
  pub bytes : e.bytes ≡ bytes_of g
  pub finished : e.finished ≡ is_finished g (joined_bytes gs)

-- the title of an entry, whose segment has these values: a terminator has that of its kind
abbrev pub title_in : FilterOptions Choice → Entry → List (Value Global) → Title
title_in o e vs = if e.is_end then kind_title e.kind e.bytes
    else title_by (writes o) e.fate e.kind e.bytes vs

-- it has the name that its segment tells, by its reading under the limit: but of data of a device
-- control string the first byte is read alone
pub record IsCalled (o : FilterOptions Choice) (n : Named Name) : Type 0 where
  pub title : (g : Shape) (gs : List Shape) → AreSegments (g ∷ gs) → IsOf n.entry g gs
      → title_of n.name ≡ title_in o n.entry
      (brief (reading_within (Some o.limit) g (is_finished g (joined_bytes gs))))

-- these are the entries, under their names
pub record AreCalled (o : FilterOptions Choice) (ns : List (Named Name)) (es : List Entry) : Type 0
  where
    pub entries : map (λ n. n.entry) ns ≡ es
    pub each : All (IsCalled o) ns

-- ---- names with keys

-- whether these are one name
abbrev pub are_one_name : Name → Name → Bool
are_one_name = name_test.ghosts.eq

-- how many rows have a name with a key
abbrev pub keys_count : List (Row Name) → ℕ
keys_count [] = 0
keys_count (r ∷ rows) = if has_key (title_of r.name) then 1 + keys_count rows else keys_count rows

-- The name of the row of this fate and name, where there are these rows: without its key, where no
-- row has them and 64 have a key.
abbrev pub kept_name : List (Row Name) → Fate → Name → Name
kept_name rows f n =
    if has_key (title_of n) && (not (has_row are_one_name rows f n) && nat_le 64 (keys_count rows))
    then bare n else n

-- the entry under the name of its row, after these
abbrev pub kept_one : List (Named Name) → Named Name → Named Name
kept_one done n =
    under (kept_name (rows_of are_one_name (joined_entries done)) n.entry.fate n.name) n.entry

abbrev pub kept_after : List (Named Name) → List (Named Name) → List (Named Name)
kept_after done [] = []
kept_after done (n ∷ ns) = kept_one done n ∷ kept_after (done ++ kept_one done n ∷ []) ns

-- these entries, each under the name of its row
abbrev pub entries_by_row : List (Named Name) → List (Named Name)
entries_by_row ns = kept_after [] ns

-- ---- reports

-- the rows are those of these entries, under the names that their segments tell
pub record AreRowsOf (o : FilterOptions Choice) (rows : List (Row Name)) (es : List Entry) : Type 0
  where
    pub names : List (Named Name)
    pub called : AreCalled o names es
    pub is : rows ≡ rows_of are_one_name (joined_entries (entries_by_row names))

-- the same of a table, which goes on
pub record Names (o : FilterOptions Choice) (t : Table Name Global) (es : List Entry) : Type 0
  where
    pub names : List (Named Name)
    pub called : AreCalled o names es
    pub has : HasRowsOf are_one_name t (entries_by_row names)
    pub few : keys_count t.rows.items ≤ 64

-- the judge goes by these options
abbrev pub IsJudge : FilterOptions Choice → Judging Choice Global → Type 0
IsJudge o j = GoesBy j.policy o.by_lines o.guard o.limit o.policy

-- where a report is asked for, the table has the rows of these entries, but for what is respelled,
-- and all that they have of each fate
pub record IsReport (o : Options) (j : Judging Choice Global) (t : Table Name Global)
    (es : List Entry) : Type 0 where
  pub judge : IsJudge o.filter j
  pub all : is_some o.report ≡ true → HasAll t (entries_with_row es)
  pub named : is_some o.report ≡ true → Names o.filter t (entries_with_row es)

abbrev pub HasRows : Rows → List Entry → Type 0
HasRows r es = IsReport r.options r.judge r.table es
