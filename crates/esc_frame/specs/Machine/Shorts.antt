-- Bodies of control sequences that have few parameters. Contracts of parts cite it, here and in
-- `heapless_parser`.
use Rattle.std.specs.Prelude.{ℕ, ◌≡◌, ◌<◌, ◌≤◌, ◌+◌, ◌++◌, Bool, true, false, List, None, length, take, map, slice_index}
use Rattle.std.specs.List.{list_all}
use Rattle.esc_values.specs.declared.csi_param.CsiParam.{CsiParam}
use Rattle.esc_frame.specs.declared.unfinished.body.Form.{Form}
use Rattle.esc_frame.specs.declared.unfinished.body.Form.TheVariants as form
use Rattle.esc_frame.specs.declared.unfinished.fields.Body.{Body}
use Rattle.esc_frame.specs.declared.unfinished.fields.Field.{Field}
use Rattle.esc_frame.specs.Changed.{Changed}
use Rattle.esc_frame.specs.Bodies.{csi_params, is_csi_body, kept_csi_params, has_more_csi_params, capped_at_i64, is_digit, value_after}
use Rattle.esc_frame.specs.Machine.Keeps.{number_of_run, form_from}
use Rattle.esc_frame.specs.Scans.{is_body_byte}

-- a parameter byte may follow it
abbrev pub is_early : Form → Bool
is_early form.Empty = true
is_early form.Parameters = true
is_early form.Intermediates = false
is_early form.Malformed = false

-- these are the parameters of the bytes, which are a private prefix, or none, and parameter bytes
pub record IsAfter (items : List CsiParam) (x : List ℕ) : Type 0 where
  pub all : items ≡ csi_params x
  pub form : is_early (form_from form.Empty x) ≡ true
  pub body : list_all is_body_byte x ≡ true

-- and it ends in no run of digits
pub record IsPrefix (items : List CsiParam) (x : List ℕ) : Type 0 where
  pub so : IsAfter items x
  pub closed : number_of_run None x ≡ None

-- says that these are the parameters of a body, and that all of them are kept
pub record IsShort (items : List CsiParam) (x : List ℕ) : Type 0 where
  pub kept : items ≡ kept_csi_params x
  pub more : false ≡ has_more_csi_params x
  pub form : is_csi_body x ≡ true
  pub body : list_all is_body_byte x ≡ true

-- the bytes start with so many digits, and this is the number that they write
pub record ReadsNumber (number : ℕ) (run : ℕ) (rest : List ℕ) : Type 0 where
  pub count : (0 < run) × (run ≤ length rest)
  pub digits : list_all is_digit (take run rest) ≡ true
  pub value : number ≡ capped_at_i64 (value_after 0 (take run rest))
  pub small : number ≤ 0x7fff_ffff_ffff_ffff

-- ---- reading into a list, whose entries are these parameters

-- the first so many of them
abbrev pub first_params : {E : Type 0} → (E → CsiParam) → ℕ → List E → List CsiParam
first_params param n params = map param (take n params)

-- After so many of the bytes this one comes; nothing is said where it is 0.
abbrev pub IsFollowed : List ℕ → ℕ → ℕ → Type 0
IsFollowed bytes taken after = 0 < after
    → (taken < length bytes) × (slice_index bytes taken ≡ after)

-- So many of the bytes, from the first, are digits that write this number, and then this byte
-- comes; nothing is said of it where it is 0.
pub record ReadsFollowed (bytes : List ℕ) (number taken next : ℕ) : Type 0 where
  pub reads : ReadsNumber number taken bytes
  pub after : IsFollowed bytes taken next

-- The number that the first digits write was put after so many parameters. There are so many
-- digits, and then this byte comes; nothing is said of it where it is 0.
pub record PutsNumber {E : Type 0} (param : E → CsiParam) (params : Changed (List E)) (count : ℕ)
    (rest : List ℕ) (taken next : ℕ) : Type 0 where
  -- at least one digit
  pub some : (0 < taken) × (taken ≤ length rest)
  pub after : IsFollowed rest taken next
  -- a prefix of a body becomes one that ends in a number
  pub keeps : (x : List ℕ) → IsPrefix (first_params param count params.entry.now) x
      → IsAfter (first_params param (count + 1) params.exit.now) (x ++ take taken rest)

-- The first field, digits and a separator, as far as there are any, was put after so many
-- parameters.
pub record PutsField {E : Type 0} (param : E → CsiParam) (params : Changed (List E)) (count : ℕ)
    (rest : List ℕ) (field : Field) : Type 0 where
  -- it is no longer than the bytes, and has two parameters at most
  pub few : (field.length ≤ length rest) × (field.count ≤ count + 2)
  -- after a separator the body goes on
  pub goes_on : field.goes_on ≡ true → (0 < field.length) × ((x : List ℕ)
      → IsPrefix (first_params param count params.entry.now) x
      → IsPrefix (first_params param field.count params.exit.now) (x ++ take field.length rest))
  -- else it ends here
  pub ends : field.goes_on ≡ false → (x : List ℕ)
      → IsPrefix (first_params param count params.entry.now) x
      → IsAfter (first_params param field.count params.exit.now) (x ++ take field.length rest)
  pub after : IsFollowed rest field.length field.after

-- The body of a short control sequence that comes first was put where the parameters are.
pub record PutsBody {E : Type 0} (param : E → CsiParam) (params : Changed (List E)) (rest : List ℕ)
    (body : Body) : Type 0 where
  -- it is no longer than the bytes
  pub few : body.length ≤ length rest
  -- there is a place for each parameter, and no event has more
  pub count : (body.count ≤ length params.exit.now) × (body.count ≤ 256)
  pub keeps : IsShort (first_params param body.count params.exit.now) (take body.length rest)
  pub after : IsFollowed rest body.length body.after
