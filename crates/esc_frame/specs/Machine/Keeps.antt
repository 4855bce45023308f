-- The machine's parts keep some of the bytes that they were given. Only private contracts cite
-- this.
use Rattle.std.specs.Prelude.{ℕ, ◌≡◌, ◌+◌, ◌-◌, ◌*◌, Bool, true, false, not, nat_lt, if◌then◌else◌, List, [], ◌∷◌, ◌++◌, length, take, Option, Some, None}
use Rattle.std.specs.Prelude.{pos, vec_capacity}
use Rattle.std.specs.List.{filter}
use Rattle.esc_values.specs.declared.csi_param.CsiParam.{CsiParam}
use Rattle.esc_values.specs.declared.csi_param.CsiParam.TheVariants.{Integer, P}
use Rattle.esc_frame.specs.declared.unfinished.intermediates.Intermediates.{Intermediates}
use Rattle.esc_frame.specs.declared.unfinished.csi_params.Params.{Params}
use Rattle.esc_frame.specs.declared.unfinished.kept.HeapBuffer.{HeapBuffer}
use Rattle.esc_frame.specs.declared.unfinished.body.CsiBody.{CsiBody}
use Rattle.esc_frame.specs.declared.unfinished.body.Form.{Form}
use Rattle.esc_frame.specs.declared.unfinished.header.DcsHeader.{DcsHeader}
use Rattle.esc_frame.specs.declared.unfinished.body.Form.TheVariants as form
use Rattle.esc_frame.specs.Limits.{is_within}
use Rattle.esc_frame.specs.Bodies.{is_digit, capped_at_i64, is_private_prefix, is_csi_parameter, is_dcs_parameter, is_intermediate_byte}

-- the first two of these bytes are kept, and whether there are more
abbrev pub Keeps : Intermediates → List ℕ → Type 0
Keeps i bytes = (take i.kept i.bytes ≡ take 2 bytes) × (i.ignored ≡ nat_lt 2 (length bytes))
    × (i.kept ≡ length (take 2 bytes))

-- the parameters that no further digit can change, and the number of the run of digits at the end
abbrev pub params_with : Option ℕ → List CsiParam
params_with None = []
params_with (Some n) = Integer (pos (capped_at_i64 n)) ∷ []

-- the number of the run of digits at the end, or 0
abbrev pub number_at : Option ℕ → ℕ
number_at None = 0
number_at (Some n) = n

abbrev pub next_number_of : Option ℕ → ℕ → Option ℕ
next_number_of None b = if is_digit b then Some (b - 0x30) else None
next_number_of (Some n) b = if is_digit b then Some (10 * n + (b - 0x30)) else None

abbrev pub closed_by : Option ℕ → ℕ → List CsiParam
closed_by o b = if is_digit b then [] else params_with o ++ P b ∷ []

abbrev pub number_of_run : Option ℕ → List ℕ → Option ℕ
number_of_run o [] = o
number_of_run o (b ∷ bs) = number_of_run (next_number_of o b) bs

abbrev pub closed_of : Option ℕ → List ℕ → List CsiParam
closed_of o [] = []
closed_of o (b ∷ bs) = closed_by o b ++ closed_of (next_number_of o b) bs

abbrev pub IsNumber : Params → Option ℕ → Type 0
IsNumber e None = e.is_open ≡ false
IsNumber e (Some n) = (e.is_open ≡ true) × (e.number ≡ capped_at_i64 n)

-- these are the first parameters of the list, as many as are kept, and whether it has more
pub record AreFirst (items : List CsiParam) (truncated : Bool) (limit : ℕ)
    (all : List CsiParam) : Type 0 where
  pub kept : items ≡ take limit all
  pub more : truncated ≡ nat_lt limit (length all)

abbrev pub KeepsEntries : Params → List ℕ → Type 0
KeepsEntries e x = AreFirst e.items e.is_truncated e.limit (closed_of None x)
    × IsNumber e (number_of_run None x) × (e.limit ≡ 256)

-- how far a body, or a header, has come in its form, byte by byte, where these are its parameter
-- bytes
abbrev pub next_form_by : (ℕ → Bool) → Form → ℕ → Form
next_form_by p form.Empty b =
    if is_private_prefix b then form.Parameters else if p b then form.Parameters else if
    is_intermediate_byte b then form.Intermediates else form.Malformed
next_form_by p form.Parameters b = if p b then form.Parameters else if is_intermediate_byte b then
    form.Intermediates else form.Malformed
next_form_by p form.Intermediates b =
    if is_intermediate_byte b then form.Intermediates else form.Malformed
next_form_by p form.Malformed b = form.Malformed

abbrev pub form_by : (ℕ → Bool) → Form → List ℕ → Form
form_by p f [] = f
form_by p f (b ∷ bs) = form_by p (next_form_by p f b) bs

-- the form of a CSI
abbrev pub next_form : Form → ℕ → Form
next_form f b = next_form_by is_csi_parameter f b

abbrev pub form_from : Form → List ℕ → Form
form_from f x = form_by is_csi_parameter f x

abbrev pub is_formed : Form → Bool
is_formed form.Malformed = false
is_formed _ = true

-- the parameters and the form of a body so far
abbrev pub KeepsBody : CsiBody → List ℕ → Type 0
KeepsBody e x = KeepsEntries e.csi_params x × (e.form ≡ form_from form.Empty x)

-- says that this text is kept, each byte of which counts; or nothing, not even memory, if it is
-- past the limit
pub record KeepsText {A : Type 0} (limit : Option ℕ) (k : HeapBuffer A) (text : List ℕ) : Type
    0 where
  pub over : k.is_over ≡ not (is_within limit (length text))
  pub kept : k.is_over ≡ false → k.bytes.items ≡ text
  pub none : k.is_over ≡ true → k.bytes.items ≡ []
  pub freed : k.is_over ≡ true → vec_capacity k.bytes ≡ 0

-- the parameter bytes of a DCS's header, and the others
abbrev pub parameters_of : List ℕ → List ℕ
parameters_of x = filter is_dcs_parameter x

abbrev pub others_of : List ℕ → List ℕ
others_of x = filter (λ b. not (is_dcs_parameter b)) x

-- the form of a DCS's header so far, and its bytes that are no parameter bytes
abbrev pub KeepsDcs : DcsHeader → List ℕ → Type 0
KeepsDcs h x = Keeps h.intermediates (others_of x)
    × (h.form ≡ form_by is_dcs_parameter form.Empty x)
