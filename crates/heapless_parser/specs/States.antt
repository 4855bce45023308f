-- The part of a stream that a parser keeps.
use Rattle.std.specs.Prelude.{ℕ, ◌≡◌, ◌≤◌, ◌/◌, true, false, nat_lt, if◌then◌else◌, List, [], ◌++◌, length, take, drop, map, Option, Some, None}
use Rattle.esc_values.specs.declared.csi_param.CsiParam.{CsiParam}
use Rattle.esc_frame.specs.declared.unfinished.body.Form.TheVariants as form
use Rattle.esc_frame.specs.declared.machine.State.TheVariants as state
use Rattle.esc_frame.specs.Bodies.{capped_at_i64, is_dcs_parameter}
use Rattle.esc_frame.specs.Classes.{without_noise, bytes_of_class, is_text}
use Rattle.esc_frame.specs.Events.{Event}
use Rattle.esc_frame.specs.Leads.{Unfinished}
use Rattle.esc_frame.specs.Leads.Unfinished.{Ground, Pending, InEscape, InCsi, InOsc, InOscPending, InDcs, InData, InApc, InIgnored}
use Rattle.esc_frame.specs.Limits.{is_read}
use Rattle.esc_frame.specs.Machine.Keeps.{AreFirst, closed_of, number_of_run, form_from, form_by, parameters_of, others_of}
use Rattle.esc_frame.specs.Machine.Moves.{after_all}
use Rattle.esc_frame.specs.Segments.{text_of, is_empty}
use Rattle.esc_frame.specs.Stream.{events_within}
use Rattle.heapless_parser.specs.declared.parser.EscParser.{EscParser}
use Rattle.heapless_parser.specs.Numbers.{state_numbered, form_numbered, begun_bytes}
use Rattle.heapless_parser.specs.Texts.{KeepsBorrowed}
use Rattle.heapless_parser.specs.Emitted.{param_of, queued_of}

abbrev pub begun_in : EscParser → List ℕ
begun_in p = begun_bytes p.pending p.first p.second p.third

-- the parser keeps the first two of these bytes, and whether there are more
abbrev pub FirstIn : EscParser → List ℕ → Type 0
FirstIn p x = (take p.kept p.intermediates ≡ take 2 x) × (p.has_more ≡ nat_lt 2 (length x))
    × (p.kept ≡ length (take 2 x))

-- The parameters that are kept are the first of these, and the parser says whether there are more.
abbrev pub ParamsIn : EscParser → List CsiParam → Type 0
ParamsIn p all = (p.count ≤ 256)
    × AreFirst (map param_of (take p.count p.csi_params)) p.is_truncated 256 all

-- the parser keeps the number of the run of digits at the end
abbrev pub NumberIn : EscParser → Option ℕ → Type 0
NumberIn p None = p.is_open ≡ false
NumberIn p (Some n) = (p.is_open ≡ true) × (p.number ≡ capped_at_i64 n)

-- the parser keeps the parameters and the form of the body of a control sequence so far
abbrev pub BodyIn : EscParser → List ℕ → Type 0
BodyIn p x =
    (p.count ≤ 256)
    × AreFirst (map param_of (take p.count p.csi_params)) p.is_truncated 256 (closed_of None x)
    × NumberIn p (number_of_run None x)
    × (form_numbered p.form ≡ form_from form.Empty x)

-- the parser keeps the form of the header of a device control string so far, and its bytes that are
-- no parameter bytes
abbrev pub HeaderIn : EscParser → List ℕ → Type 0
HeaderIn p x = FirstIn p (others_of x)
    × (form_numbered p.form ≡ form_by is_dcs_parameter form.Empty x)

abbrev pub TextIn : EscParser → List ℕ → List ℕ → Type 0
TextIn p memory t = KeepsBorrowed (Some (length memory)) p.is_over p.text memory t

-- The parser, and the memory that it was lent, keep this unfinished segment, and of a string no
-- more than has room in the memory.
abbrev pub KeptIn : EscParser → List ℕ → Unfinished → Type 0
KeptIn p memory Ground = (state_numbered p.state ≡ state.Ground) × (begun_in p ≡ [])
KeptIn p memory (Pending f) = (state_numbered p.state ≡ state.Ground) × (begun_in p ≡ f)
    × (is_empty f ≡ false)
KeptIn p memory (InEscape x) = (state_numbered p.state ≡ state.Escape) × FirstIn p (without_noise x)
KeptIn p memory (InCsi o x) = (state_numbered p.state ≡ state.Csi) × BodyIn p (without_noise x)
KeptIn p memory (InDcs o x) = (state_numbered p.state ≡ state.Dcs)
    × TextIn p memory (parameters_of (without_noise x)) × HeaderIn p (without_noise x)
KeptIn p memory (InData o x f d) = state_numbered p.state
    ≡ (if is_read (Some (length memory)) (without_noise x) then state.Data else state.Ignored)
KeptIn p memory (InApc o d) = (state_numbered p.state ≡ state.Apc)
    × TextIn p memory (bytes_of_class is_text d)
KeptIn p memory (InIgnored k o d) = state_numbered p.state ≡ state.Ignored
KeptIn p memory (InOsc o ps) = (state_numbered p.state ≡ state.Osc) × TextIn p memory (text_of ps)
    × (begun_in p ≡ [])
KeptIn p memory (InOscPending o ps f) =
    (state_numbered p.state ≡ state.Osc) × TextIn p memory (text_of ps) × (begun_in p ≡ f)
    × (is_empty f ≡ false)

-- The parser may have been fed this stream, and have handed out these events: it keeps the
-- unfinished segment of the stream, and the events of the stream, with the memory's length as the
-- limit, are these and the queued one.
unfoldable pub HasConsumed : List ℕ → List Event → EscParser → List ℕ → Type 0
HasConsumed s es p memory =
    (p.has_failed ≡ false) × KeptIn p memory (after_all Ground s)
    × (events_within (Some (length memory)) s ≡ es ++ queued_of p.queued_kind p.queued_value)

-- ---- the two halves of a buffer

-- the half that keeps the unfinished string
abbrev pub lower : List ℕ → List ℕ
lower buffer = take (length buffer / 2) buffer

-- the half that a text is copied to when it is handed out
abbrev pub upper : List ℕ → List ℕ
upper buffer = drop (length buffer / 2) buffer
