-- An actor may be given some events: a promise P holds of one of the things that the machine may
-- keep before a call. No contract of `VTParser` cites this.
use Rattle.std.specs.Prelude.{ℕ, ◌≡◌, true, List, [], take, Option}
use Rattle.esc_frame.specs.declared.machine.Machine.{Machine}
use Rattle.esc_frame.specs.declared.unfinished.body.CsiBody.{CsiBody}
use Rattle.esc_frame.specs.declared.unfinished.header.DcsHeader.{DcsHeader}
use Rattle.esc_frame.specs.declared.unfinished.store.TextRoom.{Ghosts as Keeper}
use Rattle.esc_frame.specs.Classes.{without_noise, bytes_of_class, is_text}
use Rattle.esc_frame.specs.Leads.{Unfinished, Holds}
use Rattle.esc_frame.specs.Leads.Unfinished.{InEscape, InCsi, InOsc, InOscPending, InDcs, InData, InApc}
use Rattle.esc_frame.specs.Limits.{is_read}
use Rattle.esc_frame.specs.Machine.Prefixes.{prefix_of}
use Rattle.esc_frame.specs.Machine.Keeping.{StoresText}
use Rattle.esc_frame.specs.Machine.Keeps.{Keeps, KeepsBody, KeepsDcs, parameters_of}
use Rattle.esc_frame.specs.Machine.Moves.{after_all, events_all}
use Rattle.esc_frame.specs.Segments.{Opener, OscUnit, text_of}

-- says P of an unfinished segment that the machine keeps
abbrev pub KeptSegment : {K A : Type 0} → Keeper K → Machine K A → (Unfinished → Type 0)
    → Type 0
KeptSegment K machine P = (u : Unfinished) × Holds K.keeps machine.limit machine u × P u

-- says P of the segment that was unfinished before the first bytes of the rest, a run of this
-- length that emits nothing, and that is kept with these
abbrev pub KeptAfter : {K A : Type 0} → Keeper K → List ℕ → ℕ → Machine K A
    → (Unfinished → Type 0)
    → Type 0
KeptAfter K rest run machine P = (u : Unfinished)
    × Holds K.keeps machine.limit machine (after_all u (take run rest))
    × (events_all machine.limit u (take run rest) ≡ []) × P u

-- a text that the store keeps
abbrev pub KeptText : {K : Type 0} → Keeper K → K → (Option ℕ → List ℕ → Type 0) → Type 0
KeptText K store P = (limit : Option ℕ) × (t : List ℕ) × K.keeps limit store t × P limit t

-- ---- escape: the intermediates

abbrev pub KeptEscape : {K A : Type 0} → Machine K A → (Option ℕ → Unfinished → Type 0) → Type 0
KeptEscape machine P = (limit : Option ℕ) × (x : List ℕ)
    × Keeps machine.intermediates (without_noise x)
    × P limit (InEscape x)

-- ---- csi: the parameters

abbrev pub KeptBody : CsiBody → (List ℕ → Type 0) → Type 0
KeptBody body P = (x : List ℕ) × KeepsBody body x × P x

abbrev pub KeptCsi : {K A : Type 0} → Machine K A → (Option ℕ → Unfinished → Type 0) → Type 0
KeptCsi machine P = (limit : Option ℕ) × (o : Opener) × (x : List ℕ)
    × KeepsBody machine.body (without_noise x) × P limit (InCsi o x)

-- ---- osc string: the text

abbrev pub KeptOsc : {K A : Type 0} → Keeper K → Machine K A → (Unfinished → Type 0)
    → Type 0
KeptOsc K machine P = (o : Opener) × (ps : List OscUnit)
    × StoresText K machine (text_of ps) × P (InOsc o ps)

abbrev pub KeptOscUnits : {K A : Type 0} → Keeper K → Machine K A
    → (Opener → List OscUnit → Type 0)
    → Type 0
KeptOscUnits K machine P = (o : Opener) × (ps : List OscUnit)
    × StoresText K machine (text_of ps) × P o ps

-- in which a UTF-8 sequence has begun
abbrev pub KeptOscPending : {K A : Type 0} → Keeper K → Machine K A
    → (Unfinished → Type 0)
    → Type 0
KeptOscPending K machine P = (o : Opener) × (ps : List OscUnit)
    × StoresText K machine (text_of ps)
    × P (InOscPending o ps (prefix_of machine.pending))

-- says P of an OSC without text so far
abbrev pub NewOsc : (Unfinished → Type 0) → Type 0
NewOsc P = (o : Opener) × (ps : List OscUnit) × (text_of ps ≡ []) × P (InOsc o ps)

-- ---- apc string: the text

abbrev pub KeptApc : {K A : Type 0} → Keeper K → Machine K A → (Unfinished → Type 0)
    → Type 0
KeptApc K machine P = (o : Opener) × (d : List ℕ)
    × StoresText K machine (bytes_of_class is_text d) × P (InApc o d)

abbrev pub NewApc : (Unfinished → Type 0) → Type 0
NewApc P = (o : Opener) × (d : List ℕ) × (bytes_of_class is_text d ≡ []) × P (InApc o d)

-- ---- dcs entry, param and intermediate: the header

abbrev pub KeptDcs : {K A : Type 0} → Keeper K → Machine K A → (Unfinished → Type 0)
    → Type 0
KeptDcs K machine P = (o : Opener) × (x : List ℕ)
    × StoresText K machine (parameters_of (without_noise x))
    × KeepsDcs machine.header (without_noise x)
    × P (InDcs o x)

-- a header that is hooked, within a store and a `DcsHeader`
abbrev pub KeptHeader : {K : Type 0} → Keeper K → K → DcsHeader → (List ℕ → Type 0) → Type 0
KeptHeader K parameters header P = (limit : Option ℕ) × (x : List ℕ)
    × K.keeps limit parameters (parameters_of x) × KeepsDcs header x × (is_read limit x ≡ true)
    × P x

-- ---- dcs passthrough: after a header that was hooked

abbrev pub KeptPassthrough : (Option ℕ → Unfinished → Type 0) → Type 0
KeptPassthrough P = (limit : Option ℕ) × (o : Opener) × (x : List ℕ) × (f : ℕ) × (d : List ℕ)
    × (is_read limit (without_noise x) ≡ true) × P limit (InData o x f d)
