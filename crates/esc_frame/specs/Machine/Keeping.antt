-- A promise P holds of each thing that the machine may keep before a call. Only private contracts
-- cite this.
use Rattle.std.specs.Prelude.{ℕ, ◌≡◌, true, false, List, [], ◌+◌, take, Bool, Option}
use Rattle.esc_frame.specs.declared.classes.Kind.{Kind}
use Rattle.esc_frame.specs.declared.unfinished.header.DcsHeader.{DcsHeader}
use Rattle.esc_frame.specs.declared.machine.Machine.{Machine}
use Rattle.esc_frame.specs.declared.unfinished.store.TextRoom.{Ghosts as Keeper}
use Rattle.esc_frame.specs.Changed.{Changed}
use Rattle.esc_frame.specs.Classes.{without_noise, bytes_of_class, is_text}
use Rattle.esc_frame.specs.Leads.{Unfinished, Holds}
use Rattle.esc_frame.specs.Leads.Unfinished.{InEscape, InCsi, InOsc, InOscPending, InDcs, InData, InApc, InIgnored}
use Rattle.esc_frame.specs.Limits.{is_read}
use Rattle.esc_frame.specs.Machine.Prefixes.{prefix_of}
use Rattle.esc_frame.specs.Machine.Keeps.{Keeps, KeepsBody, KeepsDcs, parameters_of}
use Rattle.esc_frame.specs.Machine.Moves.{after_all, is_borrowable, IsStill, IsQuietRun}
use Rattle.esc_frame.specs.Segments.{Opener, OscUnit, text_of}

-- the store of the machine keeps this text, as far as its limit allows
abbrev pub StoresText : {K A : Type 0} → Keeper K → Machine K A → List ℕ → Type 0
StoresText K machine text = K.keeps machine.limit machine.text text

-- whatever is unfinished
abbrev pub Holding : {K A : Type 0} → Keeper K → Changed (Machine K A)
    → (Unfinished → Type 0)
    → Type 0
Holding K self P = (u : Unfinished) → Holds K.keeps self.entry.now.limit self.entry.now u → P u

-- whatever was unfinished before the first bytes of the rest, a run of this length, and is now kept
-- with these
abbrev pub HoldingAfter : {K A : Type 0} → Keeper K → List ℕ → ℕ → Changed (Machine K A)
    → (Unfinished → Type 0)
    → Type 0
HoldingAfter K rest run self P =
    (u : Unfinished)
    → Holds K.keeps self.entry.now.limit self.entry.now (after_all u (take run rest))
    → IsQuietRun self.entry.now.limit u rest run
    → P u

-- whatever may be
abbrev pub AfterStill : Option ℕ → List ℕ → ℕ → (Unfinished → Type 0) → Type 0
AfterStill limit rest run P = (u : Unfinished) → IsStill limit u rest (run + 1) → P u

-- where not all strings in the rest can be borrowed
abbrev pub Unborrowed : List ℕ → (Unfinished → Type 0) → Unfinished → Type 0
Unborrowed rest P u = is_borrowable u rest ≡ false → P u

-- any text that the store keeps
abbrev pub KeepingText : {K : Type 0} → Keeper K → K → (Option ℕ → List ℕ → Type 0) → Type 0
KeepingText K store P = (limit : Option ℕ) (t : List ℕ) → K.keeps limit store t → P limit t

-- ---- escape: the intermediates, under any limit, whoever may stop it

abbrev pub KeepingEscape : {K A : Type 0} → Changed (Machine K A)
    → (Option ℕ → Bool → Unfinished → Type 0)
    → Type 0
KeepingEscape self P =
    (limit : Option ℕ) (own : Bool) (x : List ℕ)
    → Keeps self.entry.now.intermediates (without_noise x)
    → P limit own (InEscape x)

-- ---- csi: the parameters, under any limit

abbrev pub KeepingCsi : {K A : Type 0} → Changed (Machine K A) → (Option ℕ → Unfinished → Type 0)
    → Type 0
KeepingCsi self P =
    (limit : Option ℕ) (o : Opener) (x : List ℕ) → KeepsBody self.entry.now.body (without_noise x)
    → P limit (InCsi o x)

-- ---- osc string: the text

abbrev pub KeepingOsc : {K A : Type 0} → Keeper K → Changed (Machine K A)
    → (Unfinished → Type 0)
    → Type 0
KeepingOsc K self P =
    (o : Opener) (ps : List OscUnit) → StoresText K self.entry.now (text_of ps)
    → P (InOsc o ps)

-- in which a UTF-8 sequence has begun
abbrev pub KeepingOscPending : {K A : Type 0} → Keeper K → Changed (Machine K A)
    → (Unfinished → Type 0)
    → Type 0
KeepingOscPending K self P =
    (o : Opener) (ps : List OscUnit) (f : List ℕ)
    → StoresText K self.entry.now (text_of ps) → prefix_of self.entry.now.pending ≡ f
    → P (InOscPending o ps f)

-- says P of an OSC without text so far
abbrev pub FreshOsc : (Unfinished → Type 0) → Type 0
FreshOsc P = (o : Opener) (ps : List OscUnit) → text_of ps ≡ [] → P (InOsc o ps)

-- whatever is kept of it
abbrev pub AnyOsc : (Unfinished → Type 0) → Type 0
AnyOsc P = (o : Opener) (ps : List OscUnit) → P (InOsc o ps)

-- ---- apc string: the text

abbrev pub KeepingApc : {K A : Type 0} → Keeper K → Changed (Machine K A)
    → (Unfinished → Type 0)
    → Type 0
KeepingApc K self P =
    (o : Opener) (d : List ℕ) → StoresText K self.entry.now (bytes_of_class is_text d)
    → P (InApc o d)

-- says P of an APC without text so far
abbrev pub FreshApc : (Unfinished → Type 0) → Type 0
FreshApc P = (o : Opener) (d : List ℕ) → bytes_of_class is_text d ≡ [] → P (InApc o d)

-- whatever is kept of it
abbrev pub AnyApc : (Unfinished → Type 0) → Type 0
AnyApc P = (o : Opener) (d : List ℕ) → P (InApc o d)

-- ---- dcs entry, param and intermediate: the header

abbrev pub KeepingDcs : {K A : Type 0} → Keeper K → Changed (Machine K A)
    → (Unfinished → Type 0)
    → Type 0
KeepingDcs K self P =
    (o : Opener) (x : List ℕ) → StoresText K self.entry.now (parameters_of (without_noise x))
    → KeepsDcs self.entry.now.header (without_noise x)
    → P (InDcs o x)

-- a header within a store and a `DcsHeader`
abbrev pub KeepingHeader : {K : Type 0} → Keeper K → K → DcsHeader → (Option ℕ → List ℕ → Type 0)
    → Type 0
KeepingHeader K parameters header P =
    (limit : Option ℕ) (x : List ℕ) → K.keeps limit parameters (parameters_of x)
    → KeepsDcs header x
    → P limit x

-- ---- dcs passthrough: after a header that was hooked

abbrev pub InPassthrough : (Option ℕ → Unfinished → Type 0) → Type 0
InPassthrough P =
    (limit : Option ℕ) (o : Opener) (x : List ℕ) (f : ℕ) (d : List ℕ)
    → is_read limit (without_noise x) ≡ true
    → P limit (InData o x f d)

-- ---- dcs ignore: after a header that was not

abbrev pub InDcsIgnore : (Option ℕ → Unfinished → Type 0) → Type 0
InDcsIgnore P =
    (limit : Option ℕ) (o : Opener) (x : List ℕ) (f : ℕ) (d : List ℕ)
    → is_read limit (without_noise x) ≡ false
    → P limit (InData o x f d)

-- ---- sos and pm strings, which are not kept

abbrev pub InIgnoredString : (Option ℕ → Unfinished → Type 0) → Type 0
InIgnoredString P =
    (limit : Option ℕ) (k : Kind) (o : Opener) (d : List ℕ) → P limit (InIgnored k o d)
