-- The bytes that a parser was fed.
use Rattle.std.specs.Prelude.{ℕ, ◌≡◌, ◌+◌, ◌≤◌, Bool, true, false, List, length, Option, None}
use Rattle.esc_frame.specs.Limits.{Counts, is_within, most}
use Rattle.esc_frame.specs.Stream.{HasConsumedWithin, HasFailed, events_within}
use Rattle.esc_frame.specs.declared.unfinished.count.Count.{Count}
use Rattle.esc_actions.specs.Meaning.{mode_from}
use Rattle.esc_actions.specs.Values.{Mode, plain, in_sixel, in_termcap, in_short, entered, data_count, mode_with_byte}
use Rattle.esc_device.specs.Leads.{LeadsShort}
use Rattle.xtgettcap.specs.Names.{HasConsumed as LeadsTermcap}
use Rattle.esc_parse.specs.Sixels.{Holds as HoldsSixel}
use Rattle.esc_parse.specs.declared.dcs_payload.DcsPayload.{DcsPayload}
use Rattle.esc_parse.specs.declared.dcs_payload.DcsPayload.TheVariants as dcs_payload
use Rattle.esc_parse.specs.declared.parser.Parser.{Parser}
use Rattle.esc_parse.specs.declared.unfinished.Unfinished.{Unfinished}

-- the count is the number of bytes of this data, and within the limit
abbrev pub CountsData : Option ℕ → Count → List ℕ → Type 0
CountsData limit c d = Counts limit c (length d) × (is_within limit (length d) ≡ true)

-- the payload is the unfinished string, or nothing of it if its data is past the limit
abbrev pub Keeps : {A : Type 0} → Option ℕ → DcsPayload A → Count → Mode → Type 0
Keeps limit dcs_payload.Nothing c plain = Unit {0}
Keeps limit (dcs_payload.Sixel b) c (in_sixel ps d) = HoldsSixel ps d b.value × CountsData limit c d
Keeps limit (dcs_payload.Termcap b) c (in_termcap d) = LeadsTermcap d b × CountsData limit c d
Keeps limit (dcs_payload.Short b) c (in_short ps is f d) =
    LeadsShort ps is f d b.value × CountsData limit c d
Keeps limit dcs_payload.Entered c entered = Unit {0}
Keeps limit dcs_payload.Over c m = is_within limit (data_count m) ≡ false
Keeps limit _ c _ = ⊥

-- a string begins, and none of its data is counted yet
abbrev pub Begins : {A : Type 0} → Option ℕ → DcsPayload A → Mode → Type 0
Begins limit h m = (c : Count) → Counts limit c 0 → Keeps limit h c m

-- the parser keeps the unfinished string, under this limit
unfoldable pub Hooks : {A : Type 0} → Option ℕ → Unfinished A → Mode → Type 0
Hooks limit u m = (u.limit ≡ limit) × Keeps limit u.dcs_payload u.data m

-- this holds for the unfinished string that is kept, under the limit
abbrev pub Hooking : {A : Type 0} → Unfinished A → (Option ℕ → Mode → Type 0) → Type 0
Hooking u P = (limit : Option ℕ) (m : Mode) → Hooks limit u m → P limit m

-- the payload is a mode
abbrev pub is_mode : {A : Type 0} → DcsPayload A → Bool
is_mode dcs_payload.Nothing = false
is_mode (dcs_payload.Sixel b) = false
is_mode (dcs_payload.Termcap b) = false
is_mode (dcs_payload.Short b) = false
is_mode dcs_payload.Entered = true
is_mode dcs_payload.Over = false

-- an unfinished string that gives a value only at its end, and none for a byte of its data
abbrev pub keeps_data : Mode → Bool
keeps_data plain = false
keeps_data (in_sixel ps d) = true
keeps_data (in_termcap d) = true
keeps_data (in_short ps is f d) = true
keeps_data entered = false

-- a byte of data makes q of p
abbrev pub TakesData : {A : Type 0} → Unfinished A → ℕ → Unfinished A → Type 0
TakesData p b q =
    (is_mode q.dcs_payload ≡ is_mode p.dcs_payload)
    × Hooking p (λ limit m. Hooks limit q (mode_with_byte m b))

-- so many bytes more are counted without passing the limit
pub record HasRoom (limit : Option ℕ) (c : Count) (more : ℕ) : Type 0 where
  pub not_over : c.is_over ≡ false
  pub few : c.bytes + more ≤ most
  pub within : is_within limit (c.bytes + more) ≡ true

-- The bytes may be those that the parser was fed, which keeps no more than the limit of a segment:
-- it has not failed, and keeps their unfinished string.
unfoldable pub ParserHasConsumedWithin : {A : Type 0} → Option ℕ → List ℕ → Parser A → Type 0
ParserHasConsumedWithin limit s p =
    HasConsumedWithin limit s p.framer
    × Hooks limit p.unfinished (mode_from plain (events_within limit s))

-- the same without a limit
abbrev pub ParserHasConsumed : {A : Type 0} → List ℕ → Parser A → Type 0
ParserHasConsumed s p = ParserHasConsumedWithin None s p

-- an earlier call of the parser returned `Memory`, and no data is kept
abbrev pub IsBroken : {A : Type 0} → Parser A → Type 0
IsBroken p = HasFailed p.framer × (p.unfinished.dcs_payload ≡ dcs_payload.Nothing)
