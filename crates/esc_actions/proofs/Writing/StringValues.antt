-- The values of the events of device control strings.
use Rattle.std.proofs.Common.{ℕ, ◌≡◌, false, List, [], ◌∷◌, ◌++◌, map, None, refl, ap, sym, ◌∙◌, append_assoc}
use Rattle.std.proofs.lemmas.List.{append-nil}
use Rattle.esc_device.specs.Says.{string_events}
use Rattle.esc_frame.specs.Events.{Event}
use Rattle.esc_frame.specs.Events.Event.{EscDispatch, DcsPut, DcsUnhook}
use Rattle.esc_actions.proofs.Meaning.MeaningsJoin.{mode_append, values_append}
use Rattle.esc_actions.specs.Meaning.{mode_from, values_from}
use Rattle.esc_actions.specs.Texts.{terminator}
use Rattle.esc_actions.specs.Values.{Mode, Value, plain, entered, mode_after, event_values, mode_with_byte, taken_gives, unhook_values, datum}

-- the effect of bytes of data on the unfinished string, if each is kept and gives nothing
module _ (kept : List ℕ → Mode) (keeps : (d : List ℕ) (b : ℕ)
    → mode_with_byte (kept d) b ≡ kept (d ++ b ∷ [])) where
  pub puts_kept : (d x : List ℕ) → mode_from (kept x) (map DcsPut d) ≡ kept (x ++ d)
  puts_kept [] x = ap kept (sym (append-nil x))
  puts_kept (b ∷ d) x = ap (λ m. mode_from m (map DcsPut d)) (keeps x b) ∙ puts_kept d (x ++ b ∷ [])
      ∙ ap kept (append_assoc x (b ∷ []) d)

  pub puts_quiet : {A : Type 0} → ((d : List ℕ) (b : ℕ) → taken_gives {A = A} (kept d) b ≡ [])
      → (d x : List ℕ)
      → values_from {A = A} None (kept x) (map DcsPut d) ≡ []
  puts_quiet quiet [] x = refl
  puts_quiet quiet (b ∷ d) x =
      ap (λ v. v ++ values_from None (mode_with_byte (kept x) b) (map DcsPut d)) (quiet x b)
      ∙ ap (λ m. values_from None m (map DcsPut d)) (keeps x b) ∙ puts_quiet quiet d (x ++ b ∷ [])

-- in a mode each is given at once
pub puts_entered : (d : List ℕ) → mode_from entered (map DcsPut d) ≡ entered
puts_entered [] = refl
puts_entered (b ∷ d) = puts_entered d

pub puts_given : {A : Type 0} (d : List ℕ)
    → values_from {A = A} None entered (map DcsPut d) ≡ map datum d
puts_given [] = refl
puts_given (b ∷ d) = ap (λ x. datum b ∷ x) (puts_given d)

-- a whole string with its terminator leaves nothing unfinished
pub string_closes : (hook : Event) (d : List ℕ) → mode_from plain (string_events hook d) ≡ plain
string_closes hook d =
    mode_append plain ((hook ∷ map DcsPut d) ++ DcsUnhook ∷ []) (EscDispatch [] false 0x5c ∷ [])
    ∙ mode_append plain (hook ∷ map DcsPut d) (DcsUnhook ∷ [])

-- and gives the values of the header, of the data, and of the end
pub string_gives : {A : Type 0} (hook : Event) (d : List ℕ)
    → values_from {A = A} None plain (string_events hook d)
    ≡ ((event_values None plain hook ++ values_from None (mode_after plain hook) (map DcsPut d)) ++
    (unhook_values None (mode_from (mode_after plain hook) (map DcsPut d)) ++ [])) ++ terminator
    ∷ []
string_gives hook d =
    values_append None plain ((hook ∷ map DcsPut d) ++ DcsUnhook ∷ []) (EscDispatch [] false 0x5c
    ∷ [])
    ∙ ap (λ x. x ++ terminator ∷ []) (values_append None plain (hook ∷ map DcsPut d) (DcsUnhook
    ∷ []))
