-- The bytes that a filter was fed.
use Rattle.std.specs.Prelude.{ℕ, ◌≡◌, Bool, true, false, List, [], ◌∷◌, ◌++◌, Result, Some}
use Rattle.std.specs.declared.alloc.AllocError.{AllocError}
use Rattle.esc_values.specs.declared.csi_param.CsiParam.{CsiParam}
use Rattle.esc_sequences.specs.Csis.{csi_of}
use Rattle.esc_osc.specs.Reading.{meaning as command_meant}
use Rattle.esc_parse.specs.Given.{TakesAtOnce}
use Rattle.esc_actions.specs.Values.{Value, csi, osc, value_of}
use Rattle.esc_actions.specs.declared.action.Action.{Action}
use Rattle.esc_parse.specs.Fed.{IsBroken as IsBrokenParser, ParserHasConsumedWithin}
use Rattle.esc_actions.specs.Texts.{list_text}
use Rattle.esc_filter.specs.Characters.{keep_all}
use Rattle.esc_filter.specs.Closing.{closing}
use Rattle.esc_filter.specs.Noted.{HasNoted, Notes, WriteDenies}
use Rattle.esc_filter.specs.Passing.{in_lines, passed_as, passed_text_as, passes}
use Rattle.esc_filter.specs.Terminal.{is_changed}
use Rattle.esc_filter.specs.declared.admit.Admit.{Ghosts as Admitter}
use Rattle.esc_filter.specs.declared.filter.Filter.{Filter}
use Rattle.esc_filter.specs.declared.passing.Passing.{Passing}
use Rattle.esc_filter.specs.declared.guard.Guard.{Guard}
use Rattle.esc_filter.specs.declared.written.Written.{Written}

-- an action that passes is written, and any other leaves all as it is
abbrev pub Takes : {A : Type 0} → (Value A → Bool) → Written A → Action A → Written A → Type 0
Takes admits p a q = (passes admits (value_of a) ≡ true → Notes p a q)
    × (passes admits (value_of a) ≡ false → q ≡ p)

-- an action that has a text is refused if memory is
abbrev pub Refuses : {P A : Type 0} → Passing P A → Action A → Passing P A → Type 0
Refuses p a q = WriteDenies p.written a q.written

-- the effect of an action on the receiver of those that pass
abbrev pub TakesBy : {P A : Type 0} → (P → Value A → Bool) → Passing P A → Action A → Passing P A
    → Type 0
TakesBy allows p a q = Takes (allows p.policy.now) p.written a q.written
    × (q.policy.now ≡ p.policy.now)

-- the promises of a call that may take the values of a control sequence at once
abbrev pub MayTakeSequence : {P A : Type 0} → (P → Value A → Bool) → Passing P A → List CsiParam
    → ℕ → Result Bool AllocError → Passing P A → Type 0
MayTakeSequence allows p es f result q =
    TakesAtOnce (λ a c. value_of a ≡ csi c) (TakesBy allows) Refuses result p (csi_of es false f) q

-- or that of a command of these parts
abbrev pub MayTakeCommand : {P A : Type 0} → (P → Value A → Bool) → Passing P A → List (List ℕ)
    → Result Bool AllocError → Passing P A → Type 0
MayTakeCommand allows p ps result q =
    TakesAtOnce (λ a c. value_of a ≡ osc (command_meant c)) (TakesBy allows) Refuses result p
    (ps ∷ []) q

-- The filter, of this limit and of a policy that admits these values, was fed these bytes; u says
-- how characters that deceive are written. If `by_lines`, they are of one line, whose line feed it
-- drops.
abbrev pub HasConsumedIn : {P A : Type 0} → Guard → Bool → ℕ → (Value A → Bool) → List ℕ
    → Filter P A → Type 0
HasConsumedIn u by_lines limit admits s f = ParserHasConsumedWithin (Some limit) s f.parser
    × HasNoted by_lines u (passed_as u (Some limit) (in_lines by_lines admits) s) f.written

-- the same for a stream that is one, if they are kept
abbrev pub HasConsumed : {P A : Type 0} → ℕ → (Value A → Bool) → List ℕ → Filter P A → Type 0
HasConsumed limit admits s f = HasConsumedIn keep_all false limit admits s f

-- an earlier call was refused memory
abbrev pub IsBroken : {P A : Type 0} → Filter P A → Type 0
IsBroken f = IsBrokenParser f.parser

-- the text that the bytes fed last added
abbrev pub added_by : {P A : Type 0} → Filter P A → List ℕ
added_by f = f.written.spell.text

-- its policy
abbrev pub policy_of : {P A : Type 0} → Filter P A → P
policy_of f = f.policy

-- this holds for each stream that the filter may have been fed, its limit, the values that its
-- policy admits, and the guard for characters that deceive
abbrev pub AfterIn : {P A : Type 0} → Bool → Admitter P A → Filter P A
    → (Guard → ℕ → (Value A → Bool) → List ℕ → Type 0) → Type 0
AfterIn by_lines V f C =
    (u : Guard) (limit : ℕ) (s : List ℕ)
    → HasConsumedIn u by_lines limit (V.admits (policy_of f)) s f
    → C u limit (V.admits (policy_of f)) s

-- the same if they are kept
abbrev pub After : {P A : Type 0} → Admitter P A → Filter P A
    → (ℕ → (Value A → Bool) → List ℕ → Type 0) → Type 0
After V f C =
    (limit : ℕ) (s : List ℕ) → HasConsumed limit (V.admits (policy_of f)) s f
    → C limit (V.admits (policy_of f)) s

-- the filter, which was fed s, was fed b too, and has the text that b adds
abbrev pub TakesAs : {P A : Type 0} → Guard → Bool → (Value A → Bool) → ℕ → List ℕ → List ℕ
    → Filter P A → Type 0
TakesAs u by_lines admits limit s b f = HasConsumedIn u by_lines limit admits (s ++ b) f
    × (passed_text_as u (Some limit) (in_lines by_lines admits) (s ++ b)
    ≡ passed_text_as u (Some limit) (in_lines by_lines admits) s ++ added_by f)

abbrev pub TakesIn : {P A : Type 0} → Bool → (Value A → Bool) → ℕ → List ℕ → List ℕ → Filter P A
    → Type 0
TakesIn by_lines admits limit s b f = TakesAs keep_all by_lines admits limit s b f

-- the stream s has ended, and the filter has the values that undo the changes that it left; it is
-- at the beginning of the next
abbrev pub EndsAs : {P A : Type 0} → Guard → Bool → (Value A → Bool) → ℕ → List ℕ → Filter P A
    → Type 0
EndsAs u by_lines admits limit s f = HasConsumedIn u by_lines limit admits [] f
    × (added_by f
    ≡ list_text (closing admits (passed_as u (Some limit) (in_lines by_lines admits) s)))

abbrev pub Ends : {P A : Type 0} → Bool → (Value A → Bool) → ℕ → List ℕ → Filter P A → Type 0
Ends by_lines admits limit s f = EndsAs keep_all by_lines admits limit s f

-- nothing is left changed
abbrev pub IsUnchanged : {P A : Type 0} → Filter P A → Type 0
IsUnchanged f = is_changed f.written.left ≡ false
