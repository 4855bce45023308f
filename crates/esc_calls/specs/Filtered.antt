-- The text of the actions of a stream that a policy admits.
use Rattle.std.specs.Prelude.{ℕ, ◌≡◌, ◌≢◌, false, IfSome, List, Option, Some}
use Rattle.std.specs.Global.{Global}
use Rattle.esc_filter.specs.Passing.{IsFiltered, passed_text}
use Rattle.esc_filter.specs.Rules.{admits}
use Rattle.esc_filter.specs.declared.policy.Policy.{Policy}
use Rattle.esc_calls.specs.declared.TheConstants.{NO_MEMORY, UNKNOWN_POLICY}
use Rattle.fallible_alloc.specs.Refusals.{Refused}

-- the text of a stream that goes on
abbrev pub open_text : ℕ → Policy → List ℕ → List ℕ
open_text limit p = passed_text {A = Global} (Some limit) (admits p)

-- a text is that of the actions of these bytes that this policy admits, and reads back as these
abbrev pub IsAdmitted : Option Policy → ℕ → List ℕ → List ℕ → Type 0
IsAdmitted policy limit bs t = IfSome policy (λ p.
    (t ≡ open_text limit p bs) × IsFiltered {A = Global} false (Some limit) (admits p) bs t)

-- a status says that no policy has the number, or that memory was refused
abbrev pub IsFilterRefusal : ℕ → Type 0
IsFilterRefusal status = (status ≢ NO_MEMORY → status ≡ UNKNOWN_POLICY)
    × (status ≡ NO_MEMORY → Refused Global)
