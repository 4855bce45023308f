-- A call keeps the machine's limit: a later call acts under the limit of the machine before.
use Rattle.std.proofs.Common.{ℕ, ◌≡◌, List, Option, Result, sym, subst}
use Rattle.esc_frame.specs.declared.machine.Machine.{Machine}
use Rattle.esc_frame.specs.Events.{Event, Awaits}
use Rattle.esc_frame.specs.Leads.{Unfinished}
use Rattle.esc_frame.specs.Machine.Calls.{Took}
use Rattle.esc_frame.specs.Machine.Moves.{events_all}

pub took_under : {K A S E : Type 0} (keeps : Option ℕ → K → List ℕ → Type 0)
    (may_fail : Option ℕ → Type 0) (takes refuses : S → Event → S → Type 0) (result : Result ℕ E)
    (u : Unfinished) (rest : List ℕ) (m : Machine K A) (old new : S) {l limit : Option ℕ}
    → l ≡ limit → Took keeps may_fail l takes refuses result u rest m old new
    → Took keeps may_fail limit takes refuses result u rest m old new
took_under keeps may_fail takes refuses result u rest m old new {l} {limit} i h =
    subst (λ k. Took keeps may_fail k takes refuses result u rest m old new) i h

pub awaits_under : {S : Type 0} (may : S → Event → Type 0) (takes : S → Event → S → Type 0)
    (u : Unfinished) (rest : List ℕ) (old : S) {l limit : Option ℕ} → l ≡ limit
    → Awaits may takes old (events_all limit u rest) → Awaits may takes old (events_all l u rest)
awaits_under may takes u rest old {l} {limit} i h =
    subst (λ k. Awaits may takes old (events_all k u rest)) (sym i) h
