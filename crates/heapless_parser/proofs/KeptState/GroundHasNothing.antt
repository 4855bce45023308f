-- The kept part of a stream that has nothing unfinished.
use Rattle.std.proofs.Common.{◌≡◌, Bool, true, false, if◌then◌else◌, ℕ, List, [], Some, length, refl, sym, ap, ◌∙◌, subst}
use Rattle.esc_frame.specs.Classes.{without_noise}
use Rattle.esc_frame.specs.Leads.{Unfinished}
use Rattle.esc_frame.specs.Leads.Unfinished.{Ground, Pending as Begun, InEscape, InCsi, InOsc, InOscPending, InDcs, InData, InApc, InIgnored}
use Rattle.esc_frame.specs.Limits.{is_read}
use Rattle.esc_frame.specs.Events.{Event}
use Rattle.esc_frame.specs.Machine.Moves.{after_all}
use Rattle.esc_frame.specs.Machine.Prefixes.{prefix_of}
use Rattle.esc_frame.specs.Segments.{is_empty}
use Rattle.esc_frame.specs.Stream.{IsAtGround}
use Rattle.esc_frame.specs.declared.utf8.sequence.Pending.{Pending}
use Rattle.esc_frame.specs.declared.utf8.sequence.Pending.TheVariants.{Nothing, One, Two, Three}
use Rattle.esc_frame.proofs.Cut.CutAtGround.{from_ground, to_ground}
use Rattle.esc_frame.specs.declared.machine.State.TheVariants as state
use Rattle.heapless_parser.specs.Numbers.{state_numbered}
use Rattle.heapless_parser.specs.States.{HasConsumed, KeptIn, begun_in}
use Rattle.heapless_parser.specs.declared.parser.EscParser.{EscParser}

-- the parser is between segments, and no character has begun
abbrev pub IsBetween : EscParser → Type 0
IsBetween p = (state_numbered p.state ≡ state.Ground) × (begun_in p ≡ [])

data_elsewhere : (read : Bool) → (if read then state.Data else state.Ignored) ≡ state.Ground → ⊥
data_elsewhere true e = absurd cc
data_elsewhere false e = absurd cc

pub between_kept : (p : EscParser) (memory : List ℕ) (u : Unfinished) → KeptIn p memory u
    → u ≡ Ground → IsBetween p
between_kept p memory u kept is = subst (KeptIn p memory) is kept

pub kept_between : (p : EscParser) (memory : List ℕ) (u : Unfinished) → KeptIn p memory u
    → IsBetween p → u ≡ Ground
kept_between p memory Ground kept is = refl
kept_between p memory (Begun f) kept is =
    let none : is_empty f ≡ true = ap is_empty (sym kept.1 ∙ is.1) in
    let some = kept.2 in absurd cc
kept_between p memory (InEscape x) kept is = let e = sym kept.0 ∙ is.0 in absurd cc
kept_between p memory (InCsi o x) kept is = let e = sym kept.0 ∙ is.0 in absurd cc
kept_between p memory (InDcs o x) kept is = let e = sym kept.0 ∙ is.0 in absurd cc
kept_between p memory (InData o x f d) kept is =
    absurd (data_elsewhere (is_read (Some (length memory)) (without_noise x)) (sym kept ∙ is.0))
kept_between p memory (InApc o d) kept is = let e = sym kept.0 ∙ is.0 in absurd cc
kept_between p memory (InIgnored k o d) kept is = let e = sym kept ∙ is.0 in absurd cc
kept_between p memory (InOsc o ps) kept is = let e = sym kept.0 ∙ is.0 in absurd cc
kept_between p memory (InOscPending o ps f) kept is = let e = sym kept.0 ∙ is.0 in absurd cc

-- no byte has come of a character that has not begun
pub none_begun : (pending : Pending) → prefix_of pending ≡ [] → pending ≡ Nothing
none_begun Nothing e = refl
none_begun (One a) e = absurd cc
none_begun (Two a b) e = absurd cc
none_begun (Three a b c) e = absurd cc

pub at_ground : (s : List ℕ) (es : List Event) (memory : List ℕ) (p : EscParser)
    → HasConsumed s es p memory → IsBetween p → IsAtGround s
unfolding HasConsumed
at_ground s es memory p at b = from_ground s (kept_between p memory (after_all Ground s) at.1 b)

pub between_at : (s : List ℕ) (es : List Event) (memory : List ℕ) (p : EscParser)
    → HasConsumed s es p memory → IsAtGround s → IsBetween p
unfolding HasConsumed
between_at s es memory p at g = between_kept p memory (after_all Ground s) at.1 (to_ground s g)

pub unfailed : (s : List ℕ) (es : List Event) (memory : List ℕ) (p : EscParser)
    → HasConsumed s es p memory → p.has_failed ≡ false
unfolding HasConsumed
unfailed s es memory p at = at.0
