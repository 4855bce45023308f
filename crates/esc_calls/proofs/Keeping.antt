-- The state that is kept of a stream in chunks.
use Rattle.std.proofs.Common.{Global, ◌≡◌, ℕ, false, List, Option, Some, if◌then◌else◌, ap, subst, sym}
use Rattle.esc_filter.specs.Fed.{HasConsumed, policy_of}
use Rattle.esc_filter.specs.Rules.{admits}
use Rattle.esc_filter.specs.declared.filter.Filter.{Filter}
use Rattle.esc_filter.specs.declared.policy.Policy.{Policy}
use Rattle.esc_html.specs.Fed.{added_by, closing_of}
use Rattle.esc_calls.proofs.Known.{known_twice}
use Rattle.esc_calls.specs.FilterChunks.{FilterHasConsumed}
use Rattle.esc_calls.specs.InChunks.{Keeps}
use Rattle.esc_calls.specs.Kept.{filter_in, state_text}
use Rattle.esc_calls.specs.declared.in_chunks.InChunks.{InChunks}
use Rattle.esc_calls.specs.declared.kept.Kept.{Kept}
use Rattle.esc_calls.specs.declared.page_state.PageState.{PageState}

-- a fact about the kept state is one about this, which is kept
pub kept_has : {T : Type 0} (found : Option Kept → Option T) (P : T → Type 0) (p : InChunks) (x : T)
    → found p.held.kept ≡ Some x → Keeps found P p → P x
kept_has found P p x is h = subst P (known_twice (found p.held.kept) h.0 x h.1 is) h.2

-- so a filter that is kept was fed the same, by its own policy
pub filter_fed : (limit : ℕ) (p : Policy) (s : List ℕ) (f : InChunks) (x : Filter Policy Global)
    → filter_in f.held.kept ≡ Some x → FilterHasConsumed limit p s f
    → HasConsumed {A = Global} limit (admits (policy_of x)) s x × (policy_of x ≡ p)
filter_fed limit p s f x is h =
    let g = kept_has filter_in
    (λ y. HasConsumed {A = Global} limit (admits p) s y × (policy_of y ≡ p)) f x is h in
    (subst (λ q. HasConsumed {A = Global} limit (admits q) s x) (sym g.1) g.0, g.1)

-- the text of a page that goes on
pub text_going : (p : PageState) → p.has_ended ≡ false → state_text p ≡ added_by p.writer
text_going p e = ap (λ x. if x then closing_of p.writer else added_by p.writer) e
