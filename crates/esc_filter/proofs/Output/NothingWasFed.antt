-- A filter that was fed nothing, as a filter of streams, and the facts about the texts that it
-- writes.
use Rattle.std.proofs.Common.{ℕ, ◌≡◌, Bool, true, false, List, [], Result, None, Some, refl, sym, subst, ap, ◌∙◌}
use Rattle.std.specs.List.{filter}
use Rattle.esc_actions.proofs.Meaning.MeaningsJoin.{meaning_nil}
use Rattle.esc_actions.specs.Texts.{list_text}
use Rattle.std.specs.declared.io.traits.Read.{Ghosts as Reader}
use Rattle.std.specs.declared.io.traits.Write.{Ghosts as Writer}
use Rattle.esc_parse.proofs.Lists.StepsOverLists.{on_ok_more}
use Rattle.esc_normal.specs.Io.{Borrowed}
use Rattle.esc_actions.specs.Values.{Value}
use Rattle.esc_filter.specs.Fed.{HasConsumedIn, policy_of}
use Rattle.esc_filter.specs.Lines.{HasConsumedLines, closed_by_lines_as, policy_of_lines, text_by_lines_as}
use Rattle.esc_filter.specs.Openings.{resumed_closed, resumed_text}
use Rattle.esc_filter.specs.Resumed.{ResumedHasConsumed, policy_of_resuming}
use Rattle.esc_filter.specs.declared.resuming.ResumingFilter.{ResumingFilter}
use Rattle.esc_filter.specs.Passing.{closed_text_as, passed_text_as, passes}
use Rattle.esc_filter.specs.Characters.{in_values}
use Rattle.esc_filter.specs.declared.guard.Guard.{Guard}
use Rattle.esc_filter.proofs.Output.DeceivingCharacters.{in_none}
use Rattle.esc_normal.specs.Streams.{Filters, IsEither, IsText}
use Rattle.esc_normal.specs.declared.filter_error.FilterError.{FilterError}
use Rattle.esc_filter.specs.declared.filter.Filter.{Filter}
use Rattle.esc_filter.specs.declared.line_filter.LineFilter.{LineFilter}

pub begun : {P A : Type 0} (admits : P → Value A → Bool) (u : Guard) (limit : ℕ) (policy : P)
    (f : Filter P A) → policy_of f ≡ policy → HasConsumedIn u false limit (admits policy) [] f
    → (w : Guard) × (l : ℕ) × HasConsumedIn w false l (admits (policy_of f)) [] f
    × (passed_text_as {A = A} u (Some limit) (admits policy)
    ≡ passed_text_as {A = A} w (Some l) (admits (policy_of f)))
    × (closed_text_as {A = A} u (Some limit) (admits policy)
    ≡ closed_text_as {A = A} w (Some l) (admits (policy_of f)))
begun {P} {A} admits u limit policy f e h =
    subst (λ q. (w : Guard) × (l : ℕ) × HasConsumedIn w false l (admits q) [] f
    × (passed_text_as {A = A} u (Some limit) (admits policy)
    ≡ passed_text_as {A = A} w (Some l) (admits q))
    × (closed_text_as {A = A} u (Some limit) (admits policy)
    ≡ closed_text_as {A = A} w (Some l) (admits q)))
    (sym e) (u, limit, h, refl, refl)

pub begun_lines : {P A : Type 0} (admits : P → Value A → Bool) (u : Guard) (limit : ℕ)
    (policy : P) (f : LineFilter P A) → policy_of_lines f ≡ policy
    → HasConsumedLines u limit (admits policy) [] f
    → (w : Guard) × (l : ℕ) × HasConsumedLines w l (admits (policy_of_lines f)) [] f
    × (text_by_lines_as {A = A} u limit (admits policy)
    ≡ text_by_lines_as {A = A} w l (admits (policy_of_lines f)))
    × (closed_by_lines_as {A = A} u limit (admits policy)
    ≡ closed_by_lines_as {A = A} w l (admits (policy_of_lines f)))
begun_lines {P} {A} admits u limit policy f e h =
    subst (λ q. (w : Guard) × (l : ℕ) × HasConsumedLines w l (admits q) [] f
    × (text_by_lines_as {A = A} u limit (admits policy)
    ≡ text_by_lines_as {A = A} w l (admits q))
    × (closed_by_lines_as {A = A} u limit (admits policy)
    ≡ closed_by_lines_as {A = A} w l (admits q)))
    (sym e) (u, limit, h, refl, refl)

pub begun_resuming : {P A : Type 0} (admits : P → Value A → Bool) (k : Bool) (u : Guard) (limit : ℕ)
    (policy : P) (f : ResumingFilter P A) → policy_of_resuming f ≡ policy
    → ResumedHasConsumed k u limit (admits policy) [] f
    → (b : Bool) × (w : Guard) × (l : ℕ)
    × ResumedHasConsumed b w l (admits (policy_of_resuming f)) [] f
    × (resumed_text {A = A} k u limit (admits policy)
    ≡ resumed_text {A = A} b w l (admits (policy_of_resuming f)))
    × (resumed_closed {A = A} k u limit (admits policy)
    ≡ resumed_closed {A = A} b w l (admits (policy_of_resuming f)))
begun_resuming {P} {A} admits k u limit policy f e h =
    subst (λ q. (b : Bool) × (w : Guard) × (l : ℕ) × ResumedHasConsumed b w l (admits q) [] f
    × (resumed_text {A = A} k u limit (admits policy)
    ≡ resumed_text {A = A} b w l (admits q))
    × (resumed_closed {A = A} k u limit (admits policy)
    ≡ resumed_closed {A = A} b w l (admits q)))
    (sym e) (k, u, limit, h, refl, refl)

-- nothing has no text
pub nothing : {A : Type 0} (u : Guard) (limit : ℕ) (admits : Value A → Bool)
    → passed_text_as {A = A} u (Some limit) admits [] ≡ []
nothing u limit admits =
    ap (λ vs. list_text (in_values u (filter (passes admits) vs))) (meaning_nil (Some limit))
    ∙ ap list_text (in_none u None)

-- If a statement holds for each stream and its text, it holds for the text that was written. (A
-- contract cannot say so for every statement.)
ended_text : (m : List ℕ → List ℕ) (Is : Bool → List ℕ → List ℕ → Type 0)
    → ((s : List ℕ) → Is true s (m s)) → (s t : List ℕ) → IsText m s t → Is true s t
ended_text m Is is s t e = subst (Is true s) (sym e) (is s)

open_text : (m : List ℕ → List ℕ) (Is : Bool → List ℕ → List ℕ → Type 0)
    → ((s : List ℕ) → Is false s (m s)) → (s t : List ℕ) → IsText m s t → Is false s t
open_text m Is is s t e = subst (Is false s) (sym e) (is s)

pub filters : {R W X : Type 0} {Rd : Reader R} {Wr : Writer W} (c m : List ℕ → List ℕ)
    (Is : Bool → List ℕ → List ℕ → Type 0) → ((s : List ℕ) → Is true s (c s))
    → ((s : List ℕ) → Is false s (m s))
    → (result : Result X FilterError) (reader : Borrowed R) (writer : Borrowed W)
    → Filters Rd Wr c (IsEither c m) result reader writer
    → Filters Rd Wr c Is result reader writer
filters {Rd} {Wr} c m Is is so result reader writer f = record {
  read_all = f.read_all;
  written = on_ok_more _ _ result
      (λ h. (h.0, h.1, h.2, h.3, ended_text c Is is h.0 h.1 h.4)) f.written;
  decided = λ e. let h = f.decided e in (h.0, h.1, h.2, h.3, open_text m Is so h.0 h.1 h.4);
  endless = λ e.
      let h = f.endless e in (h.0, h.1, h.2, h.3, h.4, open_text m Is so h.0 h.1 h.5);
  until_refused = λ e.
      let h = f.until_refused e in
      (h.0, h.1, h.2, h.3, h.4, h.5, open_text m Is so h.0 h.2 h.6);
  beginning = f.beginning;
  read_fault = f.read_fault;
  write_fault = f.write_fault;
}
