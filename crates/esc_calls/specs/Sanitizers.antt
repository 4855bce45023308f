-- The sanitizers that are kept: by groups.
use Rattle.std.specs.Prelude.{ℕ, ◌≡◌, Bool, List, Some, false, string_bytes}
use Rattle.std.specs.Global.{Global}
use Rattle.esc_filter.specs.Fed.{HasConsumedIn, added_by, policy_of}
use Rattle.esc_filter.specs.Groups.{admits_groups}
use Rattle.esc_filter.specs.Lines.{HasConsumedLines, added_by as added_by_lines, closed_by_lines_as, policy_of_lines, text_by_lines_as}
use Rattle.esc_filter.specs.Openings.{resumed_closed, resumed_text}
use Rattle.esc_filter.specs.Passing.{closed_text_as, passed_text_as}
use Rattle.esc_filter.specs.Resumed.{ResumedHasConsumed, added_by as added_by_resuming, policy_of_resuming}
use Rattle.esc_filter.specs.declared.admit.Admit.{Ghosts as Admitter}
use Rattle.esc_filter.specs.declared.filter.Filter.{Filter}
use Rattle.esc_filter.specs.declared.groups.Groups.{Groups}
use Rattle.esc_filter.specs.declared.guard.Guard.{Guard}
use Rattle.esc_filter.specs.declared.line_filter.LineFilter.{LineFilter}
use Rattle.esc_filter.specs.declared.resuming.ResumingFilter.{ResumingFilter}
use Rattle.esc_normal.specs.declared.feeding.StreamFilter.{Ghosts as Feeder}
use Rattle.caret_notation.specs.Through.{GivesThrough}
use Rattle.caret_notation.specs.declared.revealing.Revealing.{Revealing}
use Rattle.esc_sanitize.specs.Chains.{added_either, ended_either, gives_either}
use Rattle.esc_sanitize.specs.Sanitized.{Chain, Framed}
use Rattle.esc_sanitize.specs.declared.either.Either.{Either}
use Rattle.esc_sanitize.specs.declared.sanitizer.Sanitizer.{Sanitizer}
use Rattle.esc_calls.specs.declared.settings.Settings as said

abbrev pub Settings : Type 0
Settings = said.Settings

abbrev pub Sanitizing : Type 0
Sanitizing = Sanitizer Groups Global

-- the actions that groups admit
abbrev pub admitter : Admitter Groups Global
admitter = record { admits = admits_groups }

-- ---- the filters of a sanitizer, as filters of a stream in chunks

abbrev pub resuming : Feeder (ResumingFilter Groups Global) Global
resuming = record {
  gives = λ f m c s. (k : Bool) × (u : Guard) × (limit : ℕ)
      × ResumedHasConsumed k u limit (admits_groups (policy_of_resuming f)) s f
      × (m ≡ resumed_text {A = Global} k u limit (admits_groups (policy_of_resuming f)))
      × (c ≡ resumed_closed {A = Global} k u limit (admits_groups (policy_of_resuming f)));
  added = λ f. added_by_resuming f;
  has_ended = λ _ _ _. Unit {0};
}

abbrev pub lines : Feeder (LineFilter Groups Global) Global
lines = record {
  gives = λ f m c s. (u : Guard) × (limit : ℕ)
      × HasConsumedLines u limit (admits_groups (policy_of_lines f)) s f
      × (m ≡ text_by_lines_as {A = Global} u limit (admits_groups (policy_of_lines f)))
      × (c ≡ closed_by_lines_as {A = Global} u limit (admits_groups (policy_of_lines f)));
  added = λ f. added_by_lines f;
  has_ended = λ _ _ _. Unit {0};
}

abbrev pub whole_feeder : Feeder (Filter Groups Global) Global
whole_feeder = record {
  gives = λ f m c s. (u : Guard) × (limit : ℕ)
      × HasConsumedIn u false limit (admits_groups (policy_of f)) s f
      × (m ≡ passed_text_as {A = Global} u (Some limit) (admits_groups (policy_of f)))
      × (c ≡ closed_text_as {A = Global} u (Some limit) (admits_groups (policy_of f)));
  added = λ f. added_by f;
  has_ended = λ _ _ _. Unit {0};
}

abbrev either : {F G : Type 0} → Feeder F Global → Feeder G Global → Feeder (Either F G) Global
either G H = record {
  gives = λ f m c s. gives_either G H f m c s;
  added = λ f. added_either G H f;
  has_ended = λ f c s. ended_either G H f c s;
}

abbrev revealing : {F : Type 0} → Feeder F Global
    → Feeder (Revealing F Groups Global) Global
revealing G = record {
  gives = λ f m c s. GivesThrough G admitter f.reveal f.filter m c s;
  added = λ f. string_bytes f.text;
  has_ended = λ f _ _. (c : List ℕ → List ℕ) × (s : List ℕ) × G.has_ended f.filter c s;
}

abbrev pub framed_feeder : Feeder (Framed Groups Global) Global
framed_feeder = either (either resuming lines) whole_feeder

abbrev pub chain : Feeder (Chain Groups Global) Global
chain = either framed_feeder (revealing framed_feeder)
