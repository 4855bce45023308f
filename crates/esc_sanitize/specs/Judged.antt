-- The fate of a segment by the options.
use Rattle.esc_account.specs.Accounts.{Rule}
use Rattle.esc_account.specs.Rules.{rule_of}
use Rattle.esc_filter.specs.declared.admit.Admit.{Ghosts as Admitter}
use Rattle.esc_frame.specs.Segments.{bytes_of}
use Rattle.esc_sanitize.specs.Fates.{shown_as}
use Rattle.esc_sanitize.specs.declared.judging.Judging.{Judging}
use Rattle.esc_sanitize.specs.declared.options.FilterOptions.{FilterOptions}

abbrev pub judged_rule : {P A : Type 0} → Admitter P A → Judging P A → Rule
judged_rule V j b g finished = shown_as j.show (bytes_of g)
    (rule_of j.policy.by_lines j.policy.guard
    j.policy.limit (V.admits j.policy.policy) b g finished)

abbrev pub rule_by : {P A : Type 0} → Admitter P A → FilterOptions P → Rule
rule_by V o b g finished = shown_as o.show (bytes_of g) (rule_of o.by_lines o.guard o.limit
    (V.admits o.policy) b g finished)
