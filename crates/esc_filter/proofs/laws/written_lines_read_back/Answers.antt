use Rattle.std.proofs.Common.{true, [], ◌∷◌, Some, refl}
use Rattle.esc_actions.specs.Values.{control}
use Rattle.esc_actions.specs.declared.control_code.ControlCode.TheVariants.{CarriageReturn, LineFeed}
use lib.Utf8.{encode}
use Rattle.esc_filter.specs.Passing.{in_lines}
use Rattle.esc_filter.proofs.ByLine.LinesReadBack.{filtered}
use Rattle.esc_filter.proofs.laws.written_lines_read_back.Goals as goal

pub returns : goal.returns
unfolding encode
returns g c = λ has_ended u limit admits s.
    filtered u limit admits
    (λ l. (c.written_reads_back.ensures.goes_on u (Some limit) (in_lines true admits)
    l).whatever_follows)
    (λ l. (c.written_reads_back.ensures.ended u (Some limit) (in_lines true admits)
    l).whatever_follows)
    (c.reads_by_itself.ensures (control LineFeed ∷ []) (refl, refl, refl))
    (c.reads_by_itself.ensures (control CarriageReturn ∷ control LineFeed ∷ [])
    (refl, refl, (refl, refl, refl))) has_ended s
