use Rattle.esc_filter.specs.Characters.{keep_all}
use Rattle.esc_filter.proofs.laws.lines_read_back.Goals as goal

pub returns : goal.returns
returns g c = λ has_ended limit admits s.
    c.written_lines_read_back.ensures has_ended keep_all limit admits s
