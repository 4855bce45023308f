use Rattle.esc_sanitize.specs.Audits.{way_by}
use Rattle.esc_sanitize.specs.Overwritten.{lost_of_stream}
use Rattle.esc_sanitize.specs.Stages.{options_of}
use Rattle.esc_sanitize.specs.Written.{passed_of}
use Rattle.esc_sanitize.proofs.stream.sanitize_stream.Given as goal

abbrev pub ghosts-told : goal.ghosts-told
ghosts-told g a = record {
  encoding = (options_of a.staged).encoding;
  way = way_by g.P.Admit (options_of a.staged);
  text = passed_of g.P.Admit (options_of a.staged);
  lost = lost_of_stream g.P.Admit (options_of a.staged);
}
