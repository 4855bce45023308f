use Rattle.std.proofs.Common.{◌≡◌, length}
use Rattle.std.specs.List.{slice_split}
use Rattle.esc_links.specs.Hyperlinks.{is_colon, params_of}
use Rattle.esc_links.proofs.PairsRead.{reading}
use Rattle.esc_links.proofs.hyperlink.read_params.Given as goal

-- the rest, after the parameters that were put, makes the whole
abbrev pub invariant-loop-stretch : goal.invariant-loop-stretch
invariant-loop-stretch g l = params_of l.fn.text ≡ reading l.params (slice_split is_colon l.rest)

abbrev pub decreases-loop-stretch : goal.decreases-loop-stretch
decreases-loop-stretch g l = length l.rest
