use Rattle.esc_links.proofs.LinksBack.{link_back}
use Rattle.esc_links.proofs.laws.link_reads_back.Goals as goal

pub returns : goal.returns
returns g c = link_back
