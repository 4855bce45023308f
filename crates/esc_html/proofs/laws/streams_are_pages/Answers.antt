use Rattle.esc_html.proofs.Pages.PageOfStream.{page_is}
use Rattle.esc_html.proofs.laws.streams_are_pages.Goals as goal

pub returns : goal.returns
returns g c = λ limit per_line s. page_is limit per_line s (c.handed_out.ensures limit s)
