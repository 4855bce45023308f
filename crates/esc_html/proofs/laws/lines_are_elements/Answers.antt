use Rattle.esc_html.proofs.Lines.LinedTagsClose.{lined_page_is}
use Rattle.esc_html.proofs.laws.lines_are_elements.Goals as goal

pub returns : goal.returns
returns g c = λ limit n y s pl.
    lined_page_is limit n y s pl (c.handed_out.ensures limit s)
    (c.streams_are_pages.ensures limit y s)
