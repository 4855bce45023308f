use Rattle.std.proofs.Common.{[], false, true, Some, refl, subst}
use Rattle.esc_filter.proofs.Output.NothingWasFed.{filters}
use Rattle.esc_html.specs.Fed.{HasConsumed}
use Rattle.esc_html.specs.Pages.{page_text}
use Rattle.eschtml.specs.Written.{IsHtml, going_by, html_of, layout_by, page_of, seen_by}
use Rattle.eschtml.proofs.Left.{pages_add}
use Rattle.eschtml.proofs.Lining.{html_is}
use Rattle.eschtml.proofs.Longer.{page_of_nothing}
use Rattle.eschtml.proofs.stream.write_whole.Goals as goal

pub returns-clause-holds : goal.returns-clause-holds
returns-clause-holds g c =
    let a = g.row.A.Denot in
    let o = c.args.options.now in
    let y = layout_by o.first o.layout in
    let m = page_text a (Some o.limit) y in
    let e = page_of a o.limit y in
    let fed = subst (λ z. HasConsumed o.limit z [] c.new-marked.result.writer) c.layout_by.ensures
    c.new-marked.ensures in
    let f = filters (λ s. html_of a o (seen_by a o false true s))
    (λ s. going_by o.first (m (seen_by a o false false s)))
    (λ b s t. IsHtml a o b (seen_by a o false b s) t)
    (λ s. html_is a o c.streams_are_pages.ensures c.lines_are_elements.ensures
    (seen_by a o false true s)) (λ s. refl) _ _ _
    (c.write_lined.ensures.holds m e (o.limit, y, fed, refl, refl)
    (page_of_nothing a (Some o.limit) y) (pages_add a o.limit y)) in
    record {
      read_all = f.read_all;
      written = f.written;
      decided = f.decided;
      endless = f.endless;
      until_refused = f.until_refused;
      beginning = f.beginning;
      read_fault = f.read_fault;
      write_fault = f.write_fault;
    }

pub returns-clause-refused : goal.returns-clause-refused
returns-clause-refused g c =
    let a = g.row.A.Denot in
    let o = c.args.options.now in
    let y = layout_by o.first o.layout in
    let fed = subst (λ z. HasConsumed o.limit z [] c.new-marked.result.writer) c.layout_by.ensures
    c.new-marked.ensures in
    c.write_lined.ensures.refused (page_text a (Some o.limit) y) (page_of a o.limit y)
    (o.limit, y, fed, refl, refl) (page_of_nothing a (Some o.limit) y) (pages_add a o.limit y)
