use Rattle.std.proofs.Common.{[], Some, ap, arith, refl, subst, sym, true, false, ◌∙◌}
use Rattle.std.proofs.KnownBytes.{Appends-nil, Consumes-nil}
use Rattle.std.specs.Io.KnownBytes.{Appends}
use Rattle.esc_filter.proofs.Output.NothingWasFed.{begun, filters}
use Rattle.esc_normal.proofs.Results.{not_failed, prefix_none}
use Rattle.esc_filter.specs.Rules.{admits}
use Rattle.esc_filter.specs.declared.policy.Policy.TheVariants.{Screen}
use Rattle.esc_filter.specs.Characters.{keep_all}
use Rattle.esc_html.specs.Fed.{HasConsumed}
use Rattle.esc_html.specs.Pages.{page_text}
use Rattle.line_collapse.proofs.Streams.{final_after_nil}
use Rattle.line_collapse.specs.Fed.{final_after, left_after}
use Rattle.eschtml.specs.Piped.{composition}
use Rattle.eschtml.specs.Written.{IsHtml, ended_by, going_by, layout_by, page_of, screen_text, seen_by, shown_of, size_of, whole_screen}
use Rattle.eschtml.proofs.Left.{html_adds, no_html, no_screen, pages_add}
use Rattle.eschtml.proofs.Lining.{going_nothing, html_is}
use Rattle.eschtml.proofs.Seen.{no_sight}
use Rattle.eschtml.proofs.stream.write_left.Goals as goal

pub returns-clause-holds : goal.returns-clause-holds
returns-clause-holds g c =
    let a = g.row.A.Denot in
    let o = c.args.options.now in
    let l = o.limit in
    let z = size_of o c.args.rows in
    let m = screen_text a l in
    let e = whole_screen a l in
    let fresh = begun (λ p. admits {A = a} p) keep_all l Screen c.new-filter.result
    c.new-filter.ensures.policy c.new-filter.ensures.fed in
    let y = layout_by o.first o.layout in
    let fed = subst (λ z. HasConsumed l z [] c.new-marked.result.writer) c.layout_by.ensures
    c.new-marked.ensures in
    let going = composition (page_text a (Some l) y) (final_after a z m) in
    let whole = composition (page_of a l y) (left_after a z e) in
    let new = c.new-piped.ensures.begins (final_after a z m) (left_after a z e)
    (page_text a (Some l) y) (page_of a l y)
    (z, m, e, c.in-Ok.ensures.fed m e fresh (no_screen a l), refl, refl)
    (final_after_nil a z m (no_screen a l)) (l, y, fed, refl, refl)
    (pages_add a l y) in
    let f = filters (λ s. ended_by o.first (whole (seen_by a o true true s)))
    (λ s. going_by o.first (going (seen_by a o true false s)))
    (λ b s t. IsHtml a o b (shown_of a o (Some c.args.rows) b (seen_by a o true b s)) t)
    (λ s. html_is a o c.streams_are_pages.ensures c.lines_are_elements.ensures
    (left_after a z e (seen_by a o true true s))) (λ s. refl) _ _ _
    (c.write_lined.ensures.holds going whole new (no_html a l y z) (html_adds a l y z)) in
    record {
      read_all = f.read_all;
      written = f.written;
      decided = f.decided;
      endless = f.endless;
      until_refused = f.until_refused;
      beginning = f.beginning;
      read_fault = f.read_fault;
      write_fault = f.write_fault;
    }

pub returns-in_default-clause-holds : goal.returns-in_default-clause-holds
returns-in_default-clause-holds g c =
    let a = g.row.A.Denot in
    let o = c.args.options.now in
    let l = o.limit in
    let y = layout_by o.first o.layout in
    let z = size_of o c.args.rows in
    let held = g.W.Write.contents c.args.writer.now.inner in
    let m = composition (page_text a (Some l) y) (final_after a z (screen_text a l)) in record {
      read_all = tt;
      written = tt;
      decided = λ k. absurd cc;
      endless = λ k. absurd cc;
      until_refused = λ k. (
        [],
        [],
        going_by o.first (m (seen_by a o true false [])),
        omega arith,
        Consumes-nil _,
        subst (λ t. Appends held held t)
            (sym (ap (going_by o.first) (no_sight m a o.encoding o.shows l true (no_html a l y z))
            ∙ going_nothing o.first)) (Appends-nil _),
        refl,
      );
      beginning = (
        [],
        Consumes-nil _,
        prefix_none _
            (ended_by o.first
            (composition (page_of a l y) (left_after a z (whole_screen a l))
            (seen_by a o true true []))),
      );
      read_fault = not_failed _ _ _ (λ k. absurd cc);
      write_fault = not_failed _ _ _ (λ k. absurd cc);
    }

pub returns-clause-refused : goal.returns-clause-refused
returns-clause-refused g c =
    let a = g.row.A.Denot in
    let o = c.args.options.now in
    let l = o.limit in
    let y = layout_by o.first o.layout in
    let z = size_of o c.args.rows in
    let m = screen_text a l in
    let e = whole_screen a l in
    let fresh = begun (λ p. admits {A = a} p) keep_all l Screen c.new-filter.result
    c.new-filter.ensures.policy c.new-filter.ensures.fed in
    let fed = subst (λ z. HasConsumed l z [] c.new-marked.result.writer) c.layout_by.ensures
    c.new-marked.ensures in
    let new = c.new-piped.ensures.begins (final_after a z m) (left_after a z e)
    (page_text a (Some l) y) (page_of a l y)
    (z, m, e, c.in-Ok.ensures.fed m e fresh (no_screen a l), refl, refl)
    (final_after_nil a z m (no_screen a l)) (l, y, fed, refl, refl)
    (pages_add a l y) in
    c.write_lined.ensures.refused (composition (page_text a (Some l) y) (final_after a z m))
    (composition (page_of a l y) (left_after a z e)) new (no_html a l y z) (html_adds a l y z)
