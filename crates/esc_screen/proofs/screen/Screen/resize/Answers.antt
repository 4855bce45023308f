use Rattle.std.proofs.Common.{◌≡◌, ap, sym, ◌∙◌}
use Rattle.esc_screen.proofs.Resizing.{refits}
use Rattle.esc_screen.specs.Resized.{resized_tabs, size_with}
use Rattle.esc_screen.specs.Screens.{grid_of, size_of}
use Rattle.esc_screen.proofs.screen.Screen.resize.Goals as goal

pub returns-clause-resized : goal.returns-clause-resized
returns-clause-resized g c =
    let p = c.args.self.now in
    let t = size_with c.args.rows c.args.columns (size_of p) in
    let stops = c.in_ok-tabs.ensures.ok ∙ ap (resized_tabs c.args.columns) c.deref.ensures.value in
    record {
      grid = refits (size_of p) t (grid_of p) (grid_of c.refit.new.self)
          c.leaving_rows-gone.result c.in_ok-seen.seen.items c.in_ok-other.other.items
          c.in_ok-tabs.tabs.items (sym c.has_size.ensures ∙ c.if-has_size.false)
          c.leaving_rows-gone.ensures c.refit.ensures.grid c.in_ok-seen.ensures.ok
          c.in_ok-other.ensures.ok stops;
      size = c.refit.ensures.size;
    }
