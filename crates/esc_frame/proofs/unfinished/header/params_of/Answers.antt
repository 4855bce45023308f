use Rattle.std.proofs.Common.{◌∙◌, ap, sym, map, pos}
use Rattle.esc_frame.proofs.Emits.EventsFold.{ok_more}
use Rattle.std.proofs.lemmas.Simd.{map-map}
use Rattle.esc_frame.specs.Bodies.{capped_at_i64, value_after}
use Rattle.esc_frame.proofs.unfinished.header.params_of.Goals as goal

pub returns-clause-ok : goal.returns-clause-ok
returns-clause-ok g c =
    ok_more c.numbers_of.result (λ v e.
    e
    ∙ ap (map (λ p. pos (capped_at_i64 (value_after 0 p.now)))) c.deref.ensures.value
    ∙ sym (map-map (λ p. pos (capped_at_i64 (value_after 0 p))) (λ p. p.now)
    c.in_ok-osc_units.osc_units.items)
    ∙ ap (map (λ p. pos (capped_at_i64 (value_after 0 p)))) c.in_ok-osc_units.ensures.ok)
    c.numbers_of.ensures.ok
