use Rattle.std.proofs.Common.{◌≡◌, ◌++◌, map, drop}
use Rattle.std.specs.Str.Lossy.{utf8_lossy}
use Rattle.esc_osc_values.proofs.read_items.read_texts.Given as goal

abbrev pub invariant-loop-part : goal.invariant-loop-part
invariant-loop-part g l =
    map utf8_lossy (map (λ p. p.now) l.args) ≡ l.made.items
    ++ map utf8_lossy (map (λ p. p.now) (drop l.part-index l.args))
