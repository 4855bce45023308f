use Rattle.std.proofs.Common.{rules, ◌≡◌, ◌∷◌, [], false, not, refl, sym, ap, ◌∙◌}
use Rattle.esc_frame.specs.declared.classes.Class.TheVariants.{Breaks}
use Rattle.esc_frame.specs.Classes.{class_of, is_breaker}
use Rattle.heapless_parser.proofs.InChunks.DataBytes.{skip_passes, skip_ends, unbroken}
use Rattle.heapless_parser.proofs.data.skip_one.Goals as goal

pub returns-in-Breaks-Escape-clause-passes : goal.returns-in-Breaks-Escape-clause-passes
returns-in-Breaks-Escape-clause-passes c = λ yes.
    let s = c.escape.ensures.state in
    skip_ends c.args.parser.now c.escape.new.parser c.args.byte c.requires s.0 s.1 s.2
    (sym c.classify.ensures ∙ c.in-Breaks-Escape.is ∙ ap Breaks c.in-Breaks-Escape.field-0-is)

pub returns-in-C0-clause-passes : goal.returns-in-C0-clause-passes
returns-in-C0-clause-passes c = λ yes.
    let off : is_breaker c.classify.result ≡ false = search (rules, c.in-C0.is) in
    skip_passes (λ b. not (is_breaker (class_of b))) (λ b h. unbroken _ h) c.args.parser.now
    c.requires (c.args.byte ∷ []) (rw (sym (ap is_breaker c.classify.ensures) ∙ off) refl)
