use Rattle.std.proofs.Common.{◌≡◌, ◌++◌, true, take, ap, subst, sym, ◌∙◌}
use Rattle.std.specs.List.{list_all}
use Rattle.esc_frame.proofs.ByteRuns.ManyBytes.{run_passes}
use Rattle.esc_frame.specs.Scans.{is_text_byte}
use Rattle.esc_decode.proofs.Reading.{read_text}
use Rattle.esc_decode.proofs.eight_bit.push_some.Goals as goal

pub returns-then-run-gt0-clause-ok : goal.returns-then-run-gt0-clause-ok
returns-then-run-gt0-clause-ok g c =
    let bs = c.args.bytes.now in
    c.in_ok-extend.ensures.items
    ∙ ap (λ t. c.args.text.now.items ++ t) (sym (read_text c.args.table.now
    (take c.ascii_run-run.result bs)
    (subst (λ k. list_all is_text_byte (take k bs) ≡ true) (sym c.ascii_run-run.ensures.run)
    (run_passes is_text_byte bs))))
