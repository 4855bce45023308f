use Rattle.std.proofs.Common.{◌≡◌, true, take, drop, sym, ap, ◌∙◌, subst, arith}
use Rattle.std.specs.List.{list_all}
use Rattle.esc_frame.specs.Scans.{is_data_byte}
use Rattle.esc_account.specs.AtOnce.{IsTextOf, is_text_end}
use Rattle.esc_account.proofs.AtOnce.SeenIsFirst.{run_all, text_is}
use Rattle.esc_account.proofs.command.text_of.Goals as goal

pub returns-then-is_text_end-clause-each : goal.returns-then-is_text_end-clause-each
returns-then-is_text_end-clause-each c =
    let t = c.after-rest.result.now in
    subst (λ n. list_all is_data_byte (take n t) ≡ true) (sym c.data_run-run.ensures.run)
    (run_all is_data_byte t)

pub returns-then-is_text_end-clause-text : goal.returns-then-is_text_end-clause-text
returns-then-is_text_end-clause-text c =
    let s = c.args.bytes.now in
    let n = c.data_run-run.result in
    subst (λ v. IsTextOf s (take n v)) (sym c.after-rest.ensures)
    (text_is s n (omega (arith, c.if-bytes-lt3.false)) c.if-bytes-ne27.false
    c.if-bytes-ne93.false
    (ap (λ v. is_text_end (drop n v)) (sym c.after-rest.ensures)
    ∙ ap is_text_end (sym c.after.ensures) ∙ sym c.is_text_end.ensures ∙ c.if-is_text_end.true))
