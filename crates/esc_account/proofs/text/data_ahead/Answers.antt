use Rattle.std.proofs.Common.{◌≡◌, true, take, sym, subst}
use Rattle.std.specs.List.{list_all}
use Rattle.esc_frame.specs.Scans.{is_data_byte}
use Rattle.esc_account.proofs.AtOnce.CharactersPass.{run_ahead}
use Rattle.esc_account.proofs.text.data_ahead.Goals as goal

pub returns-clause-data : goal.returns-clause-data
returns-clause-data c =
    subst (λ n. list_all is_data_byte (take n c.args.bytes.now) ≡ true)
    (sym c.data_run.ensures.run) (run_ahead is_data_byte c.min-most.result c.args.bytes.now)
