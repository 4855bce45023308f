use Rattle.esc_frame.proofs.ByteRuns.StringRuns.{prefix_passes}
use Rattle.heapless_parser.proofs.commands.note_in_apc.Goals as goal

pub note_text-requires-clause-text : goal.note_text-requires-clause-text
note_text-requires-clause-text c =
    prefix_passes c.args.bytes.now c.ascii_run-run.result c.ascii_run-run.ensures.run
