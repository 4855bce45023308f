use Rattle.std.proofs.lemmas.Result.{on_ok_weaker}
use Rattle.flat_values.proofs.Images.{two_more_after_content}
use Rattle.flat_values.specs.Images.{content_field, frame_numbers, transmit_numbers, verbosity_numbers}
use Rattle.flat_values.proofs.append_image.append_sent.Goals as goal

pub returns-clause-ok : goal.returns-clause-ok
returns-clause-ok c =
    let transmit = c.args.transmit.now in
    on_ok_weaker c.append_verbosity.result (two_more_after_content c.args.fields.now _ _ _
    (content_field transmit) (transmit_numbers transmit) (frame_numbers c.args.frame.now)
    (verbosity_numbers c.args.verbosity) c.in_ok-append_transmit.ensures.ok
    c.in_ok-append_frame.ensures.ok) c.append_verbosity.ensures.ok
