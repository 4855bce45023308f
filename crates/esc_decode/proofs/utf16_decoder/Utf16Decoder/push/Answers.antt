use Rattle.std.proofs.Common.{subst, sym}
use Rattle.esc_decode.proofs.Utf16Streams.{both, pushed}
use Rattle.esc_decode.specs.Units.{unit_text}
use Rattle.esc_decode.specs.Utf16Streams.{DecodesMore}
use Rattle.esc_decode.proofs.utf16_decoder.Utf16Decoder.push.Goals as goal

pub returns-clause-decoded : goal.returns-clause-decoded
returns-clause-decoded g c = λ k s is.
    let b = c.args.bytes.now in
    let d = c.after_mark-units.new.self in
    let rest = c.after_mark-units.result.now in
    let more = pushed k s b rest d (c.after_mark-units.ensures k s is) in
    both c.push.result
    (λ state text. (
      unit_text d.units rest,
      text,
      subst (λ u. DecodesMore k s b (unit_text d.units rest)
          (record { units = u; awaits_mark = d.awaits_mark })) (sym state) more,
    ))
    c.push.ensures.state c.push.ensures.text
