use Rattle.std.proofs.Common.{rules, ◌<◌, length, refl}
use Rattle.std.specs.Fmt.{IsPlainFormatter}
use Rattle.std.proofs.lemmas.Grind.{put_two}
use Rattle.esc_iterm.specs.FileKeys.{entry}
use Rattle.esc_iterm.proofs.KeysWritten.{first_more, text_more}
use Rattle.esc_iterm.proofs.write_file.write_each.Goals as goal

pub loop-key-preserved : goal.loop-key-preserved
loop-key-preserved g c =
    let i = c.loop-key.key-index in
    let keys = c.args.keys.now in
    let lt : i < length keys = search rules in (
      first_more entry keys i _ c.loop-key.is_first _ lt c.loop-key.invariant.0
          c.is_still_first-is_first.ensures,
      λ plain.
          let so_far = c.loop-key.invariant.1 plain in
          let here : IsPlainFormatter c.loop-key.f = so_far.plain in
          put_two _ _ _ _ _ _ _ so_far (c.in_ok-write_key.ensures here refl)
          (text_more entry keys i _ c.loop-key.is_first lt c.loop-key.invariant.0),
    )
