use Rattle.std.proofs.Common.{◌∷◌, [], true, take, drop, take-append-drop, sym}
use Rattle.esc_segments.specs.declared.kind.SegmentKind.TheVariants as kinds
use Rattle.esc_account.specs.Entries.{entry_as, noted_entries}
use Rattle.esc_account.specs.declared.fate.Fate.TheVariants as fates
use Rattle.esc_account.proofs.AtOnce.SequencesAreLeftOut.{end_finishes}
use Rattle.esc_account.proofs.account.Account.end_entered.Goals as goal

pub returns-in-Ok-clause-finishes : goal.returns-in-Ok-clause-finishes
returns-in-Ok-clause-finishes g c =
    let s = c.args.bytes.now in
    let x = c.args.self in (
      noted_entries (entry_as x kinds.Escape (take 2 s) true fates.LeftOut ∷ []),
      end_finishes c.args.ends (g.J.Judge.rule c.args.judge.now) x c.in-Ok.longer s (take 2 s)
          (drop 2 s) (sym (take-append-drop 2 s))
          (c.leaves_end.ensures.end c.if-not-leaves_end.false)
          (c.leaves_end.ensures.leaves c.if-not-leaves_end.false) c.in-Ok.ensures.entered,
      λ es old. c.in-Ok.ensures.given es old,
    )
