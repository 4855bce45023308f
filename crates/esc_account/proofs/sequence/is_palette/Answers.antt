use Rattle.std.proofs.Common.{arith, ◌∙◌}
use Rattle.esc_account.proofs.Fates.FateOfSequence.{palette_text}
use Rattle.esc_account.proofs.sequence.is_palette.Goals as goal

pub returns : goal.returns
returns c = λ h.
    let i = c.args.numbers in
    palette_text i.first i.second i.third c.args.last (omega (arith, i.fits.0)) i.fits.1 i.fits.2
    ∙ c.is_headed.ensures h
