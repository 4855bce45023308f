use Rattle.std.proofs.Common.{refl}
use Rattle.unicode_visibility.proofs.Bytes.{no_sign}
use Rattle.unicode_visibility.proofs.signs.may_deceive.Goals as goal

pub returns-then-not-has_hint : goal.returns-then-not-has_hint
returns-then-not-has_hint c = λ _. no_sign c.args.bytes.now (c.if-not-has_hint.ensures refl)
