use Rattle.std.proofs.Common.{Bool, true, false, if◌then◌else◌, List, ℕ, ◌++◌, Some, None, Result, refl}
use Rattle.std.specs.Fmt.{DisplaysOnOk, HasWritten, IsPlainFormatter}
use Rattle.std.specs.List.{list_all}
use Rattle.std.proofs.lemmas.Grind.{put_two}
use Rattle.core.specs.declared.fmt.formatter.Formatter.{Formatter}
use Rattle.core.specs.declared.fmt.Error.{Error}
use Rattle.esc_sixel.specs.Texts.{content_text, header_text, is_sixel}
use Rattle.esc_sixel.proofs.sixel.SixelDisplay.fmt.Goals as goal

both : {W : Type 0} (took : W → List ℕ → W → Type 0) (f g h : Formatter W)
    (r : Result (Unit {0}) Error) (t : Bool) (a b : List ℕ)
    → (IsPlainFormatter f → HasWritten took f a g)
    → DisplaysOnOk took g r (if t then Some b else None) h
    → DisplaysOnOk took f r (if t then Some (a ++ b) else None) h
both took f g h r true a b p q = λ plain ok.
    put_two took f g h a b (a ++ b) (p plain) (q (p plain).plain ok) refl
both took f g h r false a b p q = tt

pub returns-clause-writes : goal.returns-clause-writes
returns-clause-writes g c =
    both _ _ _ _ c.write_content.result (list_all is_sixel c.args.self.now.content)
    (header_text c.args.self.now) (content_text c.args.self.now.content)
    (λ plain. c.in_ok-write_header.ensures plain refl)
    (rw c.as_slice.ensures at c.write_content.ensures)
