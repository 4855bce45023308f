use Rattle.std.proofs.Common.{◌≡◌, ap, subst, sym, take}
use Rattle.std.proofs.lemmas.Str.{IsUtf8-from_ascii}
use Rattle.esc_frame.specs.Machine.Prefixes.{prefix_of}
use Rattle.esc_decode.specs.Masks.{begun_after, masked_after}
use Rattle.esc_decode.proofs.Characters.{utf8_stays}
use Rattle.esc_decode.proofs.runs.first_blocks.Goals as goal

pub returns-in-Nothing-clause-begun : goal.returns-in-Nothing-clause-begun
returns-in-Nothing-clause-begun c =
    let x = take c.ascii_blocks.result c.args.bytes.now in
    subst (λ f. begun_after f x ≡ f) (sym (ap prefix_of c.in-Nothing.is))
    (utf8_stays x (IsUtf8-from_ascii x c.ascii_blocks.ensures.ascii)).1

pub returns-in-Nothing-clause-stays : goal.returns-in-Nothing-clause-stays
returns-in-Nothing-clause-stays c =
    let x = take c.ascii_blocks.result c.args.bytes.now in
    subst (λ f. masked_after f x ≡ x) (sym (ap prefix_of c.in-Nothing.is))
    (utf8_stays x (IsUtf8-from_ascii x c.ascii_blocks.ensures.ascii)).0
