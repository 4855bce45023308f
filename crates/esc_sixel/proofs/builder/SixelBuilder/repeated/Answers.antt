use Rattle.std.proofs.Common.{◌+◌, ◌-◌, Some, arith, drop, get_or, length, refl, take}
use Rattle.std.specs.List.{FoldsTo}
use Rattle.esc_sixel.specs.Lines.{fresh}
use Rattle.esc_sixel.specs.Runs.{more_digits}
use Rattle.esc_sixel.specs.Steps.{Pushes}
use Rattle.esc_sixel.specs.declared.introducer.Introducer.TheVariants as introducer
use Rattle.esc_sixel.specs.declared.sixel_data.SixelData.TheVariants.{Repeat}
use Rattle.esc_sixel.proofs.Bytes.ManyBytes.{begins, digits_pushed, folds_more, folds_one, fresh_keeps, repeat_class, repeat_ends, repeats, some_taken}
use Rattle.esc_sixel.proofs.builder.SixelBuilder.repeated.Goals as goal

pub returns : goal.returns
returns g c =
    let p = c.args.self.now in
    let xs = c.args.rest.now in
    let n = c.in-Some.digits in
    let tail = take (length xs - 1) (drop 1 xs) in
    let ds = take n tail in
    let b = get_or xs (1 + n) 0 in
    let number = c.in-Some.ensures.1 in
    let p1 = record p { introducer = Some introducer.Repeat; parameters = fresh } in
    let s1 : FoldsTo Pushes p (take 1 xs) p1 =
    folds_one Pushes p xs 0 p p1 c.requires.some refl
    (begins p introducer.Repeat fresh (get_or xs 0 0) c.requires.closed
    (repeat_class (get_or xs 0 0) c.if-rest-ne33.false) fresh_keeps) in
    let p2 = record p1 { parameters = more_digits fresh ds } in
    let s2 : FoldsTo Pushes p (take (1 + n) xs) p2 =
    folds_more Pushes p xs 1 n p1 p2 s1
    (digits_pushed ds p1 p2 introducer.Repeat refl refl (λ t. omega arith) number.digits refl) in
    let some = some_taken n tail number.some number.few in
    record {
      some = omega arith;
      few = omega (arith, number.within);
      pushes = folds_one Pushes p xs (1 + n) p2 _ number.within s2
          (repeat_ends p2 _ b (Repeat (b - 0x3f) c.in-Some.repeat_count) refl c.in-Some.ensures.0
          (λ r k. repeats ds r _ _ some number.number number.small k) refl c.requires.closed);
    }
