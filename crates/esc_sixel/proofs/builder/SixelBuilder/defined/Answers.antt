use Rattle.std.proofs.Common.{◌≡◌, ◌+◌, ◌-◌, ◌∙◌, Some, None, drop, get_or, length, take, refl, subst, zero-add, arith}
use Rattle.std.specs.List.{FoldsTo}
use Rattle.esc_sixel.specs.Lines.{fresh}
use Rattle.esc_sixel.specs.Meaning.{percent}
use Rattle.esc_sixel.specs.Steps.{Pushes}
use Rattle.esc_sixel.specs.Taking.{with_slice}
use Rattle.esc_sixel.specs.declared.sixel_data.SixelData.TheVariants.{DefineColorMapRGB}
use Rattle.esc_sixel.specs.declared.introducer.Introducer.TheVariants as introducer
use Rattle.esc_sixel.proofs.Bytes.ColorIsDefined.{defines, holding, is_color, made, number_pushed, open_at, opened, renamed, separator_pushed, two_pushed}
use Rattle.esc_sixel.proofs.Bytes.ManyBytes.{color_class, folds_more, folds_one, fresh_keeps, selected_begins, some_taken}
use Rattle.esc_sixel.proofs.builder.SixelBuilder.defined.Goals as goal

pub returns : goal.returns
returns g c =
    let p = c.args.self.now in
    let xs = c.args.rest.now in
    let n = c.in-Some.digits in
    let r = c.in-Some-number_before.digits in
    let v = c.in-Some-number_before-2.digits in
    let b = c.in-Some-number_before-3.digits in
    let number = c.in-Some.number in
    let red = c.in-Some-number_before.red in
    let green = c.in-Some-number_before-2.green in
    let blue = c.in-Some-number_before-3.blue in
    let at = n + 1 + 2 in
    let at2 = at + r + 1 in
    let at3 = at2 + v + 1 in
    let k0 = holding (Some number) None None None None 0 in
    let k1 = holding (Some number) None None None None 1 in
    let k2 = holding (Some number) (Some 2) None None None 1 in
    let k3 = holding (Some number) (Some 2) None None None 2 in
    let k4 = holding (Some number) (Some 2) (Some red) None None 2 in
    let k5 = holding (Some number) (Some 2) (Some red) None None 3 in
    let k6 = holding (Some number) (Some 2) (Some red) (Some green) None 3 in
    let k7 = holding (Some number) (Some 2) (Some red) (Some green) None 4 in
    let k8 = holding (Some number) (Some 2) (Some red) (Some green) (Some blue) 4 in
    let d = DefineColorMapRGB number c.new_8bpc-rgb.result in
    let s0 : FoldsTo Pushes (open_at p fresh) (take 0 xs) (open_at p fresh) = refl in
    let s1 : FoldsTo Pushes (open_at p fresh) (take (0 + n) xs) (open_at p k0) =
    folds_more Pushes (open_at p fresh) xs 0 n (open_at p fresh) (open_at p k0) s0
    (number_pushed p fresh (take n (take (length xs - 0) (drop 0 xs))) number refl (omega arith)
    (some_taken n (take (length xs - 0) (drop 0 xs)) c.in-Some.ensures.some c.in-Some.ensures.few)
    c.in-Some.ensures.digits c.in-Some.ensures.number) in
    let whole : 0 + n ≡ n = zero-add n in
    let begun : FoldsTo Pushes (open_at p fresh) (take n xs) (open_at p k0) =
    subst (λ i. FoldsTo Pushes (open_at p fresh) (take i xs) (open_at p k0)) whole s1 in
    let mark : get_or xs n 0 ≡ 0x3b =
    subst (λ i. get_or xs i 0 ≡ 0x3b) whole c.in-Some.ensures.mark in
    let s2 : FoldsTo Pushes (open_at p fresh) (take (n + 1) xs) (open_at p k1) =
    folds_one Pushes (open_at p fresh) xs n (open_at p k0) (open_at p k1)
    (omega (arith, c.in-Some.ensures.within)) begun
    (separator_pushed p k0 (get_or xs n 0) mark (omega arith)) in
    let s3 : FoldsTo Pushes (open_at p fresh) (take (n + 1 + 1) xs) (open_at p k2) =
    folds_one Pushes (open_at p fresh) xs (n + 1) (open_at p k1) (open_at p k2)
    (omega (arith, c.if-rest-two-lt2.false)) s2
    (two_pushed p k1 (get_or xs (n + 1) 0) c.if-rest-two-ne50.false refl (omega arith)) in
    let s4 : FoldsTo Pushes (open_at p fresh) (take (n + 1 + 1 + 1) xs) (open_at p k3) =
    folds_one Pushes (open_at p fresh) xs (n + 1 + 1) (open_at p k2) (open_at p k3)
    (omega (arith, c.if-rest-two-lt2.false)) s3
    (separator_pushed p k2 (get_or xs (n + 1 + 1) 0) c.if-rest-two-ne59.false (omega arith)) in
    let three : n + 1 + 1 + 1 ≡ at = omega arith in
    let two : FoldsTo Pushes (open_at p fresh) (take at xs) (open_at p k3) =
    subst (λ i. FoldsTo Pushes (open_at p fresh) (take i xs) (open_at p k3)) three s4 in
    let s5 : FoldsTo Pushes (open_at p fresh) (take (at + r) xs) (open_at p k4) =
    folds_more Pushes (open_at p fresh) xs at r (open_at p k3) (open_at p k4) two
    (number_pushed p k3 (take r (take (length xs - at) (drop at xs))) red refl (omega arith)
    (some_taken r (take (length xs - at) (drop at xs)) c.in-Some-number_before.ensures.some
    c.in-Some-number_before.ensures.few)
    c.in-Some-number_before.ensures.digits c.in-Some-number_before.ensures.number) in
    let s6 : FoldsTo Pushes (open_at p fresh) (take at2 xs) (open_at p k5) =
    folds_one Pushes (open_at p fresh) xs (at + r) (open_at p k4) (open_at p k5)
    c.in-Some-number_before.ensures.within s5
    (separator_pushed p k4 (get_or xs (at + r) 0) c.in-Some-number_before.ensures.mark
    (omega arith)) in
    let s7 : FoldsTo Pushes (open_at p fresh) (take (at2 + v) xs) (open_at p k6) =
    folds_more Pushes (open_at p fresh) xs at2 v (open_at p k5) (open_at p k6) s6
    (number_pushed p k5 (take v (take (length xs - at2) (drop at2 xs))) green refl (omega arith)
    (some_taken v (take (length xs - at2) (drop at2 xs)) c.in-Some-number_before-2.ensures.some
    c.in-Some-number_before-2.ensures.few)
    c.in-Some-number_before-2.ensures.digits c.in-Some-number_before-2.ensures.number) in
    let s8 : FoldsTo Pushes (open_at p fresh) (take at3 xs) (open_at p k7) =
    folds_one Pushes (open_at p fresh) xs (at2 + v) (open_at p k6) (open_at p k7)
    c.in-Some-number_before-2.ensures.within s7
    (separator_pushed p k6 (get_or xs (at2 + v) 0) c.in-Some-number_before-2.ensures.mark
    (omega arith)) in
    let s9 : FoldsTo Pushes (open_at p fresh) (take (at3 + b) xs) (open_at p k8) =
    folds_more Pushes (open_at p fresh) xs at3 b (open_at p k7) (open_at p k8) s8
    (number_pushed p k7 (take b (take (length xs - at3) (drop at3 xs))) blue refl (omega arith)
    (some_taken b (take (length xs - at3) (drop at3 xs)) c.in-Some-number_before-3.ensures.some
    c.in-Some-number_before-3.ensures.few)
    c.in-Some-number_before-3.ensures.digits c.in-Some-number_before-3.ensures.number) in
    let is : d ≡ DefineColorMapRGB number (percent red, percent green, percent blue) =
    made number red green blue c.new_8bpc-rgb.result c.channel_of.result c.channel_of-2.result
    c.channel_of-3.result c.new_8bpc-rgb.ensures
    c.channel_of.ensures c.channel_of-2.ensures c.channel_of-3.ensures in
    let q = with_slice p d in
    let last : FoldsTo Pushes (open_at p fresh) (take (at3 + b + 1) xs) (open_at q fresh) =
    folds_one Pushes (open_at p fresh) xs (at3 + b) (open_at p k8) (open_at q fresh)
    c.in-Some-number_before-3.ensures.within s9
    (selected_begins (open_at p k8) introducer.Color fresh (get_or xs (at3 + b) 0) d refl
    (color_class (get_or xs (at3 + b) 0) c.in-Some-number_before-3.ensures.mark) fresh_keeps
    (λ z k. is ∙ defines z number red green blue c.in-Some.ensures.small k)) in
    let started : p.introducer ≡ Some introducer.Color =
    is_color p.introducer c.in-Some-Color.field-0 c.in-Some-Color.is
    (rw c.in-Some-Color.is at c.in-Some-Color.field-0-is) in
    let new : p.parameters ≡ fresh = c.if-not-is_new.ensures refl in
    record {
      some = omega arith;
      few = omega (arith, c.in-Some-number_before-3.ensures.within);
      pushes = renamed p (open_at p fresh) q (open_at q fresh) (take (at3 + b + 1) xs)
          (opened p started new) (opened q started new) last;
    }
