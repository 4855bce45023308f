use Rattle.std.proofs.Common.{◌≤◌, ◌+◌, ◌-◌, ◌++◌, ◌∷◌, [], ◌≡◌, ℕ, List, Some, ap, append_assoc, arith, drop, get_or, length, refl, subst, sym, take, ◌∙◌}
use Rattle.std.proofs.lemmas.List.{length-take}
use Rattle.std.specs.List.{FoldsTo}
use Rattle.esc_sixel.specs.Lines.{fresh}
use Rattle.esc_sixel.specs.Meaning.{drawn_data}
use Rattle.esc_sixel.specs.Runs.{more_digits}
use Rattle.esc_sixel.specs.Steps.{Pushes}
use Rattle.esc_sixel.specs.Taking.{with_data}
use Rattle.esc_sixel.specs.declared.introducer.Introducer.TheVariants as introducer
use Rattle.esc_sixel.specs.declared.sixel_data.SixelData.TheVariants.{Repeat, SelectColorMapEntry}
use Rattle.esc_sixel.proofs.Bytes.ManyBytes.{begins, color_class, digits_pushed, folds_more, folds_one, fresh_keeps, pixels_pushed, repeat_class, repeat_ends, repeats}
use Rattle.esc_sixel.proofs.Bytes.ManyBytes.{selected_begins, selects, some_taken}
use Rattle.esc_sixel.proofs.builder.SixelBuilder.push_selected.Goals as goal

pub returns-in-Some-count_of_pixels-clause-ok :
    goal.returns-in-Some-count_of_pixels-clause-ok
returns-in-Some-count_of_pixels-clause-ok g c =
    let p = c.args.self.now in
    let xs = c.args.rest.now in
    let n = c.in-Some.digits in
    let m = c.in-Some-count_of_pixels.digits in
    let color = c.in-Some.ensures in
    let count = c.in-Some-count_of_pixels.ensures.1 in
    let ds = take n (take (length xs - 1) (drop 1 xs)) in
    let at = n + 2 in
    let es = take m (take (length xs - at) (drop at xs)) in
    let d = SelectColorMapEntry c.in-Some.color in
    let v = Repeat (get_or xs (at + m) 0 - 0x3f) c.in-Some-count_of_pixels.repeat_count in
    let p1 = record p { introducer = Some introducer.Color; parameters = fresh } in
    let s1 : FoldsTo Pushes p (take 1 xs) p1 =
    folds_one Pushes p xs 0 p p1 c.requires.outside.some refl
    (begins p introducer.Color fresh (get_or xs 0 0) c.requires.outside.closed
    (color_class (get_or xs 0 0) c.requires.first) fresh_keeps) in
    let p2 = record p1 { parameters = more_digits fresh ds } in
    let s2 : FoldsTo Pushes p (take (1 + n) xs) p2 =
    folds_more Pushes p xs 1 n p1 p2 s1
    (digits_pushed ds p1 p2 introducer.Color refl refl (λ t. omega arith) color.digits refl) in
    let p3 = record p2 {
      sixel = with_data p.sixel d;
      introducer = Some introducer.Repeat;
      parameters = fresh;
    } in
    let some = some_taken n (take (length xs - 1) (drop 1 xs)) color.some color.few in
    let s3 : FoldsTo Pushes p (take (1 + n + 1) xs) p3 =
    folds_one Pushes p xs (1 + n) p2 p3 color.within s2
    (selected_begins p2 introducer.Repeat fresh (get_or xs (1 + n) 0) d refl
    (repeat_class (get_or xs (1 + n) 0) color.mark) fresh_keeps
    (λ r k. selects ds r _ some color.number color.small k)) in
    let is : 1 + n + 1 ≡ at = omega arith in
    let s3 : FoldsTo Pushes p (take at xs) p3 =
    subst (λ i. FoldsTo Pushes p (take i xs) p3) is s3 in
    let p4 = record p3 { parameters = more_digits fresh es } in
    let s4 : FoldsTo Pushes p (take (at + m) xs) p4 =
    folds_more Pushes p xs at m p3 p4 s3
    (digits_pushed es p3 p4 introducer.Repeat refl refl (λ t. omega arith) count.digits refl) in
    let p5 = record p { sixel = with_data (with_data p.sixel d) v } in
    let some = some_taken m (take (length xs - at) (drop at xs)) count.some count.few in
    let s5 : FoldsTo Pushes p (take (at + m + 1) xs) p5 =
    folds_one Pushes p xs (at + m) p4 p5 count.within s4
    (repeat_ends p4 p5 (get_or xs (at + m) 0) v refl c.in-Some-count_of_pixels.ensures.0
    (λ r k. repeats es r _ _ some count.number count.small k) refl c.requires.outside.closed) in
    let run = c.pixels_run-run.result in
    let bs = take run (take (length xs - (at + m + 1)) (drop (at + m + 1) xs)) in
    let drawn_after =
    c.in_ok-push_line.ensures.ok ∙ sym (append_assoc p.sixel.content (d ∷ []) (v ∷ drawn_data bs))
    ∙ sym (append_assoc (p.sixel.content ++ d ∷ []) (v ∷ []) (drawn_data bs)) in
    let s6 = folds_more Pushes p xs (at + m + 1) run p5 _ s5
    (pixels_pushed bs p5 _ c.requires.outside.closed c.pixels_run-run.ensures.run
    (ap (λ t. record p { sixel = record p.sixel { content = t } }) drawn_after)) in
    record {
      some = omega arith;
      few = within (at + m + 1) run c.end_line.result xs (omega (arith, count.within))
          c.pixels_run-run.ensures.few c.end_line.ensures.few;
      pushes = folds_more Pushes p xs (at + m + 1 + run) c.end_line.result _ _ s6
          c.end_line.ensures.takes;
    }
  where
    within : (at run k : ℕ) (xs : List ℕ) → at ≤ length xs
        → run ≤ length (take (length xs - at) (drop at xs))
        → k ≤ length (take (length xs - (at + run)) (drop (at + run) xs)) → at + run + k ≤ length xs
    within at run k xs fits few more = omega (
      arith,
      length-take (length xs - at) (drop at xs),
      length-take (length xs - (at + run)) (drop (at + run) xs),
    )
