use Rattle.std.proofs.Common.{◌≡◌, ◌-◌, ◌+◌, ◌++◌, length, map, min, drop, take, replicate, ap, ◌∙◌, arith}
use Rattle.esc_screen.proofs.Turned.{left_is}
use Rattle.esc_screen.specs.Cells.{blank_row}
use Rattle.esc_screen.specs.Resized.{resized_row}
use Rattle.esc_screen.proofs.rows.left.Goals as goal

pub returns-clause-ok : goal.returns-clause-ok
returns-clause-ok g c =
    let xs = c.args.rows.now.items in
    let f = resized_row c.args.columns in
    let y = blank_row 0 c.args.columns in
    let first = c.min-first.result in
    let there = c.len-2.result - first in
    let len : c.len.result ≡ length xs = omega (arith, c.len.ensures) in
    let len_2 : c.len-2.result ≡ length xs = omega (arith, c.len-2.ensures) in
    left_is f y c.args.count c.args.gone first there xs c.from_vec.result.items
    (c.min-first.ensures ∙ ap (min c.args.gone) len)
    (ap (λ n. n - first) len_2)
    (c.from_vec.ensures.items ∙ c.in_ok-push_blank.ensures.ok
    ∙ ap (λ zs. zs ++ replicate c.saturating_sub.result y) (c.in_ok-all.ensures.ok
    ∙ ap (λ k. map f (take (first + k - first) (drop first xs))) c.min.ensures)
    ∙ ap (λ k. map f (take (first + min c.args.count there - first) (drop first xs))
    ++ replicate k y) c.saturating_sub.ensures)
