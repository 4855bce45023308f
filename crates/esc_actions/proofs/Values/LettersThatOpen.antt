-- The letters that open a string or a control sequence.
use Rattle.std.proofs.Common.{◌≡◌, ◌<◌, ℕ, false, map, get_or, refl, sym, ap, ◌∙◌, arith}
use Rattle.std.specs.List.{range_with_len}
use Rattle.std.proofs.lemmas.List.FromFn.{get_or-map-range_with_len}
use Rattle.esc_frame.specs.Classes.{class_of, opens}
use Rattle.esc_actions.specs.Writable.{is_opener}

-- at each of the 256 bytes, by computing
same : map (λ b. opens (class_of b)) (range_with_len 0 256) ≡ map is_opener (range_with_len 0 256)
unfolding class_of
same = refl

pub opens_by_letter : (b : ℕ) → b < 256 → is_opener b ≡ opens (class_of b)
opens_by_letter b h =
    sym (get_or-map-range_with_len is_opener 0 256 b b false (omega arith) (omega arith))
    ∙ ap (λ t. get_or t b false) (sym same)
    ∙ get_or-map-range_with_len (λ x. opens (class_of x)) 0 256 b b false (omega arith)
    (omega arith)
