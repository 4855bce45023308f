-- The text of data that is gathered.
use Rattle.std.proofs.Common.{true, false, ◌≡◌, ℕ, zero, suc, ◌+◌, ◌-◌, ◌<◌, List, [], ◌++◌, length, take, drop, get_or, replicate, ap, sym, ◌∙◌, append_assoc, arith, length-drop}
use Rattle.std.proofs.lemmas.Grind.{flat_map-append}
use Rattle.std.proofs.lemmas.List.{take-append-drop, take_all, take_more, flat_map_more}
use Rattle.std.proofs.lemmas.Str.Ascii.{IsAscii-cons, IsAscii-nil}
use Rattle.std.proofs.Math.Seq.{take-add}
use Rattle.std.specs.Str.{IsAscii}
use Rattle.std.specs.List.{list_all}
use Rattle.std.proofs.lemmas.Bool.{and_parts}
use Rattle.std.proofs.lemmas.List.Folds.{list_all-append}
use Rattle.esc_sixel.specs.Putting.{Puts}
use Rattle.esc_sixel.specs.Texts.{content_text, data_text, is_sixel}
use Rattle.esc_sixel.specs.declared.sixel_data.SixelData.{SixelData}

pub zeros_ascii : (n : ℕ) → IsAscii (replicate n 0)
zeros_ascii zero = IsAscii-nil
zeros_ascii (suc n) = IsAscii-cons 0 (replicate n 0) (omega arith) (zeros_ascii n)

-- one text put after another
pub puts_more : (old mid new : List ℕ) (at to end : ℕ) (x y : List ℕ) → Puts old at x mid to
    → Puts mid to y new end → Puts old at (x ++ y) new end
puts_more old mid new at to end x y p q = record {
  ascii = q.ascii;
  text = q.text ∙ ap (λ t. t ++ y) p.text ∙ append_assoc (take at old) x y;
}

-- data whose text is appended goes on
pub text_more : (old before after run : List ℕ) (ds : List SixelData) (at n : ℕ)
    → before ≡ old ++ content_text (take at ds) → after ≡ before ++ run
    → run ≡ content_text (take n (take (length ds - at) (drop at ds)))
    → after ≡ old ++ content_text (take (at + n) ds)
text_more old before after run ds at n e f h =
    let rest : take (length ds - at) (drop at ds) ≡ drop at ds =
    take_all (length ds - at) (drop at ds) (omega (arith, length-drop at ds)) in
    let more : run ≡ content_text (take n (drop at ds)) =
    h ∙ ap (λ t. content_text (take n t)) rest in
    f
    ∙ ap (λ t. t ++ run) e
    ∙ ap (λ t. (old ++ content_text (take at ds)) ++ t) more
    ∙ append_assoc old (content_text (take at ds)) (content_text (take n (drop at ds)))
    ∙ ap (λ t. old ++ t) (sym (flat_map-append data_text (take at ds) (take n (drop at ds))))
    ∙ ap (λ t. old ++ content_text t) (sym (take-add at n ds))

-- and by one
pub one_more : (ds : List SixelData) (at : ℕ) (d : SixelData) → d ≡ get_or ds at d → at < length ds
    → content_text (take at ds) ++ data_text d ≡ content_text (take (at + 1) ds)
one_more ds at d is lt =
    ap (λ e. content_text (take at ds) ++ data_text e) is
    ∙ flat_map_more data_text [] (take at ds) (get_or ds at d)
    ∙ ap content_text (sym (take_more ds at d lt))

-- if data that can be written is left, some of it is gathered
pub stuck : (ds : List SixelData) (at : ℕ) → at < length ds → list_all is_sixel ds ≡ true
    → (0 < length (take (length ds - at) (drop at ds))
    → list_all is_sixel (take (length ds - at) (drop at ds)) ≡ false)
    → ⊥
stuck ds at lt fits none =
    let rest : take (length ds - at) (drop at ds) ≡ drop at ds =
    take_all (length ds - at) (drop at ds) (omega (arith, length-drop at ds)) in
    let left = and_parts (list_all is_sixel (take at ds)) (list_all is_sixel (drop at ds))
    (sym (list_all-append is_sixel (take at ds) (drop at ds))
    ∙ ap (list_all is_sixel) (take-append-drop at ds) ∙ fits) in
    let not_left = none (omega (arith, ap length rest, length-drop at ds)) in
    let again = ap (list_all is_sixel) rest ∙ left.1 in
    absurd cc
