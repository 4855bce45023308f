-- One step of the counters.
use Rattle.std.proofs.Common.{◌≡◌, ℕ, suc, ◌+◌, ◌<◌, ◌≤◌, List, [], ◌∷◌, drop, get_or, length, sym, ap, ◌∙◌, arith}
use Rattle.std.proofs.Math.Seq.{drop-cons}
use Rattle.std.specs.Prelude.{max}
use Rattle.esc_sixel.specs.Dimensions.{line_after, band_after, found_after, widest_after, last_band}
use Rattle.esc_sixel.specs.declared.sixel_data.SixelData.{SixelData}
use Rattle.esc_sixel.specs.declared.sixel_data.SixelData.TheVariants.{Data, Repeat, DefineColorMapRGB, DefineColorMapHSL, SelectColorMapEntry, CarriageReturn}
use Rattle.esc_sixel.specs.declared.sixel_data.SixelData.TheVariants.{NewLine}

max_least : (n : ℕ) (ds : List SixelData) → n ≤ widest_after n ds
max_least n [] = omega arith
max_least n (Data v ∷ ds) = let h = max_least (n + 1) ds in omega (arith, h)
max_least n (Repeat v c ∷ ds) = let h = max_least (n + c) ds in omega (arith, h)
max_least n (DefineColorMapRGB a b ∷ ds) = max_least n ds
max_least n (DefineColorMapHSL a b c d ∷ ds) = max_least n ds
max_least n (SelectColorMapEntry a ∷ ds) = max_least n ds
max_least n (CarriageReturn ∷ ds) = omega arith
max_least n (NewLine ∷ ds) = omega arith

pub widest_step : (best n : ℕ) (d : SixelData) (ds : List SixelData) → n ≤ best
    → max best (widest_after n (d ∷ ds))
    ≡ max (max best (line_after n d)) (widest_after (line_after n d) ds)
widest_step best n (Data v) ds h = let k = max_least (n + 1) ds in omega (arith, k)
widest_step best n (Repeat v c) ds h = let k = max_least (n + c) ds in omega (arith, k)
widest_step best n (DefineColorMapRGB a b) ds h = let k = max_least n ds in omega (arith, k)
widest_step best n (DefineColorMapHSL a b c d) ds h = let k = max_least n ds in omega (arith, k)
widest_step best n (SelectColorMapEntry a) ds h = let k = max_least n ds in omega (arith, k)
widest_step best n CarriageReturn ds h = omega (arith, h)
widest_step best n NewLine ds h = omega (arith, h)

pub drop_more : {X : Type 0} (xs : List X) (i : ℕ) (d : X) → i < length xs
    → drop i xs ≡ get_or xs i d ∷ drop (i + 1) xs
drop_more xs i d lt = let e : suc i ≡ i + 1 = omega arith in
    drop-cons xs i d lt ∙ ap (λ k. get_or xs i d ∷ drop k xs) e

pub walked : (content : List SixelData) (i : ℕ) (x : SixelData) (best n b f w last : ℕ)
    → x ≡ get_or content i x → i < length content → n ≤ best
    → max best (widest_after n (drop i content)) ≡ w → last_band b f (drop i content) ≡ last
    → (line_after n x ≤ max best (line_after n x))
    × (max (max best (line_after n x)) (widest_after (line_after n x) (drop (i + 1) content)) ≡ w)
    × (last_band (band_after b x) (found_after b f x) (drop (i + 1) content) ≡ last)
walked content i x best n b f w last is lt le was found =
    let cut : drop i content ≡ x ∷ drop (i + 1) content =
    drop_more content i x lt ∙ ap (λ y. y ∷ drop (i + 1) content) (sym is) in (
      omega arith,
      sym (widest_step best n x (drop (i + 1) content) le) ∙ ap (λ xs. max best (widest_after n xs))
          (sym cut) ∙ was,
      ap (λ xs. last_band b f xs) (sym cut) ∙ found,
    )
