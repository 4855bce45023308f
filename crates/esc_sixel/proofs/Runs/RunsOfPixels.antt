-- Runs of six pixels.
use Rattle.std.proofs.Common.{◌≡◌, ℕ, ◌+◌, ◌%◌, ◌^◌, ◌<◌, ◌≤◌, ◌==◌, ◌||◌, Bool, true, false, not, List, [], ◌∷◌, ◌++◌, map, length, slice_set, take}
use Rattle.std.proofs.Common.{drop, get_or, Fits}
use Rattle.std.proofs.Common.{w8, refl, ap, sym, subst, ◌∙◌, ◌-◌, append_assoc, arith, length-drop}
use Rattle.std.proofs.lemmas.List.Sums.{prefix_len-le-length, prefix_len_passes}
use Rattle.std.specs.List.{prefix_len, All}
use Rattle.std.proofs.lemmas.Bool.{agree_below, agree_below_at, eqb-true}
use Rattle.std.proofs.lemmas.Bool.Decides.{nat_tests}
use Rattle.std.proofs.lemmas.List.{length-map, get_or-take, length-take, map-append, take_all, take_more}
use Rattle.std.proofs.lemmas.List.Elements.{All-from_get_or, All-append, All-nil, All-cons, All-head, All-tail, All-take, All-drop}
use Rattle.std.proofs.Math.Seq.{take-add, set-append_seam}
use Rattle.std.proofs.lemmas.Simd.{map-map, mask_l-mod, first_set_mask_l, chunk-fits, length-chunk}
use lib.Lanes.{Each1, mask_l, top}
use Rattle.esc_sixel.specs.Appending.{BeginsWithPixels}
use Rattle.esc_sixel.specs.Classes.{class_of, is_pixels, IsPixels, lowest}
use Rattle.esc_sixel.specs.Meaning.{drawn_data}
use Rattle.esc_sixel.specs.declared.class.Class.TheVariants.{Pixels}
use Rattle.esc_sixel.specs.declared.sixel_data.SixelData.{SixelData}
use Rattle.esc_sixel.specs.declared.sixel_data.SixelData.TheVariants.{Data}

-- two tests that agree on bytes find the same run
prefix_same : (p q : ℕ → Bool) → agree_below p q 256 ≡ true → (xs : List ℕ) → Each1 (Fits w8) xs
    → prefix_len p xs ≡ prefix_len q xs
prefix_same p q h [] f = refl
prefix_same p q h (x ∷ xs) (f, fs) =
    rw (agree_below_at p q 256 x h f.fits, prefix_same p q h xs fs) refl

-- the lowest lane whose top bit is set, if the lanes were computed from bytes
pub lowest_lane : (q : ℕ → Bool) (f : ℕ → ℕ) (z bytes : List ℕ) (at n : ℕ) → at + n ≤ length bytes
    → n ≤ 64 → ((k : ℕ) → Fits w8 (get_or bytes k 0))
    → agree_below (λ x. not (top 7 (f x))) q 256 ≡ true → z ≡ map f (take n (drop at bytes))
    → lowest (mask_l (map (top 7) z) % 2 ^ 64) n ≡ prefix_len q (take n (drop at bytes))
lowest_lane q f z bytes at n room few fits h lanes =
    let v : List ℕ = take n (drop at bytes) in
    let long : length v ≡ n = length-chunk at n bytes room in
    let stops : ℕ → Bool = λ x. top 7 (f x) in
    let mask : mask_l (map (top 7) z) % 2 ^ 64 ≡ mask_l (map stops v) =
    ap (λ l. mask_l l % 2 ^ 64) (ap (map (top 7)) lanes ∙ map-map (top 7) f v) ∙ mask_l-mod
    (map stops v) 64 (omega (arith, length-map v stops, long)) in
    ap (λ m. lowest m n) mask ∙ first_set_mask_l stops v n long few ∙ prefix_same (λ x.
    not (stops x)) q h v (chunk-fits w8 at n bytes fits)

-- the bytes before the first that is none
pub passed : (xs : List ℕ) (n r : ℕ) → r ≡ prefix_len is_pixels (take n xs)
    → All IsPixels (take r xs)
passed xs n r e = All-from_get_or IsPixels (take r xs) 0 (λ k h.
    let most = prefix_len-le-length is_pixels (take n xs) in
    let lt : k < r = omega (arith, length-take r xs) in
    let few : k < n = omega (arith, length-take n xs) in
    get_or_step xs n r k lt few e)
  where
    get_or_step : (xs : List ℕ) (n r k : ℕ) → k < r → k < n → r ≡ prefix_len is_pixels (take n xs)
        → IsPixels (get_or (take r xs) k 0)
    get_or_step xs n r k lt few e =
        subst IsPixels (get_or-take n xs k 0 few ∙ sym (get_or-take r xs k 0 lt))
        (prefix_len_passes is_pixels (take n xs) k 0 (omega arith))

-- a run, and one right after it
pub joined : (xs : List ℕ) (i r : ℕ) → All IsPixels (take i xs) → All IsPixels (take r (drop i xs))
    → All IsPixels (take (i + r) xs)
joined xs i r a b =
    subst (All IsPixels) (sym (take-add i r xs))
    (All-append IsPixels (take i xs) (take r (drop i xs)) a b)

pub is_within : (b : ℕ) → 0x3f ≤ b → b ≤ 0x7e → IsPixels b
is_within b low high = grind (arith, nat_tests)

pub one_more : (xs : List ℕ) (i : ℕ) → i < length xs → All IsPixels (take i xs)
    → 0x3f ≤ get_or xs i 0 → get_or xs i 0 ≤ 0x7e → All IsPixels (take (i + 1) xs)
one_more xs i lt a low high =
    let one : IsPixels (get_or xs i 0) = is_within (get_or xs i 0) low high in
    subst (All IsPixels) (sym (take_more xs i 0 lt))
    (All-append IsPixels (take i xs) (get_or xs i 0 ∷ []) a
    (All-cons IsPixels _ [] one (All-nil IsPixels)))

-- the class of such a byte
pub pixels_class : (b : ℕ) → IsPixels b → class_of b ≡ Pixels (b - 0x3f)
unfolding class_of
pixels_class b h = grind (arith, nat_tests)

-- the last of a list in place of the one that was pushed
pub last_set : {X : Type 0} (xs ys : List X) (y z : X) (n : ℕ) → ys ≡ xs ++ y ∷ [] → n ≡ length xs
    → slice_set ys n z ≡ xs ++ z ∷ []
last_set xs ys y z n e l = rw (e, l) (set-append_seam xs y [] z)

-- a block of pixels: its bytes, less the least
implied : (x y : Bool) → x ≡ true → (not x || y) ≡ true → y ≡ true
implied true y h e = e
implied false y h e = absurd (let f : false ≡ true = h in cc)

less_least : (f : ℕ → ℕ) → agree_below (λ b. not (is_pixels b) || f b == b - 0x3f) (λ b. true) 256
    ≡ true → (b : ℕ) → IsPixels b → f b ≡ b - 0x3f
less_least f same b h =
    let low : b < 256 = small b h in
    eqb-true (f b) (b - 0x3f) (implied (is_pixels b) (f b == b - 0x3f) h
    (agree_below_at (λ c. not (is_pixels c) || f c == c - 0x3f) (λ c. true) 256 b same low))
  where
    small : (b : ℕ) → IsPixels b → b < 256
    small b h = grind (arith, nat_tests)

pub block_drawn : (f : ℕ → ℕ)
    → agree_below (λ b. not (is_pixels b) || f b == b - 0x3f) (λ b. true) 256 ≡ true → (bs : List ℕ)
    → All IsPixels bs
    → map Data (map f bs) ≡ drawn_data bs
block_drawn f same [] h = refl
block_drawn f same (b ∷ bs) h =
    ap (λ v. Data v ∷ map Data (map f bs)) (less_least f same b (All-head IsPixels b bs h))
    ∙ ap (λ ds. Data (b - 0x3f) ∷ ds) (block_drawn f same bs (All-tail IsPixels b bs h))

-- one more after a list and those that came after it
pub put_more : (xs after ys zs : List SixelData) (v : ℕ) → ys ≡ xs ++ after → zs ≡ ys ++ Data v ∷ []
    → zs ≡ xs ++ (after ++ Data v ∷ [])
put_more xs after ys zs v e f =
    f ∙ ap (λ t. t ++ Data v ∷ []) e ∙ append_assoc xs after (Data v ∷ [])

-- eight numbers by their places
pub eight : (vs : List ℕ) → length vs ≡ 8
    → Data (get_or vs 0 0) ∷ Data (get_or vs 1 0) ∷ Data (get_or vs 2 0) ∷ Data (get_or vs 3 0)
    ∷ Data (get_or vs 4 0) ∷ Data (get_or vs 5 0) ∷ Data (get_or vs 6 0) ∷ Data (get_or vs 7 0) ∷ []
    ≡ map Data vs
eight [] l = absurd (omega (arith, l))
eight (a ∷ []) l = absurd (omega (arith, l))
eight (a ∷ b ∷ []) l = absurd (omega (arith, l))
eight (a ∷ b ∷ c ∷ []) l = absurd (omega (arith, l))
eight (a ∷ b ∷ c ∷ d ∷ []) l = absurd (omega (arith, l))
eight (a ∷ b ∷ c ∷ d ∷ e ∷ []) l = absurd (omega (arith, l))
eight (a ∷ b ∷ c ∷ d ∷ e ∷ f ∷ []) l = absurd (omega (arith, l))
eight (a ∷ b ∷ c ∷ d ∷ e ∷ f ∷ g ∷ []) l = absurd (omega (arith, l))
eight (a ∷ b ∷ c ∷ d ∷ e ∷ f ∷ g ∷ h ∷ []) l = refl
eight (a ∷ b ∷ c ∷ d ∷ e ∷ f ∷ g ∷ h ∷ i ∷ vs) l = absurd (omega (arith, l))

-- four numbers by their places
pub four : (vs : List ℕ) → length vs ≡ 4
    → Data (get_or vs 0 0) ∷ Data (get_or vs 1 0) ∷ Data (get_or vs 2 0) ∷ Data (get_or vs 3 0) ∷ []
    ≡ map Data vs
four [] l = absurd (omega (arith, l))
four (a ∷ []) l = absurd (omega (arith, l))
four (a ∷ b ∷ []) l = absurd (omega (arith, l))
four (a ∷ b ∷ c ∷ []) l = absurd (omega (arith, l))
four (a ∷ b ∷ c ∷ d ∷ []) l = refl
four (a ∷ b ∷ c ∷ d ∷ e ∷ vs) l = absurd (omega (arith, l))

-- a run that is drawn goes on
pub drawn_more : (items before after : List SixelData) (xs : List ℕ) (at n : ℕ)
    → before ≡ items ++ drawn_data (take at xs)
    → after ≡ before ++ drawn_data (take n (take (length xs - at) (drop at xs)))
    → after ≡ items ++ drawn_data (take (at + n) xs)
drawn_more items before after xs at n e f =
    let rest : take (length xs - at) (drop at xs) ≡ drop at xs =
    take_all (length xs - at) (drop at xs) (omega (arith, length-drop at xs)) in
    let more : after ≡ before ++ drawn_data (take n (drop at xs)) =
    f ∙ ap (λ t. before ++ drawn_data (take n t)) rest in
    more
    ∙ ap (λ t. t ++ drawn_data (take n (drop at xs))) e
    ∙ append_assoc items (drawn_data (take at xs)) (drawn_data (take n (drop at xs)))
    ∙ ap (λ t. items ++ t)
    (sym (map-append (λ b. Data (b - 0x3f)) (take at xs) (take n (drop at xs))))
    ∙ ap (λ t. items ++ drawn_data t) (sym (take-add at n xs))

-- and by one
pub drawn_one : (items before after : List SixelData) (xs : List ℕ) (at v : ℕ) → at < length xs
    → before ≡ items ++ drawn_data (take at xs)
    → v ≡ get_or xs at 0 - 0x3f → after ≡ before ++ Data v ∷ []
    → after ≡ items ++ drawn_data (take (at + 1) xs)
drawn_one items before after xs at v lt e is f =
    put_more items (drawn_data (take at xs)) before after v e f
    ∙ ap (λ w. items ++ (drawn_data (take at xs) ++ Data w ∷ [])) is
    ∙ ap (λ t. items ++ t)
    (sym (map-append (λ b. Data (b - 0x3f)) (take at xs) (get_or xs at 0 ∷ [])))
    ∙ ap (λ t. items ++ drawn_data t) (sym (take_more xs at 0 lt))

-- some of a run, and one of it
pub some_pixels : (xs : List ℕ) (at n : ℕ) → at + n ≤ length xs → All IsPixels xs
    → BeginsWithPixels n (take (length xs - at) (drop at xs))
some_pixels xs at n within h = record {
  room = omega (arith, length-take (length xs - at) (drop at xs), length-drop at xs);
  pixels = All-take IsPixels n _ (All-take IsPixels (length xs - at) _ (All-drop IsPixels at xs h));
}
