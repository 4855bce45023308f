-- A writable sixel image is written as a text that means it.
use Rattle.std.proofs.Common.{ℕ, pos, suc, arith, ◌≡◌, ◌<◌, ◌↔◌, ◌+◌, Bool, List, [], ◌∷◌, drop, get_or, length, map, Option, Some, None, refl, sym, ap, subst, ◌∙◌}
use Rattle.std.proofs.Math.Seq.{drop-cons}
use Rattle.std.specs.Global.{Global}
use Rattle.flat_values.proofs.SixelsFound.{sixels_whole}
use Rattle.flat_values.specs.Sixels.{sixel_row}
use Rattle.flat_values.specs.declared.sixel_row.SixelRow.{SixelRow}
use Rattle.esc_sixel.proofs.Writing.WritesBack.{writes_back}
use Rattle.esc_sixel.specs.Writable.{AreWritableData, IsWritable, IsWritableData}
use Rattle.esc_sixel.specs.declared.sixel.Sixel.{Sixel}
use Rattle.esc_sixel.specs.declared.sixel_data.SixelData.{SixelData}
use Rattle.esc_calls.specs.SixelValues.{IsOptional}
use Rattle.esc_calls.specs.WrittenSixels.{HasSixel, IsWrittenAs, optional}
use Rattle.esc_calls.specs.declared.sixel_value.SixelValue.{SixelValue}

-- a value and rows are those of one image
optional_is : {X : Type 0} (zero : X) (o : Option X) (has : Bool) (x : X) → IsOptional zero o has x
    → o ≡ optional has x
optional_is zero None has x h = ap (λ b. optional b x) (sym h.0)
optional_is zero (Some y) has x h =
    let has_is = sym h.0 in
    let x_is = sym h.1 in
    λ k. optional (has_is k) (x_is k)

content_is : (ds es : List SixelData) → map sixel_row ds ≡ map sixel_row es → ds ≡ es
content_is [] [] is = refl
content_is [] (e ∷ es) is = absurd cc
content_is (d ∷ ds) [] is = absurd cc
content_is (d ∷ ds) (e ∷ es) is =
    let first : sixel_row d ≡ sixel_row e = cc in
    let rest : map sixel_row ds ≡ map sixel_row es = cc in
    let d_is = sixels_whole d e first in
    let ds_are = content_is ds es rest in
    λ k. d_is k ∷ ds_are k

same_sixel : (v : SixelValue) (rs : List SixelRow) (s t : Sixel Global) → HasSixel v rs s
    → HasSixel v rs t → s ≡ t
same_sixel v rs s t of_s of_t =
    let a = of_s.0 in
    let b = of_t.0 in
    let pan_is = sym a.pan ∙ b.pan in
    let pad_is = sym a.pad ∙ b.pad in
    let width_is = optional_is 0 s.pixel_width v.has_pixel_width v.pixel_width a.width
    ∙ sym (optional_is 0 t.pixel_width v.has_pixel_width v.pixel_width b.width) in
    let height_is = optional_is 0 s.pixel_height v.has_pixel_height v.pixel_height a.height
    ∙ sym (optional_is 0 t.pixel_height v.has_pixel_height v.pixel_height b.height) in
    let background_is = sym a.background ∙ b.background in
    let grid_is = optional_is (pos 0) s.horizontal_grid_size v.has_grid_size v.grid_size a.grid
    ∙ sym (optional_is (pos 0) t.horizontal_grid_size v.has_grid_size v.grid_size b.grid) in
    let content_same = content_is s.content t.content (of_s.1 ∙ sym of_t.1) in
    λ k. record {
      pan = pan_is k;
      pad = pad_is k;
      pixel_width = width_is k;
      pixel_height = height_is k;
      background_is_transparent = background_is k;
      horizontal_grid_size = grid_is k;
      content = content_same k;
    }

-- a writable image has parameters and data, which mean it
pub sixel_written : (v : SixelValue) (rs : List SixelRow) (s : Sixel Global) → HasSixel v rs s
    → IsWritable s → (x : List ℕ) × (d : List ℕ) × IsWrittenAs v rs s x d
sixel_written v rs s has writable =
    let back = writes_back s writable in (
      back.0,
      back.1,
      record {
        has = has;
        output = back.2;
        parameters = back.3;
        clear = back.4;
        back = back.5;
      },
    )

-- if the image that has a value and rows is not writable, no writable image has them
pub none_writable : (v : SixelValue) (rs : List SixelRow) (s : Sixel Global) → HasSixel v rs s
    → (IsWritable s → ⊥) → (t : Sixel Global) → IsWritable t → HasSixel v rs t → ⊥
none_writable v rs s of_s unwritable t writable of_t =
    unwritable (subst IsWritable (same_sixel v rs t s of_t of_s) writable)

-- data is writable if an item is and the items after it are
from_item : (ds : List SixelData) (i : ℕ) (d : SixelData) → i < length ds → d ≡ get_or ds i d
    → drop i ds ≡ d ∷ drop (i + 1) ds
from_item ds i d inside is_d =
    let next : suc i ≡ i + 1 = omega arith in
    drop-cons ds i d inside ∙ (λ k. sym is_d k ∷ drop (next k) ds)

pub item_writable : (ds : List SixelData) (i : ℕ) (d : SixelData) → i < length ds
    → d ≡ get_or ds i d → (AreWritableData ds ↔ AreWritableData (drop i ds)) → IsWritableData d
    → (AreWritableData ds ↔ AreWritableData (drop (i + 1) ds))
item_writable ds i d inside is_d so_far writable =
    let all = from_item ds i d inside is_d in (
      λ h. (subst AreWritableData all (so_far.0 h)).1,
      λ h. so_far.1 (subst AreWritableData (sym all) (writable, h)),
    )

pub item_unwritable : (ds : List SixelData) (i : ℕ) (d : SixelData) → i < length ds
    → d ≡ get_or ds i d → (AreWritableData ds ↔ AreWritableData (drop i ds))
    → (IsWritableData d → ⊥) → AreWritableData ds → ⊥
item_unwritable ds i d inside is_d so_far unwritable h =
    unwritable (subst AreWritableData (from_item ds i d inside is_d) (so_far.0 h)).0
