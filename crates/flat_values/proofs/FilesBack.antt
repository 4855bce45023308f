-- Files are read back from their rows.
use Rattle.std.proofs.Common.{ℕ, ◌≡◌, List, ◌++◌, Option, Some, None, refl, map, ◌∙◌}
use Rattle.esc_iterm.specs.declared.dimension.ITermDimension.{ITermDimension}
use Rattle.esc_iterm.specs.declared.dimension.ITermDimension.TheVariants.{Automatic}
use Rattle.esc_iterm.specs.declared.file_data.ITermFileData.{ITermFileData}
use Rattle.flat_values.proofs.ValuesBack.{Fits, flag_back, optional_is}
use Rattle.flat_values.specs.Fields.{Field, named_values}
use Rattle.flat_values.specs.Found.{NamedValue, Reading, named_value, past, size_of, string_of}
use Rattle.flat_values.specs.FoundPrompts.{file_in, file_with, high_in, past_width, sized_in, width_in}
use Rattle.flat_values.specs.Held.{AreWithin, Bounds, text_parts}
use Rattle.flat_values.specs.Proprietary.{file_fields, height_fields, shown_fields, size_fields, text_fields, width_fields}
use Rattle.flat_values.specs.declared.field_name.FieldName.TheVariants as name
use Rattle.std.specs.Option.{option_map}

module _ {A : Type 0} where
  -- the fields from a file's width on
  abbrev dimensions : ITermDimension → ITermDimension → ITermFileData A → List Field
  dimensions w h f = width_fields w ++ (height_fields h ++ shown_fields f)

  -- none of these is a name or a size
  others : (w h : ITermDimension) (f : ITermFileData A)
      → (named_value name.Name (map named_values (dimensions w h f)) ≡ None)
      × (past name.Name (map named_values (dimensions w h f)) ≡ map named_values (dimensions w h f))
      × (named_value name.Size (map named_values (dimensions w h f)) ≡ None)
      × (past name.Size (map named_values (dimensions w h f)) ≡ map named_values (dimensions w h f))
  others Automatic Automatic f = (refl, refl, refl, refl)
  others Automatic h f = (refl, refl, refl, refl)
  others w Automatic f = (refl, refl, refl, refl)
  others w h f = (refl, refl, refl, refl)

  -- dimensions are read
  abbrev wide_in : Option (List ℕ) → Option ℕ → List NamedValue → ITermFileData A
  wide_in n k ss = high_in n k (width_in ss) (past_width ss)

  wide_back : (n : Option (List ℕ)) (k : Option ℕ) (w h : ITermDimension) (f : ITermFileData A)
      → wide_in n k (map named_values (dimensions w h f))
      ≡ file_with n k w h (map named_values (shown_fields f))
  wide_back n k Automatic Automatic f = refl
  wide_back n k Automatic h f = refl
  wide_back n k w Automatic f = refl
  wide_back n k w h f = refl

  -- a size is read, and a name
  sized_back : (n : Option (List ℕ)) (k : Option ℕ) (w h : ITermDimension) (f : ITermFileData A)
      → sized_in {A = A} n (map named_values (size_fields k ++ dimensions w h f))
      ≡ file_with n k w h (map named_values (shown_fields f))
  sized_back n (Some k) w h f = wide_back n (Some k) w h f
  sized_back n None w h f =
      let o = others w h f in
      (λ i. high_in {A = A} n (option_map size_of (o.2 i))
      (width_in (o.3 i)) (past_width (o.3 i)))
      ∙ wide_back n None w h f

  abbrev sizes : Option ℕ → ITermDimension → ITermDimension → ITermFileData A → List Field
  sizes k w h f = size_fields k ++ dimensions w h f

  unnamed : (k : Option ℕ) (w h : ITermDimension) (f : ITermFileData A)
      → (named_value name.Name (map named_values (sizes k w h f)) ≡ None)
      × (past name.Name (map named_values (sizes k w h f)) ≡ map named_values (sizes k w h f))
  unnamed (Some k) w h f = (refl, refl)
  unnamed None w h f = ((others w h f).0, (others w h f).1)

module _ {A : Type 0} (r : Reading) (b : Bounds) (f : Fits r b) where
  named_back : (n : Option (List ℕ)) (k : Option ℕ) (w h : ITermDimension) (x : ITermFileData A)
      → file_in {A = A} r (map named_values (text_fields name.Name n ++ sizes k w h x))
      ≡ file_with (option_map r.text n) k w h (map named_values (shown_fields x))
  named_back (Some t) k w h x = sized_back (Some (r.text t)) k w h x
  named_back None k w h x =
      let o = unnamed k w h x in
      (λ i. sized_in {A = A} (option_map (string_of r) (o.0 i)) (o.1 i))
      ∙ sized_back None k w h x

  pub file_back : (x : ITermFileData A) → AreWithin b (text_parts x.name)
      → file_in r (map named_values (file_fields x)) ≡ x
  file_back x held =
      let name_is = optional_is r b f x.name held in
      let ratio_is = flag_back x.preserve_aspect_ratio in
      let inline_is = flag_back x.inline in
      let still_is = flag_back x.do_not_move_cursor in
      named_back x.name x.size x.width x.height x
      ∙ (λ i. record {
        name = name_is i;
        size = x.size;
        width = x.width;
        height = x.height;
        preserve_aspect_ratio = ratio_is i;
        inline = inline_is i;
        do_not_move_cursor = still_is i;
        content = x.content;
      })
