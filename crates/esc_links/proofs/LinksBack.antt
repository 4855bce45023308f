-- A hyperlink, or none, that is read from clear parts reads back from its text.
use Rattle.std.proofs.Common.{ℕ, ◌≡◌, ◌≢◌, ◌==◌, List, [], ◌∷◌, ◌++◌, codes, Option, Some, None, refl, sym, ap, ◌∙◌, subst}
use Rattle.std.specs.List.{slice_split}
use Rattle.std.specs.Option.{option_map}
use Rattle.std.proofs.lemmas.List.{append-nil}
use Rattle.esc_values.specs.Clear.{IsClearText, IsClearPart, AreClearParts, AreTextParts, parts_of, semicolon_list}
use Rattle.esc_values.specs.Cuts.{Pairs}
use Rattle.esc_links.specs.declared.hyperlink.Hyperlink.{Hyperlink}
use Rattle.esc_links.specs.Hyperlinks.{params_of, params_text, link_to, link_in, link_of, link_text}
use Rattle.esc_values.specs.Scalars.{and_then, utf8_of}
use Rattle.esc_values.proofs.Clear.ClearTexts.{part_utf8_of}
use Rattle.esc_links.proofs.ParamsBack.{AreReadable, readable, params_clear, params_text_some, params_back}
use Rattle.esc_values.proofs.Clear.PlainPartsAreClear.{plain_part}
use Rattle.esc_values.proofs.Clear.SplitAndJoined.{parts_text}
use Rattle.esc_values.proofs.Numbers.FactsIfSome.{Where}

text_of : (p1 p2 : List ℕ) → semicolon_list (codes "8" ∷ p1 ∷ p2 ∷ []) ≡ codes "8;" ++ (p1 ++ 0x3b ∷ p2)
text_of p1 p2 = ap (λ t. codes "8;" ++ (p1 ++ 0x3b ∷ t)) (append-nil p2)

not_one : (p q r : List ℕ) → p ∷ q ∷ r ∷ [] ≢ [] ∷ []
not_one p q r e = cc

text_parts_of : (p1 p2 : List ℕ) → IsClearPart p1 → IsClearPart p2
    → IsClearText (semicolon_list (codes "8" ∷ p1 ∷ p2 ∷ []))
    × (parts_of (semicolon_list (codes "8" ∷ p1 ∷ p2 ∷ [])) ≡ codes "8" ∷ p1 ∷ p2 ∷ [])
text_parts_of p1 p2 h k =
    parts_text (codes "8" ∷ p1 ∷ p2 ∷ []) (
      (plain_part (codes "8") refl, (h, (k, tt))),
      not_one (codes "8") p1 p2,
    )

module _ {A : Type 0} where
  -- the parts of a link's text are `8`, and two clear parts that are read as that link
  abbrev pub ReadsAs : Option (Hyperlink A) → Type 0
  ReadsAs v = (p1 : List ℕ) × (p2 : List ℕ) × IsClearPart p1 × IsClearPart p2
      × (semicolon_list (codes "8" ∷ p1 ∷ p2 ∷ []) ≡ link_text v) × (link_in p1 p2 ≡ Some v)

module _ (A : Type 0) where
  -- a link without parameters
  no_params : (b : ℕ) (uri : List ℕ) → IsClearPart (b ∷ uri)
      → ReadsAs {A = A} (Some (link_to [] (b ∷ uri)))
  no_params b uri h = (
    [],
    b ∷ uri,
    ([], refl, refl),
    h,
    text_of [] (b ∷ uri),
    ap (option_map (λ u. Some (link_to [] u))) (part_utf8_of (b ∷ uri) h),
  )

  -- a link with parameters
  in_some : (p uri : List ℕ) → p ≢ []
      → link_in {A = A} p uri ≡ and_then (params_of p) (λ es.
      option_map (λ u. Some (link_to es u)) (utf8_of uri))
  in_some [] uri h = absurd (h refl)
  in_some (b ∷ p) uri h = refl

  with_params : (es : Pairs) (uri : List ℕ) → AreReadable es → IsClearPart uri
      → ReadsAs {A = A} (Some (link_to es uri))
  with_params es uri h k = (
    params_text es,
    uri,
    params_clear es h.0,
    k,
    text_of (params_text es) uri,
    in_some (params_text es) uri (params_text_some es h.2) ∙ rw (
      params_back es h,
      part_utf8_of uri k,
    ) refl,
  )

  -- a link that was read reads back
  by_params : (o : Option Pairs) (uri : List ℕ) → Where AreReadable o → IsClearPart uri
      → Where (ReadsAs {A = A})
      (and_then o (λ es. option_map (λ u. Some (link_to es u)) (utf8_of uri)))
  by_params None uri h k = tt
  by_params (Some es) uri h k = rw (part_utf8_of uri k) (with_params es uri h k)

  read_in : (p1 p2 : List ℕ) → IsClearPart p1 → IsClearPart p2
      → Where (ReadsAs {A = A}) (link_in p1 p2)
  read_in [] [] h k = ([], [], h, k, refl, refl)
  read_in [] (b ∷ uri) h k = rw (part_utf8_of (b ∷ uri) k) (no_params b uri k)
  read_in (b ∷ p) uri h k = by_params (params_of (b ∷ p)) uri (readable b p h) k

  read_of : (ps : List (List ℕ)) → AreClearParts ps → Where (ReadsAs {A = A}) (link_of ps)
  read_of [] h = tt
  read_of (p0 ∷ []) h = tt
  read_of (p0 ∷ p1 ∷ []) h = tt
  read_of (p0 ∷ p1 ∷ p2 ∷ []) h = read_in p1 p2 h.1.0 h.1.1.0
  read_of (p0 ∷ p1 ∷ p2 ∷ p3 ∷ ps) h = tt

module _ {A : Type 0} where
  pub reads_as : (ps : List (List ℕ)) → AreTextParts ps → (v : Option (Hyperlink A))
      → link_of ps ≡ Some v → ReadsAs v
  reads_as ps h v e = let P : Option (Option (Hyperlink A)) → Type 0 =
      λ o. Where (ReadsAs {A = A}) o in subst P e (read_of A ps h.0)

  -- the parts of the text of a link that was read are `8` and two parts, which are read as the same
  pub link_parts : (ps : List (List ℕ)) → AreTextParts ps → (v : Option (Hyperlink A))
      → link_of ps ≡ Some v
      → (p1 : List ℕ) × (p2 : List ℕ) × IsClearText (link_text v)
      × (parts_of (link_text v) ≡ codes "8" ∷ p1 ∷ p2 ∷ []) × (link_in p1 p2 ≡ Some v)
  link_parts ps h v e =
      let r = reads_as ps h v e in
      let t = text_parts_of r.0 r.1 r.2 r.3 in
      let P : List ℕ → Type 0 = λ u. IsClearText u × (parts_of u ≡ codes "8" ∷ r.0 ∷ r.1 ∷ []) in
      let moved : P (link_text v) = subst P r.4 t in
      (r.0, r.1, moved.0, moved.1, r.5)

  pub link_back : (ps : List (List ℕ)) → AreTextParts ps → (v : Option (Hyperlink A))
      → link_of ps ≡ Some v
      → IsClearText (link_text v) × (link_of (parts_of (link_text v)) ≡ Some v)
  link_back ps h v e =
      let r = link_parts ps h v e in
      (r.2, ap link_of r.3 ∙ r.4)

  -- the text of any link, and of none, begins with the part `8`
  abbrev pub after_code : Option (Hyperlink A) → List ℕ
  after_code None = 0x3b ∷ []
  after_code (Some h) = params_text h.params ++ 0x3b ∷ h.uri

  pub code_first : (v : Option (Hyperlink A))
      → parts_of (link_text v) ≡ codes "8" ∷ slice_split (λ c. c == 0x3b) (after_code v)
  code_first None = refl
  code_first (Some h) = refl

  -- a link that reads back has three parts: `8` and two that are read as it
  three_parts : (v : Option (Hyperlink A)) (ps : List (List ℕ)) → link_of (codes "8" ∷ ps) ≡ Some v
      → (p1 : List ℕ) × (p2 : List ℕ) × (ps ≡ p1 ∷ p2 ∷ []) × (link_in p1 p2 ≡ Some v)
  three_parts v [] e = absurd cc
  three_parts v (p1 ∷ []) e = absurd cc
  three_parts v (p1 ∷ p2 ∷ []) e = (p1, p2, refl, e)
  three_parts v (p1 ∷ p2 ∷ p3 ∷ ps) e = absurd cc

  pub written_parts : (v : Option (Hyperlink A)) → link_of (parts_of (link_text v)) ≡ Some v
      → (p1 : List ℕ) × (p2 : List ℕ) × (parts_of (link_text v) ≡ codes "8" ∷ p1 ∷ p2 ∷ [])
      × (link_in p1 p2 ≡ Some v)
  written_parts v e =
      let r = three_parts v (slice_split (λ c. c == 0x3b) (after_code v))
      (ap link_of (sym (code_first v)) ∙ e) in
      (r.0, r.1, code_first v ∙ ap (λ ps. codes "8" ∷ ps) r.2, r.3)
