-- The values that a filter of lines reads from a line that it wrote, and those that it makes of
-- them.
use Rattle.std.proofs.Common.{ℕ, ◌≡◌, Bool, true, false, not, ◌&&◌, ◌||◌, if◌then◌else◌, lit<, List, [], ◌∷◌, ◌++◌, Option, Some, refl, sym, ap, ◌∙◌, subst, append-nil, append_assoc}
use Rattle.std.specs.List.{filter, list_all}
use Rattle.std.proofs.lemmas.Bool.{and_parts}
use Rattle.std.proofs.lemmas.List.{append_cancel_right}
use Rattle.std.proofs.lemmas.List.Elements.{filter-append}
use Rattle.std.proofs.lemmas.Str.{encode_ascii}
use Rattle.esc_frame.specs.Classes.{class_of}
use Rattle.esc_frame.specs.Stream.{events_within}
use Rattle.esc_actions.specs.ControlCodes.{code_of}
use Rattle.esc_actions.specs.Meaning.{Reads, meaning, meaning_within}
use Rattle.esc_actions.specs.Texts.{is_terminator, list_text, normal, texts_after}
use Rattle.esc_actions.specs.Values.{Value, control}
use Rattle.esc_actions.specs.declared.control_code.ControlCode.TheVariants.{CarriageReturn, LineFeed}
use Rattle.esc_normal.proofs.Texts.{texts_more}
use Rattle.esc_normal.specs.Texts.{ends_in_string}
use Rattle.esc_filter.specs.Characters.{in_values}
use Rattle.esc_filter.specs.Closing.{after_values, closed_values, closing}
use Rattle.esc_filter.specs.Lines.{IsLine, body, content, end_text, ends_return, has_line_feed, held, line_text, passed_of_content, passed_of_line}
use Rattle.esc_filter.specs.Openings.{opening_left, opening_of}
use Rattle.esc_filter.specs.Passing.{IsFilteredAs, closed_text_as, in_lines, is_line_feed, is_whole, passed_text_as, passes}
use Rattle.esc_filter.specs.Pens.{pen_after, start_pen, text_of_pen}
use Rattle.esc_filter.specs.Terminal.{as_at_start}
use Rattle.esc_filter.specs.declared.guard.Guard.{Guard}
use Rattle.esc_filter.proofs.GivingBack.GivingBackRestores.{at_start}
use Rattle.esc_filter.proofs.ByLine.BytesOfLines.{body_append, body_held, body_whole, content_is, line_ends, return_append}
use Rattle.esc_filter.proofs.Output.TextsGrow.{after_more}
use Rattle.esc_idempotent.proofs.Normals.{each_passes}
use Rattle.esc_idempotent.proofs.Returns.{last_return, reads_whole}
use Rattle.esc_idempotent.proofs.Singles.{is_single}
use Rattle.esc_idempotent.proofs.Steady.{IsSteady, is_still, steady_first, steady_is}
use Rattle.esc_idempotent.proofs.Twice.{ArePassed, ArePassedAgain, all_if, all_two, calm_back, closed_pass, closes_again, is_calm, pass_again, passed_pass}
use Rattle.esc_idempotent.specs.Again.{AdmitsInstead, AdmitsItsClosing, IsKept, read_of_line}

return_text : (A : Type 0) (b : Bool)
    → texts_after {A = A} b (control CarriageReturn ∷ []) ≡ 0x0d ∷ []
return_text A b = ap (λ t. t ++ []) (encode_ascii 0x0d (lit< tt))

module _ {A : Type 0} where
  feed_means : meaning {A = A} (0x0a ∷ []) ≡ control LineFeed ∷ []
  unfolding meaning_within events_within class_of code_of
  feed_means = refl

  -- ---- values that pass, and then a line feed or a carriage return

  module _ (f : Value A → Bool) where
    abbrev pub P : Value A → Bool
    P = passes (in_lines true f)

    without_feed : (vs : List (Value A)) → filter P (vs ++ control LineFeed ∷ []) ≡ filter P vs
    without_feed vs = filter-append P vs (control LineFeed ∷ []) ∙ append-nil (filter P vs)

    with_return : (vs : List (Value A)) → f (control CarriageReturn) ≡ true
        → filter P (vs ++ control CarriageReturn ∷ [])
        ≡ filter P vs ++ control CarriageReturn ∷ []
    with_return vs h =
        filter-append P vs (control CarriageReturn ∷ [])
        ∙ rw h refl

    last_of_all : (p : Value A → Bool) (vs : List (Value A)) (v : Value A)
        → list_all p (vs ++ v ∷ []) ≡ true → p v ≡ true
    last_of_all p [] v h = (and_parts (p v) true h).0
    last_of_all p (w ∷ vs) v h =
        last_of_all p vs v (and_parts (p w) (list_all p (vs ++ v ∷ [])) h).1

    return_passes : (ws vs : List (Value A)) → list_all P ws ≡ true
        → list_all is_single ws ≡ true → normal ws ≡ vs ++ control CarriageReturn ∷ []
        → f (control CarriageReturn) ≡ true
    return_passes ws vs a s e =
        last_of_all (λ v. is_terminator v || P v) vs (control CarriageReturn)
        (ap (list_all (λ v. is_terminator v || P v)) (sym e) ∙ each_passes P ws a s)

  -- ---- the values ws of a line, which were written, and a line feed

  module _ (u : Guard) (f : Value A → Bool) (again : ℕ) (ws : List (Value A))
      (a : ArePassed u (P f) ws) (reads : Reads (list_text ws) (normal ws)) where
    abbrev Again : List ℕ → List (Value A)
    Again x = passed_of_line u again f (x ++ 0x0a ∷ [])

    -- these values of the content y of the line, and of its line feed, pass
    pub record ReadsAgain (y : List ℕ) : Type 0 where
      pub values : List (Value A)
      pub passed : passed_of_content u again f y ≡ values
      pub leaves : after_values values as_at_start ≡ after_values ws as_at_start
      pub text : list_text values ++ end_text f (ends_return false y) ≡ y ++ 0x0a ∷ []

    abbrev ns : List (Value A)
    ns = filter (P f) (normal ws)

    whole_again : IsKept A (Some again) (list_text ws ++ 0x0a ∷ []) → Again (list_text ws) ≡ ns
    whole_again kept =
        ap (λ ms. in_values u (filter (P f) ms))
        (kept ∙ reads (0x0a ∷ []) ∙ ap (λ x. normal ws ++ x) feed_means)
        ∙ ap (in_values u) (without_feed f (normal ws))
        ∙ steady_is u ns (pass_again u (P f) ws a).steady

    -- without the carriage return that comes last
    pub record IsCut (x : List ℕ) : Type 0 where
      pub values : List (Value A)
      pub passed : Again x ≡ values
      pub leaves : after_values values as_at_start ≡ after_values ws as_at_start
      pub text : list_text values ++ 0x0d ∷ [] ≡ list_text ws
      pub admitted : f (control CarriageReturn) ≡ true

    cut_again : (x : List ℕ) → list_text ws ≡ x ++ 0x0d ∷ []
        → IsKept A (Some again) (x ++ 0x0a ∷ []) → IsCut x
    cut_again x e kept = by (last_return x (normal ws) (subst (λ t. Reads t (normal ws)) e reads))
      where
        n : ArePassedAgain u ws ns
        n = pass_again u (P f) ws a

        by : (vs : List (Value A)) × (meaning (x ++ 0x0d ∷ []) ≡ vs ++ control CarriageReturn ∷ [])
            × (meaning (x ++ 0x0a ∷ []) ≡ vs ++ control LineFeed ∷ []) → IsCut x
        by (vs, with_return_is, with_feed_is) = record {
          values = ms;
          passed =
              ap (λ zs. in_values u (filter (P f) zs)) (kept ∙ with_feed_is)
              ∙ ap (in_values u) (without_feed f vs) ∙ steady_is u ms steady;
          leaves =
              sym (after_more ms (control CarriageReturn ∷ []) as_at_start)
              ∙ ap (λ zs. after_values zs as_at_start) (sym are) ∙ n.leaves;
          text =
              ap (λ t. list_text ms ++ t) (sym (return_text A (ends_in_string false ms)))
              ∙ sym (texts_more false ms (control CarriageReturn ∷ []))
              ∙ ap list_text (sym are) ∙ n.text;
          admitted = passes_too;
        }
          where
            ms : List (Value A)
            ms = filter (P f) vs

            normal_is : normal ws ≡ vs ++ control CarriageReturn ∷ []
            normal_is =
                sym (reads_whole (list_text ws) (normal ws) reads) ∙ ap meaning e ∙ with_return_is

            passes_too : f (control CarriageReturn) ≡ true
            passes_too = return_passes f ws vs a.pass a.single normal_is

            are : ns ≡ ms ++ control CarriageReturn ∷ []
            are = ap (filter (P f)) normal_is ∙ with_return f vs passes_too

            steady : IsSteady u ms
            steady =
                steady_first u ms (control CarriageReturn ∷ []) (subst (IsSteady u) are n.steady)

    -- ---- the end of the line

    with_held : (t : List ℕ) → (body (t ++ 0x0d ∷ []) ≡ t)
        × (ends_return false (t ++ 0x0d ∷ []) ≡ true)
    with_held t = (
      body_append t 0x0d [] ∙ append-nil t,
      return_append false t (0x0d ∷ []),
    )

    ends_with : (ms : List (Value A)) (t y : List ℕ) (r c : Bool) → list_text ms ≡ t
        → ends_return false y ≡ r → (if r && f (control CarriageReturn) then 0x0d ∷ 0x0a ∷ []
        else 0x0a ∷ []) ≡ held c ++ 0x0a ∷ [] → y ≡ t ++ held c
        → list_text ms ++ end_text f (ends_return false y) ≡ y ++ 0x0a ∷ []
    ends_with ms t y r c e q d same =
        ap (λ z. z ++ end_text f (ends_return false y)) e
        ∙ ap (λ z. t ++ end_text f z) q ∙ ap (λ z. t ++ z) d
        ∙ sym (append_assoc t (held c) (0x0a ∷ [])) ∙ ap (λ z. z ++ 0x0a ∷ []) (sym same)

    -- it has one that was written at its end
    returned : f (control CarriageReturn) ≡ true → (y : List ℕ)
        → y ≡ list_text ws ++ 0x0d ∷ [] → IsKept A (Some again) (body y ++ 0x0a ∷ [])
        → ReadsAgain y
    returned h y e kept =
        let t = list_text ws in
        let n = pass_again u (P f) ws a in
        let q = with_held t in
        let same : body y ≡ t = ap body e ∙ q.0 in record {
          values = ns;
          passed =
              ap Again same
              ∙ whole_again (subst (λ z. IsKept A (Some again) (z ++ 0x0a ∷ [])) same kept);
          leaves = n.leaves;
          text =
              ends_with ns t y true true n.text (ap (ends_return false) e ∙ q.1) (rw h refl) e;
        }

    -- it has none
    unreturned : (y : List ℕ) → y ≡ list_text ws → ends_return false y ≡ false
        → IsKept A (Some again) (body y ++ 0x0a ∷ []) → ReadsAgain y
    unreturned y e q kept =
        let t = list_text ws in
        let n = pass_again u (P f) ws a in
        let same : body y ≡ t = body_whole y q ∙ e in record {
          values = ns;
          passed =
              ap Again same
              ∙ whole_again (subst (λ z. IsKept A (Some again) (z ++ 0x0a ∷ [])) same kept);
          leaves = n.leaves;
          text = ends_with ns t y false false n.text q refl (e ∙ sym (append-nil t));
        }

    -- it has one that was written before the end
    returned_before : (y : List ℕ) → y ≡ list_text ws → ends_return false y ≡ true
        → IsKept A (Some again) (body y ++ 0x0a ∷ []) → ReadsAgain y
    returned_before y e q kept =
        let whole : y ≡ body y ++ 0x0d ∷ [] = body_held y ∙ ap (λ t. body y ++ held t) q in
        let k = cut_again (body y) (sym e ∙ whole) kept in
        let t = list_text k.values in record {
          values = k.values;
          passed = k.passed;
          leaves = k.leaves;
          text = ends_with k.values t y true true refl q (rw k.admitted refl) (e ∙ sym k.text);
        }

    pub read_again : (y : List ℕ) (c : Bool) → (c ≡ true → f (control CarriageReturn) ≡ true)
        → y ≡ list_text ws ++ held c → IsKept A (Some again) (body y ++ 0x0a ∷ []) → ReadsAgain y
    read_again y true h e kept = returned (h refl) y e kept
    read_again y false h e kept = by (ends_return false y) refl
      where
        own : y ≡ list_text ws
        own = e ∙ append-nil (list_text ws)

        by : (t : Bool) → ends_return false y ≡ t → ReadsAgain y
        by true q = returned_before y own q kept
        by false q = unreturned y own q kept

-- ---- a line that has ended

module _ {A : Type 0} (u : Guard) (f : Value A → Bool) where
  abbrev Text : ℕ → List ℕ → List ℕ
  Text n x = list_text (closed_values f (passed_of_content u n f x))
      ++ end_text f (ends_return false x)

  line_is : (n : ℕ) (x : List ℕ) → has_line_feed x ≡ false
      → line_text u n f (x ++ 0x0a ∷ []) ≡ Text n x
  line_is n x none =
      let l = x ++ 0x0a ∷ [] in
      ap (λ t. if t then Text n (content l) else list_text (passed_of_line u n f (body l)))
      (line_ends false l (x, none, refl))
      ∙ ap (Text n) (content_is x [] none)

  end_is : (t : List ℕ) (r : Bool)
      → t ++ end_text f r ≡ (t ++ held (r && f (control CarriageReturn))) ++ 0x0a ∷ []
  end_is t r = by (r && f (control CarriageReturn))
    where
      by : (c : Bool) → t ++ (if c then 0x0d ∷ 0x0a ∷ [] else 0x0a ∷ [])
          ≡ (t ++ held c) ++ 0x0a ∷ []
      by true = sym (append_assoc t (0x0d ∷ []) (0x0a ∷ []))
      by false = ap (λ z. z ++ 0x0a ∷ []) (sym (append-nil t))

  of_lines : (v : Value A) → f v ≡ true → is_calm v ≡ true → P f v ≡ true
  of_lines v h k =
      let q = and_parts (is_still v) (is_whole v && not (is_line_feed v)) k in
      let r = and_parts (is_whole v) (not (is_line_feed v)) q.1 in
      rw (r.0, r.1, h) refl

  own_of : (v : Value A) → P f v ≡ true → f v ≡ true
  own_of v h =
      (and_parts (not (is_line_feed v)) (f v) (and_parts (is_whole v) (in_lines true f v) h).1).1

  module _ (text : AdmitsInstead u f) (closes : AdmitsItsClosing f)
      (goes_on : (v : Guard) (n : Option ℕ) (g : Value A → Bool) (s : List ℕ)
      → IsFilteredAs v false n g s (passed_text_as v n g s))
      (has_ended : (v : Guard) (n : Option ℕ) (g : Value A → Bool) (s : List ℕ)
      → IsFilteredAs v true n g s (closed_text_as v n g s)) (limit : ℕ) where
    abbrev V : List ℕ → List (Value A)
    V s = passed_of_line u limit f s

    pub line_passes : (s : List ℕ) → ArePassed u (P f) (closed_values f (V s))
    line_passes s =
        let vs = V s in
        let a = passed_pass u f (in_lines true f) (λ c h k. k) text (Some limit) s
        (goes_on u (Some limit) (in_lines true f) s).writable in
        closed_pass u f (in_lines true f) vs a
        (all_two f is_calm (P f) of_lines (closing f vs)
        (closes vs (all_if (P f) f own_of vs a.pass)) (calm_back f vs))
        (has_ended u (Some limit) (in_lines true f) s).writable

    line_reads : (s : List ℕ)
        → Reads (list_text (closed_values f (V s))) (normal (closed_values f (V s)))
    line_reads s = (has_ended u (Some limit) (in_lines true f) s).whatever_follows

    -- it is written again as it is, and no rendition goes on after it
    pub record IsLasting (again : ℕ) (l : List ℕ) : Type 0 where
      pub same : line_text u again f l ≡ l
      pub opens : opening_of u again f (content l) ≡ []

    module _ (again : ℕ) (x y : List ℕ)
        (r : ReadsAgain u f again (closed_values f (V (body x ++ 0x0a ∷ [])))
        (line_passes (body x ++ 0x0a ∷ [])) (line_reads (body x ++ 0x0a ∷ [])) y) where
      abbrev vs : List (Value A)
      vs = V (body x ++ 0x0a ∷ [])

      text_again : Text again y ≡ y ++ 0x0a ∷ []
      text_again =
          ap (λ ns. list_text (closed_values f ns) ++ end_text f (ends_return false y)) r.passed
          ∙ ap (λ ns. list_text ns ++ end_text f (ends_return false y))
          (closes_again f vs r.values r.leaves)
          ∙ r.text

      none_on : opening_of u again f y ≡ []
      none_on =
          ap opening_left r.passed
          ∙ ap (λ b. if b then text_of_pen (pen_after r.values (start_pen true)) else [])
          (ap (λ t. t.rendition) r.leaves ∙ (at_start A f vs).rendition)

    pub line_lasts : (again : ℕ) (l : List ℕ) → IsLine l → IsLine (line_text u limit f l)
        → IsKept A (Some again) (read_of_line (line_text u limit f l))
        → IsLasting again (line_text u limit f l)
    line_lasts again l (x, none, e) (y, clean, d) kept =
        let t = list_text (closed_values f (V (body x ++ 0x0a ∷ []))) in
        let c = ends_return false x && f (control CarriageReturn) in
        let is : line_text u limit f l ≡ (t ++ held c) ++ 0x0a ∷ [] =
        ap (line_text u limit f) e ∙ line_is limit x none ∙ end_is t (ends_return false x) in
        let same : y ≡ t ++ held c =
        append_cancel_right y (t ++ held c) (0x0a ∷ []) (sym d ∙ is) in
        let read : read_of_line (line_text u limit f l) ≡ body y ++ 0x0a ∷ [] =
        ap read_of_line d
        ∙ ap (λ b. if b then body (content (y ++ 0x0a ∷ [])) ++ 0x0a ∷ [] else y ++ 0x0a ∷ [])
        (line_ends false (y ++ 0x0a ∷ []) (y, clean, refl))
        ∙ ap (λ z. body z ++ 0x0a ∷ []) (content_is y [] clean) in
        let r = read_again u f again (closed_values f (V (body x ++ 0x0a ∷ [])))
        (line_passes (body x ++ 0x0a ∷ [])) (line_reads (body x ++ 0x0a ∷ [])) y c
        (λ h. (and_parts (ends_return false x) (f (control CarriageReturn)) h).1) same
        (subst (IsKept A (Some again)) read kept) in record {
          same =
              ap (line_text u again f) d ∙ line_is again y clean ∙ text_again again x y r ∙ sym d;
          opens =
              ap (λ z. opening_of u again f (content z)) d
              ∙ ap (opening_of u again f) (content_is y [] clean) ∙ none_on again x y r;
        }
