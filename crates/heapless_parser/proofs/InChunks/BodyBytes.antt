-- The kept body of a control sequence after one more byte.
use Rattle.std.proofs.Common.{ℕ, ◌≡◌, ◌≤◌, ◌<◌, ◌+◌, ◌-◌, ◌*◌, true, false, List, [], ◌∷◌, ◌++◌, map, take, length, ap, sym, ◌∙◌, subst, Some, None, Option, nat_lt, arith}
use Rattle.std.proofs.lemmas.List.{length-map, length-take-le}
use Rattle.esc_values.specs.declared.csi_param.CsiParam.{CsiParam}
use Rattle.esc_values.specs.declared.csi_param.CsiParam.TheVariants.{P}
use Rattle.esc_frame.specs.declared.unfinished.body.Form.TheVariants as form
use Rattle.esc_frame.specs.Bodies.{is_digit, capped_at_i64}
use Rattle.esc_frame.specs.Machine.Keeps.{number_of_run, number_at, next_number_of, form_from, next_form, params_with}
use Rattle.esc_frame.proofs.Steps.ParamsGrow.{first_fits, first_full, first_past, held_next, number_push, closed_digit, closed_other, number_other}
use Rattle.esc_frame.proofs.Steps.FormsGrow.{form_push}
use Rattle.heapless_parser.specs.declared.event.EscEntry.{EscEntry}
use Rattle.heapless_parser.specs.declared.parser.EscParser.{EscParser}
use Rattle.heapless_parser.specs.Numbers.{form_numbered}
use Rattle.heapless_parser.specs.States.{BodyIn, NumberIn, ParamsIn}
use Rattle.heapless_parser.specs.Emitted.{param_of}

-- ---- one parameter more

module _ (p q : EscParser) (e : EscEntry) (all : List CsiParam) (h : ParamsIn p all) where
  abbrev items : List CsiParam
  items = map param_of (take p.count p.csi_params)

  items_count : length p.csi_params ≡ 256 → length items ≡ p.count
  items_count long = length-map (take p.count p.csi_params) param_of
      ∙ length-take-le p.count p.csi_params (omega (arith, h.0, long))

  pub params_fit : p.is_truncated ≡ false → p.count < 256 → length p.csi_params ≡ 256
      → map param_of (take (p.count + 1) q.csi_params) ≡ items ++ param_of e ∷ []
      → q.count ≡ p.count + 1 → q.is_truncated ≡ p.is_truncated
      → ParamsIn q (all ++ param_of e ∷ [])
  params_fit off few long put count same =
      let n = items_count long in
      let a = first_fits 256 items all (param_of e) p.is_truncated off (omega (arith, n, few)) h.1
      in (
        omega (arith, few, count),
        record {
          kept = ap (λ k. map param_of (take k q.csi_params)) count ∙ put ∙ a.kept;
          more = same ∙ a.more;
        },
      )

  -- the list stays as it is
  module _ (list : q.csi_params ≡ p.csi_params) (count : q.count ≡ p.count) where
    same_items : map param_of (take q.count q.csi_params) ≡ items
    same_items = ap (λ k. map param_of (take k q.csi_params)) count
        ∙ ap (λ y. map param_of (take p.count y)) list

    pub params_full : p.is_truncated ≡ false → 256 ≤ p.count → length p.csi_params ≡ 256
        → q.is_truncated ≡ true → ParamsIn q (all ++ param_of e ∷ [])
    params_full off many long is =
        let n = items_count long in
        let a = first_full 256 items all (param_of e) p.is_truncated off (omega (arith, n, many))
        h.1 in
        (omega (arith, h.0, count), record { kept = same_items ∙ a.kept; more = is ∙ a.more })

    pub params_past : p.is_truncated ≡ true → q.is_truncated ≡ p.is_truncated
        → ParamsIn q (all ++ param_of e ∷ [])
    params_past is same =
        let a = first_past 256 items all (param_of e) p.is_truncated is h.1 in
        (omega (arith, h.0, count), record { kept = same_items ∙ a.kept; more = same ∙ a.more })

-- ---- one byte more

number_more : (q : EscParser) (o : Option ℕ) (b : ℕ) → is_digit b ≡ true → q.is_open ≡ true
    → q.number ≡ capped_at_i64 (10 * capped_at_i64 (number_at o) + (b - 0x30))
    → NumberIn q (next_number_of o b)
number_more q None b d is n = rw d (is, omega (arith, n))
number_more q (Some k) b d is n = rw d (is, n ∙ held_next k (b - 0x30))

module _ (p q : EscParser) (b : ℕ) (x : List ℕ) (h : BodyIn p x)
    (next : form_numbered q.form ≡ next_form (form_numbered p.form) b) where
  form_more : form_numbered q.form ≡ form_from form.Empty (x ++ b ∷ [])
  form_more = next ∙ ap (λ f. next_form f b) h.3 ∙ sym (form_push form.Empty x b)

  pub digit_more : is_digit b ≡ true → q.csi_params ≡ p.csi_params → q.count ≡ p.count
      → q.is_truncated ≡ p.is_truncated → q.is_open ≡ true
      → ((o : Option ℕ) → NumberIn p o
      → q.number ≡ capped_at_i64 (10 * capped_at_i64 (number_at o) + (b - 0x30)))
      → BodyIn q (x ++ b ∷ [])
  digit_more d list count same is number =
      let all = sym (closed_digit x b d) in (
        omega (arith, h.0, count),
        record {
          kept = ap (λ k. map param_of (take k q.csi_params)) count
              ∙ ap (λ y. map param_of (take p.count y)) list ∙ h.1.kept
              ∙ ap (λ y. take 256 y) all;
          more = same ∙ h.1.more ∙ ap (λ y. nat_lt 256 (length y)) all;
        },
        subst (NumberIn q) (sym (number_push None x b))
            (number_more q (number_of_run None x) b d is (number _ h.2)),
        form_more,
      )

  pub other_more : is_digit b ≡ false → q.is_open ≡ false
      → ((o : Option ℕ) (all : List CsiParam) → NumberIn p o → ParamsIn p all
      → ParamsIn q ((all ++ params_with o) ++ P b ∷ []))
      → BodyIn q (x ++ b ∷ [])
  other_more d is params =
      let k = subst (ParamsIn q) (sym (closed_other x b d)) (params _ _ h.2 (h.0, h.1)) in (
        k.0,
        k.1,
        subst (NumberIn q) (sym (number_other x b d)) is,
        form_more,
      )
