-- A writer of actions notes the changes that they leave: for runs, sequences and commands.
use Rattle.std.proofs.Common.{◌≡◌, ℕ, Bool, false, List, [], ◌∷◌, ◌++◌, map, append-nil, Option, None, Some, refl, sym, subst, ap, ◌∙◌, inl, inr, IfOk, OnErr, Result}
use Rattle.std.specs.Prelude.{IsTrue}
use Rattle.std.specs.List.{FoldsTo}
use Rattle.std.proofs.lemmas.Result.{on_err_weaker}
use Rattle.fallible_alloc.specs.Refusals.{Refused}
use Rattle.esc_sequences.specs.Csis.{CsiValue, csi_of}
use Rattle.esc_values.specs.declared.csi_param.CsiParam.{CsiParam}
use Rattle.esc_write.specs.Plain.{IsPlain}
use Rattle.esc_osc.specs.Reading.{meaning as command_meant}
use Rattle.esc_actions.specs.Texts.{has_text, is_string, text_after}
use Rattle.esc_actions.specs.Values.{Value, control, csi, osc, print, value_of}
use Rattle.esc_filter.proofs.Output.DeceivingCharacters.{AreThemselves}
use Rattle.unicode_visibility.specs.Following.{last_of}
use Rattle.esc_filter.specs.Characters.{character_of}
use Rattle.esc_actions.specs.declared.action.Action.{Action}
use Rattle.esc_actions.specs.declared.action.Action.TheVariants as action
use Rattle.esc_parse.specs.Given.{By, StopsAt}
use Rattle.esc_parse.proofs.Lists.StepsOverLists.{if_ok_more}
use Rattle.esc_normal.specs.Spelled.{Adds, Denies}
use Rattle.esc_normal.specs.declared.spell.TextSink.{TextSink}
use Rattle.esc_normal.proofs.Spelling.{IsCommand, IsSequence, plain_refused}
use Rattle.esc_filter.proofs.Results.{stops_for}
use Rattle.esc_filter.specs.Closing.{after_command, after_sequence, after_value}
use Rattle.esc_filter.specs.declared.terminal.Terminal.{Terminal}
use Rattle.esc_filter.specs.Pens.{pen_after_sequence, pen_after_value}
use Rattle.esc_pen.specs.declared.pen.Pen.{Pen}
use Rattle.esc_filter.specs.Noted.{Notes, WriteDenies, Writes, written_of}
use Rattle.esc_filter.specs.declared.written.Written.{Written}

module _ {A : Type 0} where
  abbrev with_spell : Written A → TextSink A → Written A
  with_spell p s = record p { spell = s }

  -- a control or a command was written
  abbrev with_both : Written A → Terminal → TextSink A → Written A
  with_both p o s = record p { spell = s; left = o; before = None }

  -- a sequence was
  abbrev with_pen : Written A → Terminal → Option Pen → TextSink A → Written A
  with_pen p o m s = record p { spell = s; left = o; before = None; pen = m }

  -- ---- one value

  pub writes_one : (p q : Written A) (a : Action A) (v : Value A) → value_of a ≡ v
      → Adds p.spell a q.spell → q.left ≡ after_value v p.left → q.by_lines ≡ p.by_lines
      → q.guard ≡ p.guard → q.before ≡ character_of v → q.pen ≡ pen_after_value v p.pen
      → Writes p (v ∷ []) q
  writes_one p q a v is t o b u l m =
      let f = p.spell.follows_string in (
        t.0
            ∙ ap (λ x. p.spell.text ++ x)
            (ap (text_after f) is ∙ sym (append-nil (text_after f v))),
        t.1 ∙ ap is_string is,
        o,
        b,
        u,
        l,
        m,
      )

  -- it is written as it is
  notes_one : (p q : Written A) (a : Action A) (v : Value A) → value_of a ≡ v
      → written_of p.by_lines p.guard p.before v ≡ v ∷ []
      → Adds p.spell a q.spell → q.left ≡ after_value v p.left → q.by_lines ≡ p.by_lines
      → q.guard ≡ p.guard → q.before ≡ character_of v → q.pen ≡ pen_after_value v p.pen
      → Notes p a q
  notes_one p q a v is itself t o b u l m =
      subst (λ x. Writes p (written_of p.by_lines p.guard p.before x) q) (sym is)
      (subst (λ ws. Writes p ws q) (sym itself) (writes_one p q a v is t o b u l m))

  -- ---- a run

  run_noted : (xs : List ℕ) (p : Written A) (s : TextSink A)
      → AreThemselves A p.guard p.before xs → FoldsTo Adds p.spell (map action.Print xs) s
      → FoldsTo Notes p (map action.Print xs) (record p { spell = s; before = last_of p.before xs })
  run_noted [] p s h e = ap (with_spell p) e
  run_noted (x ∷ xs) p s (i, h) (j, t, rest) = (
    record p { spell = j; before = Some x },
    notes_one p (record p { spell = j; before = Some x }) (action.Print x) (print x) refl i t refl
        refl refl refl refl,
    run_noted xs (record p { spell = j; before = Some x }) s h rest,
  )

  pub run_written : (xs : List ℕ) (p : Written A) (s : TextSink A) (l : Option ℕ)
      → l ≡ last_of p.before xs → AreThemselves A p.guard p.before xs
      → FoldsTo Adds p.spell (map action.Print xs) s
      → FoldsTo Notes p (map action.Print xs) (record p { spell = s; before = l })
  run_written xs p s l e h t =
      subst (λ k. FoldsTo Notes p (map action.Print xs) (record p { spell = s; before = k }))
      (sym e) (run_noted xs p s h t)

  run_why : (xs : List ℕ) (p q : TextSink A) → StopsAt ⊥ Adds Denies p (map action.Print xs) q
      → Refused A
  run_why [] p q e = absurd e.0
  run_why (x ∷ xs) p q (inl e) = absurd e.0
  run_why (x ∷ xs) p q (inr (inl denied)) = denied refl
  run_why (x ∷ xs) p q (inr (inr (mid, t, rest))) = run_why xs mid q rest

  pub run_denied : (xs : List ℕ) (p q : Written A) (s : TextSink A)
      → StopsAt ⊥ Adds Denies p.spell (map action.Print xs) s
      → StopsAt ⊥ Notes WriteDenies p (map action.Print xs) q
  run_denied [] p q s e = absurd e.0
  run_denied (x ∷ xs) p q s e = inr (inl (λ _. run_why (x ∷ xs) p.spell s e))

  -- ---- a sequence

  one_noted : (vs : List CsiValue) (v : CsiValue) (p : Written A) (o : Terminal) (m : Option Pen)
      (s : TextSink A) → vs ≡ v ∷ [] → o ≡ after_sequence v p.left → m ≡ pen_after_sequence v p.pen
      → FoldsTo (By IsSequence Adds) p.spell vs s
      → FoldsTo (By IsSequence Notes) p vs (with_pen p o m s)
  one_noted vs v p o m s e h i t =
      subst (λ ws. FoldsTo (By IsSequence Notes) p ws (with_pen p o m s))
      (sym e) (by (subst (λ ws. FoldsTo (By IsSequence Adds) p.spell ws s) e t))
    where
      by : FoldsTo (By IsSequence Adds) p.spell (v ∷ []) s
          → FoldsTo (By IsSequence Notes) p (v ∷ []) (with_pen p o m s)
      by (j, (a, is, w), same) = (
        with_pen p o m j,
        (a, is, notes_one p (with_pen p o m j) a (csi v) is refl w h refl refl refl i),
        ap (with_pen p o m) same,
      )

  pub sequence_noted : {E : Type 0} (r : Result Bool E) (vs : List CsiValue) (p : Written A)
      (o : Terminal) (m : Option Pen) (s : TextSink A)
      → (v : CsiValue) × (vs ≡ v ∷ []) × (o ≡ after_sequence v p.left)
      × (m ≡ pen_after_sequence v p.pen)
      → IfOk r (λ b. IsTrue b → FoldsTo (By IsSequence Adds) p.spell vs s)
      → IfOk r (λ b. IsTrue b → FoldsTo (By IsSequence Notes) p vs (with_pen p o m s))
  sequence_noted r vs p o m s (v, e, h, i) t =
      if_ok_more _ _ r (λ b k n. one_noted vs v p o m s e h i (k n)) t

  -- one value, which was written
  pub one_written : (vs : List CsiValue) (v : CsiValue) (p : Written A) (o : Terminal)
      (m : Option Pen) (s : TextSink A) → vs ≡ v ∷ [] → o ≡ after_sequence v p.left
      → m ≡ pen_after_sequence v p.pen → FoldsTo (By IsSequence Adds) p.spell vs s
      → Writes p (csi v ∷ []) (with_pen p o m s)
  one_written vs v p o m s e h i t =
      by (subst (λ ws. FoldsTo (By IsSequence Adds) p.spell ws s) e t)
    where
      by : FoldsTo (By IsSequence Adds) p.spell (v ∷ []) s
          → Writes p (csi v ∷ []) (with_pen p o m s)
      by (j, (a, is, w), same) =
          subst (λ k. Writes p (csi v ∷ []) (with_pen p o m k)) same
          (writes_one p (with_pen p o m j) a (csi v) is w h refl refl refl i)

  sequence_why : (p : TextSink A) (v : CsiValue) (q : TextSink A) → By IsSequence Denies p v q
      → Refused A
  sequence_why p v q (a, is, denied) = denied (ap has_text is)

  sequence_stops : (vs : List CsiValue) (p q : Written A) (s : TextSink A)
      → StopsAt ⊥ (By IsSequence Adds) (By IsSequence Denies) p.spell vs s
      → StopsAt ⊥ (By IsSequence Notes) (By IsSequence WriteDenies) p vs q
  sequence_stops [] p q s e = absurd e.0
  sequence_stops (v ∷ vs) p q s (inl e) = absurd e.0
  sequence_stops (v ∷ vs) p q s (inr (inl (a, is, denied))) = inr (inl (a, is, denied))
  sequence_stops (v ∷ vs) p q s (inr (inr (mid, (a, is, t), rest))) =
      inr (inl (
        a,
        is,
        λ _. stops_for (By IsSequence Adds) (By IsSequence Denies) (Refused A)
            sequence_why mid vs s rest,
      ))

  pub sequence_denied : {E : Type 0} (r : Result Bool E) (vs : List CsiValue) (p q : Written A)
      (s : TextSink A)
      → OnErr r (StopsAt ⊥ (By IsSequence Adds) (By IsSequence Denies) p.spell vs s)
      → OnErr r (StopsAt ⊥ (By IsSequence Notes) (By IsSequence WriteDenies) p vs q)
  sequence_denied r vs p q s t = on_err_weaker r (sequence_stops vs p q s) t

  -- a sequence whose text is the text of its parameters is refused if memory is
  pub plain_denied : (p q : Written A) (es : List CsiParam) (f : ℕ) → IsPlain es false f
      → Refused A
      → StopsAt ⊥ (By IsSequence Notes) (By IsSequence WriteDenies) p (csi_of es false f) q
  plain_denied p q es f plain r =
      sequence_stops (csi_of es false f) p q q.spell
      (plain_refused ⊥ p.spell q.spell es false f plain r)

  -- ---- a command

  pub command_noted : {E : Type 0} (r : Result Bool E) (ps : List (List ℕ)) (p : Written A)
      (o : Terminal) (s : TextSink A)
      → o ≡ after_command (command_meant {A = A} ps) p.left
      → IfOk r (λ b. IsTrue b → FoldsTo (By IsCommand Adds) p.spell (ps ∷ []) s)
      → IfOk r (λ b. IsTrue b → FoldsTo (By IsCommand Notes) p (ps ∷ []) (with_both p o s))
  command_noted r ps p o s h t = if_ok_more _ _ r (λ b k i. by (k i)) t
    where
      by : FoldsTo (By IsCommand Adds) p.spell (ps ∷ []) s
          → FoldsTo (By IsCommand Notes) p (ps ∷ []) (with_both p o s)
      by (j, (a, is, w), same) = (
        with_both p o j,
        (
          a,
          is,
          notes_one p (with_both p o j) a (osc (command_meant ps)) is refl w h refl refl refl refl,
        ),
        ap (with_both p o) same,
      )

  command_why : (p : TextSink A) (ps : List (List ℕ)) (q : TextSink A) → By IsCommand Denies p ps q
      → Refused A
  command_why p ps q (a, is, denied) = denied (ap has_text is)

  pub command_denied : {E : Type 0} (r : Result Bool E) (ps : List (List ℕ)) (p q : Written A)
      (s : TextSink A)
      → OnErr r (StopsAt ⊥ (By IsCommand Adds) (By IsCommand Denies) p.spell (ps ∷ []) s)
      → OnErr r (StopsAt ⊥ (By IsCommand Notes) (By IsCommand WriteDenies) p (ps ∷ []) q)
  command_denied r ps p q s t =
      on_err_weaker r
      (λ e. inr (inl (
        action.OperatingSystemCommand (command_meant ps),
        refl,
        λ _. stops_for (By IsCommand Adds) (By IsCommand Denies) (Refused A) command_why p.spell
            (ps ∷ []) s e,
      ))) t
  -- ---- results
