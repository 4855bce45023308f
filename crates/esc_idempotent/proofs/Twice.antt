-- The values that a filter reads from its own output, and those that it makes of them.
use Rattle.std.proofs.Common.{ℕ, ◌≡◌, ◌⊎◌, inl, inr, Bool, true, false, not, ◌&&◌, if◌then◌else◌, List, [], ◌∷◌, ◌++◌, map, Option, None, refl, sym, ap, ◌∙◌, subst, append-nil}
use Rattle.std.specs.List.{filter, list_all}
use Rattle.std.proofs.lemmas.Bool.{and_parts, true≢false}
use Rattle.unicode_visibility.specs.Characters.{is_deceiving, number_text}
use Rattle.unicode_visibility.specs.Following.{may_follow}
use Rattle.esc_frame.specs.Classes.{class_of}
use Rattle.esc_actions.proofs.Writing.NormalIsWritable.{same_text}
use Rattle.esc_actions.specs.Meaning.{meaning, meaning_within}
use Rattle.esc_actions.specs.Texts.{list_text, normal, terminator}
use Rattle.esc_actions.specs.Values.{Value, print, string, control, esc, csi, osc, kitty, sixel, termcap, short, enter, datum, exit}
use Rattle.esc_actions.specs.Writable.{AreWritable}
use Rattle.esc_actions.specs.declared.control_code.ControlCode.{ControlCode}
use Rattle.esc_actions.specs.declared.control_code.ControlCode.TheVariants.{CarriageReturn}
use Rattle.esc_filter.specs.Characters.{in_guard, in_return, in_values, in_values_after, replacement_values, is_return, last_after}
use Rattle.esc_filter.specs.Closing.{after_values, closed_values, closing, given_back, keeps_cursor}
use Rattle.esc_filter.specs.Passing.{closed_text_as, is_line_feed, is_whole, passed_as, passed_text_as, passes}
use Rattle.esc_filter.specs.Rules.{is_shown}
use Rattle.esc_filter.specs.Terminal.{as_at_start}
use Rattle.esc_filter.specs.declared.guard.Guard.{Guard}
use Rattle.esc_filter.specs.declared.returns.Returns.{Returns}
use Rattle.esc_filter.specs.declared.returns.Returns.TheVariants as way
use Rattle.esc_filter.specs.declared.unicode.Unicode.{Unicode}
use Rattle.esc_filter.specs.declared.unicode.Unicode.TheVariants.{Drop, Join, Keep, Show}
use Rattle.esc_filter.proofs.GivingBack.GivingBackRestores.{nothing_twice}
use Rattle.esc_filter.proofs.Output.DeceivingCharacters.{in_more, in_none, kinds, number_shown}
use Rattle.esc_filter.proofs.ByLine.DataHasNoFeed.{both}
use Rattle.esc_idempotent.proofs.Given.{OfEach, back_all}
use Rattle.esc_idempotent.proofs.Normals.{all_kept, normal_leaves, own_kept}
use Rattle.esc_idempotent.proofs.Singles.{is_single, meaning_single}
use Rattle.esc_idempotent.proofs.Steady.{IsSteady, is_still, steady_is, steady_more, steady_normal, written_steady}
use Rattle.esc_idempotent.specs.Again.{AdmitsInstead, AdmitsItsClosing, IsKept}

-- ---- a fact about values is one about the values that are written for them

return_is : (c : ControlCode) → is_return c ≡ true → c ≡ CarriageReturn
return_is CarriageReturn e = refl
return_is _ e = absurd (true≢false (sym e))

module _ {A : Type 0} (p : Value A → Bool)
    (shown : (c : ℕ) → is_shown c ≡ true → p (print c) ≡ true) where
  abbrev All : List (Value A) → Type 0
  All vs = list_all p vs ≡ true

  all_prints : (xs : List ℕ) → list_all is_shown xs ≡ true → All (map print xs)
  all_prints [] h = refl
  all_prints (x ∷ xs) h =
      let q = and_parts (is_shown x) (list_all is_shown xs) h in
      rw (shown x q.0, all_prints xs q.1) refl

  all_joined : (c : ℕ) (f : Bool) → p (print c) ≡ true
      → All (if f then print c ∷ [] else map print (number_text c))
  all_joined c true h = rw h refl
  all_joined c false h = all_prints (number_text c) (number_shown c)

  all_instead : (u : Unicode) (b : Option ℕ) (c : ℕ) (t : Bool) → p (print c) ≡ true
      → All (if t then replacement_values u b c else print c ∷ [])
  all_instead u b c false h = rw h refl
  all_instead Keep b c true h = rw h refl
  all_instead Join b c true h = all_joined c (may_follow b c) h
  all_instead Show b c true h = all_prints (number_text c) (number_shown c)
  all_instead Drop b c true h = refl

  all_return : (r : Returns) (c : ControlCode) (t : Bool) → is_return c ≡ t
      → p (control c) ≡ true → All (if t then in_return r else control c ∷ [])
  all_return r c false e h = rw h refl
  all_return way.Keep c true e h = rw (ap (λ x. p (control x)) (sym (return_is c e)) ∙ h) refl
  all_return way.Show c true e h = all_prints (0x5e ∷ 0x4d ∷ []) refl
  all_return way.Drop c true e h = refl

  all_guarded : (u : Guard) (b : Option ℕ) (v : Value A) → p v ≡ true → All (in_guard u b v)
  all_guarded u b v h = by (kinds v)
    where
      by : ((c : ℕ) × (v ≡ print c)) ⊎ (((c : ControlCode) × (v ≡ control c))
          ⊎ ((w : Guard) (l : Option ℕ) → in_guard w l v ≡ v ∷ [])) → All (in_guard u b v)
      by (inl (c, e)) =
          ap (λ x. list_all p (in_guard u b x)) e
          ∙ all_instead u.characters b c (is_deceiving c) (ap p (sym e) ∙ h)
      by (inr (inl (c, e))) =
          ap (λ x. list_all p (in_guard u b x)) e
          ∙ all_return u.returns c (is_return c) refl (ap p (sym e) ∙ h)
      by (inr (inr f)) = ap (list_all p) (f u b) ∙ rw h refl

  pub all_written : (u : Guard) (b : Option ℕ) (vs : List (Value A)) → All vs
      → All (in_values_after u b vs)
  all_written u b [] h = ap (list_all p) (in_none {A = A} u b)
  all_written u b (v ∷ vs) h =
      let q = and_parts (p v) (list_all p vs) h in
      let l = last_after b (in_guard u b v) in
      ap (list_all p) (in_more u b v vs)
      ∙ both p (in_guard u b v) (in_values_after u l vs) (all_guarded u b v q.0)
      (all_written u l vs q.1)

-- ---- the values that pass

module _ {A : Type 0} where
  pub all_filtered : (p : Value A → Bool) (vs : List (Value A)) → list_all p (filter p vs) ≡ true
  all_filtered p [] = refl
  all_filtered p (v ∷ vs) = by (p v) refl (all_filtered p vs)
    where
      by : (t : Bool) → p v ≡ t → list_all p (filter p vs) ≡ true
          → list_all p (if t then v ∷ filter p vs else filter p vs) ≡ true
      by true e h = rw (e, h) refl
      by false e h = h

  pub still_all : (p q : Value A → Bool) (vs : List (Value A)) → list_all q vs ≡ true
      → list_all q (filter p vs) ≡ true
  still_all p q [] h = refl
  still_all p q (v ∷ vs) h =
      let r = and_parts (q v) (list_all q vs) h in by (p v) r.0 (still_all p q vs r.1)
    where
      by : (t : Bool) → q v ≡ true → list_all q (filter p vs) ≡ true
          → list_all q (if t then v ∷ filter p vs else filter p vs) ≡ true
      by true e k = rw (e, k) refl
      by false e k = k

  pub all_if : (p q : Value A → Bool) → ((v : Value A) → p v ≡ true → q v ≡ true)
      → (vs : List (Value A)) → list_all p vs ≡ true → list_all q vs ≡ true
  all_if p q f [] h = refl
  all_if p q f (v ∷ vs) h =
      let r = and_parts (p v) (list_all p vs) h in rw (f v r.0, all_if p q f vs r.1) refl

  pub all_two : (p q r : Value A → Bool)
      → ((v : Value A) → p v ≡ true → q v ≡ true → r v ≡ true) → (vs : List (Value A))
      → list_all p vs ≡ true → list_all q vs ≡ true → list_all r vs ≡ true
  all_two p q r f [] h k = refl
  all_two p q r f (v ∷ vs) h k =
      let x = and_parts (p v) (list_all p vs) h in
      let y = and_parts (q v) (list_all q vs) k in
      rw (f v x.0 y.0, all_two p q r f vs x.1 y.1) refl

  -- ---- the values that undo changes

  -- it can be written, is no character, and no line feed or carriage return
  abbrev pub is_calm : Value A → Bool
  is_calm v = is_still v && (is_whole v && not (is_line_feed v))

  calm_each : OfEach is_calm
  unfolding class_of
  calm_each = record {
    main = (refl, refl, refl);
    sides = refl;
    origin = refl;
    insert = refl;
    hidden = refl;
    reverse = refl;
    no_wrap = refl;
    held = refl;
    rendition = refl;
    link = refl;
    shifted = refl;
    sets = (refl, refl, refl, refl);
    margins = refl;
    saves = refl;
    restores = refl;
    saves_by_mode = refl;
  }

  pub calm_back : (f : Value A → Bool) (vs : List (Value A))
      → list_all is_calm (closing f vs) ≡ true
  calm_back f vs = back_all is_calm calm_each (keeps_cursor f) (after_values vs as_at_start)

  calm_still : (v : Value A) → is_calm v ≡ true → is_still v ≡ true
  calm_still v h = (and_parts (is_still v) (is_whole v && not (is_line_feed v)) h).0

  is_one : (v : Value A) → is_still v ≡ true → is_single v ≡ true
  is_one (string t) h = absurd (true≢false (sym h))
  is_one (print c) h = refl
  is_one (control c) h = refl
  is_one (esc e) h = refl
  is_one (csi c) h = refl
  is_one (osc c) h = refl
  is_one (kitty i) h = refl
  is_one (sixel x) h = refl
  is_one (termcap ns) h = refl
  is_one (short x) h = refl
  is_one (enter e) h = refl
  is_one (datum b) h = refl
  is_one exit h = refl

  pub back_still : (f : Value A → Bool) (vs : List (Value A))
      → list_all is_still (closing f vs) ≡ true
  back_still f vs = all_if is_calm is_still calm_still (closing f vs) (calm_back f vs)

  -- ---- values that are written, each of which passes

  -- values that the predicate p passes
  pub record ArePassed (u : Guard) (p : Value A → Bool) (ws : List (Value A)) : Type 0 where
    pub pass : list_all p ws ≡ true
    pub single : list_all is_single ws ≡ true
    pub steady : IsSteady u ws
    pub writable : AreWritable ws

  -- the values of their text that pass again
  pub record ArePassedAgain (u : Guard) (ws ns : List (Value A)) : Type 0 where
    pub text : list_text ns ≡ list_text ws
    pub steady : IsSteady u ns
    pub leaves : after_values ns as_at_start ≡ after_values ws as_at_start

  pub pass_again : (u : Guard) (p : Value A → Bool) (ws : List (Value A)) → ArePassed u p ws
      → ArePassedAgain u ws (filter p (normal ws))
  pass_again u p ws a = by (p terminator) refl
    where
      by : (t : Bool) → p terminator ≡ t → ArePassedAgain u ws (filter p (normal ws))
      by true e =
          subst (ArePassedAgain u ws) (sym (all_kept p e ws a.pass a.single)) (record {
            text = same_text ws a.writable;
            steady = steady_normal u ws a.single a.steady;
            leaves = normal_leaves ws as_at_start a.single;
          })
      by false e =
          subst (ArePassedAgain u ws) (sym (own_kept p e ws a.pass a.single)) (record {
            text = refl;
            steady = a.steady;
            leaves = refl;
          })

  -- ---- the output

  written_pass : (u : Guard) (f : Value A → Bool) (p : Value A → Bool)
      → ((c : ℕ) → is_shown c ≡ true → f (print c) ≡ true → p (print c) ≡ true)
      → AdmitsInstead u f → (vs : List (Value A)) → list_all p vs ≡ true
      → list_all p (in_values u vs) ≡ true
  written_pass u f p more (inl e) vs h = ap (list_all p) (steady_is u vs (inl e)) ∙ h
  written_pass u f p more (inr text) vs h =
      all_written p (λ c k. more c k (text (print c) k)) u None vs h

  pub passed_pass : (u : Guard) (f p : Value A → Bool)
      → ((c : ℕ) → is_shown c ≡ true → f (print c) ≡ true → passes p (print c) ≡ true)
      → AdmitsInstead u f → (limit : Option ℕ) (s : List ℕ)
      → AreWritable (passed_as u limit p s) → ArePassed u (passes p) (passed_as u limit p s)
  passed_pass u f p more text limit s w =
      let ms = meaning_within {A = A} limit s in
      let vs = filter (passes p) ms in record {
        pass = written_pass u f (passes p) more text vs (all_filtered (passes p) ms);
        single =
            all_written is_single (λ c h. refl) u None vs
            (still_all (passes p) is_single ms (meaning_single A limit s));
        steady = written_steady u vs;
        writable = w;
      }

  -- and the values that undo the changes that it leaves
  pub closed_pass : (u : Guard) (f p : Value A → Bool) (vs : List (Value A))
      → ArePassed u (passes p) vs → list_all (passes p) (closing f vs) ≡ true
      → AreWritable (closed_values f vs) → ArePassed u (passes p) (closed_values f vs)
  closed_pass u f p vs a h w =
      let cs = closing f vs in record {
        pass = both (passes p) vs cs a.pass h;
        single =
            both is_single vs cs a.single (all_if is_still is_single is_one cs (back_still f vs));
        steady = steady_more u vs cs a.steady (back_still f vs);
        writable = w;
      }

  -- nothing more is given back
  pub closes_again : (f : Value A → Bool) (vs ns : List (Value A))
      → after_values ns as_at_start ≡ after_values (closed_values f vs) as_at_start
      → closed_values f ns ≡ ns
  closes_again f vs ns e =
      ap (λ t. ns ++ given_back (keeps_cursor f) t) e
      ∙ ap (λ cs. ns ++ cs) (nothing_twice A f vs) ∙ append-nil ns

  -- ---- a stream that is one

  pub read_again : (again : Option ℕ) (ws : List (Value A)) → meaning (list_text ws) ≡ normal ws
      → IsKept A again (list_text ws) → meaning_within again (list_text ws) ≡ normal ws
  read_again again ws back kept = kept ∙ back

  module _ (u : Guard) (f : Value A → Bool) (text : AdmitsInstead u f) where
    one_text : (c : ℕ) → is_shown c ≡ true → f (print c) ≡ true → passes f (print c) ≡ true
    one_text c h k = k

    whole : (v : Value A) → f v ≡ true → is_calm v ≡ true → passes f v ≡ true
    whole v h k =
        let q = and_parts (is_still v) (is_whole v && not (is_line_feed v)) k in
        rw ((and_parts (is_whole v) (not (is_line_feed v)) q.1).0, h) refl

    pub open_twice : (limit again : Option ℕ) (s : List ℕ) → AreWritable (passed_as u limit f s)
        → meaning (passed_text_as u limit f s) ≡ normal (passed_as u limit f s)
        → IsKept A again (passed_text_as u limit f s)
        → passed_text_as u again f (passed_text_as u limit f s) ≡ passed_text_as u limit f s
    open_twice limit again s w back kept =
        let ws = passed_as u limit f s in
        let n = pass_again u (passes f) ws (passed_pass u f f one_text text limit s w) in
        ap (λ ms. list_text (in_values u (filter (passes f) ms)))
        (read_again again ws back kept)
        ∙ ap list_text (steady_is u (filter (passes f) (normal ws)) n.steady) ∙ n.text

    pub closed_twice : AdmitsItsClosing f → (limit again : Option ℕ) (s : List ℕ)
        → AreWritable (passed_as u limit f s)
        → AreWritable (closed_values f (passed_as u limit f s))
        → meaning (closed_text_as u limit f s) ≡ normal (closed_values f (passed_as u limit f s))
        → IsKept A again (closed_text_as u limit f s)
        → closed_text_as u again f (closed_text_as u limit f s) ≡ closed_text_as u limit f s
    closed_twice closes limit again s w v back kept =
        let vs = passed_as u limit f s in
        let ws = closed_values f vs in
        let ns = filter (passes f) (normal ws) in
        let a = passed_pass u f f one_text text limit s w in
        let own = all_if (passes f) f (λ v h. (and_parts (is_whole v) (f v) h).1) vs a.pass in
        let cs = all_two f is_calm (passes f) whole (closing f vs) (closes vs own)
        (calm_back f vs) in
        let n = pass_again u (passes f) ws (closed_pass u f f vs a cs v) in
        ap (λ ms. list_text (closed_values f (in_values u (filter (passes f) ms))))
        (read_again again ws back kept)
        ∙ ap (λ xs. list_text (closed_values f xs)) (steady_is u ns n.steady)
        ∙ ap list_text (closes_again f vs ns n.leaves) ∙ n.text
