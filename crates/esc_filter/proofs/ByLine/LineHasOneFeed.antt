-- The text written for a line has no line feed but its own.
use Rattle.std.proofs.Common.{ℕ, ◌≡◌, Bool, true, false, not, ◌&&◌, if◌then◌else◌, List, [], ◌∷◌, ◌++◌, map, Option, None, Some, ◌⊎◌, inl, inr, refl, sym, ap, ◌∙◌, subst, append-nil, append_assoc}
use Rattle.std.specs.List.{filter, flat_map, list_all}
use Rattle.std.proofs.lemmas.Bool.{and_parts}
use Rattle.unicode_visibility.specs.Characters.{is_deceiving, number_text}
use Rattle.unicode_visibility.specs.Following.{may_follow}
use Rattle.esc_values.specs.Clear.{IsClearText}
use Rattle.esc_kitty.specs.Writable.{IsWritableImage, ReadsBack as ReadsBackImage}
use Rattle.esc_kitty.specs.declared.image.KittyImage.{KittyImage}
use Rattle.esc_osc.specs.Commands.{inner_text}
use Rattle.esc_osc.specs.Writable.{IsWritable as IsWritableCommand}
use Rattle.esc_osc.specs.declared.command.OperatingSystemCommand.{OperatingSystemCommand}
use Rattle.esc_sixel.specs.Writable.{IsWritable as IsWritableSixel, WritesBack as WritesBackSixel}
use Rattle.esc_sixel.specs.declared.sixel.Sixel.{Sixel}
use Rattle.xtgettcap.specs.Names.{AreWritable as AreWritableNames, WritesBack as WritesBackNames}
use Rattle.esc_frame.specs.Segments.{Segment, IsCut, is_empty}
use Rattle.esc_actions.specs.Meaning.{meaning_within}
use Rattle.esc_actions.specs.Readings.{MeansItsCut}
use Rattle.esc_actions.specs.Texts.{list_text}
use Rattle.esc_actions.specs.Values.{Value, control, print}
use Rattle.esc_actions.specs.declared.control_code.ControlCode.{ControlCode}
use Rattle.esc_actions.specs.declared.control_code.ControlCode.TheVariants.{CarriageReturn}
use Rattle.esc_actions.specs.Writable.{AreWritable, is_exception}
use Rattle.esc_filter.specs.Characters.{in_guard, in_return, in_values_after, replacement_values, is_return, last_after}
use Rattle.esc_filter.specs.Lines.{IsLine, begin_with, body, closed_by_lines_as, content, end_text, ends_return, has_line_feed, is_line_feed, last_line, line_text, lines, passed_of_line, text_by_lines_as}
use Rattle.esc_filter.specs.Passing.{in_lines, is_line_feed as is_feed, is_mode_step, passed_values, passed_as, passes}
use Rattle.esc_filter.specs.declared.guard.Guard.{Guard}
use Rattle.esc_filter.specs.declared.returns.Returns.{Returns}
use Rattle.esc_filter.specs.declared.returns.Returns.TheVariants as way
use Rattle.esc_filter.specs.declared.unicode.Unicode.{Unicode}
use Rattle.esc_filter.specs.declared.unicode.Unicode.TheVariants.{Drop, Join, Keep, Show}
use Rattle.esc_filter.specs.Closing.{after_values, closed_values, closing, give, given_back, keeps_cursor, main_by, margins_back, saved_by, screen_back, states_back, without_margins}
use Rattle.esc_filter.specs.Terminal.{is_changed_saved, as_at_start}
use Rattle.esc_filter.specs.declared.terminal.Screen.{Screen}
use Rattle.esc_filter.specs.declared.terminal.Screen.TheVariants as screen
use Rattle.esc_filter.specs.declared.terminal.Terminal.{Terminal}
use Rattle.esc_filter.proofs.ByLine.BytesOfLines.{body_feeds, content_is, ended_open, feeds_append, last_open, line_ends, line_feed_is, lines_append, no_end, one_line, open_line}
use Rattle.esc_filter.proofs.Output.DeceivingCharacters.{in_more, in_none, kinds}
use Rattle.esc_filter.proofs.ByLine.DataHasNoFeed.{IsAnyLine, both, is_free, line_free}
use Rattle.esc_filter.proofs.ByLine.TextsHaveNoFeed.{Feedless, is_fine, texts_feedless}

-- ---- the values of a line that pass

fine_by : (e m f n a : Bool) → ((not e && not m) && (not n && a)) ≡ true → f ≡ true
    → (not n && (not m && f)) ≡ true
fine_by true m f n a h k = absurd cc
fine_by false true f n a h k = absurd cc
fine_by false false f true a h k = absurd cc
fine_by false false f false a h k = k

module _ (A : Type 0) where
  passed_fine : (admits : Value A → Bool) (vs : List (Value A)) → list_all is_free vs ≡ true
      → list_all is_fine (filter (passes (in_lines true admits)) vs) ≡ true
  passed_fine admits [] h = refl
  passed_fine admits (v ∷ vs) h =
      let q = and_parts (is_free v) (list_all is_free vs) h in
      by (passes (in_lines true admits) v) refl q.0 (passed_fine admits vs q.1)
    where
      by : (t : Bool) → passes (in_lines true admits) v ≡ t → is_free v ≡ true
          → list_all is_fine (filter (passes (in_lines true admits)) vs) ≡ true
          → list_all is_fine (if t then v ∷ filter (passes (in_lines true admits)) vs
          else filter (passes (in_lines true admits)) vs) ≡ true
      by true e f r =
          rw (fine_by (is_exception v) (is_mode_step v) (is_free v) (is_feed v) (admits v) e f, r)
          refl
      by false e f r = r

  prints_fine : (xs : List ℕ) → list_all (is_fine {A = A}) (map print xs) ≡ true
  prints_fine [] = refl
  prints_fine (x ∷ xs) = prints_fine xs

  joined_fine : (c : ℕ) (f : Bool)
      → list_all (is_fine {A = A}) (if f then print c ∷ [] else map print (number_text c)) ≡ true
  joined_fine c true = refl
  joined_fine c false = prints_fine (number_text c)

  instead_fine : (u : Unicode) (b : Option ℕ) (c : ℕ) (t : Bool)
      → list_all is_fine (if t then replacement_values {A = A} u b c else print c ∷ []) ≡ true
  instead_fine u b c false = refl
  instead_fine Keep b c true = refl
  instead_fine Join b c true = joined_fine c (may_follow b c)
  instead_fine Show b c true = prints_fine (number_text c)
  instead_fine Drop b c true = refl

  return_fine : (r : Returns) (c : ControlCode) (t : Bool) → is_fine {A = A} (control c) ≡ true
      → list_all is_fine (if t then in_return {A = A} r else control c ∷ []) ≡ true
  return_fine r c false h = rw h refl
  return_fine way.Keep c true h = refl
  return_fine way.Show c true h = refl
  return_fine way.Drop c true h = refl

  guard_fine : (u : Guard) (b : Option ℕ) (v : Value A) → is_fine v ≡ true
      → list_all is_fine (in_guard u b v) ≡ true
  guard_fine u b v h = by (kinds v)
    where
      by : ((c : ℕ) × (v ≡ print c)) ⊎ (((c : ControlCode) × (v ≡ control c))
          ⊎ ((w : Guard) (l : Option ℕ) → in_guard w l v ≡ v ∷ []))
          → list_all is_fine (in_guard u b v) ≡ true
      by (inl (c, e)) =
          ap (λ x. list_all is_fine (in_guard u b x)) e
          ∙ instead_fine u.characters b c (is_deceiving c)
      by (inr (inl (c, e))) =
          ap (λ x. list_all is_fine (in_guard u b x)) e
          ∙ return_fine u.returns c (is_return c) (ap is_fine (sym e) ∙ h)
      by (inr (inr f)) = ap (list_all is_fine) (f u b) ∙ rw h refl

  written_fine : (u : Guard) (b : Option ℕ) (vs : List (Value A)) → list_all is_fine vs ≡ true
      → list_all is_fine (in_values_after u b vs) ≡ true
  written_fine u b [] h = ap (list_all is_fine) (in_none {A = A} u b)
  written_fine u b (v ∷ vs) h =
      let q = and_parts (is_fine v) (list_all is_fine vs) h in
      let l = last_after b (in_guard u b v) in
      ap (list_all is_fine) (in_more u b v vs)
      ∙ both is_fine (in_guard u b v) (in_values_after u l vs) (guard_fine u b v q.0)
      (written_fine u l vs q.1)

  give_fine : (b : Bool) (v : Value A) (vs : List (Value A)) → is_fine v ≡ true
      → list_all is_fine vs ≡ true → list_all is_fine (give b v ++ vs) ≡ true
  give_fine true v vs h k = rw (h, k) refl
  give_fine false v vs h k = k

  main_fine : (s : Screen) → list_all is_fine (main_by {A = A} s) ≡ true
  main_fine screen.Main = refl
  main_fine screen.Alternate = refl
  main_fine screen.Cleared = refl
  main_fine screen.WithCursor = refl

  states_fine : (t : Terminal) → list_all is_fine (states_back {A = A} t) ≡ true
  states_fine t =
      give_fine t.sides _ _ refl (give_fine t.origin _ _ refl (give_fine t.insert _ _ refl
      (give_fine t.hidden _ _ refl (give_fine t.reverse _ _ refl (give_fine t.no_wrap _ _ refl
      (give_fine t.held _ _ refl (give_fine t.rendition _ _ refl (give_fine t.link _ _ refl
      (give_fine t.sets.shifted _ _ refl (give_fine t.sets.g0 _ _ refl
      (give_fine t.sets.g1 _ _ refl (give_fine t.sets.g2 _ _ refl
      (give_fine t.sets.g3 _ [] refl refl)))))))))))))

  margins_fine : (k b : Bool)
      → list_all is_fine (if b then without_margins {A = A} k else []) ≡ true
  margins_fine k false = refl
  margins_fine true true = refl
  margins_fine false true = refl

  saved_fine : (k b : Bool) → list_all is_fine (give b (saved_by {A = A} k)) ≡ true
  saved_fine k false = refl
  saved_fine true true = refl
  saved_fine false true = refl

  back_fine : (k : Bool) (t : Terminal) → list_all is_fine (given_back {A = A} k t) ≡ true
  back_fine k t =
      let m = after_values (screen_back {A = A} t) t in
      let q = after_values (states_back {A = A} m) m in
      let u = after_values (margins_back {A = A} k q) q in
      both is_fine (screen_back t) _ (main_fine t.screen)
      (both is_fine (states_back m) _ (states_fine m)
      (both is_fine (margins_back k q) _ (margins_fine k q.margins)
      (saved_fine k (is_changed_saved u.saved))))

-- ---- lines

some_end : (x : List ℕ) (b : ℕ) → is_empty (x ++ b ∷ []) ≡ false
some_end [] b = refl
some_end (a ∷ x) b = refl

abbrev AreLines : List (List ℕ) → Type 0
AreLines [] = Unit {0}
AreLines (l ∷ ls) = (IsLine l × AreLines ls) ⊎ ((has_line_feed l ≡ false) × (ls ≡ []))

begin_lines : (b : ℕ) (ls : List (List ℕ)) → is_line_feed b ≡ false → AreLines ls
    → AreLines (begin_with b ls)
begin_lines b [] e a = inr (rw e refl, refl)
begin_lines b (l ∷ ls) e (inl ((x, none, k), r)) =
    inl ((b ∷ x, rw e none, ap (λ y. b ∷ y) k), r)
begin_lines b (l ∷ ls) e (inr (none, k)) = inr (rw e none, k)

are_lines : (s : List ℕ) → AreLines (lines s)
are_lines [] = tt
are_lines (b ∷ s) = by (is_line_feed b) refl (are_lines s)
  where
    by : (t : Bool) → is_line_feed b ≡ t → AreLines (lines s)
        → AreLines (if t then (b ∷ []) ∷ lines s else begin_with b (lines s))
    by true e a = inl (([], refl, ap (λ c. c ∷ []) (line_feed_is b e)), a)
    by false e a = begin_lines b (lines s) e a

-- a function that makes a line of each line, and text without a line feed of an open one, makes the
-- same lines of lines
module _ (T : List ℕ → List ℕ) (ended : (l : List ℕ) → IsLine l → IsLine (T l))
    (unended : (l : List ℕ) → has_line_feed l ≡ false → has_line_feed (T l) ≡ false) where
  abbrev Some_lines : List (List ℕ) → List (List ℕ)
  Some_lines ts = filter (λ t. not (is_empty t)) ts

  lone : (t : List ℕ) → has_line_feed t ≡ false → lines (t ++ []) ≡ Some_lines (t ∷ [])
  lone [] h = refl
  lone (b ∷ t) h = ap lines (append-nil (b ∷ t)) ∙ open_line b t h

  lines_of : (ls : List (List ℕ)) → AreLines ls → lines (flat_map T ls) ≡ Some_lines (map T ls)
  lines_of [] a = refl
  lines_of (l ∷ ls) (inl (line, r)) = by (T l) (ended l line) (lines_of ls r)
    where
      by : (t : List ℕ) → IsLine t → lines (flat_map T ls) ≡ Some_lines (map T ls)
          → lines (t ++ flat_map T ls) ≡ Some_lines (t ∷ map T ls)
      by t (x, none, e) rest =
          lines_append t (flat_map T ls) (line_ends true t (x, none, e))
          ∙ ap (λ ks. ks ++ lines (flat_map T ls))
          (ap lines e ∙ one_line x 0x0a none refl ∙ ap (λ k. k ∷ []) (sym e))
          ∙ ap (λ ks. t ∷ ks) rest
          ∙ sym (rw (ap is_empty e ∙ some_end x 0x0a) refl)
  lines_of (l ∷ ls) (inr (none, k)) =
      subst (λ ks. lines (T l ++ flat_map T ks) ≡ Some_lines (T l ∷ map T ks)) (sym k)
      (lone (T l) (unended l none))

module _ {A : Type 0} (means : MeansItsCut A)
    (has : (s : List ℕ) → (gs : List Segment) × IsCut s gs)
    (clear : (c : OperatingSystemCommand A) → IsWritableCommand c → IsClearText (inner_text c))
    (image : (i : KittyImage A) → IsWritableImage i → ReadsBackImage i)
    (pixels : (s : Sixel A) → IsWritableSixel s → WritesBackSixel s)
    (query : (ns : List (List ℕ)) → AreWritableNames ns → WritesBackNames ns)
    (goes_on : (u : Guard) (limit : Option ℕ) (admits : Value A → Bool) (s : List ℕ)
    → AreWritable (passed_as u limit admits s))
    (has_ended : (u : Guard) (limit : Option ℕ) (admits : Value A → Bool) (s : List ℕ)
    → AreWritable (closed_values admits (passed_as u limit admits s)))
    (u : Guard) (limit : ℕ) (admits : Value A → Bool) where
  texts : (vs : List (Value A)) → AreWritable vs → list_all is_fine vs ≡ true
      → Feedless (list_text vs)
  texts vs h k = texts_feedless clear image pixels query false false vs h k

  line_fine : (l : List ℕ) → IsAnyLine l
      → list_all is_fine (passed_of_line {A = A} u limit admits l) ≡ true
  line_fine l line = written_fine A u None (passed_values (Some limit) (in_lines true admits) l)
      (passed_fine A admits (meaning_within (Some limit) l)
      (line_free means has (Some limit) l line))

  -- a text, and the end of a line
  with_end : (t : List ℕ) (r : Bool) → Feedless t → IsLine (t ++ end_text admits r)
  with_end t r h = by (r && admits (control CarriageReturn))
    where
      by : (c : Bool) → IsLine (t ++ (if c then 0x0d ∷ 0x0a ∷ [] else 0x0a ∷ []))
      by true = (
        t ++ 0x0d ∷ [],
        feeds_append t (0x0d ∷ []) h refl,
        sym (append_assoc t (0x0d ∷ []) (0x0a ∷ [])),
      )
      by false = (t, h, refl)

  pub ended_line : (l : List ℕ) → IsLine l → IsLine (line_text {A = A} u limit admits l)
  ended_line l (x, none, e) =
      let m = body x ++ 0x0a ∷ [] in
      let vs = passed_of_line u limit admits m in
      let r = ends_return false x in
      subst IsLine (sym (
      ap (line_text {A = A} u limit admits) e
      ∙ ap (λ t. either t (x ++ 0x0a ∷ [])) (line_ends false (x ++ 0x0a ∷ []) (x, none, refl))
      ∙ ap (λ y. list_text (closed_values admits (passed_of_line {A = A} u limit admits
      (body y ++ 0x0a ∷ []))) ++ end_text admits (ends_return false y)) (content_is x [] none)))
      (with_end (list_text (closed_values admits vs)) r
      (texts (closed_values admits vs) (has_ended u (Some limit) (in_lines true admits) m)
      (both is_fine vs (closing admits vs)
      (line_fine m (inl (body x, body_feeds x none, refl)))
      (back_fine A (keeps_cursor admits) (after_values vs as_at_start)))))
    where
      either : Bool → List ℕ → List ℕ
      either t l =
          if t
          then list_text (closed_values admits (passed_of_line {A = A} u limit admits
          (body (content l) ++ 0x0a ∷ []))) ++ end_text admits (ends_return false (content l))
          else list_text (passed_of_line {A = A} u limit admits (body l))

  open_text_is : (l : List ℕ) → has_line_feed l ≡ false
      → line_text {A = A} u limit admits l ≡ list_text (passed_of_line u limit admits (body l))
  open_text_is l none = rw (no_end l none) refl

  pub last_line_open : (l : List ℕ) → has_line_feed l ≡ false
      → has_line_feed (line_text {A = A} u limit admits l) ≡ false
  last_line_open l none =
      ap has_line_feed (open_text_is l none)
      ∙ texts (passed_of_line u limit admits (body l))
      (goes_on u (Some limit) (in_lines true admits) (body l))
      (line_fine (body l) (inr (body_feeds l none)))

  pub last_line_closed : (l : List ℕ) → has_line_feed l ≡ false
      → has_line_feed (closed_by_lines_as {A = A} u limit admits l) ≡ false
  last_line_closed l none =
      let vs = passed_of_line {A = A} u limit admits l in
      ap (λ d. has_line_feed (text_by_lines_as {A = A} u limit admits d
      ++ list_text (closed_values admits (passed_of_line {A = A} u limit admits (last_line l)))))
      (ended_open l none)
      ∙ ap (λ r. has_line_feed (list_text (closed_values admits
      (passed_of_line {A = A} u limit admits r)))) (last_open l none)
      ∙ texts (closed_values admits vs) (has_ended u (Some limit) (in_lines true admits) l)
      (both is_fine vs (closing admits vs) (line_fine l (inr none))
      (back_fine A (keeps_cursor admits) (after_values vs as_at_start)))

  pub lines_are : (s : List ℕ) → lines (text_by_lines_as {A = A} u limit admits s)
      ≡ filter (λ t. not (is_empty t)) (map (line_text {A = A} u limit admits) (lines s))
  lines_are s = lines_of (line_text {A = A} u limit admits) ended_line last_line_open (lines s)
      (are_lines s)
