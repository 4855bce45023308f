-- The text of a stream whose lines are streams of their own, as it grows.
use Rattle.std.proofs.Common.{ℕ, ◌≡◌, ◌<◌, ◌-◌, length, take, OnOk, Result, arith, Bool, true, false, if◌then◌else◌, List, [], ◌∷◌, ◌++◌, None, Some, ◌⊎◌, inl, inr, refl, ap, sym, ◌∙◌, subst, append_assoc}
use Rattle.std.specs.List.{flat_map, filter}
use Rattle.std.proofs.lemmas.Grind.{flat_map-append}
use Rattle.std.proofs.lemmas.List.{append-nil}
use Rattle.esc_actions.proofs.Meaning.MeaningsJoin.{meaning_nil}
use Rattle.esc_actions.specs.Texts.{list_text, texts_after}
use Rattle.esc_actions.specs.Values.{Value}
use Rattle.esc_filter.specs.Closing.{closed_values, closing}
use Rattle.esc_filter.specs.Fed.{HasConsumedIn}
use Rattle.esc_filter.specs.Lines.{has_line_feed, ends_line, ends_return, body, closed_by_lines_as, content, end_text, held, last_line, lines, line_text, passed_of_line, text_by_lines_as, HasConsumedLines, added_by}
use Rattle.esc_filter.specs.Lines.{AddsText, ClosesLine, EndsBy, EndsLine, EndsLines, FillsLine, GrowsBy, GrowsLine, GrowsRest, GrowsTo, IsLine}
use Rattle.esc_filter.specs.Passing.{in_lines, passes}
use Rattle.esc_normal.specs.Texts.{ends_in_string}
use Rattle.esc_parse.proofs.Lists.StepsOverLists.{on_ok_more}
use Rattle.esc_filter.proofs.GivingBack.GivingBackIsWritable.{closed_more}
use Rattle.esc_filter.proofs.ByLine.BytesOfLines.{before_feed, body_after, body_append, body_held, body_more, body_whole, content_is, ended_is, ends_append, feeds_append, last_is, line_ends, lines_append, no_end, one_line, open_line, return_append, split_at_feed, split_open, whole_line}
use Rattle.esc_filter.proofs.Output.TextsGrow.{added_as, text_longer_as}
use Rattle.esc_filter.proofs.Output.DeceivingCharacters.{in_none}
use Rattle.esc_filter.specs.Characters.{in_values}
use Rattle.esc_filter.specs.declared.guard.Guard.{Guard}
use Rattle.esc_filter.specs.declared.line_filter.LineFilter.{LineFilter}

-- ---- texts

module _ {A : Type 0} (u : Guard) (limit : ℕ) (admits : Value A → Bool) where
  abbrev V : List ℕ → List (Value A)
  V s = passed_of_line {A = A} u limit admits s

  abbrev T : List ℕ → List ℕ
  T s = list_text (V s)

  -- the values that undo the changes that a line leaves
  abbrev C : List ℕ → List ℕ
  C s = list_text (closing admits (V s))

  abbrev By : List ℕ → List ℕ
  By s = text_by_lines_as {A = A} u limit admits s

  nothing : T [] ≡ []
  nothing =
      ap (λ vs. list_text (in_values u (filter (passes (in_lines true admits)) vs)))
      (meaning_nil (Some limit)) ∙ ap list_text (in_none u None)

  pub by_append : (d x : List ℕ) → ends_line true d ≡ true → By (d ++ x) ≡ By d ++ By x
  by_append d x h =
      ap (flat_map (line_text {A = A} u limit admits)) (lines_append d x h)
      ∙ flat_map-append (line_text {A = A} u limit admits) (lines d) (lines x)

  abbrev E : Bool → List ℕ
  E r = end_text admits r

  -- a line that has ended, or not
  abbrev either : Bool → List ℕ → List ℕ
  either t l =
      if t
      then list_text (closed_values admits (V (body (content l) ++ 0x0a ∷ [])))
      ++ E (ends_return false (content l))
      else T (body l)

  pub open_text : (r : List ℕ) → has_line_feed r ≡ false → By r ≡ T (body r)
  open_text [] h = sym nothing
  open_text (b ∷ r) h =
      ap (flat_map (line_text {A = A} u limit admits)) (open_line b r h)
      ∙ append-nil (line_text u limit admits (b ∷ r))
      ∙ ap (λ t. either t (b ∷ r)) (no_end (b ∷ r) h)

  -- the line with this content
  pub closed_text : (x : List ℕ) → has_line_feed x ≡ false
      → By (x ++ 0x0a ∷ []) ≡ T (body x ++ 0x0a ∷ [])
      ++ (C (body x ++ 0x0a ∷ []) ++ E (ends_return false x))
  closed_text x none =
      let l = x ++ 0x0a ∷ [] in
      let m = body x ++ 0x0a ∷ [] in
      let e = E (ends_return false x) in
      ap (flat_map (line_text {A = A} u limit admits)) (one_line x 0x0a none refl)
      ∙ append-nil (line_text u limit admits l)
      ∙ ap (λ t. either t l) (line_ends false l (x, none, refl))
      ∙ ap (λ y. list_text (closed_values admits (V (body y ++ 0x0a ∷ [])))
      ++ E (ends_return false y))
      (content_is x [] none)
      ∙ ap (λ t. t ++ e) (closed_more admits (V m))
      ∙ append_assoc (T m) (C m) e

  -- the text of a stream that has ended, by its lines
  closes_at : (d r s : List ℕ) → s ≡ d ++ r → ends_line true d ≡ true → has_line_feed r ≡ false
      → (x t : List ℕ) → T r ≡ x ++ t → By s ≡ By d ++ x
      → closed_by_lines_as {A = A} u limit admits s ≡ By s ++ (t ++ C r)
  closes_at d r s e ends none x t longer so_far =
      ap (closed_by_lines_as {A = A} u limit admits) e
      ∙ ap (λ z. By z ++ list_text (closed_values admits (V (last_line (d ++ r)))))
      (ended_is d r ends none)
      ∙ ap (λ z. By d ++ list_text (closed_values admits (V z))) (last_is d r ends none)
      ∙ ap (λ z. By d ++ z)
      (closed_more admits (V r) ∙ ap (λ z. z ++ C r) longer ∙ append_assoc x t (C r))
      ∙ sym (append_assoc (By d) x (t ++ C r))
      ∙ ap (λ z. z ++ (t ++ C r)) (sym so_far)

  -- the values that the end of a stream adds to the text so far
  pub closed_longer : (s : List ℕ)
      → (t : List ℕ) × (closed_by_lines_as {A = A} u limit admits s ≡ By s ++ t)
  closed_longer s = by (split_open s)
    where
      more : List ℕ → List ℕ
      more r = texts_after (ends_in_string false (V (body r)))
          (added_as u (Some limit) (in_lines true admits) (body r) (held (ends_return false r)))

      last : (r : List ℕ) → T r ≡ T (body r) ++ more r
      last r =
          ap T (body_held r)
          ∙ text_longer_as u (Some limit) (in_lines true admits) (body r)
          (held (ends_return false r))

      by : (d : List ℕ) × (r : List ℕ) × (s ≡ d ++ r) × (ends_line true d ≡ true)
          × (has_line_feed r ≡ false)
          → (t : List ℕ) × (closed_by_lines_as {A = A} u limit admits s ≡ By s ++ t)
      by (d, r, e, ends, none) = (
        more r ++ C r,
        closes_at d r s e ends none (T (body r)) (more r) (last r)
            (ap By e ∙ by_append d r ends ∙ ap (λ z. By d ++ z) (open_text r none)),
      )

  -- ---- the filter

  module _ {P : Type 0} (s : List ℕ) (old : LineFilter P A)
      (w : HasConsumedLines u limit admits s old)
    where
      text_so_far : By s ≡ By w.ended ++ T (body w.rest)
      text_so_far =
          ap By w.whole ∙ by_append w.ended w.rest w.ends
          ∙ ap (λ y. By w.ended ++ y) (open_text w.rest w.unended)

      text_more : (b : List ℕ) → By (s ++ b) ≡ By w.ended ++ By (w.rest ++ b)
      text_more b =
          ap (λ y. By (y ++ b)) w.whole ∙ ap By (append_assoc w.ended w.rest b)
          ∙ by_append w.ended (w.rest ++ b) w.ends

      -- the stream has ended
      pub ends_all : (mid new : LineFilter P A)
          → GrowsTo u admits limit (body w.rest) w.rest old mid
          → ClosesLine u admits limit w.rest mid new → new.has_failed ≡ old.has_failed
          → new.holds ≡ false → EndsBy u admits limit s old new
      ends_all mid new (h, (t, longer, a)) (fed, added) fails none = (
        t ++ C w.rest,
        (
          record {
            ended = [];
            rest = [];
            whole = refl;
            ends = refl;
            unended = refl;
            fed = fed;
            holds = none;
            unfailed = fails ∙ w.unfailed;
          },
          closes_at w.ended w.rest s w.whole w.ends w.unended (T (body w.rest)) t longer
              text_so_far,
        ),
        added ∙ ap (λ z. z ++ C w.rest) a ∙ append_assoc (added_by old) t (C w.rest),
      )

      -- the line is longer
      pub grows_open : (b : List ℕ) (mid : LineFilter P A)
          → GrowsRest u admits limit w.rest b old mid → mid.has_failed ≡ old.has_failed
          → has_line_feed b ≡ false → GrowsBy u admits limit s b old mid
      grows_open b mid ((h, (t, longer, a)), holds) fails none = (
        t,
        (
          record {
            ended = w.ended;
            rest = w.rest ++ b;
            whole = ap (λ y. y ++ b) w.whole ∙ append_assoc w.ended w.rest b;
            ends = w.ends;
            unended = feeds_append w.rest b w.unended none;
            fed = h;
            holds = holds;
            unfailed = fails ∙ w.unfailed;
          },
          text_more b
              ∙ ap (λ y. By w.ended ++ y)
              (open_text (w.rest ++ b) (feeds_append w.rest b w.unended none) ∙ longer)
              ∙ sym (append_assoc (By w.ended) (T (body w.rest)) t)
              ∙ ap (λ y. y ++ t) (sym text_so_far),
        ),
        a,
      )

      -- it came to its end
      pub grows_line : (x : List ℕ) (mid new : LineFilter P A) → has_line_feed x ≡ false
          → FillsLine u admits limit w.rest x old mid → mid.has_failed ≡ old.has_failed
          → EndsLine u admits limit (body (w.rest ++ x) ++ 0x0a ∷ []) mid new
          → new.has_failed ≡ mid.has_failed → new.holds ≡ false
          → GrowsBy u admits limit s (x ++ 0x0a ∷ []) old new
      grows_line x mid new none ((h, (t, longer, a)), holds) fails (fresh, added) f unheld =
          let y = w.rest ++ x in
          let b = x ++ 0x0a ∷ [] in
          let m = body y ++ 0x0a ∷ [] in
          let more = C m ++ E (ends_return false y) in (
            t ++ more,
            (
              record {
                ended = s ++ b;
                rest = [];
                whole = sym (append-nil (s ++ b));
                ends =
                    ends_append true s b ∙ line_ends (ends_line true s) b (x, none, refl);
                unended = refl;
                fed = fresh;
                holds = unheld;
                unfailed = f ∙ fails ∙ w.unfailed;
              },
              text_more b
                  ∙ ap (λ z. By w.ended ++ z)
                  (ap By (sym (append_assoc w.rest x (0x0a ∷ [])))
                  ∙ closed_text y (feeds_append w.rest x w.unended none)
                  ∙ ap (λ z. z ++ more) longer
                  ∙ append_assoc (T (body w.rest)) t more)
                  ∙ sym (append_assoc (By w.ended) (T (body w.rest)) (t ++ more))
                  ∙ ap (λ z. z ++ (t ++ more)) (sym text_so_far),
            ),
            added ∙ ap (λ r. added_by mid ++ (C m ++ E r)) holds ∙ ap (λ z. z ++ more) a
                ∙ append_assoc (added_by old) t more,
          )

  -- the filter of the last line was fed some, and then more
  pub grows_further : {P : Type 0} (l m n : List ℕ) (old mid new : LineFilter P A)
      → GrowsTo u admits limit l m old mid → GrowsTo u admits limit m n mid new
      → GrowsTo u admits limit l n old new
  grows_further l m n old mid new (h, (t, longer, a)) (k, (r, further, b)) = (
    k,
    (
      t ++ r,
      further ∙ ap (λ z. z ++ r) longer ∙ append_assoc (T l) t r,
      b ∙ ap (λ z. z ++ r) a ∙ append_assoc (added_by old) t r,
    ),
  )

  -- it was fed nothing
  pub grows_nothing : {P : Type 0} (l : List ℕ) (old new : LineFilter P A)
      → HasConsumedIn u true limit admits l old.filter → new.filter ≡ old.filter
      → added_by new ≡ added_by old → GrowsTo u admits limit l l old new
  grows_nothing l old new fed same none = (
    subst (HasConsumedIn u true limit admits l) (sym same) fed,
    ([], sym (append-nil (T l)), none ∙ sym (append-nil (added_by old))),
  )

  -- the carriage return that was held back was given to the filter
  pub released : {P : Type 0} (r : List ℕ) (old mid : LineFilter P A)
      → old.holds ≡ ends_return false r
      → GrowsLine u admits limit (body r) (held old.holds) old mid
      → GrowsTo u admits limit (body r) r old mid
  released r old mid h g =
      subst (λ m. GrowsTo u admits limit (body r) m old mid)
      (ap (λ t. body r ++ held t) h ∙ sym (body_held r)) g

  -- or there was none
  pub grows_none : {P : Type 0} (l : List ℕ) (old : LineFilter P A) → old.holds ≡ false
      → HasConsumedIn u true limit admits l old.filter
      → GrowsLine u admits limit l (held old.holds) old old
  grows_none l old none fed =
      subst (λ m. GrowsTo u admits limit l m old old)
      (sym (append-nil l) ∙ ap (λ t. l ++ held t) (sym none))
      (grows_nothing l old old fed refl refl)

  -- no byte came
  pub rests : {P : Type 0} (r x : List ℕ) (old : LineFilter P A) → length x ≡ 0
      → HasConsumedIn u true limit admits (body r) old.filter → old.holds ≡ ends_return false r
      → GrowsRest u admits limit r x old old
  rests r [] old none fed holds =
      subst (λ z. GrowsTo u admits limit (body r) (body z) old old
      × (old.holds ≡ ends_return false z)) (sym (append-nil r))
      (grows_nothing (body r) old old fed refl refl, holds)
  rests r (b ∷ x) old none fed holds = absurd (omega (arith, none))

  -- some came
  pub grows_rest : {P : Type 0} (r x : List ℕ) (old mid new : LineFilter P A) → 0 < length x
      → GrowsTo u admits limit (body r) r old mid → GrowsLine u admits limit r (body x) mid new
      → new.holds ≡ ends_return false x → GrowsRest u admits limit r x old new
  grows_rest r [] old mid new some g k holds = absurd (omega (arith, some))
  grows_rest r (b ∷ x) old mid new some g k holds = (
    subst (λ m. GrowsTo u admits limit (body r) m old new) (sym (body_append r b x))
        (grows_further (body r) r (r ++ body (b ∷ x)) old mid new g k),
    holds ∙ sym (return_append false r (b ∷ x)),
  )

  -- the line feed came after them
  pub fills_after : {P : Type 0} (r x : List ℕ) (old mid new : LineFilter P A)
      → GrowsRest u admits limit r x old mid
      → GrowsLine u admits limit (body (r ++ x)) (0x0a ∷ []) mid new → new.holds ≡ mid.holds
      → FillsLine u admits limit r x old new
  fills_after r x old mid new (g, holds) k same = (
    grows_further (body r) (body (r ++ x)) (body (r ++ x) ++ 0x0a ∷ []) old mid new g k,
    same ∙ holds,
  )

  -- it came with them, and no carriage return before it
  pub fills_whole : {P E : Type 0} (r b : List ℕ) (old new : LineFilter P A)
      (result : Result (Unit {0}) E) → IsLine b
      → HasConsumedIn u true limit admits (body r) old.filter
      → old.holds ≡ ends_return false r → old.holds ≡ false
      → ends_return false (take (length b - 1) b) ≡ false → new.holds ≡ old.holds
      → ((l : List ℕ) → HasConsumedIn u true limit admits l old.filter
      → OnOk result (GrowsLine u admits limit l b old new))
      → OnOk result (FillsLine u admits limit r (content b) old new)
  fills_whole r b old new result line fed holds none unended same given =
      let x = content b in
      let before : take (length b - 1) b ≡ x = before_feed b line in
      let open_ : ends_return false r ≡ false = sym holds ∙ none in
      let ends : ends_return false (r ++ x) ≡ false =
      return_append false r x ∙ ap (λ t. ends_return t x) open_
      ∙ ap (ends_return false) (sym before) ∙ unended in
      let whole : body r ++ b ≡ body (r ++ x) ++ 0x0a ∷ [] =
      ap (λ z. z ++ b) (body_whole r open_) ∙ ap (λ z. r ++ z) (whole_line b line)
      ∙ sym (append_assoc r x (0x0a ∷ []))
      ∙ ap (λ z. z ++ 0x0a ∷ []) (sym (body_whole (r ++ x) ends)) in
      on_ok_more _ _ result (λ g. (
        subst (λ m. GrowsTo u admits limit (body r) m old new) whole g,
        same ∙ none ∙ sym ends,
      )) (given (body r) fed)

  -- it came with them but for a carriage return before it
  pub fills_short : {P E : Type 0} (r b y : List ℕ) (old new : LineFilter P A)
      (result : Result (Unit {0}) E) → IsLine b
      → HasConsumedIn u true limit admits (body r) old.filter
      → old.holds ≡ ends_return false r → old.holds ≡ false
      → ends_return false (content b) ≡ true → y ≡ body (content b) → new.holds ≡ true
      → ((l : List ℕ) → HasConsumedIn u true limit admits l old.filter
      → OnOk result (GrowsLine u admits limit l (y ++ 0x0a ∷ []) old new))
      → OnOk result (FillsLine u admits limit r (content b) old new)
  fills_short r b y old new result line fed holds none ended same held given =
      let x = content b in
      let open_ : ends_return false r ≡ false = sym holds ∙ none in
      let ends : ends_return false (r ++ x) ≡ true =
      return_append false r x ∙ ap (λ t. ends_return t x) open_ ∙ ended in
      let whole : body r ++ (y ++ 0x0a ∷ []) ≡ body (r ++ x) ++ 0x0a ∷ [] =
      ap (λ z. z ++ (y ++ 0x0a ∷ [])) (body_whole r open_)
      ∙ sym (append_assoc r y (0x0a ∷ []))
      ∙ ap (λ z. (r ++ z) ++ 0x0a ∷ []) same
      ∙ ap (λ z. z ++ 0x0a ∷ []) (sym (body_after r x ended)) in
      on_ok_more _ _ result (λ g. (
        subst (λ m. GrowsTo u admits limit (body r) m old new) whole g,
        held ∙ sym ends,
      )) (given (body r) fed)

  -- a prefix, and then more
  pub grows_more : {P : Type 0} (s x y : List ℕ) (old mid new : LineFilter P A)
      → GrowsBy u admits limit s x old mid → GrowsBy u admits limit (s ++ x) y mid new
      → GrowsBy u admits limit s (x ++ y) old new
  grows_more s x y old mid new (t, (w, e), a) (r, (v, f), b) =
      let same : (s ++ x) ++ y ≡ s ++ (x ++ y) = append_assoc s x y in (
        t ++ r,
        (
          subst (λ z. HasConsumedLines u limit admits z new) same v,
          ap By (sym same) ∙ f ∙ ap (λ z. z ++ r) e ∙ append_assoc (By s) t r,
        ),
        b ∙ ap (λ z. z ++ r) a ∙ append_assoc (added_by old) t r,
      )

  pub grows_not : {P : Type 0} (s : List ℕ) (old : LineFilter P A)
      → HasConsumedLines u limit admits s old → GrowsBy u admits limit s [] old old
  grows_not s old w =
      let same : s ++ [] ≡ s = append-nil s in (
        [],
        (
          subst (λ z. HasConsumedLines u limit admits z old) (sym same) w,
          ap By same ∙ sym (append-nil (By s)),
        ),
        sym (append-nil (added_by old)),
      )

  pub first_fed : {P : Type 0} (f : LineFilter P A) → HasConsumedIn u true limit admits [] f.filter
      → f.holds ≡ false → f.has_failed ≡ false → HasConsumedLines u limit admits [] f
  first_fed f fresh h n = record {
    ended = [];
    rest = [];
    whole = refl;
    ends = refl;
    unended = refl;
    fed = fresh;
    holds = h;
    unfailed = n;
  }

  -- the text that was handed out is no part of the state that was fed
  pub fed_same : {P : Type 0} (s : List ℕ) (f h : LineFilter P A) → h.filter ≡ f.filter
      → h.holds ≡ f.holds → h.has_failed ≡ f.has_failed
      → HasConsumedLines u limit admits s f → HasConsumedLines u limit admits s h
  fed_same s f h a c d w = record {
    ended = w.ended;
    rest = w.rest;
    whole = w.whole;
    ends = w.ends;
    unended = w.unended;
    fed = subst (HasConsumedIn u true limit admits (body w.rest)) (sym a) w.fed;
    holds = c ∙ w.holds;
    unfailed = d ∙ w.unfailed;
  }

  pub adds_all : {P : Type 0} (s x : List ℕ) (old new : LineFilter P A) → added_by old ≡ []
      → GrowsBy u admits limit s x old new → AddsText u admits limit s x (added_by new) new
  adds_all s x old new none (t, (w, e), a) = (
    w,
    e ∙ ap (λ y. By s ++ y) (sym (a ∙ ap (λ y. y ++ t) none)),
  )

  -- the same of its end
  pub ends_now : {P : Type 0} (s : List ℕ) (old new : LineFilter P A) → added_by old ≡ []
      → EndsBy u admits limit s old new → EndsLines u admits limit s (added_by new) new
  ends_now s old new none (t, (w, e), a) = (
    w,
    e ∙ ap (λ y. By s ++ y) (sym (a ∙ ap (λ y. y ++ t) none)),
  )

module _ {A : Type 0} (u : Guard) (limit : ℕ) (admits : Value A → Bool) where
  -- the text that a line adds to the text of its beginning, and the lines after it
  rest_longer : (r b : List ℕ) → has_line_feed r ≡ false
      → (t : List ℕ) × (text_by_lines_as {A = A} u limit admits (r ++ b)
      ≡ T u limit admits (body r) ++ t)
  rest_longer r b none = by_feed (split_at_feed b)
    where
      W : List ℕ → List ℕ
      W s = T u limit admits s

      added : List ℕ → List ℕ
      added x = texts_after (ends_in_string false (passed_of_line u limit admits (body r)))
          (added_as u (Some limit) (in_lines true admits) (body r) x)

      longer : (m c : List ℕ) → m ≡ body r ++ c → W m ≡ W (body r) ++ added c
      longer m c e = ap W e ∙ text_longer_as u (Some limit) (in_lines true admits) (body r) c

      by_feed : (has_line_feed b ≡ false)
          ⊎ ((x : List ℕ) × (y : List ℕ) × (has_line_feed x ≡ false) × (b ≡ x ++ 0x0a ∷ y))
          → (t : List ℕ) × (text_by_lines_as {A = A} u limit admits (r ++ b) ≡ W (body r) ++ t)
      by_feed (inl n) =
          let (c, e) = body_more r b in (
            added c,
            open_text u limit admits (r ++ b) (feeds_append r b none n)
                ∙ longer (body (r ++ b)) c e,
          )
      by_feed (inr (x, y, n, k)) =
          let z = r ++ x in
          let l = z ++ 0x0a ∷ [] in
          let m = body z ++ 0x0a ∷ [] in
          let feedless = feeds_append r x none n in
          let same : r ++ b ≡ l ++ y =
          ap (λ z. r ++ z) k ∙ sym (append_assoc r x (0x0a ∷ y))
          ∙ sym (append_assoc z (0x0a ∷ []) y) in
          let (c, e) = body_more r x in
          let d = c ++ 0x0a ∷ [] in
          let more = C u limit admits m ++ end_text admits (ends_return false z) in
          let rest = text_by_lines_as {A = A} u limit admits y in (
            added d ++ (more ++ rest),
            ap (text_by_lines_as {A = A} u limit admits) same
                ∙ by_append u limit admits l y (line_ends true l (z, feedless, refl))
                ∙ ap (λ q. q ++ rest)
                (closed_text u limit admits z feedless
                ∙ ap (λ q. q ++ more)
                (longer m d (ap (λ q. q ++ 0x0a ∷ []) e
                ∙ append_assoc (body r) c (0x0a ∷ []))))
                ∙ append_assoc (W (body r) ++ added d) more rest
                ∙ append_assoc (W (body r)) (added d) (more ++ rest),
          )

  pub by_longer : {P : Type 0} (s : List ℕ) (f : LineFilter P A)
      → HasConsumedLines u limit admits s f → (b : List ℕ)
      → (t : List ℕ) × (text_by_lines_as {A = A} u limit admits (s ++ b)
      ≡ text_by_lines_as {A = A} u limit admits s ++ t)
  by_longer s f w b =
      let (t, e) = rest_longer w.rest b w.unended in
      let d = text_by_lines_as {A = A} u limit admits w.ended in
      let r = T u limit admits (body w.rest) in (
        t,
        text_more u limit admits s f w b ∙ ap (λ z. d ++ z) e ∙ sym (append_assoc d r t)
            ∙ ap (λ z. z ++ t) (sym (text_so_far u limit admits s f w)),
      )

  -- more of a stream adds to its text
  pub by_more : (s b : List ℕ) → (t : List ℕ) × (text_by_lines_as {A = A} u limit admits (s ++ b)
      ≡ text_by_lines_as {A = A} u limit admits s ++ t)
  by_more s b =
      let (d, r, e, ends, unended) = split_open s in
      let (t, more) = rest_longer r b unended in
      let all = text_by_lines_as {A = A} u limit admits in
      let w = T u limit admits (body r) in
      let so_far : all s ≡ all d ++ w =
      ap all e ∙ by_append u limit admits d r ends
      ∙ ap (λ z. all d ++ z) (open_text u limit admits r unended)
      in (
        t,
        ap all (ap (λ z. z ++ b) e ∙ append_assoc d r b)
            ∙ by_append u limit admits d (r ++ b) ends ∙ ap (λ z. all d ++ z) more
            ∙ sym (append_assoc (all d) w t) ∙ ap (λ z. z ++ t) (sym so_far),
      )
