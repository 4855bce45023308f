-- A filter of lines over its own output: each line, and the last.
use Rattle.std.proofs.Common.{ℕ, ◌≡◌, Bool, true, false, if◌then◌else◌, List, [], ◌∷◌, ◌++◌, Option, None, Some, refl, sym, ap, ◌∙◌, subst, append-nil, append_assoc}
use Rattle.std.specs.List.{filter, flat_map}
use Rattle.std.proofs.lemmas.Bool.{true≢false}
use Rattle.esc_actions.proofs.Meaning.MeaningsJoin.{meaning_nil}
use Rattle.esc_actions.specs.Texts.{list_text, normal}
use Rattle.esc_actions.specs.Values.{Value}
use Rattle.esc_filter.specs.Characters.{in_values}
use Rattle.esc_filter.specs.Closing.{closed_values, joined_lists}
use Rattle.esc_filter.specs.Lines.{IsLine, begin_with, closed_by_lines_as, content, ended_lines, ends_line, has_line_feed, is_line_feed, last_line, line_text, lines, passed_of_line, text_by_lines_as}
use Rattle.esc_filter.specs.Openings.{AreQuiet, is_blank, opening_at, opening_of, resumed_stream, resumed_from}
use Rattle.esc_filter.specs.Passing.{IsFilteredAs, closed_text_as, in_lines, passed_text_as}
use Rattle.esc_filter.specs.declared.guard.Guard.{Guard}
use Rattle.esc_filter.proofs.ByLine.BytesOfLines.{ended_is, ended_open, ends_append, last_is, last_open, line_ends, line_feed_is, lines_append, no_end, one_line, open_line, split_open}
use Rattle.esc_filter.proofs.Renditions.RenditionsGoOn.{at_none, from_first, from_more, quiet_lines}
use Rattle.esc_idempotent.proofs.OneLine.{P, line_lasts, line_passes}
use Rattle.esc_idempotent.proofs.Steady.{steady_is}
use Rattle.esc_idempotent.proofs.Twice.{closes_again, pass_again}
use Rattle.esc_idempotent.specs.Again.{AdmitsInstead, AdmitsItsClosing, AreKept, IsKept, read_of_line}

-- ---- lines that have ended

abbrev AreEnded : List (List ℕ) → Type 0
AreEnded [] = Unit {0}
AreEnded (l ∷ ls) = IsLine l × AreEnded ls

abbrev is_nil : List (List ℕ) → Bool
is_nil [] = true
is_nil (l ∷ ls) = false

begin_ended : (b : ℕ) (ls : List (List ℕ)) → is_line_feed b ≡ false → AreEnded ls
    → (ls ≡ [] → ⊥) → AreEnded (begin_with b ls)
begin_ended b [] e a some = absurd (some refl)
begin_ended b (l ∷ ls) e ((x, none, k), r) some = ((b ∷ x, rw e none, ap (λ y. b ∷ y) k), r)

no_lines : (ls : List (List ℕ)) → is_nil ls ≡ false → ls ≡ [] → ⊥
no_lines ls e h = true≢false (sym (ap is_nil h) ∙ e)

some_begin : (b : ℕ) (ls : List (List ℕ)) → begin_with b ls ≡ [] → ⊥
some_begin b [] h = no_lines _ refl h
some_begin b (l ∷ ls) h = no_lines _ refl h

some_lines : (b : ℕ) (s : List ℕ) → lines (b ∷ s) ≡ [] → ⊥
some_lines b s = by (is_line_feed b)
  where
    by : (t : Bool) → (if t then (b ∷ []) ∷ lines s else begin_with b (lines s)) ≡ [] → ⊥
    by true h = no_lines _ refl h
    by false h = some_begin b (lines s) h

are_ended : (s : List ℕ) → ends_line true s ≡ true → AreEnded (lines s)
are_ended [] h = tt
are_ended (b ∷ []) h =
    let one : lines (b ∷ []) ≡ (b ∷ []) ∷ [] = rw h refl in
    subst AreEnded (sym one) (([], refl, ap (λ c. c ∷ []) (line_feed_is b h)), tt)
are_ended (b ∷ c ∷ s) h = by (is_line_feed b) refl (are_ended (c ∷ s) h)
  where
    by : (t : Bool) → is_line_feed b ≡ t → AreEnded (lines (c ∷ s))
        → AreEnded (if t then (b ∷ []) ∷ lines (c ∷ s) else begin_with b (lines (c ∷ s)))
    by true e a = (([], refl, ap (λ d. d ∷ []) (line_feed_is b e)), a)
    by false e a = begin_ended b (lines (c ∷ s)) e a (some_lines c s)

-- lines one after another
lines_one : (l : List ℕ) → IsLine l → lines l ≡ l ∷ []
lines_one l (x, none, e) =
    ap lines e ∙ one_line x 0x0a none refl ∙ ap (λ z. z ∷ []) (sym e)

joined_lines : (ls : List (List ℕ)) (r : List ℕ) → AreEnded ls
    → (lines (joined_lists ls ++ r) ≡ ls ++ lines r) × (ends_line true (joined_lists ls) ≡ true)
joined_lines [] r a = (refl, refl)
joined_lines (l ∷ ls) r (line, rest) =
    let q = joined_lines ls r rest in (
      ap lines (append_assoc l (joined_lists ls) r)
          ∙ lines_append l (joined_lists ls ++ r) (line_ends true l line)
          ∙ ap (λ ks. ks ++ lines (joined_lists ls ++ r)) (lines_one l line)
          ∙ ap (λ ks. l ∷ ks) q.0,
      ends_append true l (joined_lists ls)
          ∙ ap (λ t. ends_line t (joined_lists ls)) (line_ends true l line) ∙ q.1,
    )

-- the facts about more lines that are kept
kept_more : (A : Type 0) (n : ℕ) (ls ks : List (List ℕ)) → AreKept A n (ls ++ ks)
    → AreKept A n ls × AreKept A n ks
kept_more A n [] ks h = (tt, h)
kept_more A n (l ∷ ls) ks (k, h) = let q = kept_more A n ls ks h in ((k, q.0), q.1)

kept_last : (A : Type 0) (n : ℕ) (r : List ℕ) → has_line_feed r ≡ false
    → IsKept A (Some n) [] → AreKept A n (lines r) → IsKept A (Some n) r
kept_last A n [] none nil h = nil
kept_last A n (b ∷ r) none nil h =
    let k = subst (AreKept A n) (open_line b r none) h in
    subst (IsKept A (Some n)) (read_open (b ∷ r) none) k.0
  where
    read_open : (l : List ℕ) → has_line_feed l ≡ false → read_of_line l ≡ l
    read_open l none = rw (no_end l none) refl

-- ---- by lines

module _ {A : Type 0} (u : Guard) (f : Value A → Bool) (text : AdmitsInstead u f)
    (closes : AdmitsItsClosing f)
    (goes_on : (v : Guard) (n : Option ℕ) (g : Value A → Bool) (s : List ℕ)
    → IsFilteredAs v false n g s (passed_text_as v n g s))
    (has_ended : (v : Guard) (n : Option ℕ) (g : Value A → Bool) (s : List ℕ)
    → IsFilteredAs v true n g s (closed_text_as v n g s))
    (a_line : (v : Guard) (n : ℕ) (g : Value A → Bool) (l : List ℕ) → IsLine l
    → IsLine (line_text v n g l))
    (a_last : (v : Guard) (n : ℕ) (g : Value A → Bool) (l : List ℕ) → has_line_feed l ≡ false
    → has_line_feed (closed_by_lines_as v n g l) ≡ false) (limit again : ℕ) where
  abbrev Line : List ℕ → List ℕ
  Line l = line_text u limit f l

  abbrev Last : List ℕ → List ℕ
  Last r = list_text (closed_values f (passed_of_line u limit f r))

  abbrev written : List (List ℕ) → List (List ℕ)
  written [] = []
  written (l ∷ ls) = Line l ∷ written ls

  written_is : (ls : List (List ℕ)) → flat_map Line ls ≡ joined_lists (written ls)
  written_is [] = refl
  written_is (l ∷ ls) = ap (λ x. Line l ++ x) (written_is ls)

  written_ended : (ls : List (List ℕ)) → AreEnded ls → AreEnded (written ls)
  written_ended [] a = tt
  written_ended (l ∷ ls) (line, a) = (a_line u limit f l line, written_ended ls a)

  -- each line lasts
  lines_last : (ls : List (List ℕ)) → AreEnded ls → AreKept A again (written ls)
      → (flat_map (line_text u again f) (written ls) ≡ joined_lists (written ls))
      × AreQuiet u again f (written ls)
  lines_last [] a kept = (refl, tt)
  lines_last (l ∷ ls) (line, a) (k, kept) =
      let w = a_line u limit f l line in
      let q = line_lasts u f text closes goes_on has_ended limit again l line w k in
      let r = lines_last ls a kept in (
        ap (λ x. x ++ flat_map (line_text u again f) (written ls)) q.same
            ∙ ap (λ x. Line l ++ x) r.0,
        (w, quiet (is_blank (Line l)) q.opens, r.1),
      )
    where
      quiet : (t : Bool) → opening_of u again f (content (Line l)) ≡ []
          → (if t then [] else opening_of u again f (content (Line l))) ≡ []
      quiet true h = refl
      quiet false h = h

  -- and so do the lines after them
  last_lasts : (r : List ℕ) → IsKept A (Some again) (Last r)
      → list_text (closed_values f (passed_of_line u again f (Last r))) ≡ Last r
  last_lasts r kept =
      let vs = passed_of_line u limit f r in
      let ws = closed_values f vs in
      let ns = filter (P f) (normal ws) in
      let n = pass_again u (P f) ws
      (line_passes u f text closes goes_on has_ended limit r) in
      ap (λ ms. list_text (closed_values f (in_values u (filter (P f) ms))))
      (kept ∙ (has_ended u (Some limit) (in_lines true f) r).reads_back)
      ∙ ap (λ xs. list_text (closed_values f xs)) (steady_is u ns n.steady)
      ∙ ap list_text (closes_again f vs ns n.leaves) ∙ n.text

  -- ---- the stream

  -- lines that have ended, and the rest of one
  pub record IsSplit (s : List ℕ) : Type 0 where
    pub ended : List (List ℕ)
    pub rest : List ℕ
    pub ends : AreEnded ended
    pub unended : has_line_feed (Last rest) ≡ false
    pub whole : closed_by_lines_as u limit f s ≡ joined_lists (written ended) ++ Last rest

  split : (s : List ℕ) → IsSplit s
  split s = by (split_open s)
    where
      by : (d : List ℕ) × (r : List ℕ) × (s ≡ d ++ r) × (ends_line true d ≡ true)
          × (has_line_feed r ≡ false) → IsSplit s
      by (d, r, e, last, none) =
          let is : (z : List ℕ) (y : List ℕ) → ended_lines z ≡ y → last_line z ≡ r
          → closed_by_lines_as u limit f z ≡ text_by_lines_as u limit f y ++ Last r =
          λ z y h k. ap (λ x. text_by_lines_as u limit f x
          ++ list_text (closed_values f (passed_of_line u limit f (last_line z)))) h
          ∙ ap (λ x. text_by_lines_as u limit f y ++ Last x) k in record {
            ended = lines d;
            rest = r;
            ends = are_ended d last;
            unended =
                ap has_line_feed (sym (is r [] (ended_open r none) (last_open r none)))
                ∙ a_last u limit f r none;
            whole =
                ap (closed_by_lines_as u limit f) e
                ∙ is (d ++ r) d (ended_is d r last none) (last_is d r last none)
                ∙ ap (λ x. x ++ Last r) (written_is (lines d));
          }

  module _ (s : List ℕ) (kept : AreKept A again (lines (closed_by_lines_as u limit f s))) where
    abbrev p : IsSplit s
    p = split s

    abbrev ks : List (List ℕ)
    ks = written p.ended

    ended_too : AreEnded ks
    ended_too = written_ended p.ended p.ends

    j : (lines (joined_lists ks ++ Last p.rest) ≡ ks ++ lines (Last p.rest))
        × (ends_line true (joined_lists ks) ≡ true)
    j = joined_lines ks (Last p.rest) ended_too

    all_kept : AreKept A again ks × AreKept A again (lines (Last p.rest))
    all_kept =
        kept_more A again ks (lines (Last p.rest))
        (subst (AreKept A again) (ap lines p.whole ∙ j.0) kept)

    each : (flat_map (line_text u again f) ks ≡ joined_lists ks) × AreQuiet u again f ks
    each = lines_last p.ended p.ends all_kept.0

    rest_kept : IsKept A (Some again) (Last p.rest)
    rest_kept =
        kept_last A again (Last p.rest) p.unended
        (meaning_nil (Some again) ∙ sym (meaning_nil None)) all_kept.1

    pub lines_twice : closed_by_lines_as u again f (closed_by_lines_as u limit f s)
        ≡ closed_by_lines_as u limit f s
    lines_twice =
        let t = joined_lists ks ++ Last p.rest in
        let own : lines (joined_lists ks) ≡ ks =
        ap lines (sym (append-nil (joined_lists ks))) ∙ (joined_lines ks [] ended_too).0
        ∙ append-nil ks in
        ap (closed_by_lines_as u again f) p.whole
        ∙ ap (λ x. text_by_lines_as u again f x
        ++ list_text (closed_values f (passed_of_line u again f (last_line t))))
        (ended_is (joined_lists ks) (Last p.rest) j.1 p.unended)
        ∙ ap (λ x. text_by_lines_as u again f (joined_lists ks)
        ++ list_text (closed_values f (passed_of_line u again f x)))
        (last_is (joined_lists ks) (Last p.rest) j.1 p.unended)
        ∙ ap (λ x. text_by_lines_as u again f (joined_lists ks) ++ x) (last_lasts p.rest rest_kept)
        ∙ ap (λ x. flat_map (line_text u again f) x ++ Last p.rest) own
        ∙ ap (λ x. x ++ Last p.rest) each.0
        ∙ sym p.whole

    -- no rendition goes on in it
    after_last : (d r : List ℕ) → ends_line true d ≡ true → has_line_feed r ≡ false
        → (k : Bool) → opening_at k u again f d ≡ []
        → resumed_from k u again f d r ≡ d ++ r
    after_last d [] ends none k h = sym (append-nil d)
    after_last d (b ∷ r) ends none k h =
        from_first u again f k d b r ends none ∙ ap (λ o. d ++ (o ++ b ∷ r)) h

    pub resumes_nothing : (k : Bool)
        → resumed_stream k u again f (closed_by_lines_as u limit f s)
        ≡ closed_by_lines_as u limit f s
    resumes_nothing k =
        let (a, b, c) = quiet_lines u again f k [] ks refl (at_none u again f k) each.1 in
        ap (resumed_stream k u again f) p.whole
        ∙ from_more u again f k [] (joined_lists ks) (Last p.rest)
        ∙ ap (λ d. resumed_from k u again f d (Last p.rest)) a
        ∙ after_last (joined_lists ks) (Last p.rest) c p.unended k b
        ∙ sym p.whole
