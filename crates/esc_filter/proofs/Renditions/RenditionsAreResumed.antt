-- A filter that writes renditions again which go on over a line feed.
use Rattle.std.proofs.Common.{ℕ, ◌≡◌, ◌≢◌, ◌<◌, length, Bool, true, false, not, ◌||◌, if◌then◌else◌, List, [], ◌∷◌, ◌++◌, arith, refl, ap, sym, ◌∙◌, subst, append_assoc, append-nil, length-append}
use Rattle.std.specs.Prelude.{Err, IfOk, Ok, Result, string_bytes}
use Rattle.esc_actions.specs.Values.{Value}
use Rattle.esc_filter.specs.Lines.{FillsLine, GrowsBy, GrowsRest, IsLine, HasConsumedLines, added_by, body, content, ends_line, has_line_feed, is_line_feed, passed_of_line, text_by_lines_as}
use Rattle.esc_filter.specs.Openings.{IsQuiet, is_blank, opening_at, opening_left, resumed_stream, resumed_closed, resumed_from, resumed_text}
use Rattle.esc_filter.specs.Resumed.{AddsResumed, ClosesWith, EndsWith, GrowsResumed, IsMarked}
use Rattle.esc_filter.specs.declared.guard.Guard.{Guard}
use Rattle.esc_filter.specs.declared.line_filter.LineFilter.{LineFilter}
use Rattle.esc_filter.specs.declared.resuming.ResumingFilter.{ResumingFilter}
use Rattle.esc_filter.proofs.ByLine.LinesAreStreams.{adds_all, by_more, closed_longer, grows_line, grows_more, grows_not, grows_open}
use Rattle.esc_filter.proofs.ByLine.BytesOfLines.{content_is, ends_append, feeds_append, line_ends, no_end}
use Rattle.esc_filter.proofs.Renditions.RenditionsGoOn.{at_blank, at_feedless, at_text, from_ends, from_first, from_inside, from_longer, from_more, line_blank, line_first, line_inside, quiet_lines}

-- ---- bytes

true_not : {b : Bool} → b ≡ true → b ≡ false → ⊥
true_not h k = let e : true ≡ false = sym h ∙ k in cc

flip : {b : Bool} → true ≡ not b → b ≡ false
flip {b = true} e = absurd cc
flip {b = false} e = refl

flop : {b : Bool} → false ≡ not b → b ≡ true
flop {b = true} e = refl
flop {b = false} e = absurd cc

parts : (p q : Bool) → (p || q) ≡ false → (p ≡ false) × (q ≡ false)
parts true q h = absurd cc
parts false q h = (refl, h)

-- no byte
pub nil_of : (x : List ℕ) → length x ≡ 0 → x ≡ []
nil_of [] h = refl
nil_of (b ∷ x) h = absurd (omega (arith, h))

-- a line that begins with another byte than its line feed
not_blank : (r x : List ℕ) → has_line_feed r ≡ false → has_line_feed x ≡ false
    → (length r ≡ 0 → 1 < length (x ++ 0x0a ∷ [])) → is_blank (r ++ (x ++ 0x0a ∷ [])) ≡ false
not_blank [] [] h k more = let one : 1 < 1 = more refl in absurd (omega (arith, one))
not_blank [] (b ∷ x) h k more = (parts (is_line_feed b) (has_line_feed x) k).0
not_blank (b ∷ r) x h k more = (parts (is_line_feed b) (has_line_feed r) h).0

nothing_rests : (d : List ℕ) (r : List ℕ) → ends_line true d ≡ true → length r ≡ 0
    → ends_line true (d ++ r) ≡ true
nothing_rests d [] ends none = ap (ends_line true) (append-nil d) ∙ ends
nothing_rests d (b ∷ r) ends none = absurd (omega (arith, none))

-- a line with one byte, or with more
one_byte : (l : List ℕ) → IsLine l → length l ≡ 1 → l ≡ 0x0a ∷ []
one_byte l ([], none, e) h = e
one_byte l (b ∷ x, none, e) h = absurd (longer x (sym (ap length e) ∙ h))
  where
    longer : (x : List ℕ) → length (b ∷ (x ++ 0x0a ∷ [])) ≡ 1 → ⊥
    longer x h = omega (arith, h, length-append x (0x0a ∷ []))

more_bytes : (l : List ℕ) → IsLine l → length l ≢ 1 → 1 < length l
more_bytes l ([], none, e) h = absurd (h (ap length e))
more_bytes l (b ∷ x, none, e) h = subst (λ n. 1 < n) (sym (ap length e)) (longer x)
  where
    longer : (x : List ℕ) → 1 < length (b ∷ (x ++ 0x0a ∷ []))
    longer x = omega (arith, length-append x (0x0a ∷ []))

module _ {A : Type 0} (k : Bool) (u : Guard) (limit : ℕ) (admits : Value A → Bool) where
  abbrev pub From : List ℕ → List ℕ → List ℕ
  From d s = resumed_from {A = A} k u limit admits d s

  abbrev pub At : List ℕ → List ℕ
  At d = opening_at {A = A} k u limit admits d

module _ {P A : Type 0} (k : Bool) (u : Guard) (limit : ℕ) (admits : Value A → Bool) where
  -- ---- more of it

  pub resumes_more : (d b c : List ℕ) (old mid new : ResumingFilter P A)
      → (g : GrowsResumed k u admits limit d b old mid)
      → GrowsResumed k u admits limit (d ++ g.0) c mid new
      → GrowsResumed k u admits limit d (b ++ c) old new
  resumes_more d b c old mid new (x, e, (g, m)) (y, f, (h, n)) =
      let same = append_assoc d x y in (
        x ++ y,
        from_more u limit admits k d b c ∙ ap (λ z. From k u limit admits z c) e ∙ f ∙ same,
        (
          grows_more u limit admits d x y old.lines mid.lines new.lines g h,
          subst (λ z. IsMarked k u limit admits z new) same n,
        ),
      )

  -- the state of the filters after that
  pub fed_grown : (d b : List ℕ) (old new : ResumingFilter P A)
      → (g : GrowsResumed k u admits limit d b old new)
      → HasConsumedLines u limit admits (d ++ g.0) new.lines
      × IsMarked k u limit admits (d ++ g.0) new
      × (ends_line true (d ++ g.0) ≡ ends_line true (d ++ b))
  fed_grown d b old new (x, e, ((t, (w, f), a), m)) = (
    w,
    m,
    ap (ends_line true) (sym e) ∙ from_ends u limit admits k d b,
  )

  -- the text that was handed out is no part of the state that was fed
  pub marks_same : (d : List ℕ) (f h : ResumingFilter P A) → h.resumes ≡ f.resumes
      → h.is_open ≡ f.is_open → string_bytes h.opening ≡ string_bytes f.opening
      → IsMarked k u limit admits d f → IsMarked k u limit admits d h
  marks_same d f h a b c m = record {
    resumes = a ∙ m.resumes;
    begun = b ∙ m.begun;
    opening = λ e. c ∙ m.opening e;
  }

  -- no line has begun
  pub begins_now : (d : List ℕ) (f : ResumingFilter P A) → IsMarked k u limit admits d f
      → f.is_open ≡ false → ends_line true d ≡ true
  begins_now d f m was = flop (sym was ∙ m.begun)

  pub resumes_not : (d : List ℕ) (f : ResumingFilter P A)
      → HasConsumedLines u limit admits d f.lines
      → IsMarked k u limit admits d f → GrowsResumed k u admits limit d [] f f
  resumes_not d f w m = (
    [],
    sym (append-nil d),
    (
      grows_not u limit admits d f.lines w,
      subst (λ z. IsMarked k u limit admits z f) (sym (append-nil d)) m,
    ),
  )

  -- ---- lines that leave nothing on

  pub resumes_quiet : (d y : List ℕ) (old new : ResumingFilter P A)
      → IsMarked k u limit admits d old → ends_line true d ≡ true → string_bytes old.opening ≡ []
      → IsQuiet u limit admits y → GrowsBy u admits limit d y old.lines new.lines
      → new.resumes ≡ old.resumes → new.is_open ≡ old.is_open
      → string_bytes new.opening ≡ string_bytes old.opening
      → GrowsResumed k u admits limit d y old new
  resumes_quiet d y old new m ends none (ls, e, quiet) g resumes begun same =
      let now : At k u limit admits d ≡ [] = sym (m.opening ends) ∙ none in
      let (a, b, c) = quiet_lines u limit admits k d ls ends now quiet in (
        y,
        ap (From k u limit admits d) e ∙ a ∙ ap (λ z. d ++ z) (sym e),
        (
          g,
          record {
            resumes = resumes ∙ m.resumes;
            begun =
                begun ∙ m.begun ∙ ap not ends
                ∙ sym (ap not (ap (λ z. ends_line true (d ++ z)) e ∙ c));
            opening = λ _. same ∙ none ∙ sym (ap (λ z. At k u limit admits (d ++ z)) e ∙ b);
          },
        ),
      )

  -- ---- bytes without a line feed

  pub resumes_inside : (d b : List ℕ) (old new : ResumingFilter P A)
      → IsMarked k u limit admits d old → old.is_open ≡ true → has_line_feed b ≡ false
      → GrowsBy u admits limit d b old.lines new.lines → new.resumes ≡ old.resumes
      → new.is_open ≡ true → GrowsResumed k u admits limit d b old new
  resumes_inside d b old new m was none g resumes begun =
      let inside : ends_line true d ≡ false = flip (sym was ∙ m.begun) in
      let still : ends_line true (d ++ b) ≡ false =
      ends_append true d b ∙ ap (λ t. ends_line t b) inside ∙ no_end b none in (
        b,
        from_inside u limit admits k d b inside none,
        (
          g,
          record {
            resumes = resumes ∙ m.resumes;
            begun = begun ∙ sym (ap not still);
            opening = λ e. absurd (true_not e still);
          },
        ),
      )

  pub resumes_first : (d b : List ℕ) (old mid new : ResumingFilter P A)
      → IsMarked k u limit admits d old → old.is_open ≡ false → 0 < length b
      → has_line_feed b ≡ false
      → GrowsBy u admits limit d (At k u limit admits d) old.lines mid.lines
      → GrowsBy u admits limit (d ++ At k u limit admits d) b mid.lines new.lines
      → new.resumes ≡ old.resumes → new.is_open ≡ true
      → GrowsResumed k u admits limit d b old new
  resumes_first d [] old mid new m was some none g h resumes begun = absurd (omega (arith, some))
  resumes_first d (b ∷ x) old mid new m was some none g h resumes begun =
      let ends : ends_line true d ≡ true = flop (sym was ∙ m.begun) in
      let o = At k u limit admits d in
      let q = parts (is_line_feed b) (has_line_feed x) none in
      let still : ends_line true (d ++ (o ++ b ∷ x)) ≡ false =
      ends_append true d (o ++ b ∷ x) ∙ ends_append (ends_line true d) o (b ∷ x)
      ∙ ap (λ t. ends_line t x) q.0 ∙ no_end x q.1 in (
        o ++ b ∷ x,
        from_first u limit admits k d b x ends none,
        (
          grows_more u limit admits d o (b ∷ x) old.lines mid.lines new.lines g h,
          record {
            resumes = resumes ∙ m.resumes;
            begun = begun ∙ sym (ap not still);
            opening = λ e. absurd (true_not e still);
          },
        ),
      )

  -- ---- a line feed

  ended_marks : (d l : List ℕ) (old new : ResumingFilter P A) → IsMarked k u limit admits d old
      → IsLine l → new.resumes ≡ old.resumes → new.is_open ≡ false
      → string_bytes new.opening ≡ At k u limit admits (d ++ l)
      → IsMarked k u limit admits (d ++ l) new
  ended_marks d l old new m line resumes begun opened = record {
    resumes = resumes ∙ m.resumes;
    begun =
        begun ∙ sym (ap not (ends_append true d l ∙ line_ends (ends_line true d) l line));
    opening = λ _. opened;
  }

  -- the end of a line that has begun
  pub resumes_end : (d l : List ℕ) (old new : ResumingFilter P A) → IsMarked k u limit admits d old
      → old.is_open ≡ true → IsLine l → EndsWith u admits limit d l old new
      → new.resumes ≡ old.resumes → GrowsResumed k u admits limit d l old new
  resumes_end d l old new m was line (g, begun, opened) resumes =
      let inside : ends_line true d ≡ false = flip (sym was ∙ m.begun) in
      let (x, none, e) = line in (
        l,
        ap (From k u limit admits d) e ∙ line_inside u limit admits k d x inside none
            ∙ ap (λ z. d ++ z) (sym e),
        (
          g,
          ended_marks d l old new m line resumes begun
              (opened (λ h. absurd (true_not h inside))
              ∙ ap (λ j. opening_at {A = A} j u limit admits (d ++ l)) m.resumes),
        ),
      )

  -- a blank line
  pub resumes_blank : (d l : List ℕ) (old new : ResumingFilter P A)
      → IsMarked k u limit admits d old → old.is_open ≡ false → IsLine l → length l ≡ 1
      → GrowsBy u admits limit d l old.lines new.lines → new.resumes ≡ old.resumes
      → new.is_open ≡ old.is_open → string_bytes new.opening ≡ string_bytes old.opening
      → GrowsResumed k u admits limit d l old new
  resumes_blank d l old new m was line one g resumes begun same =
      let ends : ends_line true d ≡ true = flop (sym was ∙ m.begun) in
      let e = one_byte l line one in (
        l,
        ap (From k u limit admits d) e ∙ line_blank u limit admits k d ends
            ∙ ap (λ z. d ++ z) (sym e),
        (
          g,
          ended_marks d l old new m line resumes (begun ∙ was)
              (same ∙ m.opening ends ∙ sym (at_blank u limit admits k d ends)
              ∙ ap (λ z. At k u limit admits (d ++ z)) (sym e)),
        ),
      )

  -- any other line
  pub resumes_line : (d l : List ℕ) (old mid new : ResumingFilter P A)
      → IsMarked k u limit admits d old → old.is_open ≡ false → IsLine l → length l ≢ 1
      → GrowsBy u admits limit d (At k u limit admits d) old.lines mid.lines
      → mid.resumes ≡ old.resumes
      → EndsWith u admits limit (d ++ At k u limit admits d) l mid new → new.resumes ≡ mid.resumes
      → GrowsResumed k u admits limit d l old new
  resumes_line d l old mid new m was line many g kept (h, begun, opened) resumes =
      let ends : ends_line true d ≡ true = flop (sym was ∙ m.begun) in
      let o = At k u limit admits d in
      let same = append_assoc d o l in
      let long = more_bytes l line many in (
        o ++ l,
        begins line long ends,
        (
          grows_more u limit admits d o l old.lines mid.lines new.lines g h,
          record {
            resumes = resumes ∙ kept ∙ m.resumes;
            begun =
                begun ∙ sym (ap not (ap (ends_line true) (sym same) ∙ ends_append true (d ++ o) l
                ∙ line_ends (ends_line true (d ++ o)) l line));
            opening =
                λ _. opened (λ _. long)
                ∙ ap (λ j. opening_at {A = A} j u limit admits ((d ++ o) ++ l))
                (kept ∙ m.resumes) ∙ ap (At k u limit admits) same;
          },
        ),
      )
    where
      begins : IsLine l → 1 < length l → ends_line true d ≡ true
          → From k u limit admits d l ≡ d ++ (At k u limit admits d ++ l)
      begins ([], none, e) long ends =
          let one : 1 < 1 = subst (λ z. 1 < length z) e long in absurd (omega (arith, one))
      begins (b ∷ x, none, e) long ends =
          ap (From k u limit admits d) e ∙ line_first u limit admits k d b x ends none
          ∙ ap (λ z. d ++ (At k u limit admits d ++ z)) (sym e)

-- ---- the filter of lines

module _ {P A : Type 0} (u : Guard) (limit : ℕ) (admits : Value A → Bool) where
  -- the renditions that go on were fed
  pub opens_with : (k : Bool) (d : List ℕ) (old new : LineFilter P A)
      → (w : HasConsumedLines u limit admits d old)
      → GrowsRest u admits limit w.rest (opening_at {A = A} k u limit admits d) old new
      → new.has_failed ≡ old.has_failed
      → GrowsBy u admits limit d (opening_at {A = A} k u limit admits d) old new
  opens_with k d old new w g fails =
      grows_open u limit admits d old w (opening_at {A = A} k u limit admits d) new g fails
      (at_feedless u limit admits k d)

  -- the last line was filled and closed
  pub ends_with : (d l : List ℕ) (old mid new : ResumingFilter P A)
      → (w : HasConsumedLines u limit admits d old.lines) → (line : IsLine l)
      → FillsLine u admits limit w.rest line.0 old.lines mid.lines
      → mid.lines.has_failed ≡ old.lines.has_failed → mid.resumes ≡ old.resumes
      → ClosesWith u admits limit (body (w.rest ++ line.0) ++ 0x0a ∷ []) mid new
      → EndsWith u admits limit d l old new
  ends_with d l old mid new w (x, none, e) fills fails kept (ends, same, unheld, begun, opened) = (
    subst (λ b. GrowsBy u admits limit d b old.lines new.lines) (sym e)
        (grows_line u limit admits d old.lines w x mid.lines new.lines none fills fails ends same
        unheld),
    begun,
    λ more. opened ∙ ap (λ j. if j then Of (w.rest ++ x) else []) kept
        ∙ sym (last more),
  )
    where
      Of : List ℕ → List ℕ
      Of y = opening_left (passed_of_line {A = A} u limit admits (body y ++ 0x0a ∷ []))

      l2 : List ℕ
      l2 = w.rest ++ (x ++ 0x0a ∷ [])

      split : d ++ l ≡ w.ended ++ l2
      split = ap (λ z. z ++ l) w.whole ∙ append_assoc w.ended w.rest l
          ∙ ap (λ z. w.ended ++ (w.rest ++ z)) e

      is_line : IsLine l2
      is_line = (
        w.rest ++ x,
        feeds_append w.rest x w.unended none,
        sym (append_assoc w.rest x (0x0a ∷ [])),
      )

      some_byte : (ends_line true d ≡ true → 1 < length l) → length w.rest ≡ 0
          → 1 < length (x ++ 0x0a ∷ [])
      some_byte more nil = subst (λ z. 1 < length z) e
          (more (ap (ends_line true) w.whole ∙ nothing_rests w.ended w.rest w.ends nil))

      same_content : content l2 ≡ w.rest ++ x
      same_content = ap content (sym (append_assoc w.rest x (0x0a ∷ [])))
          ∙ content_is (w.rest ++ x) [] (feeds_append w.rest x w.unended none)

      last : (ends_line true d ≡ true → 1 < length l)
          → opening_at {A = A} old.resumes u limit admits (d ++ l)
          ≡ (if old.resumes then Of (w.rest ++ x) else [])
      last more =
          ap (opening_at {A = A} old.resumes u limit admits) split
          ∙ at_text u limit admits old.resumes w.ended l2 w.ends is_line
          (not_blank w.rest x w.unended none (some_byte more))
          ∙ ap (λ y. if old.resumes then Of y else []) same_content

-- ---- the texts

module _ {A : Type 0} (k : Bool) (u : Guard) (limit : ℕ) (admits : Value A → Bool) where
  -- more of a stream adds to its text
  pub resumed_more : (s b : List ℕ)
      → (t : List ℕ) × (resumed_text {A = A} k u limit admits (s ++ b)
      ≡ resumed_text {A = A} k u limit admits s ++ t)
  resumed_more s b =
      let d = resumed_stream {A = A} k u limit admits s in
      let (x, e) = from_longer u limit admits k d b in
      let (t, f) = by_more {A = A} u limit admits d x in (
        t,
        ap (text_by_lines_as {A = A} u limit admits) (from_more u limit admits k [] s b ∙ e) ∙ f,
      )

  -- and so does its end
  pub resumed_longer : (s : List ℕ)
      → (t : List ℕ) × (resumed_closed {A = A} k u limit admits s
      ≡ resumed_text {A = A} k u limit admits s ++ t)
  resumed_longer s = closed_longer u limit admits (resumed_stream {A = A} k u limit admits s)

  -- the filter was fed b too
  pub adds_resumed : {P : Type 0} (s b : List ℕ) (old new : ResumingFilter P A)
      → added_by old.lines ≡ []
      → GrowsResumed k u admits limit (resumed_stream {A = A} k u limit admits s) b old new
      → AddsResumed k u admits limit s b (added_by new.lines) new
  adds_resumed s b old new none (x, e, (g, m)) =
      let d = resumed_stream {A = A} k u limit admits s in
      let (w, f) = adds_all u limit admits d x old.lines new.lines none g in
      let same : resumed_stream {A = A} k u limit admits (s ++ b) ≡ d ++ x =
      from_more u limit admits k [] s b ∙ e in (
        record {
          fed = subst (λ z. HasConsumedLines u limit admits z new.lines) (sym same) w;
          marks = subst (λ z. IsMarked k u limit admits z new) (sym same) m;
        },
        ap (text_by_lines_as {A = A} u limit admits) same ∙ f,
      )

-- ---- results

pub ok_each : {T E : Type 0} (X Y Z : T → Type 0) (r : Result T E) → ((t : T) → X t → Y t → Z t)
    → IfOk r X → IfOk r Y → IfOk r Z
ok_each X Y Z (Ok x) f h k = f x h k
ok_each X Y Z (Err e) f h k = tt
