-- A filter with its auditor, and what is left of the lines of its text.
use Rattle.std.proofs.Common.{ℕ, ◌≡◌, List, [], ◌++◌, refl, sym, ap, ◌∙◌, subst}
use Rattle.esc_account.specs.Ways.{Way}
use Rattle.esc_account.specs.declared.book.Book.{Ghosts as Writer}
use Rattle.esc_decode.specs.Decodings.{decoded_stream}
use Rattle.esc_decode.specs.declared.encoding.Encoding.{Encoding}
use Rattle.esc_filter.specs.declared.admit.Admit.{Ghosts as Admitter}
use Rattle.esc_normal.specs.declared.feeding.StreamFilter.{Ghosts as Feeder}
use Rattle.esc_sanitize.proofs.Following.{passed_longer, passing_longer}
use Rattle.esc_sanitize.proofs.Texts.{rows_end, rows_longer, rows_none}
use Rattle.esc_sanitize.specs.Audits.{HasNoted, HeardAll, way_by}
use Rattle.esc_sanitize.specs.Hearings.{Follows, HasHeard, heard_added}
use Rattle.esc_sanitize.specs.Overwritten.{lost_in, lost_of_stream}
use Rattle.esc_sanitize.specs.Rows.{HasLeft, left_added, left_lost}
use Rattle.esc_sanitize.specs.Stages.{Gives, HasFinished, HasListened, IsRun, Runs, auditor_of, options_of, staged_added}
use Rattle.esc_sanitize.specs.Written.{final_text, going_of, left_text, passed_of, passing_of, text_of}
use Rattle.esc_sanitize.specs.declared.hearing.Hearing.{Hearing}
use Rattle.esc_sanitize.specs.declared.left.Left.{Left}
use Rattle.esc_sanitize.specs.declared.options.FilterOptions.{FilterOptions}
use Rattle.esc_sanitize.specs.declared.staged.Staged.{Staged}

-- ---- one call

module _ {F P B A : Type 0} (G : Feeder F A) (V : Admitter P A) (W : Writer B A)
    (o : FilterOptions P) (s : List ℕ) where
  -- bytes more, of which t passed
  pub runs_more : (k : Hearing F P B A) (n : Left A) (b t : List ℕ) → k.options ≡ o
      → Follows G V W k (s ++ b) → passing_of V o (s ++ b) ≡ passing_of V o s ++ t
      → HasLeft o.window (passing_of V o s ++ t) n
      → final_text A o.window (passing_of V o s ++ t)
      ≡ final_text A o.window (passing_of V o s) ++ left_added n t
      → Runs G V W (record { hearing = k; left = n }) (s ++ b)
      × (going_of V o (s ++ b) ≡ going_of V o s ++ left_added n t)
  runs_more k n b t same follows more held added = (
    (
      follows,
      subst (λ q. HasLeft q.window (passing_of V q (s ++ b)) n) (sym same)
          (subst (λ u. HasLeft o.window u n) (sym more) held),
    ),
    ap (final_text A o.window) more ∙ added,
  )

  -- the end, of which t passed
  pub runs_end : (n : Left A) (t : List ℕ) → passed_of V o s ≡ passing_of V o s ++ t
      → left_text A o.window (passing_of V o s ++ t)
      ≡ final_text A o.window (passing_of V o s) ++ left_added n t
      → text_of V o s ≡ going_of V o s ++ left_added n t
  runs_end n t more added = ap (left_text A o.window) more ∙ added

-- the end, of which x passed, and of all of which so much is lost
pub finishes : {F P B A : Type 0} (G : Feeder F A) (V : Admitter P A) (W : Writer B A)
    (o : FilterOptions P) (s : List ℕ) (k j : Hearing F P B A) (n : Left A) (x : List ℕ) (count : ℕ)
    → x ≡ heard_added G k → count ≡ left_lost n → j.options ≡ k.options → k.options ≡ o
    → j.decoding ≡ k.decoding → HasHeard V W k s
    → passed_of V o s ≡ passing_of V o s ++ heard_added G k
    → left_text A o.window (passing_of V o s ++ x)
    ≡ final_text A o.window (passing_of V o s) ++ left_added n x
    → left_lost n ≡ lost_in A o.window (passing_of V o s ++ x)
    → (HasHeard V W k s → HasHeard V W j s) → HasNoted count j.auditor
    → HasFinished V W (record { hearing = j; left = n }) s
    × (text_of V o s ≡ going_of V o s ++ staged_added G (record { hearing = j; left = n }))
finishes {A = A} G V W o s k j n x count is lost same old decodes heard more added missing hears
    noted =
    let t = heard_added G k in
    let u = passing_of V o s in
    let so : count ≡ lost_of_stream V o s =
    lost ∙ missing ∙ ap (λ y. lost_in A o.window (u ++ y)) is
    ∙ ap (lost_in A o.window) (sym more) in
    let there : left_text A o.window (u ++ t) ≡ final_text A o.window u ++ left_added n t =
    subst (λ y. left_text A o.window (u ++ y) ≡ final_text A o.window u ++ left_added n y) is
    added in (
      (
        hears heard,
        subst (λ q. HasNoted (lost_of_stream V q s) j.auditor) (sym (same ∙ old))
            (subst (λ i. HasNoted i j.auditor) so noted),
      ),
      runs_end G V W o s n t more there
          ∙ ap (λ d. going_of V o s ++ left_added n (G.added d.filter)) (sym decodes),
    )

-- ---- as what takes a stream in chunks

-- the text that it gives by its options
pub runs_by : {F P B A : Type 0} (G : Feeder F A) (V : Admitter P A) (W : Writer B A)
    (k : Staged F P B A) (m c : List ℕ → List ℕ) (s : List ℕ) → Gives G V W k m c s
    → IsRun G V W (options_of k).encoding (way_by V (options_of k)) (passed_of V (options_of k))
    (lost_of_stream V (options_of k)) k m c s
runs_by G V W k m c s (runs, goes_on, ends) = record {
  runs = runs;
  goes_on = goes_on;
  ends = ends;
  coding = refl;
  way = refl;
  passed = λ x. refl;
  losing = λ x. refl;
}

module _ {F P B A : Type 0} (G : Feeder F A) (V : Admitter P A) (W : Writer B A)
    (e : Encoding) (w : Way) (text m c : List ℕ → List ℕ) (lost : List ℕ → ℕ)
    (k : Staged F P B A) (s : List ℕ) (h : IsRun G V W e w text lost k m c s) where
  -- bytes more added t
  pub run_more : (n : Staged F P B A) (b t : List ℕ) → options_of n ≡ options_of k
      → Runs G V W n (s ++ b)
      → going_of V (options_of k) (s ++ b) ≡ going_of V (options_of k) s ++ t
      → IsRun G V W e w text lost n m c (s ++ b) × (m (s ++ b) ≡ m s ++ t)
  run_more n b t same runs added = (
    record {
      runs = runs;
      goes_on = λ x. h.goes_on x ∙ ap (λ o. going_of V o x) (sym same);
      ends = λ x. h.ends x ∙ ap (λ o. text_of V o x) (sym same);
      coding = ap (λ o. o.encoding) same ∙ h.coding;
      way = ap (way_by V) same ∙ h.way;
      passed = λ x. ap (λ o. passed_of V o x) same ∙ h.passed x;
      losing = λ x. ap (λ o. lost_of_stream V o x) same ∙ h.losing x;
    },
    h.goes_on (s ++ b) ∙ added ∙ ap (λ y. y ++ t) (sym (h.goes_on s)),
  )

  -- the end added t
  pub run_end : (t : List ℕ) → text_of V (options_of k) s ≡ going_of V (options_of k) s ++ t
      → c s ≡ m s ++ t
  run_end t added = h.ends s ∙ added ∙ ap (λ y. y ++ t) (sym (h.goes_on s))

  -- and the auditor heard all of it
  pub run_heard : (n : Staged F P B A) → options_of n ≡ options_of k
      → HasFinished V W n s → HasListened V W e w text lost (auditor_of n) s
  run_heard n same heard = (
    subst (λ j. HeardAll V W (auditor_of n) (decoded_stream j s) (text s))
        (ap (λ o. o.encoding) same ∙ h.coding)
        (subst (HeardAll V W (auditor_of n) (decoded_stream (options_of n).encoding s))
        (ap (λ o. passed_of V o s) same ∙ h.passed s) heard.0.0),
    heard.0.1 ∙ ap (way_by V) same ∙ h.way,
    subst (λ i. HasNoted i (auditor_of n)) (ap (λ o. lost_of_stream V o s) same ∙ h.losing s)
        heard.1,
  )

  -- more of the stream only adds, and so does the end of any
  pub run_longer : (b : List ℕ) → (t : List ℕ) × (m (s ++ b) ≡ m s ++ t)
  run_longer b =
      let j = k.hearing in
      let o = options_of k in
      let (x, f) = passing_longer G V W o j.decoding j.auditor s h.runs.0 b in
      let (t, g) = rows_longer A o.window (passing_of V o s) x in (
        t,
        h.goes_on (s ++ b) ∙ ap (final_text A o.window) f ∙ g
            ∙ ap (λ y. y ++ t) (sym (h.goes_on s)),
      )

  pub run_closed : (z : List ℕ) → (t : List ℕ) × (c z ≡ m z ++ t)
  run_closed z =
      let j = k.hearing in
      let o = options_of k in
      let (x, f) = passed_longer G V W o j.decoding j.auditor s h.runs.0 z in
      let (t, g) = rows_end A o.window (passing_of V o z) x in (
        t,
        h.ends z ∙ ap (left_text A o.window) f ∙ g ∙ ap (λ y. y ++ t) (sym (h.goes_on z)),
      )

  -- nothing has no text
  pub run_none : m [] ≡ []
  run_none =
      let o = options_of k in
      h.goes_on [] ∙ ap (final_text A o.window) h.runs.0.empty ∙ rows_none A o.window
