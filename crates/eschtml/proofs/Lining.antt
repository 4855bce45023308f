-- The text of a page with its lines in elements.
use Rattle.std.proofs.Common.{ℕ, ◌≡◌, true, false, List, [], ◌++◌, Option, None, Some, Result, Ok, Err, OnErr, OnOk, refl, ap, sym, ◌∙◌, append_assoc}
use Rattle.esc_decode.specs.Decodings.{OnlyAdds}
use Rattle.esc_html.proofs.Lines.LinedPartByPart.{lined_more}
use Rattle.esc_html.specs.LinedPages.{IsLinedPage}
use Rattle.esc_html.specs.Lines.{end_if, in_lines, lined_page, number_after, open_after}
use Rattle.esc_html.specs.Lining.{EndsLines, TakesLines, added_in}
use Rattle.esc_html.specs.Pages.{closing_text, page_text}
use Rattle.esc_html.specs.Shown.{IsPage}
use Rattle.esc_html.specs.declared.layout.Layout.{Layout}
use Rattle.esc_html.specs.declared.line_writer.LineWriter.{LineWriter}
use Rattle.esc_normal.specs.declared.feeding.StreamFilter.{Ghosts as Feeder}
use Rattle.eschtml.specs.Lined.{FeedsLines, ended_in, going_in}
use Rattle.eschtml.specs.Written.{IsHtml, IsPageBy, ended_by, going_by, html_of, layout_by, page_of}
use Rattle.eschtml.specs.declared.lined.Lined.{Lined}
use Rattle.eschtml.specs.declared.options.Options.{Options}

-- ---- more of a stream

-- the text that a text adds after another
abbrev more_lines : ℕ → List ℕ → List ℕ → List ℕ
more_lines n s t = lined_page (number_after n s) (open_after false s) t

abbrev last_lines : ℕ → List ℕ → List ℕ → List ℕ
last_lines n s t = more_lines n s t ++ end_if (open_after false (s ++ t))

ended_more : (n : ℕ) (s t : List ℕ)
    → in_lines n (s ++ t) ≡ lined_page n false s ++ last_lines n s t
ended_more n s t =
    ap (λ x. x ++ end_if (open_after false (s ++ t))) (lined_more n false s t)
    ∙ append_assoc (lined_page n false s) (more_lines n s t) (end_if (open_after false (s ++ t)))

pub lines_add : (n : ℕ) (m c : List ℕ → List ℕ) → OnlyAdds m c
    → OnlyAdds (going_in n m) (ended_in n c)
lines_add n m c only = record {
  more = λ s b.
      let (t, e) = only.more s b in
      (more_lines n (m s) t, ap (lined_page n false) e ∙ lined_more n false (m s) t);
  end = λ s.
      let (t, e) = only.end s in
      (last_lines n (m s) t, ap (in_lines n) e ∙ ended_more n (m s) t);
}

-- ---- a filter and its lines

module _ {F A : Type 0} (V : Feeder F A) (f : Lined F A) (m c : List ℕ → List ℕ) (s : List ℕ)
    (h : FeedsLines V f m c s) where
  goes_on : (x : List ℕ) → m x ≡ lined_page h.first false (h.inner x)
  goes_on x = ap (λ k. k x) h.goes_on

  ended : (x : List ℕ) → c x ≡ in_lines h.first (h.inner_end x)
  ended x = ap (λ k. k x) h.ended

  pub lines_longer : (b : List ℕ) → (t : List ℕ) × (m (s ++ b) ≡ m s ++ t)
  lines_longer b =
      let (t, e) = (lines_add h.first h.inner h.inner_end h.adds).more s b in
      (t, goes_on (s ++ b) ∙ e ∙ ap (λ x. x ++ t) (sym (goes_on s)))

  pub end_longer : (t : List ℕ) × (c s ≡ m s ++ t)
  end_longer =
      let (t, e) = (lines_add h.first h.inner h.inner_end h.adds).end s in
      (t, ended s ∙ e ∙ ap (λ x. x ++ t) (sym (goes_on s)))

  -- if the filter adds x, and the lines have taken that
  pub lines_fed : (b x : List ℕ) (g : F) (w : LineWriter A) (z : Lined F A)
      → z ≡ record { filter = g; lines = w } → V.gives g h.inner h.inner_end (s ++ b)
      → h.inner (s ++ b) ≡ h.inner s ++ x → TakesLines h.first (h.inner s) x w
      → FeedsLines V z m c (s ++ b) × (m (s ++ b) ≡ m s ++ added_in w)
  lines_fed b x g w z is given more (lines, text) = (
    rw is (record {
      inner = h.inner;
      inner_end = h.inner_end;
      first = h.first;
      adds = h.adds;
      given = given;
      lines = rw more lines;
      goes_on = h.goes_on;
      ended = h.ended;
    }),
    goes_on (s ++ b) ∙ ap (lined_page h.first false) more ∙ text
        ∙ ap (λ y. y ++ added_in w) (sym (goes_on s)),
  )

  pub lines_ended : (x : List ℕ) (w : LineWriter A) → h.inner_end s ≡ h.inner s ++ x
      → EndsLines h.first (h.inner s) x w → c s ≡ m s ++ added_in w
  lines_ended x w more text =
      ended s ∙ ap (in_lines h.first) more ∙ text
      ∙ ap (λ y. y ++ added_in w) (sym (goes_on s))

pub on_ok_then : {X E : Type 0} (P Q : Type 0) (r : Result X E) → (P → Q) → OnOk r P → OnOk r Q
on_ok_then P Q (Ok x) f p = f p
on_ok_then P Q (Err e) f p = tt

pub on_err_always : {X E : Type 0} (P : Type 0) (r : Result X E) → P → OnErr r P
on_err_always P (Ok x) p = tt
on_err_always P (Err e) p = p

-- ---- pages

pub going_nothing : (r : Option ℕ) → going_by r [] ≡ []
going_nothing None = refl
going_nothing (Some n) = refl

page_by : (A : Type 0) (limit : ℕ) (y : Layout) (r : Option ℕ)
    → ((l : Option ℕ) (z : Layout) (s : List ℕ)
    → IsPage A l z s (page_text A l z s ++ closing_text A l z s))
    → ((l : Option ℕ) (n : ℕ) (z : Layout) (s : List ℕ) → z.per_line ≡ true
    → IsLinedPage A l n z s (in_lines n (page_text A l z s ++ closing_text A l z s)))
    → (s : List ℕ)
    → IsPageBy A r limit (layout_by r y) s (ended_by r (page_of A limit (layout_by r y) s))
page_by A limit y None plain lines s = plain (Some limit) y s
page_by A limit y (Some n) plain lines s =
    lines (Some limit) n (record y { per_line = true }) s refl

pub html_is : (A : Type 0) (o : Options)
    → ((l : Option ℕ) (z : Layout) (s : List ℕ)
    → IsPage A l z s (page_text A l z s ++ closing_text A l z s))
    → ((l : Option ℕ) (n : ℕ) (z : Layout) (s : List ℕ) → z.per_line ≡ true
    → IsLinedPage A l n z s (in_lines n (page_text A l z s ++ closing_text A l z s)))
    → (s : List ℕ) → IsHtml A o true s (html_of A o s)
html_is A o plain lines s = page_by A o.limit o.layout o.first plain lines s
