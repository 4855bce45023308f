-- The final lines of a stream, as HTML.
use Rattle.std.proofs.Common.{ℕ, ◌≡◌, false, List, [], ◌++◌, Option, Result, Some, ap, refl, subst, sym, ◌∙◌, append_assoc}
use Rattle.esc_actions.specs.Texts.{list_text, texts_after}
use Rattle.esc_filter.proofs.Output.NothingWasFed.{nothing}
use Rattle.esc_filter.proofs.GivingBack.GivingBackIsWritable.{closed_more}
use Rattle.esc_filter.proofs.Output.TextsGrow.{added_as, text_longer_as}
use Rattle.esc_filter.specs.Closing.{closing}
use Rattle.esc_filter.specs.Passing.{passed_values, passed_as}
use Rattle.esc_filter.specs.Rules.{admits}
use Rattle.esc_normal.specs.Texts.{ends_in_string}
use Rattle.esc_filter.specs.declared.policy.Policy.TheVariants.{Screen}
use Rattle.esc_filter.specs.Characters.{keep_all}
use Rattle.esc_html.specs.Pages.{closing_text, page_text}
use Rattle.esc_html.specs.declared.layout.Layout.{Layout}
use Rattle.line_collapse.proofs.Streams.{final_after_longer, final_after_nil, left_after_more}
use Rattle.line_collapse.specs.Fed.{final_after, left_after}
use Rattle.line_collapse.specs.Windows.{Size}
use Rattle.esc_decode.specs.Decodings.{OnlyAdds}
use Rattle.eschtml.specs.Piped.{composition}
use Rattle.eschtml.specs.Written.{IsHtmlWith, html_with, page_of, screen_text, whole_screen}
use Rattle.eschtml.specs.declared.options.Options.{Options}
use Rattle.std.specs.declared.io.traits.Read.{Ghosts as Reader}
use Rattle.std.specs.declared.io.traits.Write.{Ghosts as Writer}
use Rattle.esc_normal.specs.Io.{Borrowed}
use Rattle.esc_normal.specs.Streams.{Filters}
use Rattle.esc_normal.specs.declared.filter_error.FilterError.{FilterError}
use Rattle.eschtml.proofs.Longer.{page_longer, page_of_nothing, text_more}

-- a page only grows
pub pages_add : (A : Type 0) (limit : ℕ) (y : Layout)
    → OnlyAdds (page_text A (Some limit) y) (page_of A limit y)
pages_add A limit y = record {
  more = λ s b. (text_more A (Some limit) y s b, page_longer A (Some limit) y s b);
  end = λ s. (closing_text A (Some limit) y s, refl);
}

-- the actions that change the screen have no text if there are none, and it only grows
pub no_screen : (A : Type 0) (limit : ℕ) → screen_text A limit [] ≡ []
no_screen A limit = nothing {A = A} keep_all limit (admits Screen)

screen_more : (A : Type 0) (limit : ℕ) (s b : List ℕ)
    → (t : List ℕ) × (screen_text A limit (s ++ b) ≡ screen_text A limit s ++ t)
screen_more A limit s b = (
  texts_after (ends_in_string false (passed_as {A = A} keep_all (Some limit) (admits Screen) s))
      (added_as keep_all (Some limit) (admits Screen) s b),
  text_longer_as keep_all (Some limit) (admits Screen) s b,
)

screen_longer : (A : Type 0) (limit : ℕ) (s : List ℕ)
    → (t : List ℕ) × (whole_screen A limit s ≡ screen_text A limit s ++ t)
screen_longer A limit s =
    let vs = passed_values {A = A} (Some limit) (admits Screen) s in
    (list_text (closing (admits Screen) vs), closed_more (admits Screen) vs)

-- the same for the HTML of its final lines
module _ (A : Type 0) (limit : ℕ) (y : Layout) (z : Size) where
  pub no_html : composition (page_text A (Some limit) y) (final_after A z (screen_text A limit)) []
      ≡ []
  no_html = ap (page_text A (Some limit) y)
      (final_after_nil A z (screen_text A limit) (no_screen A limit))
      ∙ page_of_nothing A (Some limit) y

  html_more : (s b : List ℕ)
      → (t : List ℕ)
      × (composition (page_text A (Some limit) y) (final_after A z (screen_text A limit)) (s ++ b)
      ≡ composition (page_text A (Some limit) y) (final_after A z (screen_text A limit)) s ++ t)
  html_more s b =
      let m = screen_text A limit in
      let (a, e) = final_after_longer A z m (final_after A z m) s b refl (screen_more A limit s b)
      in (
        text_more A (Some limit) y (final_after A z m s) a,
        ap (page_text A (Some limit) y) e
            ∙ page_longer A (Some limit) y (final_after A z m s) a,
      )

  html_longer : (s : List ℕ)
      → (t : List ℕ)
      × (composition (page_of A limit y) (left_after A z (whole_screen A limit)) s
      ≡ composition (page_text A (Some limit) y) (final_after A z (screen_text A limit)) s ++ t)
  html_longer s =
      let (a, e) = left_after_more A z (screen_text A limit) (whole_screen A limit)
      (screen_longer A limit) s in
      let f = final_after A z (screen_text A limit) s in
      let t = text_more A (Some limit) y f a in
      let u = closing_text A (Some limit) y (f ++ a) in (
        t ++ u,
        ap (page_of A limit y) e
            ∙ ap (λ x. x ++ u) (page_longer A (Some limit) y f a)
            ∙ append_assoc (page_text A (Some limit) y f) t u,
      )

  pub html_adds : OnlyAdds (composition (page_text A (Some limit) y)
      (final_after A z (screen_text A limit)))
      (composition (page_of A limit y) (left_after A z (whole_screen A limit)))
  html_adds = record { more = html_more; end = html_longer }

-- if these rows may be written again
pub by_rows : {R W X : Type 0} {Rd : Reader R} {Wr : Writer W} (A : Type 0) (o : Options)
    (r q : Option ℕ) (result : Result X FilterError) (reader : Borrowed R) (writer : Borrowed W)
    → r ≡ q → Filters Rd Wr (html_with A o q) (IsHtmlWith A o q) result reader writer
    → Filters Rd Wr (html_with A o r) (IsHtmlWith A o r) result reader writer
by_rows {Rd} {Wr} A o r q result reader writer is f =
    subst (λ k. Filters Rd Wr (html_with A o k) (IsHtmlWith A o k) result reader writer) (sym is) f
