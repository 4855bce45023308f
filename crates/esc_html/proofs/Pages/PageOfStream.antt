-- The page of a stream, with the tags that close it.
use Rattle.std.proofs.Common.{ℕ, ◌≡◌, true, List, [], ◌++◌, Option, refl, ap, sym, subst, ◌∙◌}
use Rattle.std.specs.List.{All, list_all}
use Rattle.std.proofs.lemmas.Bool.{and_parts}
use Rattle.std.proofs.lemmas.Grind.{flat_map-append}
use Rattle.esc_actions.specs.Meaning.{meaning_within}
use Rattle.esc_actions.specs.Writable.{EmittedAreWritable}
use Rattle.esc_html.specs.Addresses.{is_safe_address}
use Rattle.esc_html.specs.Listed.{IsListed, closes, is_safe_page_part}
use Rattle.esc_html.specs.Pages.{closing_parts, closing_text, first_state, page_text, page_parts_of, state_of_stream}
use Rattle.esc_html.specs.PageParts.{is_kept_page_part, is_unbroken, page_part_text}
use Rattle.esc_html.specs.Shown.{IsPage, shown_characters}
use Rattle.esc_html.specs.Tokens.{tokens}
use Rattle.esc_html.specs.declared.layout.Layout.{Layout}
use Rattle.esc_html.proofs.Lengths.PageIsBounded.{page_bounded}
use Rattle.esc_html.proofs.Parts.PartsAreSafe.{page_passes, unbroken_kept}
use Rattle.esc_html.proofs.Parts.PartsNestAndClose.{pages_nest, pages_show}
use Rattle.esc_html.proofs.Texts.PartsReadAsTokens.{page_parts_read_back}
use Rattle.esc_html.proofs.Texts.TokensAreListed.{page_parts_are_listed, page_parts_close}

pub page_is : {A : Type 0} (limit : Option ℕ) (y : Layout) (s : List ℕ)
    → EmittedAreWritable {A = A} (meaning_within limit s)
    → IsPage A limit y s (page_text A limit y s ++ closing_text A limit y s)
page_is {A} limit y s h =
    let vs = meaning_within {A = A} limit s in
    let first = first_state y.inline in
    let last = closing_parts (state_of_stream A limit y s) in
    let ps = page_parts_of A limit y s ++ last in
    let same = flat_map-append page_part_text (page_parts_of A limit y s) last in
    let kept = page_passes is_kept_page_part (λ b l. refl) refl refl (λ t k. k)
    (λ a k. unbroken_kept a (and_parts (is_safe_address a) (list_all is_unbroken a) k).1)
    y.per_line first vs tt h in
    let safe = page_passes is_safe_page_part (λ b l. refl) refl refl (λ t k. refl)
    (λ a k. (and_parts (is_safe_address a) (list_all is_unbroken a) k).0) y.per_line first vs tt h
    in
    record {
      text = refl;
      listed = subst (λ x. All IsListed (tokens x)) same (page_parts_are_listed ps kept safe);
      closes = subst (λ x. closes [] (tokens x) ≡ true) same
          (page_parts_close ps kept (pages_nest y.per_line first vs));
      shows = sym (ap (λ x. shown_characters [] (tokens x)) same)
          ∙ ap (shown_characters []) (page_parts_read_back ps kept)
          ∙ pages_show y.per_line first vs;
      bounded = page_bounded A limit y s;
    }
