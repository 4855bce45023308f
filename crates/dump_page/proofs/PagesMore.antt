-- Pages that grow by a part.
use Rattle.std.proofs.Common.{ℕ, ◌≡◌, true, List, [], ◌∷◌, ◌++◌, refl, ap, sym, subst, ◌∙◌, append-nil, append_assoc}
use Rattle.std.specs.Prelude.{Result, Ok, Err, OnOk, OnErr, Option, Some, None}
use Rattle.std.specs.List.{flat_map}
use Rattle.std.specs.Io.KnownBytes.{Appends, Keeps}
use Rattle.std.proofs.lemmas.List.Folds.{list_all-append}
use Rattle.std.proofs.lemmas.Grind.{flat_map-append}
use Rattle.std.proofs.Math.Logic.{∥∥₁_map, ∥∥₁_elim, ∥∥₁_prop}
use Rattle.std.specs.Option.{is_some}
use Rattle.dump_page.specs.Pages.{PagePart, IsPage, IsPagePart, AppendsPage, is_fit, page_part_text}
use Rattle.dump_page.specs.Pages.PagePart.{Quoted}
use Rattle.dump_page.specs.Quoted.{AddsQuote, IsQuote, is_quoted, unquoted_bytes}
use Rattle.dump_page.specs.Quoted.Reader.{InText}

page_page_part : (s : List ℕ) (p : PagePart) → is_fit p ≡ true → IsPage s
    → IsPage (s ++ page_part_text p)
page_page_part s p fit (ps, all, e) = (
  ps ++ p ∷ [],
  rw (list_all-append is_fit ps (p ∷ []), all, fit) refl,
  flat_map-append page_part_text ps (p ∷ []) ∙ ap (λ t. t ++ (page_part_text p ++ [])) e
      ∙ ap (λ t. s ++ t) (append-nil (page_part_text p)),
)

pub no_page : ∥ IsPage [] ∥₁
no_page = ∣ ([], refl, refl) ∣₁

-- the text t after a push of a part to the text s, that may be refused
pub page_push : {U E : Type 0} (r : Result U E) (s t : List ℕ) (p : PagePart) → is_fit p ≡ true
    → ∥ IsPage s ∥₁ → OnOk r (t ≡ s ++ page_part_text p) → OnErr r (t ≡ s)
    → ∥ IsPage t ∥₁
page_push (Ok u) s t p fit h ok err =
    subst (λ x. ∥ IsPage x ∥₁) (sym ok) (∥∥₁_map h (page_page_part s p fit))
page_push (Err e) s t p fit h ok err = subst (λ x. ∥ IsPage x ∥₁) (sym err) h

-- the same for a change of the colour or the end of a line
pub page_grow : {U E : Type 0} (r : Result U E) (s t u : List ℕ) → IsPagePart u → ∥ IsPage s ∥₁
    → OnOk r (t ≡ s ++ u) → OnErr r (t ≡ s) → ∥ IsPage t ∥₁
page_grow r s t u (p, fit, e) h ok err =
    page_push r s t p fit h (subst (λ x. OnOk r (t ≡ s ++ x)) (sym e) ok) err

-- pages one after another
page_append : (s t : List ℕ) → IsPage s → IsPage t → IsPage (s ++ t)
page_append s t (ps, all, e) (qs, more, f) = (
  ps ++ qs,
  rw (list_all-append is_fit ps qs, all, more) refl,
  flat_map-append page_part_text ps qs ∙ ap (λ x. x ++ flat_map page_part_text qs) e
      ∙ ap (λ x. s ++ x) f,
)

-- a quoted text, between quotes
page_quote : (s q : List ℕ) → IsPage s → IsQuote q → IsPage (s ++ 0x22 ∷ (q ++ 0x22 ∷ []))
page_quote s q h (bytes, k) =
    let reads : is_quoted k.added ≡ true =
    ap is_some (ap (unquoted_bytes InText) (sym (append-nil k.added)) ∙ k.reads []) in
    let text : page_part_text (Quoted k.added) ≡ 0x22 ∷ (q ++ 0x22 ∷ []) =
    ap (λ x. 0x22 ∷ (x ++ 0x22 ∷ [])) (sym k.appends) in
    subst (λ x. IsPage (s ++ x)) text
    (page_page_part s (Quoted k.added) (rw (k.shown, reads) refl) h)

pub page_quoted : (s t q : List ℕ) → ∥ IsPage s ∥₁ → ∥ IsQuote q ∥₁
    → t ≡ s ++ 0x22 ∷ (q ++ 0x22 ∷ []) → ∥ IsPage t ∥₁
page_quoted s t q h k e = subst (λ x. ∥ IsPage x ∥₁) (sym e)
    (∥∥₁_elim h ∥∥₁_prop (λ x. ∥∥₁_map k (page_quote s q x)))

-- the same for a text that is added between quotes
pub page_added : (s t : List ℕ) → ∥ IsPage s ∥₁ → AddsQuote s t → ∥ IsPage t ∥₁
page_added s t h (q, k, e) = page_quoted s t q h ∣ k ∣₁ e

-- the words of a phrase, that may be refused
pub page_more : {U E : Type 0} (r : Result U E) (s t u : List ℕ) → ∥ IsPage u ∥₁ → ∥ IsPage s ∥₁
    → OnOk r (t ≡ s ++ u) → OnErr r (t ≡ s) → ∥ IsPage t ∥₁
page_more (Ok v) s t u k h ok err = subst (λ x. ∥ IsPage x ∥₁) (sym ok)
    (∥∥₁_elim h ∥∥₁_prop (λ x. ∥∥₁_map k (page_append s u x)))
page_more (Err e) s t u k h ok err = subst (λ x. ∥ IsPage x ∥₁) (sym err) h

appends_more : (a b c : Option (List ℕ)) (s t : List ℕ) → Appends a b s → Appends b c t
    → Appends a c (s ++ t)
appends_more None b c s t h k = tt
appends_more (Some xs) None c s t h k = absurd h
appends_more (Some xs) (Some ys) None s t h k = absurd k
appends_more (Some xs) (Some ys) (Some zs) s t h k = k ∙ ap (λ x. x ++ t) h ∙ append_assoc xs s t

appends_none : (a : Option (List ℕ)) → Appends a a []
appends_none None = tt
appends_none (Some xs) = sym (append-nil xs)

appends_kept : (a b c : Option (List ℕ)) (t : List ℕ) → Appends a b t → Keeps b c → Appends a c t
appends_kept None b c t h k = tt
appends_kept (Some xs) None c t h k = absurd h
appends_kept (Some xs) (Some ys) None t h k = absurd k
appends_kept (Some xs) (Some ys) (Some zs) t h k = k ∙ h

pub no_pages : (a : Option (List ℕ)) → AppendsPage a a
no_pages a = record { text = []; safe = no_page; appends = appends_none a }

pub pages_more : (a b c : Option (List ℕ)) → AppendsPage a b → AppendsPage b c → AppendsPage a c
pages_more a b c h k = record {
  text = h.text ++ k.text;
  safe = ∥∥₁_elim h.safe ∥∥₁_prop (λ x. ∥∥₁_map k.safe (λ y. page_append h.text k.text x y));
  appends = appends_more a b c h.text k.text h.appends k.appends;
}

pub page_printed : (a b c : Option (List ℕ)) (t : List ℕ) → ∥ IsPage t ∥₁ → Appends a b t
    → Keeps b c → AppendsPage a c
page_printed a b c t safe h k = record { text = t; safe = safe; appends = appends_kept a b c t h k }

-- a last page, that may be refused
pub pages_on : {U E : Type 0} (r : Result U E) (a b c : Option (List ℕ)) → AppendsPage a b
    → OnOk r (AppendsPage b c) → OnOk r (AppendsPage a c)
pages_on (Ok u) a b c h k = pages_more a b c h k
pages_on (Err e) a b c h k = tt
