-- Attributes that are written part by part are written whole.
use Rattle.std.proofs.Common.{ℕ, zero, suc, ◌≡◌, ◌<◌, ◌+◌, ◌&&◌, Bool, List, [], ◌∷◌, ◌++◌, codes, length, take, get_or, Option, Some, None, is_none, refl, ap, sym, ◌∙◌, append_assoc, arith}
use Rattle.std.proofs.lemmas.Grind.{flat_map-append}
use Rattle.std.proofs.lemmas.List.{append-nil}
use Rattle.esc_html.specs.Attributes.{begun_classes, begun_styles, is_empty, next_class, next_style}
use Rattle.esc_html.specs.Names.{more_span_names, span_name}
use Rattle.esc_style.specs.Looks.{values_of}
use Rattle.esc_html.specs.PageParts.{attribute_text, attributes_text}
use Rattle.esc_style.specs.Styles.{style_text, styles_text}
use Rattle.esc_style.specs.declared.class.Class.{Class}
use Rattle.esc_style.specs.declared.style.Style.{Style}

-- ---- the present members of a longer list

abbrev one : {X : Type 0} → Option X → List X
one None = []
one (Some x) = x ∷ []

put_first : {X : Type 0} (o : Option X) (xs : List (Option X))
    → values_of (o ∷ xs) ≡ one o ++ values_of xs
put_first None xs = refl
put_first (Some x) xs = refl

more : (n : ℕ) → suc n + 1 ≡ suc (n + 1)
more n = omega arith

present_next : {X : Type 0} (xs : List (Option X)) (i : ℕ) (d : Option X) → i < length xs
    → values_of (take (i + 1) xs) ≡ values_of (take i xs) ++ one (get_or xs i d)
present_next [] i d l = absurd (omega (arith, l))
present_next (x ∷ xs) zero d l = put_first x [] ∙ append-nil (one x)
present_next (x ∷ xs) (suc i) d l =
    ap (λ k. values_of (take k (x ∷ xs))) (more i) ∙ put_first x (take (i + 1) xs)
    ∙ ap (λ y. one x ++ y) (present_next xs i d (omega (arith, l)))
    ∙ sym (append_assoc (one x) (values_of (take i xs)) (one (get_or xs i d)))
    ∙ ap (λ y. y ++ one (get_or xs i d)) (sym (put_first x (take i xs)))

absent_next : {X : Type 0} (ps : List X) (o : Option X)
    → is_empty (ps ++ one o) ≡ (is_empty ps && is_none o)
absent_next [] None = refl
absent_next [] (Some x) = refl
absent_next (p ∷ ps) o = refl

-- ---- classes

more_last : (cs : List Class) (c : Class)
    → more_span_names (cs ++ c ∷ []) ≡ more_span_names cs ++ 0x20 ∷ span_name c
more_last [] c = ap (λ x. 0x20 ∷ x) (append-nil (span_name c))
more_last (d ∷ cs) c =
    ap (λ x. 0x20 ∷ (span_name d ++ x)) (more_last cs c)
    ∙ ap (λ x. 0x20 ∷ x)
    (sym (append_assoc (span_name d) (more_span_names cs) (0x20 ∷ span_name c)))

classes_next : (cs : List Class) (o : Option Class)
    → begun_classes (cs ++ one o) ≡ begun_classes cs ++ next_class (is_empty cs) o
classes_next cs None =
    ap begun_classes (append-nil cs) ∙ sym (append-nil (begun_classes cs))
classes_next [] (Some c) = ap (λ x. codes " class=\"" ++ x) (append-nil (span_name c))
classes_next (d ∷ cs) (Some c) =
    ap (λ x. codes " class=\"" ++ (span_name d ++ x)) (more_last cs c)
    ∙ ap (λ x. codes " class=\"" ++ x)
    (sym (append_assoc (span_name d) (more_span_names cs) (0x20 ∷ span_name c)))

-- ---- styles

styles_next : (ss : List Style) (o : Option Style)
    → begun_styles (ss ++ one o) ≡ begun_styles ss ++ next_style (is_empty ss) o
styles_next ss None = ap begun_styles (append-nil ss) ∙ sym (append-nil (begun_styles ss))
styles_next [] (Some s) = ap (λ x. codes " style=\"" ++ x) (append-nil (style_text s))
styles_next (d ∷ ss) (Some s) =
    ap (λ x. codes " style=\"" ++ x)
    (flat_map-append style_text (d ∷ ss) (s ∷ [])
    ∙ ap (λ y. styles_text (d ∷ ss) ++ y) (append-nil (style_text s)))

-- ---- one more of them

-- f of the present members, and the text that one more adds
pub grow_next : {X : Type 0} (f : List X → List ℕ) (g : Bool → Option X → List ℕ)
    → ((ps : List X) (o : Option X) → f (ps ++ one o) ≡ f ps ++ g (is_empty ps) o)
    → (before old new : List ℕ) (first : Bool) (xs : List (Option X)) (i : ℕ) (d : Option X)
    → i < length xs → old ≡ before ++ f (values_of (take i xs))
    → first ≡ is_empty (values_of (take i xs))
    → new ≡ old ++ g first (get_or xs i d)
    → new ≡ before ++ f (values_of (take (i + 1) xs))
grow_next f g step before old new first xs i d l h e k =
    k ∙ ap (λ b. old ++ g b (get_or xs i d)) e
    ∙ ap (λ x. x ++ g (is_empty (values_of (take i xs))) (get_or xs i d)) h
    ∙ append_assoc before (f (values_of (take i xs)))
    (g (is_empty (values_of (take i xs))) (get_or xs i d))
    ∙ ap (λ x. before ++ x) (sym (ap f (present_next xs i d l)
    ∙ step (values_of (take i xs)) (get_or xs i d)))

pub first_next : {X : Type 0} (first next : Bool) (xs : List (Option X)) (i : ℕ) (d : Option X)
    → i < length xs → first ≡ is_empty (values_of (take i xs))
    → next ≡ (first && is_none (get_or xs i d)) → next ≡ is_empty (values_of (take (i + 1) xs))
first_next first next xs i d l e k =
    k ∙ ap (λ b. b && is_none (get_or xs i d)) e
    ∙ sym (ap is_empty (present_next xs i d l)
    ∙ absent_next (values_of (take i xs)) (get_or xs i d))

pub classes_grow : (before old new : List ℕ) (first : Bool) (xs : List (Option Class)) (i : ℕ)
    (d : Option Class) → i < length xs → old ≡ before ++ begun_classes (values_of (take i xs))
    → first ≡ is_empty (values_of (take i xs)) → new ≡ old ++ next_class first (get_or xs i d)
    → new ≡ before ++ begun_classes (values_of (take (i + 1) xs))
classes_grow = grow_next begun_classes next_class classes_next

pub styles_grow : (before old new : List ℕ) (first : Bool) (xs : List (Option Style)) (i : ℕ)
    (d : Option Style) → i < length xs → old ≡ before ++ begun_styles (values_of (take i xs))
    → first ≡ is_empty (values_of (take i xs)) → new ≡ old ++ next_style first (get_or xs i d)
    → new ≡ before ++ begun_styles (values_of (take (i + 1) xs))
styles_grow = grow_next begun_styles next_style styles_next

-- ---- the tag

pub tag_joined : (old one two three : List ℕ) (xs ys : List (List ℕ × List ℕ))
    → one ≡ old ++ codes "<span" → two ≡ one ++ attributes_text xs
    → three ≡ two ++ attributes_text ys
    → three ++ codes ">" ≡ old ++ (codes "<span" ++ (attributes_text (xs ++ ys) ++ codes ">"))
tag_joined old one two three xs ys i j k =
    let a = attributes_text xs in
    let b = attributes_text ys in
    ap (λ x. x ++ codes ">") (k ∙ ap (λ x. x ++ b) (j ∙ ap (λ x. x ++ a) i))
    ∙ append_assoc ((old ++ codes "<span") ++ a) b (codes ">")
    ∙ append_assoc (old ++ codes "<span") a (b ++ codes ">")
    ∙ append_assoc old (codes "<span") (a ++ (b ++ codes ">"))
    ∙ ap (λ x. old ++ (codes "<span" ++ x)) (sym (append_assoc a b (codes ">"))
    ∙ ap (λ x. x ++ codes ">") (sym (flat_map-append attribute_text xs ys)))

-- ---- text after text

pub three_added : (old one two new a b c : List ℕ) → one ≡ old ++ a → two ≡ one ++ b
    → new ≡ two ++ c → new ≡ old ++ (a ++ (b ++ c))
three_added old one two new a b c i j k =
    k ∙ ap (λ x. x ++ c) (j ∙ ap (λ x. x ++ b) i ∙ append_assoc old a b)
    ∙ append_assoc old (a ++ b) c ∙ ap (λ x. old ++ x) (append_assoc a b c)

pub four_added : (old one two three new a b c d : List ℕ) → one ≡ old ++ a → two ≡ one ++ b
    → three ≡ two ++ c → new ≡ three ++ d → new ≡ old ++ (a ++ (b ++ (c ++ d)))
four_added old one two three new a b c d i j k l =
    l ∙ ap (λ x. x ++ d) (three_added old one two three a b c i j k)
    ∙ append_assoc old (a ++ (b ++ c)) d
    ∙ ap (λ x. old ++ x) (append_assoc a (b ++ c) d ∙ ap (λ x. a ++ x) (append_assoc b c d))

-- texts that are added in pairs
pub pairs_added : (old one a b c d p q r s : List ℕ) → one ≡ old ++ (a ++ b) → a ≡ p → b ≡ q
    → c ≡ r → d ≡ s → one ++ (c ++ d) ≡ old ++ (p ++ (q ++ (r ++ s)))
pairs_added old one a b c d p q r s i j k l m =
    rw (i, j, k, l, m)
    (append_assoc old (p ++ q) (r ++ s) ∙ ap (λ x. old ++ x) (append_assoc p q (r ++ s)))

-- a span whose attribute is of these two parts
pub inline_joined : (old one two three new a b : List ℕ) → one ≡ old ++ codes "<span style=\""
    → two ≡ one ++ a → three ≡ two ++ b → new ≡ three ++ codes "\">"
    → new ≡ old ++ (codes "<span"
    ++ (attributes_text ((codes "style", a ++ b) ∷ []) ++ codes ">"))
inline_joined old one two three new a b i j k l =
    let tag = codes "<span style=\"" in
    four_added old one two three new tag a b (codes "\">") i j k l
    ∙ ap (λ x. old ++ (tag ++ x)) (sym (append_assoc a b (codes "\">"))
    ∙ sym (ap (λ x. x ++ codes ">") (append-nil ((a ++ b) ++ codes "\""))
    ∙ append_assoc (a ++ b) (codes "\"") (codes ">")))
