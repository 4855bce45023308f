-- The decisions of a choice of groups about text, control sequences and images.
use Rattle.std.proofs.Common.{◌≡◌, ℕ, ◌<◌, Bool, true, false, not, ◌==◌, List, [], ◌∷◌, refl, ap, ◌∙◌}
use Rattle.std.specs.List.{list_all, list_any}
use Rattle.std.specs.Str.{IsUtf8, chars}
use Rattle.std.proofs.lemmas.Bool.{and_parts}
use denote.Enum.Declared.{variants}
use denote.Enum.Enum.{tag_below}
use Rattle.esc_sequences.specs.Csis.{CsiValue, csi_of}
use Rattle.esc_values.specs.declared.csi_param.CsiParam.{CsiParam}
use Rattle.esc_parse.specs.Images.{is_image}
use Rattle.esc_actions.specs.Values.{Value}
use Rattle.esc_actions.specs.Values.Value.{print, string, control, esc, csi, osc, kitty, sixel, termcap, short, enter, datum, exit}
use Rattle.esc_filter.specs.Concealed.{conceals}
use Rattle.esc_filter.specs.Groups.{admits_groups, has, has_sequence, of_body, place}
use Rattle.esc_filter.specs.Rules.{is_plain_param, is_shown}
use Rattle.esc_filter.specs.contracts.group.Group.{the_type}
use Rattle.esc_filter.specs.declared.group.Group.{Group}
use Rattle.esc_filter.specs.declared.group.Group.TheVariants as group
use Rattle.esc_filter.specs.declared.groups.Groups.{Groups}
use Rattle.esc_filter.proofs.Output.RunsOfText.{all_more, chars_shown}
use Rattle.esc_filter.proofs.Renditions.SequencesFromParameters.{each_of, nameless}

pub below : (c : Group) → place c < 16
unfolding place
below c = tag_below (variants the_type) (the_type.to c)

-- characters that are shown
shown_char : (A : Type 0) (g : Groups) → has g group.Characters ≡ true → (c : ℕ)
    → is_shown c ≡ true → admits_groups {A = A} g (print c) ≡ true
shown_char A g h c k = rw (k, h) refl

pub run_chosen : (A : Type 0) (g : Groups) (xs : List ℕ) → has g group.Characters ≡ true
    → list_all is_shown xs ≡ true → list_all (λ c. admits_groups {A = A} g (print c)) xs ≡ true
run_chosen A g xs h k = all_more is_shown (λ c. admits_groups {A = A} g (print c))
    (shown_char A g h) xs k

pub str_chosen : (A : Type 0) (g : Groups) (text : List ℕ) → IsUtf8 text
    → has g group.Characters ≡ true → list_all is_shown text ≡ true
    → list_all (λ c. admits_groups {A = A} g (print c)) (chars text) ≡ true
str_chosen A g text u h k = run_chosen A g (chars text) h (chars_shown text u k)

-- a sequence with another final byte than `m`
pub other_passes : (g : Groups) (es : List CsiParam) (f : ℕ) → (f == 0x6d) ≡ false
    → has g (of_body es f) ≡ true → list_all (has_sequence g) (csi_of es false f) ≡ true
other_passes g es f h k = rw (nameless es f h) (rw k refl)

pub other_stays : (g : Groups) (es : List CsiParam) (f : ℕ) → (f == 0x6d) ≡ false
    → has g (of_body es f) ≡ false → list_any (has_sequence g) (csi_of es false f) ≡ false
other_stays g es f h k = rw (nameless es f h) (rw k refl)

-- renditions, none of which conceals text
plain_group : (es : List CsiParam) (f : ℕ) → f ≡ 0x6d → list_all is_plain_param es ≡ true
    → conceals es ≡ false → of_body es f ≡ group.Sgr
plain_group es f m h k = rw (m, h, k) refl

pub renditions_pass : (g : Groups) (es : List CsiParam) (f : ℕ) → f ≡ 0x6d
    → list_all is_plain_param es ≡ true → conceals es ≡ false → has g group.Sgr ≡ true
    → list_all (has_sequence g) (csi_of es false f) ≡ true
renditions_pass g es f m h k t =
    each_of (has_sequence g) (λ s. t) es f (ap (has g) (plain_group es f m h k) ∙ t)

not_true : (b : Bool) → not b ≡ true → b ≡ false
not_true true h = absurd cc
not_true false h = refl

none_of_all : (t : CsiValue → Bool) (vs : List CsiValue) → list_all (λ c. not (t c)) vs ≡ true
    → list_any t vs ≡ false
none_of_all t [] h = refl
none_of_all t (v ∷ vs) h =
    let k = and_parts (not (t v)) (list_all (λ c. not (t c)) vs) h in
    let no : t v ≡ false = not_true (t v) k.0 in
    rw (no, none_of_all t vs k.1) refl

pub renditions_stay : (g : Groups) (es : List CsiParam) (f : ℕ) → f ≡ 0x6d
    → list_all is_plain_param es ≡ true → conceals es ≡ false → has g group.Sgr ≡ false
    → list_any (has_sequence g) (csi_of es false f) ≡ false
renditions_stay g es f m h k t =
    none_of_all (has_sequence g) (csi_of es false f)
    (each_of (λ c. not (has_sequence g c)) (λ s. ap not t) es f
    (ap not (ap (has g) (plain_group es f m h k) ∙ t)))

-- images
pub images_stay : (A : Type 0) (g : Groups) (v : Value A) → has g group.Images ≡ false
    → is_image v ≡ true → admits_groups g v ≡ false
images_stay A g (print c) h k = absurd cc
images_stay A g (string t) h k = absurd cc
images_stay A g (control c) h k = absurd cc
images_stay A g (esc e) h k = absurd cc
images_stay A g (csi c) h k = absurd cc
images_stay A g (osc c) h k = absurd cc
images_stay A g (kitty i) h k = h
images_stay A g (sixel s) h k = h
images_stay A g (termcap ns) h k = absurd cc
images_stay A g (short s) h k = absurd cc
images_stay A g (enter e) h k = absurd cc
images_stay A g (datum b) h k = absurd cc
images_stay A g exit h k = absurd cc

-- the decisions of a choice of groups about a control sequence, for `grind`
pub ruleset choices = (other_passes, other_stays, renditions_pass, renditions_stay)
