-- One item more, in a loop that reads or writes a list item by item.
use Rattle.std.proofs.Common.{ℕ, ◌≡◌, ◌==◌, ◌+◌, ◌<◌, true, false, List, [], ◌∷◌, ◌++◌, length, map}
use Rattle.std.proofs.Common.{take, drop, get_or, Bor, Option, Some, None, refl, sym, ap, ◌∙◌}
use Rattle.std.proofs.Common.{append_assoc}
use Rattle.std.specs.Fmt.{HasWritten}
use Rattle.std.specs.List.{flat_map}
use Rattle.std.specs.Option.{option_map}
use Rattle.std.specs.declared.fmt.Formatter.{Formatter}
use Rattle.std.proofs.lemmas.Grind.{put_two}
use Rattle.std.proofs.lemmas.List.{at_drop_more, flat_map_more, map-append, take_more}
use Rattle.esc_values.specs.Scalars.{number_of}
use Rattle.esc_osc_values.specs.Colors.{colors_of, spec_of}
use Rattle.esc_osc_values.specs.Lists.{numbers_of}
use Rattle.esc_osc_values.specs.declared.color_or_query.ColorOrQuery.{ColorOrQuery}

-- a part, where there is none
abbrev pub no_part : Bor (List ℕ)
no_part = record { ref_ptr = (0, 0); now = [] }

-- the items made so far, with the rest
abbrev pub made_with : {Y : Type 0} → List Y → Option (List Y) → Option (List Y)
made_with made rest = option_map (λ more. made ++ more) rest

item_first : {Y : Type 0} (made : List Y) (y : Y) (rest : Option (List Y))
    → made_with made (option_map (λ more. y ∷ more) rest) ≡ made_with (made ++ y ∷ []) rest
item_first made y None = refl
item_first made y (Some ys) = ap Some (sym (append_assoc made (y ∷ []) ys))

-- a number, an empty part, and a part that is no number
pub number_more : {X : Type 0} (f : X → List ℕ) (args : List X) (i : ℕ) (d : X)
    (made after : List ℕ) (n : ℕ) (all : Option (List ℕ)) → i < length args
    → (length (f (get_or args i d)) == 0) ≡ false
    → number_of 8 (f (get_or args i d)) ≡ Some n → after ≡ made ++ n ∷ []
    → all ≡ made_with made (numbers_of (map f (drop i args)))
    → all ≡ made_with after (numbers_of (map f (drop (i + 1) args)))
number_more f args i d made after n all lt some is pushed so_far =
    so_far ∙ at_drop_more (λ ys. made_with made (numbers_of (map f ys))) args i d lt
    ∙ rw (some, is, pushed) (item_first made n (numbers_of (map f (drop (i + 1) args))))

pub number_empty : {X : Type 0} (f : X → List ℕ) (args : List X) (i : ℕ) (d : X) (made : List ℕ)
    (all : Option (List ℕ)) → i < length args → (length (f (get_or args i d)) == 0) ≡ true
    → all ≡ made_with made (numbers_of (map f (drop i args)))
    → all ≡ made_with made (numbers_of (map f (drop (i + 1) args)))
number_empty f args i d made all lt none so_far =
    so_far ∙ at_drop_more (λ ys. made_with made (numbers_of (map f ys))) args i d lt ∙ rw none refl

pub number_wrong : {X : Type 0} (f : X → List ℕ) (args : List X) (i : ℕ) (d : X) (made : List ℕ)
    (all : Option (List ℕ)) → i < length args → (length (f (get_or args i d)) == 0) ≡ false
    → number_of 8 (f (get_or args i d)) ≡ None
    → all ≡ made_with made (numbers_of (map f (drop i args))) → None ≡ all
number_wrong f args i d made all lt some is so_far =
    sym (so_far ∙ at_drop_more (λ ys. made_with made (numbers_of (map f ys))) args i d lt
    ∙ rw (some, is) refl)

-- a colour, and a part that is none
pub color_more : {X : Type 0} (f : X → List ℕ) (args : List X) (i : ℕ) (d : X)
    (made after : List ColorOrQuery) (c : ColorOrQuery) (all : Option (List ColorOrQuery))
    → i < length args → spec_of (f (get_or args i d)) ≡ Some c → after ≡ made ++ c ∷ []
    → all ≡ made_with made (colors_of (map f (drop i args)))
    → all ≡ made_with after (colors_of (map f (drop (i + 1) args)))
color_more f args i d made after c all lt is pushed so_far =
    so_far ∙ at_drop_more (λ ys. made_with made (colors_of (map f ys))) args i d lt
    ∙ rw (is, pushed) (item_first made c (colors_of (map f (drop (i + 1) args))))

pub color_wrong : {X : Type 0} (f : X → List ℕ) (args : List X) (i : ℕ) (d : X)
    (made : List ColorOrQuery) (all : Option (List ColorOrQuery))
    → i < length args → spec_of (f (get_or args i d)) ≡ None
    → all ≡ made_with made (colors_of (map f (drop i args))) → None ≡ all
color_wrong f args i d made all lt is so_far =
    sym (so_far ∙ at_drop_more (λ ys. made_with made (colors_of (map f ys))) args i d lt
    ∙ rw is refl)

-- an item that each part has
pub mapped_more : {X Y : Type 0} (f : X → Y) (xs : List X) (i : ℕ) (d : X)
    (made after : List Y) (y : Y) → i < length xs → y ≡ f (get_or xs i d) → after ≡ made ++ y ∷ []
    → made ≡ map f (take i xs)
    → after ≡ map f (take (i + 1) xs)
mapped_more f xs i d made after y lt is pushed so_far =
    pushed
    ∙ rw (so_far, is)
    (sym (ap (map f) (take_more xs i d lt) ∙ map-append f (take i xs) (get_or xs i d ∷ [])))

-- the same before the items that are left
pub mapped_left : {X Y Z : Type 0} (g : Y → Z) (f : X → Y) (xs : List X) (i : ℕ) (d : X)
    (made after all : List Z) (z : Z) → i < length xs → z ≡ g (f (get_or xs i d))
    → after ≡ made ++ z ∷ [] → all ≡ made ++ map g (map f (drop i xs))
    → all ≡ after ++ map g (map f (drop (i + 1) xs))
mapped_left g f xs i d made after all z lt is pushed so_far =
    so_far ∙ at_drop_more (λ ys. made ++ map g (map f ys)) xs i d lt
    ∙ rw (pushed, is)
    (sym (append_assoc made (g (f (get_or xs i d)) ∷ []) (map g (map f (drop (i + 1) xs)))))

-- an item more is written, after a `;`
pub written_more : {W X : Type 0} (took : W → List ℕ → W → Type 0) (text : X → List ℕ) (xs : List X)
    (i : ℕ) (d x : X) (f g h : Formatter W) → i < length xs → x ≡ get_or xs i d
    → HasWritten took f (flat_map (λ y. 0x3b ∷ text y) (take i xs)) g
    → HasWritten took g (0x3b ∷ text x) h
    → HasWritten took f (flat_map (λ y. 0x3b ∷ text y) (take (i + 1) xs)) h
written_more took text xs i d x f g h lt is so_far here =
    put_two took f g h _ _ _ so_far here
    (ap (λ y. flat_map (λ z. 0x3b ∷ text z) (take i xs) ++ 0x3b ∷ text y) is
    ∙ flat_map_more (λ y. 0x3b ∷ text y) [] (take i xs) (get_or xs i d)
    ∙ ap (flat_map (λ y. 0x3b ∷ text y)) (sym (take_more xs i d lt)))
