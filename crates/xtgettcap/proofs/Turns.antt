-- One name more, in a loop that reads or writes names one by one.
use Rattle.std.proofs.Common.{ℕ, ◌≡◌, ◌+◌, ◌<◌, List, [], ◌∷◌, ◌++◌, length, map, take, get_or, Bor}
use Rattle.std.proofs.Common.{sym, ap, ◌∙◌}
use Rattle.std.specs.Fmt.{HasWritten}
use Rattle.std.specs.List.{flat_map}
use Rattle.std.specs.declared.fmt.Formatter.{Formatter}
use Rattle.std.proofs.lemmas.Grind.{put_two}
use Rattle.std.proofs.lemmas.List.{flat_map_more, map-append, take_more}

-- a slice, if there is none
abbrev pub no_slice : Bor (List ℕ)
no_slice = record { ref_ptr = (0, 0); now = [] }

-- the meaning of a slice
pub meant_more : {X : Type 0} (name : List ℕ → List ℕ) (f : X → List ℕ) (xs : List X) (i : ℕ)
    (d : X) (made after : List (List ℕ)) (y : List ℕ) → i < length xs → y ≡ name (f (get_or xs i d))
    → after ≡ made ++ y ∷ [] → made ≡ map name (map f (take i xs))
    → after ≡ map name (map f (take (i + 1) xs))
meant_more name f xs i d made after y lt is pushed so_far =
    pushed
    ∙ rw (so_far, is)
    (sym (ap (λ ys. map name (map f ys)) (take_more xs i d lt)
    ∙ ap (map name) (map-append f (take i xs) (get_or xs i d ∷ []))
    ∙ map-append name (map f (take i xs)) (f (get_or xs i d) ∷ [])))

-- a name is written after a `;`
pub written_more : {W X : Type 0} (took : W → List ℕ → W → Type 0) (text : X → List ℕ) (xs : List X)
    (i : ℕ) (d x : X) (f g h : Formatter W) → i < length xs → x ≡ get_or xs i d
    → HasWritten took f (flat_map (λ y. 0x3b ∷ text y) (take i xs)) g
    → HasWritten took g (0x3b ∷ text x) h
    → HasWritten took f (flat_map (λ y. 0x3b ∷ text y) (take (i + 1) xs)) h
written_more took text xs i d x f g h lt is so_far here =
    put_two took f g h _ _ _ so_far here
    (ap (λ y. flat_map (λ z. 0x3b ∷ text z) (take i xs) ++ 0x3b ∷ text y) is
    ∙ flat_map_more (λ y. 0x3b ∷ text y) [] (take i xs) (get_or xs i d)
    ∙ ap (flat_map (λ y. 0x3b ∷ text y)) (sym (take_more xs i d lt)))
