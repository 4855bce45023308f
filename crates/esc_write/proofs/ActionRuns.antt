-- Runs of characters, gathered eight at a time.
use Rattle.std.proofs.Common.{ℕ, suc, Bool, false, true, ◌≡◌, ◌+◌, ◌<◌, List, [], ◌∷◌, ◌++◌}
use Rattle.std.proofs.Common.{◌&&◌, ◌≤◌, length, map, take, drop, get_or, refl, ap, sym, ◌∙◌}
use Rattle.std.proofs.Common.{append_assoc, append-nil, take-append-drop, arith}
use Rattle.std.proofs.lemmas.List.Folds.{list_all-append, list_all-map, list_all_more}
use Rattle.std.proofs.lemmas.List.{drop_more, length-append, length-map, map-append, take_all}
use Rattle.std.proofs.lemmas.Str.{encode_ascii}
use Rattle.std.specs.List.{list_all}
use Rattle.std.specs.Str.{IsAscii}
use Rattle.esc_actions.specs.Texts.{has_text, is_string, text_after, texts_after}
use Rattle.esc_actions.specs.Values.{Value, device_value, value_of}
use Rattle.esc_actions.specs.Values.Value.{print}
use Rattle.esc_actions.specs.declared.action.Action.{Action}
use Rattle.esc_actions.specs.declared.action.Action.TheVariants as action

module _ {X V : Type 0} (f : X → V) (show : ℕ → V) where
  -- a run that goes on
  pub more_seen : (xs rest more : List X) (run bs new : List ℕ)
      → map f xs ≡ map show run ++ map f rest → map f rest ≡ map show bs ++ map f (drop 8 rest)
      → new ≡ run ++ bs → more ≡ drop 8 rest
      → map f xs ≡ map show new ++ map f more
  more_seen xs rest more run bs new h k n m =
      h ∙ ap (λ w. map show run ++ w) k
      ∙ sym (append_assoc (map show run) (map show bs) (map f (drop 8 rest)))
      ∙ ap (λ w. w ++ map f (drop 8 rest)) (sym (map-append show run bs))
      ∙ ap (λ w. map show w ++ map f (drop 8 rest)) (sym n)
      ∙ ap (λ w. map show new ++ map f w) (sym m)

-- one of the first eight, and those after it
pub next_shown : {X V : Type 0} (f : X → V) (xs : List X) (n : ℕ) (x : X) (v : V) (rest : List V)
    → 8 ≤ length xs → n < 8 → x ≡ get_or xs n x → f x ≡ v → map f (drop (n + 1) xs) ≡ rest
    → map f (drop n xs) ≡ v ∷ rest
next_shown f xs n x v rest few low is shown h =
    ap (map f) (drop_more xs n x (omega arith)) ∙ ap (λ t. f (get_or xs n x) ∷ t) h
    ∙ ap (λ y. y ∷ rest) (ap f (sym is) ∙ shown)

-- all of the first n, and of one more
pub all_next : {X : Type 0} (p : X → Bool) (xs : List X) (n : ℕ) (x : X) → n < length xs
    → x ≡ get_or xs n x → p x ≡ true → list_all p (take n xs) ≡ true
    → list_all p (take (n + 1) xs) ≡ true
all_next p xs n x low is passes h =
    list_all_more p xs n x low ∙ ap (λ t. t && p (get_or xs n x)) h ∙ ap p (sym is) ∙ passes

-- all of the first n, which are all
pub all_taken : {X : Type 0} (p : X → Bool) (xs : List X) (n : ℕ) → length xs ≤ n
    → list_all p (take n xs) ≡ true → list_all p xs ≡ true
all_taken p xs n few h = ap (list_all p) (sym (take_all n xs few)) ∙ h

device_text : {A : Type 0} (m : _) → has_text {A = A} (device_value m) ≡ true
device_text m = grind arith

-- an action that is no sixel image has a text
pub text_unless_sixel : {A : Type 0} (a : Action A) → ((s : _) → a ≡ action.Sixel s → ⊥)
    → has_text (value_of a) ≡ true
text_unless_sixel (action.Sixel s) other = absurd (other s refl)
text_unless_sixel (action.DeviceControl m) other = device_text m
text_unless_sixel a other = refl

-- all of a list: of its first n, and of the rest
module _ {X : Type 0} (p : X → Bool) (n : ℕ) (xs prefix back : List X) (f : prefix ≡ take n xs)
    (b : back ≡ drop n xs) where
  all_split : list_all p xs ≡ (list_all p prefix && list_all p back)
  all_split =
      ap (list_all p) (sym (take-append-drop n xs)) ∙ list_all-append p (take n xs) (drop n xs)
      ∙ ap (λ ys. list_all p ys && list_all p (drop n xs)) (sym f)
      ∙ ap (λ ys. list_all p prefix && list_all p ys) (sym b)

  pub all_back : list_all p prefix ≡ true → list_all p xs ≡ list_all p back
  all_back h = all_split ∙ ap (λ t. t && list_all p back) h

  pub none_prefix : list_all p prefix ≡ false → list_all p xs ≡ false
  none_prefix h = all_split ∙ ap (λ t. t && list_all p back) h

-- the text of a run
spelled_run : {A : Type 0} (xs : List ℕ) (vs : List (Value A)) → IsAscii xs
    → texts_after false (map print xs ++ vs) ≡ xs ++ texts_after false vs
spelled_run [] vs h = refl
spelled_run (x ∷ xs) vs h =
    rw (encode_ascii x (h 0)) (ap (λ t. x ∷ t) (spelled_run xs vs (λ i. h (suc i))))

-- the values before a character do not show in its text
print_follows : {A : Type 0} (follows : Bool) (c : ℕ) (vs ws : List (Value A)) → vs ≡ print c ∷ ws
    → texts_after false vs ≡ texts_after follows vs
print_follows follows c vs ws h = ap (texts_after false) h ∙ ap (texts_after follows) (sym h)

pub run_text : {A : Type 0} (follows : Bool) (old new shown xs : List ℕ) (vs ws : List (Value A))
    → 0 < length xs → IsAscii xs → vs ≡ map print xs ++ ws → new ≡ old ++ shown → shown ≡ xs
    → new ++ texts_after false ws ≡ old ++ texts_after follows vs
run_text follows old new shown [] vs ws some a h k is = absurd (omega arith)
run_text follows old new shown (x ∷ xs) vs ws some a h k is =
    ap (λ t. t ++ texts_after false ws) (k ∙ ap (λ t. old ++ t) is)
    ∙ append_assoc old (x ∷ xs) (texts_after false ws)
    ∙ ap (λ t. old ++ t) (sym (spelled_run (x ∷ xs) ws a))
    ∙ ap (λ vs. old ++ texts_after false vs) (sym h)
    ∙ ap (λ t. old ++ t) (print_follows follows x vs (map print xs ++ ws) h)

-- the text of one action
pub one_text : {A : Type 0} (follows ends : Bool) (old new : List ℕ) (v : Value A)
    (vs ws : List (Value A)) → vs ≡ v ∷ ws
    → new ≡ old ++ text_after follows v → ends ≡ is_string v
    → new ++ texts_after ends ws ≡ old ++ texts_after follows vs
one_text follows ends old new v vs ws h k e =
    ap (λ t. t ++ texts_after ends ws) k ∙ append_assoc old (text_after follows v)
    (texts_after ends ws)
    ∙ ap (λ b. old ++ (text_after follows v ++ texts_after b ws)) e
    ∙ ap (λ vs. old ++ texts_after follows vs) (sym h)

-- the rest after a run is shorter
pub rest_shorter : {X : Type 0} {A : Type 0} (f : X → Value A) (xs rest : List X) (run : List ℕ)
    → map f xs ≡ map print run ++ map f rest → 0 < length run
    → length rest < length xs
rest_shorter {X} {A} f xs rest run h some =
    let show : ℕ → Value A = λ c. print c in
    let sizes : length (map f xs) ≡ length (map show run) + length (map f rest) =
    ap length h ∙ length-append (map show run) (map f rest) in
    omega (arith, sizes, length-map xs f, length-map rest f, length-map run show)

-- nothing is left
pub all_written : {X A : Type 0} (f : X → Value A) (follows : Bool) (text all : List ℕ)
    (rest : List X) → length rest ≤ 0 → text ++ texts_after follows (map f rest) ≡ all → text ≡ all
all_written f follows text all [] none h = sym (append-nil text) ∙ h
all_written f follows text all (x ∷ xs) none h = absurd (omega arith)

-- if two tests both succeed, each does
both_first : (a b : Bool) → (a && b) ≡ true → a ≡ true
both_first true b h = refl
both_first false b h = h

both_second : (a b : Bool) → (a && b) ≡ true → b ≡ true
both_second true b h = h
both_second false b h = absurd cc

-- if each of a list passes, so do the first and each after it
module _ {X : Type 0} (p : X → Bool) (xs : List X) (x : X) (ys : List X) (is : xs ≡ x ∷ ys)
    (all : list_all p xs ≡ true) where
  both_pass : (p x && list_all p ys) ≡ true
  both_pass = sym (ap (list_all p) is) ∙ all

  pub first_passes : p x ≡ true
  first_passes = both_first (p x) (list_all p ys) both_pass

  pub others_pass : list_all p ys ≡ true
  others_pass = both_second (p x) (list_all p ys) both_pass

shown_have : {A : Type 0} (run : List ℕ) (vs : List (Value A))
    → list_all has_text (map print run ++ vs) ≡ list_all has_text vs
shown_have [] vs = refl
shown_have (c ∷ run) vs = shown_have run vs

-- the rest after a run has texts if all have
pub rest_have : {X A : Type 0} (f : X → Value A) (xs rest : List X) (run : List ℕ)
    → map f xs ≡ map print run ++ map f rest → list_all (λ a. has_text (f a)) xs ≡ true
    → list_all (λ a. has_text (f a)) rest ≡ true
rest_have f xs rest run h k =
    sym (list_all-map has_text f rest) ∙ sym (shown_have run (map f rest))
    ∙ ap (list_all has_text) (sym h) ∙ list_all-map has_text f xs ∙ k
