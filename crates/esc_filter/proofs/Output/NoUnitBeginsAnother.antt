-- The rest of a text of parts after some of its parts is a text of parts: no part begins
-- another.
use Rattle.std.proofs.Common.{ℕ, ◌≡◌, ◌≢◌, ◌<◌, ◌==◌, inl, inr, Bool, true, false, List, [], ◌∷◌, ◌++◌, length, drop, get_or, Option, Some, None, refl, sym, ap, ◌∙◌, subst, arith, lit<, append_assoc, length-append}
use Rattle.std.specs.Char.{encode_utf8}
use Rattle.std.specs.List.{All, list_all}
use Rattle.std.specs.Str.{encode_utf8_all}
use Rattle.std.proofs.lemmas.Bool.{and_parts, true≢false}
use Rattle.std.proofs.lemmas.List.Elements.{All-head, All-tail}
use Rattle.std.proofs.lemmas.Str.{encode_ascii, encode_same, length-encode, len_utf8_bounds}
use Rattle.esc_values.specs.Clear.{IsClearText, framed_text, is_clear}
use Rattle.esc_values.specs.Cuts.{cut_at}
use Rattle.esc_values.specs.Params.{is_csi_parameter}
use Rattle.esc_values.proofs.Clear.CutAtCharacter.{Free, cut_there, encode_free, free_append, free_passes}
use Rattle.esc_filter.specs.Closing.{joined_lists}
use Rattle.esc_filter.specs.Tokens.{IsOfTokens, IsToken, is_plain}

-- ---- a run that ends at the first byte of a kind

abbrev after_cut : Option (List ℕ × List ℕ) → List ℕ
after_cut None = []
after_cut (Some p) = p.1

cut_after : (m : ℕ) (x y a b : List ℕ) → Free m x → Free m y → x ++ m ∷ a ≡ y ++ m ∷ b → a ≡ b
cut_after m x y a b f g e =
    ap after_cut (sym (cut_there m x a f) ∙ ap (cut_at m) e ∙ cut_there m y b g)

rendition_rest : (x y a b : List ℕ) → list_all is_csi_parameter x ≡ true
    → list_all is_csi_parameter y ≡ true
    → (0x1b ∷ 0x5b ∷ (x ++ 0x6d ∷ [])) ++ a ≡ (0x1b ∷ 0x5b ∷ (y ++ 0x6d ∷ [])) ++ b → a ≡ b
rendition_rest x y a b h k e =
    cut_after 0x6d x y a b (free_passes 0x6d is_csi_parameter refl x h)
    (free_passes 0x6d is_csi_parameter refl y k)
    (sym (append_assoc x (0x6d ∷ []) a) ∙ ap (drop 2) e ∙ append_assoc y (0x6d ∷ []) b)

-- a clear text has no ESC
no_escape : (c : ℕ) → is_clear c ≡ true → c ≢ 0x1b
no_escape c h e = true≢false (sym h ∙ ap is_clear e)

chars_free : (cs : List ℕ) → list_all is_clear cs ≡ true → Free 0x1b (encode_utf8_all cs)
chars_free [] h = refl
chars_free (c ∷ cs) h =
    let q = and_parts (is_clear c) (list_all is_clear cs) h in
    free_append 0x1b (encode_utf8 c) (encode_utf8_all cs)
    (encode_free 0x1b c (lit< tt) (no_escape c q.0)) (chars_free cs q.1)

clear_free : (t : List ℕ) → IsClearText t → Free 0x1b t
clear_free t (cs, all, e) = subst (Free 0x1b) e (chars_free cs all)

link_rest : (x y a b : List ℕ) → IsClearText x → IsClearText y
    → framed_text x ++ a ≡ framed_text y ++ b → a ≡ b
link_rest x y a b h k e =
    let end = 0x1b ∷ 0x5c ∷ [] in
    ap (drop 1)
    (cut_after 0x1b x y (0x5c ∷ a) (0x5c ∷ b) (clear_free x h) (clear_free y k)
    (sym (append_assoc x end a) ∙ ap (drop 2) e ∙ append_assoc y end b))

-- ---- two parts that begin two equal texts

-- bytes that begin with ESC are no character
no_character : (c : ℕ) (a r : List ℕ) → is_plain c ≡ true → encode_utf8 c ++ a ≡ 0x1b ∷ r → ⊥
no_character c a r h e =
    let esc : 0x1b ∷ r ≡ encode_utf8 0x1b ++ r =
    ap (λ t. t ++ r) (sym (encode_ascii 0x1b (lit< tt))) in
    true≢false (sym h ∙ ap is_plain (encode_same c 0x1b a r (e ∙ esc)).0)

-- the second byte tells a rendition and a link apart
apart : (r s : List ℕ) → 0x1b ∷ 0x5b ∷ r ≡ 0x1b ∷ 0x5d ∷ s → ⊥
apart r s e = true≢false (ap (λ t. get_or t 1 0 == 0x5b) e)

in_form : (x y v w a b : List ℕ) → x ≡ v → y ≡ w → x ++ a ≡ y ++ b → v ++ a ≡ w ++ b
in_form x y v w a b e f g = ap (λ t. t ++ a) (sym e) ∙ g ∙ ap (λ t. t ++ b) f

first_rest : (k : Bool) (x y a b : List ℕ) → IsToken k x → IsToken k y → x ++ a ≡ y ++ b → a ≡ b
first_rest false x y a b (c, h, e) (d, j, f) g =
    (encode_same c d a b (in_form x y _ _ a b e f g)).1
first_rest true x y a b (inl (c, h, e)) (inl (d, j, f)) g =
    (encode_same c d a b (in_form x y _ _ a b e f g)).1
first_rest true x y a b (inl (c, h, e)) (inr (inl (v, j, f))) g =
    absurd (no_character c a _ h (in_form x y _ _ a b e f g))
first_rest true x y a b (inl (c, h, e)) (inr (inr (v, j, z, f))) g =
    absurd (no_character c a _ h (in_form x y _ _ a b e f g))
first_rest true x y a b (inr (inl (v, h, e))) (inl (d, j, f)) g =
    absurd (no_character d b _ j (sym (in_form x y _ _ a b e f g)))
first_rest true x y a b (inr (inr (v, h, s, e))) (inl (d, j, f)) g =
    absurd (no_character d b _ j (sym (in_form x y _ _ a b e f g)))
first_rest true x y a b (inr (inl (v, h, e))) (inr (inl (w, j, f))) g =
    rendition_rest v w a b h j (in_form x y _ _ a b e f g)
first_rest true x y a b (inr (inl (v, h, e))) (inr (inr (w, j, z, f))) g =
    absurd (apart _ _ (in_form x y _ _ a b e f g))
first_rest true x y a b (inr (inr (v, h, s, e))) (inr (inl (w, j, f))) g =
    absurd (apart _ _ (sym (in_form x y _ _ a b e f g)))
first_rest true x y a b (inr (inr (v, h, s, e))) (inr (inr (w, j, z, f))) g =
    link_rest _ _ a b h j (in_form x y _ _ a b e f g)

some_byte : (x : List ℕ) (c : ℕ) → x ≡ encode_utf8 c → 0 < length x
some_byte x c e = omega (arith, ap length e, length-encode c, (len_utf8_bounds c).0)

some : (k : Bool) (x : List ℕ) → IsToken k x → 0 < length x
some false x (c, h, e) = some_byte x c e
some true x (inl (c, h, e)) = some_byte x c e
some true x (inr (inl (y, h, e))) = omega (arith, ap length e)
some true x (inr (inr (y, h, s, e))) = omega (arith, ap length e)

-- ---- texts

rest_of : (k : Bool) (xs ys : List (List ℕ)) (t : List ℕ) → All (IsToken k) xs
    → All (IsToken k) ys → joined_lists xs ++ t ≡ joined_lists ys → IsOfTokens k t
rest_of k [] ys t h j e = (ys, j, e)
rest_of k (x ∷ xs) [] t h j e =
    absurd (omega (
      arith,
      ap length e,
      length-append (x ++ joined_lists xs) t,
      length-append x (joined_lists xs),
      some k x (All-head (IsToken k) x xs h),
    ))
rest_of k (x ∷ xs) (y ∷ ys) t h j e =
    rest_of k xs ys t (All-tail (IsToken k) x xs h) (All-tail (IsToken k) y ys j)
    (first_rest k x y (joined_lists xs ++ t) (joined_lists ys) (All-head (IsToken k) x xs h)
    (All-head (IsToken k) y ys j) (sym (append_assoc x (joined_lists xs) t) ∙ e))

pub rest_parts : (k : Bool) (x t : List ℕ) → IsOfTokens k x → IsOfTokens k (x ++ t)
    → IsOfTokens k t
rest_parts k x t (xs, h, e) (ys, j, f) = rest_of k xs ys t h j (ap (λ y. y ++ t) (sym e) ∙ f)
