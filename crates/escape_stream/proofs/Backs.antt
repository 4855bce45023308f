-- The first value that the text of a writable value means.
use Rattle.std.proofs.Common.{ℕ, ◌≡◌, true, false, List, [], ◌∷◌, ◌++◌, take, drop, Option, Some, None, refl, ap, sym, ◌∙◌, append-nil}
use Rattle.std.proofs.lemmas.List.{take-append-drop}
use Rattle.std.specs.Prelude.{IfSome, IfNone}
use Rattle.esc_actions.specs.Meaning.{meaning, yield, yield_within}
use Rattle.esc_actions.specs.Texts.{list_text, normal, text_after, value_text}
use Rattle.esc_actions.specs.Values.{Value, print, string, control, esc, csi, osc, kitty, sixel, termcap, short, enter, datum, exit}
use Rattle.esc_actions.specs.Writable.{IsWritable, AreWritable}
use Rattle.esc_actions.proofs.Meaning.MeaningsJoin.{meaning_more, yield_whole}
use Rattle.escape_stream.specs.Asked.{has_own_text}
use Rattle.esc_parse.specs.Firsts.{IsFirst, first}
pub use Rattle.esc_normal.proofs.HaveTexts.{writable_has_text}

-- bytes after a text do not change the first value that it means
still_first : {A : Type 0} (s b : List ℕ) (v : Value A) (vs : List (Value A)) → meaning s ≡ v ∷ vs
    → first (meaning (s ++ b)) ≡ Some v
still_first s b v vs e = ap first (sym (meaning_more None s b) ∙ ap (λ x. x ++ yield s b) e)

-- the first value of a prefix is the first of the whole
pub first_given : {A : Type 0} (b : List ℕ) (v : Value A) (n : ℕ) → IsFirst None [] b v n
    → Some v ≡ first (meaning b)
first_given b v n is =
    let t = take n b in
    sym
    (ap first
    (ap meaning (sym (take-append-drop n b)) ∙ sym (meaning_more None t (drop n b))
    ∙ ap (λ x. x ++ yield t (drop n b)) (sym (yield_whole None t) ∙ is.first)))

pub none_given : {A : Type 0} (b : List ℕ) → yield_within {A = A} None [] b ≡ []
    → None ≡ first (meaning {A = A} b)
none_given b h = sym (ap first (sym (yield_whole None b) ∙ h))

pub some_given : {A X : Type 0} (f : X → Value A) (b : List ℕ) (W : X × ℕ → Type 0)
    (o : Option (X × ℕ)) (y : X × ℕ) → o ≡ Some y
    → IfSome o (λ x. W x × IsFirst None [] b (f x.0) x.1) → Some (f y.0) ≡ first (meaning b)
some_given f b W (Some x) y e h = let same : x ≡ y =
    cc in ap (λ z. Some (f z.0)) (sym same) ∙ first_given b (f x.0) x.1 h.1
some_given f b W None y e h = absurd cc

pub nothing_given : {A T : Type 0} (b : List ℕ) (W : Type 0) (o : Option T) → o ≡ None
    → IfNone o (W × (yield_within {A = A} None [] b ≡ []))
    → None ≡ first (meaning {A = A} b)
nothing_given b W None e h = none_given b h.1
nothing_given b W (Some x) e h = absurd cc

-- the text of a writable value, with a string terminator after it, means the value first
module _ {A : Type 0}
    (back : (vs : List (Value A)) → AreWritable vs → meaning (list_text vs) ≡ normal vs) where
  alone : (v : Value A) (vs : List (Value A)) → AreWritable (v ∷ []) → normal (v ∷ []) ≡ v ∷ vs
      → first (meaning (list_text (v ∷ []) ++ 0x1b ∷ 0x5c ∷ [])) ≡ Some v
  alone v vs h n = still_first (list_text (v ∷ [])) (0x1b ∷ 0x5c ∷ []) v vs (back (v ∷ []) h ∙ n)

  list_means_first : (v : Value A) → has_own_text v ≡ true → IsWritable v
      → first (meaning (list_text (v ∷ []) ++ 0x1b ∷ 0x5c ∷ [])) ≡ Some v
  list_means_first (print c) o h = alone (print c) _ (refl, h, refl) refl
  list_means_first (string t) o h = absurd cc
  list_means_first (control c) o h = alone (control c) _ (refl, h, refl) refl
  list_means_first (esc e) o h = alone (esc e) _ (refl, h, refl) refl
  list_means_first (csi c) o h = alone (csi c) _ (refl, h, refl) refl
  list_means_first (osc c) o h = alone (osc c) _ (refl, h, refl) refl
  list_means_first (kitty i) o h = alone (kitty i) _ (refl, h, refl) refl
  list_means_first (sixel s) o h = alone (sixel s) _ (refl, h, refl) refl
  list_means_first (termcap ns) o h = alone (termcap ns) _ (refl, h, refl) refl
  list_means_first (short s) o h = alone (short s) _ (refl, h, refl) refl
  list_means_first (enter e) o h =
      let t = value_text (enter e) in
      let same : (t ++ []) ++ 0x1b ∷ 0x5c ∷ [] ≡ t ++ 0x1b ∷ 0x5c ∷ [] =
      ap (λ x. x ++ 0x1b ∷ 0x5c ∷ []) (append-nil t) in
      ap first (ap meaning same ∙ back (enter e ∷ exit ∷ []) (refl, h, (refl, tt, refl)))
  list_means_first (datum b) o h = absurd cc
  list_means_first exit o h = absurd cc

  pub means_first : (v : Value A) → has_own_text v ≡ true → IsWritable v
      → first (meaning (text_after false v ++ 0x1b ∷ 0x5c ∷ [])) ≡ Some v
  means_first v o h =
      ap (λ t. first (meaning (t ++ 0x1b ∷ 0x5c ∷ []))) (sym (append-nil (text_after false v)))
      ∙ list_means_first v o h
