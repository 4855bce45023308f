-- How the parameters of a hyperlink are read, stretch by stretch.
use Rattle.std.proofs.Common.{ℕ, ◌≡◌, ◌≢◌, ◌<◌, Bool, true, false, List, [], ◌∷◌, length, Option, Some, None, Result, Ok, Err, refl, ap, sym, ◌∙◌, subst, arith}
use Rattle.std.specs.List.{slice_split}
use Rattle.std.specs.Option.{option_map}
use Rattle.std.specs.Result.{IsErrAnd, IfErr}
use Rattle.esc_values.specs.Cuts.{Pairs, cut_at, key_and_value, pairs_in}
use Rattle.esc_values.specs.declared.error.Error.{Error}
use Rattle.esc_values.specs.declared.error.Error.TheVariants.{Invalid}
use Rattle.esc_links.specs.Hyperlinks.{pairs_with, put_all, is_colon, params_of}

-- stretchs, put in after the pairs es
abbrev pub reading : Pairs → List (List ℕ) → Option Pairs
reading es ps = option_map (λ qs. put_all es qs) (pairs_in ps)

pub params_some : (t : List ℕ) → t ≢ [] → params_of t ≡ reading [] (slice_split is_colon t)
params_some [] h = absurd (h refl)
params_some (b ∷ t) h = refl

-- a text that is cut at a colon
abbrev CutsInto : List ℕ → Option (List ℕ × List ℕ) → Type 0
CutsInto t None = slice_split is_colon t ≡ t ∷ []
CutsInto t (Some p) = (slice_split is_colon t ≡ p.0 ∷ slice_split is_colon p.1)
    × (length p.1 < length t)

cuts_more : (b : ℕ) (t : List ℕ) (o : Option (List ℕ × List ℕ)) → is_colon b ≡ false → CutsInto t o
    → CutsInto (b ∷ t) (option_map (λ (p : List ℕ × List ℕ). (b ∷ p.0, p.1)) o)
cuts_more b t None other h = rw (other, h) refl
cuts_more b t (Some p) other h = (rw (other, h.0) refl, let k = h.1 in omega arith)

cuts_by : (b : ℕ) (t : List ℕ) (q : Bool) → is_colon b ≡ q → CutsInto t (cut_at 0x3a t)
    → CutsInto (b ∷ t) (cut_at 0x3a (b ∷ t))
cuts_by b t true e h = rw e (rw e refl, omega arith)
cuts_by b t false e h = rw e (cuts_more b t (cut_at 0x3a t) e h)

cuts : (t : List ℕ) → CutsInto t (cut_at 0x3a t)
cuts [] = refl
cuts (b ∷ t) = cuts_by b t (is_colon b) refl (cuts t)

pub cut_some : (t : List ℕ) (p : List ℕ × List ℕ) → cut_at 0x3a t ≡ Some p
    → (slice_split is_colon t ≡ p.0 ∷ slice_split is_colon p.1) × (length p.1 < length t)
cut_some t p e = let P : Option (List ℕ × List ℕ) → Type 0 = λ o. CutsInto t o in subst P e (cuts t)

pub cut_none : (t : List ℕ) → cut_at 0x3a t ≡ None → slice_split is_colon t ≡ t ∷ []
cut_none t e = let P : Option (List ℕ × List ℕ) → Type 0 = λ o. CutsInto t o in subst P e (cuts t)

-- one stretch more
more_by : (es : Pairs) (e : List ℕ × List ℕ) (o : Option Pairs)
    → option_map (λ qs. put_all es qs) (option_map (λ qs. e ∷ qs) o) ≡ option_map (λ qs.
    put_all (pairs_with e.0 e.1 es) qs) o
more_by es e None = refl
more_by es e (Some qs) = refl

-- the pairs after a stretch
abbrev pub put_of : Pairs → List ℕ → Option Pairs
put_of es p = option_map (λ e. pairs_with e.0 e.1 es) (key_and_value p)

reading_by : (es fs : Pairs) (p : List ℕ) (ps : List (List ℕ)) (o : Option (List ℕ × List ℕ))
    → key_and_value p ≡ o → put_of es p ≡ Some fs
    → reading es (p ∷ ps) ≡ reading fs ps
reading_by es fs p ps None is h = let k : None ≡ Some fs = rw is at h in cc
reading_by es fs p ps (Some e) is h = let k : Some (pairs_with e.0 e.1 es) ≡ Some fs = rw is at h in
    let same : pairs_with e.0 e.1 es ≡ fs = cc in
    rw is (more_by es e (pairs_in ps) ∙ ap (λ gs. reading gs ps) same)

pub reading_stretch : (es fs : Pairs) (p : List ℕ) (ps : List (List ℕ)) → put_of es p ≡ Some fs
    → reading es (p ∷ ps) ≡ reading fs ps
reading_stretch es fs p ps h = reading_by es fs p ps (key_and_value p) refl h

pub reading_none : (es : Pairs) (p : List ℕ) (ps : List (List ℕ)) → key_and_value p ≡ None
    → reading es (p ∷ ps) ≡ None
reading_none es p ps h = rw h refl

-- where reading fails by an error of its own, and is handed on
pub handed_on : {X : Type 0} (Q : Type 0) (r : Result X Error) (e : Error) → IsErrAnd r (λ y. y ≡ e)
    → (e ≡ Invalid → Q) → IfErr r (λ y. y ≡ Invalid → Q)
handed_on Q (Ok x) e h k = absurd h
handed_on Q (Err y) e h k = λ is. k (sym h ∙ is)
