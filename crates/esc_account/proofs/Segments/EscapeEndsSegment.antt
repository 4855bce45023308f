-- A segment by itself: an ESC after it ends it, and means nothing.
use Rattle.std.proofs.Common.{ℕ, ◌≡◌, Bool, true, false, not, ◌&&◌, ◌==◌, if◌then◌else◌, List, [], ◌∷◌, ◌++◌, Option, refl, sym, ap, ◌∙◌, append-nil}
use Rattle.esc_frame.specs.Sequences.{continues, is_broken_before, is_from, is_prefix, is_second, is_sequence, is_tail}
use Rattle.esc_frame.specs.Segments.{Segment as Shape, AreSegments, AreOscUnits, HasShape, IsCut, OscUnit, bytes_of, ends_itself, is_finished, joined_bytes, text_bytes}
use Rattle.esc_frame.specs.Segments.Ending.{Open, Rung, Waits}
use Rattle.esc_frame.specs.Segments.OscUnit.{One, Sequence, BrokenOff}
use Rattle.esc_frame.specs.Segments.Segment.{Character, Wide, Broken, Stray, Control, HighControl, Terminator, Escape, Csi, Osc, Dcs, Apc, Ignored}
use Rattle.esc_frame.specs.Segments.Segment.{CutEscape, CutCsi, CutDcs}
use Rattle.esc_frame.proofs.ByteRuns.CsiRuns.{escape_class}
use Rattle.esc_frame.proofs.Steps.CutGrows.{finished_before}
use Rattle.esc_actions.specs.Meaning.{meaning_within}
use Rattle.esc_actions.specs.Readings.{MeansItsCut, reading_within}

-- ---- ESC goes on with no character

and_none : (t : Bool) → (t && false) ≡ false
and_none true = refl
and_none false = refl

no_second : (a : ℕ) → is_second a 0x1b ≡ false
no_second a = by (a == 0xe0) (a == 0xed) (a == 0xf0) (a == 0xf4)
  where
    by : (p q r s : Bool)
        → (if p then false else if q then false else if r then false else if s then false
        else false) ≡ false
    by true q r s = refl
    by false true r s = refl
    by false false true s = refl
    by false false false true = refl
    by false false false false = refl

escape_breaks : (f : List ℕ) → not (continues f 0x1b) ≡ true
unfolding is_sequence is_prefix
escape_breaks [] = refl
escape_breaks (a ∷ []) =
    rw (and_none (is_from 0xc2 0xdf a), no_second a, and_none (is_from 0xe0 0xf4 a)) refl
escape_breaks (a ∷ b ∷ []) =
    rw (
      and_none (is_from 0xe0 0xef a && is_second a b),
      and_none (is_from 0xf0 0xf4 a && is_second a b),
    ) refl
escape_breaks (a ∷ b ∷ c ∷ []) =
    rw (and_none (is_from 0xf0 0xf4 a && is_second a b && is_tail c)) refl
escape_breaks (a ∷ b ∷ c ∷ d ∷ []) = refl
escape_breaks (a ∷ b ∷ c ∷ d ∷ e ∷ f) = refl

escape_instead : (f y : List ℕ) (a : ℕ) (t : List ℕ) → is_broken_before f (y ++ a ∷ t) ≡ true
    → is_broken_before f (y ++ 0x1b ∷ []) ≡ true
escape_instead f [] a t h = escape_breaks f
escape_instead f (c ∷ y) a t h = h

parts_ended : (ps : List OscUnit) (a : ℕ) (t : List ℕ) → AreOscUnits ps (a ∷ t)
    → AreOscUnits ps (0x1b ∷ [])
parts_ended [] a t h = tt
parts_ended (One b ∷ ps) a t (h, r) = (h, parts_ended ps a t r)
parts_ended (Sequence x ∷ ps) a t (h, r) = (h, parts_ended ps a t r)
parts_ended (BrokenOff x ∷ ps) a t (h, r) =
    ((h.0, escape_instead x (text_bytes ps) a t h.1), parts_ended ps a t r)

-- where the byte that follows stays, a part is one whatever comes after that
same_break : (f y : List ℕ) (b : ℕ) (t u : List ℕ) → is_broken_before f (y ++ b ∷ t) ≡ true
    → is_broken_before f (y ++ b ∷ u) ≡ true
same_break f [] b t u h = h
same_break f (c ∷ y) b t u h = h

pub parts_rung : (ps : List OscUnit) (b : ℕ) (t u : List ℕ) → AreOscUnits ps (b ∷ t)
    → AreOscUnits ps (b ∷ u)
parts_rung [] b t u h = tt
parts_rung (One c ∷ ps) b t u (h, r) = (h, parts_rung ps b t u r)
parts_rung (Sequence x ∷ ps) b t u (h, r) = (h, parts_rung ps b t u r)
parts_rung (BrokenOff x ∷ ps) b t u (h, r) =
    ((h.0, same_break x (text_bytes ps) b t u h.1), parts_rung ps b t u r)

-- ---- a segment that is finished is so where ESC follows

abbrev Ends : Shape → Type 0
Ends g = HasShape g (0x1b ∷ []) × (is_finished g (0x1b ∷ []) ≡ true)

ended_by : (g : Shape) (a : ℕ) (t : List ℕ) → HasShape g (a ∷ t) → is_finished g (a ∷ t) ≡ true
    → Ends g
ended_by (Character b) a t h f = (h, refl)
ended_by (Wide x) a t h f = (h, refl)
ended_by (Broken x) a t h f = (h, escape_breaks x)
ended_by (Stray b) a t h f = (h, refl)
ended_by (Control b) a t h f = (h, refl)
ended_by (HighControl p b) a t h f = (h, refl)
ended_by (Terminator p b) a t h f = (h, refl)
ended_by (Escape x e) a t h f = (h, refl)
ended_by (Csi o x e) a t h f = (h, refl)
ended_by (Osc o ps Open) a t h f = ((h.0, parts_ended ps a t h.1, tt), rw escape_class refl)
ended_by (Osc o ps Rung) a t h f = ((h.0, parts_rung ps 0x07 (a ∷ t) (0x1b ∷ []) h.1, tt), refl)
ended_by (Osc o ps (Waits x)) a t h f = absurd cc
ended_by (Dcs o x e d) a t h f = (h, rw escape_class refl)
ended_by (Apc o d) a t h f = (h, rw escape_class refl)
ended_by (Ignored k o d) a t h f = (h, rw escape_class refl)
ended_by (CutEscape x) a t h f = (h, rw escape_class refl)
ended_by (CutCsi o x) a t h f = (h, rw escape_class refl)
ended_by (CutDcs o x) a t h f = (h, rw escape_class refl)

ended : (g : Shape) (t : List ℕ) → HasShape g t → is_finished g t ≡ true → Ends g
ended g [] h f = let e = finished_before (g ∷ []) [] 0x1b (h, f, tt) in (e.0, e.1)
ended g (a ∷ t) h f = ended_by g a t h f

pub first_shape : (g : Shape) (gs : List Shape) → AreSegments (g ∷ gs)
    → HasShape g (joined_bytes gs)
first_shape g [] each = each
first_shape g (h ∷ gs) each = each.0

-- ---- meaning

same_end : (g : Shape) → ends_itself g ≡ is_finished g []
same_end (Osc o ps Open) = refl
same_end (Osc o ps Rung) = refl
same_end (Osc o ps (Waits x)) = refl
same_end _ = refl

module _ {A : Type 0} (means : MeansItsCut A) (limit : Option ℕ) where
  reads_ended : (g : Shape) (gs : List Shape) → AreSegments (g ∷ gs)
      → is_finished g (joined_bytes gs) ≡ true
      → meaning_within {A = A} limit (bytes_of g ++ 0x1b ∷ []) ≡ reading_within limit g true
  reads_ended g gs each f =
      let e = ended g (joined_bytes gs) (first_shape g gs each) f in
      let cut : IsCut (bytes_of g ++ 0x1b ∷ []) (g ∷ CutEscape [] ∷ []) =
      record { whole = refl; each = (e.0, e.1, refl) } in
      means limit (bytes_of g ++ 0x1b ∷ []) (g ∷ CutEscape [] ∷ []) cut
      ∙ append-nil (reading_within limit g true)

  reads_open : (g : Shape) (gs : List Shape) → AreSegments (g ∷ gs)
      → is_finished g (joined_bytes gs) ≡ false
      → meaning_within {A = A} limit (bytes_of g) ≡ reading_within limit g false
  reads_open g [] each f =
      let cut : IsCut (bytes_of g) (g ∷ []) =
      record { whole = sym (append-nil (bytes_of g)); each = each } in
      means limit (bytes_of g) (g ∷ []) cut
      ∙ ap (reading_within limit g) (same_end g ∙ f)
  reads_open g (h ∷ gs) each f = absurd (both (is_finished g (joined_bytes (h ∷ gs))) each.1 f)
    where
      both : (b : Bool) → b ≡ true → b ≡ false → ⊥
      both true p q = cc
      both false p q = cc

  -- by whether the item says that it is finished
  pub reads_finished : (g : Shape) (gs : List Shape) (b : Bool) (bytes : List ℕ)
      → AreSegments (g ∷ gs) → b ≡ is_finished g (joined_bytes gs) → b ≡ true
      → bytes ≡ bytes_of g ++ 0x1b ∷ []
      → meaning_within {A = A} limit bytes
      ≡ reading_within limit g (is_finished g (joined_bytes gs))
  reads_finished g gs b bytes each e t same =
      ap (meaning_within limit) same ∙ reads_ended g gs each (sym e ∙ t)
      ∙ ap (reading_within limit g) (sym t ∙ e)

  pub reads_unfinished : (g : Shape) (gs : List Shape) (b : Bool) (bytes : List ℕ)
      → AreSegments (g ∷ gs) → b ≡ is_finished g (joined_bytes gs) → b ≡ false → bytes ≡ bytes_of g
      → meaning_within {A = A} limit bytes
      ≡ reading_within limit g (is_finished g (joined_bytes gs))
  reads_unfinished g gs b bytes each e t same =
      ap (meaning_within limit) same ∙ reads_open g gs each (sym e ∙ t)
      ∙ ap (reading_within limit g) (sym t ∙ e)
