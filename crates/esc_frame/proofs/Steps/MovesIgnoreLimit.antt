-- The unfinished segment after a byte does not depend on the limit.
use Rattle.std.proofs.Common.{ℕ, ◌≡◌, Bool, true, false, List, [], ◌∷◌, ◌++◌, Option, None, refl}
use Rattle.esc_frame.specs.declared.classes.Class.{Class}
use Rattle.esc_frame.specs.declared.classes.Class.TheVariants.{Lead}
use Rattle.esc_frame.specs.declared.utf8.sequence.Outcome.{Outcome}
use Rattle.esc_frame.specs.declared.utf8.sequence.Outcome.TheVariants as outcomes
use Rattle.esc_frame.specs.Classes.{is_breaker, in_csi, in_osc}
use Rattle.esc_frame.specs.Sequences.{is_pair, outcome}
use Rattle.esc_frame.specs.Segments.{Opener, OscUnit}
use Rattle.esc_frame.specs.Segments.OscUnit.{BrokenOff}
use Rattle.esc_frame.specs.Leads.{Unfinished}
use Rattle.esc_frame.specs.Leads.Unfinished.{InEscape, InCsi, InOsc, InOscPending, InDcs, InData, InApc, InIgnored}
use Rattle.esc_frame.specs.Machine.Moves.{move, move_inside, goes_on, final_osc, osc_pending_move, after_by}

module _ (limit : Option ℕ) where
  dcs_same : (o : Opener) (x : List ℕ) (b : ℕ) (c : Class) (w : Bool) → in_csi c ≡ w
      → (goes_on limit (InDcs o x) b c).0 ≡ (goes_on None (InDcs o x) b c).0
  dcs_same o x b c true e = rw (e, goes_on) refl
  dcs_same o x b c false e = rw (e, goes_on) refl

  final_same : (o : Opener) (ps : List OscUnit) (b : ℕ) (c : Class)
      → (final_osc limit o ps b c).0 ≡ (final_osc None o ps b c).0
  final_same o ps b Lead = refl
  final_same o ps b _ = refl

  osc_same : (o : Opener) (ps : List OscUnit) (b : ℕ) (c : Class) (w : Bool) → in_osc c ≡ w
      → (goes_on limit (InOsc o ps) b c).0 ≡ (goes_on None (InOsc o ps) b c).0
  osc_same o ps b c true e = rw (e, goes_on) refl
  osc_same o ps b c false e = rw (e, goes_on) (final_same o ps b c)

  goes_same : (u : Unfinished) (b : ℕ) (c : Class)
      → (goes_on limit u b c).0 ≡ (goes_on None u b c).0
  goes_same (InDcs o x) b c = dcs_same o x b c (in_csi c) refl
  goes_same (InOsc o ps) b c = osc_same o ps b c (in_osc c) refl
  goes_same _ b c = refl

  inside_by : (u : Unfinished) (b : ℕ) (c : Class) (t : Bool) → is_breaker c ≡ t
      → (move_inside limit u b c).0 ≡ (move_inside None u b c).0
  inside_by u b c true e = rw (e, move_inside) refl
  inside_by u b c false e = rw (e, move_inside) (goes_same u b c)

  inside_same : (u : Unfinished) (b : ℕ) (c : Class)
      → (move_inside limit u b c).0 ≡ (move_inside None u b c).0
  inside_same u b c = inside_by u b c (is_breaker c) refl

  whole_same : (o : Opener) (ps : List OscUnit) (f : List ℕ) (b : ℕ) (c : Class) (t : Bool)
      → is_pair (f ++ b ∷ []) ≡ t
      → (osc_pending_move limit o ps f b c outcomes.Whole).0
      ≡ (osc_pending_move None o ps f b c outcomes.Whole).0
  whole_same o ps f b c true e = rw (e, osc_pending_move) refl
  whole_same o ps f b c false e = rw (e, osc_pending_move) refl

  pending_same : (o : Opener) (ps : List OscUnit) (f : List ℕ) (b : ℕ) (c : Class) (w : Outcome)
      → (osc_pending_move limit o ps f b c w).0 ≡ (osc_pending_move None o ps f b c w).0
  pending_same o ps f b c outcomes.Whole = whole_same o ps f b c (is_pair (f ++ b ∷ [])) refl
  pending_same o ps f b c outcomes.More = refl
  pending_same o ps f b c outcomes.Broken = inside_same (InOsc o (ps ++ BrokenOff f ∷ [])) b c

  pub after_same : (u : Unfinished) (b : ℕ) (c : Class) → (move limit u b c).0 ≡ after_by u b c
  after_same (InOscPending o ps f) b c = pending_same o ps f b c (outcome f b)
  after_same (InEscape x) b c = inside_same (InEscape x) b c
  after_same (InCsi o x) b c = inside_same (InCsi o x) b c
  after_same (InDcs o x) b c = inside_same (InDcs o x) b c
  after_same (InData o x f d) b c = inside_same (InData o x f d) b c
  after_same (InApc o d) b c = inside_same (InApc o d) b c
  after_same (InIgnored k o d) b c = inside_same (InIgnored k o d) b c
  after_same (InOsc o ps) b c = inside_same (InOsc o ps) b c
  after_same _ b c = refl
