-- The machine's state says which segment is unfinished.
use Rattle.std.proofs.Common.{ℕ, ◌≡◌, ◌⊎◌, inl, inr, Bool, true, false, not, ◌&&◌, if◌then◌else◌, List, [], refl, ap, sym, subst, ◌∙◌, Option}
use Rattle.esc_frame.specs.declared.classes.Kind.{Kind}
use Rattle.esc_frame.specs.declared.machine.Machine.{Machine}
use Rattle.esc_frame.specs.declared.machine.State.{State}
use Rattle.esc_frame.specs.declared.machine.State.TheVariants as state
use Rattle.esc_frame.specs.Limits.{is_read}
use Rattle.esc_frame.specs.Classes.{without_noise}
use Rattle.esc_frame.specs.Leads.{Unfinished, Holds}
use Rattle.esc_frame.specs.Leads.Unfinished.{Ground, Pending, InEscape, InCsi, InDcs, InData, InApc, InIgnored, InOsc, InOscPending}
use Rattle.esc_frame.specs.Machine.Prefixes.{prefix_of}
use Rattle.esc_frame.specs.Machine.Calls.{StaysFresh, is_outside_text}
use Rattle.esc_frame.specs.Machine.Moves.{is_fresh, borrows}
use Rattle.esc_frame.specs.Segments.{Opener, OscUnit, is_empty}
use Rattle.esc_frame.proofs.Borrow.BytesAreLent.{is_string, unborrowed_fresh}

module _ {K A : Type 0} (keeps : Option ℕ → K → List ℕ
    → Type 0) (limit : Option ℕ) (m : Machine K A) where
  -- says which segment may be unfinished in a state, and that it is kept
  abbrev pub IsIn : State → Unfinished → Type 0
  IsIn state.Ground u = (u ≡ Ground)
      ⊎ ((f : List ℕ) × Holds keeps limit m (Pending f) × (u ≡ Pending f))
  IsIn state.Escape u = (x : List ℕ) × Holds keeps limit m (InEscape x) × (u ≡ InEscape x)
  IsIn state.Csi u = (o : Opener) × (x : List ℕ) × Holds keeps limit m (InCsi o x)
      × (u ≡ InCsi o x)
  IsIn state.Osc u =
      ((o : Opener) × (ps : List OscUnit) × Holds keeps limit m (InOsc o ps) × (u ≡ InOsc o ps))
      ⊎ ((o : Opener) × (ps : List OscUnit) × (f : List ℕ)
      × Holds keeps limit m (InOscPending o ps f) × (u ≡ InOscPending o ps f))
  IsIn state.Dcs u = (o : Opener) × (x : List ℕ) × Holds keeps limit m (InDcs o x)
      × (u ≡ InDcs o x)
  IsIn state.Data u = (o : Opener) × (x : List ℕ) × (f : ℕ) × (d : List ℕ)
      × (u ≡ InData o x f d) × (is_read limit (without_noise x) ≡ true)
  IsIn state.Ignored u =
      ((o : Opener) × (x : List ℕ) × (f : ℕ) × (d : List ℕ) × (u ≡ InData o x f d)
      × (is_read limit (without_noise x) ≡ false))
      ⊎ ((k : Kind) × (o : Opener) × (d : List ℕ) × (u ≡ InIgnored k o d))
  IsIn state.Apc u = (o : Opener) × (d : List ℕ) × Holds keeps limit m (InApc o d)
      × (u ≡ InApc o d)

  at : {s : State} (u : Unfinished) → m.state ≡ s → IsIn s u → IsIn m.state u
  at u e i = subst (λ t. IsIn t u) (sym e) i

  data_at : (o : Opener) (x : List ℕ) (f : ℕ) (d : List ℕ) (t : Bool)
      → is_read limit (without_noise x) ≡ t → m.state ≡ (if t then state.Data else state.Ignored)
      → IsIn m.state (InData o x f d)
  data_at o x f d true r e = at (InData o x f d) e (o, x, f, d, refl, r)
  data_at o x f d false r e = at (InData o x f d) e (inl (o, x, f, d, refl, r))

  known : (u : Unfinished) → Holds keeps limit m u → IsIn m.state u
  known Ground h = at Ground h.0 (inl refl)
  known (Pending f) h = at (Pending f) h.0 (inr (f, h, refl))
  known (InEscape x) h = at (InEscape x) h.0 (x, h, refl)
  known (InCsi o x) h = at (InCsi o x) h.0 (o, x, h, refl)
  known (InDcs o x) h = at (InDcs o x) h.0 (o, x, h, refl)
  known (InData o x f d) h = data_at o x f d (is_read limit (without_noise x)) refl h
  known (InApc o d) h = at (InApc o d) h.0 (o, d, h, refl)
  known (InIgnored k o d) h = at (InIgnored k o d) h (inr (k, o, d, refl))
  known (InOsc o ps) h = at (InOsc o ps) h.0 (inl (o, ps, h, refl))
  known (InOscPending o ps f) h = at (InOscPending o ps f) h.0 (inr (o, ps, f, h, refl))

  pub known_in : (s : State) (u : Unfinished) → m.state ≡ s → Holds keeps limit m u → IsIn s u
  known_in s u e h = subst (λ t. IsIn t u) e (known u h)

  -- with no character begun
  pub ground_known : (u : Unfinished) → m.state ≡ state.Ground → prefix_of m.pending ≡ []
      → Holds keeps limit m u → u ≡ Ground
  ground_known u s p h = whole (known_in state.Ground u s h)
    where
      whole : IsIn state.Ground u → u ≡ Ground
      whole (inl e) = e
      whole (inr (f, k, e)) = let n : true ≡ false = ap is_empty (sym p ∙ k.1) ∙ k.2 in absurd cc

  pub osc_known : (u : Unfinished) → m.state ≡ state.Osc → prefix_of m.pending ≡ []
      → Holds keeps limit m u
      → (o : Opener) × (ps : List OscUnit) × Holds keeps limit m (InOsc o ps) × (u ≡ InOsc o ps)
  osc_known u s p h = whole (known_in state.Osc u s h)
    where
      whole : IsIn state.Osc u
          → (o : Opener) × (ps : List OscUnit) × Holds keeps limit m (InOsc o ps)
          × (u ≡ InOsc o ps)
      whole (inl i) = i
      whole (inr (o, ps, f, k, e)) = let n : true ≡ false = ap is_empty (sym p ∙ k.2) ∙ k.3 in
          absurd cc

  -- a byte that is taken by itself is in no string
  pub no_string : (u : Unfinished) → Holds keeps limit m u
      → is_outside_text m.state (prefix_of m.pending) ≡ true → is_string u ≡ false
  no_string (InOsc o ps) h k =
      let e : is_outside_text m.state (prefix_of m.pending) ≡ false =
      ap (λ s. is_outside_text s (prefix_of m.pending)) h.0 ∙ ap (λ f. not (is_empty f)) h.2 in
      let n : true ≡ false = sym k ∙ e in cc
  no_string (InApc o d) h k = let n : true ≡ false =
      sym k ∙ ap (λ s. is_outside_text s (prefix_of m.pending)) h.0 in cc
  no_string _ h k = refl

  -- nothing is fresh in an ignored string, nor in the data of a device control string
  skip_unborrowed : (u : Unfinished) → IsIn state.Ignored u → is_fresh u ≡ false
  skip_unborrowed u (inl i) = rw i.4 refl
  skip_unborrowed u (inr i) = rw i.3 refl

  pub skip_fresh : (u : Unfinished) (rest : List ℕ) (n : ℕ) → m.state ≡ state.Ignored
      → Holds keeps limit m u → StaysFresh u rest n
  skip_fresh u rest n s h =
      unborrowed_fresh u rest n
      (ap (λ t. t && borrows u rest) (skip_unborrowed u (known_in state.Ignored u s h)))

  pub data_fresh : (u : Unfinished) (rest : List ℕ) (n : ℕ) → m.state ≡ state.Data
      → Holds keeps limit m u → StaysFresh u rest n
  data_fresh u rest n s h =
      unborrowed_fresh u rest n (rw (known_in state.Data u s h).4 refl)
