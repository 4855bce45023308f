-- A string grows by a byte or a sequence.
use Rattle.std.proofs.Common.{ℕ, ◌≡◌, true, false, not, List, [], ◌∷◌, ◌++◌, Option, Result, Ok, Err, OnOk, OnErr, refl, ap, sym, ◌∙◌, subst, inl}
use Rattle.std.proofs.lemmas.List.{append-nil}
use Rattle.std.proofs.lemmas.List.Concat.{flat_map-append}
use Rattle.std.proofs.lemmas.List.Elements.{filter-append}
use Rattle.esc_frame.specs.declared.classes.Class.{Class}
use Rattle.esc_frame.specs.declared.classes.Class.TheVariants.{Intermediate, Parameter, Introducer, Final, Delete}
use Rattle.esc_frame.specs.declared.machine.Machine.{Machine}
use Rattle.esc_frame.specs.declared.machine.State.TheVariants as state
use Rattle.esc_frame.specs.declared.utf8.sequence.Outcome.TheVariants as outcomes
use Rattle.esc_frame.specs.Sequences.{is_pair}
use Rattle.esc_frame.specs.Classes.{class_of, without_noise, bytes_of_class, is_text, is_noise, is_breaker, in_body, in_csi, in_osc}
use Rattle.esc_frame.specs.Events.{Event}
use Rattle.esc_frame.specs.Leads.Unfinished.{InOsc, InApc, InDcs}
use Rattle.esc_frame.specs.Machine.Calls.{Moved, Fails}
use Rattle.esc_frame.specs.Machine.Prefixes.{prefix_of}
use Rattle.esc_frame.specs.Machine.Keeps.{KeepsDcs, parameters_of}
use Rattle.esc_frame.specs.Machine.Moves.{move_inside, goes_on, osc_pending_move}
use Rattle.esc_frame.specs.Segments.{Opener, OscUnit, text_of, kept_of}
use Rattle.esc_frame.specs.Segments.OscUnit.{One, Sequence}

text_byte : (b : ℕ) (c : Class) → c ≡ class_of b → is_text c ≡ true
    → bytes_of_class is_text (b ∷ []) ≡ b ∷ []
text_byte b c e h = rw (subst (λ k. is_text k ≡ true) e h) refl

text_one : (ps : List OscUnit) (b : ℕ) (c : Class) → c ≡ class_of b → is_text c ≡ true
    → text_of ps ++ b ∷ [] ≡ text_of (ps ++ One b ∷ [])
text_one ps b c e h =
    sym (flat_map-append kept_of ps (One b ∷ [])
    ∙ ap (λ y. text_of ps ++ y) (append-nil (kept_of (One b)) ∙ text_byte b c e h))

pub text_sequence : (ps : List OscUnit) (x : List ℕ)
    → text_of ps ++ x ≡ text_of (ps ++ Sequence x ∷ [])
text_sequence ps x =
    sym (flat_map-append kept_of ps (Sequence x ∷ []) ∙ ap (λ y. text_of ps ++ y) (append-nil x))

apc_one : (d : List ℕ) (b : ℕ) (c : Class) → c ≡ class_of b → is_text c ≡ true
    → bytes_of_class is_text d ++ b ∷ [] ≡ bytes_of_class is_text (d ++ b ∷ [])
apc_one d b c e h =
    sym (filter-append (λ b. is_text (class_of b)) d (b ∷ [])
    ∙ ap (λ y. bytes_of_class is_text d ++ y) (text_byte b c e h))

kept_in_body : (c : Class) → in_body c ≡ true → not (is_noise c) ≡ true
kept_in_body Intermediate h = refl
kept_in_body Parameter h = refl
kept_in_body _ h = absurd cc

strip_one : (x : List ℕ) (b : ℕ) (c : Class) → c ≡ class_of b → in_body c ≡ true
    → without_noise x ++ b ∷ [] ≡ without_noise (x ++ b ∷ [])
strip_one x b c e h =
    let k : not (is_noise (class_of b)) ≡ true =
    subst (λ i. not (is_noise i) ≡ true) e (kept_in_body c h) in
    sym (filter-append (λ b. not (is_noise (class_of b))) x (b ∷ [])
    ∙ ap (λ y. without_noise x ++ y) (rw k refl))

text_goes : (c : Class) → is_text c ≡ true → (is_breaker c ≡ false) × (in_osc c ≡ true)
text_goes Intermediate h = (refl, refl)
text_goes Parameter h = (refl, refl)
text_goes (Introducer k) h = (refl, refl)
text_goes Final h = (refl, refl)
text_goes Delete h = (refl, refl)
text_goes _ h = absurd cc

body_goes : (c : Class) → in_body c ≡ true → (is_breaker c ≡ false) × (in_csi c ≡ true)
body_goes Intermediate h = (refl, refl)
body_goes Parameter h = (refl, refl)
body_goes _ h = absurd cc

-- a sequence in an operating system command, which is no control
pub sequence_pushed : {K A S E : Type 0} (keeps : Option ℕ → K → List ℕ → Type 0)
    (may_fail : Option ℕ → Type 0) (stops : Type 0 → List ℕ → Type 0) (limit : Option ℕ)
    (takes refuses : S → Event → S → Type 0) (result : Result (Unit {0}) E) (m : Machine K A)
    (o : Opener) (ps : List OscUnit) (f : List ℕ) (b : ℕ) (c : Class) (old : S)
    → OnErr result (may_fail limit) → is_pair (f ++ b ∷ []) ≡ false → m.state ≡ state.Osc
    → prefix_of m.pending ≡ [] → OnOk result (keeps limit m.text (text_of ps ++ (f ++ b ∷ [])))
    → Moved keeps (Fails may_fail stops A) limit true takes refuses result
    (osc_pending_move limit o ps f b c outcomes.Whole) m old old
sequence_pushed keeps may_fail stops limit takes refuses (Ok v) m o ps f b c old r n s p k =
    rw (n, osc_pending_move)
    ((s, subst (keeps limit m.text) (text_sequence ps (f ++ b ∷ [])) k, p), refl)
sequence_pushed keeps may_fail stops limit takes refuses (Err v) m o ps f b c old r n s p k =
    rw (n, osc_pending_move) ([], [], refl, inl ((refl, inl r), refl))

module _ {K A S E : Type 0} (keeps : Option ℕ → K → List ℕ → Type 0) (may_fail : Option ℕ → Type 0)
    (stops : Type 0 → List ℕ → Type 0)
    (limit : Option ℕ)
    (takes refuses : S → Event → S → Type 0) (result : Result (Unit {0}) E)
    (refused : OnErr result (may_fail limit))
    (m : Machine K A) (o : Opener) (b : ℕ) (c : Class) (old : S) (e : c ≡ class_of b) where
  pub osc_pushed : (ps : List OscUnit) → is_text c ≡ true → m.state ≡ state.Osc
      → prefix_of m.pending ≡ []
      → OnOk result (keeps limit m.text (text_of ps ++ b ∷ []))
      → Moved keeps (Fails may_fail stops A) limit true takes refuses result
      (move_inside limit (InOsc o ps) b c) m old old
  osc_pushed ps h s p k = by_result result k refused
    where
      by_result : (r : Result (Unit {0}) E) → OnOk r (keeps limit m.text (text_of ps ++ b ∷ []))
          → OnErr r (may_fail limit) → Moved keeps (Fails may_fail stops A) limit true takes refuses
          r
          (move_inside limit (InOsc o ps) b c) m old old
      by_result (Ok v) k f =
          let t = text_goes c h in rw (t.0, t.1, move_inside, goes_on)
          ((s, subst (keeps limit m.text) (text_one ps b c e h) k, p), refl)
      by_result (Err v) k f =
          let t = text_goes c h in rw (t.0, t.1, move_inside, goes_on)
          ([], [], refl, inl ((refl, inl f), refl))

  pub apc_pushed : (d : List ℕ) → is_text c ≡ true → m.state ≡ state.Apc
      → OnOk result (keeps limit m.text (bytes_of_class is_text d ++ b ∷ []))
      → Moved keeps (Fails may_fail stops A) limit true takes refuses result
      (move_inside limit (InApc o d) b c) m old old
  apc_pushed d h s k = by_result result k refused
    where
      by_result : (r : Result (Unit {0}) E)
          → OnOk r (keeps limit m.text (bytes_of_class is_text d ++ b ∷ []))
          → OnErr r (may_fail limit) → Moved keeps (Fails may_fail stops A) limit true takes refuses
          r
          (move_inside limit (InApc o d) b c) m old old
      by_result (Ok v) k f =
          let t = text_goes c h in rw (t.0, move_inside, goes_on)
          ((s, subst (keeps limit m.text) (apc_one d b c e h) k), refl)
      by_result (Err v) k f =
          let t = text_goes c h in rw (t.0, move_inside, goes_on)
          ([], [], refl, inl ((refl, inl f), refl))

  pub dcs_pushed : (x : List ℕ) → in_body c ≡ true → m.state ≡ state.Dcs
      → KeepsDcs m.header (without_noise x ++ b ∷ [])
      → OnOk result (keeps limit m.text (parameters_of (without_noise x ++ b ∷ [])))
      → Moved keeps (Fails may_fail stops A) limit true takes refuses result
      (move_inside limit (InDcs o x) b c) m old old
  dcs_pushed x h s d k = by_result result k refused
    where
      by_result : (r : Result (Unit {0}) E)
          → OnOk r (keeps limit m.text (parameters_of (without_noise x ++ b ∷ [])))
          → OnErr r (may_fail limit) → Moved keeps (Fails may_fail stops A) limit true takes refuses
          r
          (move_inside limit (InDcs o x) b c) m old old
      by_result (Ok v) k f =
          let t = body_goes c h in
          let j = strip_one x b c e h in
          rw (t.0, t.1, move_inside, goes_on) (
            (
              s,
              subst (λ y. keeps limit m.text (parameters_of y)) j k,
              subst (KeepsDcs m.header) j d,
            ),
            refl,
          )
      by_result (Err v) k f =
          let t = body_goes c h in rw (t.0, t.1, move_inside, goes_on)
          ([], [], refl, inl ((refl, inl f), refl))
