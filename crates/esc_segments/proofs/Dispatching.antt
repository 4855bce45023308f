-- The events of sequences and strings, from the events of their parts.
use Rattle.std.proofs.Common.{ℕ, ◌≡◌, ◌+◌, ◌-◌, ◌<◌, Bool, true, false, cond, List, [], ◌∷◌, ◌++◌, length, take, drop, get_or}
use Rattle.std.proofs.Common.{Result, refl, ap, sym, ◌∙◌, subst, append_assoc, length-append, arith}
use Rattle.std.specs.List.{FoldsTo, prefix_len}
use Rattle.std.proofs.Math.Seq.{get_or-append_seam}
use Rattle.std.proofs.lemmas.List.{take_at, drop_at, take_rest}
use Rattle.std.proofs.lemmas.Bool.Decides.{nat_tests}
use Rattle.esc_frame.specs.declared.classes.Class.{Class}
use Rattle.esc_frame.specs.declared.classes.Class.TheVariants.{Introducer, Final}
use Rattle.esc_frame.specs.declared.classes.Kind.{Kind}
use Rattle.esc_frame.specs.declared.classes.Kind.TheVariants as kind
use Rattle.esc_frame.specs.Bodies.{is_dcs_parameter}
use Rattle.esc_frame.specs.Classes.{class_of, AllOf, ends_csi, ends_escape, in_csi, is_noise, without_noise}
use Rattle.esc_frame.specs.Events.{Event, StopsAt, Takes}
use Rattle.esc_frame.specs.Machine.Keeps.{parameters_of}
use Rattle.esc_frame.specs.Segments.{Ending, Opener, OscUnit, csi_events, escape_event, executes, is_finished, opener, opener_events}
use Rattle.esc_frame.specs.Segments.Ending.{Open, Rung, Waits}
use Rattle.esc_frame.specs.Segments.Segment.{Osc}
use Rattle.esc_frame.proofs.Emits.EventsFold.{stops_for, stops_more, stops_then, stops_here}
use Rattle.esc_segments.specs.Parts.{is_over}
use Rattle.esc_segments.proofs.Beginnings.{run_is}
use Rattle.esc_segments.proofs.Executes.{executes_opener, executes_whole_csi, executes_whole_escape}
use Rattle.esc_segments.proofs.Emitted.{takes_then}

-- ---- the last byte, and those before it

pub before_last : (body x : List ℕ) (f : ℕ) → body ≡ x ++ f ∷ [] → take (length body - 1) body ≡ x
before_last body x f e =
    let one : length (f ∷ []) ≡ 1 = refl in
    let l : length x ≡ length body - 1 = omega (arith, ap length e, length-append x (f ∷ [])) in
    ap (take (length body - 1)) e ∙ take_at x (f ∷ []) (length body - 1) l

pub last_is : (body x : List ℕ) (f : ℕ) → body ≡ x ++ f ∷ [] → get_or body (length body - 1) 0 ≡ f
last_is body x f e =
    let one : length (f ∷ []) ≡ 1 = refl in
    let l : length body - 1 ≡ length x = omega (arith, ap length e, length-append x (f ∷ [])) in
    ap (λ i. get_or body i 0) l ∙ ap (λ y. get_or y (length x) 0) e ∙ get_or-append_seam x f [] 0

-- the same after a first byte
pub inner_is : (bytes x : List ℕ) (a f : ℕ) → bytes ≡ (a ∷ x) ++ f ∷ []
    → take (length bytes - 1 - 1) (drop 1 bytes) ≡ x
inner_is bytes x a f e =
    let one : length (f ∷ []) ≡ 1 = refl in
    let more : length (a ∷ x) ≡ 1 + length x = omega arith in
    let l : length x ≡ length bytes - 1 - 1 =
    omega (arith, ap length e, length-append (a ∷ x) (f ∷ [])) in
    ap (λ y. take (length bytes - 1 - 1) (drop 1 y)) e ∙ take_at x (f ∷ []) (length bytes - 1 - 1) l

module _ {S E : Type 0} (own : Type 0) (takes refuses : S → Event → S → Type 0)
    (result : Result (Unit {0}) E) (old mid new : S) where
  -- an escape sequence
  pub escape_emitted : (bytes x m : List ℕ) (f l : ℕ) → bytes ≡ (0x1b ∷ x) ++ f ∷ []
      → ends_escape (class_of f) ≡ true → m ≡ x → l ≡ f
      → FoldsTo takes old (executes bytes) mid
      → Takes own takes refuses result mid (escape_event (without_noise m) l ∷ []) new
      → Takes own takes refuses result old (executes x ++ escape_event (without_noise x) f ∷ []) new
  escape_emitted bytes x m f l e h i j first next =
      let es : executes bytes ≡ executes x = ap executes e ∙ executes_whole_escape x f h in
      let one : escape_event (without_noise m) l ≡ escape_event (without_noise x) f =
      ap (λ y. escape_event (without_noise y) l) i ∙ ap (escape_event (without_noise x)) j in
      takes_then own takes refuses result (executes x) (escape_event (without_noise x) f ∷ []) old
      mid new
      (subst (λ y. FoldsTo takes old y mid) es first)
      (subst (λ y. Takes own takes refuses result mid (y ∷ []) new) one next)

  -- a control sequence
  pub csi_emitted : (bytes x m : List ℕ) (o : Opener) (f l : ℕ)
      → bytes ≡ opener kind.Csi o ++ x ++ f ∷ [] → ends_csi (class_of f) ≡ true → m ≡ x → l ≡ f
      → FoldsTo takes old (executes bytes) mid
      → Takes own takes refuses result mid (csi_events (without_noise m) l) new
      → Takes own takes refuses result old
      (opener_events o ++ executes x ++ csi_events (without_noise x) f)
      new
  csi_emitted bytes x m o f l e h i j first next =
      let es : executes bytes ≡ opener_events o ++ executes x =
      ap executes e ∙ executes_whole_csi o x f h in
      let one : csi_events (without_noise m) l ≡ csi_events (without_noise x) f =
      ap (λ y. csi_events (without_noise y) l) i ∙ ap (csi_events (without_noise x)) j in
      takes_then own takes refuses result (opener_events o ++ executes x)
      (csi_events (without_noise x) f)
      old mid new
      (subst (λ y. FoldsTo takes old y mid) es first)
      (subst (λ y. Takes own takes refuses result mid y new) one next)

  -- a string, after its opener
  pub string_emitted : (k : Kind) (o : Opener) (prefix : List ℕ) (es : List Event)
      → prefix ≡ opener k o
      → FoldsTo takes old (executes prefix) mid
      → Takes own takes refuses result mid es new
      → Takes own takes refuses result old (opener_events o ++ es) new
  string_emitted k o prefix es e first next =
      takes_then own takes refuses result (opener_events o) es old mid new
      (subst (λ y. FoldsTo takes old y mid) (ap executes e ∙ executes_opener k o) first) next

-- a call that was refused in the opener, and the giver that stopped after it
module _ {S : Type 0} (own : Type 0) (takes refuses : S → Event → S → Type 0) (old new : S) where
  pub string_stops : (k : Kind) (o : Opener) (prefix : List ℕ) (es : List Event)
      → prefix ≡ opener k o
      → StopsAt ⊥ takes refuses old (executes prefix) new
      → StopsAt own takes refuses old (opener_events o ++ es) new
  string_stops k o prefix es e h =
      stops_more own takes refuses (opener_events o) es old new
      (subst (λ y. StopsAt own takes refuses old y new) (ap executes e ∙ executes_opener k o)
      (stops_for ⊥ own takes refuses (executes prefix) old new (λ no. absurd no) h))

  pub string_halts : (k : Kind) (o : Opener) (prefix : List ℕ) (es : List Event) → own
      → prefix ≡ opener k o → FoldsTo takes old (executes prefix) new
      → StopsAt own takes refuses old (opener_events o ++ es) new
  string_halts k o prefix es w e h =
      stops_then own takes refuses (opener_events o) es old new new
      (subst (λ y. FoldsTo takes old y new) (ap executes e ∙ executes_opener k o) h)
      (stops_here own takes refuses es new w)

-- ---- an operating system command

pub over_is : (o : Opener) (ps : List OscUnit) (e : Ending) (after : List ℕ) (w : Bool) → w ≡ true
    → w ≡ is_finished (Osc o ps e) after → is_over e ≡ true
over_is o ps Open after w t f = refl
over_is o ps Rung after w t f = refl
over_is o ps (Waits x) after w t f = let z : true ≡ false = sym t ∙ f in absurd cc

-- ---- a device control string

final_no : (c : Class) → ends_csi c ≡ true → in_csi c ≡ false
final_no (Introducer k) h = refl
final_no Final h = refl
final_no _ h = absurd cc

-- its header, its final byte and its data
pub record Header (body x d : List ℕ) (f run : ℕ) : Type 0 where
  pub header : take run body ≡ x
  pub final : get_or body run 0 ≡ f
  pub content : take (length body - (run + 1)) (drop (run + 1) body) ≡ d
  pub room : run < length body

pub header_is : (body x d : List ℕ) (f run : ℕ) → body ≡ x ++ f ∷ d → AllOf in_csi x
    → ends_csi (class_of f) ≡ true
    → run ≡ prefix_len (λ b. in_csi (class_of b)) body → Header body x d f run
header_is body x d f run e a h r =
    let n : run ≡ length x = r ∙ ap (prefix_len (λ b. in_csi (class_of b))) e
    ∙ run_is (λ b. in_csi (class_of b)) x f d a (final_no (class_of f) h) in
    let one : length (f ∷ []) ≡ 1 = refl in
    let more : length (f ∷ d) ≡ 1 + length d = omega arith in
    let next : length (x ++ f ∷ []) ≡ run + 1 = omega (arith, length-append x (f ∷ [])) in record {
      header = ap (take run) e ∙ take_at x (f ∷ d) run (sym n);
      final = ap (λ i. get_or body i 0) n ∙ ap (λ y. get_or y (length x) 0) e
          ∙ get_or-append_seam x f d 0;
      content = take_rest body (run + 1) ∙ ap (drop (run + 1)) (e ∙ sym (append_assoc x (f ∷ []) d))
          ∙ drop_at (x ++ f ∷ []) d (run + 1) next;
      room = omega (arith, ap length e, length-append x (f ∷ d));
    }

-- a property of the slices is a property of the parts
pub header_moves : (body x d : List ℕ) (f run : ℕ) → Header body x d f run
    → (P : List ℕ → ℕ → List ℕ → Type 0)
    → P (take run body) (get_or body run 0) (take (length body - (run + 1)) (drop (run + 1) body))
    → P x f d
header_moves body x d f run h P p =
    let back : List ℕ = take (length body - (run + 1)) (drop (run + 1) body) in
    subst (λ z. P x f z) h.content
    (subst (λ z. P x z back) h.final (subst (λ z. P z (get_or body run 0) back) h.header p))

noise_no : (b : ℕ) → is_noise (class_of b) ≡ true → is_dcs_parameter b ≡ false
unfolding class_of
noise_no b h = grind (arith, nat_tests)

strip_by : (b : ℕ) (x : List ℕ) (t : Bool) → is_noise (class_of b) ≡ t
    → parameters_of x ≡ parameters_of (without_noise x)
    → parameters_of (b ∷ x) ≡ parameters_of (without_noise (b ∷ x))
strip_by b x true e ih = rw e (rw (noise_no b e) ih)
strip_by b x false e ih = rw e (ap (λ y. cond (is_dcs_parameter b) (b ∷ y) y) ih)

-- noise is no parameter byte
pub parameters_strip : (x : List ℕ) → parameters_of x ≡ parameters_of (without_noise x)
parameters_strip [] = refl
parameters_strip (b ∷ x) = strip_by b x (is_noise (class_of b)) refl (parameters_strip x)
