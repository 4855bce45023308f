-- Escape sequences and control sequences say their events.
use Rattle.std.proofs.Common.{ℕ, ◌≡◌, Bool, true, false, not, ◌&&◌, if◌then◌else◌, List, [], ◌∷◌, ◌++◌, refl, ap, arith}
use Rattle.std.specs.List.{list_all}
use Rattle.std.proofs.lemmas.Bool.{and_parts}
use Rattle.std.proofs.lemmas.Bool.Decides.{nat_tests}
use Rattle.esc_frame.specs.declared.classes.Class.{Class}
use Rattle.esc_frame.specs.declared.classes.Class.TheVariants.{Intermediate, Parameter}
use Rattle.esc_frame.specs.Classes.{class_of, AllOf, bytes_of_class, without_noise, is_c0, is_noise, is_intermediate, in_body, in_escape, in_csi, ends_escape, ends_csi}
use Rattle.esc_frame.specs.Classes.{opens}
use Rattle.esc_frame.specs.Bodies.{is_csi_body, kept_intermediates, has_more_intermediates}
use Rattle.esc_frame.specs.Scans.{is_body_byte}
use Rattle.esc_frame.specs.Events.Event.{EscDispatch}
use Rattle.esc_frame.specs.Fits.{IsOneSegment}
use Rattle.esc_frame.specs.Segments.{bytes_of, events_of, executes, is_empty, csi_event}
use Rattle.esc_frame.specs.Segments.Segment.{Csi}
use Rattle.esc_frame.specs.Segments.Segment.{Escape as EscapeOf}
use Rattle.esc_frame.specs.Segments.Opener.{Long}
use Rattle.esc_frame.specs.Stream.{Says}
use Rattle.esc_frame.proofs.Emits.SegmentsSay.{says_by, says_one}

-- a test that another implies, byte by byte
pub all_by : (p q : Class → Bool) → ((c : Class) → p c ≡ true → q c ≡ true) → (x : List ℕ)
    → AllOf p x → AllOf q x
all_by p q f [] h = refl
all_by p q f (b ∷ x) h = let w = and_parts (p (class_of b)) (list_all (λ b. p (class_of b)) x) h in
    rw (f (class_of b) w.0, all_by p q f x w.1) refl

pub all_those : (p : Class → Bool) (x : List ℕ) → AllOf p x → bytes_of_class p x ≡ x
all_those p [] h = refl
all_those p (b ∷ x) h = let w = and_parts (p (class_of b)) (list_all (λ b. p (class_of b)) x) h in
    rw w.0 (ap (λ y. b ∷ y) (all_those p x w.1))

-- bytes 20-3F are neither noise nor a control
body_csi : (c : Class) → in_body c ≡ true → in_csi c ≡ true
body_csi Intermediate h = refl
body_csi Parameter h = refl
body_csi _ h = absurd cc

body_kept : (c : Class) → in_body c ≡ true → not (is_noise c) ≡ true
body_kept Intermediate h = refl
body_kept Parameter h = refl
body_kept _ h = absurd cc

body_silent : (c : Class) → in_body c ≡ true → is_c0 c ≡ false
body_silent Intermediate h = refl
body_silent Parameter h = refl
body_silent _ h = absurd cc

pub body_in : (x : List ℕ) → AllOf in_body x → AllOf in_csi x
body_in x h = all_by in_body in_csi body_csi x h

pub body_strip : (x : List ℕ) → AllOf in_body x → without_noise x ≡ x
body_strip x h =
    all_those (λ c. not (is_noise c)) x (all_by in_body (λ c. not (is_noise c)) body_kept x h)

body_executes : (x : List ℕ) → AllOf in_body x → executes x ≡ []
body_executes [] h = refl
body_executes (b ∷ x) h =
    let w = and_parts (in_body (class_of b)) (list_all (λ b. in_body (class_of b)) x) h in
    rw (body_silent (class_of b) w.0) (body_executes x w.1)

intermediate_body : (c : Class) → is_intermediate c ≡ true → in_body c ≡ true
intermediate_body Intermediate h = refl
intermediate_body _ h = absurd cc

intermediate_escape : (c : Class) → is_intermediate c ≡ true → in_escape c ≡ true
intermediate_escape Intermediate h = refl
intermediate_escape _ h = absurd cc

-- an escape sequence of intermediates and a final byte that opens nothing
pub says_escape : (x : List ℕ) (f : ℕ) → AllOf is_intermediate x → ends_escape (class_of f) ≡ true
    → (is_empty x && opens (class_of f)) ≡ false
    → Says ((0x1b ∷ x) ++ f ∷ []) (EscDispatch (kept_intermediates x) (has_more_intermediates x) f
    ∷ [])
says_escape x f hx hf ho =
    let body = all_by is_intermediate in_body intermediate_body x hx in
    let kept = body_strip x body in
    says_by ((0x1b ∷ x) ++ f ∷ []) ((0x1b ∷ x) ++ f ∷ []) (events_of (EscapeOf x f) true)
    (EscDispatch (kept_intermediates x) (has_more_intermediates x) f ∷ []) refl
    (rw (body_executes x body, kept) refl)
    (says_one (EscapeOf x f) (λ rest.
    ((all_by is_intermediate in_escape intermediate_escape x hx, hf, rw kept ho), refl)))

csi_dispatched : (x : List ℕ) (f : ℕ) (t : Bool) → t ≡ true
    → (if t then csi_event x f ∷ [] else []) ≡ csi_event x f ∷ []
csi_dispatched x f true e = refl
csi_dispatched x f false e = absurd cc

-- bytes 20-3F
body_class : (b : ℕ) → is_body_byte b ≡ true → in_body (class_of b) ≡ true
unfolding class_of
body_class b h = grind (arith, nat_tests)

pub body_of : (x : List ℕ) → list_all is_body_byte x ≡ true → AllOf in_body x
body_of [] h = refl
body_of (b ∷ x) h = let w = and_parts (is_body_byte b) (list_all is_body_byte x) h in
    rw (body_class b w.0, body_of x w.1) refl

-- a control sequence with a body of its form is one segment
pub one_csi : (x : List ℕ) (f : ℕ) → AllOf in_body x → is_csi_body x ≡ true
    → ends_csi (class_of f) ≡ true
    → IsOneSegment ((0x1b ∷ 0x5b ∷ x) ++ f ∷ []) (csi_event x f ∷ [])
one_csi x f hx hb hf = (
  Csi (Long []) x f,
  refl,
  refl,
  (refl, body_in x hx, hf),
  rw (body_executes x hx, body_strip x hx) (csi_dispatched x f (is_csi_body x) hb),
)

-- it says the event of this body
pub says_csi : (x : List ℕ) (f : ℕ) → AllOf in_body x → is_csi_body x ≡ true
    → ends_csi (class_of f) ≡ true
    → Says ((0x1b ∷ 0x5b ∷ x) ++ f ∷ []) (csi_event x f ∷ [])
says_csi x f hx hb hf =
    says_by (bytes_of (Csi (Long []) x f)) ((0x1b ∷ 0x5b ∷ x) ++ f ∷ [])
    (events_of (Csi (Long []) x f) true) (csi_event x f ∷ []) refl
    (rw (body_executes x hx, body_strip x hx) (csi_dispatched x f (is_csi_body x) hb))
    (says_one (Csi (Long []) x f) (λ rest. ((refl, body_in x hx, hf), refl)))
