-- The event of a short control sequence after ESC [.
use Rattle.std.proofs.Common.{ℕ, zero, suc, ◌≡◌, ◌-◌, ◌≤◌, Bool, true, false, if◌then◌else◌, List, [], ◌∷◌, ◌++◌, length, take, drop, get_or, arith, Result, Ok, Err, MatchResult, OnOk, refl, ap, sym, ◌∙◌, subst}
use Rattle.std.proofs.lemmas.Bool.{and_parts, true≢false}
use Rattle.std.proofs.lemmas.Bool.Decides.{nat_tests}
use Rattle.std.specs.List.{FoldsTo, list_all}
use Rattle.esc_values.specs.declared.csi_param.CsiParam.{CsiParam}
use Rattle.esc_frame.specs.Bodies.{is_csi_body, kept_csi_params}
use Rattle.esc_frame.specs.Classes.{AllOf, class_of, is_c0, is_noise}
use Rattle.esc_frame.specs.Events.{Event, Receives}
use Rattle.esc_frame.specs.Events.Event.{CsiDispatch}
use Rattle.esc_frame.specs.Machine.Shorts.{IsShort}
use Rattle.esc_frame.specs.Segments.{Segment as Shape, HasShape, bytes_of, csi_event, events_of, executes}
use Rattle.esc_frame.specs.Scans.{is_body_byte}
use Rattle.esc_frame.specs.Segments.Opener.{Long, Raw, Pair}
use Rattle.esc_frame.specs.Segments.Segment.{Character, Wide, Broken, Stray, Control, HighControl, Terminator, Escape, Csi, Osc, Dcs, Apc, Ignored}
use Rattle.esc_frame.specs.Segments.Segment.{CutEscape, CutCsi, CutDcs}
use Rattle.esc_frame.proofs.Emits.SequencesSay.{body_of, body_strip}
use Rattle.esc_segments.specs.Items.{kind_of}
use Rattle.esc_segments.specs.declared.kind.SegmentKind.TheVariants as kinds

abbrev pub first_of : List ℕ → ℕ
first_of [] = 0
first_of (b ∷ s) = b

abbrev pub rest_of : List ℕ → List ℕ
rest_of [] = []
rest_of (b ∷ s) = s

none_after : (b : ℕ) (x : List ℕ) → [] ≡ x ++ b ∷ [] → ⊥
none_after b [] e = absurd cc
none_after b (c ∷ x) e = absurd cc

pub last_same : (x y : List ℕ) (a b : ℕ) → x ++ a ∷ [] ≡ y ++ b ∷ [] → (x ≡ y) × (a ≡ b)
last_same [] [] a b e = (refl, ap first_of e)
last_same [] (c ∷ y) a b e = absurd (none_after b y (ap rest_of e))
last_same (c ∷ x) [] a b e = absurd (none_after a x (sym (ap rest_of e)))
last_same (c ∷ x) (d ∷ y) a b e =
    let more = last_same x y a b (ap rest_of e) in
    (ap (λ h. h ∷ x) (ap first_of e) ∙ ap (λ t. d ∷ t) more.0, more.1)

no_noise : is_noise (class_of 0x5b) ≡ false
unfolding class_of
no_noise = refl

not_long : (n : ℕ) (ns : List ℕ) → AllOf is_noise (n ∷ ns) → n ≡ 0x5b → ⊥
not_long n ns h e =
    let q = and_parts (is_noise (class_of n)) (list_all (λ b. is_noise (class_of b)) ns) h in
    true≢false (sym q.0 ∙ ap (λ b. is_noise (class_of b)) e ∙ no_noise)

quiet : (b : ℕ) → is_body_byte b ≡ true → is_c0 (class_of b) ≡ false
unfolding class_of
quiet b h = grind (arith, nat_tests)

pub no_executes : (x : List ℕ) → list_all is_body_byte x ≡ true → executes x ≡ []
no_executes [] h = refl
no_executes (b ∷ x) h =
    let q = and_parts (is_body_byte b) (list_all is_body_byte x) h in
    rw (quiet b q.0) (no_executes x q.1)

pub one_event : (x : List ℕ) (f : ℕ) (t : Bool) → t ≡ true
    → (if t then csi_event x f ∷ [] else []) ≡ csi_event x f ∷ []
one_event x f true e = refl
one_event x f false e = absurd cc

-- the body and the final byte tell the event
told : (items : List CsiParam) (x body : List ℕ) (a f : ℕ) (finished : Bool)
    → IsShort items body → (x ≡ body) × (a ≡ f)
    → events_of (Csi (Long []) x a) finished ≡ CsiDispatch items false f ∷ []
told items x body a f finished short (same, last) =
    let own = subst (λ y. IsShort items y) (sym same) short in
    let event : events_of (Csi (Long []) x a) finished ≡ csi_event x a ∷ [] =
    rw (no_executes x own.body, body_strip x (body_of x own.body))
    (one_event x a (is_csi_body x) own.form) in
    event ∙ ap (λ m. CsiDispatch (kept_csi_params x) m a ∷ []) (sym own.more)
    ∙ ap (λ es. CsiDispatch es false a ∷ []) (sym own.kept)
    ∙ ap (λ c. CsiDispatch items false c ∷ []) last

same_shape : (x body : List ℕ) (a f : ℕ) → (x ≡ body) × (a ≡ f)
    → Csi (Long []) x a ≡ Csi (Long []) body f
same_shape x body a f (same, last) =
    ap (λ y. Csi (Long []) y a) same ∙ ap (Csi (Long []) body) last

-- such bytes are no other segment
pub shape_is : (body : List ℕ) (f : ℕ) (g : Shape) (after : List ℕ) → HasShape g after
    → kind_of g ≡ kinds.Csi → bytes_of g ≡ 0x1b ∷ 0x5b ∷ (body ++ f ∷ [])
    → g ≡ Csi (Long []) body f
shape_is body f (Csi (Long []) x a) after h k e =
    same_shape x body a f (last_same x body a f (ap (λ s. rest_of (rest_of s)) e))
shape_is body f (Csi (Long (n ∷ ns)) x a) after h k e =
    absurd (not_long n ns h.0 (ap (λ s. first_of (rest_of s)) e))
shape_is body f (Csi Raw x a) after h k e = absurd (no (ap first_of e))
  where
    no : ◌≡◌ {A = ℕ} 0x9b 0x1b → ⊥
    no q = omega (arith, q)
shape_is body f (Csi Pair x a) after h k e = absurd (no (ap first_of e))
  where
    no : ◌≡◌ {A = ℕ} 0xc2 0x1b → ⊥
    no q = omega (arith, q)
shape_is body f (Character b) after h k e = absurd cc
shape_is body f (Wide x) after h k e = absurd cc
shape_is body f (Broken x) after h k e = absurd cc
shape_is body f (Stray b) after h k e = absurd cc
shape_is body f (Control b) after h k e = absurd cc
shape_is body f (HighControl p b) after h k e = absurd cc
shape_is body f (Terminator p b) after h k e = absurd cc
shape_is body f (Escape x a) after h k e = absurd cc
shape_is body f (Osc o ps end) after h k e = absurd cc
shape_is body f (Dcs o x a d) after h k e = absurd cc
shape_is body f (Apc o d) after h k e = absurd cc
shape_is body f (Ignored j o d) after h k e = absurd cc
shape_is body f (CutEscape x) after h k e = absurd cc
shape_is body f (CutCsi o x) after h k e = absurd cc
shape_is body f (CutDcs o x) after h k e = absurd cc

pub short_events : (items : List CsiParam) (body : List ℕ) (f : ℕ) (g : Shape) (finished : Bool)
    (after : List ℕ) → HasShape g after → kind_of g ≡ kinds.Csi
    → bytes_of g ≡ 0x1b ∷ 0x5b ∷ (body ++ f ∷ []) → IsShort items body
    → events_of g finished ≡ CsiDispatch items false f ∷ []
short_events items body f (Csi (Long []) x a) finished after h k e short =
    told items x body a f finished short
    (last_same x body a f (ap (λ s. rest_of (rest_of s)) e))
short_events items body f (Csi (Long (n ∷ ns)) x a) finished after h k e short =
    absurd (not_long n ns h.0 (ap (λ s. first_of (rest_of s)) e))
short_events items body f (Csi Raw x a) finished after h k e short = absurd (no (ap first_of e))
  where
    no : ◌≡◌ {A = ℕ} 0x9b 0x1b → ⊥
    no q = omega (arith, q)
short_events items body f (Csi Pair x a) finished after h k e short = absurd (no (ap first_of e))
  where
    no : ◌≡◌ {A = ℕ} 0xc2 0x1b → ⊥
    no q = omega (arith, q)
short_events items body f (Character b) finished after h k e short = absurd cc
short_events items body f (Wide x) finished after h k e short = absurd cc
short_events items body f (Broken x) finished after h k e short = absurd cc
short_events items body f (Stray b) finished after h k e short = absurd cc
short_events items body f (Control b) finished after h k e short = absurd cc
short_events items body f (HighControl p b) finished after h k e short = absurd cc
short_events items body f (Terminator p b) finished after h k e short = absurd cc
short_events items body f (Escape x a) finished after h k e short = absurd cc
short_events items body f (Osc o ps end) finished after h k e short = absurd cc
short_events items body f (Dcs o x a d) finished after h k e short = absurd cc
short_events items body f (Apc o d) finished after h k e short = absurd cc
short_events items body f (Ignored j o d) finished after h k e short = absurd cc
short_events items body f (CutEscape x) finished after h k e short = absurd cc
short_events items body f (CutCsi o x) finished after h k e short = absurd cc
short_events items body f (CutDcs o x) finished after h k e short = absurd cc

-- ---- its bytes in parts

pub all_taken : (n : ℕ) (x : List ℕ) → length x ≤ n → take n x ≡ x
all_taken zero [] h = refl
all_taken zero (b ∷ x) h = absurd (omega (arith, h))
all_taken (suc n) [] h = refl
all_taken (suc n) (b ∷ x) h = ap (λ y. b ∷ y) (all_taken n x (omega (arith, h)))

last_apart : (b : ℕ) (x : List ℕ)
    → take (length x) (b ∷ x) ++ get_or (b ∷ x) (length x) 0 ∷ [] ≡ b ∷ x
last_apart b [] = refl
last_apart b (c ∷ x) = ap (λ y. b ∷ y) (last_apart c x)

parts : (s : List ℕ) → 3 ≤ length s → get_or s 0 0 ≡ 0x1b → get_or s 1 0 ≡ 0x5b
    → s ≡ 0x1b ∷ 0x5b ∷ (take (length s - 1 - 2) (drop 2 s) ++ get_or s (length s - 1) 0 ∷ [])
parts [] l e f = absurd (omega (arith, l))
parts (a ∷ []) l e f = absurd (omega (arith, l))
parts (a ∷ b ∷ []) l e f = absurd (omega (arith, l))
parts (a ∷ b ∷ c ∷ x) l e f =
    let s = a ∷ b ∷ c ∷ x in
    let m : length (a ∷ b ∷ c ∷ x) - 1 - 2 ≡ length x = omega arith in
    let n : length (a ∷ b ∷ c ∷ x) - 1 ≡ suc (suc (length x)) = omega arith in
    ap (λ k. k ∷ b ∷ c ∷ x) e ∙ ap (λ k. 0x1b ∷ k ∷ c ∷ x) f
    ∙ ap (λ y. 0x1b ∷ 0x5b ∷ y) (sym (last_apart c x))
    ∙ ap (λ k. 0x1b ∷ 0x5b ∷ (take k (c ∷ x) ++ get_or s (suc (suc (length x))) 0 ∷ [])) (sym m)
    ∙ ap (λ k. 0x1b ∷ 0x5b ∷ (take (length s - 1 - 2) (c ∷ x) ++ get_or s k 0 ∷ [])) (sym n)

pub short_told : (items : List CsiParam) (s body : List ℕ) (n : ℕ) (g : Shape) (finished : Bool)
    (after : List ℕ) → HasShape g after → kind_of g ≡ kinds.Csi → s ≡ bytes_of g → 3 ≤ length s
    → get_or s 0 0 ≡ 0x1b → get_or s 1 0 ≡ 0x5b → body ≡ take (length s - 1 - 2) (drop 2 s)
    → length body ≤ n → IsShort items (take n body)
    → events_of g finished ≡ CsiDispatch items false (get_or s (length s - 1) 0) ∷ []
short_told items s body n g finished after h k same l e f is all short =
    let last = get_or s (length s - 1) 0 in
    short_events items body last g finished after h k
    (sym same ∙ parts s l e f ∙ ap (λ y. 0x1b ∷ 0x5b ∷ (y ++ last ∷ [])) (sym is))
    (subst (IsShort items) (all_taken n body all) short)

-- ---- an actor that is given it

pub gives_one : {S E : Type 0} (T R : S → Event → S → Type 0) (r : Result (Unit {0}) E)
    (old new : S) (items given : List CsiParam) (f : ℕ) (events : List Event)
    → Receives T R r old (CsiDispatch given false f) new → events ≡ CsiDispatch items false f ∷ []
    → given ≡ items → OnOk r (FoldsTo T old events new)
gives_one T R (Ok x) old new items given f events h e same =
    subst (λ l. FoldsTo T old l new) (sym e)
    (new, subst (λ k. T old (CsiDispatch k false f) new) same h, refl)
gives_one T R (Err x) old new items given f events h e same = tt

pub taken_ok : {T E : Type 0} (P Q : Type 0) (r : Result T E) → MatchResult r (λ _. P) (λ _. Q)
    → OnOk r P
taken_ok P Q (Ok x) h = h
taken_ok P Q (Err x) h = tt
