-- The first segment of a stream, found from its bytes.
use Rattle.std.proofs.Common.{ℕ, ◌≡◌, Bool, true, false, if◌then◌else◌, ◌&&◌, List, [], ◌∷◌, ◌++◌, refl, ap, ◌∙◌, append_assoc}
use Rattle.std.proofs.lemmas.List.{append-nil}
use Rattle.std.proofs.lemmas.Bool.{and_parts}
use Rattle.esc_frame.specs.declared.classes.Class.{Class}
use Rattle.esc_frame.specs.declared.classes.Class.TheVariants.{C0, Bell, Intermediate, Parameter, Introducer, Final, Delete, High, Lead, Breaks}
use Rattle.esc_frame.specs.declared.classes.Breaker.TheVariants.{Cancel, Escape, C1Introducer, C1Terminator, C1}
use Rattle.esc_frame.specs.declared.classes.Kind.{Kind}
use Rattle.esc_frame.specs.declared.classes.Kind.TheVariants as kind
use Rattle.esc_frame.specs.Classes.{class_of, AllOf, without_noise, is_noise, is_breaker, is_raw, in_escape, ends_escape, in_csi, ends_csi, in_data, is_ignored, opens}
use Rattle.esc_frame.specs.Classes.{is_text, is_high, is_control, is_c1, is_terminator, letter_of, raw_of}
use Rattle.esc_frame.specs.Sequences.{is_prefix, is_pair}
use Rattle.esc_frame.specs.Segments.{Segment, Opener, HasShape, IsOpener, bytes_of, text_bytes, ending_bytes, is_finished, is_empty, opener, breaks}
use Rattle.esc_frame.specs.Segments.Segment.{Character, Wide, Broken, Stray, Control, HighControl, Terminator, CutEscape, CutCsi, CutDcs, Csi, Osc, Dcs, Apc}
use Rattle.esc_frame.specs.Segments.Segment.{Ignored}
use Rattle.esc_frame.specs.Segments.Segment.{Escape as EscapeOf}
use Rattle.esc_frame.specs.Segments.Opener.{Long, Raw, Pair}
use Rattle.esc_frame.proofs.Cut.FirstSequence.{Begun, begun, lead_of, begun_waits, begun_breaks, begun_sequence, prefix_lead, sequence_lead}
use Rattle.esc_frame.proofs.Cut.FirstSequence.Begun.{Complete, Halted, Waiting}
use Rattle.esc_frame.proofs.Cut.UnitsAreDetermined.{lead_is, raw_in, c2_class}

-- the longest prefix of a class; then the bytes after it
abbrev pub prefix : (Class → Bool) → List ℕ → List ℕ
prefix test [] = []
prefix test (b ∷ s) = if test (class_of b) then b ∷ prefix test s else []

abbrev pub rest : (Class → Bool) → List ℕ → List ℕ
rest test [] = []
rest test (b ∷ s) = if test (class_of b) then rest test s else b ∷ s

-- nothing of the class comes next
abbrev pub Ends : (Class → Bool) → List ℕ → Type 0
Ends test [] = Unit {0}
Ends test (b ∷ _) = test (class_of b) ≡ false

prefix_is : (test : Class → Bool) (x r : List ℕ) → AllOf test x → Ends test r
    → prefix test (x ++ r) ≡ x
prefix_is test [] [] a e = refl
prefix_is test [] (b ∷ r) a e = rw e refl
prefix_is test (b ∷ x) r a e = let h = and_parts (test (class_of b)) _ a in
    rw h.0 (ap (λ y. b ∷ y) (prefix_is test x r h.1 e))

rest_is : (test : Class → Bool) (x r : List ℕ) → AllOf test x → Ends test r → rest test (x ++ r) ≡ r
rest_is test [] [] a e = refl
rest_is test [] (b ∷ r) a e = rw e refl
rest_is test (b ∷ x) r a e = let h = and_parts (test (class_of b)) _ a in
    rw h.0 (rest_is test x r h.1 e)

-- a whole segment; or an OSC by its opener and the bytes after it
pub data Found : Type 0 where
  OneSegment : Segment → Found
  OscAfter : Opener → List ℕ → Found

abbrev pub csi_of : Opener → List ℕ → List ℕ → Found
csi_of o x [] = OneSegment (CutCsi o x)
csi_of o x (f ∷ _) =
    if is_breaker (class_of f) then OneSegment (CutCsi o x) else OneSegment (Csi o x f)

abbrev pub dcs_of : Opener → List ℕ → List ℕ → Found
dcs_of o x [] = OneSegment (CutDcs o x)
dcs_of o x (f ∷ r) = if is_breaker (class_of f) then OneSegment (CutDcs o x) else OneSegment
    (Dcs o x f (prefix in_data r))

abbrev pub opened_first : Kind → Opener → List ℕ → Found
opened_first kind.Csi o r = csi_of o (prefix in_csi r) (rest in_csi r)
opened_first kind.Osc o r = OscAfter o r
opened_first kind.Dcs o r = dcs_of o (prefix in_csi r) (rest in_csi r)
opened_first kind.Apc o r = OneSegment (Apc o (prefix in_data r))
opened_first k o r = OneSegment (Ignored k o (prefix in_data r))

abbrev pub escape_by : List ℕ → ℕ → List ℕ → Class → Found
escape_by x f r (Introducer k) =
    if is_empty (without_noise x) then opened_first k (Long x) r else OneSegment (EscapeOf x f)
escape_by x f r c = if is_breaker c then OneSegment (CutEscape x) else OneSegment (EscapeOf x f)

abbrev pub escape_of : List ℕ → List ℕ → Found
escape_of x [] = OneSegment (CutEscape x)
escape_of x (f ∷ r) = escape_by x f r (class_of f)

abbrev pub pair_by : ℕ → List ℕ → Class → Found
pair_by b r (Breaks C1) = OneSegment (HighControl true b)
pair_by b r (Breaks (C1Introducer k)) = opened_first k Pair r
pair_by b r _ = OneSegment (Terminator true b)

abbrev pub pair_first : List ℕ → List ℕ → Found
pair_first (a ∷ b ∷ []) r = pair_by b r (class_of b)
pair_first _ r = OneSegment (Control 0)

abbrev pub lead_first : Begun → Found
lead_first (Complete x r) = if is_pair x then pair_first x r else OneSegment (Wide x)
lead_first (Halted x) = OneSegment (Broken x)
lead_first (Waiting x) = OneSegment (Broken x)

abbrev pub first_by : ℕ → List ℕ → Class → Found
first_by b s C0 = OneSegment (Control b)
first_by b s Bell = OneSegment (Control b)
first_by b s (Breaks Cancel) = OneSegment (Control b)
first_by b s (Breaks Escape) = escape_of (prefix in_escape s) (rest in_escape s)
first_by b s (Breaks C1) = OneSegment (HighControl false b)
first_by b s (Breaks (C1Introducer k)) = opened_first k Raw s
first_by b s (Breaks C1Terminator) = OneSegment (Terminator false b)
first_by b s High = OneSegment (Stray b)
first_by b s Lead = lead_first (begun (b ∷ s))
first_by b s _ = OneSegment (Character b)

abbrev pub first : List ℕ → Found
first [] = OneSegment (Control 0)
first (b ∷ s) = first_by b s (class_of b)

-- says that these bytes may follow a segment
abbrev pub MayFollow : Segment → List ℕ → Type 0
MayFollow g [] = Unit {0}
MayFollow g (b ∷ r) = is_finished g (b ∷ r) ≡ true

abbrev pub found : Segment → List ℕ → Found
found (Osc o ps e) r = OscAfter o (text_bytes ps ++ (ending_bytes e ++ r))
found g r = OneSegment g

escape_code : class_of 0x1b ≡ (Breaks Escape)
unfolding class_of
escape_code = refl

letter_code : (k : Kind) → class_of (letter_of k) ≡ Introducer k
unfolding class_of
letter_code kind.Csi = refl
letter_code _ = refl

raw_code : (k : Kind) → class_of (raw_of k) ≡ Breaks (C1Introducer k)
unfolding class_of
raw_code kind.Csi = refl
raw_code _ = refl

text_first : (b : ℕ) (r : List ℕ) (c : Class) → is_text c ≡ true
    → first_by b r c ≡ OneSegment (Character b)
text_first b r Intermediate h = refl
text_first b r Parameter h = refl
text_first b r (Introducer k) h = refl
text_first b r Final h = refl
text_first b r Delete h = refl
text_first b r _ h = absurd cc

high_first : (b : ℕ) (r : List ℕ) (c : Class) → is_high c ≡ true
    → first_by b r c ≡ OneSegment (Stray b)
high_first b r High h = refl
high_first b r _ h = absurd cc

control_first : (b : ℕ) (r : List ℕ) (c : Class) → is_control c ≡ true
    → first_by b r c ≡ OneSegment (Control b)
control_first b r C0 h = refl
control_first b r Bell h = refl
control_first b r (Breaks Cancel) h = refl
control_first b r _ h = absurd cc

raw_first : (b : ℕ) (r : List ℕ) (c : Class) → is_c1 c ≡ true
    → (first_by b r c ≡ OneSegment (HighControl false b))
    × (pair_by b r c ≡ OneSegment (HighControl true b)) × (is_raw c ≡ true)
raw_first b r (Breaks C1) h = (refl, refl, refl)
raw_first b r _ h = absurd cc

terminator_first : (b : ℕ) (r : List ℕ) (c : Class) → is_terminator c ≡ true
    → (first_by b r c ≡ OneSegment (Terminator false b))
    × (pair_by b r c ≡ OneSegment (Terminator true b)) × (is_raw c ≡ true)
terminator_first b r (Breaks C1Terminator) h = (refl, refl, refl)
terminator_first b r _ h = absurd cc

-- C2 and a raw control
c2_first : (b : ℕ) (r : List ℕ) → is_raw (class_of b) ≡ true
    → first (0xc2 ∷ b ∷ r) ≡ pair_by b r (class_of b)
c2_first b r h =
    let i = raw_in b h in
    let e : begun (0xc2 ∷ b ∷ r) ≡ Complete (0xc2 ∷ b ∷ []) r =
    begun_sequence (0xc2 ∷ b ∷ []) r i.0 in
    ap (first_by 0xc2 (b ∷ r)) c2_class ∙ ap lead_first e
    ∙ rw i.1 refl

lead_found : (s : List ℕ) → lead_of s ≡ true → first s ≡ lead_first (begun s)
lead_found [] h = absurd cc
lead_found (b ∷ s) h = ap (first_by b s) (lead_is (class_of b) h)

final_no : (c : Class) → ends_escape c ≡ true → (in_escape c ≡ false) × (is_breaker c ≡ false)
final_no Parameter h = (refl, refl)
final_no (Introducer k) h = (refl, refl)
final_no Final h = (refl, refl)
final_no _ h = absurd cc

csi_final_no : (c : Class) → ends_csi c ≡ true → (in_csi c ≡ false) × (is_breaker c ≡ false)
csi_final_no (Introducer k) h = (refl, refl)
csi_final_no Final h = (refl, refl)
csi_final_no _ h = absurd cc

breaker_no : (c : Class) → is_breaker c ≡ true → (in_escape c ≡ false) × (in_csi c ≡ false)
breaker_no (Breaks k) h = (refl, refl)
breaker_no _ h = absurd cc

breaker_cut : (x : List ℕ) (f : ℕ) (r : List ℕ) (c : Class) → is_breaker c ≡ true
    → escape_by x f r c ≡ OneSegment (CutEscape x)
breaker_cut x f r (Breaks k) h = refl
breaker_cut x f r _ h = absurd cc

noise_in : (c : Class) → is_noise c ≡ true → in_escape c ≡ true
noise_in C0 h = refl
noise_in Bell h = refl
noise_in Delete h = refl
noise_in High h = refl
noise_in Lead h = refl
noise_in _ h = absurd cc

all_in : (x : List ℕ) → AllOf is_noise x → AllOf in_escape x
all_in [] h = refl
all_in (b ∷ x) h = let p = and_parts (is_noise (class_of b)) _ h in
    rw (noise_in (class_of b) p.0) (all_in x p.1)

noise_empty : (x : List ℕ) → AllOf is_noise x → without_noise x ≡ []
noise_empty [] h = refl
noise_empty (b ∷ x) h = let p = and_parts (is_noise (class_of b)) _ h in rw p.0 (noise_empty x p.1)

not_empty : (t : Bool) (g h : Found) → (t && true) ≡ false → (if t then g else h) ≡ h
not_empty true g h k = absurd cc
not_empty false g h k = refl

escape_final : (x : List ℕ) (f : ℕ) (r : List ℕ) (c : Class) → ends_escape c ≡ true
    → (is_empty (without_noise x) && opens c) ≡ false
    → escape_by x f r c ≡ OneSegment (EscapeOf x f)
escape_final x f r Parameter h k = refl
escape_final x f r Final h k = refl
escape_final x f r (Introducer o) h k = not_empty (is_empty (without_noise x)) _ _ k
escape_final x f r _ h k = absurd cc

escape_first : (x r : List ℕ) → AllOf in_escape x → Ends in_escape r
    → first (0x1b ∷ (x ++ r)) ≡ escape_of x r
escape_first x r a e =
    rw escape_code (rw (prefix_is in_escape x r a e, rest_is in_escape x r a e) refl)

-- an opener and the bytes after it are found first
pub opener_first : (k : Kind) (o : Opener) (r : List ℕ) → IsOpener o
    → first (opener k o ++ r) ≡ opened_first k o r
opener_first k (Long n) r h =
    ap first (ap (λ y. 0x1b ∷ y) (append_assoc n (letter_of k ∷ []) r))
    ∙ escape_first n (letter_of k ∷ r) (all_in n h) (rw (letter_code k) refl)
    ∙ rw (letter_code k, noise_empty n h) refl
opener_first k Raw r h = rw (raw_code k) refl
opener_first k Pair r h = c2_first (raw_of k) r (rw (raw_code k) refl) ∙ rw (raw_code k) refl

csi_first : (o : Opener) (x r : List ℕ) → IsOpener o → AllOf in_csi x → Ends in_csi r
    → first (opener kind.Csi o ++ (x ++ r)) ≡ csi_of o x r
csi_first o x r an ax e = opener_first kind.Csi o (x ++ r) an ∙ rw (
  prefix_is in_csi x r ax e,
  rest_is in_csi x r ax e,
) refl

abbrev pub is_cons : List ℕ → Bool
is_cons [] = false
is_cons (_ ∷ _) = true

dcs_first : (o : Opener) (x r : List ℕ) → IsOpener o → AllOf in_csi x → Ends in_csi r
    → first (opener kind.Dcs o ++ (x ++ r)) ≡ dcs_of o x r
dcs_first o x r an ax e = opener_first kind.Dcs o (x ++ r) an ∙ rw (
  prefix_is in_csi x r ax e,
  rest_is in_csi x r ax e,
) refl

data_ends : (r : List ℕ) → (is_cons r ≡ true → breaks r ≡ true) → Ends in_data r
data_ends [] h = tt
data_ends (b ∷ r) h = rw (h refl) refl

apc_first : (o : Opener) (d r : List ℕ) → AllOf in_data d → Ends in_data r
    → opened_first kind.Apc o (d ++ r) ≡ OneSegment (Apc o d)
apc_first o d r a e = ap (λ x. OneSegment (Apc o x)) (prefix_is in_data d r a e)

ignored_first : (k : Kind) (o : Opener) (d r : List ℕ) → is_ignored k ≡ true → AllOf in_data d
    → Ends in_data r
    → opened_first k o (d ++ r) ≡ OneSegment (Ignored k o d)
ignored_first kind.Sos o d r h a e =
    ap (λ x. OneSegment (Ignored kind.Sos o x)) (prefix_is in_data d r a e)
ignored_first kind.Pm o d r h a e =
    ap (λ x. OneSegment (Ignored kind.Pm o x)) (prefix_is in_data d r a e)
ignored_first _ o d r h a e = absurd cc

dcs_follows : (o : Opener) (x : List ℕ) (f : ℕ) (d r : List ℕ) → MayFollow (Dcs o x f d) r
    → is_cons r ≡ true → breaks r ≡ true
dcs_follows o x f d [] m h = absurd cc
dcs_follows o x f d (b ∷ r) m h = m

apc_follows : (o : Opener) (d r : List ℕ) → MayFollow (Apc o d) r → is_cons r ≡ true
    → breaks r ≡ true
apc_follows o d [] m h = absurd cc
apc_follows o d (b ∷ r) m h = m

ignored_follows : (k : Kind) (o : Opener) (d r : List ℕ) → MayFollow (Ignored k o d) r
    → is_cons r ≡ true → breaks r ≡ true
ignored_follows k o d [] m h = absurd cc
ignored_follows k o d (b ∷ r) m h = m

broken_first : (x r : List ℕ) → is_prefix x ≡ true → MayFollow (Broken x) r
    → lead_first (begun (x ++ r)) ≡ OneSegment (Broken x)
broken_first x [] h m = ap lead_first (ap begun (append-nil x) ∙ begun_waits x h)
broken_first x (b ∷ r) h m = ap lead_first (begun_breaks x (b ∷ r) h m)

-- the first segment of a stream is the one that it begins with
pub first_is : (g : Segment) (r : List ℕ) → HasShape g r → MayFollow g r
    → first (bytes_of g ++ r) ≡ found g r
first_is (Character b) r s m = text_first b r (class_of b) s
first_is (Wide x) r s m = lead_found (x ++ r) (sequence_lead x r s.0)
    ∙ ap lead_first (begun_sequence x r s.0) ∙ rw s.1 refl
first_is (Broken x) r s m = lead_found (x ++ r) (prefix_lead x r s) ∙ broken_first x r s m
first_is (Stray b) r s m = high_first b r (class_of b) s
first_is (Control b) r s m = control_first b r (class_of b) s
first_is (HighControl false b) r s m = (raw_first b r (class_of b) s).0
first_is (HighControl true b) r s m = let p = raw_first b r (class_of b) s in c2_first b r p.2 ∙ p.1
first_is (Terminator false b) r s m = (terminator_first b r (class_of b) s).0
first_is (Terminator true b) r s m = let p = terminator_first b r (class_of b) s in
    c2_first b r p.2 ∙ p.1
first_is (EscapeOf x f) r (sx, sf, so) m =
    ap first (ap (λ y. 0x1b ∷ y) (append_assoc x (f ∷ []) r))
    ∙ escape_first x (f ∷ r) sx (final_no (class_of f) sf).0
    ∙ escape_final x f r (class_of f) sf so
first_is (CutEscape x) [] s m = escape_first x [] s tt
first_is (CutEscape x) (b ∷ r) s m =
    escape_first x (b ∷ r) s (breaker_no (class_of b) m).0 ∙ breaker_cut x b r (class_of b) m
first_is (Csi o x f) r (sn, sx, sf) m =
    ap first (append_assoc (opener kind.Csi o ++ x) (f ∷ []) r
    ∙ append_assoc (opener kind.Csi o) x (f ∷ r))
    ∙ csi_first o x (f ∷ r) sn sx (csi_final_no (class_of f) sf).0
    ∙ rw (csi_final_no (class_of f) sf).1 refl
first_is (CutCsi o x) [] (sn, sx) m =
    ap first (append_assoc (opener kind.Csi o) x []) ∙ csi_first o x [] sn sx tt
first_is (CutCsi o x) (b ∷ r) (sn, sx) m =
    ap first (append_assoc (opener kind.Csi o) x (b ∷ r))
    ∙ csi_first o x (b ∷ r) sn sx (breaker_no (class_of b) m).1 ∙ rw m refl
first_is (CutDcs o x) [] (sn, sx) m =
    ap first (append_assoc (opener kind.Dcs o) x []) ∙ dcs_first o x [] sn sx tt
first_is (CutDcs o x) (b ∷ r) (sn, sx) m =
    ap first (append_assoc (opener kind.Dcs o) x (b ∷ r))
    ∙ dcs_first o x (b ∷ r) sn sx (breaker_no (class_of b) m).1 ∙ rw m refl
first_is (Dcs o x f d) r (sn, sx, sf, sd) m =
    ap first (append_assoc (opener kind.Dcs o ++ x ++ f ∷ []) d r
    ∙ append_assoc (opener kind.Dcs o ++ x) (f ∷ []) (d ++ r)
    ∙ append_assoc (opener kind.Dcs o) x
    (f ∷ (d ++ r)))
    ∙ dcs_first o x (f ∷ (d ++ r)) sn sx (csi_final_no (class_of f) sf).0
    ∙ rw (
      (csi_final_no (class_of f) sf).1,
      prefix_is in_data d r sd (data_ends r (dcs_follows o x f d r m)),
    ) refl
first_is (Apc o d) r (sn, sd) m =
    ap first (append_assoc (opener kind.Apc o) d r) ∙ opener_first kind.Apc o (d ++ r) sn
    ∙ apc_first o d r sd (data_ends r (apc_follows o d r m))
first_is (Ignored k o d) r (sk, sn, sd) m =
    ap first (append_assoc (opener k o) d r) ∙ opener_first k o (d ++ r) sn
    ∙ ignored_first k o d r sk sd (data_ends r (ignored_follows k o d r m))
first_is (Osc o ps e) r (sn, sp, se) m =
    ap first (append_assoc (opener kind.Osc o ++ text_bytes ps) (ending_bytes e) r
    ∙ append_assoc (opener kind.Osc o) (text_bytes ps) (ending_bytes e ++ r))
    ∙ opener_first kind.Osc o (text_bytes ps ++ (ending_bytes e ++ r)) sn
