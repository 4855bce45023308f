-- The units of an OSC's text: bytes determine them, and how the text ends.
use Rattle.std.proofs.Common.{ℕ, ◌≡◌, ◌≤◌, Bool, true, false, if◌then◌else◌, ◌&&◌, ◌==◌, List, [], ◌∷◌, ◌++◌, refl, ap, sym, ◌∙◌, subst, append_assoc, arith}
use Rattle.std.proofs.Common.{◌⊎◌, inl, inr}
use Rattle.std.proofs.lemmas.List.{append-nil, append_cancel_left}
use Rattle.std.proofs.lemmas.Bool.{and_parts, or_cases}
use Rattle.std.proofs.lemmas.Bool.Decides.{nat_tests}
use Rattle.esc_frame.specs.declared.classes.Class.{Class}
use Rattle.esc_frame.specs.declared.classes.Class.TheVariants.{C0, Bell, High, Lead, Breaks}
use Rattle.esc_frame.specs.Classes.{class_of, is_breaker, is_raw, in_osc, is_text}
use Rattle.esc_frame.specs.Sequences.{is_sequence, is_pair}
use Rattle.esc_frame.specs.Segments.{OscUnit, Ending, IsOscUnit, IsEnding, AreOscUnits, text_bytes, osc_unit_bytes, ending_bytes, breaks_text, begins_pair}
use Rattle.esc_frame.specs.Segments.Ending.{Open, Rung, Waits}
use Rattle.esc_frame.specs.Segments.OscUnit.{One, Sequence, BrokenOff}
use Rattle.esc_frame.proofs.Cut.FirstSequence.{Begun, begun, is_lead, lead_of, begun_waits, begun_breaks, begun_sequence, prefix_lead, sequence_lead}
use Rattle.esc_frame.proofs.Cut.FirstSequence.Begun.{Complete, Halted, Waiting}

-- the unit that comes next, if one does
pub data Next : Type 0 where
  NextIs : OscUnit → Next
  Stop : Next

abbrev pub next_of : Begun → Next
next_of (Complete x r) = if is_pair x then Stop else NextIs (Sequence x)
next_of (Halted x) = NextIs (BrokenOff x)
next_of (Waiting x) = Stop

abbrev pub next_by : ℕ → List ℕ → Class → Next
next_by b s Lead = next_of (begun (b ∷ s))
next_by b s C0 = NextIs (One b)
next_by b s High = NextIs (One b)
next_by b s c = if is_text c then NextIs (One b) else Stop

abbrev pub next_osc_unit : List ℕ → Next
next_osc_unit [] = Stop
next_osc_unit (b ∷ s) = next_by b s (class_of b)

pub lead_is : (c : Class) → is_lead c ≡ true → c ≡ Lead
lead_is Lead h = refl
lead_is _ h = absurd cc

next_lead : (s : List ℕ) → lead_of s ≡ true → next_osc_unit s ≡ next_of (begun s)
next_lead [] h = absurd cc
next_lead (b ∷ s) h = ap (next_by b s) (lead_is (class_of b) h)

one_next : (b : ℕ) (t : List ℕ) (c : Class) → in_osc c ≡ true → next_by b t c ≡ NextIs (One b)
one_next b t Lead h = absurd cc
one_next b t Bell h = absurd cc
one_next b t (Breaks k) h = absurd cc
one_next b t _ h = refl

osc_unit_is_next : (p : OscUnit) (t : List ℕ) → IsOscUnit p t
    → next_osc_unit (osc_unit_bytes p ++ t) ≡ NextIs p
osc_unit_is_next (One b) t h = one_next b t (class_of b) h
osc_unit_is_next (Sequence x) t h =
    next_lead (x ++ t) (sequence_lead x t h.0) ∙ ap next_of (begun_sequence x t h.0) ∙ rw h.1 refl
osc_unit_is_next (BrokenOff x) t h =
    next_lead (x ++ t) (prefix_lead x t h.0) ∙ ap next_of (begun_breaks x t h.0 h.1)

-- the end of the units
abbrev pub end_of : Begun → Ending
end_of (Waiting x) = Waits x
end_of _ = Open

abbrev pub end_by : ℕ → List ℕ → Class → Ending
end_by b s Bell = Rung
end_by b s Lead = end_of (begun (b ∷ s))
end_by b s _ = Open

abbrev pub ending : List ℕ → Ending
ending [] = Open
ending (b ∷ s) = end_by b s (class_of b)

abbrev pub MayEnd : Ending → List ℕ → Type 0
MayEnd Open [] = Unit {0}
MayEnd Open (b ∷ r) = breaks_text (b ∷ r) ≡ true
MayEnd Rung r = Unit {0}
MayEnd (Waits f) r = r ≡ []

breaker_stops : (b : ℕ) (s : List ℕ) (c : Class) → is_breaker c ≡ true → (next_by b s c ≡ Stop)
    × (end_by b s c ≡ Open)
breaker_stops b s (Breaks k) h = (refl, refl)
breaker_stops b s _ h = absurd cc

pub raw_in : (b : ℕ) → is_raw (class_of b) ≡ true → (is_sequence (0xc2 ∷ b ∷ []) ≡ true)
    × (is_pair (0xc2 ∷ b ∷ []) ≡ true)
unfolding class_of is_sequence is_pair
raw_in b h =
    let l : 0x80 ≤ b = grind (arith, nat_tests) in
    let m : b ≤ 0x9f = grind (arith, nat_tests) in
    (grind (arith, nat_tests), grind (arith, nat_tests))

pub c2_class : class_of 0xc2 ≡ Lead
unfolding class_of
c2_class = refl

bell_code : class_of 0x07 ≡ Bell
unfolding class_of
bell_code = refl

c2_is : (b : ℕ) → (b == 0xc2) ≡ true → b ≡ 0xc2
c2_is b h = grind (arith, nat_tests)

pair_stops : (b : ℕ) (s : List ℕ) → is_raw (class_of b) ≡ true
    → (next_osc_unit (0xc2 ∷ b ∷ s) ≡ Stop)
    × (ending (0xc2 ∷ b ∷ s) ≡ Open)
pair_stops b s h =
    let r = raw_in b h in
    let e : begun (0xc2 ∷ b ∷ s) ≡ Complete (0xc2 ∷ b ∷ []) s =
    begun_sequence (0xc2 ∷ b ∷ []) s r.0 in (
      ap (next_by 0xc2 (b ∷ s)) c2_class ∙ ap next_of e ∙ rw r.1 refl,
      ap (end_by 0xc2 (b ∷ s)) c2_class ∙ ap end_of e,
    )

no_false : (t : Bool) → (t && false) ≡ true → ⊥
no_false true h = cc
no_false false h = cc

ending_lead : (s : List ℕ) → lead_of s ≡ true → ending s ≡ end_of (begun s)
ending_lead [] h = absurd cc
ending_lead (b ∷ s) h = ap (end_by b s) (lead_is (class_of b) h)

text_stops_by : (b : ℕ) (s : List ℕ)
    → ((is_breaker (class_of b) ≡ true) ⊎ (((b == 0xc2) && begins_pair s) ≡ true))
    → (next_osc_unit (b ∷ s) ≡ Stop) × (ending (b ∷ s) ≡ Open)
text_stops_by b s (inl h) = breaker_stops b s (class_of b) h
text_stops_by b [] (inr h) = absurd (no_false (b == 0xc2) h)
text_stops_by b (c ∷ s) (inr h) =
    let p = and_parts (b == 0xc2) (is_raw (class_of c)) h in
    let e = c2_is b p.0 in
    subst (λ x. (next_osc_unit (x ∷ c ∷ s) ≡ Stop)
    × (ending (x ∷ c ∷ s) ≡ Open)) (sym e) (pair_stops c s p.1)

text_stops : (b : ℕ) (s : List ℕ) → breaks_text (b ∷ s) ≡ true → (next_osc_unit (b ∷ s) ≡ Stop)
    × (ending (b ∷ s) ≡ Open)
text_stops b s h =
    text_stops_by b s (or_cases (is_breaker (class_of b)) ((b == 0xc2) && begins_pair s) h)

end_is : (e : Ending) (r : List ℕ) → IsEnding e → MayEnd e r
    → (next_osc_unit (ending_bytes e ++ r) ≡ Stop) × (ending (ending_bytes e ++ r) ≡ e)
end_is Open [] i m = (refl, refl)
end_is Open (b ∷ r) i m = text_stops b r m
end_is Rung r i m = (rw bell_code refl, rw bell_code refl)
end_is (Waits f) r i m =
    let e : f ++ r ≡ f = ap (λ x. f ++ x) m ∙ append-nil f in
    let l : lead_of (f ++ r) ≡ true = prefix_lead f r i in
    let w : begun (f ++ r) ≡ Waiting f = ap begun e ∙ begun_waits f i in
    (next_lead (f ++ r) l ∙ ap next_of w, ending_lead (f ++ r) l ∙ ap end_of w)

not_stop : (p : OscUnit) → NextIs p ≡ Stop → ⊥
not_stop p e = cc

osc_unit_same : (p q : OscUnit) → NextIs p ≡ NextIs q → p ≡ q
osc_unit_same p q e = cc

-- the same bytes are the same units, ended the same way
pub units_same : (ps qs : List OscUnit) (e f : Ending) (r t : List ℕ)
    → AreOscUnits ps (ending_bytes e ++ r) → AreOscUnits qs (ending_bytes f ++ t) → IsEnding e
    → IsEnding f → MayEnd e r → MayEnd f t
    → text_bytes ps ++ (ending_bytes e ++ r) ≡ text_bytes qs ++ (ending_bytes f ++ t) → (ps ≡ qs)
    × (e ≡ f)
units_same [] [] e f r t a b i j m n h =
    (refl, sym (end_is e r i m).1 ∙ ap ending h ∙ (end_is f t j n).1)
units_same [] (q ∷ qs) e f r t a b i j m n h =
    let u = append_assoc (osc_unit_bytes q) (text_bytes qs) (ending_bytes f ++ t) in
    absurd (not_stop q (sym (osc_unit_is_next q (text_bytes qs ++ (ending_bytes f ++ t)) b.0)
    ∙ ap next_osc_unit (sym u) ∙ ap next_osc_unit (sym h) ∙
    (end_is e r i m).0))
units_same (p ∷ ps) [] e f r t a b i j m n h =
    let u = append_assoc (osc_unit_bytes p) (text_bytes ps) (ending_bytes e ++ r) in
    absurd (not_stop p (sym (osc_unit_is_next p (text_bytes ps ++ (ending_bytes e ++ r)) a.0)
    ∙ ap next_osc_unit (sym u) ∙ ap next_osc_unit h ∙ (end_is f t j n).0))
units_same (p ∷ ps) (q ∷ qs) e f r t a b i j m n h =
    let k : osc_unit_bytes p ++ (text_bytes ps ++ (ending_bytes e ++ r)) ≡ osc_unit_bytes q
    ++ (text_bytes qs ++ (ending_bytes f ++ t)) = sym
    (append_assoc (osc_unit_bytes p) (text_bytes ps) (ending_bytes e ++ r)) ∙ h
    ∙ append_assoc (osc_unit_bytes q) (text_bytes qs) (ending_bytes f ++ t) in
    let same : p ≡ q =
    osc_unit_same p q (sym (osc_unit_is_next p (text_bytes ps ++ (ending_bytes e ++ r)) a.0)
    ∙ ap next_osc_unit k ∙ osc_unit_is_next q
    (text_bytes qs ++ (ending_bytes f ++ t)) b.0) in
    let rests = append_cancel_left (osc_unit_bytes q) (text_bytes ps ++ (ending_bytes e ++ r))
    (text_bytes qs ++ (ending_bytes f ++ t))
    (ap (λ x. osc_unit_bytes x ++ (text_bytes ps ++ (ending_bytes e ++ r))) (sym same) ∙ k) in
    let more = units_same ps qs e f r t a.1 b.1 i j m n rests in
    (ap (λ x. x ∷ ps) same ∙ ap (λ xs. q ∷ xs) more.0, more.1)
