-- A short segment has the same events with the limit and without.
use Rattle.std.proofs.Common.{ℕ, ◌≡◌, ◌+◌, ◌*◌, ◌≤◌, Bool, true, false, nat_le, if◌then◌else◌, List, [], ◌∷◌, ◌++◌, length, Some, refl, ap, sym, ◌∙◌, subst, arith}
use Rattle.std.proofs.lemmas.Bool.Decides.{nat_tests}
use Rattle.std.specs.List.{FoldsTo, filter}
use Rattle.std.proofs.lemmas.List.{length-append}
use Rattle.esc_values.specs.Clear.{parts_of}
use Rattle.esc_frame.specs.Classes.{class_of, is_text, bytes_of_class}
use Rattle.esc_frame.specs.Events.Event.{ApcDispatch, OscDispatch}
use Rattle.esc_frame.specs.Segments.{Segment as Shape, AreOscUnits, AreSegments, Ending, HasShape, Opener, OscUnit, bytes_of, ending_bytes, events_of, events_of_within, is_finished, joined_bytes, opener, opener_events, text_bytes, text_of}
use Rattle.esc_frame.specs.Segments.OscUnit.{One, Sequence, BrokenOff}
use Rattle.esc_frame.specs.Segments.Segment.{Character, Wide, Broken, Stray, Control, HighControl, Terminator, Escape, Csi, Osc, Dcs, Apc, Ignored}
use Rattle.esc_frame.specs.Segments.Segment.{CutEscape, CutCsi, CutDcs}
use Rattle.esc_frame.specs.Sequences.{is_prefix}
use Rattle.esc_frame.specs.declared.classes.Kind.TheVariants as kind
use Rattle.esc_segments.specs.Items.{kind_of}
use Rattle.esc_segments.specs.declared.kind.SegmentKind.{SegmentKind}
use Rattle.esc_actions.specs.Meaning.{values_from}
use Rattle.esc_actions.specs.Readings.{reading_within}
use Rattle.esc_actions.specs.Values.{Value, plain}
use Rattle.esc_account.proofs.Segments.EscapeEndsSegment.{first_shape}
use Rattle.esc_account.specs.Short.{IsShort, is_dcs}

one_or_none : (b : ℕ) (t : Bool) → is_text (class_of b) ≡ t
    → length (bytes_of_class is_text (b ∷ [])) ≤ 1
one_or_none b true e = rw e (omega arith)
one_or_none b false e = rw e (omega arith)

some_prefix : (x : List ℕ) → is_prefix x ≡ true → 1 ≤ length x
unfolding is_prefix
some_prefix [] h = absurd cc
some_prefix (a ∷ x) h = omega arith

three : (a b m n : ℕ) → a ≤ 3 * b → m ≤ 3 * n → a + m ≤ 3 * (b + n)
three a b m n h k = omega (arith, h, k)

kept_few : (ps : List OscUnit) (after : List ℕ) → AreOscUnits ps after
    → length (text_of ps) ≤ 3 * length (text_bytes ps)
kept_few [] after h = omega arith
kept_few (One b ∷ ps) after (h, r) =
    let one = one_or_none b (is_text (class_of b)) refl in
    let more = kept_few ps after r in
    rw (
      length-append (bytes_of_class is_text (b ∷ [])) (text_of ps),
      length-append (b ∷ []) (text_bytes ps),
    ) (three (length (bytes_of_class is_text (b ∷ []))) 1 (length (text_of ps))
    (length (text_bytes ps))
    (omega (arith, one)) more)
kept_few (Sequence x ∷ ps) after (h, r) =
    let more = kept_few ps after r in
    rw (length-append x (text_of ps), length-append x (text_bytes ps))
    (three (length x) (length x) (length (text_of ps)) (length (text_bytes ps)) (omega arith) more)
kept_few (BrokenOff x ∷ ps) after (h, r) =
    let some = some_prefix x h.0 in
    let more = kept_few ps after r in
    rw (
      length-append (0xef ∷ 0xbf ∷ 0xbd ∷ []) (text_of ps),
      length-append x (text_bytes ps),
    ) (three 3 (length x) (length (text_of ps)) (length (text_bytes ps)) (omega (arith, some)) more)

one_less : (p : ℕ → Bool) (b : ℕ) (x : List ℕ) (t : Bool) → p b ≡ t
    → length (filter p x) ≤ length x → length (filter p (b ∷ x)) ≤ length (b ∷ x)
one_less p b x true e more = rw e (omega (arith, more))
one_less p b x false e more = rw e (omega (arith, more))

filtered_few : (p : ℕ → Bool) (x : List ℕ) → length (filter p x) ≤ length x
filtered_few p [] = omega arith
filtered_few p (b ∷ x) = one_less p b x (p b) refl (filtered_few p x)

osc_within : (o : Opener) (ps : List OscUnit) (e : Ending) (after : List ℕ) (limit : ℕ)
    → AreOscUnits ps after
    → 3 * length (opener kind.Osc o ++ text_bytes ps ++ ending_bytes e) ≤ limit
    → nat_le (length (text_of ps)) limit ≡ true
osc_within o ps e after limit h few =
    let kept = kept_few ps after h in
    let all = length-append (opener kind.Osc o ++ text_bytes ps) (ending_bytes e) in
    let more = length-append (opener kind.Osc o) (text_bytes ps) in
    grind (arith, nat_tests)

apc_within : (o : Opener) (d : List ℕ) (limit : ℕ)
    → 3 * length (opener kind.Apc o ++ d) ≤ limit
    → nat_le (length (bytes_of_class is_text d)) limit ≡ true
apc_within o d limit few =
    let kept = filtered_few (λ b. is_text (class_of b)) d in
    let all = length-append (opener kind.Apc o) d in
    grind (arith, nat_tests)

pub same_events : (limit : ℕ) (g : Shape) (after : List ℕ) (finished : Bool) → HasShape g after
    → IsShort limit (kind_of g) (bytes_of g)
    → events_of g finished ≡ events_of_within (Some limit) g finished
same_events limit (Character b) after finished h few = refl
same_events limit (Wide x) after finished h few = refl
same_events limit (Broken x) after finished h few = refl
same_events limit (Stray b) after finished h few = refl
same_events limit (Control b) after finished h few = refl
same_events limit (HighControl p b) after finished h few = refl
same_events limit (Terminator p b) after finished h few = refl
same_events limit (Escape x f) after finished h few = refl
same_events limit (Csi o x f) after finished h few = refl
same_events limit (Osc o ps e) after finished h few =
    ap (λ t. opener_events o
    ++ (if finished then (if t then OscDispatch (parts_of (text_of ps)) ∷ [] else []) else []))
    (sym (osc_within o ps e (ending_bytes e ++ after) limit h.1 few.1))
same_events limit (Dcs o x f d) after finished h few = absurd cc
same_events limit (Apc o d) after finished h few =
    ap (λ t. opener_events o
    ++ (if finished then (if t then ApcDispatch (bytes_of_class is_text d) ∷ [] else []) else []))
    (sym (apc_within o d limit few.1))
same_events limit (Ignored k o d) after finished h few = refl
same_events limit (CutEscape x) after finished h few = refl
same_events limit (CutCsi o x) after finished h few = refl
same_events limit (CutDcs o x) after finished h few = refl

-- so a sink that was given its values without the limit was given those of its reading
pub splits : {A S : Type 0} (R : S → Value A → S → Type 0) (limit : ℕ) (k : SegmentKind)
    (bytes : List ℕ) (b : Bool) (g : Shape) (gs : List Shape) (p q : S) → AreSegments (g ∷ gs)
    → k ≡ kind_of g → bytes ≡ bytes_of g → b ≡ is_finished g (joined_bytes gs)
    → IsShort limit k bytes
    → FoldsTo R p (values_from (Some limit) plain (events_of g b)) q
    → FoldsTo R p (reading_within (Some limit) g (is_finished g (joined_bytes gs))) q
splits R limit k bytes b g gs p q each kind same e few h =
    let short : IsShort limit (kind_of g) (bytes_of g) =
    (ap is_dcs (sym kind) ∙ few.0, subst (λ x. 3 * length x ≤ limit) same few.1) in
    subst (λ f. FoldsTo R p (reading_within (Some limit) g f) q) e
    (subst (λ es. FoldsTo R p (values_from (Some limit) plain es) q)
    (same_events limit g (joined_bytes gs) b (first_shape g gs each) short) h)
