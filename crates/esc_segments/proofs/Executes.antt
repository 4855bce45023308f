-- The controls inside the bytes of sequences and openers.
use Rattle.std.proofs.Common.{ℕ, ◌≡◌, true, false, List, [], ◌∷◌, ◌++◌, map, refl, ap, ◌∙◌}
use Rattle.std.proofs.lemmas.List.{map-append, append-nil}
use Rattle.std.proofs.lemmas.List.Elements.{filter-append}
use Rattle.esc_frame.specs.declared.classes.Class.{Class}
use Rattle.esc_frame.specs.declared.classes.Class.TheVariants.{Parameter, Introducer, Final, Lead, Breaks}
use Rattle.esc_frame.specs.declared.classes.Breaker.TheVariants.{Escape, C1Introducer}
use Rattle.esc_frame.specs.declared.classes.Kind.{Kind}
use Rattle.esc_frame.specs.declared.classes.Kind.TheVariants as kind
use Rattle.esc_frame.specs.Classes.{class_of, is_c0, ends_escape, ends_csi, letter_of, raw_of, bytes_of_class}
use Rattle.esc_frame.specs.Events.Event.{Execute}
use Rattle.esc_frame.specs.Segments.{Opener, executes, opener, opener_events}
use Rattle.esc_frame.specs.Segments.Opener.{Long, Raw, Pair}

pub escape_code : class_of 0x1b ≡ (Breaks Escape)
unfolding class_of
escape_code = refl

pub c2_code : class_of 0xc2 ≡ Lead
unfolding class_of
c2_code = refl

pub letter_code : (k : Kind) → class_of (letter_of k) ≡ Introducer k
unfolding class_of
letter_code kind.Csi = refl
letter_code kind.Osc = refl
letter_code kind.Dcs = refl
letter_code kind.Sos = refl
letter_code kind.Pm = refl
letter_code kind.Apc = refl

pub raw_code : (k : Kind) → class_of (raw_of k) ≡ Breaks (C1Introducer k)
unfolding class_of
raw_code kind.Csi = refl
raw_code kind.Osc = refl
raw_code kind.Dcs = refl
raw_code kind.Sos = refl
raw_code kind.Pm = refl
raw_code kind.Apc = refl

executes_append : (x y : List ℕ) → executes (x ++ y) ≡ executes x ++ executes y
executes_append x y = ap (map Execute) (filter-append (λ b. is_c0 (class_of b)) x y)
    ∙ map-append Execute (bytes_of_class is_c0 x) (bytes_of_class is_c0 y)

executes_none : (b : ℕ) → is_c0 (class_of b) ≡ false → executes (b ∷ []) ≡ []
executes_none b h = rw h refl

-- after ESC, and before a byte that is not executed
pub executes_escape : (x : List ℕ) → executes (0x1b ∷ x) ≡ executes x
executes_escape x = rw escape_code refl

executes_before : (x : List ℕ) (f : ℕ) → is_c0 (class_of f) ≡ false
    → executes (x ++ f ∷ []) ≡ executes x
executes_before x f h = executes_append x (f ∷ []) ∙ ap (λ y. executes x ++ y) (executes_none f h)
    ∙ append-nil (executes x)

letter_plain : (k : Kind) → is_c0 (class_of (letter_of k)) ≡ false
letter_plain k = rw (letter_code k) refl

-- an opener
pub executes_opener : (k : Kind) (o : Opener) → executes (opener k o) ≡ opener_events o
executes_opener k (Long n) =
    executes_before (0x1b ∷ n) (letter_of k) (letter_plain k) ∙ executes_escape n
executes_opener k Raw = rw (raw_code k) refl
executes_opener k Pair = rw (c2_code, raw_code k) refl

final_plain : (c : Class) → ends_escape c ≡ true → is_c0 c ≡ false
final_plain Parameter h = refl
final_plain (Introducer k) h = refl
final_plain Final h = refl
final_plain _ h = absurd cc

csi_plain : (c : Class) → ends_csi c ≡ true → is_c0 c ≡ false
csi_plain (Introducer k) h = refl
csi_plain Final h = refl
csi_plain _ h = absurd cc

-- whole sequences
pub executes_whole_escape : (x : List ℕ) (f : ℕ) → ends_escape (class_of f) ≡ true
    → executes ((0x1b ∷ x) ++ f ∷ []) ≡ executes x
executes_whole_escape x f h =
    executes_before (0x1b ∷ x) f (final_plain (class_of f) h) ∙ executes_escape x

pub executes_opened : (k : Kind) (o : Opener) (x : List ℕ)
    → executes (opener k o ++ x) ≡ opener_events o ++ executes x
executes_opened k o x =
    executes_append (opener k o) x ∙ ap (λ y. y ++ executes x) (executes_opener k o)

pub executes_whole_csi : (o : Opener) (x : List ℕ) (f : ℕ) → ends_csi (class_of f) ≡ true
    → executes (opener kind.Csi o ++ x ++ f ∷ []) ≡ opener_events o ++ executes x
executes_whole_csi o x f h = executes_before (opener kind.Csi o ++ x) f (csi_plain (class_of f) h)
    ∙ executes_opened kind.Csi o x
