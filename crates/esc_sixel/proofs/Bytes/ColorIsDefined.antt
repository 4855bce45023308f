-- A colour that is defined between two `#`.
use Rattle.std.proofs.Common.{Ok, ◌≡◌, ℕ, ◌+◌, ◌<◌, List, [], ◌∷◌, ◌++◌, Option, None, Some, refl, sym, ap, subst, ◌∙◌, length, get_or, min, arith}
use Rattle.std.specs.Option.{unwrap_or}
use Rattle.std.specs.List.{FoldsTo, All}
use Rattle.esc_sixel.specs.Classes.{class_of, IsDigit}
use Rattle.esc_sixel.specs.Lines.{fresh, number_after}
use Rattle.esc_sixel.specs.Meaning.{color_of, percent}
use Rattle.esc_sixel.specs.Runs.{Keeps, param, separators, more_digit, more_digits}
use Rattle.esc_sixel.specs.Steps.{HasConsumed, Pushes, Closed, closed_of, open_of}
use Rattle.esc_sixel.specs.declared.builder.SixelBuilder.{SixelBuilder}
use Rattle.esc_sixel.specs.declared.class.Class.TheVariants.{Separator}
use Rattle.esc_sixel.specs.declared.introducer.Introducer.{Introducer}
use Rattle.esc_sixel.specs.declared.introducer.Introducer.TheVariants as introducer
use Rattle.esc_sixel.specs.declared.parameters.Parameters.{Parameters}
use Rattle.esc_sixel.specs.declared.sixel_data.SixelData.TheVariants.{DefineColorMapRGB}
use Rattle.esc_sixel.proofs.Bytes.ManyBytes.{digit_pushed, digits_pushed}
use Rattle.esc_sixel.proofs.Bytes.OneByteMore.{after_some, closed_push, open_push}
use Rattle.esc_sixel.proofs.Runs.OneByteMoreOfRun.{param_next, semicolons_next}
use Rattle.esc_sixel.proofs.Runs.RunsOfDigits.{digits_written, written}

-- a builder in a `#` with these parameters
abbrev pub open_at : {A : Type 0} → SixelBuilder A → Parameters → SixelBuilder A
open_at p k = record p { introducer = Some introducer.Color; parameters = k }

abbrev pub holding : Option ℕ → Option ℕ → Option ℕ → Option ℕ → Option ℕ → ℕ → Parameters
holding a b c d e n = record { values = a ∷ b ∷ c ∷ d ∷ e ∷ []; count = n }

pub opened : {A : Type 0} (p : SixelBuilder A) → p.introducer ≡ Some introducer.Color
    → p.parameters ≡ fresh → open_at p fresh ≡ p
opened p i k = ap (λ x. record p { introducer = x; parameters = fresh }) (sym i)
    ∙ ap (λ x. record p { parameters = x }) (sym k)

pub renamed : {A : Type 0} (p after q of : SixelBuilder A) (xs : List ℕ) → after ≡ p → of ≡ q
    → FoldsTo Pushes after xs of → FoldsTo Pushes p xs q
renamed p after q of xs e f h =
    subst (λ z. FoldsTo Pushes z xs q) e (subst (λ z. FoldsTo Pushes after xs z) f h)

-- one more `;`
separator_class : (b : ℕ) → b ≡ 0x3b → class_of b ≡ Separator
unfolding class_of
separator_class b e = rw e refl

keeps_next : (k : Parameters) (r : List ℕ) (b : ℕ) → b ≡ 0x3b → k.count < 5 → Keeps k r
    → Keeps (record { values = k.values; count = k.count + 1 }) (r ++ b ∷ [])
keeps_next k r b e room h = rw e (record {
  values = λ j small. h.values j small ∙ sym (param_next r j);
  count = omega (arith, h.count, semicolons_next r, room);
})

pub separator_pushed : {A : Type 0} (p : SixelBuilder A) (k : Parameters) (b : ℕ) → b ≡ 0x3b
    → k.count < 5
    → Pushes (open_at p k) b (open_at p (record { values = k.values; count = k.count + 1 }))
unfolding HasConsumed
separator_pushed p k b e room = λ ps s lead.
    rw (closed_push Closed s b, open_push Closed s b)
    (after_some {T = Unit {0}} {E = Unit {0}} ps (closed_of Closed s) (open_of Closed s)
    introducer.Color (class_of b) b p.sixel p.sixel
    (Some introducer.Color) (Some introducer.Color) k (record {
      values = k.values;
      count = k.count + 1;
    }) (Ok tt) lead.0 lead.1 refl
    (λ r h. rw (separator_class b e) (refl, (refl, keeps_next k r b e room h.1))))

pub two_pushed : {A : Type 0} (p : SixelBuilder A) (k : Parameters) (b : ℕ) → b ≡ 0x32
    → length k.values ≡ 5 → k.count < 5
    → Pushes (open_at p k) b (open_at p (more_digit k 0x32))
two_pushed p k b e five room =
    rw e (digit_pushed (open_at p k) introducer.Color 0x32 refl five room refl)

-- a number in place of none
pub number_pushed : {A : Type 0} (p : SixelBuilder A) (k : Parameters) (ds : List ℕ) (n : ℕ)
    → length k.values ≡ 5 → k.count < 5 → 0 < length ds
    → All IsDigit ds → n ≡ number_after (unwrap_or (get_or k.values k.count None) 0) ds
    → FoldsTo Pushes (open_at p k) ds (open_at p (written k n))
number_pushed p k ds n five room some h e =
    let is : written k n ≡ more_digits k ds =
    ap (written k) e ∙ sym (digits_written k ds (omega (arith, five, room)) some) in
    digits_pushed ds (open_at p k) (open_at p (written k n)) introducer.Color refl five (λ t.
    room) h (ap (open_at p) is)

-- the colour that the five numbers give
pub defines : (r : List ℕ) (n x y z : ℕ) → n < 10000
    → Keeps (holding (Some n) (Some 2) (Some x) (Some y) (Some z) 4) r
    → DefineColorMapRGB n (percent x, percent y, percent z) ≡ color_of r
defines r n x y z small k =
    let four : separators r ≡ 4 = omega (arith, k.count) in
    let a : param r 0 ≡ Some n = sym (k.values 0 (omega arith)) in
    let b : param r 1 ≡ Some 2 = sym (k.values 1 (omega arith)) in
    let c : param r 2 ≡ Some x = sym (k.values 2 (omega arith)) in
    let d : param r 3 ≡ Some y = sym (k.values 3 (omega arith)) in
    let e : param r 4 ≡ Some z = sym (k.values 4 (omega arith)) in
    let fits : n ≡ min n 65535 = omega arith in
    rw (four, a, b, c, d, e) (ap (λ m. DefineColorMapRGB m (percent x, percent y, percent z)) fits)

pub made : (n x y z : ℕ) (rgb : ℕ × ℕ × ℕ) (a b c : ℕ) → rgb ≡ (a, b, c) → a ≡ percent x
    → b ≡ percent y → c ≡ percent z
    → DefineColorMapRGB n rgb ≡ DefineColorMapRGB n (percent x, percent y, percent z)
made n x y z rgb a b c e f g h = rw (e, f, g, h) refl

pub is_color : (o : Option Introducer) (i : Introducer) → o ≡ Some i → i ≡ introducer.Color
    → o ≡ Some introducer.Color
is_color o i e f = e ∙ ap Some f
