-- One more byte of the data.
use Rattle.std.proofs.Common.{Result, Ok, Err, OnOk, ◌≡◌, ℕ, ℤ, ◌+◌, Bool, true, false, if◌then◌else◌, ◌||◌, List, [], ◌∷◌, ◌++◌}
use Rattle.std.proofs.Common.{Option, Some, None, refl, sym, ap, ◌∙◌, append-nil, append_assoc, ◌⊎◌, inl, inr}
use Rattle.std.proofs.lemmas.Bool.{cases_Bool}
use Rattle.std.specs.Option.{option_map, unwrap_or}
use Rattle.std.specs.List.{flat_map, list_any}
use Rattle.std.proofs.lemmas.List.{flat_map_more}
use Rattle.esc_sixel.specs.Classes.{class_of}
use Rattle.esc_sixel.specs.Items.{Item, OfRepeat, OfColor, OfRaster, OfJunk, Outside, InRepeat, InRun}
use Rattle.esc_sixel.specs.Items.{run_of, after_run, first_pixels, begun_place, item_of, items_at, items}
use Rattle.esc_sixel.specs.Meaning.{sixel_of, raster_pan, raster_pad, raster_sizes, is_oversize, gives, last_of, after_last}
use Rattle.esc_sixel.specs.Steps.{Open, Closed, In, ended_items, lone_item, closed_by, opened_command, open_by, closed_of, open_of, with_item, with_items, HoldsOpen}
use Rattle.esc_sixel.specs.declared.parameters.Parameters.{Parameters}
use Rattle.esc_sixel.specs.declared.sixel.Sixel.{Sixel}
use Rattle.esc_sixel.specs.declared.class.Class.{Class}
use Rattle.esc_sixel.specs.declared.class.Class.TheVariants.{Return, Line, Pixels, Introduces, Digit, Separator, Junk}
use Rattle.esc_sixel.specs.declared.introducer.Introducer.{Introducer}
use Rattle.esc_sixel.specs.declared.introducer.Introducer.TheVariants as introducer

-- the machine's halves are the items
abbrev pub from : Open → List ℕ → List Item
from Closed bs = items_at Outside bs
from (In introducer.Repeat r) bs =
    OfRepeat (r ++ run_of bs) (first_pixels (after_run bs)) ∷ items_at InRepeat bs
from (In introducer.Color r) bs = OfColor (r ++ run_of bs) ∷ items_at InRun bs
from (In introducer.Raster r) bs = OfRaster (r ++ run_of bs) ∷ items_at InRun bs

begin : (m : Introducer) (bs : List ℕ) (b : ℕ)
    → item_of (Introduces m) b bs ∷ items_at (begun_place (Introduces m)) bs ≡ from (In m []) bs
begin introducer.Repeat bs b = refl
begin introducer.Color bs b = refl
begin introducer.Raster bs b = refl

-- one byte of them
first_byte : (o : Open) (b : ℕ) (bs : List ℕ) (c : Class) → class_of b ≡ c
    → from o (b ∷ bs) ≡ closed_by o c b ++ from (open_by o c b) bs
first_byte Closed b bs Return e = rw e refl
first_byte Closed b bs Line e = rw e refl
first_byte Closed b bs (Pixels v) e = rw e refl
first_byte Closed b bs (Introduces m) e = rw e (begin m bs b)
first_byte Closed b bs (Digit d) e = rw e refl
first_byte Closed b bs Separator e = rw e refl
first_byte Closed b bs Junk e = rw e refl
first_byte (In introducer.Repeat r) b bs Return e = rw (e, e, append-nil) refl
first_byte (In introducer.Repeat r) b bs Line e = rw (e, e, append-nil) refl
first_byte (In introducer.Repeat r) b bs (Pixels v) e = rw (e, e, append-nil) refl
first_byte (In introducer.Repeat r) b bs (Introduces m) e =
    rw (e, e, append-nil) (ap (λ y. OfRepeat r None ∷ y) (begin m bs b))
first_byte (In introducer.Repeat r) b bs (Digit d) e = rw (e, append_assoc) refl
first_byte (In introducer.Repeat r) b bs Separator e = rw (e, append_assoc) refl
first_byte (In introducer.Repeat r) b bs Junk e = rw (e, e, append-nil) refl
first_byte (In introducer.Color r) b bs Return e = rw (e, append-nil) refl
first_byte (In introducer.Color r) b bs Line e = rw (e, append-nil) refl
first_byte (In introducer.Color r) b bs (Pixels v) e = rw (e, append-nil) refl
first_byte (In introducer.Color r) b bs (Introduces m) e =
    rw (e, append-nil) (ap (λ y. OfColor r ∷ y) (begin m bs b))
first_byte (In introducer.Color r) b bs (Digit d) e = rw (e, append_assoc) refl
first_byte (In introducer.Color r) b bs Separator e = rw (e, append_assoc) refl
first_byte (In introducer.Color r) b bs Junk e = rw (e, append-nil) refl
first_byte (In introducer.Raster r) b bs Return e = rw (e, append-nil) refl
first_byte (In introducer.Raster r) b bs Line e = rw (e, append-nil) refl
first_byte (In introducer.Raster r) b bs (Pixels v) e = rw (e, append-nil) refl
first_byte (In introducer.Raster r) b bs (Introduces m) e =
    rw (e, append-nil) (ap (λ y. OfRaster r ∷ y) (begin m bs b))
first_byte (In introducer.Raster r) b bs (Digit d) e = rw (e, append_assoc) refl
first_byte (In introducer.Raster r) b bs Separator e = rw (e, append_assoc) refl
first_byte (In introducer.Raster r) b bs Junk e = rw (e, append-nil) refl

last_bytes : (o : Open) → from o [] ≡ ended_items o
last_bytes Closed = refl
last_bytes (In introducer.Repeat r) = rw append-nil refl
last_bytes (In introducer.Color r) = rw append-nil refl
last_bytes (In introducer.Raster r) = rw append-nil refl

pub halves : (o : Open) (bs : List ℕ) → from o bs ≡ closed_of o bs ++ ended_items (open_of o bs)
halves o [] = last_bytes o
halves o (b ∷ bs) =
    first_byte o b bs (class_of b) refl
    ∙ ap (λ y. closed_by o (class_of b) b ++ y) (halves (open_by o (class_of b) b) bs)
    ∙ sym (append_assoc (closed_by o (class_of b) b) (closed_of (open_by o (class_of b) b) bs)
    (ended_items (open_of (open_by o (class_of b) b) bs)))

pub open_push : (o : Open) (bs : List ℕ) (b : ℕ)
    → open_of o (bs ++ b ∷ []) ≡ open_by (open_of o bs) (class_of b) b
open_push o [] b = refl
open_push o (x ∷ bs) b = open_push (open_by o (class_of x) x) bs b

pub closed_push : (o : Open) (bs : List ℕ) (b : ℕ)
    → closed_of o (bs ++ b ∷ []) ≡ closed_of o bs ++ closed_by (open_of o bs) (class_of b) b
closed_push o [] b = append-nil (closed_by o (class_of b) b)
closed_push o (x ∷ bs) b =
    ap (λ y. closed_by o (class_of x) x ++ y) (closed_push (open_by o (class_of x) x) bs b)
    ∙ sym (append_assoc (closed_by o (class_of x) x) (closed_of (open_by o (class_of x) x) bs)
    (closed_by (open_of (open_by o (class_of x) x) bs) (class_of b) b))

-- one more item
pub last_of_push : {X : Type 0} (f : Item → Option X) (x : X) (is : List Item) (i : Item)
    → last_of f x (is ++ i ∷ []) ≡ unwrap_or (f i) (last_of f x is)
last_of_push f x [] i = refl
last_of_push f x (j ∷ is) i = last_of_push f (unwrap_or (f j) x) is i

-- a test of one more item
any_push : (t : Item → Bool) (is : List Item) (i : Item)
    → list_any t (is ++ i ∷ []) ≡ (list_any t is || t i)
any_push t [] i = elim (cases_Bool (t i)) [ inl e ↦ rw e refl | inr e ↦ rw e refl ]
any_push t (j ∷ is) i =
    elim (cases_Bool (t j)) [ inl e ↦ rw e refl | inr e ↦ rw e (any_push t is i) ]

or_true : (b : Bool) → (b || true) ≡ true
or_true true = refl
or_true false = refl

or_false : (b : Bool) → (b || false) ≡ b
or_false true = refl
or_false false = refl

pub after_last_push : (t : Item → Bool) (is : List Item) (i : Item)
    → after_last t (is ++ i ∷ []) ≡ (if t i then [] else after_last t is ++ i ∷ [])
after_last_push t [] i = elim (cases_Bool (t i)) [
  | inl e ↦ rw e refl
  | inr e ↦ rw e refl
]
after_last_push t (j ∷ is) i = elim (cases_Bool (t i)) [
  | inl e ↦ let a : list_any t (is ++ i ∷ []) ≡ true =
      any_push t is i ∙ rw e (or_true (list_any t is)) in
      let r : after_last t (is ++ i ∷ []) ≡ [] = after_last_push t is i ∙ rw e refl in
      rw (a, or_true (t j), e) r
  | inr e ↦ let a : list_any t (is ++ i ∷ []) ≡ list_any t is =
      any_push t is i ∙ rw e (or_false (list_any t is)) in
      let r : after_last t (is ++ i ∷ []) ≡ after_last t is ++ i ∷ [] =
      after_last_push t is i ∙ rw e refl in
      elim (cases_Bool (t j || list_any t is)) [
        | inl y ↦ rw (a, y, e) r
        | inr n ↦ rw (a, n, e) refl
      ]
]

content_push : (is : List Item) (i : Item) → flat_map gives (after_last is_oversize (is ++ i ∷ []))
    ≡ (if is_oversize i then [] else flat_map gives (after_last is_oversize is) ++ gives i)
content_push is i = elim (cases_Bool (is_oversize i)) [
  | inl e ↦ rw (after_last_push is_oversize is i, e) refl
  | inr e ↦ rw (
    after_last_push is_oversize is i,
    e,
  ) (sym (flat_map_more gives [] (after_last is_oversize is) i))
]

under : {X Y : Type 0} (f : X → Y) (o : Option X) (x : X)
    → f (unwrap_or o x) ≡ unwrap_or (option_map f o) (f x)
under f None x = refl
under f (Some y) x = refl

pub sixel_push : {A : Type 0} (ps : List ℤ) (is : List Item) (i : Item)
    → sixel_of {A = A} ps (is ++ i ∷ []) ≡ with_item (sixel_of ps is) i
sixel_push ps is i =
    rw (
      last_of_push raster_pan (Rattle.esc_sixel.specs.Meaning.header_pan ps) is i,
      last_of_push raster_pad (Rattle.std.proofs.Common.pos 1) is i,
      last_of_push raster_sizes None is i,
      content_push is i,
      under (λ (o : Option (ℕ × ℕ)). option_map (λ (s : ℕ × ℕ). s.0) o) (raster_sizes i)
          (last_of raster_sizes None is),
      under (λ (o : Option (ℕ × ℕ)). option_map (λ (s : ℕ × ℕ). s.1) o) (raster_sizes i)
          (last_of raster_sizes None is),
    ) refl

pub sixel_append : {A : Type 0} (ps : List ℤ) (is js : List Item)
    → sixel_of {A = A} ps (is ++ js) ≡ with_items (sixel_of ps is) js
sixel_append {A = A} ps is [] = ap (sixel_of {A = A} ps) (append-nil is)
sixel_append {A = A} ps is (j ∷ js) =
    ap (sixel_of {A = A} ps) (sym (append_assoc is (j ∷ []) js))
    ∙ sixel_append ps (is ++ j ∷ []) js
    ∙ ap (λ s. with_items s js) (sixel_push ps is j)

-- a run goes on
pub closed_next : (m : Introducer) (r : List ℕ) (b : ℕ) → closed_by (In m r) Separator b ≡ []
closed_next introducer.Repeat r b = refl
closed_next introducer.Color r b = refl
closed_next introducer.Raster r b = refl

pub closed_digit : (m : Introducer) (r : List ℕ) (d b : ℕ) → closed_by (In m r) (Digit d) b ≡ []
closed_digit introducer.Repeat r d b = refl
closed_digit introducer.Color r d b = refl
closed_digit introducer.Raster r d b = refl

pub on_ok : {T E : Type 0} {P Q : Type 0} (r : Result T E) → (P → Q) → OnOk r P → OnOk r Q
on_ok (Ok x) f a = f a
on_ok (Err e) f a = tt

-- a byte outside a command, and in or after one
pub after_none : {A : Type 0} {T E : Type 0} (ps : List ℤ) (is : List Item) (o : Open) (c : Class)
    (b : ℕ)
    (old new : Sixel A) (was is_now : Option Introducer) (kept keeps : Parameters) (r : Result T E)
    → old ≡ sixel_of ps is → HoldsOpen o was kept → was ≡ None
    → OnOk r ((new ≡ with_items old (lone_item c b)) × HoldsOpen (opened_command c) is_now keeps)
    → OnOk r ((new ≡ sixel_of ps (is ++ closed_by o c b)) × HoldsOpen (open_by o c b) is_now keeps)
after_none {A = A} ps is Closed c b old new was is_now kept keeps r so h none did =
    on_ok r (λ d. (
      d.0 ∙ ap (λ s. with_items s (lone_item c b)) so ∙ sym
          (sixel_append {A = A} ps is (lone_item c b)),
      d.1,
    )) did
after_none ps is (In m q) c b old new was is_now kept keeps r so h none did =
    absurd (let e : Some m ≡ None = sym h.0 ∙ none in cc)

pub after_some : {A : Type 0} {T E : Type 0} (ps : List ℤ) (is : List Item) (o : Open)
    (m : Introducer) (c : Class) (b : ℕ)
    (old new : Sixel A) (was is_now : Option Introducer) (kept keeps : Parameters) (r : Result T E)
    → old ≡ sixel_of ps is → HoldsOpen o was kept → was ≡ Some m
    → ((q : List ℕ) → HoldsOpen (In m q) was kept
    → OnOk r ((new ≡ with_items old (closed_by (In m q) c b))
    × HoldsOpen (open_by (In m q) c b) is_now keeps))
    → OnOk r ((new ≡ sixel_of ps (is ++ closed_by o c b)) × HoldsOpen (open_by o c b) is_now keeps)
after_some ps is Closed m c b old new was is_now kept keeps r so h some did =
    absurd (let e : Some m ≡ None = sym some ∙ h in cc)
after_some {A = A} ps is (In n q) m c b old new was is_now kept keeps r so h some did =
    let e : Some n ≡ Some m = sym h.0 ∙ some in
    let same : n ≡ m = cc in
    on_ok r (λ d. (
      d.0 ∙ ap (λ s. with_items s (closed_by (In n q) c b)) so
          ∙ sym (sixel_append {A = A} ps is (closed_by (In n q) c b)),
      d.1,
    ))
    (rw (sym same) at (did q (rw (sym same) h)))

-- a byte of junk at the end
abbrev junk_closes : Open → Type 0
junk_closes o = closed_by o Junk 0 ≡ ended_items o ++ OfJunk 0 ∷ []

junk_last : (o : Open) → junk_closes o
junk_last Closed = refl
junk_last (In introducer.Repeat r) = refl
junk_last (In introducer.Color r) = refl
junk_last (In introducer.Raster r) = refl

zero_is_junk : class_of 0 ≡ Junk
unfolding class_of
zero_is_junk = refl

pub finished : {A : Type 0} (ps : List ℤ) (s : List ℕ)
    → sixel_of {A = A} ps (closed_of Closed (s ++ 0 ∷ [])) ≡ sixel_of ps (items s)
finished {A = A} ps s =
    let all : closed_of Closed (s ++ 0 ∷ [])
    ≡ (closed_of Closed s ++ ended_items (open_of Closed s))
    ++ OfJunk 0 ∷ [] =
    closed_push Closed s 0
    ∙ ap (λ c. closed_of Closed s ++ closed_by (open_of Closed s) c 0) zero_is_junk
    ∙ ap (λ y. closed_of Closed s ++ y) (junk_last (open_of Closed s))
    ∙ sym (append_assoc (closed_of Closed s) (ended_items (open_of Closed s)) (OfJunk 0 ∷ [])) in
    let cut : closed_of Closed s ++ ended_items (open_of Closed s) ≡ items s = sym (halves Closed s)
    in
    let same : sixel_of {A = A} ps (closed_of Closed (s ++ 0 ∷ []))
    ≡ sixel_of ps (items s ++ OfJunk 0 ∷ []) =
    ap (sixel_of {A = A} ps) (all ∙ ap (λ y. y ++ OfJunk 0 ∷ []) cut) in
    same ∙ sixel_push ps (items s) (OfJunk 0) ∙ rw append-nil refl
