-- The first segment of the rest, again and again, is the cut.
use Rattle.std.proofs.Common.{ℕ, ◌≡◌, ◌==◌, Bool, true, false, List, [], ◌∷◌, ◌++◌, length, take, drop, refl, ap, sym, ◌∙◌, subst, arith}
use Rattle.std.specs.Prelude.{None}
use Rattle.std.specs.Iterator.{Drains, Yields}
use Rattle.std.proofs.lemmas.List.{nil_from_length, take_at, drop_at}
use Rattle.std.proofs.lemmas.List.Concat.{flat_map-append}
use Rattle.std.proofs.lemmas.Bool.Decides.{nat_tests}
use Rattle.esc_segments.specs.declared.item.Segment.{Segment as Item}
use Rattle.esc_segments.specs.declared.iter.Segments.{Segments}
use Rattle.esc_segments.specs.declared.found.Found.{Found}
use Rattle.esc_segments.specs.Places.{IsFirst}
use Rattle.esc_segments.specs.Items.{IsItem, IsHead, AreItems, GivesFirst, left_bytes, item_bytes}
use Rattle.esc_frame.specs.Segments.{Segment, IsCut, HasShape, AreSegments, joined_bytes, bytes_of, is_finished}

-- the statements of `has_cut` and `one_cut`
abbrev pub HasCut : Type 0
HasCut = (stream : List ℕ) → (gs : List Segment) × IsCut stream gs

abbrev pub OneCut : Type 0
OneCut = (stream : List ℕ) (gs hs : List Segment) → IsCut stream gs → IsCut stream hs → gs ≡ hs

zero_is : (n : ℕ) → (n == 0) ≡ true → n ≡ 0
zero_is n h = grind (arith, nat_tests)

pub nothing_is : (s : List ℕ) → (length s == 0) ≡ true → s ≡ []
nothing_is s h = nil_from_length s (zero_is (length s) h)

nothing : IsCut [] []
nothing = record { whole = refl; each = tt }

pub none_left : OneCut → (s : List ℕ) (gs : List Segment) → s ≡ [] → IsCut s gs → gs ≡ []
none_left once s gs e c = once s gs [] c (subst (λ y. IsCut y []) (sym e) nothing)

-- a segment before a cut
are_more : (g : Segment) (hs : List Segment) → HasShape g (joined_bytes hs)
    → is_finished g (joined_bytes hs) ≡ true → AreSegments hs → AreSegments (g ∷ hs)
are_more g [] s f a = s
are_more g (h ∷ hs) s f a = (s, f, a)

-- the rest has a cut, and this segment before it is a cut of the whole
abbrev Rest : Segment → List ℕ → List ℕ → Type 0
Rest g s t = (hs : List Segment) × IsCut t hs × IsCut s (g ∷ hs)

rest_by : HasCut → (g : Segment) (s t : List ℕ) (w : Bool) → s ≡ bytes_of g ++ t → HasShape g t
    → w ≡ is_finished g t → (w ≡ false → t ≡ []) → Rest g s t
rest_by has g s t true e h f l =
    let c = has t in
    let hs = c.0 in
    let j = c.1.whole in (
      hs,
      c.1,
      record {
        whole = e ∙ ap (λ y. bytes_of g ++ y) j;
        each = are_more g hs (subst (λ y. HasShape g y) j h) (sym (ap (is_finished g) j) ∙ sym f)
            c.1.each;
      },
    )
rest_by has g s t false e h f l =
    let i = l refl in (
      [],
      subst (λ y. IsCut y []) (sym i) nothing,
      record { whole = e ∙ ap (λ y. bytes_of g ++ y) i; each = subst (λ y. HasShape g y) i h },
    )

-- the first segment of the one cut
pub first_of_cut : HasCut → OneCut → (s : List ℕ) (x : Found) (t : List ℕ) (item : Item)
    → IsFirst s x → t ≡ drop x.len s → item.kind ≡ x.kind
    → item.bytes.now ≡ take x.len s → item.finished ≡ x.finished → (gs : List Segment) → IsCut s gs
    → IsHead s gs item t
first_of_cut has once s x t item d e k b f gs c =
    let n : length (bytes_of d.g) ≡ x.len = sym d.len in
    let after : t ≡ d.after =
    e ∙ ap (drop x.len) d.whole ∙ drop_at (bytes_of d.g) d.after x.len n in
    let bytes : item.bytes.now ≡ bytes_of d.g =
    b ∙ ap (take x.len) d.whole ∙ take_at (bytes_of d.g) d.after x.len n in
    let r = rest_by has d.g s d.after x.finished d.whole d.shape d.finished d.last in record {
      head = d.g;
      others = r.0;
      first = once s gs (d.g ∷ r.0) c r.2;
      item = record {
        kind = k ∙ d.kind;
        bytes = bytes;
        finished = f ∙ d.finished ∙ ap (is_finished d.g) (sym after);
      };
      place = d.whole ∙ ap (λ y. y ++ d.after) (sym bytes)
          ∙ ap (λ y. item.bytes.now ++ y) (sym after);
      rest = subst (λ y. IsCut y r.0) (sym after) r.1;
    }

-- ---- from the first call to the last

items_by : (xs : List Item) (s t u : Segments) (gs : List Segment) → Yields GivesFirst s xs t
    → GivesFirst t None u
    → IsCut (left_bytes s) gs → AreItems xs gs
items_by [] s t u gs y n c =
    let e : gs ≡ [] = (n gs (subst (λ z. IsCut (left_bytes z) gs) y c)).0 in
    subst (λ z. AreItems [] z) (sym e) tt
items_by (x ∷ xs) s t u gs (j, p, y) n c =
    let q = p gs c in
    let here = subst (λ z. IsItem x q.head z) q.rest.whole q.item in
    subst (λ z. AreItems (x ∷ xs) z) (sym q.first) (here, items_by xs j t u q.others y n q.rest)

pub items_are : (s : Segments) (xs : List Item) (gs : List Segment) → Drains GivesFirst s xs
    → IsCut (left_bytes s) gs → AreItems xs gs
items_are s xs gs (u, (t, y, n)) c = items_by xs s t u gs y n c

-- the items' bytes are the bytes that were left
bytes_by : HasCut → (xs : List Item) (s t u : Segments) → Yields GivesFirst s xs t
    → GivesFirst t None u → left_bytes s ≡ item_bytes xs
bytes_by has [] s t u y n =
    let c = has (left_bytes t) in
    let e : c.0 ≡ [] = (n c.0 c.1).0 in ap left_bytes y ∙ c.1.whole ∙ ap joined_bytes e
bytes_by has (x ∷ xs) s t u (j, p, y) n =
    let c = has (left_bytes s) in
    let q = p c.0 c.1 in q.place ∙ ap (λ z. x.bytes.now ++ z) (bytes_by has xs j t u y n)

pub items_lie : HasCut → (s : Segments) (before : List Item) (x : Item) (after : List Item)
    → Drains GivesFirst s (before ++ x ∷ after)
    → left_bytes s ≡ item_bytes before ++ (x.bytes.now ++ item_bytes after)
items_lie has s before x after (u, (t, y, n)) =
    bytes_by has (before ++ x ∷ after) s t u y n ∙ flat_map-append (λ z.
    z.bytes.now) before (x ∷ after)
