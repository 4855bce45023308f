-- The items of an iterator over segments: the cut of its bytes, each segment as an item.
use Rattle.std.specs.Prelude.{ℕ, ◌≡◌, List, [], ◌∷◌, ◌++◌, Option, MatchOption}
use Rattle.std.specs.List.{flat_map}
use Rattle.esc_segments.specs.declared.kind.SegmentKind.{SegmentKind}
use Rattle.esc_segments.specs.declared.kind.SegmentKind.TheVariants as kinds
use Rattle.esc_segments.specs.declared.item.Segment.{Segment as Item}
use Rattle.esc_segments.specs.declared.iter.Segments.{Segments}
use Rattle.esc_frame.specs.Segments.{Segment, IsCut, bytes_of, is_finished, joined_bytes}
use Rattle.esc_frame.specs.Segments.Segment.{Character, Wide, Broken, Stray, Control, HighControl, Terminator, Escape, Csi, Osc, Dcs, Apc, Ignored}
use Rattle.esc_frame.specs.Segments.Segment.{CutEscape, CutCsi, CutDcs}

abbrev pub kind_of : Segment → SegmentKind
kind_of (Character b) = kinds.Character
kind_of (Wide x) = kinds.Character
kind_of (Broken x) = kinds.Broken
kind_of (Stray b) = kinds.Stray
kind_of (Control b) = kinds.Control
kind_of (HighControl p b) = kinds.Control
kind_of (Terminator p b) = kinds.Terminator
kind_of (Escape x f) = kinds.Escape
kind_of (Csi o x f) = kinds.Csi
kind_of (Osc o ps e) = kinds.Osc
kind_of (Dcs o x f d) = kinds.Dcs
kind_of (Apc o d) = kinds.Apc
kind_of (Ignored k o d) = kinds.Ignored
kind_of (CutEscape x) = kinds.CutShort
kind_of (CutCsi o x) = kinds.CutShort
kind_of (CutDcs o x) = kinds.CutShort

-- the item is this segment, if these bytes follow it
pub record IsItem (x : Item) (g : Segment) (after : List ℕ) : Type 0 where
  pub kind : x.kind ≡ kind_of g
  pub bytes : x.bytes.now ≡ bytes_of g
  pub finished : x.finished ≡ is_finished g after

-- the items are these segments, one after another and no more
abbrev pub AreItems : List Item → List Segment → Type 0
AreItems [] [] = Unit {0}
AreItems (x ∷ xs) (g ∷ gs) = IsItem x g (joined_bytes gs) × AreItems xs gs
AreItems _ _ = ⊥

-- the bytes that an iterator has left
abbrev pub left_bytes : Segments → List ℕ
left_bytes s = s.rest.now

-- The item is the first segment of this cut of the bytes, and its bytes come first there; the rest
-- is the bytes after it, and their cut.
pub record IsHead (bytes : List ℕ) (gs : List Segment) (x : Item) (after : List ℕ) : Type 0 where
  pub head : Segment
  pub others : List Segment
  pub first : gs ≡ head ∷ others
  pub item : IsItem x head after
  pub place : bytes ≡ x.bytes.now ++ after
  pub rest : IsCut after others

-- A call gives the first segment of the one cut of the bytes that were left, and leaves the bytes
-- after it; or none, if no bytes were left.
abbrev pub GivesFirst : Segments → Option Item → Segments → Type 0
GivesFirst s r t = (gs : List Segment) → IsCut (left_bytes s) gs
    → MatchOption r ((gs ≡ []) × (left_bytes t ≡ []))
    (λ x. IsHead (left_bytes s) gs x (left_bytes t))

-- the bytes of items, one after another
abbrev pub item_bytes : List Item → List ℕ
item_bytes xs = flat_map (λ x. x.bytes.now) xs
