-- The facts about each segment of a kind. One lemma a kind.
use Rattle.std.specs.Prelude.{ℕ, ◌≡◌, Bool, List}
use Rattle.esc_frame.specs.declared.classes.Kind.{Kind}
use Rattle.esc_frame.specs.Segments.{Segment, Opener, OscUnit, Ending}
use Rattle.esc_frame.specs.Segments.Segment.{Character, Wide, Broken, Stray, Control, HighControl, Escape, Csi, Osc, Dcs, Apc, Ignored}
use Rattle.esc_frame.specs.Segments.Segment.{CutEscape, CutCsi, CutDcs}
use Rattle.esc_segments.specs.Items.{kind_of}
use Rattle.esc_segments.specs.declared.kind.SegmentKind.TheVariants as kinds

pub characters : (P : Segment → Type 0) (g : Segment) → kind_of g ≡ kinds.Character
    → ((b : ℕ) → P (Character b)) → ((x : List ℕ) → P (Wide x)) → P g
characters P (Character b) e h i = h b
characters P (Wide x) e h i = i x
characters P _ e h i = absurd cc

pub brokens : (P : Segment → Type 0) (g : Segment) → kind_of g ≡ kinds.Broken
    → ((x : List ℕ) → P (Broken x)) → P g
brokens P (Broken x) e h = h x
brokens P _ e h = absurd cc

pub strays : (P : Segment → Type 0) (g : Segment) → kind_of g ≡ kinds.Stray
    → ((b : ℕ) → P (Stray b)) → P g
strays P (Stray b) e h = h b
strays P _ e h = absurd cc

pub controls : (P : Segment → Type 0) (g : Segment) → kind_of g ≡ kinds.Control
    → ((b : ℕ) → P (Control b)) → ((p : Bool) (b : ℕ) → P (HighControl p b)) → P g
controls P (Control b) e h i = h b
controls P (HighControl p b) e h i = i p b
controls P _ e h i = absurd cc

pub escapes : (P : Segment → Type 0) (g : Segment) → kind_of g ≡ kinds.Escape
    → ((x : List ℕ) (f : ℕ) → P (Escape x f)) → P g
escapes P (Escape x f) e h = h x f
escapes P _ e h = absurd cc

pub csis : (P : Segment → Type 0) (g : Segment) → kind_of g ≡ kinds.Csi
    → ((o : Opener) (x : List ℕ) (f : ℕ) → P (Csi o x f)) → P g
csis P (Csi o x f) e h = h o x f
csis P _ e h = absurd cc

pub dcss : (P : Segment → Type 0) (g : Segment) → kind_of g ≡ kinds.Dcs
    → ((o : Opener) (x : List ℕ) (f : ℕ) (d : List ℕ) → P (Dcs o x f d)) → P g
dcss P (Dcs o x f d) e h = h o x f d
dcss P _ e h = absurd cc

pub oscs : (P : Segment → Type 0) (g : Segment) → kind_of g ≡ kinds.Osc
    → ((o : Opener) (ps : List OscUnit) (e : Ending) → P (Osc o ps e)) → P g
oscs P (Osc o ps w) e h = h o ps w
oscs P _ e h = absurd cc

pub apcs : (P : Segment → Type 0) (g : Segment) → kind_of g ≡ kinds.Apc
    → ((o : Opener) (d : List ℕ) → P (Apc o d)) → P g
apcs P (Apc o d) e h = h o d
apcs P _ e h = absurd cc

pub ignoreds : (P : Segment → Type 0) (g : Segment) → kind_of g ≡ kinds.Ignored
    → ((k : Kind) (o : Opener) (d : List ℕ) → P (Ignored k o d)) → P g
ignoreds P (Ignored k o d) e h = h k o d
ignoreds P _ e h = absurd cc

pub cut_shorts : (P : Segment → Type 0) (g : Segment) → kind_of g ≡ kinds.CutShort
    → ((x : List ℕ) → P (CutEscape x))
    → ((o : Opener) (x : List ℕ) → P (CutCsi o x)) → ((o : Opener) (x : List ℕ) → P (CutDcs o x))
    → P g
cut_shorts P (CutEscape x) e h i j = h x
cut_shorts P (CutCsi o x) e h i j = i o x
cut_shorts P (CutDcs o x) e h i j = j o x
cut_shorts P _ e h i j = absurd cc
