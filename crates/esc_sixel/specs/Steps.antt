-- One byte more of sixel data: the items that no later byte changes, and the command that may go
-- on. Only the builder is stated by it; the meaning of data is in Items and Meaning.
use Rattle.std.specs.Prelude.{ℕ, ℤ, ◌≡◌, Bool, true, false, if◌then◌else◌, List, [], ◌∷◌, ◌++◌, Option, Some, None, option_map, unwrap_or, option_to_list}
use Rattle.std.specs.List.{flat_map}
use Rattle.esc_sixel.specs.Classes.{class_of}
use Rattle.esc_sixel.specs.Items.{Item, OfReturn, OfLine, OfPixels, OfRepeat, OfColor, OfRaster, OfJunk, in_run}
use Rattle.esc_sixel.specs.Meaning.{sixel_of, raster_pan, raster_pad, raster_sizes, is_oversize, gives}
use Rattle.esc_sixel.specs.Runs.{Keeps}
use Rattle.esc_sixel.specs.declared.builder.SixelBuilder.{SixelBuilder}
use Rattle.esc_sixel.specs.declared.parameters.Parameters.{Parameters}
use Rattle.esc_sixel.specs.declared.sixel.Sixel.{Sixel}
use Rattle.esc_sixel.specs.declared.sixel_data.SixelData.{SixelData}
use Rattle.esc_sixel.specs.declared.class.Class.{Class}
use Rattle.esc_sixel.specs.declared.class.Class.TheVariants.{Return, Line, Pixels, Introduces}
use Rattle.esc_sixel.specs.declared.introducer.Introducer.{Introducer}
use Rattle.esc_sixel.specs.declared.introducer.Introducer.TheVariants as introducer

-- no command, or one with its run so far, that may go on
pub data Open : Type 0 where
  Closed : Open
  In : Introducer → List ℕ → Open

-- the item of a command that ends before a byte that it does not take
abbrev pub ended_items : Open → List Item
ended_items Closed = []
ended_items (In introducer.Repeat r) = OfRepeat r None ∷ []
ended_items (In introducer.Color r) = OfColor r ∷ []
ended_items (In introducer.Raster r) = OfRaster r ∷ []

-- the item of a byte outside a command, which no later byte changes
abbrev pub lone_item : Class → ℕ → List Item
lone_item Return b = OfReturn ∷ []
lone_item Line b = OfLine ∷ []
lone_item (Pixels v) b = OfPixels v ∷ []
lone_item (Introduces m) b = []
lone_item c b = OfJunk b ∷ []

-- the items that a byte closes, and the command that is open after it
abbrev pub closed_by : Open → Class → ℕ → List Item
closed_by Closed c b = lone_item c b
closed_by (In introducer.Repeat r) (Pixels v) b = OfRepeat r (Some v) ∷ []
closed_by (In m r) c b = if in_run c then [] else ended_items (In m r) ++ lone_item c b

abbrev pub opened_command : Class → Open
opened_command (Introduces m) = In m []
opened_command c = Closed

abbrev pub open_by : Open → Class → ℕ → Open
open_by Closed c b = opened_command c
open_by (In m r) c b = if in_run c then In m (r ++ b ∷ []) else opened_command c

-- the same for bytes
abbrev pub closed_of : Open → List ℕ → List Item
closed_of o [] = []
closed_of o (b ∷ bs) = closed_by o (class_of b) b ++ closed_of (open_by o (class_of b) b) bs

abbrev pub open_of : Open → List ℕ → Open
open_of o [] = o
open_of o (b ∷ bs) = open_of (open_by o (class_of b) b) bs

-- the image with one more item, or with more
abbrev pub with_item : {A : Type 0} → Sixel A → Item → Sixel A
with_item s i = record {
  pan = unwrap_or (raster_pan i) s.pan;
  pad = unwrap_or (raster_pad i) s.pad;
  pixel_width =
      unwrap_or (option_map (λ (o : Option (ℕ × ℕ)). option_map (λ (s : ℕ × ℕ). s.0) o)
      (raster_sizes i)) s.pixel_width;
  pixel_height =
      unwrap_or (option_map (λ (o : Option (ℕ × ℕ)). option_map (λ (s : ℕ × ℕ). s.1) o)
      (raster_sizes i)) s.pixel_height;
  background_is_transparent = s.background_is_transparent;
  horizontal_grid_size = s.horizontal_grid_size;
  content = if is_oversize i then [] else s.content ++ gives i;
}

abbrev pub with_items : {A : Type 0} → Sixel A → List Item → Sixel A
with_items s [] = s
with_items s (i ∷ is) = with_items (with_item s i) is

-- the image with one more slice of data, if there is one
abbrev pub add_to : {A : Type 0} → Sixel A → Option SixelData → Sixel A
add_to s next = record s { content = s.content ++ option_to_list next }

-- the fields of a builder hold the command that is open
abbrev pub HoldsOpen : Open → Option Introducer → Parameters → Type 0
HoldsOpen Closed i p = i ≡ None
HoldsOpen (In m r) i p = (i ≡ Some m) × Keeps p r

-- six pixels, `$` and `-`, which are data themselves
abbrev pub is_data : Class → Bool
is_data Return = true
is_data Line = true
is_data (Pixels v) = true
is_data c = false

-- whether the end of a command gives data, with the data of the byte after it, if any: a `#` gives
-- a colour, and a `!` and a `"` nothing
abbrev pub gives_at_end : Introducer → Bool → Bool
gives_at_end introducer.Color more = true
gives_at_end m more = more

-- Whether a byte takes memory, if this command is open, or none: it does if it is data, or ends a
-- `#`. So no digit or `;` of a command does, and outside a `#` no byte that is dropped or begins a
-- command. It is so exactly if the items that the byte closes give data (`WantsForData`).
abbrev pub wants_memory : Option Introducer → Class → Bool
wants_memory None c = is_data c
wants_memory (Some m) c = if in_run c then false else gives_at_end m (is_data c)

abbrev pub introducer_of : Open → Option Introducer
introducer_of Closed = None
introducer_of (In m r) = Some m

abbrev pub has_data : List SixelData → Bool
has_data [] = false
has_data (d ∷ ds) = true

abbrev pub WantsForData : Open → Class → ℕ → Type 0
WantsForData o c b =
    wants_memory (introducer_of o) c ≡ has_data (flat_map gives (closed_by o c b))

-- a builder with these parameters that was pushed these bytes
unfoldable pub HasConsumed : {A : Type 0} → List ℤ → List ℕ → SixelBuilder A → Type 0
HasConsumed ps s b = (b.sixel ≡ sixel_of ps (closed_of Closed s))
    × HoldsOpen (open_of Closed s) b.introducer b.parameters

-- a byte pushed to p makes q of it
abbrev pub Pushes : {A : Type 0} → SixelBuilder A → ℕ → SixelBuilder A → Type 0
Pushes p b q = (ps : List ℤ) (s : List ℕ) → HasConsumed ps s p → HasConsumed ps (s ++ b ∷ []) q
