-- The fields of an image's structs are keys, one line a key, with the meaning of their values.
use Rattle.std.specs.Prelude.{List, [], ◌∷◌, codes, Option}
use Rattle.esc_values.specs.Fields.{Values, Field, Makes, read_with}
use Rattle.esc_kitty.specs.Kinds.{kinds, Number, FrameNumber, Order, Flag, Format, Compression, Composition}
use Rattle.esc_kitty.specs.declared.content.KittyImageData.{KittyImageData}
use Rattle.esc_kitty.specs.declared.transmit.KittyImageTransmit.{KittyImageTransmit}
use Rattle.esc_kitty.specs.declared.placement.KittyImagePlacement.{KittyImagePlacement}
use Rattle.esc_kitty.specs.declared.frame.KittyImageFrame.{KittyImageFrame}
use Rattle.esc_kitty.specs.declared.compose.KittyImageFrameCompose.{KittyImageFrameCompose}

-- the fields of an image that is sent to the terminal, but for its content
abbrev pub transmit_fields : {A : Type 0} → List (Field kinds (KittyImageTransmit A))
transmit_fields =
    record { key = codes "f"; kind = Format; get = λ t. t.format }
    ∷ record { key = codes "o"; kind = Compression; get = λ t. t.compression }
    ∷ record { key = codes "m"; kind = Flag; get = λ t. t.more_data_follows }
    ∷ record { key = codes "s"; kind = Number; get = λ t. t.width }
    ∷ record { key = codes "v"; kind = Number; get = λ t. t.height }
    ∷ record { key = codes "i"; kind = Number; get = λ t. t.image_id }
    ∷ record { key = codes "I"; kind = Number; get = λ t. t.image_number }
    ∷ []

abbrev pub transmit_made : {A : Type 0}
    → Makes (transmit_fields {A = A}) (KittyImageData A → KittyImageTransmit A)
transmit_made = λ format compression more width height id number content. record {
  format = format;
  content = content;
  width = width;
  height = height;
  image_id = id;
  image_number = number;
  compression = compression;
  more_data_follows = more;
}

abbrev pub transmit_with : {A : Type 0} → Values → Option (KittyImageData A → KittyImageTransmit A)
transmit_with {A = A} v = read_with (transmit_fields {A = A}) (transmit_made {A = A}) v

-- how an image is shown
abbrev pub placement_fields : List (Field kinds KittyImagePlacement)
placement_fields =
    record { key = codes "C"; kind = Flag; get = λ p. p.do_not_move_cursor }
    ∷ record { key = codes "U"; kind = Flag; get = λ p. p.unicode_placeholder }
    ∷ record { key = codes "x"; kind = Number; get = λ p. p.x }
    ∷ record { key = codes "y"; kind = Number; get = λ p. p.y }
    ∷ record { key = codes "w"; kind = Number; get = λ p. p.w }
    ∷ record { key = codes "h"; kind = Number; get = λ p. p.h }
    ∷ record { key = codes "X"; kind = Number; get = λ p. p.x_offset }
    ∷ record { key = codes "Y"; kind = Number; get = λ p. p.y_offset }
    ∷ record { key = codes "c"; kind = Number; get = λ p. p.columns }
    ∷ record { key = codes "r"; kind = Number; get = λ p. p.rows }
    ∷ record { key = codes "p"; kind = Number; get = λ p. p.placement_id }
    ∷ record { key = codes "z"; kind = Order; get = λ p. p.z_index }
    ∷ []

abbrev pub placement_made : Makes placement_fields KittyImagePlacement
placement_made =
    λ stays placeholder x y w h x_offset y_offset columns rows placement_id z_index. record {
      x = x;
      y = y;
      w = w;
      h = h;
      x_offset = x_offset;
      y_offset = y_offset;
      columns = columns;
      rows = rows;
      placement_id = placement_id;
      do_not_move_cursor = stays;
      z_index = z_index;
      unicode_placeholder = placeholder;
    }

abbrev pub placement_of : Values → Option KittyImagePlacement
placement_of v = read_with placement_fields placement_made v

-- a frame
abbrev pub frame_fields : List (Field kinds KittyImageFrame)
frame_fields =
    record { key = codes "X"; kind = Composition; get = λ f. f.composition_mode }
    ∷ record { key = codes "x"; kind = Number; get = λ f. f.x }
    ∷ record { key = codes "y"; kind = Number; get = λ f. f.y }
    ∷ record { key = codes "c"; kind = FrameNumber; get = λ f. f.base_frame }
    ∷ record { key = codes "r"; kind = FrameNumber; get = λ f. f.frame_number }
    ∷ record { key = codes "z"; kind = FrameNumber; get = λ f. f.duration_ms }
    ∷ record { key = codes "Y"; kind = Number; get = λ f. f.background_pixel }
    ∷ []

abbrev pub frame_made : Makes frame_fields KittyImageFrame
frame_made = λ mode x y base_frame frame_number duration_ms background_pixel. record {
  x = x;
  y = y;
  base_frame = base_frame;
  frame_number = frame_number;
  duration_ms = duration_ms;
  composition_mode = mode;
  background_pixel = background_pixel;
}

abbrev pub frame_of : Values → Option KittyImageFrame
frame_of v = read_with frame_fields frame_made v

-- a frame over another
abbrev pub compose_fields : List (Field kinds KittyImageFrameCompose)
compose_fields =
    record { key = codes "C"; kind = Composition; get = λ f. f.composition_mode }
    ∷ record { key = codes "i"; kind = Number; get = λ f. f.image_id }
    ∷ record { key = codes "I"; kind = Number; get = λ f. f.image_number }
    ∷ record { key = codes "c"; kind = FrameNumber; get = λ f. f.target_frame }
    ∷ record { key = codes "r"; kind = FrameNumber; get = λ f. f.source_frame }
    ∷ record { key = codes "x"; kind = Number; get = λ f. f.x }
    ∷ record { key = codes "y"; kind = Number; get = λ f. f.y }
    ∷ record { key = codes "w"; kind = Number; get = λ f. f.w }
    ∷ record { key = codes "h"; kind = Number; get = λ f. f.h }
    ∷ record { key = codes "X"; kind = Number; get = λ f. f.src_x }
    ∷ record { key = codes "Y"; kind = Number; get = λ f. f.src_y }
    ∷ []

abbrev pub compose_made : Makes compose_fields KittyImageFrameCompose
compose_made = λ mode image_id image_number target_frame source_frame x y w h src_x src_y. record {
  image_id = image_id;
  image_number = image_number;
  target_frame = target_frame;
  source_frame = source_frame;
  x = x;
  y = y;
  w = w;
  h = h;
  src_x = src_x;
  src_y = src_y;
  composition_mode = mode;
}

abbrev pub compose_of : Values → Option KittyImageFrameCompose
compose_of v = read_with compose_fields compose_made v
