-- Equal images of kitty's graphics protocol are the same.
use Rattle.std.specs.Prelude.{◌≡◌, ◌↔◌, ℕ, nat_eq, true, IsTrue, List, Option}
use Rattle.std.specs.declared.alloc.Allocator.{Ghosts}
use denote.RattleType.{RattleType}
use mir.Syntax.{Dict}
use Rattle.std.specs.Option.{option_eq}
use Rattle.std.specs.Ordering.{int_eq}
use Rattle.std.proofs.Common.{rules, ap, refl}
use Rattle.esc_kitty.specs.declared.content.KittyImageData.{KittyImageData}
use Rattle.esc_kitty.specs.declared.content.KittyImageData.TheVariants as content
use Rattle.esc_kitty.specs.declared.image.KittyImage.{KittyImage}
use Rattle.esc_kitty.specs.declared.image.KittyImage.TheVariants as image
use Rattle.esc_kitty.specs.declared.placement.KittyImagePlacement.{KittyImagePlacement}
use Rattle.esc_kitty.specs.declared.verbosity.KittyImageVerbosity.{KittyImageVerbosity}
use Rattle.esc_kitty.specs.declared.delete.KittyImageDelete.{KittyImageDelete}
use Rattle.esc_kitty.specs.declared.delete.KittyImageDelete.TheVariants as delete
use Rattle.esc_kitty.specs.contracts.composition.KittyFrameCompositionModePartialEq.TheImpl as mode_eq
use Rattle.esc_kitty.specs.contracts.compression.KittyImageCompressionPartialEq.TheImpl as compression_eq
use Rattle.esc_kitty.specs.contracts.format.KittyImageFormatPartialEq.TheImpl as format_eq
use Rattle.esc_kitty.specs.contracts.compose.KittyImageFrameComposePartialEq.TheImpl as compose_eq
use Rattle.esc_kitty.specs.contracts.content.KittyImageDataPartialEq.TheImpl as content_eq
use Rattle.esc_kitty.specs.contracts.delete.KittyImageDeletePartialEq.TheImpl as delete_eq
use Rattle.esc_kitty.specs.contracts.frame.KittyImageFramePartialEq.TheImpl as frame_eq
use Rattle.esc_kitty.specs.contracts.image.KittyImagePartialEq.TheImpl as image_eq
use Rattle.esc_kitty.specs.contracts.placement.KittyImagePlacementPartialEq.TheImpl as placement_eq
use Rattle.esc_kitty.specs.contracts.transmit.KittyImageTransmitPartialEq.TheImpl as transmit_eq
use Rattle.esc_kitty.specs.contracts.verbosity.KittyImageVerbosityPartialEq.TheImpl as verbosity_eq
use Rattle.esc_equality.proofs.Same.{IsSame, bools, both, integers, never, numbers, options, texts}

counts : IsSame (option_eq nat_eq)
counts = options nat_eq numbers

orders : IsSame (option_eq int_eq)
orders = options int_eq integers

formats : IsSame (option_eq format_eq.ghosts.eq)
formats = options format_eq.ghosts.eq (λ a b. search rules)

compressions : IsSame compression_eq.ghosts.eq
compressions a b = search rules

modes : IsSame mode_eq.ghosts.eq
modes a b = search rules

-- the parts of two files, or of two memory objects
files : (T : RattleType) (G : Ghosts T.Denot) (x y : Dict) (p q : List ℕ) (s t o u : Option ℕ)
    → IsTrue ((content_eq.ghosts T G x y).eq (content.File p s o) (content.File q t u))
    ↔ ((p ≡ q) × ((s ≡ t) × (o ≡ u)))
files T G x y p q s t o u = both (texts p q) (both (counts s t) (counts o u))

contents_true : (T : RattleType) (G : Ghosts T.Denot) (x y : Dict) (a b : KittyImageData T.Denot)
    → (content_eq.ghosts T G x y).eq a b ≡ true → a ≡ b
contents_true T G x y (content.Direct s) (content.Direct t) e = ap content.Direct ((texts s t).0 e)
contents_true T G x y (content.DirectBin s) (content.DirectBin t) e =
    ap content.DirectBin ((texts s t).0 e)
contents_true T G x y (content.File p s o) (content.File q t u) e = let r =
    (files T G x y p q s t o u).0 e in rw (r.0, r.1.0, r.1.1) refl
contents_true T G x y (content.TemporaryFile p s o) (content.TemporaryFile q t u) e = let r =
    (files T G x y p q s t o u).0 e in rw (r.0, r.1.0, r.1.1) refl
contents_true T G x y (content.SharedMem p s o) (content.SharedMem q t u) e = let r =
    (files T G x y p q s t o u).0 e in rw (r.0, r.1.0, r.1.1) refl
contents_true T G x y a b e = never e

contents_itself : (T : RattleType) (G : Ghosts T.Denot) (x y : Dict) (a : KittyImageData T.Denot)
    → (content_eq.ghosts T G x y).eq a a ≡ true
contents_itself T G x y (content.Direct s) = (texts s s).1 refl
contents_itself T G x y (content.DirectBin s) = (texts s s).1 refl
contents_itself T G x y (content.File p s o) = (files T G x y p p s s o o).1 (refl, (refl, refl))
contents_itself T G x y (content.TemporaryFile p s o) =
    (files T G x y p p s s o o).1 (refl, (refl, refl))
contents_itself T G x y (content.SharedMem p s o) =
    (files T G x y p p s s o o).1 (refl, (refl, refl))

pub contents : (T : RattleType) (G : Ghosts T.Denot) (x y : Dict)
    → IsSame (content_eq.ghosts T G x y).eq
contents T G x y a b = (contents_true T G x y a b, λ e. rw e (contents_itself T G x y b))

pub transmits : (T : RattleType) (G : Ghosts T.Denot) (x y : Dict)
    → IsSame (transmit_eq.ghosts T G x y).eq
transmits T G x y a b =
    let parts = both (formats a.format b.format)
    (both (contents T G x y a.content b.content) (both (counts a.width b.width)
    (both (counts a.height b.height)
    (both (counts a.image_id b.image_id) (both (counts a.image_number b.image_number)
    (both (compressions a.compression b.compression)
    (bools a.more_data_follows b.more_data_follows))))))) in (
      λ h.
          let e = parts.0 h in
          λ i. record {
            format = e.0 i;
            content = e.1.0 i;
            width = e.1.1.0 i;
            height = e.1.1.1.0 i;
            image_id = e.1.1.1.1.0 i;
            image_number = e.1.1.1.1.1.0 i;
            compression = e.1.1.1.1.1.1.0 i;
            more_data_follows = e.1.1.1.1.1.1.1 i;
          },
      λ e. parts.1 (rw e (refl, (refl, (refl, (refl, (refl, (refl, (refl, refl)))))))),
    )

verbosities : IsSame verbosity_eq.ghosts.eq
verbosities a b = search rules

pub frames : IsSame frame_eq.ghosts.eq
frames a b =
    let parts = both (counts a.x b.x)
    (both (counts a.y b.y) (both (counts a.base_frame b.base_frame)
    (both (counts a.frame_number b.frame_number) (both (counts a.duration_ms b.duration_ms)
    (both (modes a.composition_mode b.composition_mode)
    (counts a.background_pixel b.background_pixel)))))) in (
      λ h.
          let e = parts.0 h in
          λ i. record {
            x = e.0 i;
            y = e.1.0 i;
            base_frame = e.1.1.0 i;
            frame_number = e.1.1.1.0 i;
            duration_ms = e.1.1.1.1.0 i;
            composition_mode = e.1.1.1.1.1.0 i;
            background_pixel = e.1.1.1.1.1.1 i;
          },
      λ e. parts.1 (rw e (refl, (refl, (refl, (refl, (refl, (refl, refl))))))),
    )

pub composes : IsSame compose_eq.ghosts.eq
composes a b =
    let parts = both (counts a.image_id b.image_id) (both (counts a.image_number b.image_number)
    (both (counts a.target_frame b.target_frame)
    (both (counts a.source_frame b.source_frame) (both (counts a.x b.x) (both (counts a.y b.y)
    (both (counts a.w b.w) (both (counts a.h b.h) (both (counts a.src_x b.src_x)
    (both (counts a.src_y b.src_y) (modes a.composition_mode b.composition_mode)))))))))) in (
      λ h.
          let e = parts.0 h in
          λ i. record {
            image_id = e.0 i;
            image_number = e.1.0 i;
            target_frame = e.1.1.0 i;
            source_frame = e.1.1.1.0 i;
            x = e.1.1.1.1.0 i;
            y = e.1.1.1.1.1.0 i;
            w = e.1.1.1.1.1.1.0 i;
            h = e.1.1.1.1.1.1.1.0 i;
            src_x = e.1.1.1.1.1.1.1.1.0 i;
            src_y = e.1.1.1.1.1.1.1.1.1.0 i;
            composition_mode = e.1.1.1.1.1.1.1.1.1.1 i;
          },
      λ e. parts.1
          (rw e (
            refl,
            (refl, (refl, (refl, (refl, (refl, (refl, (refl, (refl, (refl, refl))))))))),
          )),
    )

pub placements : IsSame placement_eq.ghosts.eq
placements a b =
    let parts = both (counts a.x b.x)
    (both (counts a.y b.y) (both (counts a.w b.w) (both (counts a.h b.h)
    (both (counts a.x_offset b.x_offset)
    (both (counts a.y_offset b.y_offset) (both (counts a.columns b.columns)
    (both (counts a.rows b.rows)
    (both (counts a.placement_id b.placement_id)
    (both (bools a.do_not_move_cursor b.do_not_move_cursor)
    (both (orders a.z_index b.z_index)
    (bools a.unicode_placeholder b.unicode_placeholder))))))))))) in (
      λ h.
          let e = parts.0 h in
          λ i. record {
            x = e.0 i;
            y = e.1.0 i;
            w = e.1.1.0 i;
            h = e.1.1.1.0 i;
            x_offset = e.1.1.1.1.0 i;
            y_offset = e.1.1.1.1.1.0 i;
            columns = e.1.1.1.1.1.1.0 i;
            rows = e.1.1.1.1.1.1.1.0 i;
            placement_id = e.1.1.1.1.1.1.1.1.0 i;
            do_not_move_cursor = e.1.1.1.1.1.1.1.1.1.0 i;
            z_index = e.1.1.1.1.1.1.1.1.1.1.0 i;
            unicode_placeholder = e.1.1.1.1.1.1.1.1.1.1.1 i;
          },
      λ e. parts.1
          (rw e (
            refl,
            (refl, (refl, (refl, (refl, (refl, (refl, (refl, (refl, (refl, (refl, refl)))))))))),
          )),
    )

deletes_true : (a b : KittyImageDelete) → delete_eq.ghosts.eq a b ≡ true → a ≡ b
deletes_true (delete.All d) (delete.All f) e = ap delete.All ((bools d f).0 e)
deletes_true (delete.ByImageId k m d) (delete.ByImageId j q f) e =
    let g = (both (numbers k j) (both (counts m q) (bools d f))).0 e in
    rw (g.0, g.1.0, g.1.1) refl
deletes_true (delete.ByImageNumber k m d) (delete.ByImageNumber j q f) e =
    let g = (both (numbers k j) (both (counts m q) (bools d f))).0 e in
    rw (g.0, g.1.0, g.1.1) refl
deletes_true (delete.AtCursorPosition d) (delete.AtCursorPosition f) e =
    ap delete.AtCursorPosition ((bools d f).0 e)
deletes_true (delete.AnimationFrames d) (delete.AnimationFrames f) e =
    ap delete.AnimationFrames ((bools d f).0 e)
deletes_true (delete.DeleteAt k m d) (delete.DeleteAt j q f) e =
    let g = (both (numbers k j) (both (numbers m q) (bools d f))).0 e in
    rw (g.0, g.1.0, g.1.1) refl
deletes_true (delete.DeleteAtZ k m n d) (delete.DeleteAtZ j q r f) e =
    let g = (both (numbers k j) (both (numbers m q) (both (integers n r) (bools d f)))).0 e in
    rw (g.0, g.1.0, g.1.1.0, g.1.1.1) refl
deletes_true (delete.DeleteColumn k d) (delete.DeleteColumn j f) e = let g =
    (both (numbers k j) (bools d f)).0 e in rw (g.0, g.1) refl
deletes_true (delete.DeleteRow k d) (delete.DeleteRow j f) e = let g =
    (both (numbers k j) (bools d f)).0 e in rw (g.0, g.1) refl
deletes_true (delete.DeleteZ k d) (delete.DeleteZ j f) e = let g =
    (both (integers k j) (bools d f)).0 e in rw (g.0, g.1) refl
deletes_true (delete.ByImageIdRange k m d) (delete.ByImageIdRange j q f) e =
    let g = (both (numbers k j) (both (numbers m q) (bools d f))).0 e in
    rw (g.0, g.1.0, g.1.1) refl
deletes_true a b e = never e

deletes_itself : (a : KittyImageDelete) → delete_eq.ghosts.eq a a ≡ true
deletes_itself (delete.All d) = (bools d d).1 refl
deletes_itself (delete.ByImageId k m d) =
    (both (numbers k k) (both (counts m m) (bools d d))).1 (refl, (refl, refl))
deletes_itself (delete.ByImageNumber k m d) =
    (both (numbers k k) (both (counts m m) (bools d d))).1 (refl, (refl, refl))
deletes_itself (delete.AtCursorPosition d) = (bools d d).1 refl
deletes_itself (delete.AnimationFrames d) = (bools d d).1 refl
deletes_itself (delete.DeleteAt k m d) =
    (both (numbers k k) (both (numbers m m) (bools d d))).1 (refl, (refl, refl))
deletes_itself (delete.DeleteAtZ k m n d) =
    (both (numbers k k) (both (numbers m m) (both (integers n n) (bools d d)))).1 (
      refl,
      (refl, (refl, refl)),
    )
deletes_itself (delete.DeleteColumn k d) = (both (numbers k k) (bools d d)).1 (refl, refl)
deletes_itself (delete.DeleteRow k d) = (both (numbers k k) (bools d d)).1 (refl, refl)
deletes_itself (delete.DeleteZ k d) = (both (integers k k) (bools d d)).1 (refl, refl)
deletes_itself (delete.ByImageIdRange k m d) =
    (both (numbers k k) (both (numbers m m) (bools d d))).1 (refl, (refl, refl))

deletes : IsSame delete_eq.ghosts.eq
deletes a b = (deletes_true a b, λ e. rw e (deletes_itself b))

-- the parts of two images that are shown
shown : (T : RattleType) (G : Ghosts T.Denot) (x y : Dict) (i j n m : Option ℕ)
    (p q : KittyImagePlacement) (v w : KittyImageVerbosity)
    → IsTrue ((image_eq.ghosts T G x y).eq (image.Display i n p v) (image.Display j m q w))
    ↔ ((i ≡ j) × ((n ≡ m) × ((p ≡ q) × (v ≡ w))))
shown T G x y i j n m p q v w =
    both (counts i j) (both (counts n m) (both (placements p q) (verbosities v w)))

images_true : (T : RattleType) (G : Ghosts T.Denot) (x y : Dict) (a b : KittyImage T.Denot)
    → (image_eq.ghosts T G x y).eq a b ≡ true → a ≡ b
images_true T G x y (image.TransmitData s v) (image.TransmitData t w) e = let r =
    (both (transmits T G x y s t) (verbosities v w)).0 e in rw (r.0, r.1) refl
images_true T G x y (image.TransmitDataAndDisplay s p v) (image.TransmitDataAndDisplay t q w) e =
    let r = (both (transmits T G x y s t) (both (placements p q) (verbosities v w))).0 e in
    rw (r.0, r.1.0, r.1.1) refl
images_true T G x y (image.Display i n p v) (image.Display j m q w) e = let r =
    (shown T G x y i j n m p q v w).0 e in rw (r.0, r.1.0, r.1.1.0, r.1.1.1) refl
images_true T G x y (image.Delete d v) (image.Delete f w) e = let r =
    (both (deletes d f) (verbosities v w)).0 e in rw (r.0, r.1) refl
images_true T G x y (image.Query s) (image.Query t) e = ap image.Query ((transmits T G x y s t).0 e)
images_true T G x y (image.TransmitFrame s f v) (image.TransmitFrame t g w) e =
    let r = (both (transmits T G x y s t) (both (frames f g) (verbosities v w))).0 e in
    rw (r.0, r.1.0, r.1.1) refl
images_true T G x y (image.ComposeFrame f v) (image.ComposeFrame g w) e = let r =
    (both (composes f g) (verbosities v w)).0 e in rw (r.0, r.1) refl
images_true T G x y a b e = never e

images_itself : (T : RattleType) (G : Ghosts T.Denot) (x y : Dict) (a : KittyImage T.Denot)
    → (image_eq.ghosts T G x y).eq a a ≡ true
images_itself T G x y (image.TransmitData s v) =
    (both (transmits T G x y s s) (verbosities v v)).1 (refl, refl)
images_itself T G x y (image.TransmitDataAndDisplay s p v) =
    (both (transmits T G x y s s) (both (placements p p) (verbosities v v))).1 (refl, (refl, refl))
images_itself T G x y (image.Display i n p v) =
    (shown T G x y i i n n p p v v).1 (refl, (refl, (refl, refl)))
images_itself T G x y (image.Delete d v) = (both (deletes d d) (verbosities v v)).1 (refl, refl)
images_itself T G x y (image.Query s) = (transmits T G x y s s).1 refl
images_itself T G x y (image.TransmitFrame s f v) =
    (both (transmits T G x y s s) (both (frames f f) (verbosities v v))).1 (refl, (refl, refl))
images_itself T G x y (image.ComposeFrame f v) =
    (both (composes f f) (verbosities v v)).1 (refl, refl)

pub images : (T : RattleType) (G : Ghosts T.Denot) (x y : Dict)
    → IsSame (image_eq.ghosts T G x y).eq
images T G x y a b = (images_true T G x y a b, λ e. rw e (images_itself T G x y b))
