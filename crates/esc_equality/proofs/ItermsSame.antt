-- Equal files of iTerm2 are the same, and its commands.
use Rattle.std.specs.Prelude.{◌≡◌, ◌↔◌, ℕ, nat_eq, true, IsTrue, Option}
use Rattle.std.specs.Cmp.Lexicographic.{pointwise}
use Rattle.std.specs.declared.alloc.Allocator.{Ghosts}
use denote.RattleType.{RattleType}
use mir.Syntax.{Dict}
use Rattle.std.proofs.Common.{rules, refl, ap}
use Rattle.esc_iterm.specs.declared.proprietary.ITermProprietary.{ITermProprietary}
use Rattle.esc_iterm.specs.declared.proprietary.ITermProprietary.TheVariants as iterm
use Rattle.esc_iterm.specs.contracts.dimension.ITermDimensionPartialEq.TheImpl as dimension_eq
use Rattle.esc_iterm.specs.contracts.file_data.ITermFileDataPartialEq.TheImpl as file_eq
use Rattle.esc_iterm.specs.contracts.proprietary.ITermProprietaryPartialEq.TheImpl as iterm_eq
use Rattle.esc_iterm.specs.contracts.unicode_version.ITermUnicodeVersionOpPartialEq.TheImpl as version_eq
use Rattle.esc_equality.proofs.Same.{IsSame, bools, both, never, numbers, options, texts}

dimensions : IsSame dimension_eq.ghosts.eq
dimensions a b = search rules

pub files : (T : RattleType) (G : Ghosts T.Denot) (x y : Dict) → IsSame (file_eq.ghosts T G x y).eq
files T G x y a b =
    let parts = both (options (pointwise nat_eq) texts a.name b.name)
    (both (options nat_eq numbers a.size b.size)
    (both (dimensions a.width b.width) (both (dimensions a.height b.height)
    (both (bools a.preserve_aspect_ratio b.preserve_aspect_ratio) (both (bools a.inline b.inline)
    (both (bools a.do_not_move_cursor b.do_not_move_cursor) (texts a.content b.content))))))) in (
      λ h.
          let e = parts.0 h in
          λ i. record {
            name = e.0 i;
            size = e.1.0 i;
            width = e.1.1.0 i;
            height = e.1.1.1.0 i;
            preserve_aspect_ratio = e.1.1.1.1.0 i;
            inline = e.1.1.1.1.1.0 i;
            do_not_move_cursor = e.1.1.1.1.1.1.0 i;
            content = e.1.1.1.1.1.1.1 i;
          },
      λ e. parts.1 (rw e (refl, (refl, (refl, (refl, (refl, (refl, (refl, refl)))))))),
    )

versions : (T : RattleType) (G : Ghosts T.Denot) (x y : Dict)
    → IsSame (version_eq.ghosts T G x y).eq
versions T G x y a b = search (texts, rules)

-- the parts of two cell sizes
sizes : (T : RattleType) (G : Ghosts T.Denot) (x y : Dict) (h k w v : ℕ) (s t : Option ℕ)
    → IsTrue ((iterm_eq.ghosts T G x y).eq (iterm.ReportCellSize h w s)
    (iterm.ReportCellSize k v t)) ↔ ((h ≡ k) × ((w ≡ v) × (s ≡ t)))
sizes T G x y h k w v s t = both (numbers h k) (both (numbers w v) (search rules))

iterms_true : (T : RattleType) (G : Ghosts T.Denot) (x y : Dict) (a b : ITermProprietary T.Denot)
    → (iterm_eq.ghosts T G x y).eq a b ≡ true → a ≡ b
iterms_true T G x y iterm.SetMark iterm.SetMark e = refl
iterms_true T G x y iterm.StealFocus iterm.StealFocus e = refl
iterms_true T G x y iterm.ClearScrollback iterm.ClearScrollback e = refl
iterms_true T G x y iterm.EndCopy iterm.EndCopy e = refl
iterms_true T G x y iterm.RequestCellSize iterm.RequestCellSize e = refl
iterms_true T G x y (iterm.CurrentDir s) (iterm.CurrentDir t) e =
    ap iterm.CurrentDir ((texts s t).0 e)
iterms_true T G x y (iterm.SetProfile s) (iterm.SetProfile t) e =
    ap iterm.SetProfile ((texts s t).0 e)
iterms_true T G x y (iterm.CopyToClipboard s) (iterm.CopyToClipboard t) e =
    ap iterm.CopyToClipboard ((texts s t).0 e)
iterms_true T G x y (iterm.Copy s) (iterm.Copy t) e = ap iterm.Copy ((texts s t).0 e)
iterms_true T G x y (iterm.ReportVariable s) (iterm.ReportVariable t) e =
    ap iterm.ReportVariable ((texts s t).0 e)
iterms_true T G x y (iterm.SetBadgeFormat s) (iterm.SetBadgeFormat t) e =
    ap iterm.SetBadgeFormat ((texts s t).0 e)
iterms_true T G x y (iterm.HighlightCursorLine s) (iterm.HighlightCursorLine t) e =
    ap iterm.HighlightCursorLine ((bools s t).0 e)
iterms_true T G x y (iterm.ReportCellSize h w s) (iterm.ReportCellSize k v t) e = let q =
    (sizes T G x y h k w v s t).0 e in rw (q.0, q.1.0, q.1.1) refl
iterms_true T G x y (iterm.SetUserVar m s) (iterm.SetUserVar n t) e = let q =
    (both (texts m n) (texts s t)).0 e in rw (q.0, q.1) refl
iterms_true T G x y (iterm.File f) (iterm.File g) e = ap iterm.File ((files T G x y f g).0 e)
iterms_true T G x y (iterm.UnicodeVersion v) (iterm.UnicodeVersion w) e =
    ap iterm.UnicodeVersion ((versions T G x y v w).0 e)
iterms_true T G x y a b e = never e

iterms_itself : (T : RattleType) (G : Ghosts T.Denot) (x y : Dict) (a : ITermProprietary T.Denot)
    → (iterm_eq.ghosts T G x y).eq a a ≡ true
iterms_itself T G x y iterm.SetMark = refl
iterms_itself T G x y iterm.StealFocus = refl
iterms_itself T G x y iterm.ClearScrollback = refl
iterms_itself T G x y iterm.EndCopy = refl
iterms_itself T G x y iterm.RequestCellSize = refl
iterms_itself T G x y (iterm.CurrentDir s) = (texts s s).1 refl
iterms_itself T G x y (iterm.SetProfile s) = (texts s s).1 refl
iterms_itself T G x y (iterm.CopyToClipboard s) = (texts s s).1 refl
iterms_itself T G x y (iterm.Copy s) = (texts s s).1 refl
iterms_itself T G x y (iterm.ReportVariable s) = (texts s s).1 refl
iterms_itself T G x y (iterm.SetBadgeFormat s) = (texts s s).1 refl
iterms_itself T G x y (iterm.HighlightCursorLine s) = (bools s s).1 refl
iterms_itself T G x y (iterm.ReportCellSize h w s) =
    (sizes T G x y h h w w s s).1 (refl, (refl, refl))
iterms_itself T G x y (iterm.SetUserVar m s) = (both (texts m m) (texts s s)).1 (refl, refl)
iterms_itself T G x y (iterm.File f) = (files T G x y f f).1 refl
iterms_itself T G x y (iterm.UnicodeVersion v) = (versions T G x y v v).1 refl

pub iterms : (T : RattleType) (G : Ghosts T.Denot) (x y : Dict)
    → IsSame (iterm_eq.ghosts T G x y).eq
iterms T G x y a b = (iterms_true T G x y a b, λ e. rw e (iterms_itself T G x y b))
