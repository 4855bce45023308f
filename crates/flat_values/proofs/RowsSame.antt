-- A test of rows says whether they are the same.
use Rattle.std.proofs.Common.{◌≡◌, ◌&&◌, ◌==◌, Bool, ap}
use Rattle.std.specs.Bool.{Decides}
use Rattle.std.proofs.lemmas.Bool.Decides.{Decides-and, Decides-eqb, Decides-int_eq}
use Rattle.std.specs.Ordering.{int_eq}
use Rattle.flat_values.specs.declared.field_row.FieldRow.{FieldRow}

abbrev pub row_eq : FieldRow → FieldRow → Bool
row_eq a b = (a.name == b.name) && ((a.kind == b.kind) && ((int_eq a.number b.number)
    && ((a.offset == b.offset) && (a.length == b.length))))

pub rows_decide : (a b : FieldRow) → Decides (row_eq a b) (a ≡ b)
rows_decide a b =
    let d = Decides-and _ _ (Decides-eqb a.name b.name)
    (Decides-and _ _ (Decides-eqb a.kind b.kind)
    (Decides-and _ _ (Decides-int_eq a.number b.number)
    (Decides-and _ _ (Decides-eqb a.offset b.offset) (Decides-eqb a.length b.length)))) in (
      λ h.
          let p = d.0 h in
          λ i. record {
            name = p.0 i;
            kind = p.1.0 i;
            number = p.1.1.0 i;
            offset = p.1.1.1.0 i;
            length = p.1.1.1.1 i;
          },
      λ e. d.1 (
        ap (λ r. r.name) e,
        (
          ap (λ r. r.kind) e,
          (
            ap (λ r. r.number) e,
            (ap (λ r. r.offset) e, ap (λ r. r.length) e),
          ),
        ),
      ),
    )
