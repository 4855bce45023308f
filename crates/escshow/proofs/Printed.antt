-- The value that a flush keeps, and the text of a sheet that is printed.
use Rattle.std.proofs.Common.{ℕ, List, ◌∙◌}
use Rattle.std.specs.Prelude.{Option, Some, None, Result, Ok, Err, OnOk}
use Rattle.std.specs.Io.KnownBytes.{Appends, Keeps}
use Rattle.esc_sheet.specs.Sheets.{AppendsSheet, IsSheet}

pub appends_kept : (a b c : Option (List ℕ)) (t : List ℕ) → Appends a b t → Keeps b c
    → Appends a c t
appends_kept None b c t h k = tt
appends_kept (Some xs) None c t h k = absurd h
appends_kept (Some xs) (Some ys) None t h k = absurd k
appends_kept (Some xs) (Some ys) (Some zs) t h k = k ∙ h

pub sheet_printed : {U E : Type 0} (r : Result U E) (a b : Option (List ℕ)) (t : List ℕ)
    → ∥ IsSheet t ∥₁ → OnOk r (Appends a b t) → OnOk r (AppendsSheet a b)
sheet_printed (Ok u) a b t safe h = record { text = t; safe = safe; appends = h }
sheet_printed (Err e) a b t safe h = tt
