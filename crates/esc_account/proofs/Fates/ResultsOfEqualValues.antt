-- Values of results, and equal values.
use Rattle.std.proofs.Common.{◌≡◌, List, Result, IfOk, subst}
use Rattle.std.specs.List.{FoldsTo}

pub spelled_ok : {T E : Type 0} (r : Result T E) (x y : T) → IfOk r (λ t. t ≡ x) → x ≡ y
    → IfOk r (λ t. t ≡ y)
spelled_ok r x y h e = subst (λ z. IfOk r (λ t. t ≡ z)) e h

-- a result of some values is one of other values that are the same
pub fed_by : {T E V : Type 0} (F : List V → T → Type 0) (r : Result T E) (x y : List V)
    → IfOk r (F x) → x ≡ y → IfOk r (F y)
fed_by F r x y h e = subst (λ z. IfOk r (F z)) e h

pub folds_same : {S V : Type 0} (R : S → V → S → Type 0) (p q : S) (x y : List V) → x ≡ y
    → FoldsTo R p x q → FoldsTo R p y q
folds_same R p q x y e h = subst (λ z. FoldsTo R p z q) e h
