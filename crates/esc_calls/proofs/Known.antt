-- A value that is known to be there.
use Rattle.std.proofs.Common.{◌≡◌, Option, None, Some, IfSome, ap, subst, sym, ◌∙◌}

pub if_known : {T : Type 0} (P : T → Type 0) (o : Option T) (x : T) → o ≡ Some x → P x → IfSome o P
if_known P o x e h = subst (λ r. IfSome r P) (sym e) h

-- the same value, known twice
abbrev out_of : {T : Type 0} → T → Option T → T
out_of x None = x
out_of x (Some y) = y

pub known_twice : {T : Type 0} (o : Option T) (x y : T) → o ≡ Some x → o ≡ Some y → x ≡ y
known_twice o x y e f = ap (out_of x) (sym e ∙ f)
