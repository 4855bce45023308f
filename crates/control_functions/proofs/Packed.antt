-- The marks of parameters, packed.
use Rattle.std.proofs.Common.{◌≡◌, ℕ, ◌+◌, ◌*◌, ◌<◌, ◌≤◌, ◌^◌, List, [], ◌∷◌, length, drop, get_or, Some, None, ap, ◌∙◌, arith}
use Rattle.std.proofs.lemmas.List.{at_drop_more}
use Rattle.esc_values.specs.declared.csi_param.CsiParam.{CsiParam}
use Rattle.control_functions.specs.Rows.{base_256}
use Rattle.control_functions.specs.Functions.{mark_of, marks, put_mark}

-- the mark that a parameter adds
pub packed_next : (p : ℕ) (es : List CsiParam) (i : ℕ) (e : CsiParam) → i < length es
    → base_256 p (marks (drop i es))
    ≡ base_256 p (put_mark (mark_of (get_or es i e)) (marks (drop (i + 1) es)))
packed_next p es i e lt = at_drop_more (λ ds. base_256 p (marks ds)) es i e lt

pub more_packed : (p b : ℕ) (bs : List ℕ) → base_256 p (b ∷ bs) ≡ base_256 (p * 0x100 + b) bs
more_packed p b bs = ap (λ n. base_256 n bs) (omega arith)

-- more bytes make no less
pub packed_grows : (p : ℕ) (bs : List ℕ) → p ≤ base_256 p bs
packed_grows p [] = omega arith
packed_grows p (b ∷ bs) = let more = packed_grows (256 * p + b) bs in omega arith

pub too_many : (p b : ℕ) (bs : List ℕ) → 0x1_0000 ≤ p → 2 ^ 24 ≤ base_256 p (b ∷ bs)
too_many p b bs two = let more = packed_grows (256 * p + b) bs in omega arith

pub few_more : (p b : ℕ) → p < 0x1_0000 → b < 0x100 → p * 0x100 + b < 2 ^ 24
few_more p b h k = omega (arith, h, k)
