-- A block of units of 16 bytes as room for a type that it holds. Assumes `Logic`.
use Rattle.std.proofs.Common.{◌≡◌, ℕ, zero, ◌+◌, ◌-◌, ◌*◌, ◌/◌, ◌%◌, ◌≤◌, max, sym, ap, subst, ◌∙◌, arith, ◌∷◌, []}
use seplogic.Ra.Ura.{Ura}
use mir.Syntax.{Ty, Tys, Width, w8, w16, w32, w64, w128, tnil, tcons, ty_int, ty_array, ty_struct}
use mir.Val.{bytes}
use native.Mathlib.Nat.{mod_self, sub-zero}
use base.Logic.{SProp, sep, wand, ent, apply∗}
use prog.Memory.{size, align, pad, up, end_of}
use prog.Model.{rooms_at}
use prog.Align.{Dv, dv→, dv_zero, dv_one, dv_mul, align_pos, align_w, align-bytes}
use types.Logic.{Logic}
use types.Kit.{raw, ◌⊛◌, ◌$◌, ◌∵◌, !, qed, by, use1, use2, split, join, frame, assume}
use Rattle.caching_alloc.specs.Ownership.{units_of}

flush : (a n : ℕ) → Dv a n → up a n ≡ n
flush a n d =
    let gone : pad a n ≡ 0 = ap (λ (r : ℕ). (a - r) % a) (dv→ a n d) ∙ ap (λ (r : ℕ). r % a)
    (sub-zero a) ∙ mod_self a in
    ap (λ (r : ℕ). n + r) gone ∙ omega arith

divides_16 : (w : Width) → Dv (bytes w) 16
divides_16 w8 = tt
divides_16 w16 = tt
divides_16 w32 = tt
divides_16 w64 = tt
divides_16 w128 = tt

-- n bytes are room for a type that they hold, as a struct of it and the bytes after it
pub retypes : {M : Type 1} {𝓤 : Ura M} (𝓛 : Logic 𝓤) (τ : Ty) (b x n : ℕ) → n % 16 ≡ 0 → size τ ≤ n
    → ent 𝓤 (𝓛.H.room (units_of n) b x)
    (sep 𝓤 (𝓛.H.room τ b x) (wand 𝓤 (𝓛.H.room τ b x) (𝓛.H.room (units_of n) b x)))
retypes {𝓤 = 𝓤} 𝓛 τ b x n whole fits =
    let H = 𝓛.H in
    let All : SProp 𝓤 = H.room (units_of n) b x in
    let dv : Dv (align τ) 16 = subst (λ (k : ℕ). Dv k 16) (sym (align-bytes τ))
    (divides_16 (align_w τ)) in
    let tail : Tys = tcons (ty_array (ty_int w8) (n - size τ)) tnil in
    let ω : Ty = ty_struct [] (tcons τ tail) in
    let one : max (align τ) 1 ≡ align τ = omega (arith, align_pos τ) in
    let start : up (align τ) 0 ≡ 0 = flush (align τ) 0 (dv_zero (align τ)) in
    let ends : end_of zero (tcons τ tail) ≡ n / 16 * 16 = ap (λ (k : ℕ). k + (n - size τ) * 1)
    (flush 1 (up (align τ) 0 + size τ) (dv_one (up (align τ) 0 + size τ)) ∙ ap
    (λ (k : ℕ). k + size τ) start) ∙ omega arith in
    let same : size ω ≡ n / 16 * 16 = (λ i. up (one i) (ends i)) ∙ flush (align τ) (n / 16 * 16)
    (dv_mul (align τ) 16 (n / 16) dv) in
    let first : x + up (align τ) 0 ≡ x = ap (λ (k : ℕ). x + k) start ∙ omega arith in
    let Rest : SProp 𝓤 = rooms_at 𝓤 H tail (up (align τ) 0 + size τ) b x in
    let Head : SProp 𝓤 = H.room τ b (x + up (align τ) 0) in
    let Both : SProp 𝓤 = sep 𝓤 Head Rest in
    subst (λ (d : ℕ). ent 𝓤 All (sep 𝓤 (H.room τ b d) (wand 𝓤 (H.room τ b d) All))) first
    (qed 𝓛 (raw All ∷ []) ∵
    use1 𝓛 (raw (H.room ω b x)
    ⊛ raw (wand 𝓤 (H.room ω b x) All)) (𝓛.laws.room_as (units_of n) ω b x same
    (subst (λ (k : ℕ). Dv k 16) (sym one) dv)) $ split ! $
    use1 𝓛 ((raw Head ⊛ raw Rest)
    ⊛ raw (wand 𝓤 Both (H.room ω b x))) (𝓛.laws.room_fields [] (tcons τ tail) b x) $ split ! $
    split ! $ frame ! $ assume ! (raw Head) $ join ! $
    use2 𝓛 (raw (H.room ω b x)) (apply∗ 𝓤 Both (H.room ω b x)) $ by ! (apply∗ 𝓤 (H.room ω b x) All))
