-- Texts of plain ASCII characters are clear.
use Rattle.std.proofs.Common.{ℕ, ◌≡◌, ◌<◌, ◌≤◌, Bool, true, nat_le, ◌&&◌, List, [], ◌∷◌, refl, arith}
use Rattle.std.specs.List.{list_all}
use Rattle.std.specs.Str.{encode_utf8_all}
use Rattle.std.proofs.lemmas.Bool.{leb-true, and_parts}
use Rattle.std.proofs.lemmas.Str.{encode_ascii}
use Rattle.std.proofs.Math.Utf8.{low_scalar}
use Rattle.esc_values.specs.Clear.{is_clear, IsClearText}

-- from space to delete
abbrev pub is_plain : ℕ → Bool
is_plain c = nat_le 0x20 c && nat_le c 0x7f

plain_small : (c : ℕ) → is_plain c ≡ true → c < 128
plain_small c h = let q = and_parts (nat_le 0x20 c) (nat_le c 0x7f) h in let small : c ≤ 0x7f =
    leb-true c 0x7f q.1 in omega arith

pub plain_is_clear : (c : ℕ) → is_plain c ≡ true → is_clear c ≡ true
plain_is_clear c h =
    let q = and_parts (nat_le 0x20 c) (nat_le c 0x7f) h in
    let small = plain_small c h in
    rw (low_scalar c (omega arith), q.0, q.1) refl

plain_all : (t : List ℕ) → list_all is_plain t ≡ true → list_all is_clear t ≡ true
plain_all [] h = refl
plain_all (c ∷ t) h = let q = and_parts (is_plain c) (list_all is_plain t) h in
    rw (plain_is_clear c q.0, plain_all t q.1) refl

pub plain_encodes : (t : List ℕ) → list_all is_plain t ≡ true → encode_utf8_all t ≡ t
plain_encodes [] h = refl
plain_encodes (c ∷ t) h = let q = and_parts (is_plain c) (list_all is_plain t) h in
    rw (encode_ascii c (plain_small c q.0), plain_encodes t q.1) refl

-- a literal is clear by `plain_clear literal refl`
pub plain_clear : (t : List ℕ) → list_all is_plain t ≡ true → IsClearText t
plain_clear t h = (t, plain_all t h, plain_encodes t h)
