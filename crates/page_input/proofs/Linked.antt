-- An address has eight bytes at least, so a link to it is at most four times as long.
use Rattle.std.proofs.Common.{ℕ, ◌≡◌, ◌<◌, ◌⊎◌, inl, inr, true, nat_lt, List, length, drop, codes, arith}
use Rattle.std.proofs.lemmas.Bool.{and_parts, or_cases}
use Rattle.std.proofs.lemmas.Bool.Decides.{nat_tests}
use Rattle.std.proofs.lemmas.List.{length-take}
use Rattle.page_input.specs.Addresses.{HasAddress, at_place, begins_with}
use Rattle.page_input.specs.declared.address.Place.{Place}

is_less : (m n : ℕ) → nat_lt m n ≡ true → m < n
is_less m n h = grind (arith, nat_tests)

host_is_long : (a : List ℕ) → (begins_with (codes "http://") a ≡ true)
    ⊎ (begins_with (codes "https://") a ≡ true) → 7 < length a
host_is_long a (inl h) = is_less 7 (length a) (and_parts _ _ h).0
host_is_long a (inr h) =
    let more : 8 < length a = is_less 8 (length a) (and_parts _ _ h).0 in omega (arith, more)

pub address_is_long : (previous : ℕ) (s : List ℕ) (p : Place) → HasAddress previous s p
    → 7 < p.length
address_is_long previous s p h =
    let long : 7 < length (at_place s p) =
    host_is_long (at_place s p) (or_cases _ _ h.address.host) in
    omega (arith, long, length-take p.length (drop p.begin s))
