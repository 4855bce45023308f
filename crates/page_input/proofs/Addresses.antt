-- An address is the part of a text that may be one, without its end.
use Rattle.std.proofs.Common.{ℕ, ◌≡◌, ◌≤◌, true, false, nat_le, List, length, take, drop, ap, sym, ◌∙◌, subst, arith}
use Rattle.std.specs.List.{list_all}
use Rattle.std.proofs.lemmas.Bool.Decides.{nat_tests}
use Rattle.std.proofs.lemmas.Bool.{and_parts}
use Rattle.std.proofs.lemmas.List.{length-take, take-append-drop, take-take}
use Rattle.std.proofs.lemmas.List.Folds.{list_all-append}
use Rattle.page_input.specs.Addresses.{IsAddress, ends_in_stop, has_host, is_address_byte, longest}

first_pass : (n : ℕ) (t : List ℕ) → list_all is_address_byte t ≡ true
    → list_all is_address_byte (take n t) ≡ true
first_pass n t h = (and_parts _ _ (sym (list_all-append is_address_byte (take n t) (drop n t))
    ∙ ap (list_all is_address_byte) (take-append-drop n t) ∙ h)).0

is_short : (n : ℕ) → n ≤ longest → nat_le n longest ≡ true
is_short n h = grind (arith, nat_tests)

pub address_is : (run : ℕ) (s x : List ℕ) → x ≡ take (length x) (take run s)
    → length x ≤ length (take run s) → length x ≤ longest
    → list_all is_address_byte (take run s) ≡ true → ends_in_stop x ≡ false
    → has_host x ≡ true → IsAddress (take (length x) s)
address_is run s x is within short bytes ended host =
    let few : length x ≤ run = omega (arith, within, length-take run s) in
    subst IsAddress (is ∙ take-take (length x) run s few) (record {
      host = host;
      bytes = subst (λ y. list_all is_address_byte y ≡ true) (sym is)
          (first_pass (length x) (take run s) bytes);
      short = is_short (length x) short;
      ended = ended;
    })
