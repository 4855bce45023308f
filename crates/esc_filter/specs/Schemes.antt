-- The targets of links: the schemes of their addresses (RFC 3986, 3.1).
use Rattle.std.specs.Prelude.{ℕ, Bool, true, false, not, ◌==◌, ◌&&◌, ◌||◌, List, [], ◌∷◌, length, take, drop, Option, Some}
use Rattle.std.specs.Char.{is_ascii_alphabetic, is_ascii_alphanumeric}
use Rattle.std.specs.Borrow.{Bor}
use Rattle.std.specs.List.{list_all, list_any, slice_split}
use Rattle.std.specs.Str.{str_eq_ignore_ascii_case}
use Rattle.esc_frame.specs.Segments.{is_empty}
use Rattle.esc_actions.specs.Values.{Value, osc}
use Rattle.esc_osc.specs.declared.command.OperatingSystemCommand.{OperatingSystemCommand}
use Rattle.esc_osc.specs.declared.command.OperatingSystemCommand.TheVariants as command
use Rattle.esc_filter.specs.Addresses.{address_in, is_address}

-- a letter, and then letters, digits, `+`, `-` and `.`
abbrev pub is_scheme_byte : ℕ → Bool
is_scheme_byte b = is_ascii_alphanumeric b || ((b == 0x2b) || ((b == 0x2d) || (b == 0x2e)))

abbrev pub is_scheme : List ℕ → Bool
is_scheme [] = false
is_scheme (b ∷ bs) = is_ascii_alphabetic b && list_all is_scheme_byte bs

abbrev pub begins_with_colon : List ℕ → Bool
begins_with_colon [] = false
begins_with_colon (b ∷ bs) = b == 0x3a

-- the address begins with this scheme, in whatever case, and a colon
abbrev pub has_scheme : List ℕ → List ℕ → Bool
has_scheme address scheme =
    str_eq_ignore_ascii_case (take (length scheme) address) scheme
    && begins_with_colon (drop (length scheme) address)

abbrev pub is_comma : ℕ → Bool
is_comma b = b == 0x2c

-- the address has one of these schemes, between which there is `,`
abbrev pub has_one_scheme : List ℕ → List ℕ → Bool
has_one_scheme address schemes = list_any (has_scheme address) (slice_split is_comma schemes)

-- the same for an address in parts, with the scheme in the first; or there are no parts
abbrev pub parts_lead : List (List ℕ) → List ℕ → Bool
parts_lead [] schemes = true
parts_lead (u ∷ us) schemes = not (is_address (u ∷ us)) || has_one_scheme u schemes

-- no link, the end of one, as a link without an address is, or a link to an address with one of the
-- schemes, if there are some
abbrev pub link_leads : {A : Type 0} → Option (Bor (List ℕ)) → OperatingSystemCommand A → Bool
link_leads (Some schemes) (command.SetHyperlink (Some link)) =
    is_empty link.uri || has_one_scheme link.uri schemes.now
link_leads (Some schemes) (command.Unspecified ps) = parts_lead (address_in ps) schemes.now
link_leads _ _ = true

abbrev pub leads : {A : Type 0} → Option (Bor (List ℕ)) → Value A → Bool
leads schemes (osc c) = link_leads schemes c
leads schemes _ = true
