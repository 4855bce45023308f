-- The links of a screen, and the numbers of looks that lead somewhere.
use Rattle.std.specs.Prelude.{ℕ, ◌+◌, ◌-◌, ◌==◌, nat_eq, nat_le, nat_lt, ◌&&◌, Bool, false, if◌then◌else◌, List, [], ◌∷◌, ◌++◌, length, map, get_or, Option, Some, None}
use Rattle.std.specs.Cmp.Lexicographic.{pointwise}
use Rattle.std.specs.Option.{option_map}
use Rattle.std.specs.Str.{bytes_eq}
use Rattle.esc_links.specs.Hyperlinks.{link_in}
use Rattle.esc_links.specs.declared.hyperlink.Hyperlink.{Hyperlink}
use Rattle.esc_osc.specs.declared.command.OperatingSystemCommand.{OperatingSystemCommand}
use Rattle.esc_osc.specs.declared.command.OperatingSystemCommand.TheVariants as command
use Rattle.esc_values.specs.Clear.{semicolon_list}
use Rattle.esc_values.specs.Cuts.{Pairs}
use Rattle.esc_style.specs.Looks.{plain_look}
use Rattle.esc_style.specs.declared.look.Look.{Look}
use Rattle.esc_terminal.specs.Looks.{erased_look, look_at, most_looks, number_in, with_look}
use Rattle.esc_terminal.specs.declared.styles.Linked.{Linked}
use Rattle.esc_terminal.specs.declared.styles.Styles.{Styles}

-- ---- links

-- where characters lead: the parameters of a link, of which `id` is one, and its address
abbrev pub Target : Type 0
Target = Pairs × List ℕ

abbrev pub target : {A : Type 0} → Hyperlink A → Target
target h = (h.params, h.uri)

abbrev pub same_pairs : Pairs → Pairs → Bool
same_pairs = pointwise (λ p q. pointwise nat_eq p.0 q.0 && pointwise nat_eq p.1 q.1)

-- the same parameters and the same address
abbrev pub same_target : Target → Target → Bool
same_target s t = same_pairs s.0 t.0 && bytes_eq s.1 t.1

-- VTE and iTerm2 take so many bytes of an address, and no more
abbrev pub longest_address : ℕ
longest_address = 2083

-- a link without an address ends a link, and one with a longer one is text alone
abbrev pub leads : Target → Bool
leads t = nat_lt 0 (length t.1) && nat_le (length t.1) longest_address

-- where the characters lead that come after this link, or the end of one
abbrev pub lead_of : {A : Type 0} → Option (Hyperlink A) → Option Target
lead_of None = None
lead_of (Some h) = if leads (target h) then Some (target h) else None

-- the place of a link among these; where it is not among them, how many they are
abbrev pub link_place : Target → List Target → ℕ
link_place t [] = 0
link_place t (s ∷ ss) = if same_target s t then 0 else link_place t ss + 1

-- at most so many are kept
abbrev pub most_links : ℕ
most_links = 0x400

-- these and this one, where there is room for it
abbrev pub with_target : Target → List Target → List Target
with_target t ts = if nat_lt (link_place t ts) most_links
    then if link_place t ts == length ts then ts ++ t ∷ [] else ts
    else ts

-- its number, where there is room for it
abbrev pub target_number : Target → List Target → Option ℕ
target_number t ts = if nat_lt (link_place t ts) most_links then Some (link_place t ts) else None

-- the same of a link or none
abbrev pub with_lead : Option Target → List Target → List Target
with_lead None ts = ts
with_lead (Some t) ts = with_target t ts

abbrev pub lead_number : Option Target → List Target → Option ℕ
lead_number None ts = None
lead_number (Some t) ts = target_number t ts

-- ---- looks that lead somewhere

abbrev pub same_linked : Linked → Linked → Bool
same_linked p q = p.look == q.look && p.link == q.link

-- the place of such a look among these; where it is not among them, how many they are
abbrev pub linked_place : Linked → List Linked → ℕ
linked_place p [] = 0
linked_place p (q ∷ qs) = if same_linked q p then 0 else linked_place p qs + 1

-- at most so many are kept
abbrev pub most_linked : ℕ
most_linked = 0x1000

abbrev pub linked_of : ℕ → ℕ → Linked
linked_of n m = record {
  look = n;
  link = m;
}

-- A look with a number, of characters that lead to the link of a number: these and this one, where
-- there is room for it.
abbrev pub with_linked : ℕ → Option ℕ → List Linked → List Linked
with_linked n None ps = ps
with_linked n (Some m) ps = let p = linked_of n m in if nat_lt (linked_place p ps) most_linked
    then if linked_place p ps == length ps then ps ++ p ∷ [] else ps
    else ps

-- The number of it: one above those of looks. If there is no room for it, and if there is no link,
-- it is that of the look.
abbrev pub linked_number : ℕ → Option ℕ → List Linked → ℕ
linked_number n None ps = n
linked_number n (Some m) ps = let p = linked_of n m in if nat_lt (linked_place p ps) most_linked
    then most_looks + linked_place p ps
    else n

-- ---- numbers

-- the look that a number stands for, by the number of that; and the link, where there is one
abbrev pub look_number : ℕ → List Linked → ℕ
look_number n ps = if nat_lt n most_looks
    then n
    else (get_or ps (n - most_looks) (linked_of 0 0)).look

abbrev pub link_number : ℕ → List Linked → Option ℕ
link_number n ps = if nat_lt n most_looks
    then None
    else if nat_lt (n - most_looks) (length ps)
    then Some (get_or ps (n - most_looks) (linked_of 0 0)).link
    else None

-- ---- the knowledge of a screen

-- the looks, the links, and the looks that lead somewhere, which the cells of a screen have the
-- numbers of
pub record Known : Type 0 where
  pub looks : List Look
  pub links : List Target
  pub linked : List Linked

abbrev pub known_of : {A : Type 0} → Styles A → Known
known_of p = record {
  looks = p.looks;
  links = map target p.links;
  linked = p.linked;
}

-- at first
abbrev pub first_known : Known
first_known = record {
  looks = plain_look ∷ [];
  links = [];
  linked = [];
}

-- the look of a number, and where it leads
abbrev pub known_look : ℕ → Known → Look
known_look n k = look_at (look_number n k.linked) k.looks

abbrev pub target_at : Option ℕ → List Target → Option Target
target_at None ts = None
target_at (Some m) ts = if nat_lt m (length ts) then Some (get_or ts m ([], [])) else None

abbrev pub known_target : ℕ → Known → Option Target
known_target n k = target_at (link_number n k.linked) k.links

-- ---- a look, and a link

-- after a look for characters that come, which lead where those of a number do
abbrev pub known_by_look : Look → ℕ → Known → Known
known_by_look l n k = record {
  looks = with_look (erased_look l) (with_look l k.looks);
  links = k.links;
  linked = with_linked (number_in l k.looks) (link_number n k.linked) k.linked;
}

-- its number
abbrev pub number_by_look : Look → ℕ → Known → ℕ
number_by_look l n k = linked_number (number_in l k.looks) (link_number n k.linked) k.linked

-- and that of cells that are erased, which lead nowhere
abbrev pub erased_by_look : Look → Known → ℕ
erased_by_look l k = number_in (erased_look l) (with_look l k.looks)

-- after a link or the end of one, for characters that look as those of a number do
abbrev pub known_by_lead : Option Target → ℕ → Known → Known
known_by_lead t n k = record {
  looks = k.looks;
  links = with_lead t k.links;
  linked = with_linked (look_number n k.linked) (lead_number t k.links) k.linked;
}

abbrev pub number_by_lead : Option Target → ℕ → Known → ℕ
number_by_lead t n k =
    linked_number (look_number n k.linked) (lead_number t k.links) k.linked

-- the digit 8 alone
abbrev pub is_link_code : List ℕ → Bool
is_link_code (n ∷ []) = n == 0x38
is_link_code _ = false

-- the link of parameters and the parts of an address, between which there is a `;`
abbrev pub link_with : {A : Type 0} → List ℕ → List (List ℕ) → Option (Option (Hyperlink A))
link_with es [] = None
link_with es (u ∷ us) = link_in es (semicolon_list (u ∷ us))

-- the link of a command of these parts that has no other reading
abbrev pub link_in_parts : {A : Type 0} → List (List ℕ) → Option (Option (Hyperlink A))
link_in_parts (p ∷ es ∷ us) = if is_link_code p then link_with es us else None
link_in_parts _ = None

abbrev pub lead_in_parts : Type 0 → List (List ℕ) → Option (Option Target)
lead_in_parts A ps = option_map lead_of (link_in_parts {A = A} ps)

-- OSC 8: where the characters lead that come after a command, if it says that
abbrev pub lead_in : {A : Type 0} → OperatingSystemCommand A → Option (Option Target)
lead_in (command.SetHyperlink h) = Some (lead_of h)
lead_in {A = A} (command.Unspecified ps) = lead_in_parts A ps
lead_in _ = None
