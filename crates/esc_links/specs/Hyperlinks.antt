-- Hyperlinks: their parameters, how they are read and written (the command OSC 8 of terminals:
-- "Hyperlinks in terminal emulators").
use Rattle.std.specs.Prelude.{ℕ, ◌==◌, Bool, false, List, [], ◌∷◌, ◌++◌, codes, Option, Some, None}
use Rattle.std.specs.BTreeMap.{insert_entry}
use Rattle.std.specs.Cmp.Lexicographic.{slice_cmp}
use Rattle.std.specs.List.{slice_split, flat_map}
use Rattle.std.specs.Map.{lookup}
use Rattle.std.specs.Option.{option_map}
use Rattle.std.specs.Ordering.{nat_cmp}
use Rattle.std.specs.Str.{bytes_eq}
use Rattle.esc_values.specs.Cuts.{Pairs, pairs_in, pair_text}
use Rattle.esc_values.specs.Scalars.{and_then, utf8_of}
use Rattle.esc_links.specs.declared.hyperlink.Hyperlink.{Hyperlink}

-- the pairs with v at k: in the order of the keys' bytes, where the value of a key that is there is
-- replaced
abbrev pub pairs_with : List ℕ → List ℕ → Pairs → Pairs
pairs_with k v es = insert_entry (slice_cmp nat_cmp) es k v

-- the pairs es with these put in, one after another
abbrev pub put_all : Pairs → Pairs → Pairs
put_all es [] = es
put_all es (p ∷ ps) = put_all (pairs_with p.0 p.1 es) ps

-- the value of a key
abbrev pub value_at : List ℕ → Pairs → Option (List ℕ)
value_at k es = lookup (bytes_eq k) es

-- a colon
abbrev pub is_colon : ℕ → Bool
is_colon c = c == 0x3a

-- These are the parameters in a text between its first two `;`: keys and values between `:`; a
-- later one replaces an earlier one of the same key; none if it is empty.
abbrev pub params_of : List ℕ → Option Pairs
params_of [] = Some []
params_of (b ∷ t) = option_map (λ es. put_all [] es) (pairs_in (slice_split is_colon (b ∷ t)))

-- the pairs, with `:` between them
abbrev pub params_text : Pairs → List ℕ
params_text [] = []
params_text (e ∷ es) = pair_text e ++ flat_map (λ d. 0x3a ∷ pair_text d) es

module _ {A : Type 0} where
  -- a link to this address
  abbrev pub link_to : Pairs → List ℕ → Hyperlink A
  link_to es uri = record {
    params = es;
    uri = uri;
    implicit = false;
  }

  -- the link of parameters and an address; no link where both are empty
  abbrev pub link_in : List ℕ → List ℕ → Option (Option (Hyperlink A))
  link_in [] [] = Some None
  link_in p uri = and_then (params_of p) (λ es. option_map (λ u. Some (link_to es u)) (utf8_of uri))

  -- The parts of a text are this link: the second of three has the parameters, and the third is the
  -- address. The first is not looked at.
  abbrev pub link_of : List (List ℕ) → Option (Option (Hyperlink A))
  link_of (p0 ∷ p1 ∷ p2 ∷ []) = link_in p1 p2
  link_of _ = None

  -- `8;`, the parameters, `;`, the address
  abbrev pub hyperlink_text : Hyperlink A → List ℕ
  hyperlink_text h = codes "8;" ++ (params_text h.params ++ 0x3b ∷ h.uri)

  -- the text of a command with a link, or with none
  abbrev pub link_text : Option (Hyperlink A) → List ℕ
  link_text None = codes "8;;"
  link_text (Some h) = hyperlink_text h
