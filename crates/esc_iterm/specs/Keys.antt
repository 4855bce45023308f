-- The keys of a file as the program holds them. Only private functions are stated by it.
use denote.Ref.{Bor}
use Rattle.std.specs.Prelude.{ℕ, nat_eq, if◌then◌else◌, List, map, codes, Option, None}
use Rattle.std.specs.Cmp.Lexicographic.{pointwise}
use Rattle.std.specs.Option.{option_map}
use Rattle.esc_values.specs.Cuts.{Pairs, last_value}
use Rattle.esc_values.specs.Fields.{Values}
use Rattle.esc_iterm.specs.Files.{file_fields}
use Rattle.esc_iterm.specs.declared.file_keys.FileKeys.{FileKeys}

-- a text and the values of all keys, without where they lie in memory
abbrev pub text_at : Option (Bor (List ℕ)) → Option (List ℕ)
text_at t = option_map (λ t. t.now) t

abbrev pub values : FileKeys → Values
values f k = text_at (
    if pointwise nat_eq k (codes "size") then f.size
    else if pointwise nat_eq k (codes "name") then f.name
    else if pointwise nat_eq k (codes "width") then f.width
    else if pointwise nat_eq k (codes "height") then f.height
    else if pointwise nat_eq k (codes "preserveAspectRatio") then f.preserve_aspect_ratio
    else if pointwise nat_eq k (codes "inline") then f.inline
    else if pointwise nat_eq k (codes "doNotMoveCursor") then f.do_not_move_cursor
    else None)

-- these values, where no pair has the key, else that of the last pair that has it
abbrev pub values_after : Values → Pairs → Values
values_after v es k = last_value k (v k) es

abbrev pub no_values : Values
no_values k = None

-- the values of a file's keys alone
abbrev pub file_keys : List (List ℕ)
file_keys = map (λ f. f.key) (file_fields {A = Unit {0}})

abbrev pub held : Values → List (Option (List ℕ))
held v = map v file_keys

-- the values after these pairs, and the bytes after the pairs
abbrev pub held_after : Values → Option (Pairs × List ℕ)
    → Option (List (Option (List ℕ)) × List ℕ)
held_after v o = option_map (λ (m : Pairs × List ℕ). (held (values_after v m.0), m.1)) o
