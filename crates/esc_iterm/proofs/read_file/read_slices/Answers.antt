use Rattle.std.proofs.Common.{rules, ◌≡◌, ℕ, ◌+◌, ◌<◌, List, [], ◌∷◌, map, drop, length, get_or, Some, None, sym, ap, ◌∙◌, Bor}
use Rattle.std.specs.Option.{option_map}
use Rattle.std.proofs.lemmas.List.{at_drop_more}
use Rattle.esc_values.specs.Fields.{Values}
use Rattle.esc_iterm.specs.Files.{slice_pairs, pairs_of}
use Rattle.esc_iterm.specs.Keys.{values, values_after, held, held_after}
use Rattle.esc_iterm.proofs.ReadSlices.{turn, stop}
use Rattle.esc_iterm.proofs.read_file.read_slices.Goals as goal

-- the slice that is read, and those that are left
next_slice : (v : Values) (p : List ℕ) (xs : List (Bor (List ℕ))) (i : ℕ) (d : Bor (List ℕ))
    → i < length xs
    → held_after v (pairs_of (p ∷ map (λ x. x.now) (drop i xs)))
    ≡ held_after v (pairs_of (p ∷ (get_or xs i d).now ∷ map (λ x. x.now) (drop (i + 1) xs)))
next_slice v p xs i d lt =
    at_drop_more (λ (ys : List (Bor (List ℕ))). held_after v (pairs_of (p ∷ map (λ x. x.now) ys)))
    xs i d lt

abbrev no_slice : Bor (List ℕ)
no_slice = record { ref_ptr = (0, 0); now = [] }

pub returns-in_default : goal.returns-in_default
returns-in_default c =
    let i = c.loop-next.next-index in
    let lt : i < length c.args.rest.now = search rules in
    let fails : None ≡ option_map (λ es. held (values_after (values c.loop-next.keys) es))
    (slice_pairs c.loop-next.slice.now) =
    sym (ap (option_map (λ k. held (values k))) c.in_default.is) ∙ c.read_slice.ensures in
    stop (values c.loop-next.keys) c.loop-next.slice.now (get_or c.args.rest.now i no_slice).now
    (map (λ x. x.now) (drop (i + 1) c.args.rest.now)) fails
    ∙ sym (next_slice (values c.loop-next.keys) c.loop-next.slice.now c.args.rest.now i no_slice lt)
    ∙ c.loop-next.invariant

pub loop-next-preserved : goal.loop-next-preserved
loop-next-preserved c =
    let i = c.loop-next.next-index in
    let lt : i < length c.args.rest.now = search rules in
    let reads : Some (held (values c.in-Some.read)) ≡ option_map (λ es.
    held (values_after (values c.loop-next.keys) es)) (slice_pairs c.loop-next.slice.now) =
    sym (ap (option_map (λ k. held (values k))) c.in-Some.is) ∙ c.read_slice.ensures in
    turn (values c.loop-next.keys) (values c.in-Some.read) c.loop-next.slice.now
    (get_or c.args.rest.now i no_slice).now
    (map (λ x. x.now) (drop (i + 1) c.args.rest.now)) reads
    ∙ sym (next_slice (values c.loop-next.keys) c.loop-next.slice.now c.args.rest.now i no_slice lt)
    ∙ c.loop-next.invariant
