use Rattle.std.proofs.Common.{◌≡◌, ◌∷◌, [], drop}
use Rattle.std.specs.List.{flat_map}
use Rattle.flat_values.specs.Fields.{text_field, with_fields}
use Rattle.flat_values.proofs.fielded.append_texts.Given as goal

abbrev pub invariant-loop-text : goal.invariant-loop-text
invariant-loop-text l =
    with_fields l.initial.fields (flat_map (λ t. text_field l.name t ∷ []) l.texts)
    ≡ with_fields l.fields (flat_map (λ t. text_field l.name t ∷ []) (drop l.text-index l.texts))
