-- The names of classes in a page: those of looks with a prefix, so that no other style sheet has
-- them.
use Rattle.std.specs.Prelude.{ℕ, List, [], ◌∷◌, ◌++◌, codes}
use Rattle.esc_style.specs.Classes.{class_name}
use Rattle.esc_style.specs.declared.class.Class.{Class}

abbrev pub span_name : Class → List ℕ
span_name c = codes "es-" ++ class_name c

-- the names, each after a space
abbrev pub more_span_names : List Class → List ℕ
more_span_names [] = []
more_span_names (c ∷ cs) = 0x20 ∷ (span_name c ++ more_span_names cs)

-- the names, with a space between them: a set of space-separated tokens (WHATWG HTML, 2.3.7)
abbrev pub span_names : List Class → List ℕ
span_names [] = []
span_names (c ∷ cs) = span_name c ++ more_span_names cs
