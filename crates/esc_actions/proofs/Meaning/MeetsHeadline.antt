-- The meaning of a stream meets the headline, by the laws.
use Rattle.std.proofs.Common.{ℕ, ◌≡◌, List, None, ap, sym, ◌∙◌, subst}
use Rattle.esc_frame.specs.Segments.{Segment, IsCut}
use Rattle.esc_actions.specs.Headline.{Headline}
use Rattle.esc_actions.specs.Meaning.{meaning}
use Rattle.esc_actions.specs.Readings.{MeansItsCut}
use Rattle.esc_actions.specs.Texts.{list_text, normal}
use Rattle.esc_actions.specs.Values.{Value}
use Rattle.esc_actions.specs.Writable.{EmittedAreWritable, AreWritable}

module _ {A : Type 0}
    (has_cut : (s : List ℕ) → (gs : List Segment) × IsCut s gs)
    (one_cut : (s : List ℕ) (gs hs : List Segment) → IsCut s gs → IsCut s hs → gs ≡ hs)
    (of_the_cut : MeansItsCut A)
    (handed_out : (s : List ℕ) → EmittedAreWritable {A = A} (meaning s))
    (back : (vs : List (Value A)) → AreWritable vs → meaning (list_text vs) ≡ normal vs)
    (same : (vs : List (Value A)) → AreWritable vs → list_text (normal vs) ≡ list_text vs)
  where
    pub meets : (s : List ℕ) → Headline {A = A} s (meaning s)
    meets s =
        let c = has_cut s in
        record {
          segments = c.0;
          one_cut = record { cuts = c.1; alone = λ hs cut. one_cut s hs c.0 cut c.1 };
          readings_in_order = of_the_cut None s c.0 c.1;
          handed_out_is_writable = handed_out s;
          reads_back = λ ws h e. ap meaning (sym e) ∙ back ws h;
          same_text = λ ws h e. ap list_text (ap meaning (sym e) ∙ back ws h) ∙ same ws h ∙ e;
        }

pub at_meaning : {A : Type 0} (s : List ℕ) (vs : List (Value A)) → vs ≡ meaning s
    → Headline s (meaning {A = A} s) → Headline s vs
at_meaning s vs e h = subst (λ x. Headline s x) (sym e) h
