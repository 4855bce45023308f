-- The text of a stream's lines reads back, line by line.
use Rattle.std.proofs.Common.{ℕ, Bool, true, false, List, [], ◌∷◌, ◌++◌, None, refl, ap, sym, ◌∙◌, append_assoc, append-nil, ◌&&◌, if◌then◌else◌}
use Rattle.std.specs.List.{flat_map}
use Rattle.esc_actions.proofs.Meaning.MeaningsJoin.{meaning_nil}
use Rattle.esc_actions.specs.Meaning.{meaning, Reads}
use Rattle.esc_actions.specs.Values.{Value, control}
use Rattle.esc_actions.specs.declared.control_code.ControlCode.TheVariants.{CarriageReturn, LineFeed}
use Rattle.esc_actions.specs.Texts.{list_text, normal}
use Rattle.esc_filter.specs.Closing.{closed_values}
use Rattle.esc_filter.specs.Lines.{body, content, end_text, end_values, ended_lines, ends_line, ends_return, last_line, line_text, line_values, lines, lines_text_as, lines_values_as, passed_of_line, IsFilteredByLinesAs}
use Rattle.esc_filter.specs.declared.guard.Guard.{Guard}

module _ {A : Type 0} where
  reads_nothing : Reads {A = A} [] []
  reads_nothing = λ rest. refl

  reads_both : (x y : List ℕ) (vs ws : List (Value A)) → Reads x vs → Reads y ws
      → Reads (x ++ y) (vs ++ ws)
  reads_both x y vs ws h k = λ rest.
      ap meaning (append_assoc x y rest) ∙ h (y ++ rest) ∙ ap (λ z. vs ++ z) (k rest)
      ∙ sym (append_assoc vs ws (meaning rest))

  module _ (u : Guard) (limit : ℕ) (admits : Value A → Bool)
      (goes_on : (l : List ℕ)
      → Reads (list_text (passed_of_line u limit admits l))
      (normal (passed_of_line u limit admits l)))
      (ended : (l : List ℕ)
      → Reads (list_text (closed_values admits (passed_of_line u limit admits l)))
      (normal (closed_values admits (passed_of_line u limit admits l))))
      (feed : Reads {A = A} (0x0a ∷ []) (control LineFeed ∷ []))
      (feed_after : Reads {A = A} (0x0d ∷ 0x0a ∷ [])
      (control CarriageReturn ∷ control LineFeed ∷ [])) where
    end_reads : (r : Bool) → Reads (end_text admits r) (end_values admits r)
    end_reads r = by (r && admits (control CarriageReturn))
      where
        by : (t : Bool) → Reads {A = A} (if t then 0x0d ∷ 0x0a ∷ [] else 0x0a ∷ [])
            (if t then control CarriageReturn ∷ control LineFeed ∷ [] else control LineFeed ∷ [])
        by true = feed_after
        by false = feed

    line_reads : (l : List ℕ) → Reads (line_text u limit admits l) (line_values u limit admits l)
    line_reads l = by (ends_line false l)
      where
        m : List ℕ
        m = body (content l) ++ 0x0a ∷ []

        vs : List (Value A)
        vs = passed_of_line u limit admits m

        r : Bool
        r = ends_return false (content l)

        by : (t : Bool)
            → Reads (if t then list_text (closed_values admits vs) ++ end_text admits r
            else list_text (passed_of_line u limit admits (body l)))
            (if t then normal (closed_values admits vs) ++ end_values admits r
            else normal (passed_of_line u limit admits (body l)))
        by true = reads_both (list_text (closed_values admits vs)) (end_text admits r)
            (normal (closed_values admits vs)) (end_values admits r) (ended m) (end_reads r)
        by false = goes_on (body l)

    lines_read : (ls : List (List ℕ))
        → Reads (flat_map (line_text {A = A} u limit admits) ls)
        (flat_map (line_values u limit admits) ls)
    lines_read [] = reads_nothing
    lines_read (l ∷ ls) = reads_both _ _ _ _ (line_reads l) (lines_read ls)

    all_read : (b : Bool) (s : List ℕ)
        → Reads (lines_text_as b u limit admits s) (lines_values_as b u limit admits s)
    all_read true s = reads_both _ _ _ _ (lines_read (lines (ended_lines s))) (ended (last_line s))
    all_read false s = lines_read (lines s)

    pub filtered : (b : Bool) (s : List ℕ)
        → IsFilteredByLinesAs b u limit admits s (lines_text_as b u limit admits s)
    filtered b s =
        let all = all_read b s in
        let vs = lines_values_as b u limit admits s in record {
          text = refl;
          reads_back =
              ap meaning (sym (append-nil (lines_text_as b u limit admits s))) ∙ all []
              ∙ ap (λ z. vs ++ z) (meaning_nil None) ∙ append-nil vs;
          whatever_follows = all;
        }
