-- Texts that are given one character at a time.
use Rattle.std.proofs.Common.{ℕ, ◌≡◌, ◌+◌, ◌≤◌, ◌⊎◌, List, length, drop, map, ap, sym, ◌∙◌, subst, arith}
use Rattle.std.proofs.Common.{length-drop}
use Rattle.std.specs.List.{FoldsTo, list_all}
use Rattle.std.specs.Str.{chars}
use Rattle.std.proofs.lemmas.List.{drop-drop}
use Rattle.std.proofs.lemmas.Bool.{and_parts}
use Rattle.std.proofs.lemmas.Str.{IsUtf8-past_char, chars_past_char}
use Rattle.esc_values.specs.Clear.{is_clear}
use Rattle.esc_frame.specs.Events.{Event, StopsAt, MayGet}
use Rattle.esc_frame.specs.Events.Event.{Print}
use Rattle.esc_frame.specs.Machine.Texts.{IsClearText, IsNext, HasTaken, HasSpelled}
use Rattle.esc_frame.proofs.ByteRuns.ClearRuns.{chars_next, chars_stop, chars_done, chars_may}

-- the text after a character is clear
clear_past : (x : List ℕ) (c n : ℕ) → IsClearText x → IsNext x c n → IsClearText (drop n x)
clear_past x c n t e = (
  IsUtf8-past_char x (drop n x) c t.0 e.0,
  (and_parts (is_clear c) (list_all is_clear (chars (drop n x)))
      (ap (list_all is_clear) (sym (chars_past_char x (drop n x) c t.0 e.0)) ∙ t.1)).1,
)

drops : (x : List ℕ) (i n : ℕ) → drop n (drop i x) ≡ drop (i + n) x
drops x i n = drop-drop n i x

module _ {S : Type 0} (takes refuses : S → Event → S → Type 0) (is_ready : S
    → Type 0) (text : List ℕ) where
  pub next_spelled : (at c n : ℕ) (old mid new : S) → HasSpelled takes is_ready text at old mid
      → IsNext (drop at text) c n → takes mid (Print c) new
      → (is_ready mid → is_ready new)
      → HasSpelled takes is_ready text (at + n) old new
  next_spelled at c n old mid new h e g r = (
    omega (arith, h.0, e.1, length-drop at text),
    subst IsClearText (drops text at n) (clear_past (drop at text) c n h.1 e),
    subst (λ y. HasTaken takes text y old new) (drops text at n)
        (chars_next takes text (drop at text) (drop n (drop at text)) c old mid new h.1.0 e.0 h.2
        g),
    λ k. r (h.3 k),
  )

  pub stop_spelled : (at c n : ℕ) (old mid new : S) → HasSpelled takes is_ready text at old mid
      → IsNext (drop at text) c n → (own : Type 0)
      → refuses mid (Print c) new → StopsAt own takes refuses old (map Print (chars text)) new
  stop_spelled at c n old mid new h e own g =
      chars_stop takes refuses text (drop at text) (drop n (drop at text)) c old mid new h.1.0 e.0
      h.2 own g

  -- the character may be given to whom the text may be
  pub may_spell : (may : S → Event → Type 0) (t : List ℕ) → text ≡ t → (at c n : ℕ) (old mid : S)
      → HasSpelled takes is_ready text at old mid → IsNext (drop at text) c n
      → MayGet is_ready may takes old (map Print (chars t)) → is_ready mid ⊎ may mid (Print c)
  may_spell may t same at c n old mid h e m =
      chars_may is_ready may takes text (drop at text) (drop n (drop at text)) c old mid h.1.0 e.0
      h.2 h.3 (subst (λ y. MayGet is_ready may takes old (map Print (chars y))) (sym same) m)

  -- the same of the text that these bytes are
  pub stop_given : (t : List ℕ) → text ≡ t → (at c n : ℕ) (old mid new : S)
      → HasSpelled takes is_ready text at old mid → IsNext (drop at text) c n
      → (own : Type 0)
      → refuses mid (Print c) new → StopsAt own takes refuses old (map Print (chars t)) new
  stop_given t same at c n old mid new h e own g =
      subst (λ y. StopsAt own takes refuses old (map Print (chars y)) new) same
      (stop_spelled at c n old mid new h e own g)

  pub all_spelled : (at : ℕ) (old new : S) → length text ≤ at
      → HasSpelled takes is_ready text at old new → FoldsTo takes old (map Print (chars text)) new
  all_spelled at old new l h =
      chars_done takes text (drop at text) old new (omega (arith, l, length-drop at text)) h.2
