-- Which fate the rule of a policy gives.
use Rattle.std.proofs.Common.{Option, ℕ, ◌≡◌, ◌-◌, inl, inr, Bool, true, false, not, ◌&&◌, ◌||◌, ◌==◌, if◌then◌else◌, List, [], ◌∷◌, ◌++◌, length, take, drop, bytes_eq, refl, ap, sym, ◌∙◌}
use Rattle.std.proofs.lemmas.Bool.{and_parts, eqb-true}
use Rattle.std.proofs.lemmas.List.{take-append-drop}
use Rattle.std.proofs.lemmas.Slice.Eq.{bytes_eq-Decides}
use Rattle.std.specs.List.{list_all, list_any}
use Rattle.esc_segments.specs.declared.kind.SegmentKind.{SegmentKind}
use Rattle.esc_actions.specs.Texts.{list_text}
use Rattle.esc_actions.specs.Values.{Value}
use Rattle.esc_filter.specs.declared.guard.Guard.{Guard}
use Rattle.esc_account.specs.Accounts.{is_end}
use Rattle.esc_account.specs.Rules.{IsAsItCame, before_after, fate_of, is_own, is_replaced, is_shown, is_spelled, is_written}
use Rattle.esc_account.specs.declared.fate.Fate.{Fate}
use Rattle.esc_account.specs.declared.fate.Fate.TheVariants as fates
use Rattle.esc_account.specs.declared.verdict.Verdict.{Verdict}

abbrev pub verdict_of : Fate → Option ℕ → Verdict
verdict_of f b = record { fate = f; before = b }

-- the fate of segments of one kind, with the same bytes and values
pub same_fate : {A : Type 0} (by_lines : Bool) (u : Guard) (admits : Value A → Bool)
    (b : Option ℕ) (k l : SegmentKind) (x y : List ℕ) (vs ws : List (Value A)) → k ≡ l → x ≡ y
    → vs ≡ ws → fate_of by_lines u admits b k x vs ≡ fate_of by_lines u admits b l y ws
same_fate by_lines u admits b k l x y vs ws e f h =
    ap (λ z. fate_of by_lines u admits b z x vs) e
    ∙ ap (λ z. fate_of by_lines u admits b l z vs) f ∙ ap (fate_of by_lines u admits b l y) h

pub same_verdict : {A : Type 0} (by_lines : Bool) (u : Guard) (admits : Value A → Bool)
    (b : Option ℕ) (k l : SegmentKind) (x y : List ℕ) (vs ws : List (Value A)) → k ≡ l → x ≡ y
    → vs ≡ ws
    → verdict_of (fate_of by_lines u admits b k x vs) (before_after u admits b vs)
    ≡ verdict_of (fate_of by_lines u admits b l y ws) (before_after u admits b ws)
same_verdict by_lines u admits b k l x y vs ws e f h =
    ap (λ z. verdict_of z (before_after u admits b vs))
    (same_fate by_lines u admits b k l x y vs ws e f h)
    ∙ ap (λ z. verdict_of (fate_of by_lines u admits b l y ws) (before_after u admits b z)) h

-- ---- by fate

pub nothing_told : {A : Type 0} (by_lines : Bool) (u : Guard) (admits : Value A → Bool)
    (b : Option ℕ) (k : SegmentKind) (bytes : List ℕ) (vs : List (Value A)) → vs ≡ []
    → fate_of by_lines u admits b k bytes vs ≡ fates.Swallowed
nothing_told by_lines u admits b k bytes vs e = ap (fate_of by_lines u admits b k bytes) e

passed_by : (own all rep some as_came : Bool)
    → (if not own then fates.Swallowed else if not all then fates.LeftOut
    else if rep then fates.Replaced else if some then fates.Shown
    else if as_came then fates.Passed else fates.Respelled) ≡ fates.Passed
    → (all ≡ true) × (as_came ≡ true)
passed_by false all rep some as_came h = absurd cc
passed_by true false rep some as_came h = absurd cc
passed_by true true true some as_came h = absurd cc
passed_by true true false true as_came h = absurd cc
passed_by true true false false false h = absurd cc
passed_by true true false false true h = (refl, refl)

pub passed_is : {A : Type 0} (by_lines : Bool) (u : Guard) (admits : Value A → Bool)
    (b : Option ℕ) (k : SegmentKind) (bytes : List ℕ) (vs : List (Value A))
    → fate_of by_lines u admits b k bytes vs ≡ fates.Passed
    → (list_all (is_written by_lines u admits) vs ≡ true)
    × (is_spelled bytes (list_text vs) ≡ true)
passed_is by_lines u admits b k bytes vs h =
    passed_by (list_any (is_own k) vs) (list_all (is_written by_lines u admits) vs)
    (is_replaced k) (list_any (is_shown u b) vs) (is_spelled bytes (list_text vs)) h

end_is : (x : List ℕ) → is_end x ≡ true → x ≡ 0x1b ∷ 0x5c ∷ []
end_is [] h = absurd cc
end_is (a ∷ []) h = absurd cc
end_is (a ∷ b ∷ []) h =
    let q = and_parts (a == 0x1b) (b == 0x5c) h in
    ap (λ c. c ∷ b ∷ []) (eqb-true a 0x1b q.0) ∙ ap (λ c. 0x1b ∷ c ∷ []) (eqb-true b 0x5c q.1)
end_is (a ∷ b ∷ c ∷ x) h = absurd cc

pub as_it_came : (bytes text : List ℕ) → is_spelled bytes text ≡ true → IsAsItCame bytes text
as_it_came bytes text h = by (bytes_eq text bytes) refl h
  where
    n : ℕ
    n = length text - 2

    by : (t : Bool) → bytes_eq text bytes ≡ t
        → (t || (is_end (drop n text) && bytes_eq (take n text) bytes)) ≡ true
        → IsAsItCame bytes text
    by true e g = inl ((bytes_eq-Decides text bytes).0 e)
    by false e g =
        let q = and_parts (is_end (drop n text)) (bytes_eq (take n text) bytes) g in
        inr (sym (take-append-drop n text)
        ∙ ap (λ x. x ++ drop n text) ((bytes_eq-Decides (take n text) bytes).0 q.1)
        ∙ ap (λ x. bytes ++ x) (end_is (drop n text) q.0))
