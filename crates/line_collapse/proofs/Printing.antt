-- The text that is printed.
use Rattle.std.proofs.Common.{ℕ, zero, suc, ◌≡◌, ◌+◌, ◌<◌, Bool, true, ◌&&◌, nat_le, nat_lt, List, [], ◌∷◌, ◌++◌, Some, length, map, inl, inr, refl, sym, ap, ◌∙◌, subst, arith}
use Rattle.std.specs.Char.{len_utf8}
use Rattle.std.specs.List.{FoldsTo, list_all, sum_by}
use Rattle.std.proofs.lemmas.Bool.{and_parts}
use Rattle.std.proofs.lemmas.Bool.Decides.{nat_tests}
use Rattle.std.proofs.lemmas.Str.{len_utf8_ascii}
use Rattle.esc_actions.proofs.Meaning.MeaningsJoin.{meaning_more, meaning_nil}
use Rattle.esc_actions.specs.Meaning.{yield_within}
use Rattle.esc_actions.specs.Values.{Value, value_of}
use Rattle.esc_actions.specs.declared.action.Action.{Action}
use Rattle.esc_actions.specs.declared.action.Action.TheVariants as action
use Rattle.esc_frame.specs.Scans.{IsRun, is_text_byte}
use Rattle.esc_parse.specs.Given.{At, StopsAt}
use Rattle.line_collapse.specs.Amounts.{Adds, amount_with, amount}
use Rattle.line_collapse.specs.PrintedText.{bytes_of, chars_of, printed_bytes, printed_chars, values_of}
use Rattle.line_collapse.specs.Tallies.{Prints, printed_amount}
use Rattle.line_collapse.specs.declared.amount.Amount.{Amount}
use Rattle.line_collapse.specs.declared.printed.Printed.{Printed}
use Rattle.line_collapse.proofs.Adding.{amount_added, both_added, list_added, none_added, one_added, sum_first}

-- ---- a run of text

abbrev pub with_more : Printed → ℕ → Printed
with_more p n = record p { amount = amount_with n n p.amount }

low : (b : ℕ) → is_text_byte b ≡ true → b < 0x80
low b h = grind (arith, nat_tests)

-- so many, and then so many more
added_twice : (n m : ℕ) (x : Amount) → amount_with m m (amount_with n n x)
    ≡ amount_with (n + m) (n + m) x
added_twice n m x =
    amount_added (x.chars + n) (x.bytes + n) m m
    ∙ ap (λ k. amount k ((x.bytes + n) + m)) (omega arith)
    ∙ ap (amount (x.chars + (n + m))) (omega arith)

one_printed : (A : Type 0) (p : Printed) (b : ℕ) → is_text_byte b ≡ true
    → Prints {A = A} p (action.Print b) (with_more p 1)
one_printed A p b text =
    ap (λ n. record p { amount = amount_with 1 n p.amount }) (sym (len_utf8_ascii b (low b text)))

run_printed : (A : Type 0) (p : Printed) (b : ℕ) (bs : List ℕ)
    → list_all is_text_byte (b ∷ bs) ≡ true
    → FoldsTo (Prints {A = A}) p (map action.Print (b ∷ bs)) (with_more p (length (b ∷ bs)))
run_printed A p b [] all =
    (with_more p 1, one_printed A p b (and_parts (is_text_byte b) true all).0, refl)
run_printed A p b (c ∷ bs) all =
    let h = and_parts (is_text_byte b) (list_all is_text_byte (c ∷ bs)) all in
    let same : with_more (with_more p 1) (length (c ∷ bs)) ≡ with_more p (length (b ∷ c ∷ bs)) =
    ap (λ x. record p { amount = x }) (added_twice 1 (length (c ∷ bs)) p.amount)
    ∙ ap (with_more p) (omega arith) in (
      with_more p 1,
      one_printed A p b h.0,
      subst (λ q. FoldsTo (Prints {A = A}) (with_more p 1) (map action.Print (c ∷ bs)) q) same
          (run_printed A (with_more p 1) c bs h.1),
    )

pub text_printed : (A : Type 0) (p q : Printed) (t : List ℕ) → IsRun is_text_byte t
    → q ≡ record p { amount = amount_with (length t) (length t) p.amount }
    → FoldsTo (Prints {A = A}) p (map action.Print t) q
text_printed A p q [] run is = absurd (omega (arith, run.some))
text_printed A p q (b ∷ bs) run is =
    subst (FoldsTo (Prints {A = A}) p (map action.Print (b ∷ bs))) (sym is)
    (run_printed A p b bs run.all)

-- ---- values

-- the sizes stay, and the amount grows
abbrev pub Grows : {A : Type 0} → Printed → List (Value A) → Printed → Type 0
Grows p vs q = (q.rows ≡ p.rows) × (q.columns ≡ p.columns)
    × Adds (printed_chars p.rows p.columns vs) (printed_bytes vs) p.amount q.amount

one_grown : {A : Type 0} (p : Printed) (a : Action A) (q : Printed) (v : Value A)
    → value_of a ≡ v → Prints p a q
    → (q.rows ≡ p.rows) × (q.columns ≡ p.columns)
    × Adds (chars_of p.rows p.columns v) (bytes_of v) p.amount q.amount
one_grown p a q v is h = (
  ap (λ x. x.rows) h,
  ap (λ x. x.columns) h,
  subst (λ w. Adds (chars_of p.rows p.columns w) (bytes_of w) p.amount q.amount) is
      (one_added _ _ p.amount q.amount (ap (λ x. x.amount) h)),
)

pub all_grown : {A : Type 0} (p : Printed) (vs : List (Value A)) (q : Printed)
    → FoldsTo (At value_of Prints) p vs q → Grows p vs q
all_grown p [] q e = (
  ap (λ x. x.rows) (sym e),
  ap (λ x. x.columns) (sym e),
  subst (λ x. Adds 0 0 p.amount x.amount) e (none_added p.amount),
)
all_grown p (v ∷ vs) q (j, (a, is, w), rest) =
    let one = one_grown p a j v is w in
    let more = all_grown j vs q rest in (
      more.0 ∙ one.0,
      more.1 ∙ one.1,
      subst (λ n. Adds n (printed_bytes (v ∷ vs)) p.amount q.amount)
          (sum_first (chars_of p.rows p.columns) v vs)
          (subst (λ n. Adds (chars_of p.rows p.columns v + printed_chars p.rows p.columns vs) n
          p.amount q.amount)
          (sum_first bytes_of v vs)
          (both_added (chars_of p.rows p.columns v) (bytes_of v) (printed_chars p.rows p.columns vs)
          (printed_bytes vs) p.amount j.amount q.amount one.2
          (subst (λ n. Adds (printed_chars p.rows n vs) (printed_bytes vs) j.amount q.amount)
          one.1
          (subst (λ n. Adds (printed_chars n j.columns vs) (printed_bytes vs) j.amount q.amount)
          one.0 more.2)))),
    )

-- ---- streams

-- at the beginning
pub nothing_printed : (A : Type 0) (rows columns : ℕ) (x : Amount) → x ≡ amount 0 0
    → x ≡ printed_amount A rows columns []
nothing_printed A rows columns x e =
    e ∙ sym (ap (λ vs. amount (printed_chars rows columns vs) (printed_bytes vs))
    (meaning_nil {A = A} (Some 0x1000)))

-- bytes more of a stream
pub stream_printed : (A : Type 0) (rows columns : ℕ) (s b : List ℕ) (p q : Printed)
    → p.rows ≡ rows → p.columns ≡ columns → p.amount ≡ printed_amount A rows columns s
    → FoldsTo (At value_of Prints) p (yield_within {A = A} (Some 0x1000) s b) q
    → (q.rows ≡ rows) × (q.columns ≡ columns)
    × (q.amount ≡ printed_amount A rows columns (s ++ b))
stream_printed A rows columns s b p q height width old f =
    let vs = yield_within {A = A} (Some 0x1000) s b in
    let g = all_grown p vs q f in
    let at : Adds (printed_chars rows columns vs) (printed_bytes vs) p.amount q.amount =
    subst (λ n. Adds (printed_chars rows n vs) (printed_bytes vs) p.amount q.amount) width
    (subst (λ n. Adds (printed_chars n p.columns vs) (printed_bytes vs) p.amount q.amount)
    height g.2) in (
      g.0 ∙ height,
      g.1 ∙ width,
      list_added (chars_of rows columns) bytes_of (values_of A s) vs p.amount q.amount old at
          ∙ ap (λ us. amount (printed_chars rows columns us) (printed_bytes us))
          (meaning_more {A = A} (Some 0x1000) s b),
    )

-- a giver that stops was refused memory
pub stops_refused : {A : Type 0} (own why : Type 0) → (own → why) → (p : Printed)
    (vs : List (Value A)) (q : Printed)
    → StopsAt own (At value_of Prints) (At value_of (λ (x : Printed) (a : Action A) y. ⊥)) p vs q
    → why
stops_refused own why k p [] q e = k e.0
stops_refused own why k p (v ∷ vs) q (inl e) = k e.0
stops_refused own why k p (v ∷ vs) q (inr (inl (a, is, w))) = absurd w
stops_refused own why k p (v ∷ vs) q (inr (inr (mid, t, rest))) =
    stops_refused own why k mid vs q rest
