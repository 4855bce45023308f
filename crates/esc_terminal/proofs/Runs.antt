-- A run of characters is what each of them, one after another, does.
use Rattle.std.proofs.Common.{ℕ, suc, ◌≡◌, ◌<◌, ◌≤◌, true, false, Result, Ok, Err, OnErr, inl, inr, Bool, List, [], ◌∷◌, ◌++◌, length, map, take, drop, get_or, refl, ap, sym, subst, ◌∙◌, append-nil, if◌then◌else◌, arith}
use Rattle.std.specs.List.{FoldsTo, list_all}
use Rattle.std.specs.VecDeque.{deque_with_items}
use Rattle.std.proofs.lemmas.Bool.{and_parts, true≢false}
use Rattle.std.proofs.lemmas.Bool.Decides.{nat_tests}
use Rattle.std.proofs.Math.Seq.{take-append_seam}
use Rattle.memchr.specs.Find.{is_byte}
use Rattle.fallible_alloc.specs.Refusals.{Refused}
use Rattle.unicode_width.specs.Width.{char_width}
use Rattle.esc_values.specs.declared.csi_param.CsiParam.{CsiParam}
use Rattle.esc_frame.specs.Scans.{is_text_byte}
use Rattle.esc_sequences.specs.Csis.{CsiValue, csi_of, unspecified}
use Rattle.esc_sequences.specs.declared.csi.CSI.TheVariants as csi_variant
use Rattle.esc_actions.specs.Values.{csi, value_of}
use Rattle.esc_actions.specs.declared.action.Action.{Action}
use Rattle.esc_actions.specs.declared.action.Action.TheVariants as action
use Rattle.esc_parse.specs.Given.{By, StopsAt}
use Rattle.esc_screen.specs.Printing.{narrow_printed}
use Rattle.esc_screen.specs.Screens.{Becomes, grid_of, size_of}
use Rattle.esc_screen.specs.Steps.{grid_from}
use Rattle.esc_screen.specs.declared.step.Step.TheVariants as step
use Rattle.esc_terminal.specs.Fed.{Takes, TakesSequence, known_in, names_in, requests_in}
use Rattle.esc_terminal.specs.Kept.{has_column}
use Rattle.esc_terminal.specs.Steps.{print_step, width_step}
use Rattle.esc_terminal.specs.declared.state.State.{State}
use Rattle.esc_terminal.proofs.Kept.{kept_narrow}

pub step_is : (c : ℕ) → has_column c ≡ true → print_step c ≡ step.Print c
step_is c h = ap (λ b. if b then step.Print c else width_step c (char_width false c)) h

-- with a character more on the screen
abbrev one_more : {A : Type 0} → ℕ → State A → State A
one_more c p =
    let h = narrow_printed (size_of p.screen) c (grid_of p.screen) in
    record p {
      screen = record (p.screen) {
        rows = deque_with_items p.screen.rows h.rows;
        cursor = h.cursor;
      };
    }

refilled : {X : Type 0} (n : ℕ) (xs ws : List X) → length ws ≡ n
    → take n (ws ++ drop (length ws) xs) ≡ ws
refilled n xs ws e =
    ap (λ k. take k (ws ++ drop (length ws) xs)) (sym e)
    ∙ take-append_seam ws (drop (length ws) xs)

one_grid : {A : Type 0} (c : ℕ) (p : State A) → grid_of (one_more c p).screen
    ≡ narrow_printed (size_of p.screen) c (grid_of p.screen)
one_grid c p =
    let g = grid_of p.screen in
    let h = narrow_printed (size_of p.screen) c g in
    let k = kept_narrow (size_of p.screen) c g in
    ap (λ x. record g { rows = x; cursor = h.cursor })
    (refilled p.screen.rows.len p.screen.rows.items h.rows (k.count ∙ sym p.screen.rows.ok.0))
    ∙ sym k.rest

first_taken : {A : Type 0} (c : ℕ) (p q : State A) → has_column c ≡ true
    → Becomes p.screen (narrow_printed (size_of p.screen) c (grid_of p.screen)) q.screen
    → known_in q ≡ known_in p → names_in q ≡ names_in p → requests_in q ≡ requests_in p
    → Takes p (action.Print c) q
first_taken c p q shown b known names requests = record {
  screen = subst
      (λ x. Becomes p.screen (grid_from (size_of p.screen) (grid_of p.screen) (x ∷ [])) q.screen)
      (sym (step_is c shown)) b;
  known = known;
  names = names;
  requests = requests ∙ sym (append-nil (requests_in p));
}

pub run_taken : {A : Type 0} (cs : List ℕ) (p q : State A) → list_all has_column cs ≡ true
    → 0 < length cs
    → Becomes p.screen (grid_from (size_of p.screen) (grid_of p.screen) (map step.Print cs))
    q.screen
    → known_in q ≡ known_in p → names_in q ≡ names_in p → requests_in q ≡ requests_in p
    → FoldsTo Takes p (map action.Print cs) q
run_taken [] p q shown some b known names requests = absurd (omega (arith, some))
run_taken (c ∷ []) p q shown some b known names requests =
    let k = and_parts (has_column c) true shown in
    (q, first_taken c p q k.0 b known names requests, refl)
run_taken (c ∷ d ∷ cs) p q shown some b known names requests =
    let k = and_parts (has_column c) (list_all has_column (d ∷ cs)) shown in
    let j = one_more c p in
    let is = one_grid c p in (
      j,
      first_taken c p j k.0 (record {
        grid = is;
        size = refl;
      }) refl refl refl,
      run_taken (d ∷ cs) j q k.1 (omega arith)
          (record {
            grid = b.grid
                ∙ ap (λ z. grid_from (size_of p.screen) z (map step.Print (d ∷ cs))) (sym is);
            size = b.size;
          }) known names requests,
    )

-- ---- no DEL

column_if : (c : ℕ) → is_text_byte c ≡ true → (is_byte 0x7f c ≡ true → ⊥) → has_column c ≡ true
column_if c t h = grind (arith, nat_tests)

pub all_columns : (x : List ℕ) → list_all is_text_byte x ≡ true
    → ((k : ℕ) → 0 ≤ k → k < length x → is_byte 0x7f (get_or x k 0) ≡ true → ⊥)
    → list_all has_column x ≡ true
all_columns [] t h = refl
all_columns (b ∷ x) t h =
    let k = and_parts (is_text_byte b) (list_all is_text_byte x) t in
    rw (column_if b k.0 (h 0 (omega arith) (omega arith)))
    (all_columns x k.1 (λ k l m. h (suc k) (omega arith) (omega (arith, m))))

-- ---- sequences

-- the action is this control sequence
abbrev pub IsSequence : {A : Type 0} → Action A → CsiValue → Type 0
IsSequence a c = value_of a ≡ csi c

-- a sequence that is one value has the effect of the value
pub sequence_taken : {A : Type 0} (p q : State A) (es : List CsiParam) (truncated : Bool) (f : ℕ)
    → truncated ≡ false → csi_of es truncated f ≡ unspecified es truncated f ∷ []
    → TakesSequence p (unspecified es false f) q
    → FoldsTo (By (IsSequence {A = A}) Takes) p (csi_of es truncated f) q
sequence_taken {A} p q es false f t is does =
    subst (λ vs. FoldsTo (By (IsSequence {A = A}) Takes) p vs q) (sym is)
    (q, (one, refl, does), refl)
  where
    one : Action A
    one = action.CSI (csi_variant.Unspecified
        (record { params = es; parameters_truncated = false; control = f }))
sequence_taken {A} p q es true f t is does = absurd (true≢false t)

pub sequence_refused : {A : Type 0} (p q : State A) (es : List CsiParam) (truncated : Bool) (f : ℕ)
    → csi_of es truncated f ≡ unspecified es truncated f ∷ [] → Refused A
    → StopsAt ⊥ (By (IsSequence {A = A}) Takes) (By (IsSequence {A = A}) (λ p a q. Refused A)) p
    (csi_of es truncated f) q
sequence_refused {A} p q es truncated f is r =
    subst
    (λ vs. StopsAt ⊥ (By (IsSequence {A = A}) Takes)
    (By (IsSequence {A = A}) (λ p a q. Refused A)) p vs q)
    (sym is)
    (inr (inl (one, refl, r)))
  where
    one : Action A
    one = action.CSI (csi_variant.Unspecified
        (record { params = es; parameters_truncated = truncated; control = f }))

-- ---- results

pub err_any : {U E X : Type 0} (r : Result U E) → X → OnErr r X
err_any (Ok u) x = tt
err_any (Err e) x = x
