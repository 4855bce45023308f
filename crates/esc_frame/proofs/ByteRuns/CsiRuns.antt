-- Runs in the body of a control sequence.
use Rattle.std.proofs.Common.{ℕ, ◌≡◌, ◌+◌, ◌-◌, ◌≤◌, true, false, not, List, [], ◌∷◌, ◌++◌, length, take, drop, get_or, refl, ap, sym, ◌∙◌, arith, Option}
use Rattle.std.specs.List.{list_all}
use Rattle.std.proofs.Math.Seq.{take-add}
use Rattle.std.proofs.lemmas.List.Elements.{filter-append}
use Rattle.std.proofs.lemmas.List.Folds.{list_all-append}
use Rattle.std.proofs.lemmas.Bool.{and_parts}
use Rattle.std.proofs.lemmas.Bool.Decides.{nat_tests}
use Rattle.esc_frame.specs.declared.classes.Class.TheVariants.{Introducer, Breaks}
use Rattle.esc_frame.specs.declared.classes.Breaker.TheVariants.{Escape}
use Rattle.esc_frame.specs.declared.classes.Kind.TheVariants as kind
use Rattle.esc_frame.specs.Classes.{class_of, is_breaker, is_noise, is_c0, in_csi, without_noise}
use Rattle.esc_frame.specs.Scans.{is_body_byte}
use Rattle.esc_frame.specs.Segments.{Opener, csi_events}
use Rattle.esc_frame.specs.Segments.Opener.{Long}
use Rattle.esc_frame.specs.Leads.Unfinished.{Ground, InCsi, InOsc}
use Rattle.esc_frame.specs.Machine.Moves.{move_inside, goes_on, noise, after_all, events_all}
use Rattle.esc_frame.proofs.ByteRuns.ManyBytes.{quiet_run, tail_is}

body_byte : (b : ℕ) → is_body_byte b ≡ true
    → (is_breaker (class_of b) ≡ false) × (in_csi (class_of b) ≡ true)
    × (is_c0 (class_of b) ≡ false) × (is_noise (class_of b) ≡ false)
unfolding class_of
body_byte b h = (
  grind (arith, nat_tests),
  grind (arith, nat_tests),
  grind (arith, nat_tests),
  grind (arith, nat_tests),
)

pub body_quiet : (limit : Option ℕ) (o : Opener) (x ys : List ℕ) → list_all is_body_byte ys ≡ true
    → (after_all (InCsi o x) ys ≡ InCsi o (x ++ ys)) × (events_all limit (InCsi o x) ys ≡ [])
body_quiet limit o = quiet_run limit (InCsi o) is_body_byte (λ d b h. let p = body_byte b h in
    rw (p.0, p.1, p.2, move_inside, goes_on, noise) refl)

body_alone : (ys : List ℕ) → list_all is_body_byte ys ≡ true → without_noise ys ≡ ys
body_alone [] h = refl
body_alone (b ∷ ys) h =
    let k = and_parts (is_body_byte b) (list_all is_body_byte ys) h in
    rw (body_byte b k.0).3 (ap (λ zs. b ∷ zs) (body_alone ys k.1))

pub body_strip : (x ys : List ℕ) → list_all is_body_byte ys ≡ true → without_noise (x ++ ys)
    ≡ without_noise x ++ ys
body_strip x ys h = filter-append (λ b. not (is_noise (class_of b))) x ys
    ∙ ap (λ y. without_noise x ++ y) (body_alone ys h)

-- ---- ESC [ and ESC ]

pub escape_class : class_of 0x1b ≡ (Breaks Escape)
unfolding class_of
escape_class = refl

csi_class : class_of 0x5b ≡ Introducer kind.Csi
unfolding class_of
csi_class = refl

osc_class : class_of 0x5d ≡ Introducer kind.Osc
unfolding class_of
osc_class = refl

-- the first two bytes of a list
two_first : (rest : List ℕ) (a b : ℕ) → 2 ≤ length rest → get_or rest 0 0 ≡ a → get_or rest 1 0 ≡ b
    → take 2 rest ≡ a ∷ b ∷ []
two_first [] a b h p q = absurd (omega arith)
two_first (x ∷ []) a b h p q = absurd (omega arith)
two_first (x ∷ y ∷ r) a b h p q = ap (λ z. z ∷ y ∷ []) p ∙ ap (λ z. a ∷ z ∷ []) q

csi_begins : (limit : Option ℕ) → (after_all Ground (0x1b ∷ 0x5b ∷ []) ≡ InCsi (Long []) [])
    × (events_all limit Ground (0x1b ∷ 0x5b ∷ []) ≡ [])
csi_begins limit = rw (escape_class, csi_class) (refl, refl)

osc_begins : (limit : Option ℕ) → (after_all Ground (0x1b ∷ 0x5d ∷ []) ≡ InOsc (Long []) [])
    × (events_all limit Ground (0x1b ∷ 0x5d ∷ []) ≡ [])
osc_begins limit = rw (escape_class, osc_class) (refl, refl)

pub csi_opens : (limit : Option ℕ) (rest : List ℕ) → 2 ≤ length rest → get_or rest 0 0 ≡ 0x1b
    → get_or rest 1 0 ≡ 0x5b
    → (after_all Ground (take 2 rest) ≡ InCsi (Long []) [])
    × (events_all limit Ground (take 2 rest) ≡ [])
csi_opens limit rest h p q = let e = two_first rest 0x1b 0x5b h p q in (
  ap (after_all Ground) e ∙ (csi_begins limit).0,
  ap (events_all limit Ground) e ∙ (csi_begins limit).1,
)

pub osc_opens : (limit : Option ℕ) (rest : List ℕ) → 2 ≤ length rest → get_or rest 0 0 ≡ 0x1b
    → get_or rest 1 0 ≡ 0x5d
    → (after_all Ground (take 2 rest) ≡ InOsc (Long []) [])
    × (events_all limit Ground (take 2 rest) ≡ [])
osc_opens limit rest h p q = let e = two_first rest 0x1b 0x5d h p q in (
  ap (after_all Ground) e ∙ (osc_begins limit).0,
  ap (events_all limit Ground) e ∙ (osc_begins limit).1,
)

-- ---- the final byte

pub final_byte : (b : ℕ) → 0x40 ≤ b → b ≤ 0x7e → (is_breaker (class_of b) ≡ false)
    × (in_csi (class_of b) ≡ false)
unfolding class_of
final_byte b l h = (grind (arith, nat_tests), grind (arith, nat_tests))

pub final_by : (limit : Option ℕ) (o : Opener) (x : List ℕ) (b : ℕ) → 0x40 ≤ b → b ≤ 0x7e
    → move_inside limit (InCsi o x) b (class_of b) ≡ (Ground, csi_events (without_noise x) b)
final_by limit o x b l h = let p = final_byte b l h in rw (p.0, p.1, goes_on) refl

-- a run, and one in the slice after it
pub run_joins : (rest : List ℕ) (i n : ℕ)
    → take i rest ++ take n (take (length rest - i) (drop i rest)) ≡ take (i + n) rest
run_joins rest i n = ap (λ y. take i rest ++ take n y) (tail_is rest i) ∙ sym (take-add i n rest)

pub passes_more : (rest : List ℕ) (i n : ℕ) → list_all is_body_byte (take i rest) ≡ true
    → list_all is_body_byte (take n (take (length rest - i) (drop i rest))) ≡ true
    → list_all is_body_byte (take (i + n) rest) ≡ true
passes_more rest i n h k =
    ap (list_all is_body_byte) (sym (run_joins rest i n))
    ∙ list_all-append is_body_byte (take i rest) (take n (take (length rest - i) (drop i rest)))
    ∙ rw (h, k) refl
