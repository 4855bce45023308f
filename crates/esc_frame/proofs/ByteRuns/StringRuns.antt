-- Runs of text in the bodies of strings.
use Rattle.std.proofs.Common.{ℕ, zero, suc, ◌≡◌, ◌+◌, ◌-◌, Bool, true, false, List, [], ◌∷◌, ◌++◌, length, take, drop, get_or, map, Option, ◌<◌}
use Rattle.std.proofs.Common.{refl, ap, sym, ◌∙◌, subst, append_assoc, arith, inl, inr}
use Rattle.std.specs.List.{list_all, prefix_len}
use Rattle.std.proofs.Math.Seq.{take-add}
use Rattle.std.proofs.lemmas.List.{append-nil}
use Rattle.std.proofs.lemmas.List.Concat.{flat_map-append}
use Rattle.std.proofs.lemmas.List.Elements.{filter-append}
use Rattle.std.proofs.lemmas.List.Sums.{prefix_len_stops}
use Rattle.std.proofs.lemmas.Bool.{and_parts}
use Rattle.std.proofs.lemmas.Bool.Decides.{nat_tests}
use Rattle.esc_frame.specs.declared.classes.Kind.{Kind}
use Rattle.esc_frame.specs.declared.machine.Machine.{Machine}
use Rattle.esc_frame.specs.declared.machine.State.TheVariants as state
use Rattle.esc_frame.specs.Limits.{is_read}
use Rattle.esc_frame.specs.Classes.{class_of, is_text, is_breaker, in_osc, is_put, bytes_of_class, without_noise}
use Rattle.esc_frame.specs.Machine.Characters.{IsCharacter, IsAhead}
use Rattle.esc_frame.specs.Events.Event.{DcsPut}
use Rattle.esc_frame.specs.Scans.{is_text_byte, is_data_byte}
use Rattle.esc_frame.specs.Segments.{Opener, OscUnit, text_of, kept_of}
use Rattle.esc_frame.specs.Segments.OscUnit.{One, Sequence}
use Rattle.esc_frame.specs.Leads.{Unfinished, Holds}
use Rattle.esc_frame.specs.Leads.Unfinished.{InData, InApc, InIgnored, InOsc}
use Rattle.esc_frame.specs.Machine.Moves.{move_inside, goes_on, after_by, events_by, after_all, events_all}
use Rattle.esc_frame.specs.Machine.TextRuns.{IsTextRun}
use Rattle.esc_frame.proofs.ByteRuns.ManyBytes.{quiet_run, text_class, run_passes, osc_sequence, tail_is}
use Rattle.esc_frame.proofs.Steps.StateIsKnown.{IsIn, known_in}
use Rattle.esc_frame.proofs.Emits.EventsAreTheCuts.{after_append, events_append}

-- ---- an operating system command

-- 20-7F breaks nothing off, and is a unit of an OSC
text_byte : (b : ℕ) → is_text_byte b ≡ true → (is_breaker (class_of b) ≡ false)
    × (in_osc (class_of b) ≡ true)
unfolding class_of
text_byte b h = (grind (arith, nat_tests), grind (arith, nat_tests))

osc_text : (limit : Option ℕ) (o : Opener) (ps : List OscUnit) (ys : List ℕ)
    → list_all is_text_byte ys ≡ true
    → (after_all (InOsc o ps) ys ≡ InOsc o (ps ++ map One ys))
    × (events_all limit (InOsc o ps) ys ≡ [])
osc_text limit o ps [] h = (ap (InOsc o) (sym (append-nil ps)), refl)
osc_text limit o ps (b ∷ ys) h =
    let k = and_parts (is_text_byte b) (list_all is_text_byte ys) h in
    let q = osc_text limit o (ps ++ One b ∷ []) ys k.1 in let p = text_byte b k.0 in
    rw (p.0, p.1, after_by, events_by, move_inside, goes_on) (
      q.0
          ∙ ap (InOsc o) (append_assoc ps (One b ∷ []) (map One ys)),
      q.1,
    )

text_kept : (ys : List ℕ) → list_all is_text_byte ys ≡ true → text_of (map One ys) ≡ ys
text_kept [] h = refl
text_kept (b ∷ ys) h = let k = and_parts (is_text_byte b) (list_all is_text_byte ys) h in
    rw (text_class b k.0) (ap (λ zs. b ∷ zs) (text_kept ys k.1))

pub no_run : IsTextRun []
no_run = ([], refl, λ limit o ps. (ap (InOsc o) (sym (append-nil ps)), refl))

-- 20-7F
pub text_is_run : (ys : List ℕ) → list_all is_text_byte ys ≡ true → IsTextRun ys
text_is_run ys h = (map One ys, text_kept ys h, λ limit o ps. osc_text limit o ps ys h)

-- a whole sequence
pub character_is_run : (x : List ℕ) (c : ℕ) → IsCharacter x c → IsTextRun x
character_is_run x c (s, p, k) =
    (Sequence x ∷ [], append-nil x, λ limit o ps. osc_sequence limit o ps x s p)

pub runs_append : (x y : List ℕ) → IsTextRun x → IsTextRun y → IsTextRun (x ++ y)
runs_append x y (qs, t, f) (rs, v, g) = (
  qs ++ rs,
  flat_map-append kept_of qs rs ∙ ap (λ z. z ++ text_of rs) t ∙ ap (λ z. x ++ z) v,
  λ limit o ps.
      let a = f limit o ps in
      let b = g limit o (ps ++ qs) in (
        after_append (InOsc o ps) x y ∙ ap (λ u. after_all u y) a.0 ∙ b.0
            ∙ ap (InOsc o) (append_assoc ps qs rs),
        events_append limit (InOsc o ps) x y
            ∙ ap (λ es. es ++ events_all limit (after_all (InOsc o ps) x) y) a.1
            ∙ ap (λ u. events_all limit u y) a.0 ∙ b.1,
      ),
)

pub all_pass : (p : ℕ → Bool) (rest : List ℕ) (n : ℕ) → n ≡ prefix_len p rest
    → list_all p (take n rest) ≡ true
all_pass p rest n e = subst (λ k. list_all p (take k rest) ≡ true) (sym e) (run_passes p rest)

pub prefix_passes : (rest : List ℕ) (n : ℕ) → n ≡ prefix_len is_text_byte rest
    → list_all is_text_byte (take n rest) ≡ true
prefix_passes = all_pass is_text_byte

pub prefix_is_run : (rest : List ℕ) (n : ℕ) → n ≡ prefix_len is_text_byte rest
    → IsTextRun (take n rest)
prefix_is_run rest n e = text_is_run (take n rest) (prefix_passes rest n e)

pub ahead_is_run : (rest : List ℕ) (n c : ℕ) → IsAhead rest n c → IsTextRun (take n rest)
ahead_is_run rest zero c h = no_run
ahead_is_run rest (suc n) c h = let k = h (omega arith) in
    character_is_run (take (suc n) rest) c k.1

-- a run, and one in the slice after it
pub run_more : (rest : List ℕ) (i n : ℕ) → IsTextRun (take i rest)
    → IsTextRun (take n (take (length rest - i) (drop i rest))) → IsTextRun (take (i + n) rest)
run_more rest i n f g =
    subst IsTextRun (ap (λ y. take i rest ++ take n y) (tail_is rest i) ∙ sym (take-add i n rest))
    (runs_append (take i rest) (take n (take (length rest - i) (drop i rest))) f g)

-- where no byte of text is taken none comes first
pub no_text_first : (bytes : List ℕ) (n : ℕ) → n ≡ prefix_len is_text_byte bytes → n ≡ 0
    → 0 < length bytes → is_text_byte (get_or bytes 0 0) ≡ false
no_text_first bytes n e z l =
    let none : prefix_len is_text_byte bytes ≡ 0 = sym e ∙ z in
    subst (λ k. is_text_byte (get_or bytes k 0) ≡ false) none
    (prefix_len_stops is_text_byte bytes 0 (subst (λ k. k < length bytes) (sym none) l))

-- the text is kept with the run
pub run_text : {x : List ℕ} (ps : List OscUnit) (run : IsTextRun x)
    → text_of ps ++ x ≡ text_of (ps ++ run.0)
run_text ps (qs, t, f) = ap (λ z. text_of ps ++ z) (sym t) ∙ sym (flat_map-append kept_of ps qs)

-- ---- the strings that a breaker ends

pub apc_text : (limit : Option ℕ) (o : Opener) (d ys : List ℕ) → list_all is_text_byte ys ≡ true
    → (after_all (InApc o d) ys ≡ InApc o (d ++ ys)) × (events_all limit (InApc o d) ys ≡ [])
apc_text limit o =
    quiet_run limit (InApc o) is_text_byte (λ d b h. rw ((text_byte b h).0, move_inside) refl)

those_text : (ys : List ℕ) → list_all is_text_byte ys ≡ true → bytes_of_class is_text ys ≡ ys
those_text [] h = refl
those_text (b ∷ ys) h = let k = and_parts (is_text_byte b) (list_all is_text_byte ys) h in
    rw (text_class b k.0) (ap (λ zs. b ∷ zs) (those_text ys k.1))

pub apc_kept : (d ys : List ℕ) → list_all is_text_byte ys ≡ true
    → bytes_of_class is_text (d ++ ys) ≡ bytes_of_class is_text d ++ ys
apc_kept d ys h = filter-append (λ b. is_text (class_of b)) d ys
    ∙ ap (λ y. bytes_of_class is_text d ++ y) (those_text ys h)

-- ---- the data of a device control string

-- 20-7E is given
data_byte : (b : ℕ) → is_data_byte b ≡ true → (is_breaker (class_of b) ≡ false)
    × (is_put (class_of b) ≡ true)
unfolding class_of
data_byte b h = (grind (arith, nat_tests), grind (arith, nat_tests))

pub data_text : (limit : Option ℕ) (o : Opener) (x : List ℕ) (f : ℕ) (d ys : List ℕ)
    → is_read limit (without_noise x) ≡ true → list_all is_data_byte ys ≡ true
    → (after_all (InData o x f d) ys ≡ InData o x f (d ++ ys))
    × (events_all limit (InData o x f d) ys ≡ map DcsPut ys)
data_text limit o x f d [] e h = (ap (InData o x f) (sym (append-nil d)), refl)
data_text limit o x f d (b ∷ ys) e h =
    let k = and_parts (is_data_byte b) (list_all is_data_byte ys) h in
    let q = data_text limit o x f (d ++ b ∷ []) ys e k.1 in
    let p = data_byte b k.0 in
    rw (
      e,
      p.0,
      p.1,
      after_by,
      events_by,
      move_inside,
      goes_on,
    ) (
      q.0 ∙ ap (InData o x f) (append_assoc d (b ∷ []) ys),
      ap (λ es. DcsPut b ∷ es) q.1,
    )

-- ---- ignored strings

skip_data : (limit : Option ℕ) (o : Opener) (x : List ℕ) (f : ℕ) (d ys : List ℕ)
    → is_read limit (without_noise x) ≡ false → list_all is_text_byte ys ≡ true
    → (after_all (InData o x f d) ys ≡ InData o x f (d ++ ys))
    × (events_all limit (InData o x f d) ys ≡ [])
skip_data limit o x f d ys e = quiet_run limit (InData o x f) is_text_byte (λ d b h.
    rw (e, (text_byte b h).0, move_inside, goes_on) refl) d ys

skip_ignored : (limit : Option ℕ) (i : Kind) (o : Opener) (d ys : List ℕ)
    → list_all is_text_byte ys ≡ true
    → (after_all (InIgnored i o d) ys ≡ InIgnored i o (d ++ ys))
    × (events_all limit (InIgnored i o d) ys ≡ [])
skip_ignored limit i o =
    quiet_run limit (InIgnored i o) is_text_byte (λ d b h. rw ((text_byte b h).0, move_inside) refl)

-- ---- the machine after a run, by its state

module _ {K A : Type 0} (keeps : Option ℕ → K → List ℕ
    → Type 0) (limit : Option ℕ) (m : Machine K A) (ys : List ℕ) (p : list_all is_text_byte ys
    ≡ true) where
  pub skip_holds : (u : Unfinished) → m.state ≡ state.Ignored → Holds keeps limit m u
      → Holds keeps limit m (after_all u ys) × (events_all limit u ys ≡ [])
  skip_holds u s h = skips (known_in keeps limit m state.Ignored u s h)
    where
      skips : IsIn keeps limit m state.Ignored u
          → Holds keeps limit m (after_all u ys) × (events_all limit u ys ≡ [])
      skips (inl (o, x, f, d, e, r)) = let q = skip_data limit o x f d ys r p in
          rw (e, q.0, q.1) (rw (r, s) refl, refl)
      skips (inr (k, o, d, e)) = let q = skip_ignored limit k o d ys p in rw (e, q.0, q.1) (s, refl)

pub data_holds : {K A : Type 0} (keeps : Option ℕ → K → List ℕ
    → Type 0) (limit : Option ℕ) (m : Machine K A) (ys : List ℕ) → list_all is_data_byte ys ≡ true
    → (u : Unfinished) → m.state ≡ state.Data
    → Holds keeps limit m u → Holds keeps limit m (after_all u ys)
    × (events_all limit u ys ≡ map DcsPut ys)
data_holds keeps limit m ys p u s h =
    let i = known_in keeps limit m state.Data u s h in
    let q = data_text limit i.0 i.1 i.2 i.3 ys i.5 p in
    rw (i.4, q.0, q.1) (rw (i.5, s) refl, refl)
