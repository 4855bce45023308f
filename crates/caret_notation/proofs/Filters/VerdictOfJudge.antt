-- The verdict of a judge of actions.
use Rattle.std.proofs.Common.{ℕ, ◌≡◌, ◌+◌, ◌&&◌, ◌||◌, ◌==◌, not, Bool, true, false, if◌then◌else◌, List, [], ◌∷◌, ◌++◌, length, map, Option, Some, None, Result, Ok, Err, OnErr, arith, refl, ap, sym, ◌∙◌, subst, inl, inr}
use Rattle.std.specs.Prelude.{unwrap_or}
use Rattle.std.specs.List.{FoldsTo, count_by, list_all, list_any, slice_split}
use Rattle.std.proofs.lemmas.Bool.{and_parts}
use Rattle.std.proofs.lemmas.List.Splits.{length-slice_split}
use Rattle.esc_actions.proofs.Meaning.MeaningsJoin.{meaning_more}
use Rattle.esc_actions.specs.ControlCodes.{code_of}
use Rattle.esc_actions.specs.Meaning.{meaning_within, mode_from, values_from, yield_within}
use Rattle.esc_actions.specs.Texts.{is_string}
use Rattle.esc_actions.specs.Values.{Value, control, csi, control_values, osc, plain, value_of}
use Rattle.esc_actions.specs.Writable.{is_truncated}
use Rattle.esc_actions.specs.declared.action.Action.{Action}
use Rattle.esc_actions.specs.declared.control_code.ControlCode.{ControlCode}
use Rattle.esc_actions.specs.declared.action.Action.TheVariants as action
use Rattle.esc_filter.proofs.Renditions.SequencesFromParameters.{each_whole}
use Rattle.esc_filter.specs.Passing.{passes}
use Rattle.esc_filter.specs.declared.admit.Admit.{Ghosts as Admitter}
use Rattle.esc_frame.specs.Events.Event.{Execute}
use Rattle.esc_frame.specs.Stream.{HasConsumedWithin, added_within, events_within}
use Rattle.esc_frame.specs.declared.parser.VTParser.{VTParser}
use Rattle.esc_osc.specs.Reading.{meaning as command_meant}
use Rattle.esc_parse.specs.Fed.{Hooks}
use Rattle.esc_parse.specs.Given.{At, By, StopsAt}
use Rattle.esc_parse.specs.declared.performer.Performer.{Performer}
use Rattle.esc_sequences.specs.Csis.{CsiValue, csi_of, is_separator, put_first, rendition, renditions, sgr, unspecified}
use Rattle.esc_sequences.specs.declared.csi.CSI.TheVariants as csi_variant
use Rattle.esc_sequences.specs.declared.sgr.Sgr.{Sgr}
use Rattle.esc_values.specs.declared.csi_param.CsiParam.{CsiParam}
use Rattle.caret_notation.specs.Judged.{HasJudged, begun, folded_verdict, verdict_with}
use Rattle.caret_notation.specs.Revealed.{all_through, are_kept, goes_through, is_some}
use Rattle.caret_notation.specs.declared.judge.Judge.{Judge}
use Rattle.caret_notation.specs.declared.judge.Verdict.{Verdict}

-- ---- verdicts

folded_append : {A : Type 0} (admits : Value A → Bool) (k : Verdict) (vs ws : List (Value A))
    → folded_verdict admits k (vs ++ ws) ≡ folded_verdict admits (folded_verdict admits k vs) ws
folded_append admits k [] ws = refl
folded_append admits k (v ∷ vs) ws = folded_append admits (verdict_with admits k v) vs ws

folded_all : {A : Type 0} (admits : Value A → Bool) (k : Verdict) (vs : List (Value A))
    → (folded_verdict admits k vs).all ≡ (k.all && all_through admits k.follows vs)
folded_all admits k [] = by_all k.all
  where
    by_all : (b : Bool) → b ≡ (b && true)
    by_all true = refl
    by_all false = refl
folded_all admits k (v ∷ vs) =
    folded_all admits (verdict_with admits k v) vs
    ∙ assoc k.all (goes_through admits k.follows v) (all_through admits (is_string v) vs)
  where
    assoc : (a b c : Bool) → ((a && b) && c) ≡ (a && (b && c))
    assoc true b c = refl
    assoc false b c = refl

folded_true : {A : Type 0} (admits : Value A → Bool) (k : Verdict) (vs : List (Value A))
    → k.some ≡ true → (folded_verdict admits k vs).some ≡ true
folded_true admits k [] h = h
folded_true admits k (v ∷ vs) h = folded_true admits (verdict_with admits k v) vs refl

folded_some : {A : Type 0} (admits : Value A → Bool) (k : Verdict) (vs : List (Value A))
    → k.some ≡ false → (folded_verdict admits k vs).some ≡ is_some vs
folded_some admits k [] h = h
folded_some admits k (v ∷ vs) h = folded_true admits (verdict_with admits k v) vs refl

-- the verdict of a judge that was asked about nothing before
pub finds : {A : Type 0} (admits : Value A → Bool) (k : Verdict) (vs : List (Value A))
    → k ≡ folded_verdict admits begun vs → (k.some && k.all) ≡ are_kept admits vs
finds admits k vs h =
    let j = folded_verdict admits begun vs in
    ap (λ k. k.some && k.all) h
    ∙ ap (λ b. b && j.all) (folded_some admits begun vs refl)
    ∙ ap (λ b. is_some vs && b) (folded_all admits begun vs)

-- ---- the actions that a judge was given

module _ {P A : Type 0} (admits_by : P → Value A → Bool) where
  abbrev pub Asks : Judge P → Action A → Judge P → Type 0
  Asks p a q = (q.verdict ≡ verdict_with (admits_by p.policy.now) p.verdict (value_of a))
      × (q.policy.now ≡ p.policy.now)

  pub asks_all : (p : Judge P) (vs : List (Value A)) (q : Judge P)
      → FoldsTo (At value_of Asks) p vs q
      → (q.verdict ≡ folded_verdict (admits_by p.policy.now) p.verdict vs)
      × (q.policy.now ≡ p.policy.now)
  asks_all p [] q e = (ap (λ j. j.verdict) (sym e), ap (λ j. j.policy.now) (sym e))
  asks_all p (v ∷ vs) q (mid, (a, is, (e, same)), rest) =
      let k = asks_all mid vs q rest in (
        k.0
            ∙ ap (λ y. folded_verdict (admits_by y) mid.verdict vs) same
            ∙ ap (λ k. folded_verdict (admits_by p.policy.now) k vs)
            (e ∙ ap (verdict_with (admits_by p.policy.now) p.verdict) is),
        k.1 ∙ same,
      )

-- a fact about an error is one about any call
pub on_any : {T E X : Type 0} (r : Result T E) → X → OnErr r X
on_any (Ok t) x = tt
on_any (Err e) x = x

-- a receiver that refuses nothing stops only if memory was refused
pub stops_refused : {P V : Type 0} (R Q : P → V → P → Type 0) (own why : Type 0)
    → ((p : P) (v : V) (q : P) → Q p v q → ⊥) → (p : P) (vs : List V) (q : P)
    → StopsAt (own × why) R Q p vs q → why
stops_refused R Q own why never p [] q e = e.0.1
stops_refused R Q own why never p (v ∷ vs) q (inl e) = e.0.1
stops_refused R Q own why never p (v ∷ vs) q (inr (inl z)) = absurd (never p v q z)
stops_refused R Q own why never p (v ∷ vs) q (inr (inr (mid, t, rest))) =
    stops_refused R Q own why never mid vs q rest

-- ---- more of a stream

module _ {P A : Type 0} (V : Admitter P A) (limit : ℕ) where
  pub judged_first : (framer : VTParser A) (p : Performer (Judge P) A)
      → HasConsumedWithin (Some limit) [] framer → Hooks (Some limit) p.unfinished plain
      → p.sink.verdict ≡ begun → HasJudged V limit [] framer p
  unfolding events_within meaning_within
  judged_first framer p fed hooks e = record { framed = fed; hooked = hooks; judged = e }

  pub judged_more : (s b : List ℕ) (f0 f1 : VTParser A) (p q : Performer (Judge P) A)
      → HasJudged V limit s f0 p → HasConsumedWithin (Some limit) (s ++ b) f1
      → Hooks (Some limit) q.unfinished (mode_from plain (events_within (Some limit) (s ++ b)))
      → FoldsTo (At value_of (Asks V.admits)) p.sink (yield_within (Some limit) s b) q.sink
      → HasJudged V limit (s ++ b) f1 q × (q.sink.policy.now ≡ p.sink.policy.now)
  judged_more s b f0 f1 p q h fed hooks given =
      let k = asks_all V.admits p.sink (yield_within (Some limit) s b) q.sink given in
      let admits = V.admits p.sink.policy.now in (
        record {
          framed = fed;
          hooked = hooks;
          judged =
              k.0 ∙ ap (λ y. folded_verdict admits y (yield_within (Some limit) s b)) h.judged
              ∙ sym (folded_append admits begun (meaning_within (Some limit) s)
              (yield_within (Some limit) s b))
              ∙ ap (folded_verdict admits begun) (meaning_more (Some limit) s b)
              ∙ ap (λ y. folded_verdict (V.admits y) begun (meaning_within (Some limit) (s ++ b)))
              (sym k.1);
        },
        k.1,
      )

-- ---- control sequences and commands from their texts

-- there is at least one
abbrev has_first : {A : Type 0} → List A → Type 0
has_first {A = A} l = (x : A) × (xs : List A) × (l ≡ x ∷ xs)

renditions_some : (o : Option Sgr) (more : Option (List CsiValue)) (vs : List CsiValue)
    → put_first o more ≡ Some vs → has_first vs
renditions_some None more vs h = absurd cc
renditions_some (Some s) None vs h = absurd cc
renditions_some (Some s) (Some ws) vs h = let e : sgr s ∷ ws ≡ vs = cc in (sgr s, ws, sym e)

split_some : (is : List (List CsiParam)) (n : ℕ) → length is ≡ n + 1 → (vs : List CsiValue)
    → renditions is ≡ Some vs → has_first vs
split_some [] n h vs e = absurd (omega (arith, h))
split_some (i ∷ is) n h vs e = renditions_some (rendition i) (renditions is) vs e

unwrapped_some : (o : Option (List CsiValue)) (u : CsiValue)
    → ((vs : List CsiValue) → o ≡ Some vs → has_first vs) → has_first (unwrap_or o (u ∷ []))
unwrapped_some None u f = (u, [], refl)
unwrapped_some (Some vs) u f = f vs refl

csi_some : (es : List CsiParam) (f : ℕ) → has_first (csi_of es false f)
csi_some es f = by_final (f == 0x6d)
  where
    o : Option (List CsiValue)
    o = renditions (slice_split is_separator es)

    u : CsiValue
    u = unspecified es false f

    by_final : (b : Bool) → has_first (if b && not false then unwrap_or o (u ∷ []) else u ∷ [])
    by_final true = unwrapped_some o u
        (split_some (slice_split is_separator es) (count_by is_separator es)
        (length-slice_split is_separator es))
    by_final false = (u, [], refl)

module _ {A : Type 0} (admits : Value A → Bool) where
  -- whatever comes before it, it goes through, or does not
  abbrev Goes : Bool → Value A → Type 0
  Goes b v = (follows : Bool) → goes_through admits follows v ≡ b

  abbrev AllGo : Bool → List CsiValue → Type 0
  AllGo b [] = Unit {0}
  AllGo b (c ∷ cs) = Goes b (csi c) × AllGo b cs

  one_goes : (c : CsiValue) → not (is_truncated c) ≡ true → admits (csi c) ≡ true
      → Goes true (csi c)
  one_goes c w h follows = rw (w, h) refl

  one_stays : (c : CsiValue) → not (is_truncated c) ≡ true → admits (csi c) ≡ false
      → Goes false (csi c)
  one_stays c w h true = rw (w, h) refl
  one_stays c w h false = rw (w, h) refl

  all_go : (cs : List CsiValue) → list_all (λ c. not (is_truncated c)) cs ≡ true
      → list_all (λ c. admits (csi c)) cs ≡ true → AllGo true cs
  all_go [] w h = tt
  all_go (c ∷ cs) w h =
      let l = and_parts (not (is_truncated c)) (list_all (λ c. not (is_truncated c)) cs) w in
      let k = and_parts (admits (csi c)) (list_all (λ c. admits (csi c)) cs) h in
      (one_goes c l.0 k.0, all_go cs l.1 k.1)

  none_of_two : (a b : Bool) → (a || b) ≡ false → (a ≡ false) × (b ≡ false)
  none_of_two true b h = absurd cc
  none_of_two false b h = (refl, h)

  none_go : (cs : List CsiValue) → list_all (λ c. not (is_truncated c)) cs ≡ true
      → list_any (λ c. admits (csi c)) cs ≡ false → AllGo false cs
  none_go [] w h = tt
  none_go (c ∷ cs) w h =
      let l = and_parts (not (is_truncated c)) (list_all (λ c. not (is_truncated c)) cs) w in
      let k = none_of_two (admits (csi c)) (list_any (λ c. admits (csi c)) cs) h in
      (one_stays c l.0 k.0, none_go cs l.1 k.1)

  abbrev after_some : Bool → Verdict → Verdict
  after_some b k = record { some = true; all = k.all && b; follows = false }

  and_twice : (a b : Bool) → ((a && b) && b) ≡ (a && b)
  and_twice true true = refl
  and_twice true false = refl
  and_twice false b = refl

  folded_same : (b : Bool) (k : Verdict) (c : CsiValue) (cs : List CsiValue)
      → AllGo b (c ∷ cs) → folded_verdict admits k (map csi (c ∷ cs)) ≡ after_some b k
  folded_same b k c [] h = ap (λ g. record { some = true; all = k.all && g; follows = false })
      (h.0 k.follows)
  folded_same b k c (d ∷ cs) h =
      ap (λ g. folded_verdict admits (record { some = true; all = k.all && g; follows = false })
      (map csi (d ∷ cs))) (h.0 k.follows)
      ∙ folded_same b (after_some b k) d cs h.1
      ∙ ap (λ a. record { some = true; all = a; follows = false }) (and_twice k.all b)

  pub sequence_found : (b : Bool) (k : Verdict) (es : List CsiParam) (f : ℕ)
      → (b ≡ true → list_all (λ c. admits (csi c)) (csi_of es false f) ≡ true)
      → (b ≡ false → list_any (λ c. admits (csi c)) (csi_of es false f) ≡ false)
      → folded_verdict admits k (map csi (csi_of es false f)) ≡ after_some b k
  sequence_found b k es f pass stay =
      let (c, cs, e) = csi_some es f in
      ap (λ vs. folded_verdict admits k (map csi vs)) e
      ∙ folded_same b k c cs (subst (AllGo b) e (by_choice b pass stay))
    where
      by_choice : (b : Bool)
          → (b ≡ true → list_all (λ c. admits (csi c)) (csi_of es false f) ≡ true)
          → (b ≡ false → list_any (λ c. admits (csi c)) (csi_of es false f) ≡ false)
          → AllGo b (csi_of es false f)
      by_choice true pass stay = all_go (csi_of es false f) (each_whole es f) (pass refl)
      by_choice false pass stay = none_go (csi_of es false f) (each_whole es f) (stay refl)

  pub command_found : (b : Bool) (k : Verdict) (ps : List (List ℕ))
      → admits (osc (command_meant ps)) ≡ b
      → verdict_with admits k (osc (command_meant ps))
      ≡ record { some = true; all = k.all && b; follows = true }
  command_found b k ps h =
      ap (λ g. record { some = true; all = k.all && g; follows = true }) h

-- a control by itself
pub control_found : {A : Type 0} (admits : Value A → Bool) (limit : ℕ) (x : List ℕ) (b : ℕ)
    (code : ControlCode) → added_within (Some limit) [] x ≡ Execute b ∷ []
    → code_of b ≡ Some code
    → are_kept admits (meaning_within (Some limit) x) ≡ passes admits (control code)
unfolding events_within added_within meaning_within
control_found admits limit x b code e k =
    ap (λ es. are_kept admits (values_from (Some limit) plain es)) e
    ∙ ap (λ o. are_kept admits (control_values o ++ [])) k
    ∙ by_pass (passes admits (control code))
  where
    by_pass : (t : Bool) → (t && true) ≡ t
    by_pass true = refl
    by_pass false = refl

sequence_action : {A : Type 0} (c : CsiValue) → (a : Action A) × (value_of a ≡ csi c)
sequence_action (sgr s) = (action.CSI (csi_variant.Sgr s), refl)
sequence_action (unspecified es more f) = (
  action.CSI
      (csi_variant.Unspecified (record { params = es; parameters_truncated = more; control = f })),
  refl,
)

module _ {P A : Type 0} (admits_by : P → Value A → Bool) where
  abbrev pub IsSequence : Action A → CsiValue → Type 0
  IsSequence a c = value_of a ≡ csi c

  asks_each : (p : Judge P) (cs : List CsiValue)
      → FoldsTo (By IsSequence (Asks admits_by)) p cs
      (record p { verdict = folded_verdict (admits_by p.policy.now) p.verdict (map csi cs) })
  asks_each p [] = refl
  asks_each p (c ∷ cs) =
      let a = sequence_action {A = A} c in
      let mid = record p { verdict = verdict_with (admits_by p.policy.now) p.verdict (csi c) } in (
        mid,
        (
          a.0,
          a.1,
          (ap (verdict_with (admits_by p.policy.now) p.verdict) (sym a.1), refl),
        ),
        asks_each mid cs,
      )

  pub sequence_taken : (b : Bool) (p : Judge P) (es : List CsiParam) (more : Bool) (f : ℕ)
      → more ≡ false
      → (b ≡ true → list_all (λ c. admits_by p.policy.now (csi c)) (csi_of es false f) ≡ true)
      → (b ≡ false → list_any (λ c. admits_by p.policy.now (csi c)) (csi_of es false f) ≡ false)
      → FoldsTo (By IsSequence (Asks admits_by)) p (csi_of es more f)
      (record p { verdict = record { some = true; all = p.verdict.all && b; follows = false } })
  sequence_taken b p es more f m pass stay =
      subst (λ x. FoldsTo (By IsSequence (Asks admits_by)) p (csi_of es x f)
      (record p { verdict = record { some = true; all = p.verdict.all && b; follows = false } }))
      (sym m)
      (subst (λ k. FoldsTo (By IsSequence (Asks admits_by)) p (csi_of es false f)
      (record p { verdict = k }))
      (sequence_found (admits_by p.policy.now) b p.verdict es f pass stay)
      (asks_each p (csi_of es false f)))

  abbrev pub IsCommand : Action A → List (List ℕ) → Type 0
  IsCommand a ps = value_of a ≡ osc (command_meant ps)

  pub command_taken : (b : Bool) (p : Judge P) (ps : List (List ℕ))
      → admits_by p.policy.now (osc (command_meant ps)) ≡ b
      → FoldsTo (By IsCommand (Asks admits_by)) p (ps ∷ [])
      (record p { verdict = record { some = true; all = p.verdict.all && b; follows = true } })
  command_taken b p ps h =
      let a : Action A = action.OperatingSystemCommand (command_meant ps) in (
        record p { verdict = record { some = true; all = p.verdict.all && b; follows = true } },
        (
          a,
          refl,
          (sym (command_found (admits_by p.policy.now) b p.verdict ps h), refl),
        ),
        refl,
      )
