-- Control sequences that stand whole in some bytes, and are short.
use Rattle.std.proofs.Common.{ℕ, ◌≡◌, ◌+◌, ◌-◌, ◌<◌, ◌≤◌, true, false, List, [], ◌∷◌, ◌++◌, length, take, drop, get_or, refl, ap, sym, ◌∙◌, subst, arith}
use Rattle.std.proofs.Common.{Option, None, Result, Ok, Err, IfOk}
use Rattle.std.specs.List.{FoldsTo, list_all}
use Rattle.std.proofs.Math.Seq.{take-add}
use Rattle.std.proofs.lemmas.Bool.Decides.{nat_tests}
use Rattle.std.proofs.lemmas.List.{get_or-drop}
use Rattle.esc_values.specs.declared.csi_param.CsiParam.{CsiParam}
use Rattle.esc_frame.specs.Classes.{class_of}
use Rattle.esc_frame.specs.Events.{Event, StopsAt}
use Rattle.esc_frame.specs.Events.Event.{CsiDispatch}
use Rattle.esc_frame.specs.declared.machine.Machine.{Machine}
use Rattle.esc_frame.specs.Leads.{Holds}
use Rattle.esc_frame.specs.Leads.Unfinished.{Ground, InCsi}
use Rattle.esc_frame.specs.Machine.Calls.{Stays, TookSome, Quietly}
use Rattle.esc_frame.specs.Machine.Moves.{after_all, events_all, move_inside, IsStill}
use Rattle.esc_frame.specs.Scans.{is_body_byte}
use Rattle.esc_frame.specs.Segments.{csi_events}
use Rattle.esc_frame.specs.Segments.Opener.{Long}
use Rattle.esc_frame.specs.Machine.Shorts.{IsShort, PutsBody, first_params}
use Rattle.esc_frame.specs.Changed.{Changed}
use Rattle.esc_frame.specs.declared.unfinished.fields.Body.{Body}
use Rattle.esc_frame.specs.Machine.Taking.{OpensCsi, StartsWithShortCsi}
use Rattle.esc_frame.specs.Sequences.{is_from}
use Rattle.esc_frame.proofs.ByteRuns.CsiRuns.{csi_opens, body_quiet, body_strip, final_by}
use Rattle.esc_frame.proofs.Borrow.BytesAreLent.{after_more, ground_fresh}
use Rattle.esc_frame.proofs.ByteRuns.ManyBytes.{tail_is, tail_length}
use Rattle.esc_frame.proofs.ByteRuns.QuietRuns.{quiet_after, quiet_given, quiet_stopped}
use Rattle.esc_frame.proofs.Emits.EventsFold.{refused_stops, stops_for}
use Rattle.esc_frame.proofs.Emits.EventsAreTheCuts.{events_append}
use Rattle.esc_frame.proofs.Emits.StopsAtFirstEvent.{opened_still, body_still}

no_zero : (b : ℕ) → is_from 0x40 0x7e b ≡ true → 0 < b
no_zero b h = grind (arith, nat_tests)

-- a body that was read from the third byte on, and a final byte after it
pub short_read : {E : Type 0} (param : E → CsiParam) (params : Changed (List E)) (rest : List ℕ)
    (body : Body) → OpensCsi rest
    → PutsBody param params (take (length rest - 2) (drop 2 rest)) body
    → is_from 0x40 0x7e body.after ≡ true
    → StartsWithShortCsi (first_params param body.count params.exit.now) rest body.length
    × (get_or rest (body.length + 2) 0 ≡ body.after)
short_read param params rest body opens puts final =
    let items = first_params param body.count params.exit.now in
    let next = puts.after (no_zero body.after final) in
    let back : 2 + body.length ≡ body.length + 2 = omega arith in
    let same : get_or rest (body.length + 2) 0 ≡ body.after =
    ap (λ n. get_or rest n 0) (sym back) ∙ sym (get_or-drop 2 rest body.length 0)
    ∙ ap (λ y. get_or y body.length 0) (sym (tail_is rest 2)) ∙ next.1 in (
      record {
        opens = opens;
        few = omega (arith, tail_length rest 2, next.0);
        read = subst (λ y. IsShort items (take body.length y)) (tail_is rest 2) puts.keeps;
        ends = ap (is_from 0x40 0x7e) same ∙ final;
      },
      same,
    )

module _ (limit : Option ℕ) (rest : List ℕ) (run : ℕ) (items : List CsiParam)
    (starts : StartsWithShortCsi items rest run) where
  abbrev body : List ℕ
  body = take run (drop 2 rest)

  -- the opener and the body
  short_run : (after_all Ground (take (run + 2) rest) ≡ InCsi (Long []) body)
      × (events_all limit Ground (take (run + 2) rest) ≡ [])
  short_run =
      let begin = csi_opens limit rest (omega (arith, starts.few)) starts.opens.escape
      starts.opens.second in
      let q = body_quiet limit (Long []) [] body starts.read.body in
      let back : run + 2 ≡ 2 + run = omega arith in (
        ap (λ n. after_all Ground (take n rest)) back ∙ after_more Ground rest 2 run
            ∙ ap (λ u. after_all u body) begin.0 ∙ q.0,
        ap (λ n. events_all limit Ground (take n rest)) back
            ∙ ap (events_all limit Ground) (take-add 2 run rest)
            ∙ events_append limit Ground (take 2 rest) body ∙ ap
            (λ es. es ++ events_all limit (after_all Ground (take 2 rest)) body) begin.1
            ∙ ap (λ u. events_all limit u body) begin.0 ∙ q.1,
      )

  low : 0x40 ≤ get_or rest (run + 2) 0
  low = grind (arith, nat_tests, starts.ends)

  high : get_or rest (run + 2) 0 ≤ 0x7e
  high = grind (arith, nat_tests, starts.ends)

  three : run + 3 ≡ run + 2 + 1
  three = omega arith

  pub short_after : after_all Ground (take (run + 3) rest) ≡ Ground
  short_after =
      ap (λ n. after_all Ground (take n rest)) three
      ∙ quiet_after {S = Unit {0}} limit (λ _ _ _. Unit {0}) (λ _ _ _.
      Unit {0}) Ground (InCsi (Long []) body) rest (run + 2) _ tt tt short_run starts.few refl
      ∙ ap (λ m. m.0) (final_by limit (Long []) body (get_or rest (run + 2) 0) low high)

  -- the event
  short_event : (move_inside limit (InCsi (Long []) body) (get_or rest (run + 2) 0)
      (class_of (get_or rest (run + 2) 0))).1
      ≡ CsiDispatch items false (get_or rest (run + 2) 0) ∷ []
  short_event =
      ap (λ m. m.1) (final_by limit (Long []) body (get_or rest (run + 2) 0) low high)
      ∙ ap (λ x. csi_events x (get_or rest (run + 2) 0)) (body_strip [] body starts.read.body)
      ∙ rw (starts.read.form, sym starts.read.kept, sym starts.read.more) refl

  pub short_given : {S : Type 0} (takes refuses : S → Event → S → Type 0) (old new : S)
      → takes old (CsiDispatch items false (get_or rest (run + 2) 0)) new
      → FoldsTo takes old (events_all limit Ground (take (run + 3) rest)) new
  short_given takes refuses old new h =
      subst (λ n. FoldsTo takes old (events_all limit Ground (take n rest)) new) (sym three)
      (quiet_given limit takes refuses Ground (InCsi (Long []) body) rest (run + 2) _ old new
      short_run starts.few refl
      (subst (λ es. FoldsTo takes old es new) (sym short_event) (new, h, refl)))

  pub short_stops : {S : Type 0} (takes refuses : S → Event → S → Type 0) (old new : S)
      → refuses old (CsiDispatch items false (get_or rest (run + 2) 0)) new
      → StopsAt ⊥ takes refuses old (events_all limit Ground rest) new
  short_stops takes refuses old new h =
      quiet_stopped limit takes refuses Ground (InCsi (Long []) body) rest (run + 2)
      _ old new short_run starts.few refl ⊥
      (subst (λ es. StopsAt ⊥ takes refuses old es new) (sym short_event)
      (refused_stops ⊥ takes refuses old new _ h))

  pub short_still : IsStill limit Ground rest (run + 3)
  short_still =
      let back : 2 + (run + 1) ≡ run + 3 = omega arith in
      subst (IsStill limit Ground rest) back (opened_still limit (InCsi (Long []) []) rest
      starts.opens.some starts.opens.escape
      (csi_opens limit rest (omega (arith, starts.few)) starts.opens.escape starts.opens.second)
      refl (run + 1)
      (body_still limit (Long []) [] (take (length rest - 2) (drop 2 rest)) run
      (subst (λ y. list_all is_body_byte (take run y) ≡ true) (sym (tail_is rest 2))
      starts.read.body)))

-- such a call stays in ground
pub stays_took : {K A S E : Type 0} (keeps : Option ℕ → K → List ℕ → Type 0)
    (may_fail : Option ℕ → Type 0)
    (limit : Option ℕ)
    (takes refuses : S → Event → S → Type 0) (is_ready : S → Type 0) (result : Result ℕ E)
    (rest : List ℕ)
    (before m : Machine K A) (old new : S)
    → IfOk result (λ n. Holds keeps None m Ground × (m.limit ≡ before.limit))
    → Stays takes refuses is_ready result rest old new → IfOk result (λ n. 0 < n)
    → Quietly limit result Ground rest
    → TookSome keeps may_fail limit takes refuses is_ready result rest before m old new
stays_took keeps may_fail limit takes refuses is_ready (Ok n) rest before m old new g s p q = (
  (subst (Holds keeps limit m) (sym s.1) g.0, s.2 limit, ground_fresh Ground rest n s.1),
  q,
  (p, s.0, s.3, g.1),
)
stays_took keeps may_fail limit takes refuses is_ready (Err x) rest before m old new g s p q = (
  stops_for ⊥ _ takes refuses _ old new (λ no. absurd no) (s limit),
  tt,
  tt,
)

-- no bytes are
pub none_still : (limit : Option ℕ) (rest : List ℕ) → IsStill limit Ground rest 0
none_still limit rest = λ k some few. absurd (omega (arith, some, few))

-- the same of a call after one that changed neither the actor nor the limit
module _ {K A S E : Type 0} (keeps : Option ℕ → K → List ℕ → Type 0) (may_fail : Option ℕ → Type 0)
    (takes refuses : S → Event → S → Type 0) (ready : S → Type 0) (rest : List ℕ)
    (first before m : Machine K A) (old mid new : S) where
  moves_before : (result : Result ℕ E) (l : Option ℕ) → before.limit ≡ first.limit
      → TookSome keeps may_fail l takes refuses ready result rest before m mid new
      → TookSome keeps may_fail l takes refuses ready result rest first m mid new
  moves_before (Ok n) l e h = (h.0, h.1, (h.2.0, h.2.1, h.2.2, h.2.3 ∙ e))
  moves_before (Err x) l e h = (h.0, tt, tt)

  pub took_before : (result : Result ℕ E) (l limit : Option ℕ) → old ≡ mid
      → before.limit ≡ first.limit → l ≡ limit
      → TookSome keeps may_fail l takes refuses ready result rest before m mid new
      → TookSome keeps may_fail limit takes refuses ready result rest first m old new
  took_before result l limit same e i h =
      subst (λ k. TookSome {E = E} keeps may_fail k takes refuses ready result rest first m old new)
      i
      (subst (λ a. TookSome {E = E} keeps may_fail l takes refuses ready result rest first m a new)
      (sym same) (moves_before result l e h))
