-- The effect of a byte that lies in a later chunk than the bytes before it.
use Rattle.std.proofs.Common.{ℕ, ◌≡◌, ◌≢◌, ◌≤◌, ◌<◌, Bool, true, false, List, [], ◌∷◌, ◌++◌, map, take, length, get_or, refl, ap, sym, ◌∙◌, subst, Some, None, Option, min, if◌then◌else◌, arith}
use Rattle.std.proofs.lemmas.List.{append-nil}
use Rattle.esc_values.specs.declared.csi_param.CsiParam.{CsiParam}
use Rattle.esc_frame.specs.declared.classes.Class.TheVariants.{Introducer, Lead}
use Rattle.esc_frame.specs.declared.classes.Kind.{Kind}
use Rattle.esc_frame.specs.declared.utf8.sequence.Outcome.TheVariants.{Whole, More, Broken}
use Rattle.esc_frame.specs.Bodies.{is_csi_body, kept_csi_params, has_more_csi_params}
use Rattle.esc_frame.specs.Classes.{class_of, without_noise}
use Rattle.esc_frame.specs.Events.{Event}
use Rattle.esc_frame.specs.Events.Event.{Print}
use Rattle.esc_frame.specs.Leads.{Unfinished}
use Rattle.esc_frame.specs.Leads.Unfinished.{Ground, Pending, InEscape, InCsi}
use Rattle.esc_frame.specs.Machine.Keeps.{closed_of, number_of_run, params_with, is_formed}
use Rattle.esc_frame.specs.Machine.Moves.{after_all, events_all, unfinished_at_opener, move_inside, move, ground_move, pair_move, pending_move}
use Rattle.esc_frame.specs.Scans.{is_body_byte}
use Rattle.esc_frame.specs.Segments.{Opener, is_empty, csi_events, escape_event}
use Rattle.esc_frame.specs.Segments.Opener.{Long}
use Rattle.esc_frame.specs.Sequences.{is_sequence, is_prefix, is_pair, outcome, number_of}
use Rattle.esc_frame.proofs.Cut.WellFormedIsUtf8.{none_one}
use Rattle.esc_frame.proofs.ByteRuns.CsiRuns.{body_quiet, body_strip, final_by}
use Rattle.esc_frame.proofs.Steps.ParamsGrow.{finished_csi_params, finished_truncated}
use Rattle.esc_frame.proofs.Steps.FormsGrow.{formed}
use Rattle.esc_frame.proofs.ByteRuns.ManyBytes.{lead_class}
use Rattle.esc_frame.proofs.Steps.MovesIgnoreLimit.{after_same}
use Rattle.heapless_parser.specs.declared.event.EscEvent.{EscEvent}
use Rattle.heapless_parser.specs.declared.parser.EscParser.{EscParser}
use Rattle.heapless_parser.specs.Numbers.{state_numbered, form_numbered}
use Rattle.heapless_parser.specs.Runs.{Notes, Passes}
use Rattle.heapless_parser.specs.States.{KeptIn, BodyIn, NumberIn, ParamsIn, begun_in}
use Rattle.heapless_parser.specs.Emitted.{sent_events, param_of}
use Rattle.heapless_parser.proofs.KeptState.StateHasOnly.{in_ground_only, in_escape_only, in_csi_only}
use Rattle.heapless_parser.proofs.KeptState.NumbersPastLimit.{formed_number}
use Rattle.heapless_parser.proofs.InChunks.CommandsLieWhole.{in_ground}

pub first_taken : (x : List ℕ) → 0 < length x → take 1 x ≡ get_or x 0 0 ∷ []
first_taken [] h = absurd (omega arith)
first_taken (b ∷ x) h = refl

-- bytes that emit nothing, and an event that stands for none
pub nothing_noted : (p q : EscParser) (e : EscEvent) (x : List ℕ) → e.kind ≡ 0 → Passes p q x
    → (out : List ℕ) (limit : ℕ) → Notes p q e out limit x
nothing_noted p q e x none passes out limit = λ u memory room h.
    let k = passes memory u h in
    (k.0, rw none (sym k.1 ∙ ap (λ n. events_all (Some n) u x) room))

-- by the move that the byte makes
pub by_move : (limit : Option ℕ) (u v : Unfinished) (b : ℕ) (es : List Event)
    → move limit u b (class_of b) ≡ (v, es)
    → (after_all u (b ∷ []) ≡ v) × (events_all limit u (b ∷ []) ≡ es)
by_move limit u v b es same = (
  sym (after_same limit u b (class_of b)) ∙ ap (λ m. m.0) same,
  append-nil _ ∙ ap (λ m. m.1) same,
)

-- a byte that emits nothing
pub moves_on : (q : EscParser) (after : List ℕ) (limit : Option ℕ) (u v : Unfinished) (b : ℕ)
    → move limit u b (class_of b) ≡ (v, []) → KeptIn q after v
    → KeptIn q after (after_all u (b ∷ [])) × (events_all limit u (b ∷ []) ≡ [])
moves_on q after limit u v b same h =
    let k = by_move limit u v b [] same in (subst (KeptIn q after) (sym k.0) h, k.1)

-- ---- an escape sequence

pub none_first : (x : List ℕ) → length (take 2 x) ≡ 0 → is_empty x ≡ true
none_first [] h = refl
none_first (a ∷ x) h = absurd cc

-- the letter after an ESC that opens a sequence or a string
pub opener_passes : (p q : EscParser) (b : ℕ) (k : Kind) → p.state ≡ 1 → p.kept ≡ 0
    → class_of b ≡ Introducer k → ((o : Opener) (memory : List ℕ)
    → KeptIn q memory (unfinished_at_opener k o))
    → Passes p q (b ∷ [])
opener_passes p q b k one kept is opens = λ memory.
    in_escape_only p memory (λ u. KeptIn q memory (after_all u (b ∷ []))
    × (events_all (Some (length memory)) u (b ∷ []) ≡ [])) one
    (λ x h. let none : is_empty (without_noise x)
    ≡ true = none_first (without_noise x) (sym h.2 ∙ kept) in
    moves_on q memory (Some (length memory)) (InEscape x) (unfinished_at_opener k (Long x)) b
    (ap (move_inside (Some (length memory)) (InEscape x) b) is
    ∙ ap (λ t. if t then (unfinished_at_opener k (Long x), [])
    else (Ground, escape_event (without_noise x) b ∷ [])) none)
    (opens (Long x) memory))

-- ---- a control sequence

-- a byte of the body of a control sequence
pub body_passes : (p q : EscParser) (b : ℕ) → p.state ≡ 2 → q.state ≡ p.state
    → is_body_byte b ≡ true → ((x : List ℕ) → BodyIn p x → BodyIn q (x ++ b ∷ []))
    → Passes p q (b ∷ [])
body_passes p q b two same d more = λ memory.
    in_csi_only p memory (λ u. KeptIn q memory (after_all u (b ∷ []))
    × (events_all (Some (length memory)) u (b ∷ []) ≡ [])) two
    (λ o x h.
    let k = body_quiet (Some (length memory)) o x (b ∷ []) (rw d refl) in (
      subst (KeptIn q memory) (sym k.0) (
        ap state_numbered (same ∙ two),
        subst (BodyIn q) (sym (body_strip x (b ∷ []) (rw d refl))) (more (without_noise x) h),
      ),
      k.1,
    ))

-- the final byte of a control sequence
module _ (p q : EscParser) (e : EscEvent) (b : ℕ) (two : p.state ≡ 2) (low : 0x40 ≤ b)
    (high : b ≤ 0x7e)
    (zero : q.state ≡ 0)
    (none : q.pending ≡ 0) where
  by_body : ((x out : List ℕ) → BodyIn p x → sent_events e out ≡ csi_events x b)
      → (out : List ℕ) (limit : ℕ) → Notes p q e out limit (b ∷ [])
  by_body says out limit = λ u memory room h.
      in_csi_only p memory (λ u. KeptIn q memory (after_all u (b ∷ []))
      × (sent_events e out ≡ events_all (Some limit) u (b ∷ []))) two
      (λ o x i. let d = by_move (Some limit) (InCsi o x) Ground b (csi_events (without_noise x) b)
      (final_by (Some limit) o x b low high) in (
        subst (KeptIn q memory) (sym d.0) (in_ground q memory zero none),
        says (without_noise x) out i ∙ sym d.1,
      )) u h

  -- the header or body has another form
  pub malformed_notes : p.form ≡ 3 → e.kind ≡ 0
      → (out : List ℕ) (limit : ℕ) → Notes p q e out limit (b ∷ [])
  malformed_notes three off =
      by_body (λ x out h. let no : is_csi_body x ≡ false =
      sym (formed x) ∙ ap is_formed (sym h.3 ∙ ap form_numbered three) in
      rw (off, no) refl)

  -- the header or body has its form
  pub formed_notes : (r : EscParser) → p.form ≢ 3
      → ((o : Option ℕ) (all : List CsiParam) → NumberIn p o → ParamsIn p all
      → ParamsIn r (all ++ params_with o))
      → e.kind ≡ 5 → e.count ≡ min r.count 256
      → take (min r.count 256) e.csi_params ≡ take (min r.count 256) r.csi_params
      → e.has_more ≡ r.is_truncated → e.byte ≡ b
      → (out : List ℕ) (limit : ℕ) → Notes p q e out limit (b ∷ [])
  formed_notes r other params kind count list more byte =
      by_body (λ x out h.
      let k = params (number_of_run None x) (closed_of None x) h.2 (h.0, h.1) in
      let few : min r.count 256 ≡ r.count = omega (arith, k.0) in
      let is : is_csi_body x ≡ true =
      sym (formed x) ∙ ap is_formed (sym h.3) ∙ formed_number p.form other in
      let items : map param_of (take e.count e.csi_params) ≡ kept_csi_params x =
      ap (λ n. map param_of (take n e.csi_params)) count ∙ ap (map param_of) list
      ∙ ap (λ n. map param_of (take n r.csi_params)) few
      ∙ finished_csi_params x _ r.is_truncated 256 refl k.1 in
      let rest : e.has_more ≡ has_more_csi_params x =
      more ∙ finished_truncated x _ r.is_truncated 256 refl k.1 in
      rw (kind, is, items, rest, byte) refl)

-- ---- a character

whole_only : (s t : Bool) → (if s then Whole else if t then More else Broken) ≡ Whole → s ≡ true
whole_only true t h = refl
whole_only false true h = absurd cc
whole_only false false h = absurd cc

more_only : (s t : Bool) → (if s then Whole else if t then More else Broken) ≡ More → t ≡ true
more_only true t h = absurd cc
more_only false true h = refl
more_only false false h = absurd cc

pub is_whole : (f : List ℕ) (b : ℕ) → outcome f b ≡ Whole → is_sequence (f ++ b ∷ []) ≡ true
is_whole f b h = whole_only (is_sequence (f ++ b ∷ [])) (is_prefix (f ++ b ∷ [])) h

pub is_more : (f : List ℕ) (b : ℕ) → outcome f b ≡ More → is_prefix (f ++ b ∷ []) ≡ true
is_more f b h = more_only (is_sequence (f ++ b ∷ [])) (is_prefix (f ++ b ∷ [])) h

pub first_lead : (b : ℕ) → is_prefix (b ∷ []) ≡ true → class_of b ≡ Lead
unfolding is_prefix
first_lead b h = lead_class b h

pub some_after : (f : List ℕ) (b : ℕ) → is_empty (f ++ b ∷ []) ≡ false
some_after [] b = refl
some_after (a ∷ f) b = refl

-- a byte that does not complete it
pub more_passes : (p q : EscParser) (b : ℕ) → p.state ≡ 0 → q.state ≡ p.state
    → outcome (begun_in p) b ≡ More → begun_in q ≡ begun_in p ++ b ∷ [] → Passes p q (b ∷ [])
more_passes p q b zero same goes begins = λ memory.
    let state = ap state_numbered (same ∙ zero) in
    in_ground_only p memory (λ u. KeptIn q memory (after_all u (b ∷ []))
    × (events_all (Some (length memory)) u (b ∷ []) ≡ [])) zero
    (λ none.
    let lead = first_lead b (is_more [] b (subst (λ f. outcome f b ≡ More) none goes)) in
    moves_on q memory (Some (length memory)) Ground (Pending (b ∷ [])) b
    (ap (ground_move b) lead) (state, begins ∙ ap (λ f. f ++ b ∷ []) none, refl))
    (λ f is some.
    let more : outcome f b ≡ More = subst (λ f. outcome f b ≡ More) is goes in
    moves_on q memory (Some (length memory)) (Pending f) (Pending (f ++ b ∷ [])) b
    (ap (pending_move f b (class_of b)) more)
    (state, begins ∙ ap (λ f. f ++ b ∷ []) is, some_after f b))

-- the byte that completes it
pub whole_notes : (p q : EscParser) (e : EscEvent) (b : ℕ) → p.state ≡ 0 → q.state ≡ 0
    → q.pending ≡ 0 → outcome (begun_in p) b ≡ Whole → is_pair (begun_in p ++ b ∷ []) ≡ false
    → e.kind ≡ 2 → e.byte ≡ number_of (begun_in p ++ b ∷ [])
    → (out : List ℕ) (limit : ℕ) → Notes p q e out limit (b ∷ [])
whole_notes p q e b zero ground none ends single kind byte out limit = λ u memory room h.
    in_ground_only p memory (λ u. KeptIn q memory (after_all u (b ∷ []))
    × (sent_events e out ≡ events_all (Some limit) u (b ∷ []))) zero
    (λ is. absurd (none_one b (is_whole [] b (subst (λ f. outcome f b ≡ Whole) is ends))))
    (λ f is some.
    let print : List Event = Print (number_of (f ++ b ∷ [])) ∷ [] in
    let whole : outcome f b ≡ Whole = subst (λ f. outcome f b ≡ Whole) is ends in
    let k = by_move (Some limit) (Pending f) Ground b print
    (ap (pending_move f b (class_of b)) whole
    ∙ ap (λ t. if t then pair_move b (class_of b) else (Ground, print))
    (subst (λ f. is_pair (f ++ b ∷ []) ≡ false) is single)) in (
      subst (KeptIn q memory) (sym k.0) (in_ground q memory ground none),
      rw (kind, byte) (ap (λ f. Print (number_of (f ++ b ∷ [])) ∷ []) is) ∙ sym k.1,
    )) u h
