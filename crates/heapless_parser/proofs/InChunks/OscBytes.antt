-- Bytes of an operating system command that lie in a later chunk than its opener.
use Rattle.std.proofs.Common.{ℕ, ◌≡◌, Bool, true, false, not, List, [], ◌∷◌, ◌++◌, take, length, refl, ap, sym, ◌∙◌, subst, Some, Option, if◌then◌else◌}
use Rattle.std.proofs.lemmas.List.{append-nil}
use Rattle.std.proofs.lemmas.List.Concat.{flat_map-append}
use Rattle.esc_frame.specs.declared.classes.Class.{Class}
use Rattle.esc_frame.specs.declared.utf8.sequence.Outcome.TheVariants.{Whole, More}
use Rattle.esc_frame.specs.Classes.{class_of, is_breaker, is_text, in_osc}
use Rattle.esc_frame.specs.Leads.{Unfinished}
use Rattle.esc_frame.specs.Leads.Unfinished.{Ground, InEscape, InOsc, InOscPending}
use Rattle.esc_frame.specs.Limits.{is_within}
use Rattle.esc_frame.specs.Machine.Moves.{after_all, events_all, emitting, move_inside, leaving, goes_on, final_osc, ground_move, move, osc_pending_move, pair_move}
use Rattle.esc_frame.specs.Machine.TextRuns.{IsTextRun}
use Rattle.esc_frame.specs.Segments as segments
use Rattle.esc_frame.specs.Segments.{Opener, OscUnit, is_empty, kept_of, osc_events}
use Rattle.esc_frame.specs.Segments.OscUnit.{One, Sequence}
use Rattle.esc_frame.specs.Sequences.{is_pair, outcome}
use Rattle.esc_frame.proofs.Borrow.LentStrings.{osc_emitted}
use Rattle.esc_frame.proofs.Cut.WellFormedIsUtf8.{none_one}
use Rattle.esc_frame.proofs.Steps.StringsGrow.{text_sequence}
use Rattle.esc_frame.proofs.ByteRuns.StringRuns.{run_text}
use Rattle.heapless_parser.specs.declared.event.EscEvent.{EscEvent}
use Rattle.heapless_parser.specs.declared.parser.EscParser.{EscParser}
use Rattle.heapless_parser.specs.Numbers.{state_numbered, begun_bytes}
use Rattle.heapless_parser.specs.Runs.{Passes, PassesIn, Steps}
use Rattle.heapless_parser.specs.States.{KeptIn, TextIn, begun_in}
use Rattle.heapless_parser.specs.Emitted.{sent_events, text_of}
use Rattle.heapless_parser.proofs.InChunks.OneByteLater.{by_move, moves_on, is_whole, is_more, first_lead, some_after}
use Rattle.heapless_parser.proofs.KeptState.StateHasOnly.{in_osc_only}
use Rattle.heapless_parser.proofs.InChunks.CommandsLieWhole.{bell_class, escape_at, osc_said}

pub none_begun : (p : EscParser) (f : List ℕ) → p.pending ≡ 0 → begun_in p ≡ f → is_empty f
    ≡ false → ⊥
none_begun p f none is some =
    let e : [] ≡ f = sym (ap (λ n. begun_bytes n p.first p.second p.third) none) ∙ is in
    let k : is_empty f ≡ true = ap is_empty (sym e) in cc

pub not_false : (t : Bool) → not t ≡ false → t ≡ true
not_false true h = refl
not_false false h = absurd cc

-- ---- the byte that ends it

bell_move : (l : Option ℕ) (o : Opener) (ps : List OscUnit) (b : ℕ) → b ≡ 0x07
    → move l (InOsc o ps) b (class_of b) ≡ (Ground, osc_events l (segments.text_of ps))
bell_move l o ps b e = sym (ap (move_inside l (InOsc o ps) b) (bell_class b e))

escape_move : (l : Option ℕ) (o : Opener) (ps : List OscUnit) (b : ℕ) → b ≡ 0x1b
    → move l (InOsc o ps) b (class_of b) ≡ (InEscape [], osc_events l (segments.text_of ps))
escape_move l o ps b e =
    sym (ap (move_inside l (InOsc o ps) b) (escape_at b e))
    ∙ ap (λ es. (InEscape [], es)) (append-nil (osc_events l (segments.text_of ps)))

module _ (p q : EscParser) (e : EscEvent) (memory out : List ℕ) (b : ℕ) (three : p.state ≡ 3)
    (none : p.pending ≡ 0)
    (off : p.is_over ≡ false) (kind : e.kind ≡ 6) (text : text_of e out ≡ take p.text memory) where
  ends : (v : Unfinished)
      → ((l : Option ℕ) (o : Opener) (ps : List OscUnit)
      → move l (InOsc o ps) b (class_of b) ≡ (v, osc_events l (segments.text_of ps)))
      → KeptIn q memory v → Steps p q e out memory memory (b ∷ [])
  ends v moves keeps = λ u h.
      in_osc_only p memory (λ u. KeptIn q memory (after_all u (b ∷ []))
      × (sent_events e out ≡ events_all (Some (length memory)) u (b ∷ []))) three
      (λ o ps i begins.
      let t = segments.text_of ps in
      let limit = Some (length memory) in
      let k = by_move limit (InOsc o ps) v b (osc_events limit t) (moves limit o ps) in
      let within : is_within limit (length t) ≡ true = not_false _ (sym i.0 ∙ off) in (
        subst (KeptIn q memory) (sym k.0) keeps,
        osc_said e out t kind (text ∙ (i.1 off).1) ∙ osc_emitted limit t within ∙ sym k.1,
      ))
      (λ o ps f i is some. absurd (none_begun p f none is some)) u h

  pub bell_steps : b ≡ 0x07 → KeptIn q memory Ground → Steps p q e out memory memory (b ∷ [])
  bell_steps is = ends Ground (λ l o ps. bell_move l o ps b is)

  pub escape_steps : b ≡ 0x1b → KeptIn q memory (InEscape [])
      → Steps p q e out memory memory (b ∷ [])
  escape_steps is = ends (InEscape []) (λ l o ps. escape_move l o ps b is)

-- ---- its text

-- units
pub units_pass : (p q : EscParser) (memory after x : List ℕ) → p.state ≡ 3 → p.pending ≡ 0
    → q.state ≡ p.state → begun_in q ≡ begun_in p → IsTextRun x
    → ((t : List ℕ) → TextIn p memory t → TextIn q after (t ++ x)) → PassesIn p q memory after x
units_pass p q memory after x three none same begins units keeps = λ u h.
    in_osc_only p memory (λ u. KeptIn q after (after_all u x)
    × (events_all (Some (length memory)) u x ≡ [])) three
    (λ o ps i empty.
    let k = units.2 (Some (length memory)) o ps in (
      subst (KeptIn q after) (sym k.0) (
        ap state_numbered (same ∙ three),
        subst (TextIn q after) (run_text ps units) (keeps (segments.text_of ps) i),
        begins ∙ empty,
      ),
      k.1,
    ))
    (λ o ps f i is some. absurd (none_begun p f none is some)) u h

module _ (p q : EscParser) (memory after : List ℕ) (b : ℕ) (three : p.state ≡ 3)
    (same : q.state ≡ p.state) where
  state_same : state_numbered q.state ≡ state_numbered 3
  state_same = ap state_numbered (same ∙ three)

  moved : (u v : Unfinished) → move (Some (length memory)) u b (class_of b) ≡ (v, [])
      → KeptIn q after v
      → KeptIn q after (after_all u (b ∷ []))
      × (events_all (Some (length memory)) u (b ∷ []) ≡ [])
  moved u v = moves_on q after (Some (length memory)) u v b

  -- a byte of a character that does not complete it
  pub more_in_osc : outcome (begun_in p) b ≡ More → begun_in q ≡ begun_in p ++ b ∷ []
      → ((t : List ℕ) → TextIn p memory t → TextIn q after t) → PassesIn p q memory after (b ∷ [])
  more_in_osc goes begins keeps = λ u h.
      in_osc_only p memory (λ u. KeptIn q after (after_all u (b ∷ []))
      × (events_all (Some (length memory)) u (b ∷ []) ≡ [])) three
      (λ o ps i empty.
      let lead = first_lead b (is_more [] b (subst (λ f. outcome f b ≡ More) empty goes)) in
      moved (InOsc o ps) (InOscPending o ps (b ∷ []))
      (ap (move_inside (Some (length memory)) (InOsc o ps) b) lead) (
        state_same,
        keeps (segments.text_of ps) i,
        begins ∙ ap (λ f. f ++ b ∷ []) empty,
        refl,
      ))
      (λ o ps f i is some.
      let more : outcome f b ≡ More = subst (λ f. outcome f b ≡ More) is goes in
      moved (InOscPending o ps f) (InOscPending o ps (f ++ b ∷ []))
      (ap (osc_pending_move (Some (length memory)) o ps f b (class_of b)) more) (
        state_same,
        keeps (segments.text_of ps) i,
        begins ∙ ap (λ f. f ++ b ∷ []) is,
        some_after f b,
      )) u h

  -- the byte that completes it
  pub whole_in_osc : outcome (begun_in p) b ≡ Whole → is_pair (begun_in p ++ b ∷ []) ≡ false
      → begun_in q ≡ []
      → ((t : List ℕ) → TextIn p memory t → TextIn q after (t ++ (begun_in p ++ b ∷ [])))
      → PassesIn p q memory after (b ∷ [])
  whole_in_osc goes single empty keeps = λ u h.
      in_osc_only p memory (λ u. KeptIn q after (after_all u (b ∷ []))
      × (events_all (Some (length memory)) u (b ∷ []) ≡ [])) three
      (λ o ps i is.
      absurd (none_one b (is_whole [] b (subst (λ f. outcome f b ≡ Whole) is goes))))
      (λ o ps f i is some.
      let whole : outcome f b ≡ Whole = subst (λ f. outcome f b ≡ Whole) is goes in
      let x = f ++ b ∷ [] in
      moved (InOscPending o ps f) (InOsc o (ps ++ Sequence x ∷ []))
      (ap (osc_pending_move (Some (length memory)) o ps f b (class_of b)) whole
      ∙ ap (λ t. if t then emitting (leaving (Some (length memory)) (InOscPending o ps f))
      (pair_move b (class_of b)) else
      (InOsc o (ps ++ Sequence x ∷ []), []))
      (subst (λ f. is_pair (f ++ b ∷ []) ≡ false) is single)) (
        state_same,
        subst (TextIn q after) (text_sequence ps x)
            (subst (λ f. TextIn q after (segments.text_of ps ++ (f ++ b ∷ []))) is
            (keeps (segments.text_of ps) i)),
        empty,
      )) u h

-- ---- ignored bytes

text_same : (ps : List OscUnit) (b : ℕ) → is_text (class_of b) ≡ false
    → segments.text_of ps ≡ segments.text_of (ps ++ One b ∷ [])
text_same ps b off =
    sym (flat_map-append kept_of ps (One b ∷ [])
    ∙ ap (λ y. segments.text_of ps ++ y) (rw off refl) ∙ append-nil (segments.text_of ps))

pub skips : (p : EscParser) (b : ℕ) (c : Class) → p.state ≡ 3 → p.pending ≡ 0 → c ≡ class_of b
    → is_breaker c ≡ false → in_osc c ≡ true → is_text c ≡ false → Passes p p (b ∷ [])
skips p b c three none is off goes text = λ memory u h.
    let l = Some (length memory) in
    in_osc_only p memory (λ u. KeptIn p memory (after_all u (b ∷ []))
    × (events_all l u (b ∷ []) ≡ [])) three
    (λ o ps i empty.
    moves_on p memory l (InOsc o ps) (InOsc o (ps ++ One b ∷ [])) b
    (sym (ap (move_inside l (InOsc o ps) b) is)
    ∙ ap (λ t. if t then emitting (leaving l (InOsc o ps)) (ground_move b c) else
    goes_on l (InOsc o ps) b c) off
    ∙ ap (λ t. if t then (InOsc o (ps ++ One b ∷ []), []) else final_osc l o ps b c) goes) (
      ap state_numbered three,
      subst (TextIn p memory) (text_same ps b (sym (ap is_text is) ∙ text)) i,
      empty,
    ))
    (λ o ps f i is some. absurd (none_begun p f none is some)) u h
