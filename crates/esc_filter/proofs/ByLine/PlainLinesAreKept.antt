-- Lines that are written as they are.
use Rattle.std.proofs.Common.{ℕ, not, ◌≡◌, ◌+◌, ◌-◌, Bool, true, false, ◌||◌, if◌then◌else◌, List, [], ◌∷◌, ◌++◌, map, Option, None, Some, arith, refl, ap, sym, ◌∙◌, subst, append-nil, append_assoc}
use Rattle.std.specs.Prelude.{IsTrue}
use Rattle.std.specs.List.{filter, list_all}
use Rattle.std.specs.Char.{encode_utf8}
use Rattle.std.specs.Str.{IsUtf8, encode_utf8_all}
use Rattle.std.proofs.lemmas.Bool.{and_parts}
use Rattle.std.proofs.lemmas.List.Elements.{filter-append}
use Rattle.std.proofs.lemmas.List.Folds.{list_any-append}
use Rattle.std.proofs.lemmas.Str.{IsUtf8-append, IsUtf8-nil, encode_ascii}
use Rattle.esc_frame.specs.Classes.{class_of}
use Rattle.esc_frame.specs.Events.{Event}
use Rattle.esc_frame.specs.Events.Event.{CsiDispatch, Execute, Print}
use Rattle.esc_frame.specs.Leads.{Unfinished}
use Rattle.esc_frame.specs.Leads.Unfinished.{Ground}
use Rattle.esc_frame.specs.Machine.Moves.{after_all, after_by, events_all, events_by, move}
use Rattle.esc_frame.specs.Scans.{is_data_byte}
use Rattle.esc_frame.specs.Stream.{events_within}
use Rattle.esc_frame.proofs.ByteRuns.ManyBytes.{character_does}
use Rattle.esc_frame.proofs.Emits.EventsAreTheCuts.{after_append, events_append}
use Rattle.esc_actions.proofs.Meaning.MeaningsJoin.{mode_append, values_append}
use Rattle.esc_actions.specs.ControlCodes.{code_of}
use Rattle.esc_actions.specs.Meaning.{meaning_within, mode_from, values_from}
use Rattle.esc_actions.specs.Texts.{list_text, text_after, texts_after}
use Rattle.esc_actions.specs.Values.{Mode, Value, mode_after, control, csi, event_values, plain, print}
use Rattle.esc_actions.specs.Writable.{is_truncated}
use Rattle.esc_actions.specs.declared.control_code.ControlCode.TheVariants.{CarriageReturn, HorizontalTab, LineFeed}
use Rattle.esc_normal.proofs.Texts.{texts_more}
use Rattle.esc_normal.specs.Texts.{ends_in_string}
use Rattle.esc_values.specs.declared.csi_param.CsiParam.{CsiParam}
use Rattle.esc_sequences.specs.Csis.{CsiValue, csi_of, sgr, unspecified}
use Rattle.esc_filter.specs.Characters.{character_of, in_guard, in_values, in_values_after, last_after}
use Rattle.esc_filter.specs.Closing.{after_values, closing, given_back, keeps_cursor, turned_terminal}
use Rattle.esc_filter.specs.Terminal.{as_at_start}
use Rattle.esc_filter.specs.Pens.{pen_after, start_pen}
use Rattle.esc_filter.specs.declared.terminal.Terminal.{Terminal}
use Rattle.esc_filter.specs.Fed.{HasConsumedIn}
use Rattle.esc_filter.specs.Known.{ArePassedRenditions, IsPassedText}
use Rattle.esc_filter.specs.Openings.{ArePlainLines, IsQuiet, is_blank, opening, opening_after, opening_left, opening_of}
use Rattle.esc_filter.specs.Lines.{GrowsBy, IsLine, HasConsumedLines, added_by, body, content, end_text, ends_line, ends_return, has_line_feed, held, is_line_feed, is_return, is_wide, passed_of_line, text_by_lines_as}
use Rattle.esc_filter.specs.Passing.{in_lines, passes}
use Rattle.esc_filter.specs.Rules.{is_rendition}
use Rattle.esc_filter.specs.declared.line_filter.LineFilter.{LineFilter}
use Rattle.esc_filter.specs.declared.guard.Guard.{Guard}
use Rattle.esc_filter.proofs.ByLine.LinesAreStreams.{by_append, closed_text}
use Rattle.esc_filter.proofs.ByLine.BytesOfLines.{content_is, ends_append, feeds_append, no_end}
use Rattle.esc_filter.proofs.Renditions.RenditionsGoOn.{joined_end, quiet_end}
use Rattle.esc_filter.proofs.ByLine.PlainBytesAreKept.{body_held_of, data_ascii, data_inner, data_move, data_shown, data_text, end_ends, held_feed, no_return, of_inner, with_held}
use Rattle.esc_filter.proofs.ByLine.WideBytesAreKept.{AreInner, has_return, wide_is}
use Rattle.esc_filter.proofs.Output.DeceivingCharacters.{in_both, in_more, in_none, plain_one, text_themselves}
use Rattle.esc_filter.proofs.Renditions.SequencesFromParameters.{each_whole}
use Rattle.esc_filter.proofs.Renditions.ShortRenditionsMean.{Shade}
use Rattle.esc_filter.proofs.Output.TextsGrow.{after_more}

-- ---- text that is written as it is

module _ (A : Type 0) (u : Guard) (limit : ℕ) (admits : Value A → Bool)
    (texts : IsPassedText admits) where
  abbrev pub events_of : List ℕ → List Event
  events_of x = events_all (Some limit) Ground x

  -- the text x means the values vs, each of which passes and is written as it is
  pub record Passed (x : List ℕ) (vs : List (Value A)) : Type 0 where
    pub ground : after_all Ground x ≡ Ground
    pub means : values_from (Some limit) plain (events_of x) ≡ vs
    pub mode : mode_from plain (events_of x) ≡ plain
    pub pass : filter (passes (in_lines true admits)) vs ≡ vs
    pub kept : (b : Option ℕ) → in_values_after u b vs ≡ vs
    pub text : (f : Bool) → texts_after f vs ≡ x
    pub utf8 : IsUtf8 x
    pub one_line : has_line_feed x ≡ false
    pub unreturned : has_return x ≡ false

  nothing : Passed [] []
  nothing = record {
    ground = refl;
    means = refl;
    mode = refl;
    pass = refl;
    kept = in_none u;
    text = λ f. refl;
    utf8 = IsUtf8-nil;
    one_line = refl;
    unreturned = refl;
  }

  -- one after another
  joined : {x y : List ℕ} {vs ws : List (Value A)} → Passed x vs → Passed y ws
      → Passed (x ++ y) (vs ++ ws)
  joined {x} {y} {vs} {ws} p q =
      let more : Mode → Unfinished → List (Value A) =
      λ m w. values_from (Some limit) m (events_all (Some limit) w y) in
      let later = events_all (Some limit) (after_all Ground x) y in
      let both = events_append (Some limit) Ground x y in
      record {
        ground = after_append Ground x y ∙ ap (λ w. after_all w y) p.ground ∙ q.ground;
        means =
            ap (values_from (Some limit) plain) both
            ∙ values_append (Some limit) plain (events_of x) later
            ∙ ap (λ m. values_from (Some limit) plain (events_of x)
            ++ more m (after_all Ground x)) p.mode
            ∙ ap (λ w. values_from (Some limit) plain (events_of x) ++ more plain w) p.ground
            ∙ ap (λ zs. zs ++ more plain Ground) p.means
            ∙ ap (λ zs. vs ++ zs) q.means;
        mode =
            ap (mode_from plain) both ∙ mode_append plain (events_of x) later
            ∙ ap (λ m. mode_from m later) p.mode
            ∙ ap (λ w. mode_from plain (events_all (Some limit) w y)) p.ground ∙ q.mode;
        pass =
            filter-append (passes (in_lines true admits)) vs ws
            ∙ ap (λ zs. zs ++ filter (passes (in_lines true admits)) ws) p.pass
            ∙ ap (λ zs. vs ++ zs) q.pass;
        kept =
            λ b. in_both u b vs ws
            ∙ ap (λ zs. zs ++ in_values_after u (last_after b zs) ws) (p.kept b)
            ∙ ap (λ zs. vs ++ zs) (q.kept (last_after b vs));
        text =
            λ f. texts_more f vs ws
            ∙ ap (λ t. t ++ texts_after (ends_in_string f vs) ws) (p.text f)
            ∙ ap (λ t. x ++ t) (q.text (ends_in_string f vs));
        utf8 = IsUtf8-append x y p.utf8 q.utf8;
        one_line = list_any-append is_line_feed x y ∙ rw (p.one_line, q.one_line) refl;
        unreturned = list_any-append is_return x y ∙ rw (p.unreturned, q.unreturned) refl;
      }

  -- one value
  alone : (x : List ℕ) (v : Value A) (e : Event) → after_all Ground x ≡ Ground
      → events_of x ≡ e ∷ [] → event_values (Some limit) plain e ≡ v ∷ [] → mode_after plain e
      ≡ plain
      → passes (in_lines true admits) v ≡ true → ((l : Option ℕ) → in_guard u l v ≡ v ∷ [])
      → ((f : Bool) → text_after f v ≡ x) → AreInner x → Passed x (v ∷ [])
  alone x v e ground events gives stays pass itself text inner =
      record {
        ground = ground;
        means =
            ap (values_from (Some limit) plain) events
            ∙ append-nil (event_values (Some limit) plain e) ∙ gives;
        mode = ap (mode_from plain) events ∙ stays;
        pass = rw pass refl;
        kept =
            λ b. in_more u b v []
            ∙ ap (λ zs. zs ++ in_values_after u (last_after b zs) []) (itself b)
            ∙ ap (λ zs. v ∷ zs) (in_none u (character_of v));
        text = λ f. append-nil (text_after f v) ∙ text f;
        utf8 = inner.0;
        one_line = inner.1;
        unreturned = inner.2;
      }

  character : (b : ℕ) → is_data_byte b ≡ true → Passed (b ∷ []) (print b ∷ [])
  character b h =
      alone (b ∷ []) (print b) (Print b) (rw (data_move b h, after_by, move) refl)
      (rw (data_move b h, events_by, move) refl) refl refl (texts (print b) (data_shown b h))
      (λ l. (text_themselves A u l (b ∷ []) (rw (data_text b h) refl)).0)
      (λ f. encode_ascii b (data_ascii b h)) (of_inner (b ∷ []) (rw (data_inner b h) refl))

  pub tab : Passed (0x09 ∷ []) (control HorizontalTab ∷ [])
  unfolding class_of code_of
  tab =
      alone (0x09 ∷ []) (control HorizontalTab) (Execute 0x09) refl refl refl refl
      (texts (control HorizontalTab) refl) (λ l. refl) (λ f. encode_ascii 0x09 (omega arith))
      (of_inner (0x09 ∷ []) refl)

  pub run : (s : List ℕ) → list_all is_data_byte s ≡ true → Passed s (map print s)
  run [] h = nothing
  run (b ∷ s) h =
      let q = and_parts (is_data_byte b) (list_all is_data_byte s) h in
      joined (character b q.0) (run s q.1)

  pub run_leaves : (s : List ℕ) (o : Terminal) → after_values {A = A} (map print s) o ≡ o
  run_leaves [] o = refl
  run_leaves (b ∷ s) o = run_leaves s o

  wide : (c : ℕ) → is_wide c ≡ true → Passed (encode_utf8 c) (print c ∷ [])
  wide c h =
      let w = wide_is c h in
      let does = character_does (encode_utf8 c) c w.is in
      alone (encode_utf8 c) (print c) (Print c) does.0 (does.1 (Some limit)) refl refl
      (texts (print c) w.shown) (λ l. plain_one u l c w.plain) (λ f. refl) w.inner

  pub wides : (cs : List ℕ) → list_all is_wide cs ≡ true
      → Passed (encode_utf8_all cs) (map print cs)
  wides [] h = nothing
  wides (c ∷ cs) h =
      let q = and_parts (is_wide c) (list_all is_wide cs) h in
      joined (wide c q.0) (wides cs q.1)

  -- a rendition, if all pass
  admitted : (c : CsiValue) → ArePassedRenditions admits → is_rendition c ≡ true
      → (es : List CsiParam) → csi_of es false 0x6d ≡ c ∷ []
      → passes (in_lines true admits) (csi c) ≡ true
  admitted (sgr s) all is es one = all (sgr s) refl
  admitted (unspecified ps more f) all is es one =
      let whole = and_parts (not (is_truncated (unspecified ps more f))) true
      (subst (λ vs. list_all (λ c. not (is_truncated c)) vs ≡ true) one (each_whole es 0x6d)) in
      rw (whole.0, all (unspecified ps more f) is) refl

  pub rendition : {x : List ℕ} {b : Bool} → ArePassedRenditions admits → (s : Shade x b)
      → Passed x (csi s.value ∷ [])
  rendition {x} all s =
      alone x (csi s.value) (CsiDispatch s.params false 0x6d) s.ground (s.events (Some limit))
      (ap (map csi) s.one) refl (admitted s.value all s.rendition s.params s.one)
      (λ l. refl)
      (λ f. s.text) (of_inner x s.inner)

  -- ---- a line, after which renditions are on, or not

  abbrev pub Line : List ℕ → Bool → Type 0
  Line x on = (vs : List (Value A)) × Passed x vs
      × (after_values vs as_at_start ≡ turned_terminal on as_at_start)

  longer : {x y : List ℕ} {ws : List (Value A)} {on lit : Bool} → Line x on → Passed y ws
      → after_values ws (turned_terminal on as_at_start) ≡ turned_terminal lit as_at_start
      → Line (x ++ y) lit
  longer {ws = ws} (vs, p, left) q leaves = (
    vs ++ ws,
    joined p q,
    after_more vs ws as_at_start ∙ ap (after_values ws) left ∙ leaves,
  )

  abbrev pub By : List ℕ → List ℕ
  By s = text_by_lines_as {A = A} u limit admits s

  abbrev T : List ℕ → List ℕ
  T s = list_text (passed_of_line {A = A} u limit admits s)

  abbrev C : List ℕ → List ℕ
  C s = list_text (closing admits (passed_of_line {A = A} u limit admits s))

  feed_means : (x : List ℕ) (vs : List (Value A)) → Passed x vs
      → meaning_within (Some limit) (x ++ 0x0a ∷ []) ≡ vs ++ control LineFeed ∷ []
  unfolding meaning_within events_within class_of code_of
  feed_means x vs p =
      let later = events_all (Some limit) (after_all Ground x) (0x0a ∷ []) in
      ap (values_from (Some limit) plain) (events_append (Some limit) Ground x (0x0a ∷ []))
      ∙ values_append (Some limit) plain (events_of x) later
      ∙ ap (λ m. values_from (Some limit) plain (events_of x) ++ values_from (Some limit) m later)
      p.mode
      ∙ ap (λ w. values_from (Some limit) plain (events_of x)
      ++ values_from (Some limit) plain (events_all (Some limit) w (0x0a ∷ []))) p.ground
      ∙ ap (λ zs. zs ++ control LineFeed ∷ []) p.means

  -- a carriage return at its end, or none, is written too
  end_same : (r : Bool) → end_text admits r ≡ held r ++ 0x0a ∷ []
  end_same true = rw (texts (control CarriageReturn) refl) refl
  end_same false = refl

  -- the values of a line that pass
  line_passes : (x : List ℕ) (vs : List (Value A)) → Passed x vs
      → passed_of_line {A = A} u limit admits (x ++ 0x0a ∷ []) ≡ vs
  line_passes x vs p =
      let pass = passes (in_lines true admits) in
      ap (λ zs. in_values u (filter pass zs)) (feed_means x vs p)
      ∙ ap (in_values u)
      (filter-append pass vs (control LineFeed ∷ []) ∙ append-nil (filter pass vs) ∙ p.pass)
      ∙ p.kept None

  -- one that leaves none on is written as it is
  one_line : (x : List ℕ) → Line x false → (r : Bool)
      → By (x ++ (held r ++ 0x0a ∷ [])) ≡ x ++ (held r ++ 0x0a ∷ [])
  one_line x (vs, p, left) r =
      let m = x ++ 0x0a ∷ [] in
      let y = x ++ held r in
      let end = held r ++ 0x0a ∷ [] in
      let here = line_passes x vs p in
      let same : list_text (closing admits vs) ≡ [] =
      ap (λ o. list_text {A = A} (given_back (keeps_cursor admits) o)) left in
      let none = no_return false x refl p.unreturned in
      let ends : ends_return false y ≡ r = with_held x r none in
      ap By (sym (append_assoc x (held r) (0x0a ∷ [])))
      ∙ closed_text u limit admits y (feeds_append x (held r) p.one_line (held_feed r))
      ∙ ap (λ z. T (z ++ 0x0a ∷ [])
      ++ (C (z ++ 0x0a ∷ []) ++ end_text admits (ends_return false y)))
      (body_held_of x r none)
      ∙ ap (λ t. T m ++ (C m ++ end_text admits t)) ends
      ∙ ap (λ ws. list_text ws ++ (list_text (closing admits ws) ++ end_text admits r)) here
      ∙ ap (λ t. t ++ (list_text (closing admits vs) ++ end_text admits r)) (p.text false)
      ∙ ap (λ t. x ++ (t ++ end_text admits r)) same
      ∙ ap (λ t. x ++ t) (end_same r)

  -- and leaves none on
  quiet_line : (x : List ℕ) → Line x false → (r : Bool)
      → opening_after {A = A} u limit admits [] ((x ++ (held r ++ 0x0a ∷ [])) ∷ []) ≡ []
  quiet_line x (vs, p, left) r =
      let y = x ++ held r in
      let l = x ++ (held r ++ 0x0a ∷ []) in
      let leaves : opening_of {A = A} u limit admits (content l) ≡ [] =
      ap (λ z. opening_of {A = A} u limit admits (content z))
      (sym (append_assoc x (held r) (0x0a ∷ [])))
      ∙ ap (opening_of {A = A} u limit admits)
      (content_is y [] (feeds_append x (held r) p.one_line (held_feed r)))
      ∙ ap (λ z. opening_left (passed_of_line {A = A} u limit admits (z ++ 0x0a ∷ [])))
      (body_held_of x r (no_return false x refl p.unreturned))
      ∙ ap opening_left (line_passes x vs p)
      ∙ ap (λ t. opening t (pen_after vs (start_pen true))) left in
      none (is_blank l) leaves
    where
      none : (b : Bool) {t : List ℕ} → t ≡ [] → (if b then [] else t) ≡ []
      none true e = refl
      none false e = e

  is_one : (x : List ℕ) {on : Bool} → Line x on → (r : Bool)
      → IsLine (x ++ (held r ++ 0x0a ∷ []))
  is_one x (vs, p, left) r = (
    x ++ held r,
    feeds_append x (held r) p.one_line (held_feed r),
    sym (append_assoc x (held r) (0x0a ∷ [])),
  )

  -- ---- lines that have ended and are written as they are, and the beginning of one

  pub record Begun (on : Bool) (s : List ℕ) : Type 0 where
    pub ended : List ℕ
    pub last : List ℕ
    pub whole : s ≡ ended ++ last
    pub ends : ends_line true ended ≡ true
    pub same : By ended ≡ ended
    pub quiet : IsQuiet u limit admits ended
    pub line : Line last on

  pub none_begun : Begun false []
  none_begun = record {
    ended = [];
    last = [];
    whole = refl;
    ends = refl;
    same = refl;
    quiet = ([], refl, tt);
    line = ([], nothing, refl);
  }

  pub begun_more : {on lit : Bool} (s y : List ℕ) {ws : List (Value A)} → Begun on s → Passed y ws
      → after_values ws (turned_terminal on as_at_start) ≡ turned_terminal lit as_at_start
      → Begun lit (s ++ y)
  begun_more s y b q leaves = record {
    ended = b.ended;
    last = b.last ++ y;
    whole = ap (λ z. z ++ y) b.whole ∙ append_assoc b.ended b.last y;
    ends = b.ends;
    same = b.same;
    quiet = b.quiet;
    line = longer b.line q leaves;
  }

  -- the end of a line, with a carriage return or without one
  abbrev end_of : Bool → List ℕ
  end_of r = held r ++ 0x0a ∷ []

  pub feed_ended : (s : List ℕ) → Begun false s → (r : Bool) → By (s ++ end_of r) ≡ s ++ end_of r
  feed_ended s b r =
      let both : s ++ end_of r ≡ b.ended ++ (b.last ++ end_of r) =
      ap (λ z. z ++ end_of r) b.whole ∙ append_assoc b.ended b.last (end_of r) in
      ap By both ∙ by_append u limit admits b.ended (b.last ++ end_of r) b.ends
      ∙ ap (λ z. z ++ By (b.last ++ end_of r)) b.same
      ∙ ap (λ z. b.ended ++ z) (one_line b.last b.line r) ∙ sym both

  pub quiet_ended : (s : List ℕ) → Begun false s → (r : Bool)
      → IsQuiet u limit admits (s ++ end_of r)
  quiet_ended s b r =
      let (ls, e, quiet) = b.quiet in
      let l = b.last ++ end_of r in (
        ls ++ l ∷ [],
        ap (λ z. z ++ end_of r) b.whole ∙ append_assoc b.ended b.last (end_of r)
            ∙ ap (λ z. z ++ l) e ∙ joined_end ls l,
        quiet_end u limit admits ls l quiet (is_one b.last b.line r) (quiet_line b.last b.line r),
      )

  pub begun_feed : (s : List ℕ) → Begun false s → (r : Bool) → Begun false (s ++ end_of r)
  begun_feed s b r = record {
    ended = s ++ end_of r;
    last = [];
    whole = sym (append-nil (s ++ end_of r));
    ends = end_ends s r;
    same = feed_ended s b r;
    quiet = quiet_ended s b r;
    line = ([], nothing, refl);
  }

-- ---- between lines they are appended

-- nothing is unfinished at the end of a line
no_rest : (d r : List ℕ) → has_line_feed r ≡ false → ends_line true (d ++ r) ≡ true → r ≡ []
no_rest d [] none ends = refl
no_rest d (b ∷ r) none ends =
    let parts = or_parts (is_line_feed b) (has_line_feed r) none in
    let no : ends_line (ends_line true d) (b ∷ r) ≡ false =
    ap (λ f. ends_line f r) parts.0 ∙ no_end r parts.1 in
    let yes : ends_line (ends_line true d) (b ∷ r) ≡ true =
    sym (ends_append true d (b ∷ r)) ∙ ends in
    absurd (not_both no yes)
  where
    or_parts : (p q : Bool) → (p || q) ≡ false → (p ≡ false) × (q ≡ false)
    or_parts true q h = absurd cc
    or_parts false q h = (refl, h)

    not_both : {f : Bool} → f ≡ false → f ≡ true → ⊥
    not_both h k = let e : false ≡ true = sym h ∙ k in cc

pub plain_grows : {P A : Type 0} (u : Guard) (limit : ℕ) (admits : Value A → Bool) (r : Bool)
    (s y : List ℕ) (old new : LineFilter P A) → IsPassedText admits
    → (IsTrue r → ArePassedRenditions admits) → HasConsumedLines u limit admits s old
    → ends_line true s ≡ true → ArePlainLines A r y → new.filter ≡ old.filter
    → new.holds ≡ old.holds → new.has_failed ≡ old.has_failed → added_by new ≡ added_by old ++ y
    → GrowsBy u admits limit s y old new
plain_grows {A = A} u limit admits r s y old new texts all w ends lines same holds fails added =
    let none : w.rest ≡ [] =
    no_rest w.ended w.rest w.unended (subst (λ z. ends_line true z ≡ true) w.whole ends) in (
      y,
      (
        record {
          ended = s ++ y;
          rest = [];
          whole = sym (append-nil (s ++ y));
          ends = ends_append true s y ∙ ap (λ f. ends_line f y) ends ∙ lines.1;
          unended = refl;
          fed =
              subst (HasConsumedIn u true limit admits []) (sym same)
              (subst (λ z. HasConsumedIn u true limit admits (body z) old.filter) none w.fed);
          holds = holds ∙ w.holds ∙ ap (ends_return false) none;
          unfailed = fails ∙ w.unfailed;
        },
        by_append u limit admits s y ends
            ∙ ap (λ z. text_by_lines_as {A = A} u limit admits s ++ z)
            (lines.2 u limit admits texts all).0,
      ),
      added,
    )
