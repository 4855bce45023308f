-- Bytes of the header of a device control string that lie in a later chunk than its opener.
use Rattle.std.proofs.Common.{ℕ, ◌≡◌, ◌≢◌, ◌≤◌, Bool, true, false, ◌&&◌, List, [], ◌∷◌, ◌++◌, take, length, length-take, refl, ap, sym, ◌∙◌, subst, Some, Option, min, if◌then◌else◌, arith}
use Rattle.std.proofs.lemmas.Bool.Decides.{nat_tests}
use Rattle.std.proofs.lemmas.List.Elements.{filter-append}
use Rattle.esc_frame.specs.declared.classes.Class.{Class}
use Rattle.esc_frame.specs.declared.unfinished.body.Form.TheVariants as forms
use Rattle.esc_frame.specs.Bodies.{is_dcs_header, is_dcs_parameter}
use Rattle.esc_frame.specs.Classes.{class_of, without_noise, is_noise, is_breaker, in_csi}
use Rattle.esc_frame.specs.Leads.Unfinished.{InDcs, InData}
use Rattle.esc_frame.specs.Limits.{is_read, is_within, header_count}
use Rattle.esc_frame.specs.Machine.Keeps.{form_by, next_form_by, is_formed, parameters_of, others_of}
use Rattle.esc_frame.specs.Machine.Moves.{after_all, events_all, emitting, ground_move, leaving, goes_on, hooks, move}
use Rattle.esc_frame.specs.Scans.{is_body_byte}
use Rattle.esc_frame.specs.Segments.{Opener, hook_event}
use Rattle.esc_frame.proofs.Cut.OneByteMore.{noise_strip}
use Rattle.esc_frame.proofs.ByteRuns.CsiRuns.{body_strip, final_byte}
use Rattle.esc_frame.proofs.Steps.FormsGrow.{push_by}
use Rattle.esc_frame.proofs.Steps.HeadersAreKept.{header_formed, hook_is, others_push, others_same}
use Rattle.heapless_parser.specs.declared.event.EscEvent.{EscEvent}
use Rattle.heapless_parser.specs.declared.parser.EscParser.{EscParser}
use Rattle.heapless_parser.specs.Numbers.{state_numbered, form_numbered}
use Rattle.heapless_parser.specs.Runs.{PassesIn, Steps}
use Rattle.heapless_parser.specs.States.{KeptIn, FirstIn, HeaderIn, TextIn}
use Rattle.heapless_parser.specs.Emitted.{sent_events, text_of, intermediates_of}
use Rattle.heapless_parser.proofs.InChunks.OneByteLater.{by_move, moves_on}
use Rattle.heapless_parser.proofs.KeptState.StateHasOnly.{in_header_only}
use Rattle.heapless_parser.proofs.InChunks.OscBytes.{not_false}
use Rattle.heapless_parser.proofs.KeptState.NumbersPastLimit.{formed_number}
use Rattle.heapless_parser.proofs.InChunks.EscapeBytes.{noise_goes}

-- ---- a byte more

pub parameters_push : (x : List ℕ) (b : ℕ) → is_dcs_parameter b ≡ true
    → parameters_of x ++ b ∷ [] ≡ parameters_of (x ++ b ∷ [])
parameters_push x b is = sym (filter-append is_dcs_parameter x (b ∷ []) ∙ rw is refl)

module _ (p q : EscParser) (x : List ℕ) (b : ℕ) (h : HeaderIn p x)
    (next : form_numbered q.form ≡ next_form_by is_dcs_parameter (form_numbered p.form) b) where
  form_more : form_numbered q.form ≡ form_by is_dcs_parameter forms.Empty (x ++ b ∷ [])
  form_more = next ∙ ap (λ f. next_form_by is_dcs_parameter f b) h.1
      ∙ sym (push_by is_dcs_parameter forms.Empty x b)

  pub parameter_more : is_dcs_parameter b ≡ true
      → ((y : List ℕ) → FirstIn p y → FirstIn q y) → HeaderIn q (x ++ b ∷ [])
  parameter_more is same =
      (subst (FirstIn q) (others_same x b is) (same (others_of x) h.0), form_more)

  pub other_more : is_dcs_parameter b ≡ false
      → ((y : List ℕ) → FirstIn p y → FirstIn q (y ++ b ∷ [])) → HeaderIn q (x ++ b ∷ [])
  other_more is more =
      (subst (FirstIn q) (others_push x b is) (more (others_of x) h.0), form_more)

body_goes : (b : ℕ) → is_body_byte b ≡ true
    → (is_breaker (class_of b) ≡ false) × (in_csi (class_of b) ≡ true)
unfolding class_of
body_goes b h = (grind (arith, nat_tests), grind (arith, nat_tests))

-- the byte breaks nothing off and ends nothing
stays : (l : Option ℕ) (o : Opener) (x : List ℕ) (b : ℕ) → is_breaker (class_of b) ≡ false
    → in_csi (class_of b) ≡ true
    → move l (InDcs o x) b (class_of b) ≡ (InDcs o (x ++ b ∷ []), [])
stays l o x b off goes =
    ap (λ t. if t then emitting (leaving l (InDcs o x)) (ground_move b (class_of b)) else
    goes_on l (InDcs o x) b (class_of b)) off
    ∙ ap (λ t. if t then (InDcs o (x ++ b ∷ []), []) else (InData o x b [], hooks l x b)) goes

pub header_passes : (p q : EscParser) (memory after : List ℕ) (b : ℕ) → p.state ≡ 4
    → q.state ≡ p.state → is_body_byte b ≡ true
    → ((x : List ℕ) → TextIn p memory (parameters_of x)
    → TextIn q after (parameters_of (x ++ b ∷ [])))
    → ((x : List ℕ) → HeaderIn p x → HeaderIn q (x ++ b ∷ []))
    → PassesIn p q memory after (b ∷ [])
header_passes p q memory after b four same body text header = λ u h.
    in_header_only p memory (λ u. KeptIn q after (after_all u (b ∷ []))
    × (events_all (Some (length memory)) u (b ∷ []) ≡ [])) four
    (λ o x t i.
    let g = body_goes b body in
    let e = sym (body_strip x (b ∷ []) (rw body refl)) in
    moves_on q after (Some (length memory)) (InDcs o x) (InDcs o (x ++ b ∷ [])) b
    (stays (Some (length memory)) o x b g.0 g.1) (
      ap state_numbered (same ∙ four),
      subst (λ y. TextIn q after (parameters_of y)) e (text (without_noise x) t),
      subst (HeaderIn q) e (header (without_noise x) i),
    )) u h

-- noise
pub header_noise : (p : EscParser) (memory : List ℕ) (b : ℕ) (c : Class) → p.state ≡ 4
    → c ≡ class_of b → is_noise c ≡ true → PassesIn p p memory memory (b ∷ [])
header_noise p memory b c four is noise = λ u h.
    in_header_only p memory (λ u. KeptIn p memory (after_all u (b ∷ []))
    × (events_all (Some (length memory)) u (b ∷ []) ≡ [])) four
    (λ o x t i.
    let g = noise_goes (class_of b) (subst (λ d. is_noise d ≡ true) is noise) in
    let e = noise_strip x b c c is refl noise in
    moves_on p memory (Some (length memory)) (InDcs o x) (InDcs o (x ++ b ∷ [])) b
    (stays (Some (length memory)) o x b g.0 g.2) (
      ap state_numbered four,
      subst (λ y. TextIn p memory (parameters_of y)) e t,
      subst (HeaderIn p) e i,
    )) u h

-- a byte that breaks it off
pub header_breaks : (p q : EscParser) (e : EscEvent) (memory out : List ℕ) (b : ℕ) → p.state ≡ 4
    → is_breaker (class_of b) ≡ true → KeptIn q memory (ground_move b (class_of b)).0
    → sent_events e out ≡ (ground_move b (class_of b)).1 → Steps p q e out memory memory (b ∷ [])
header_breaks p q e memory out b four is keeps says = λ u h.
    let l = Some (length memory) in
    let m = ground_move b (class_of b) in
    in_header_only p memory (λ u. KeptIn q memory (after_all u (b ∷ []))
    × (sent_events e out ≡ events_all l u (b ∷ []))) four
    (λ o x t i.
    let k = by_move l (InDcs o x) m.0 b m.1
    (ap (λ t. if t then emitting (leaving l (InDcs o x)) (ground_move b (class_of b)) else
    goes_on l (InDcs o x) b (class_of b)) is) in
    (subst (KeptIn q memory) (sym k.0) keeps, says ∙ sym k.1)) u h

-- ---- the final byte

ends : (l : Option ℕ) (o : Opener) (x : List ℕ) (b : ℕ) → 0x40 ≤ b → b ≤ 0x7e
    → move l (InDcs o x) b (class_of b) ≡ (InData o x b [], hooks l x b)
ends l o x b low high =
    let g = final_byte b low high in
    ap (λ t. if t then emitting (leaving l (InDcs o x)) (ground_move b (class_of b)) else
    goes_on l (InDcs o x) b (class_of b)) g.0
    ∙ ap (λ t. if t then (InDcs o (x ++ b ∷ []), []) else (InData o x b [], hooks l x b)) g.1

module _ (p q : EscParser) (e : EscEvent) (memory out : List ℕ) (b : ℕ) (four : p.state ≡ 4)
    (low : 0x40 ≤ b) (high : b ≤ 0x7e) where
  -- the header or body has another form
  pub malformed_steps : p.form ≡ 3 → q.state ≡ 6 → e.kind ≡ 0
      → Steps p q e out memory memory (b ∷ [])
  malformed_steps three six none = λ u h.
      let l = Some (length memory) in
      in_header_only p memory (λ u. KeptIn q memory (after_all u (b ∷ []))
      × (sent_events e out ≡ events_all l u (b ∷ []))) four
      (λ o x t i.
      let s = without_noise x in
      let formed : is_dcs_header s ≡ false =
      sym (header_formed s) ∙ ap is_formed (sym i.1 ∙ ap form_numbered three) in
      let read : is_read l s ≡ false = unread (is_within l (header_count s)) _ formed in
      let k = by_move l (InDcs o x) (InData o x b []) b []
      (ends l o x b low high
      ∙ ap (λ t. (InData o x b [], if t then hook_event s b ∷ [] else [])) read) in (
        subst (KeptIn q memory) (sym k.0) (rw read (ap state_numbered six)),
        rw none (sym k.1),
      )) u h
    where
      unread : (s t : Bool) → t ≡ false → (s && t) ≡ false
      unread true t h = h
      unread false t h = refl

  -- the header or body has its form
  pub hook_steps : p.is_over ≡ false → p.form ≢ 3 → q.state ≡ 5 → e.kind ≡ 7 → e.byte ≡ b
      → text_of e out ≡ take p.text memory → e.intermediates ≡ p.intermediates
      → e.kept ≡ min p.kept 2 → e.has_more ≡ p.has_more → Steps p q e out memory memory (b ∷ [])
  hook_steps off other five kind byte text list kept more = λ u h.
      let l = Some (length memory) in
      in_header_only p memory (λ u. KeptIn q memory (after_all u (b ∷ []))
      × (sent_events e out ≡ events_all l u (b ∷ []))) four
      (λ o x t i.
      let s = without_noise x in
      let formed : is_dcs_header s ≡ true =
      sym (header_formed s) ∙ ap is_formed (sym i.1) ∙ formed_number p.form other in
      let within : is_within l (header_count s) ≡ true = not_false _ (sym t.0 ∙ off) in
      let read : is_read l s ≡ true = rw (within, formed) refl in
      let most : p.kept ≤ 2 = omega (arith, length-take 2 (others_of s), i.0.2) in
      let few : min p.kept 2 ≡ p.kept = omega (arith, most) in
      let items : intermediates_of e ≡ take p.kept p.intermediates =
      ap (λ n. take n e.intermediates) (kept ∙ few) ∙ ap (take p.kept) list in
      let k = by_move l (InDcs o x) (InData o x b []) b (hook_event s b ∷ [])
      (ends l o x b low high
      ∙ ap (λ t. (InData o x b [], if t then hook_event s b ∷ [] else [])) read) in (
        subst (KeptIn q memory) (sym k.0) (rw read (ap state_numbered five)),
        rw (kind, byte, more)
            (ap (λ d. d ∷ []) (hook_is (record {
              form = form_numbered p.form;
              intermediates = record {
                bytes = p.intermediates;
                kept = p.kept;
                ignored = p.has_more;
                fits = most;
              };
            }) s (text_of e out) (intermediates_of e) _ b formed i (text ∙ (t.1 off).1) refl items))
            ∙ sym k.1,
      )) u h
