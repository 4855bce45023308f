-- The number of bytes of a page that the events of a stream pay for, byte by byte: an unfinished
-- segment keeps the credit that its bytes paid and no event has used yet.
use Rattle.std.proofs.Common.{ℕ, ◌≡◌, ◌≤◌, ◌+◌, ◌*◌, Bool, true, false, ◌&&◌, ◌||◌, if◌then◌else◌, List, [], ◌∷◌, ◌++◌, length, Option, refl, ap, ◌∙◌, arith}
use Rattle.std.proofs.lemmas.Bool.{leb-true}
use Rattle.std.proofs.lemmas.Grind.{flat_map-append}
use Rattle.std.proofs.lemmas.List.{append-nil, length-append}
use Rattle.esc_frame.specs.declared.classes.Class.{Class}
use Rattle.esc_frame.specs.declared.classes.Class.TheVariants.{C0, Bell, Intermediate, Parameter, Introducer, Final, Delete, High, Lead, Breaks}
use Rattle.esc_frame.specs.declared.classes.Breaker.TheVariants.{Cancel, Escape, C1Introducer, C1Terminator, C1}
use Rattle.esc_frame.specs.declared.classes.Kind.{Kind}
use Rattle.esc_frame.specs.declared.classes.Kind.TheVariants as kind
use Rattle.esc_frame.specs.declared.utf8.sequence.Outcome.{Outcome}
use Rattle.esc_frame.specs.declared.utf8.sequence.Outcome.TheVariants as outcomes
use Rattle.esc_frame.specs.Bodies.{is_csi_body}
use Rattle.esc_frame.specs.Classes.{class_of, in_csi, in_escape, in_osc, is_breaker, is_c0, is_c1, is_control, is_put, is_text, without_noise, bytes_of_class}
use Rattle.esc_frame.specs.Events.{Event}
use Rattle.esc_frame.specs.Events.Event.{Print, Execute, EscDispatch, CsiDispatch, OscDispatch, DcsHook, DcsPut, DcsUnhook, ApcDispatch}
use Rattle.esc_frame.specs.Leads.{Unfinished}
use Rattle.esc_frame.specs.Leads.Unfinished.{Ground, Pending, InEscape, InCsi, InOsc, InOscPending, InDcs, InData, InApc, InIgnored}
use Rattle.esc_frame.specs.Limits.{is_read, is_within}
use Rattle.esc_frame.specs.Machine.Moves.{Move, after_all, after_by, begins, emitting, events_all, events_by, final_escape, final_osc, goes_on, ground_move, hooks, move_inside, leaving, move, noise, unfinished_at_opener, osc_pending_move, pair_move, pending_move}
use Rattle.esc_frame.specs.Segments.{Opener, OscUnit, apc_events, csi_event, csi_events, escape_event, hook_event, is_empty, kept_of, osc_events, text_of}
use Rattle.esc_frame.specs.Segments.Opener.{Long, Raw, Pair}
use Rattle.esc_frame.specs.Segments.OscUnit.{One, Sequence, BrokenOff}
use Rattle.esc_frame.specs.Sequences.{is_pair, number_of, outcome}
use Rattle.esc_frame.proofs.Steps.MovesIgnoreLimit.{after_same}
use Rattle.esc_values.specs.Clear.{parts_of}
use Rattle.esc_html.proofs.Lengths.LengthOfAddress.{capped, capped_less, parts_size, parts_within}
use Rattle.esc_html.proofs.Lengths.LengthOfParts.{value_added, value_size, value_small}

-- the credit that an event uses: a character that is shown, an escape sequence that may begin a
-- line, a control sequence that may change the look, and a command that may have an address, which
-- may be written sixteen times
abbrev pub weight : Event → ℕ
weight (Print c) = 150
weight (Execute b) = 150
weight (EscDispatch is more f) = 150
weight (CsiDispatch es more f) = 144
weight (OscDispatch ps) = 144 + 16 * capped (parts_size ps)
weight (DcsHook f ps is more) = 0
weight (DcsPut b) = 0
weight DcsUnhook = 0
weight (ApcDispatch t) = 0

abbrev pub weights : List Event → ℕ
weights [] = 0
weights (e ∷ es) = weight e + weights es

pub weights_added : (es fs : List Event) → weights (es ++ fs) ≡ weights es + weights fs
weights_added [] fs = omega arith
weights_added (e ∷ es) fs = omega (arith, weights_added es fs)

-- the credit that is kept for an unfinished segment
abbrev pub unused : Unfinished → ℕ
unused Ground = 0
unused (Pending f) = 150
unused (InEscape x) = 0
unused (InCsi o x) = 0
unused (InDcs o x) = 0
unused (InData o x f d) = 0
unused (InApc o d) = 0
unused (InIgnored k o d) = 0
unused (InOsc o ps) = 144 + 16 * capped (value_size (text_of ps))
unused (InOscPending o ps f) = 144 + 16 * capped (value_size (text_of ps) + (3 + 6 * length f))

pub unused_most : (u : Unfinished) → unused u ≤ 200112
unused_most Ground = omega arith
unused_most (Pending f) = omega arith
unused_most (InEscape x) = omega arith
unused_most (InCsi o x) = omega arith
unused_most (InDcs o x) = omega arith
unused_most (InData o x f d) = omega arith
unused_most (InApc o d) = omega arith
unused_most (InIgnored k o d) = omega arith
unused_most (InOsc o ps) = omega arith
unused_most (InOscPending o ps f) = omega arith

abbrev used : Move → ℕ
used m = weights m.1 + unused m.0

emitting_used : (es : List Event) (m : Move) → used (emitting es m) ≡ weights es + used m
emitting_used es m = omega (arith, weights_added es m.1)

-- ---- if nothing is unfinished

opened_used : (k : Kind) (o : Opener) → unused (unfinished_at_opener k o) ≤ 144
opened_used kind.Csi o = leb-true 0 144 refl
opened_used kind.Osc o = leb-true 144 144 refl
opened_used kind.Dcs o = leb-true 0 144 refl
opened_used kind.Sos o = leb-true 0 144 refl
opened_used kind.Pm o = leb-true 0 144 refl
opened_used kind.Apc o = leb-true 0 144 refl

begins_used : (b : ℕ) (c : Class) → used (begins b c) ≤ 150
begins_used b (Breaks Escape) = leb-true 0 150 refl
begins_used b (Breaks (C1Introducer k)) = omega (arith, opened_used k Raw)
begins_used b (Breaks Cancel) = leb-true 0 150 refl
begins_used b (Breaks C1Terminator) = leb-true 0 150 refl
begins_used b (Breaks C1) = leb-true 0 150 refl
begins_used b Lead = leb-true 150 150 refl
begins_used b High = leb-true 150 150 refl
begins_used b C0 = leb-true 0 150 refl
begins_used b Bell = leb-true 0 150 refl
begins_used b Intermediate = leb-true 0 150 refl
begins_used b Parameter = leb-true 0 150 refl
begins_used b (Introducer k) = leb-true 0 150 refl
begins_used b Final = leb-true 0 150 refl
begins_used b Delete = leb-true 0 150 refl

ground_used : (b : ℕ) (c : Class) → used (ground_move b c) ≤ 150
ground_used b c = by (is_text c) (is_control c || is_c1 c)
  where
    by : (x y : Bool) → used (if x then (Ground, Print b ∷ []) else if y
        then (Ground, Execute b ∷ []) else begins b c) ≤ 150
    by true y = leb-true 150 150 refl
    by false true = leb-true 150 150 refl
    by false false = begins_used b c

executed_used : (b : ℕ) (x : Bool) → weights (if x then Execute b ∷ [] else []) ≤ 150
executed_used b true = leb-true 150 150 refl
executed_used b false = leb-true 0 150 refl

pair_used : (b : ℕ) (c : Class) → used (pair_move b c) ≤ 150
pair_used b (Breaks Escape) = leb-true 0 150 refl
pair_used b (Breaks (C1Introducer k)) = omega (arith, opened_used k Pair)
pair_used b (Breaks Cancel) = leb-true 0 150 refl
pair_used b (Breaks C1Terminator) = leb-true 0 150 refl
pair_used b (Breaks C1) = leb-true 150 150 refl
pair_used b Lead = leb-true 0 150 refl
pair_used b High = leb-true 0 150 refl
pair_used b C0 = leb-true 0 150 refl
pair_used b Bell = leb-true 0 150 refl
pair_used b Intermediate = leb-true 0 150 refl
pair_used b Parameter = leb-true 0 150 refl
pair_used b (Introducer k) = leb-true 0 150 refl
pair_used b Final = leb-true 0 150 refl
pair_used b Delete = leb-true 0 150 refl

-- ---- sequences

final_used : (x : List ℕ) (b : ℕ) (c : Class) → used (final_escape x b c) ≤ 150
final_used x b (Introducer k) = by (is_empty (without_noise x))
  where
    by : (y : Bool) → used (if y then (unfinished_at_opener k (Long x), [])
        else (Ground, escape_event (without_noise x) b ∷ [])) ≤ 150
    by true = omega (arith, opened_used k (Long x))
    by false = leb-true 150 150 refl
final_used x b (Breaks k) = leb-true 150 150 refl
final_used x b Lead = leb-true 150 150 refl
final_used x b High = leb-true 150 150 refl
final_used x b C0 = leb-true 150 150 refl
final_used x b Bell = leb-true 150 150 refl
final_used x b Intermediate = leb-true 150 150 refl
final_used x b Parameter = leb-true 150 150 refl
final_used x b Final = leb-true 150 150 refl
final_used x b Delete = leb-true 150 150 refl

csi_used : (x : List ℕ) (f : ℕ) → weights (csi_events x f) ≤ 144
csi_used x f = by (is_csi_body x)
  where
    by : (y : Bool) → weights (if y then csi_event x f ∷ [] else []) ≤ 144
    by true = leb-true 144 144 refl
    by false = leb-true 0 144 refl

-- ---- strings

osc_used : (limit : Option ℕ) (t : List ℕ)
    → weights (osc_events limit t) ≤ 144 + 16 * capped (value_size t)
osc_used limit t = by (is_within limit (length t))
  where
    by : (y : Bool) → weights (if y then OscDispatch (parts_of t) ∷ [] else [])
        ≤ 144 + 16 * capped (value_size t)
    by true = omega (arith, capped_less (parts_size (parts_of t)) (value_size t) (parts_within t))
    by false = omega arith

unhooked_used : (x : Bool) → weights (if x then DcsUnhook ∷ [] else []) ≤ 0
unhooked_used true = leb-true 0 0 refl
unhooked_used false = leb-true 0 0 refl

put_used : (x : Bool) (b : ℕ) → weights (if x then DcsPut b ∷ [] else []) ≤ 0
put_used true b = leb-true 0 0 refl
put_used false b = leb-true 0 0 refl

hooked_used : (limit : Option ℕ) (x : List ℕ) (b : ℕ) → weights (hooks limit x b) ≤ 0
hooked_used limit x b = by (is_read limit (without_noise x))
  where
    by : (y : Bool) → weights (if y then hook_event (without_noise x) b ∷ [] else []) ≤ 0
    by true = leb-true 0 0 refl
    by false = leb-true 0 0 refl

apc_used : (limit : Option ℕ) (t : List ℕ) → weights (apc_events limit t) ≤ 0
apc_used limit t = by (is_within limit (length t))
  where
    by : (y : Bool) → weights (if y then ApcDispatch t ∷ [] else []) ≤ 0
    by true = leb-true 0 0 refl
    by false = leb-true 0 0 refl

leaving_used : (limit : Option ℕ) (u : Unfinished) → weights (leaving limit u) ≤ unused u
leaving_used limit (InData o x f d) = unhooked_used (is_read limit (without_noise x))
leaving_used limit (InApc o d) = apc_used limit (bytes_of_class is_text d)
leaving_used limit (InOsc o ps) = osc_used limit (text_of ps)
leaving_used limit (InOscPending o ps f) =
    let t = value_size (text_of ps) in
    let more : t ≤ t + (3 + 6 * length f) = omega arith in
    omega (arith, osc_used limit (text_of ps), capped_less t (t + (3 + 6 * length f)) more)
leaving_used limit Ground = leb-true 0 0 refl
leaving_used limit (Pending f) = leb-true 0 150 refl
leaving_used limit (InEscape x) = leb-true 0 0 refl
leaving_used limit (InCsi o x) = leb-true 0 0 refl
leaving_used limit (InDcs o x) = leb-true 0 0 refl
leaving_used limit (InIgnored k o d) = leb-true 0 0 refl

-- one unit more of the text of an OSC
text_added : (ps : List OscUnit) (p : OscUnit)
    → value_size (text_of (ps ++ p ∷ [])) ≡ value_size (text_of ps) + value_size (kept_of p)
text_added ps p =
    ap value_size (flat_map-append kept_of ps (p ∷ []) ∙ ap (λ x. text_of ps ++ x)
    (append-nil (kept_of p))) ∙ value_added (text_of ps) (kept_of p)

one_small : (b : ℕ) → value_size (kept_of (One b)) ≤ 6
one_small b = by (is_text (class_of b))
  where
    by : (x : Bool) → value_size (if x then b ∷ [] else []) ≤ 6
    by true = omega (arith, value_small (b ∷ []))
    by false = leb-true 0 6 refl

-- ---- a byte in a sequence or a string

module _ (limit : Option ℕ) where
  final_osc_used : (o : Opener) (ps : List OscUnit) (b : ℕ) (c : Class)
      → used (final_osc limit o ps b c) ≤ unused (InOsc o ps) + 150
  final_osc_used o ps b Lead = omega arith
  final_osc_used o ps b _ = omega (arith, osc_used limit (text_of ps))

  goes_used : (u : Unfinished) (b : ℕ) (c : Class)
      → used (goes_on limit u b c) ≤ unused u + 150
  goes_used (InEscape x) b c = by (in_escape c)
    where
      by : (y : Bool) → used (if y then (InEscape (x ++ b ∷ []), noise b c)
          else final_escape x b c) ≤ 0 + 150
      by true = omega (arith, executed_used b (is_c0 c))
      by false = final_used x b c
  goes_used (InCsi o x) b c = by (in_csi c)
    where
      by : (y : Bool) → used (if y then (InCsi o (x ++ b ∷ []), noise b c)
          else (Ground, csi_events (without_noise x) b)) ≤ 0 + 150
      by true = omega (arith, executed_used b (is_c0 c))
      by false = omega (arith, csi_used (without_noise x) b)
  goes_used (InDcs o x) b c = by (in_csi c)
    where
      by : (y : Bool) → used (if y then (InDcs o (x ++ b ∷ []), [])
          else (InData o x b [], hooks limit x b)) ≤ 0 + 150
      by true = leb-true 0 150 refl
      by false = omega (arith, hooked_used limit x b)
  goes_used (InData o x f d) b c =
      omega (arith, put_used (is_read limit (without_noise x) && is_put c) b)
  goes_used (InApc o d) b c = leb-true 0 150 refl
  goes_used (InIgnored k o d) b c = leb-true 0 150 refl
  goes_used (InOsc o ps) b c = by (in_osc c)
    where
      by : (y : Bool) → used (if y then (InOsc o (ps ++ One b ∷ []), [])
          else final_osc limit o ps b c) ≤ unused (InOsc o ps) + 150
      by true = omega (arith, text_added ps (One b), one_small b)
      by false = final_osc_used o ps b c
  goes_used Ground b c = leb-true 0 150 refl
  goes_used (Pending f) b c = leb-true 150 300 refl
  goes_used (InOscPending o ps f) b c = omega arith

  inside_used : (u : Unfinished) (b : ℕ) (c : Class)
      → used (move_inside limit u b c) ≤ unused u + 150
  inside_used u b c = by (is_breaker c)
    where
      by : (y : Bool) → used (if y then emitting (leaving limit u) (ground_move b c)
          else goes_on limit u b c) ≤ unused u + 150
      by true =
          omega (
            arith,
            emitting_used (leaving limit u) (ground_move b c),
            leaving_used limit u,
            ground_used b c,
          )
      by false = goes_used u b c

  pending_used : (f : List ℕ) (b : ℕ) (c : Class) (w : Outcome)
      → used (pending_move f b c w) ≤ 150 + 150
  pending_used f b c outcomes.Whole = by (is_pair (f ++ b ∷ []))
    where
      by : (y : Bool) → used (if y then pair_move b c
          else (Ground, Print (number_of (f ++ b ∷ [])) ∷ [])) ≤ 150 + 150
      by true = omega (arith, pair_used b c)
      by false = leb-true 150 300 refl
  pending_used f b c outcomes.More = leb-true 150 300 refl
  pending_used f b c outcomes.Broken =
      omega (arith, emitting_used (Print 0xfffd ∷ []) (ground_move b c), ground_used b c)

  osc_pending_used : (o : Opener) (ps : List OscUnit) (f : List ℕ) (b : ℕ) (c : Class) (w : Outcome)
      → used (osc_pending_move limit o ps f b c w) ≤ unused (InOscPending o ps f) + 150
  osc_pending_used o ps f b c outcomes.Whole = by (is_pair (f ++ b ∷ []))
    where
      by : (y : Bool) → used (if y
          then emitting (leaving limit (InOscPending o ps f)) (pair_move b c)
          else (InOsc o (ps ++ Sequence (f ++ b ∷ []) ∷ []), []))
          ≤ unused (InOscPending o ps f) + 150
      by true =
          omega (
            arith,
            emitting_used (leaving limit (InOscPending o ps f)) (pair_move b c),
            leaving_used limit (InOscPending o ps f),
            pair_used b c,
          )
      by false =
          omega (
            arith,
            text_added ps (Sequence (f ++ b ∷ [])),
            value_small (f ++ b ∷ []),
            length-append f (b ∷ []),
          )
  osc_pending_used o ps f b c outcomes.More = omega (arith, length-append f (b ∷ []))
  osc_pending_used o ps f b c outcomes.Broken =
      let three : value_size (kept_of (BrokenOff f)) ≡ 3 = refl in
      let t = value_size (text_of ps) in
      let same : value_size (text_of (ps ++ BrokenOff f ∷ [])) ≡ t + 3 =
      text_added ps (BrokenOff f) ∙ ap (λ k. t + k) three in
      let more : t + 3 ≤ t + (3 + 6 * length f) = omega arith in
      omega (
        arith,
        inside_used (InOsc o (ps ++ BrokenOff f ∷ [])) b c,
        same,
        capped_less (t + 3) (t + (3 + 6 * length f)) more,
      )

  -- ---- any byte

  move_used : (u : Unfinished) (b : ℕ) (c : Class) → used (move limit u b c) ≤ unused u + 150
  move_used Ground b c = omega (arith, ground_used b c)
  move_used (Pending f) b c = pending_used f b c (outcome f b)
  move_used (InOscPending o ps f) b c = osc_pending_used o ps f b c (outcome f b)
  move_used (InEscape x) b c = inside_used (InEscape x) b c
  move_used (InCsi o x) b c = inside_used (InCsi o x) b c
  move_used (InDcs o x) b c = inside_used (InDcs o x) b c
  move_used (InData o x f d) b c = inside_used (InData o x f d) b c
  move_used (InApc o d) b c = inside_used (InApc o d) b c
  move_used (InIgnored k o d) b c = inside_used (InIgnored k o d) b c
  move_used (InOsc o ps) b c = inside_used (InOsc o ps) b c

  pub bytes_used : (u : Unfinished) (bs : List ℕ)
      → weights (events_all limit u bs) + unused (after_all u bs) ≤ unused u + 150 * length bs
  bytes_used u [] = omega arith
  bytes_used u (b ∷ bs) =
      let c = class_of b in
      let v = after_by u b c in
      omega (
        arith,
        weights_added (events_by limit u b c) (events_all limit v bs),
        move_used u b c,
        ap unused (after_same limit u b c),
        bytes_used v bs,
      )
