-- A carriage return that comes last in the output is a control by itself, and a line feed in its
-- place is one, too.
use Rattle.std.proofs.Common.{ℕ, ℤ, ◌≡◌, Bool, true, false, ◌&&◌, ◌==◌, if◌then◌else◌, List, [], ◌∷◌, ◌++◌, map, None, refl, sym, ap, ◌∙◌, append-nil, append_assoc}
use Rattle.std.proofs.lemmas.Bool.{true≢false}
use Rattle.std.proofs.lemmas.List.{append_cancel_left}
use Rattle.esc_device.specs.Kinds.{kind_of}
use Rattle.esc_device.specs.declared.kind.StringKind.{StringKind}
use Rattle.esc_device.specs.declared.kind.StringKind.TheVariants as kind
use Rattle.esc_frame.specs.Bodies.{dcs_intermediates, dcs_params, has_more_csi_params, has_more_intermediates, is_csi_body, kept_csi_params, kept_intermediates}
use Rattle.esc_frame.specs.Classes.{class_of, is_put, without_noise}
use Rattle.esc_frame.specs.Events.Event.{DcsPut}
use Rattle.esc_frame.specs.Leads.{Unfinished}
use Rattle.esc_frame.specs.Leads.Unfinished.{Ground, Pending, InEscape, InCsi, InOsc, InOscPending, InDcs, InData, InApc, InIgnored}
use Rattle.esc_frame.specs.Limits.{is_read}
use Rattle.esc_frame.specs.Machine.Moves.{after_all, after_by, events_all, is_ground, osc_pending_move, pending_move}
use Rattle.esc_frame.specs.Segments.{Opener, OscUnit, csi_event, hook_event}
use Rattle.esc_frame.specs.Sequences.{is_from, is_prefix, is_second, is_sequence, is_tail, outcome}
use Rattle.esc_frame.specs.Stream.{events_within}
use Rattle.esc_frame.specs.declared.utf8.sequence.Outcome.{Outcome}
use Rattle.esc_frame.specs.declared.utf8.sequence.Outcome.TheVariants as outcomes
use Rattle.esc_frame.proofs.Emits.EventsAreTheCuts.{after_append, events_append}
use Rattle.esc_sequences.specs.Csis.{CsiValue, csi_of}
use Rattle.esc_actions.proofs.Meaning.MeaningsJoin.{meaning_nil, values_append}
use Rattle.esc_actions.specs.ControlCodes.{code_of}
use Rattle.esc_actions.specs.Meaning.{Reads, meaning, meaning_within, mode_from, values_from}
use Rattle.esc_actions.specs.Values.{Mode, Value, plain, in_sixel, in_termcap, in_short, entered, control, csi, hook_values, print, taken_gives}
use Rattle.esc_actions.specs.declared.control_code.ControlCode.TheVariants.{CarriageReturn, LineFeed}

-- ---- a byte that is in no sequence of UTF-8

two : (x y : Bool) → y ≡ false → (x && y) ≡ false
two true y h = h
two false y h = refl

three : (x y z : Bool) → z ≡ false → (x && y && z) ≡ false
three true true z h = h
three true false z h = refl
three false y z h = refl

four : (w x y z : Bool) → z ≡ false → (w && x && y && z) ≡ false
four true true true z h = h
four true true false z h = refl
four true false y z h = refl
four false x y z h = refl

-- it comes neither first nor later
record IsAlone (b : ℕ) : Type 0 where
  first : is_from 0xc2 0xf4 b ≡ false
  tail : is_tail b ≡ false
  after_e0 : is_from 0xa0 0xbf b ≡ false
  after_ed : is_from 0x80 0x9f b ≡ false
  after_f0 : is_from 0x90 0xbf b ≡ false
  after_f4 : is_from 0x80 0x8f b ≡ false

module _ (b : ℕ) (i : IsAlone b) where
  never_second : (a : ℕ) → is_second a b ≡ false
  never_second a = by (a == 0xe0) (a == 0xed) (a == 0xf0) (a == 0xf4)
    where
      by : (p q r s : Bool) → (if p then is_from 0xa0 0xbf b else if q then is_from 0x80 0x9f b
          else if r then is_from 0x90 0xbf b else if s then is_from 0x80 0x8f b else is_tail b)
          ≡ false
      by true q r s = i.after_e0
      by false true r s = i.after_ed
      by false false true s = i.after_f0
      by false false false true = i.after_f4
      by false false false false = i.tail

  no_sequence : (f : List ℕ) → is_sequence (f ++ b ∷ []) ≡ false
  unfolding is_sequence
  no_sequence [] = refl
  no_sequence (a ∷ []) = two (is_from 0xc2 0xdf a) (is_tail b) i.tail
  no_sequence (a ∷ c ∷ []) = three (is_from 0xe0 0xef a) (is_second a c) (is_tail b) i.tail
  no_sequence (a ∷ c ∷ d ∷ []) =
      four (is_from 0xf0 0xf4 a) (is_second a c) (is_tail d) (is_tail b) i.tail
  no_sequence (a ∷ c ∷ d ∷ e ∷ []) = refl
  no_sequence (a ∷ c ∷ d ∷ e ∷ g ∷ f) = refl

  no_prefix : (f : List ℕ) → is_prefix (f ++ b ∷ []) ≡ false
  unfolding is_prefix
  no_prefix [] = i.first
  no_prefix (a ∷ []) = two (is_from 0xe0 0xf4 a) (is_second a b) (never_second a)
  no_prefix (a ∷ c ∷ []) = three (is_from 0xf0 0xf4 a) (is_second a c) (is_tail b) i.tail
  no_prefix (a ∷ c ∷ d ∷ []) = refl
  no_prefix (a ∷ c ∷ d ∷ e ∷ f) = refl

  breaks : (f : List ℕ) → outcome f b ≡ outcomes.Broken
  breaks f = rw (no_sequence f, no_prefix f) refl

alone : IsAlone 0x41
alone = record {
  first = refl;
  tail = refl;
  after_e0 = refl;
  after_ed = refl;
  after_f0 = refl;
  after_f4 = refl;
}

return_alone : IsAlone 0x0d
return_alone = record {
  first = refl;
  tail = refl;
  after_e0 = refl;
  after_ed = refl;
  after_f0 = refl;
  after_f4 = refl;
}

feed_alone : IsAlone 0x0a
feed_alone = record {
  first = refl;
  tail = refl;
  after_e0 = refl;
  after_ed = refl;
  after_f0 = refl;
  after_f4 = refl;
}

abbrev is_broken : Outcome → Bool
is_broken outcomes.Broken = true
is_broken _ = false

unbroken : (o : Outcome) → is_broken o ≡ false → o ≡ outcomes.Broken → ⊥
unbroken o e h = true≢false (sym (ap is_broken h) ∙ e)

no_ground : (s : Unfinished) → is_ground s ≡ false → s ≡ Ground → ⊥
no_ground s e h = true≢false (sym (ap is_ground h) ∙ e)

osc_stays : (o : Opener) (ps : List OscUnit) (f : List ℕ) (w : Outcome) → w ≡ outcomes.Broken
    → (osc_pending_move None o ps f 0x0d (class_of 0x0d) w).0 ≡ Ground → ⊥
unfolding class_of
osc_stays o ps f outcomes.Broken e h = no_ground _ refl h
osc_stays o ps f outcomes.Whole e h = unbroken outcomes.Whole refl e
osc_stays o ps f outcomes.More e h = unbroken outcomes.More refl e

-- ---- a text that goes on reads no letter as a character

module _ {A : Type 0} where
  abbrev IsLetter : List (Value A) → Type 0
  IsLetter vs = vs ≡ print 0x41 ∷ []

  -- whether it is one character
  abbrev is_lone : List (Value A) → Bool
  is_lone (print c ∷ []) = true
  is_lone _ = false

  no_letter : (vs : List (Value A)) → is_lone vs ≡ false → IsLetter vs → ⊥
  no_letter vs e h = true≢false (sym (ap is_lone h) ∙ e)

  csi_other : (cs : List CsiValue) → IsLetter (map csi cs ++ []) → ⊥
  csi_other [] h = no_letter _ refl h
  csi_other (c ∷ cs) h = no_letter _ refl h

  opened_other : (k : StringKind) (f : ℕ) (ps : List ℤ) (is : List ℕ) (more : Bool)
      → IsLetter (hook_values k f ps is more ++ []) → ⊥
  opened_other kind.Sixel f ps is more h = no_letter _ refl h
  opened_other kind.Termcap f ps is more h = no_letter _ refl h
  opened_other kind.Short f ps is more h = no_letter _ refl h
  opened_other kind.Other f ps is more h = no_letter _ refl h

  taken_other : (m : Mode) (b : ℕ) → IsLetter (taken_gives m b ++ []) → ⊥
  taken_other plain b h = no_letter _ refl h
  taken_other (in_sixel ps d) b h = no_letter _ refl h
  taken_other (in_termcap d) b h = no_letter _ refl h
  taken_other (in_short ps is f d) b h = no_letter _ refl h
  taken_other entered b h = no_letter _ refl h

  csi_goes_on : (m : Mode) (x : List ℕ) (t : Bool)
      → IsLetter (values_from None m ((if t then csi_event (without_noise x) 0x41 ∷ [] else [])
      ++ []))
      → ⊥
  csi_goes_on m x true h =
      csi_other (csi_of (kept_csi_params (without_noise x)) (has_more_csi_params (without_noise x))
      0x41) h
  csi_goes_on m x false h = no_letter _ refl h

  hook_goes_on : (m : Mode) (x : List ℕ) (t : Bool)
      → IsLetter (values_from None m ((if t then hook_event (without_noise x) 0x41 ∷ [] else [])
      ++ []))
      → ⊥
  hook_goes_on m x true h =
      let is = kept_intermediates (dcs_intermediates (without_noise x)) in
      let more = has_more_intermediates (dcs_intermediates (without_noise x)) in
      opened_other (kind_of 0x41 is more) 0x41 (dcs_params (without_noise x)) is more h
  hook_goes_on m x false h = no_letter _ refl h

  put_goes_on : (m : Mode) (t : Bool)
      → IsLetter (values_from None m ((if t then DcsPut 0x41 ∷ [] else []) ++ [])) → ⊥
  put_goes_on m true h = taken_other m 0x41 h
  put_goes_on m false h = no_letter _ refl h

  pending_goes_on : (m : Mode) (f : List ℕ) (o : Outcome) → o ≡ outcomes.Broken
      → IsLetter (values_from None m ((pending_move f 0x41 (class_of 0x41) o).1 ++ [])) → ⊥
  unfolding class_of
  pending_goes_on m f outcomes.Broken e h = no_letter _ refl h
  pending_goes_on m f outcomes.Whole e h = unbroken outcomes.Whole refl e
  pending_goes_on m f outcomes.More e h = unbroken outcomes.More refl e

  osc_goes_on : (m : Mode) (o : Opener) (ps : List OscUnit) (f : List ℕ) (w : Outcome)
      → w ≡ outcomes.Broken → IsLetter (values_from None m
      ((osc_pending_move None o ps f 0x41 (class_of 0x41) w).1 ++ [])) → ⊥
  unfolding class_of
  osc_goes_on m o ps f outcomes.Broken e h = no_letter _ refl h
  osc_goes_on m o ps f outcomes.Whole e h = unbroken outcomes.Whole refl e
  osc_goes_on m o ps f outcomes.More e h = unbroken outcomes.More refl e

  at_ground : (m : Mode) (s : Unfinished)
      → IsLetter (values_from None m (events_all None s (0x41 ∷ []))) → s ≡ Ground
  unfolding class_of
  at_ground m Ground h = refl
  at_ground m (Pending f) h =
      absurd (pending_goes_on m f (outcome f 0x41) (breaks 0x41 alone f) h)
  at_ground m (InEscape x) h = absurd (no_letter _ refl h)
  at_ground m (InCsi o x) h = absurd (csi_goes_on m x (is_csi_body (without_noise x)) h)
  at_ground m (InDcs o x) h = absurd (hook_goes_on m x (is_read None (without_noise x)) h)
  at_ground m (InData o x f d) h =
      absurd (put_goes_on m (is_read None (without_noise x) && is_put (class_of 0x41)) h)
  at_ground m (InApc o d) h = absurd (no_letter _ refl h)
  at_ground m (InIgnored k o d) h = absurd (no_letter _ refl h)
  at_ground m (InOsc o ps) h = absurd (no_letter _ refl h)
  at_ground m (InOscPending o ps f) h =
      absurd (osc_goes_on m o ps f (outcome f 0x41) (breaks 0x41 alone f) h)

  pub reads_whole : (t : List ℕ) (vs : List (Value A)) → Reads t vs → meaning t ≡ vs
  reads_whole t vs h =
      ap meaning (sym (append-nil t)) ∙ h [] ∙ ap (λ x. vs ++ x) (meaning_nil None)
      ∙ append-nil vs

  -- some bytes, and then more
  means_more : (t b : List ℕ) → meaning {A = A} (t ++ b) ≡ meaning t
      ++ values_from None (mode_from plain (events_within None t))
      (events_all None (after_all Ground t) b)
  unfolding meaning_within events_within
  means_more t b =
      ap (values_from None plain) (events_append None Ground t b)
      ∙ values_append None plain (events_all None Ground t)
      (events_all None (after_all Ground t) b)

  letter_means : meaning {A = A} (0x41 ∷ []) ≡ print 0x41 ∷ []
  unfolding meaning_within events_within class_of
  letter_means = refl

  -- nothing is unfinished after a text that reads by itself
  pub ground_of : (t : List ℕ) (vs : List (Value A)) → Reads t vs → after_all Ground t ≡ Ground
  ground_of t vs h =
      let m = mode_from plain (events_within None t) in
      let s = after_all Ground t in
      at_ground m s (append_cancel_left vs _ _
      (ap (λ x. x ++ values_from None m (events_all None s (0x41 ∷ []))) (sym (reads_whole t vs h))
      ∙ sym (means_more t (0x41 ∷ [])) ∙ h (0x41 ∷ []) ∙ ap (λ x. vs ++ x) letter_means))

  -- ---- before a carriage return

  abbrev BothEnd : (ℕ → List (Value A)) → Type 0
  BothEnd means = (xs : List (Value A)) × (means 0x0d ≡ xs ++ control CarriageReturn ∷ [])
      × (means 0x0a ≡ xs ++ control LineFeed ∷ [])

  broken_by : (m : Mode) (f : List ℕ) (w z : Outcome) → w ≡ outcomes.Broken
      → z ≡ outcomes.Broken
      → (values_from {A = A} None m ((pending_move f 0x0d (class_of 0x0d) w).1 ++ [])
      ≡ print 0xfffd ∷ control CarriageReturn ∷ [])
      × (values_from {A = A} None m ((pending_move f 0x0a (class_of 0x0a) z).1 ++ [])
      ≡ print 0xfffd ∷ control LineFeed ∷ [])
  unfolding class_of code_of
  broken_by m f outcomes.Broken outcomes.Broken e d = (refl, refl)
  broken_by m f outcomes.Whole z e d = absurd (unbroken outcomes.Whole refl e)
  broken_by m f outcomes.More z e d = absurd (unbroken outcomes.More refl e)
  broken_by m f outcomes.Broken outcomes.Whole e d =
      absurd (unbroken outcomes.Whole refl d)
  broken_by m f outcomes.Broken outcomes.More e d =
      absurd (unbroken outcomes.More refl d)

  before_return : (m : Mode) (s : Unfinished) → after_by s 0x0d (class_of 0x0d) ≡ Ground
      → BothEnd (λ b. values_from None m (events_all None s (b ∷ [])))
  unfolding class_of code_of
  before_return m Ground h = ([], refl, refl)
  before_return m (Pending f) h =
      let both = broken_by m f (outcome f 0x0d) (outcome f 0x0a) (breaks 0x0d return_alone f)
      (breaks 0x0a feed_alone f) in (print 0xfffd ∷ [], both.0, both.1)
  before_return m (InEscape x) h = absurd (no_ground _ refl h)
  before_return m (InCsi o x) h = absurd (no_ground _ refl h)
  before_return m (InDcs o x) h = absurd (no_ground _ refl h)
  before_return m (InData o x f d) h = absurd (no_ground _ refl h)
  before_return m (InApc o d) h = absurd (no_ground _ refl h)
  before_return m (InIgnored k o d) h = absurd (no_ground _ refl h)
  before_return m (InOsc o ps) h = absurd (no_ground _ refl h)
  before_return m (InOscPending o ps f) h =
      absurd (osc_stays o ps f (outcome f 0x0d) (breaks 0x0d return_alone f) h)

  pub last_return : (t : List ℕ) (vs : List (Value A)) → Reads (t ++ 0x0d ∷ []) vs
      → BothEnd (λ b. meaning (t ++ b ∷ []))
  last_return t vs h =
      let m = mode_from plain (events_within None t) in
      let s = after_all Ground t in
      let (xs, e, d) = before_return m s
      (sym (after_append Ground t (0x0d ∷ [])) ∙ ground_of (t ++ 0x0d ∷ []) vs h) in (
        meaning t ++ xs,
        means_more t (0x0d ∷ []) ∙ ap (λ x. meaning t ++ x) e
            ∙ sym (append_assoc (meaning t) xs (control CarriageReturn ∷ [])),
        means_more t (0x0a ∷ []) ∙ ap (λ x. meaning t ++ x) d
            ∙ sym (append_assoc (meaning t) xs (control LineFeed ∷ [])),
      )
