-- The events of a step have room.
use Rattle.std.proofs.Common.{ℕ, zero, suc, ◌≡◌, ◌≢◌, ◌+◌, ◌≤◌, ◌<◌, Bool, true, false, ◌&&◌, List, [], ◌∷◌, ◌++◌, take, drop, length, if◌then◌else◌}
use Rattle.std.proofs.Common.{refl, ap, sym, ◌∙◌, subst, Some, Option, arith, length-take, inl, inr}
use Rattle.std.proofs.Math.Seq.{take-add}
use Rattle.std.proofs.lemmas.List.{append-nil}
use Rattle.esc_values.specs.Clear.{parts_of}
use Rattle.esc_values.proofs.Clear.SplitAndJoined.{joined_parts}
use Rattle.esc_frame.specs.declared.classes.Class.{Class}
use Rattle.esc_frame.specs.declared.classes.Class.TheVariants.{Introducer, Lead, Breaks}
use Rattle.esc_frame.specs.declared.classes.Breaker.TheVariants.{Escape, C1Introducer, C1Terminator, C1}
use Rattle.esc_frame.specs.declared.utf8.sequence.Outcome.{Outcome}
use Rattle.esc_frame.specs.declared.utf8.sequence.Outcome.TheVariants as outcomes
use Rattle.esc_frame.specs.Bodies.{is_csi_body, csi_params, kept_csi_params, dcs_intermediates}
use Rattle.esc_frame.specs.Classes.{class_of, without_noise, bytes_of_class, is_text, is_breaker, is_c0, in_escape, in_csi, in_osc, is_put}
use Rattle.esc_frame.specs.Events.{Event, StopsAt}
use Rattle.esc_frame.specs.Events.Event.{Print, Execute, OscDispatch, DcsPut, DcsUnhook, ApcDispatch}
use Rattle.esc_frame.specs.Leads.{Unfinished}
use Rattle.esc_frame.specs.Leads.Unfinished.{Ground, Pending, InEscape, InCsi, InOsc, InOscPending, InDcs, InData, InApc, InIgnored}
use Rattle.esc_frame.specs.Limits.{is_within, is_read}
use Rattle.esc_frame.specs.Machine.Calls.{Fails}
use Rattle.esc_frame.specs.Machine.Moves.{Move, unfinished_at_opener, emitting, ground_move, pair_move, noise, final_escape, hooks, leaving, final_osc, goes_on, move_inside}
use Rattle.esc_frame.specs.Machine.Moves.{pending_move, osc_pending_move, after_all, events_all, events_by, IsStill}
use Rattle.esc_frame.specs.Segments.{Opener, OscUnit, text_of, is_empty, escape_event, csi_event, csi_events, hook_event}
use Rattle.esc_frame.specs.Segments.Opener.{Long}
use Rattle.esc_frame.specs.Segments.OscUnit.{One, Sequence, BrokenOff}
use Rattle.esc_frame.specs.Sequences.{is_pair, number_of, outcome}
use Rattle.esc_frame.proofs.Emits.EventsAreTheCuts.{events_append}
use Rattle.heapless_parser.specs.Noted.{HasRoom, can_wait, AreNotable}
use Rattle.heapless_parser.proofs.InChunks.CommandsLieWhole.{within_only}

module _ (room place : ℕ) (less : room ≤ place) where
  abbrev limit : Option ℕ
  limit = Some room

  -- there is no event, or one that has room
  abbrev First : List Event → Type 0
  First [] = Unit {0}
  First (e ∷ []) = HasRoom place e
  First _ = ⊥

  -- there is no event, or one that can wait
  abbrev Waits : List Event → Type 0
  Waits [] = Unit {0}
  Waits (d ∷ []) = can_wait d ≡ true
  Waits _ = ⊥

  waits_room : (d : Event) → can_wait d ≡ true → HasRoom place d
  waits_room (Print c) h = tt
  waits_room (Execute b) h = tt
  waits_room _ h = absurd cc

  both : (xs ys : List Event) → First xs → Waits ys → AreNotable place (xs ++ ys)
  both [] [] f w = tt
  both [] (d ∷ []) f w = waits_room d w
  both [] (d ∷ e ∷ ys) f w = absurd w
  both (x ∷ []) [] f w = f
  both (x ∷ []) (d ∷ []) f w = (f, w)
  both (x ∷ []) (d ∷ e ∷ ys) f w = absurd w
  both (x ∷ y ∷ xs) ys f w = absurd f

  first_notable : (xs : List Event) → First xs → AreNotable place xs
  first_notable [] f = tt
  first_notable (x ∷ []) f = f
  first_notable (x ∷ y ∷ xs) f = absurd f

  if_first : (t : Bool) (e : Event) → (t ≡ true → HasRoom place e)
      → First (if t then e ∷ [] else [])
  if_first true e h = h refl
  if_first false e h = tt

  -- ---- a byte in ground

  ground_waits : (b : ℕ) (c : Class) → Waits (ground_move b c).1
  ground_waits b (Breaks Escape) = tt
  ground_waits b (Breaks (C1Introducer k)) = tt
  ground_waits b (Breaks C1Terminator) = tt
  ground_waits b Lead = tt
  ground_waits b _ = refl

  pair_waits : (b : ℕ) (c : Class) → Waits (pair_move b c).1
  pair_waits b (Breaks C1) = refl
  pair_waits b _ = tt

  -- ---- a byte in a sequence or a string

  text_room : (n : ℕ) → is_within limit n ≡ true → n ≤ place
  text_room n h = omega (arith, within_only room n h, less)

  osc_first : (t : List ℕ)
      → First (if is_within limit (length t) then OscDispatch (parts_of t) ∷ [] else [])
  osc_first t =
      if_first (is_within limit (length t)) (OscDispatch (parts_of t))
      (λ w. subst (λ y. length y ≤ place) (sym (joined_parts t)) (text_room (length t) w))

  leaving_first : (u : Unfinished) → First (leaving limit u)
  leaving_first (InData o x f d) = if_first (is_read limit (without_noise x)) DcsUnhook (λ _. tt)
  leaving_first (InApc o d) =
      if_first (is_within limit (length (bytes_of_class is_text d)))
      (ApcDispatch (bytes_of_class is_text d))
      (text_room (length (bytes_of_class is_text d)))
  leaving_first (InOsc o ps) = osc_first (text_of ps)
  leaving_first (InOscPending o ps f) = osc_first (text_of ps)
  leaving_first _ = tt

  escape_room : (x : List ℕ) (b : ℕ) → HasRoom place (escape_event x b)
  escape_room x b = omega (arith, length-take 2 x)

  pick : (t : Bool) (m n : Move) → First m.1 → First n.1 → First (if t then m else n).1
  pick true m n a b = a
  pick false m n a b = b

  noise_first : (b : ℕ) (c : Class) → First (noise b c)
  noise_first b c = if_first (is_c0 c) (Execute b) (λ _. tt)

  final_first : (x : List ℕ) (b : ℕ) (c : Class) → First (final_escape x b c).1
  final_first x b (Introducer k) =
      pick (is_empty (without_noise x)) (unfinished_at_opener k (Long x), [])
      (Ground, escape_event (without_noise x) b ∷ []) tt
      (escape_room (without_noise x) b)
  final_first x b _ = escape_room (without_noise x) b

  csi_room : (x : List ℕ) → length (kept_csi_params x) ≤ 256
  unfolding kept_csi_params
  csi_room x = omega (arith, length-take 256 (csi_params x))

  csi_first : (x : List ℕ) (b : ℕ) → First (csi_events x b)
  csi_first x b = if_first (is_csi_body x) (csi_event x b) (λ _. csi_room x)

  hooks_first : (x : List ℕ) (b : ℕ) → First (hooks limit x b)
  hooks_first x b =
      if_first (is_read limit (without_noise x)) (hook_event (without_noise x) b)
      (λ _. omega (arith, length-take 2 (dcs_intermediates (without_noise x))))

  final_osc_first : (o : Opener) (ps : List OscUnit) (b : ℕ) (c : Class)
      → First (final_osc limit o ps b c).1
  final_osc_first o ps b Lead = tt
  final_osc_first o ps b _ = leaving_first (InOsc o ps)

  goes_first : (u : Unfinished) (b : ℕ) (c : Class) → First (goes_on limit u b c).1
  goes_first (InEscape x) b c =
      pick (in_escape c) (InEscape (x ++ b ∷ []), noise b c) (final_escape x b c) (noise_first b c)
      (final_first x b c)
  goes_first (InCsi o x) b c =
      pick (in_csi c) (InCsi o (x ++ b ∷ []), noise b c) (Ground, csi_events (without_noise x) b)
      (noise_first b c) (csi_first (without_noise x) b)
  goes_first (InDcs o x) b c =
      pick (in_csi c) (InDcs o (x ++ b ∷ []), []) (InData o x b [], hooks limit x b) tt
      (hooks_first x b)
  goes_first (InData o x f d) b c =
      if_first (is_read limit (without_noise x) && is_put c) (DcsPut b) (λ _. tt)
  goes_first (InApc o d) b c = tt
  goes_first (InIgnored k o d) b c = tt
  goes_first (InOsc o ps) b c =
      pick (in_osc c) (InOsc o (ps ++ One b ∷ []), []) (final_osc limit o ps b c) tt
      (final_osc_first o ps b c)
  goes_first Ground b c = tt
  goes_first (Pending f) b c = tt
  goes_first (InOscPending o ps f) b c = tt

  choose : (t : Bool) (m n : Move) → AreNotable place m.1 → AreNotable place n.1
      → AreNotable place (if t then m else n).1
  choose true m n a b = a
  choose false m n a b = b

  inside_notable : (u : Unfinished) (b : ℕ) (c : Class)
      → AreNotable place (move_inside limit u b c).1
  inside_notable u b c =
      choose (is_breaker c) (emitting (leaving limit u) (ground_move b c)) (goes_on limit u b c)
      (both (leaving limit u) (ground_move b c).1 (leaving_first u) (ground_waits b c))
      (first_notable (goes_on limit u b c).1 (goes_first u b c))

  -- ---- any byte

  waits_notable : (xs : List Event) → Waits xs → AreNotable place xs
  waits_notable xs w = both [] xs tt w

  pending_notable : (f : List ℕ) (b : ℕ) (c : Class) (o : Outcome)
      → AreNotable place (pending_move f b c o).1
  pending_notable f b c outcomes.Whole =
      choose (is_pair (f ++ b ∷ [])) (pair_move b c) (Ground, Print (number_of (f ++ b ∷ [])) ∷ [])
      (waits_notable (pair_move b c).1 (pair_waits b c)) tt
  pending_notable f b c outcomes.More = tt
  pending_notable f b c outcomes.Broken =
      both (Print 0xfffd ∷ []) (ground_move b c).1 tt (ground_waits b c)

  osc_pending_notable : (o : Opener) (ps : List OscUnit) (f : List ℕ) (b : ℕ) (c : Class)
      (w : Outcome)
      → AreNotable place (osc_pending_move limit o ps f b c w).1
  osc_pending_notable o ps f b c outcomes.Whole =
      choose (is_pair (f ++ b ∷ []))
      (emitting (leaving limit (InOscPending o ps f)) (pair_move b c))
      (InOsc o (ps ++ Sequence (f ++ b ∷ []) ∷ []), [])
      (both (leaving limit (InOscPending o ps f)) (pair_move b c).1
      (leaving_first (InOscPending o ps f)) (pair_waits b c)) tt
  osc_pending_notable o ps f b c outcomes.More = tt
  osc_pending_notable o ps f b c outcomes.Broken =
      inside_notable (InOsc o (ps ++ BrokenOff f ∷ [])) b c

  move_notable : (u : Unfinished) (b : ℕ) (c : Class) → AreNotable place (events_by limit u b c)
  move_notable Ground b c = waits_notable (ground_move b c).1 (ground_waits b c)
  move_notable (Pending f) b c = pending_notable f b c (outcome f b)
  move_notable (InOscPending o ps f) b c = osc_pending_notable o ps f b c (outcome f b)
  move_notable (InEscape x) b c = inside_notable (InEscape x) b c
  move_notable (InCsi o x) b c = inside_notable (InCsi o x) b c
  move_notable (InDcs o x) b c = inside_notable (InDcs o x) b c
  move_notable (InData o x f d) b c = inside_notable (InData o x f d) b c
  move_notable (InApc o d) b c = inside_notable (InApc o d) b c
  move_notable (InIgnored k o d) b c = inside_notable (InIgnored k o d) b c
  move_notable (InOsc o ps) b c = inside_notable (InOsc o ps) b c

  -- ---- bytes of which all but the last give nothing

  one_notable : (u : Unfinished) (x : List ℕ) → length x ≤ 1
      → AreNotable place (events_all limit u x)
  one_notable u [] h = tt
  one_notable u (b ∷ []) h =
      subst (AreNotable place) (sym (append-nil (events_by limit u b (class_of b))))
      (move_notable u b (class_of b))
  one_notable u (b ∷ c ∷ x) h = absurd (omega (arith, h))

  quiet : (u : Unfinished) (rest : List ℕ) (m : ℕ) → IsStill limit u rest (suc m)
      → events_all limit u (take m rest) ≡ []
  quiet u rest zero h = refl
  quiet u rest (suc m) h = (h (suc m) (omega arith) (omega arith)).0

  pub still_notable : (u : Unfinished) (rest : List ℕ) (n : ℕ) → IsStill limit u rest n
      → AreNotable place (events_all limit u (take n rest))
  still_notable u rest zero h = tt
  still_notable u rest (suc m) h =
      let xs = take m rest in
      let ys = take 1 (drop m rest) in
      let next : suc m ≡ m + 1 = omega arith in
      let split : take (suc m) rest ≡ xs ++ ys = ap (λ k. take k rest) next ∙ take-add m 1 rest in
      let is : events_all limit u (take (suc m) rest) ≡ events_all limit (after_all u xs) ys =
      ap (events_all limit u) split ∙ events_append limit u xs ys
      ∙ ap (λ es. es ++ events_all limit (after_all u xs) ys) (quiet u rest m h) in
      subst (AreNotable place) (sym is)
      (one_notable (after_all u xs) ys (omega (arith, length-take 1 (drop m rest))))

  -- a store whose room is the limit, and an actor that has a place for each text within it, go on
  pub goes_through : {S : Type 0} (grows A : Type 0) (takes : S → Event → S → Type 0)
      (es : List Event) (old new : S)
      → StopsAt (grows × Fails (λ l. l ≢ Some room) (λ _ t. place < length t) A limit) takes
      (λ _ _ _. ⊥) old es new → ⊥
  goes_through grows A takes es old new (prefix, rest, e, inl ((g, inl other), f)) = other refl
  goes_through grows A takes es old new (prefix, rest, e, inl ((g, inr (t, within, long)), f)) =
      let fits : length t ≤ place = text_room (length t) within in omega (arith, fits, long)
  goes_through grows A takes es old new (prefix, rest, e, inr (mid, x, more, is, f, never)) = never
