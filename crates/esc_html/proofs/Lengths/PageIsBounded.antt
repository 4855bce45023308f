-- A page is no longer than its stream allows, and neither is the text that one part of the stream
-- adds.
use Rattle.std.proofs.Common.{ℕ, ◌≡◌, ◌≤◌, ◌+◌, ◌-◌, ◌*◌, ◌==◌, Bool, true, false, if◌then◌else◌, List, [], ◌∷◌, ◌++◌, length, map, Option, Some, None, refl, ap, sym, ◌∙◌, subst, arith}
use Rattle.std.proofs.lemmas.Bool.{leb-true}
use Rattle.std.proofs.lemmas.Grind.{flat_map-append}
use Rattle.std.proofs.lemmas.List.{append-nil, length-append}
use Rattle.esc_actions.specs.ControlCodes.{code_number, code_of}
use Rattle.esc_actions.specs.declared.control_code.ControlCode.{ControlCode}
use Rattle.esc_actions.specs.Meaning.{meaning_within, mode_from, values_from, yield_within}
use Rattle.esc_actions.specs.Values.{Mode, Value, mode_after, unhook_values, control_values, event_values, image_values, only_item, hook_values, plain, in_sixel, in_termcap, in_short, entered, taken_gives, string, csi, control, datum, enter, esc, exit, kitty, osc, print, sixel, short, termcap}
use Rattle.esc_actions.proofs.Meaning.MeaningsJoin.{yield_is}
use Rattle.esc_device.specs.Kinds.{kind_of}
use Rattle.esc_device.specs.Values.{enter_of}
use Rattle.esc_device.specs.declared.kind.StringKind.{StringKind}
use Rattle.esc_device.specs.declared.kind.StringKind.TheVariants as kind
use Rattle.esc_frame.specs.Events.{Event}
use Rattle.esc_frame.specs.Events.Event.{Print, Execute, EscDispatch, CsiDispatch, OscDispatch, DcsHook, DcsPut, DcsUnhook, ApcDispatch}
use Rattle.esc_frame.specs.Leads.Unfinished.{Ground}
use Rattle.esc_frame.specs.Limits.{is_within}
use Rattle.esc_frame.specs.Machine.Moves.{after_all, events_all}
use Rattle.esc_frame.specs.Stream.{added_within, events_within}
use Rattle.esc_frame.proofs.Emits.EventsAreTheCuts.{added_is}
use Rattle.esc_html.specs.Bounds.{IsBounded, IsBoundedPagePart}
use Rattle.esc_html.specs.Characters.{shown_as}
use Rattle.esc_html.specs.Marks.{Pen, Step, redirects, restyles, shows, nothing, begins_line, ends_line, escape_begins_line, lead_by, lead_step, step_of}
use Rattle.esc_html.specs.Pages.{State, after_character, closing_text, first_state, page_text, page_parts_by, page_parts_from, state_by, state_from, state_of_stream}
use Rattle.esc_html.specs.PageParts.{html_text, page_part_text}
use Rattle.esc_html.specs.declared.layout.Layout.{Layout}
use Rattle.esc_html.proofs.Lengths.BytesPayForEvents.{bytes_used, unused_most, weight, weights}
use Rattle.esc_html.proofs.Lengths.LengthOfAddress.{capped, lead_size, meant_within, parts_size, short_size}
use Rattle.esc_html.proofs.Lengths.StepsPayGrowth.{Pays, address_size, control_pays, core, csis_keep, ending_most, escape_pays, held_most, kept, nothing_pays, print_pays, redirects_pays, reserve_most}
use Rattle.esc_html.proofs.Parts.PartsAreSafe.{IsGoodLink, IsGoodStep, good_command, good_function, good_next}
use Rattle.esc_html.proofs.Parts.PartsNestAndClose.{parts_more, state_more}
use Rattle.esc_kitty.specs.Images.{image_of}
use Rattle.esc_kitty.specs.declared.image.KittyImage.{KittyImage}
use Rattle.esc_osc.specs.Reading.{meaning as command_meant}
use Rattle.esc_sequences.specs.Csis.{csi_of}
use Rattle.esc_sequences.specs.Escs.{esc_of}
use Rattle.typed_functions.specs.Functions.{of_csi}

module _ (A : Type 0) where
  -- ---- events

  -- these values pay n
  abbrev AllPay : Bool → State → List (Value A) → ℕ → Type 0
  AllPay pl g vs n =
      length (html_text (page_parts_from pl g vs)) + kept (state_from pl g vs) ≤ kept g + n

  one_pays : (pl : Bool) (g : State) (v : Value A) (n : ℕ)
      → Pays pl g (step_of g.pen v) n → AllPay pl g (v ∷ []) n
  one_pays pl g v n h =
      let ps = page_parts_by pl g (step_of g.pen v) in
      omega (arith, h, ap (λ x. length (html_text x)) (append-nil ps))

  none_pay : (pl : Bool) (g : State) (n : ℕ) → AllPay pl g [] n
  none_pay pl g n = omega arith

  lead_pays : (pl : Bool) (g : State) (k : Option (Option (List ℕ)))
      → Pays pl g (lead_step k) (144 + 16 * lead_size k)
  lead_pays pl g None = nothing_pays pl g 144
  lead_pays pl g (Some k) = redirects_pays pl g k

  osc_pays : (pl : Bool) (g : State) (ps : List (List ℕ))
      → AllPay pl g (osc (command_meant ps) ∷ []) (144 + 16 * capped (parts_size ps))
  osc_pays pl g ps =
      let c = command_meant {A = A} ps in
      one_pays pl g (osc c) (144 + 16 * capped (parts_size ps))
      (omega (arith, lead_pays pl g (lead_by c), meant_within A ps))

  csi_pays : (pl : Bool) (g : State) (vs : List (Value A))
      → length (html_text (page_parts_from pl g vs)) + core (state_from pl g vs) ≡ core g
      → AllPay pl g vs 144
  csi_pays pl g vs h = omega (arith, h, reserve_most (state_from pl g vs).tags)

  executed_pays : (pl : Bool) (g : State) (o : Option ControlCode)
      → AllPay pl g (control_values o) 150
  executed_pays pl g None = none_pay pl g 150
  executed_pays pl g (Some c) = one_pays pl g (control c) 150 (control_pays pl g (code_number c))

  opened_pays : (pl : Bool) (g : State) (k : StringKind) (f : ℕ) (ps : _) (is : List ℕ)
      (more : Bool) → AllPay pl g (hook_values k f ps is more) 0
  opened_pays pl g kind.Other f ps is more =
      one_pays pl g (enter (enter_of f ps is more)) 0 (nothing_pays pl g 0)
  opened_pays pl g kind.Sixel f ps is more = none_pay pl g 0
  opened_pays pl g kind.Termcap f ps is more = none_pay pl g 0
  opened_pays pl g kind.Short f ps is more = none_pay pl g 0

  taken_pays : (pl : Bool) (g : State) (m : Mode) (b : ℕ)
      → AllPay pl g (taken_gives m b) 0
  taken_pays pl g entered b = one_pays pl g (datum b) 0 (nothing_pays pl g 0)
  taken_pays pl g plain b = none_pay pl g 0
  taken_pays pl g (in_sixel ps d) b = none_pay pl g 0
  taken_pays pl g (in_termcap d) b = none_pay pl g 0
  taken_pays pl g (in_short ps is f d) b = none_pay pl g 0

  if_pays : (pl : Bool) (g : State) (v : Value A) (b : Bool)
      → Pays pl g (step_of g.pen v) 0 → AllPay pl g (if b then v ∷ [] else []) 0
  if_pays pl g v true h = one_pays pl g v 0 h
  if_pays pl g v false h = none_pay pl g 0

  closed_pays : (pl : Bool) (g : State) (limit : Option ℕ) (m : Mode)
      → AllPay pl g (unhook_values limit m) 0
  closed_pays pl g limit plain = none_pay pl g 0
  closed_pays pl g limit (in_sixel ps d) =
      if_pays pl g (sixel _) (is_within limit (length d)) (nothing_pays pl g 0)
  closed_pays pl g limit (in_termcap d) =
      if_pays pl g (termcap _) (is_within limit (length d)) (nothing_pays pl g 0)
  closed_pays pl g limit (in_short ps is f d) =
      if_pays pl g (short _) (is_within limit (length d)) (nothing_pays pl g 0)
  closed_pays pl g limit entered = one_pays pl g exit 0 (nothing_pays pl g 0)

  imaged_pays : (pl : Bool) (g : State) (o : Option (KittyImage A))
      → AllPay pl g (image_values o) 0
  imaged_pays pl g None = none_pay pl g 0
  imaged_pays pl g (Some i) = one_pays pl g (kitty i) 0 (nothing_pays pl g 0)

  event_pays : (pl : Bool) (g : State) (limit : Option ℕ) (m : Mode) (e : Event)
      → AllPay pl g (event_values limit m e) (weight e)
  event_pays pl g limit m (Print c) = one_pays pl g (print c) 150 (print_pays pl g c)
  event_pays pl g limit m (Execute b) = executed_pays pl g (code_of b)
  event_pays pl g limit m (EscDispatch is more f) =
      let e = esc_of (only_item is) f in one_pays pl g (esc e) 150 (escape_pays pl g e)
  event_pays pl g limit m (CsiDispatch es more f) =
      csi_pays pl g (map csi (csi_of es more f)) (csis_keep A pl g (csi_of es more f))
  event_pays pl g limit m (OscDispatch ps) = osc_pays pl g ps
  event_pays pl g limit m (DcsHook f ps is more) =
      opened_pays pl g (kind_of f is more) f ps is more
  event_pays pl g limit m (DcsPut b) = taken_pays pl g m b
  event_pays pl g limit m DcsUnhook = closed_pays pl g limit m
  event_pays pl g limit m (ApcDispatch t) = imaged_pays pl g (image_of t)

  both_pay : (pl : Bool) (g : State) (vs ws : List (Value A)) (m n : ℕ)
      → AllPay pl g vs m → AllPay pl (state_from pl g vs) ws n → AllPay pl g (vs ++ ws) (m + n)
  both_pay pl g vs ws m n h k =
      let j = state_from pl g vs in
      omega (
        arith,
        h,
        k,
        ap (λ x. length (html_text x)) (parts_more pl g vs ws)
            ∙ ap length (flat_map-append page_part_text (page_parts_from pl g vs)
            (page_parts_from pl j ws))
            ∙ length-append (html_text (page_parts_from pl g vs))
            (html_text (page_parts_from pl j ws)),
        ap kept (state_more pl g vs ws),
      )

  events_pay : (pl : Bool) (g : State) (limit : Option ℕ) (m : Mode) (es : List Event)
      → AllPay pl g (values_from limit m es) (weights es)
  events_pay pl g limit m [] = none_pay pl g 0
  events_pay pl g limit m (e ∷ es) =
      let vs = event_values {A = A} limit m e in
      both_pay pl g vs (values_from limit (mode_after m e) es) (weight e) (weights es)
      (event_pays pl g limit m e) (events_pay pl (state_from pl g vs) limit (mode_after m e) es)

  -- ---- a stream

  meaning_is : (limit : Option ℕ) (s : List ℕ)
      → meaning_within {A = A} limit s ≡ values_from limit plain (events_within limit s)
  unfolding meaning_within
  meaning_is limit s = refl

  events_are : (limit : Option ℕ) (s : List ℕ) → events_within limit s ≡ events_all limit Ground s
  unfolding events_within
  events_are limit s = refl

  stream_weight : (limit : Option ℕ) (s : List ℕ)
      → weights (events_within limit s) ≤ 150 * length s
  stream_weight limit s =
      omega (arith, ap weights (events_are limit s), bytes_used limit Ground s)

  pub page_bounded : (limit : Option ℕ) (y : Layout) (s : List ℕ)
      → IsBounded s (page_text A limit y s ++ closing_text A limit y s)
  page_bounded limit y s =
      let pl = y.per_line in
      let first = first_state y.inline in
      let pays = subst (λ vs. AllPay pl first vs (weights (events_within limit s)))
      (sym (meaning_is limit s))
      (events_pay pl first limit plain (events_within limit s)) in
      let begins : kept first ≡ 144 = refl in
      omega (
        arith,
        pays,
        begins,
        stream_weight limit s,
        length-append (page_text A limit y s) (closing_text A limit y s),
      )

  -- ---- one part of it

  -- the link that holds is one that a page may have, and may be opened on no more than 16 lines
  abbrev IsSmall : State → Type 0
  IsSmall g = IsGoodLink g.pen.link × (g.pen.lines ≤ 15)

  abbrev IsGoodRedirect : Step → Type 0
  IsGoodRedirect (redirects k) = IsGoodLink k
  IsGoodRedirect _ = Unit {0}

  redirect_of : (s : Step) → IsGoodStep s → IsGoodRedirect s
  redirect_of (redirects k) h = h
  redirect_of (restyles l) h = tt
  redirect_of (shows c) h = tt
  redirect_of nothing h = tt

  if_shows : (b : Bool) (c : ℕ) → IsGoodRedirect (if b then nothing else shows c)
  if_shows true c = tt
  if_shows false c = tt

  shows_if : (b : Bool) (c : ℕ) → IsGoodRedirect (if b then shows c else nothing)
  shows_if true c = tt
  shows_if false c = tt

  good_control : (b x : Bool) (c : ℕ)
      → IsGoodRedirect (if b then shows c else if x then shows 0x0a else nothing)
  good_control true x c = tt
  good_control false x c = shows_if x 0x0a

  good_redirect : (p : Pen) (v : Value A) → IsGoodRedirect (step_of p v)
  good_redirect p (print c) = if_shows (c == 0x7f) (shown_as c)
  good_redirect p (control c) =
      good_control (code_number c == 0x09) (begins_line (code_number c)) (code_number c)
  good_redirect p (csi c) = redirect_of _ (good_function p (of_csi c))
  good_redirect p (osc c) = redirect_of _ (good_command p c)
  good_redirect p (string t) = tt
  good_redirect p (esc e) = shows_if (escape_begins_line e) 0x0a
  good_redirect p (kitty i) = tt
  good_redirect p (sixel s) = tt
  good_redirect p (termcap ns) = tt
  good_redirect p (short s) = tt
  good_redirect p (enter e) = tt
  good_redirect p (datum b) = tt
  good_redirect p exit = tt

  fewer_lines : (e : Bool) (g : State) → g.pen.lines ≤ 15 → (after_character e g).pen.lines ≤ 15
  fewer_lines true g h = by (g.pen.lines == 0)
    where
      by : (b : Bool) → (if b then record g.pen { link = None }
          else record g.pen { lines = g.pen.lines - 1 }).lines ≤ 15
      by true = h
      by false = omega (arith, h)
  fewer_lines false g h = h

  stays_small : (pl : Bool) (g : State) (s : Step) → IsSmall g → IsGoodRedirect s
      → IsSmall (state_by pl g s)
  stays_small pl g (restyles l) h k = h
  stays_small pl g (redirects q) h k = (k, leb-true 15 15 refl)
  stays_small pl g (shows c) h k =
      (good_next (ends_line pl c) g h.0, fewer_lines (ends_line pl c) g h.1)
  stays_small pl g nothing h k = h

  small_after : (pl : Bool) (g : State) (vs : List (Value A)) → IsSmall g
      → IsSmall (state_from pl g vs)
  small_after pl g [] h = h
  small_after pl g (v ∷ vs) h =
      let s = step_of g.pen v in
      small_after pl (state_by pl g s) vs (stays_small pl g s h (good_redirect g.pen v))

  link_most : (k : Option (List ℕ)) → IsGoodLink k → address_size k ≤ 12498
  link_most None h = leb-true 0 12498 refl
  link_most (Some a) h = short_size a h

  kept_most : (g : State) → IsSmall g → kept g ≤ 200123
  kept_most g h =
      omega (
        arith,
        ending_most g.tags g.pen,
        held_most g.tags g.pen 12498 (link_most g.pen.link h.0)
            h.1,
        reserve_most g.tags,
      )

  pub page_part_bounded : (limit : Option ℕ) (y : Layout) (s b : List ℕ)
      → IsBoundedPagePart b
      (html_text (page_parts_from {A = A} y.per_line (state_of_stream A limit y s)
      (yield_within limit s b)))
  page_part_bounded limit y s b =
      let pl = y.per_line in
      let g = state_of_stream A limit y s in
      let m = mode_from plain (events_within limit s) in
      let es = added_within limit s b in
      let u = after_all Ground s in
      let pays = subst (λ vs. AllPay pl g vs (weights es)) (sym (yield_is {A = A} limit s b))
      (events_pay pl g limit m es) in
      omega (
        arith,
        pays,
        ap weights (added_is limit s b),
        bytes_used limit u b,
        unused_most u,
        kept_most g (small_after pl (first_state y.inline) (meaning_within limit s)
            (tt, leb-true 0 15 refl)),
      )
