-- The values that undo the changes that are left leave the terminal as at the start.
use Rattle.std.proofs.Common.{ℕ, pos, ◌≡◌, Bool, true, false, not, ◌||◌, if◌then◌else◌, List, [], ◌∷◌, ◌++◌, None, refl, sym, subst, ap, ◌∙◌}
use Rattle.esc_sequences.specs.Csis.{sgr, unspecified}
use Rattle.esc_sequences.specs.declared.sgr.Sgr.TheVariants.{Reset}
use Rattle.esc_values.specs.declared.csi_param.CsiParam.TheVariants.{Integer}
use Rattle.control_functions.specs.Escapes as escapes
use Rattle.control_functions.specs.Functions.{function_of, rows_of}
use Rattle.esc_osc.specs.declared.command.OperatingSystemCommand.TheVariants as command
use Rattle.esc_actions.specs.Values.{Value, control, csi, osc}
use Rattle.esc_actions.specs.declared.control_code.ControlCode.TheVariants.{ShiftIn}
use Rattle.esc_filter.specs.Closing.{IsAtStart, after_value, after_values, ascii_in, closed_values, closing, escape, give, given_back, keeps_cursor, main_by, margins_back, next, private_mode, saved_back, saved_by, screen_back, states_back, without_margins}
use Rattle.esc_filter.specs.GivenBack.{on_main, with_main}
use Rattle.esc_filter.specs.Terminal.{after_escape_function, after_function, after_private, are_changed_sets, is_changed, is_changed_mode, is_changed_saved, is_main, no_sets, nothing_saved, restore, save, as_at_start}
use Rattle.esc_filter.specs.declared.saved.Saved.{Saved}
use Rattle.esc_filter.specs.declared.terminal.Screen.{Screen}
use Rattle.esc_filter.specs.declared.terminal.Screen.TheVariants as screen
use Rattle.esc_filter.specs.declared.saved.Sets.{Sets}
use Rattle.esc_filter.specs.declared.terminal.Terminal.{Terminal}
use Rattle.esc_filter.proofs.Output.TextsGrow.{after_more}

-- ---- none of several

or_no : (a b : Bool) → (a || b) ≡ false → (a ≡ false) × (b ≡ false)
or_no false b h = (refl, h)
or_no true b h = cc

main_if : (s : Screen) → not (is_main s) ≡ false → s ≡ screen.Main
main_if screen.Main h = refl
main_if s h = cc

sets_if : (s : Sets) → are_changed_sets s ≡ false → s ≡ no_sets
sets_if s h =
    let a = or_no s.shifted _ h in
    let b = or_no s.g0 _ a.1 in
    let c = or_no s.g1 _ b.1 in
    let d = or_no s.g2 _ c.1 in
    ap (λ x. record s { shifted = x }) a.0
    ∙ ap (λ x. record s { shifted = false; g0 = x }) b.0
    ∙ ap (λ x. record s { shifted = false; g0 = false; g1 = x }) c.0
    ∙ ap (λ x. record s { shifted = false; g0 = false; g1 = false; g2 = x }) d.0
    ∙ ap (λ x. record s { shifted = false; g0 = false; g1 = false; g2 = false; g3 = x }) d.1

saved_if : (s : Saved) → is_changed_saved s ≡ false → s ≡ nothing_saved
saved_if s h =
    let a = or_no s.rendition _ h in
    let b = or_no s.origin _ a.1 in
    ap (λ x. record s { rendition = x }) a.0
    ∙ ap (λ x. record s { rendition = false; origin = x }) b.0
    ∙ ap (λ x. record s { rendition = false; origin = false; sets = x }) (sets_if s.sets b.1)

pub start_if : (t : Terminal) → is_changed t ≡ false → IsAtStart t
start_if t h =
    let a = or_no t.rendition _ h in
    let b = or_no t.link _ a.1 in
    let c = or_no (not (is_main t.screen)) _ b.1 in
    let d = or_no (is_changed_mode t) _ c.1 in
    let e = or_no (are_changed_sets t.sets) _ d.1 in
    let m = or_no t.insert _ d.0 in
    let n = or_no t.origin _ m.1 in
    let o = or_no t.margins _ n.1 in
    let p = or_no t.sides _ o.1 in
    let q = or_no t.hidden _ p.1 in
    let r = or_no t.reverse _ q.1 in
    let s = or_no t.no_wrap _ r.1 in
    record {
      rendition = a.0;
      link = b.0;
      insert = m.0;
      origin = n.0;
      margins = o.0;
      sides = p.0;
      hidden = q.0;
      reverse = r.0;
      no_wrap = s.0;
      held = s.1;
      sets = sets_if t.sets e.0;
      screen = main_if t.screen c.0;
      saved = saved_if t.saved e.1;
    }

-- ---- without states

-- with none of these states
abbrev pub quiet : Terminal → Terminal
quiet t = record t {
  sides = false;
  origin = false;
  insert = false;
  hidden = false;
  reverse = false;
  no_wrap = false;
  held = false;
  rendition = false;
  link = false;
  sets = no_sets;
}

-- with the main screen and without margins, and all states given back
abbrev pub calm : Bool → Terminal → Terminal
calm b t = record (quiet t) { margins = b; screen = screen.Main }

start_calm : (t : Terminal) → t.saved ≡ nothing_saved → IsAtStart (calm false t)
start_calm t h = record {
  rendition = refl;
  link = refl;
  insert = refl;
  origin = refl;
  margins = refl;
  sides = refl;
  hidden = refl;
  reverse = refl;
  no_wrap = refl;
  held = refl;
  sets = refl;
  screen = refl;
  saved = h;
}

pub main_shown : (s : Screen) (t : Terminal) → t.screen ≡ s → (with_main s t).screen ≡ screen.Main
main_shown screen.Main t h = h
main_shown screen.Alternate t h = refl
main_shown screen.Cleared t h = refl
main_shown screen.WithCursor t h = refl

module _ (A : Type 0) where
  -- ---- the effect of each value

  reset : (n : ℕ) (t : Terminal)
      → after_value (private_mode {A = A} n 0x6c) t ≡ after_private n false t
  unfolding function_of rows_of after_function
  reset n t = refl

  set_mode : (n : ℕ) (t : Terminal)
      → after_value (private_mode {A = A} n 0x68) t ≡ after_private n true t
  unfolding function_of rows_of after_function
  set_mode n t = refl

  replaced : (t : Terminal)
      → after_value {A = A} (csi (unspecified (Integer (pos 4) ∷ []) false 0x6c)) t
      ≡ record t { insert = false }
  unfolding function_of rows_of after_function
  replaced t = refl

  whole_screen : (t : Terminal)
      → after_value {A = A} (csi (unspecified [] false 0x72)) t ≡ record t { margins = false }
  unfolding function_of rows_of after_function
  whole_screen t = refl

  saves : (t : Terminal) → after_value (escape {A = A} None 0x37) t ≡ save t
  unfolding escapes.function_of escapes.rows_of after_escape_function
  saves t = refl

  restores : (t : Terminal) → after_value (escape {A = A} None 0x38) t ≡ restore t
  unfolding escapes.function_of escapes.rows_of after_escape_function
  restores t = refl

  ascii_0 : (t : Terminal)
      → after_value (ascii_in {A = A} 0x28) t ≡ record t { sets = record t.sets { g0 = false } }
  unfolding escapes.function_of escapes.rows_of after_escape_function
  ascii_0 t = refl

  ascii_1 : (t : Terminal)
      → after_value (ascii_in {A = A} 0x29) t ≡ record t { sets = record t.sets { g1 = false } }
  unfolding escapes.function_of escapes.rows_of after_escape_function
  ascii_1 t = refl

  ascii_2 : (t : Terminal)
      → after_value (ascii_in {A = A} 0x2a) t ≡ record t { sets = record t.sets { g2 = false } }
  unfolding escapes.function_of escapes.rows_of after_escape_function
  ascii_2 t = refl

  ascii_3 : (t : Terminal)
      → after_value (ascii_in {A = A} 0x2b) t ≡ record t { sets = record t.sets { g3 = false } }
  unfolding escapes.function_of escapes.rows_of after_escape_function
  ascii_3 t = refl

  -- ---- the main screen

  main_is : (s : Screen) (t : Terminal) → after_values (main_by {A = A} s) t ≡ with_main s t
  main_is screen.Main t = refl
  main_is screen.Alternate t = reset 47 t
  main_is screen.Cleared t = reset 1047 t
  main_is screen.WithCursor t = reset 1049 t

  pub screen_is : (t : Terminal) → after_values (screen_back {A = A} t) t ≡ on_main t
  screen_is t = main_is t.screen t

  -- ---- the states that are given back by one value each

  -- a state that is given back, or is not changed, and then others
  step : (b : Bool) (v : Value A) (vs : List (Value A)) (t u w : Terminal) → after_value v t ≡ u
      → (b ≡ false → t ≡ u) → after_values vs u ≡ w → after_values (give b v ++ vs) t ≡ w
  step true v vs t u w h k r = ap (after_values vs) h ∙ r
  step false v vs t u w h k r = ap (after_values vs) (k refl) ∙ r

  pub states_are : (t : Terminal) → after_values (states_back {A = A} t) t ≡ quiet t
  states_are t =
      let a = record t { sides = false } in
      let b = record a { origin = false } in
      let c = record b { insert = false } in
      let d = record c { hidden = false } in
      let e = record d { reverse = false } in
      let f = record e { no_wrap = false } in
      let g = record f { held = false } in
      let h = record g { rendition = false } in
      let i = record h { link = false } in
      let j = record i { sets = record i.sets { shifted = false } } in
      let k = record j { sets = record j.sets { g0 = false } } in
      let l = record k { sets = record k.sets { g1 = false } } in
      let m = record l { sets = record l.sets { g2 = false } } in
      let n = record m { sets = record m.sets { g3 = false } } in
      step t.sides (private_mode 69 0x6c) _ t a _ (reset 69 t) (ap (λ x. record t { sides = x }))
      (step t.origin (private_mode 6 0x6c) _ a b _ (reset 6 a) (ap (λ x. record a { origin = x }))
      (step t.insert (csi (unspecified (Integer (pos 4) ∷ []) false 0x6c)) _ b c _ (replaced b)
      (ap (λ x. record b { insert = x }))
      (step t.hidden (private_mode 25 0x68) _ c d _ (set_mode 25 c)
      (ap (λ x. record c { hidden = x }))
      (step t.reverse (private_mode 5 0x6c) _ d e _ (reset 5 d) (ap (λ x. record d { reverse = x }))
      (step t.no_wrap (private_mode 7 0x68) _ e f _ (set_mode 7 e)
      (ap (λ x. record e { no_wrap = x }))
      (step t.held (private_mode 2026 0x6c) _ f g _ (reset 2026 f) (ap (λ x. record f { held = x }))
      (step t.rendition (csi (sgr Reset)) _ g h _ refl (ap (λ x. record g { rendition = x }))
      (step t.link (osc (command.SetHyperlink None)) _ h i _ refl (ap (λ x. record h { link = x }))
      (step t.sets.shifted (control ShiftIn) _ i j _ refl
      (ap (λ x. record i { sets = record i.sets { shifted = x } }))
      (step t.sets.g0 (ascii_in 0x28) _ j k _ (ascii_0 j)
      (ap (λ x. record j { sets = record j.sets { g0 = x } }))
      (step t.sets.g1 (ascii_in 0x29) _ k l _ (ascii_1 k)
      (ap (λ x. record k { sets = record k.sets { g1 = x } }))
      (step t.sets.g2 (ascii_in 0x2a) _ l m _ (ascii_2 l)
      (ap (λ x. record l { sets = record l.sets { g2 = x } }))
      (step t.sets.g3 (ascii_in 0x2b) [] m n n (ascii_3 m)
      (ap (λ x. record m { sets = record m.sets { g3 = x } })) refl)))))))))))))

  -- ---- margins, and the state that is saved with the cursor

  saved_as : (k : Bool) (t : Terminal) → after_value (saved_by {A = A} k) t ≡ save t
  saved_as true t = saves t
  saved_as false t = set_mode 1048 t

  saved_start : (k b : Bool) (t : Terminal) → is_changed_saved t.saved ≡ b
      → IsAtStart (after_values (give b (saved_by {A = A} k)) (calm false t))
  saved_start k true t h =
      subst IsAtStart (sym (saved_as k (calm false t)))
      (start_calm (record t { saved = nothing_saved }) refl)
  saved_start k false t h = start_calm t (saved_if t.saved h)

  -- once the margins were given back, with the cursor saved and restored around it, or without
  pub both_kept : (t : Terminal) → after_values (without_margins {A = A} true) (calm true t)
      ≡ calm false (record t { saved = nothing_saved })
  both_kept t =
      let u = calm true t in
      ap (after_values (csi (unspecified [] false 0x72) ∷ escape {A = A} None 0x38 ∷ [])) (saves u)
      ∙ ap (after_values (escape {A = A} None 0x38 ∷ []))
      (whole_screen (record u { saved = nothing_saved }))
      ∙ restores (record u { saved = nothing_saved; margins = false })

  pub all_margins : (t : Terminal)
      → after_values (without_margins {A = A} false) (calm true t) ≡ calm false t
  all_margins t = whole_screen (calm true t)

  margins_start : (k b : Bool) (t : Terminal) → IsAtStart (after_values
      (next (λ u. if b then without_margins {A = A} k else []) (saved_back k) (calm b t))
      (calm b t))
  margins_start k false t = saved_start k (is_changed_saved t.saved) t refl
  margins_start true true t =
      let u = calm true t in
      subst IsAtStart (sym (
      after_more (without_margins {A = A} true)
      (saved_back true (after_values (without_margins {A = A} true) u)) u
      ∙ ap (λ x. after_values (saved_back {A = A} true x) x) (both_kept t)
      )) (start_calm (record t { saved = nothing_saved }) refl)
  margins_start false true t =
      let u = calm true t in
      subst IsAtStart (sym (
      after_more (without_margins {A = A} false)
      (saved_back false (after_values (without_margins {A = A} false) u)) u
      ∙ ap (λ x. after_values (saved_back {A = A} false x) x) (all_margins t)
      )) (saved_start false (is_changed_saved t.saved) t refl)

  last_start : (k : Bool) (t : Terminal) → t.screen ≡ screen.Main → IsAtStart (after_values
      (next (margins_back k) (saved_back {A = A} k) (quiet t)) (quiet t))
  last_start k t h =
      subst (λ s. IsAtStart (after_values
      (next (margins_back k) (saved_back {A = A} k) (record (quiet t) { screen = s }))
      (record (quiet t) { screen = s }))) (sym h)
      (margins_start k t.margins t)

  -- ---- all of it

  pub all_back : (k : Bool) (t : Terminal) → IsAtStart (after_values (given_back {A = A} k t) t)
  all_back k t =
      let last = next (margins_back k) (saved_back {A = A} k) in
      let m = after_values (screen_back {A = A} t) t in
      let q = after_values (states_back {A = A} m) m in
      subst IsAtStart (sym (
      after_more (screen_back t) (next states_back last m) t
      ∙ after_more (states_back m) (last q) m
      ∙ ap (λ x. after_values (last x) x) (states_are m)
      ∙ ap (λ x. after_values (last (quiet x)) (quiet x)) (screen_is t)
      )) (last_start k (on_main t) (main_shown t.screen t refl))

  pub at_start : (admits : Value A → Bool) (vs : List (Value A))
      → IsAtStart (after_values (closed_values admits vs) as_at_start)
  at_start admits vs =
      subst IsAtStart (sym (after_more vs (closing admits vs) as_at_start))
      (all_back (keeps_cursor admits) (after_values vs as_at_start))

  -- ---- nothing is undone if nothing is changed

  one_by_one : (first others : Terminal → List (Value A)) (t : Terminal) → first t ≡ []
      → others t ≡ [] → next first others t ≡ []
  one_by_one first others t e h = ap (λ x. x ++ others (after_values x t)) e ∙ h

  pub nothing_if : (k : Bool) (t : Terminal) → IsAtStart t → given_back {A = A} k t ≡ []
  nothing_if k t i =
      one_by_one screen_back (next states_back (next (margins_back k) (saved_back k))) t
      (ap main_by i.screen)
      (one_by_one states_back (next (margins_back k) (saved_back k)) t (states_none t i)
      (one_by_one (margins_back k) (saved_back k) t
      (ap (λ b. if b then without_margins k else []) i.margins)
      (ap (λ s. give (is_changed_saved s) (saved_by k)) i.saved)))
    where
      states_none : (t : Terminal) → IsAtStart t → states_back {A = A} t ≡ []
      states_none t i =
          rw (
            i.sides,
            i.origin,
            i.insert,
            i.hidden,
            i.reverse,
            i.no_wrap,
            i.held,
            i.rendition,
            i.link,
            i.sets,
          ) refl

  pub nothing_twice : (admits : Value A → Bool) (vs : List (Value A))
      → closing admits (closed_values admits vs) ≡ []
  nothing_twice admits vs =
      nothing_if (keeps_cursor admits) (after_values (closed_values admits vs) as_at_start)
      (at_start admits vs)

  -- nothing is undone if no changes are left
  pub nothing_back : (k : Bool) (t : Terminal) → is_changed t ≡ false → given_back {A = A} k t ≡ []
  nothing_back k t h = nothing_if k t (start_if t h)
