-- The values that undo the changes that are left: they can be written, and have this text.
use Rattle.std.proofs.Common.{◌≡◌, ℕ, pos, Bool, true, false, not, ◌&&◌, ◌||◌, if◌then◌else◌, List, [], ◌∷◌, ◌++◌, None, codes, refl, sym, subst, ap, ◌∙◌, append-nil}
use Rattle.std.specs.List.{list_all}
use Rattle.std.proofs.Math.Bool.{and-false, and-true}
use Rattle.std.specs.Fmt.{digits}
use lib.Utf8.{encode}
use Rattle.esc_values.specs.Params.{is_body_byte, is_csi_body}
use Rattle.esc_values.specs.declared.csi_param.CsiParam.TheVariants.{Integer, P}
use Rattle.esc_sequences.specs.Csis.{CsiValue, csi_of, csi_text, sgr, unspecified}
use Rattle.esc_sequences.specs.declared.sgr.Sgr.TheVariants.{Reset}
use Rattle.esc_frame.specs.Bodies.{kept_csi_params, has_more_csi_params}
use Rattle.esc_frame.specs.Classes.{class_of, ends_csi}
use Rattle.esc_frame.specs.Events.Event.{EscDispatch}
use Rattle.esc_frame.specs.Fits.{IsOneSegment}
use Rattle.esc_frame.specs.Segments.{csi_event}
use Rattle.esc_frame.specs.Segments.Segment.{Escape}
use Rattle.esc_frame.proofs.Emits.SequencesSay.{body_of, one_csi}
use Rattle.esc_osc.specs.declared.command.OperatingSystemCommand.TheVariants as command
use Rattle.esc_actions.specs.Texts.{is_string, is_terminator, list_text, texts_after, whole_text}
use Rattle.esc_actions.specs.Values.{Value, control, csi, osc}
use Rattle.esc_actions.specs.declared.control_code.ControlCode.TheVariants.{ShiftIn}
use Rattle.esc_actions.specs.Writable.{AreWritable, AreWritableFrom, IsWritable, is_within, stays_within}
use Rattle.esc_filter.specs.Closing.{after_values, ascii_in, closed_values, closing, escape, give, given_back, joined_lists, keeps_cursor, main_by, margins_back, next, private_mode, saved_back, saved_by, screen_back, states_back, without_margins}
use Rattle.esc_filter.specs.GivenBack.{is_cursor_due, is_saved_due, main_part, margins_part, on_main, part, parts_on_main, saved_part, sequence, text_given_back, with_main}
use Rattle.esc_filter.specs.Terminal.{is_changed_saved, as_at_start}
use Rattle.esc_filter.specs.declared.terminal.Screen.{Screen}
use Rattle.esc_filter.specs.declared.terminal.Screen.TheVariants as screen
use Rattle.esc_filter.specs.declared.terminal.Terminal.{Terminal}
use Rattle.esc_normal.specs.Texts.{ends_in_string}
use Rattle.esc_filter.proofs.GivingBack.GivingBackRestores.{all_margins, both_kept, calm, main_shown, quiet, screen_is, states_are}
use Rattle.esc_filter.proofs.GivingBack.RenditionsAfterSequence.{end_writable}
use Rattle.esc_normal.proofs.Texts.{texts_more}

module _ (A : Type 0) where
  -- ---- each can be written

  csi_writable : (x : List ℕ) (f : ℕ) (v : CsiValue) → list_all is_body_byte x ≡ true
      → is_csi_body x ≡ true → ends_csi (class_of f) ≡ true
      → csi_text v ≡ (0x1b ∷ 0x5b ∷ x) ++ f ∷ []
      → csi_of (kept_csi_params x) (has_more_csi_params x) f ≡ v ∷ []
      → IsWritable {A = A} (csi v)
  csi_writable x f v bytes form ends text one = (
    csi_event x f ∷ [],
    subst (λ t. IsOneSegment t (csi_event x f ∷ [])) (sym text)
        (one_csi x f (body_of x bytes) form ends),
    rw one refl,
  )

  -- a private mode, by the text of its body
  private : (n : ℕ) (x : List ℕ) (f : ℕ) → list_all is_body_byte x ≡ true
      → is_csi_body x ≡ true → ends_csi (class_of f) ≡ true
      → csi_text (unspecified (P 0x3f ∷ Integer (pos n) ∷ []) false f) ≡ (0x1b ∷ 0x5b ∷ x) ++ f ∷ []
      → csi_of (kept_csi_params x) (has_more_csi_params x) f
      ≡ unspecified (P 0x3f ∷ Integer (pos n) ∷ []) false f ∷ []
      → IsWritable {A = A} (private_mode n f)
  private n x f = csi_writable x f (unspecified (P 0x3f ∷ Integer (pos n) ∷ []) false f)

  margins : IsWritable {A = A} (csi (unspecified [] false 0x72))
  unfolding class_of kept_csi_params has_more_csi_params is_csi_body encode digits
  margins = csi_writable [] 0x72 (unspecified [] false 0x72) refl refl refl refl refl

  replaced : IsWritable {A = A} (csi (unspecified (Integer (pos 4) ∷ []) false 0x6c))
  unfolding class_of kept_csi_params has_more_csi_params is_csi_body encode digits
  replaced = csi_writable (codes "4") 0x6c (unspecified (Integer (pos 4) ∷ []) false 0x6c)
      refl refl refl refl refl

  reset : IsWritable {A = A} (csi (sgr Reset))
  unfolding class_of kept_csi_params has_more_csi_params is_csi_body encode digits
  reset = csi_writable (codes "0") 0x6d (sgr Reset) refl refl refl refl refl

  save : IsWritable {A = A} (escape None 0x37)
  unfolding class_of encode
  save = (
    EscDispatch [] false 0x37 ∷ [],
    (Escape [] 0x37, refl, refl, (refl, refl, refl), refl),
    refl,
  )

  restore : IsWritable {A = A} (escape None 0x38)
  unfolding class_of encode
  restore = (
    EscDispatch [] false 0x38 ∷ [],
    (Escape [] 0x38, refl, refl, (refl, refl, refl), refl),
    refl,
  )

  ascii : (i : ℕ) → IsOneSegment (0x1b ∷ i ∷ 0x42 ∷ []) (EscDispatch (i ∷ []) false 0x42 ∷ [])
      → encode i ≡ i ∷ [] → IsWritable {A = A} (ascii_in i)
  unfolding encode
  ascii i one text = (
    EscDispatch (i ∷ []) false 0x42 ∷ [],
    subst (λ t. IsOneSegment (0x1b ∷ (t ++ 0x42 ∷ [])) (EscDispatch (i ∷ []) false 0x42 ∷ []))
        (sym text) one,
    refl,
  )

  ascii_0 : IsWritable {A = A} (ascii_in 0x28)
  unfolding class_of encode
  ascii_0 = ascii 0x28 (Escape (0x28 ∷ []) 0x42, refl, refl, (refl, refl, refl), refl) refl

  ascii_1 : IsWritable {A = A} (ascii_in 0x29)
  unfolding class_of encode
  ascii_1 = ascii 0x29 (Escape (0x29 ∷ []) 0x42, refl, refl, (refl, refl, refl), refl) refl

  ascii_2 : IsWritable {A = A} (ascii_in 0x2a)
  unfolding class_of encode
  ascii_2 = ascii 0x2a (Escape (0x2a ∷ []) 0x42, refl, refl, (refl, refl, refl), refl) refl

  ascii_3 : IsWritable {A = A} (ascii_in 0x2b)
  unfolding class_of encode
  ascii_3 = ascii 0x2b (Escape (0x2b ∷ []) 0x42, refl, refl, (refl, refl, refl), refl) refl

  more : (b : Bool) (v : Value A) (vs : List (Value A)) → is_within v ≡ false
      → stays_within v ≡ false → IsWritable v → AreWritable vs → AreWritable (give b v ++ vs)
  more true v vs i s w h = (i, w, subst (λ x. AreWritableFrom x vs) (sym s) h)
  more false v vs i s w h = h

  main_writable : (s : Screen) → AreWritable (main_by {A = A} s)
  unfolding class_of kept_csi_params has_more_csi_params is_csi_body encode digits
  main_writable screen.Main = refl
  main_writable screen.Alternate =
      more true (private_mode 47 0x6c) [] refl refl
      (private 47 (codes "?47") 0x6c refl refl refl refl refl) refl
  main_writable screen.Cleared =
      more true (private_mode 1047 0x6c) [] refl refl
      (private 1047 (codes "?1047") 0x6c refl refl refl refl refl) refl
  main_writable screen.WithCursor =
      more true (private_mode 1049 0x6c) [] refl refl
      (private 1049 (codes "?1049") 0x6c refl refl refl refl refl) refl

  states_writable : (t : Terminal) → AreWritable (states_back {A = A} t)
  unfolding class_of kept_csi_params has_more_csi_params is_csi_body encode digits
  states_writable t =
      more t.sides (private_mode 69 0x6c) _ refl refl
      (private 69 (codes "?69") 0x6c refl refl refl refl refl)
      (more t.origin (private_mode 6 0x6c) _ refl refl
      (private 6 (codes "?6") 0x6c refl refl refl refl refl)
      (more t.insert (csi (unspecified (Integer (pos 4) ∷ []) false 0x6c)) _ refl refl replaced
      (more t.hidden (private_mode 25 0x68) _ refl refl
      (private 25 (codes "?25") 0x68 refl refl refl refl refl)
      (more t.reverse (private_mode 5 0x6c) _ refl refl
      (private 5 (codes "?5") 0x6c refl refl refl refl refl)
      (more t.no_wrap (private_mode 7 0x68) _ refl refl
      (private 7 (codes "?7") 0x68 refl refl refl refl refl)
      (more t.held (private_mode 2026 0x6c) _ refl refl
      (private 2026 (codes "?2026") 0x6c refl refl refl refl refl)
      (more t.rendition (csi (sgr Reset)) _ refl refl reset
      (more t.link (osc (command.SetHyperlink None)) _ refl refl end_writable
      (more t.sets.shifted (control ShiftIn) _ refl refl refl
      (more t.sets.g0 (ascii_in 0x28) _ refl refl ascii_0
      (more t.sets.g1 (ascii_in 0x29) _ refl refl ascii_1
      (more t.sets.g2 (ascii_in 0x2a) _ refl refl ascii_2
      (more t.sets.g3 (ascii_in 0x2b) [] refl refl ascii_3 refl)))))))))))))

  margins_writable : (k b : Bool)
      → AreWritable (if b then without_margins {A = A} k else [])
  margins_writable k false = refl
  margins_writable true true =
      let off = csi (unspecified [] false 0x72) in
      let back = escape None 0x38 in
      more true (escape None 0x37) (off ∷ back ∷ []) refl refl save
      (more true off (back ∷ []) refl refl margins (more true back [] refl refl restore refl))
  margins_writable false true =
      more true (csi (unspecified [] false 0x72)) [] refl refl margins refl

  saved_writable : (k b : Bool) → AreWritable (give b (saved_by {A = A} k))
  unfolding class_of kept_csi_params has_more_csi_params is_csi_body encode digits
  saved_writable true b = subst AreWritable (append-nil (give b (escape None 0x37)))
      (more b (escape None 0x37) [] refl refl save refl)
  saved_writable false b = subst AreWritable (append-nil (give b (private_mode 1048 0x68)))
      (more b (private_mode 1048 0x68) [] refl refl
      (private 1048 (codes "?1048") 0x68 refl refl refl refl refl) refl)

  both_from : (b : Bool) (vs ws : List (Value A)) → AreWritableFrom b vs → AreWritable ws
      → AreWritableFrom b (vs ++ ws)
  both_from b [] ws h k = subst (λ x. AreWritableFrom x ws) h k
  both_from b (v ∷ vs) ws (i, w, h) k = (i, w, both_from (stays_within v) vs ws h k)

  pub back_writable : (k : Bool) (t : Terminal) → AreWritable (given_back {A = A} k t)
  back_writable k t =
      let m = after_values (screen_back {A = A} t) t in
      let q = after_values (states_back {A = A} m) m in
      let u = after_values (margins_back {A = A} k q) q in
      both_from false (screen_back t) _ (main_writable t.screen)
      (both_from false (states_back m) _ (states_writable m)
      (both_from false (margins_back k q) _ (margins_writable k q.margins)
      (saved_writable k (is_changed_saved u.saved))))

  -- ---- its text

  add : (b : Bool) (v : Value A) (t : List ℕ) (ws : List (Value A)) (u : List ℕ)
      → is_terminator v ≡ false → whole_text v ≡ t → ((f : Bool) → texts_after f ws ≡ u)
      → (f : Bool) → texts_after f (give b v ++ ws) ≡ part b t ++ u
  add true v t ws u n e h f = rw (n, e, h (is_string v)) refl
  add false v t ws u n e h f = h f

  main_text : (s : Screen) (ws : List (Value A)) (u : List ℕ) → ((f : Bool) → texts_after f ws ≡ u)
      → (f : Bool) → texts_after f (main_by s ++ ws) ≡ main_part s ++ u
  unfolding encode digits
  main_text screen.Main ws u h f = h f
  main_text screen.Alternate ws u h f =
      add true (private_mode 47 0x6c) (main_part screen.Alternate) ws u refl refl h f
  main_text screen.Cleared ws u h f =
      add true (private_mode 1047 0x6c) (main_part screen.Cleared) ws u refl refl h f
  main_text screen.WithCursor ws u h f =
      add true (private_mode 1049 0x6c) (main_part screen.WithCursor) ws u refl refl h f

  saved_text : (k b : Bool) (f : Bool)
      → texts_after f (give b (saved_by {A = A} k)) ≡ part b (saved_part k) ++ []
  unfolding encode digits
  saved_text true b f =
      ap (texts_after f) (sym (append-nil (give b (escape None 0x37))))
      ∙ add b (escape None 0x37) (saved_part true) [] [] refl refl (λ _. refl) f
  saved_text false b f =
      ap (texts_after f) (sym (append-nil (give b (private_mode 1048 0x68))))
      ∙ add b (private_mode 1048 0x68) (saved_part false) [] [] refl refl (λ _. refl) f

  margins_text : (k : Bool) (ws : List (Value A)) (u : List ℕ) → ((f : Bool) → texts_after f ws ≡ u)
      → (f : Bool) → texts_after f (without_margins k ++ ws) ≡ margins_part k ++ u
  unfolding encode digits
  margins_text true ws u h f =
      let off = csi (unspecified [] false 0x72) in
      let back = escape None 0x38 in
      add true (escape None 0x37) (0x1b ∷ codes "7") (off ∷ back ∷ ws) _ refl refl
      (add true off (0x1b ∷ 0x5b ∷ codes "r") (back ∷ ws) _ refl refl
      (add true back (0x1b ∷ codes "8") ws u refl refl h)) f
  margins_text false ws u h f =
      add true (csi (unspecified [] false 0x72)) (0x1b ∷ 0x5b ∷ codes "r") ws u refl refl h f

  last_text : (k b : Bool) (t : Terminal) (f : Bool) → texts_after f
      (next (λ u. if b then without_margins {A = A} k else []) (saved_back k) (calm b t))
      ≡ part b (margins_part k)
      ++ (part (is_changed_saved t.saved && not (b && k)) (saved_part k) ++ [])
  last_text k false t f =
      saved_text k (is_changed_saved t.saved) f
      ∙ ap (λ x. part x (saved_part k) ++ []) (sym (and-true (is_changed_saved t.saved)))
  last_text true true t f =
      margins_text true
      (saved_back true (after_values (without_margins {A = A} true) (calm true t)))
      [] (λ g. ap (λ x. texts_after g (saved_back {A = A} true x)) (both_kept A t)) f
      ∙ ap (λ x. margins_part true ++ (part x (saved_part true) ++ []))
      (sym (and-false (is_changed_saved t.saved)))
  last_text false true t f =
      margins_text false
      (saved_back false (after_values (without_margins {A = A} false) (calm true t)))
      (part (is_changed_saved t.saved) (saved_part false) ++ [])
      (λ g. ap (λ x. texts_after g (saved_back {A = A} false x)) (all_margins A t)
      ∙ saved_text false (is_changed_saved t.saved) g) f
      ∙ ap (λ x. margins_part false ++ (part x (saved_part false) ++ []))
      (sym (and-true (is_changed_saved t.saved)))

  quiet_text : (k : Bool) (t : Terminal) → t.screen ≡ screen.Main → (f : Bool) → texts_after f
      (next (margins_back {A = A} k) (saved_back k) (quiet t))
      ≡ part t.margins (margins_part k) ++ (part (is_saved_due k t) (saved_part k) ++ [])
  quiet_text k t h f =
      subst (λ s. texts_after f
      (next (margins_back {A = A} k) (saved_back k) (record (quiet t) { screen = s }))
      ≡ part t.margins (margins_part k) ++ (part (is_saved_due k t) (saved_part k) ++ []))
      (sym h) (last_text k t.margins t f)

  -- a state, then others, and then the values after these
  grow : (b : Bool) (v : Value A) (t : List ℕ) (vs ws : List (Value A)) (u : List ℕ)
      → is_terminator v ≡ false → whole_text v ≡ t → ((f : Bool) → texts_after f (vs ++ ws) ≡ u)
      → (f : Bool) → texts_after f ((give b v ++ vs) ++ ws) ≡ part b t ++ u
  grow true v t vs ws u n e h f = rw (n, e, h (is_string v)) refl
  grow false v t vs ws u n e h f = h f

  states_text : (k : Bool) (t : Terminal) → t.screen ≡ screen.Main → (f : Bool)
      → texts_after f (next states_back (next (margins_back {A = A} k) (saved_back k)) t)
      ≡ joined_lists (parts_on_main k t)
  unfolding encode digits
  states_text k t h f =
      let last = next (margins_back {A = A} k) (saved_back k) in
      let ws = last (after_values (states_back {A = A} t) t) in
      grow t.sides (private_mode 69 0x6c) (sequence (codes "?69l")) _ ws _ refl refl
      (grow t.origin (private_mode 6 0x6c) (sequence (codes "?6l")) _ ws _ refl refl
      (grow t.insert (csi (unspecified (Integer (pos 4) ∷ []) false 0x6c)) (sequence (codes "4l"))
      _ ws _ refl refl
      (grow t.hidden (private_mode 25 0x68) (sequence (codes "?25h")) _ ws _ refl refl
      (grow t.reverse (private_mode 5 0x6c) (sequence (codes "?5l")) _ ws _ refl refl
      (grow t.no_wrap (private_mode 7 0x68) (sequence (codes "?7h")) _ ws _ refl refl
      (grow t.held (private_mode 2026 0x6c) (sequence (codes "?2026l")) _ ws _ refl refl
      (grow t.rendition (csi (sgr Reset)) (sequence (codes "0m")) _ ws _ refl refl
      (grow t.link (osc (command.SetHyperlink None)) (0x1b ∷ (codes "]8;;" ++ 0x1b ∷ codes "\\"))
      _ ws _ refl refl
      (grow t.sets.shifted (control ShiftIn) (0x0f ∷ []) _ ws _ refl refl
      (grow t.sets.g0 (ascii_in 0x28) (0x1b ∷ codes "(B") _ ws _ refl refl
      (grow t.sets.g1 (ascii_in 0x29) (0x1b ∷ codes ")B") _ ws _ refl refl
      (grow t.sets.g2 (ascii_in 0x2a) (0x1b ∷ codes "*B") _ ws _ refl refl
      (grow t.sets.g3 (ascii_in 0x2b) (0x1b ∷ codes "+B") [] ws _ refl refl
      (λ g. ap (λ x. texts_after g (last x)) (states_are A t) ∙ quiet_text k t h g)))))))))))))) f

  pub back_text : (k : Bool) (t : Terminal) (f : Bool)
      → texts_after f (given_back {A = A} k t) ≡ text_given_back k t
  back_text k t f =
      let rest = next states_back (next (margins_back {A = A} k) (saved_back k)) in
      main_text t.screen (rest (after_values (screen_back {A = A} t) t))
      (joined_lists (parts_on_main k (on_main t)))
      (λ g. ap (λ x. texts_after g (rest x)) (screen_is A t)
      ∙ states_text k (on_main t) (main_shown t.screen t refl) g) f

-- ---- the policy is asked whether the cursor may be saved only if the answer matters

or_no : (a b : Bool) → (a || b) ≡ false → (a ≡ false) × (b ≡ false)
or_no false b h = (refl, h)
or_no true b h = cc

main_margins : (s : Screen) (t : Terminal) → (with_main s t).margins ≡ t.margins
main_margins screen.Main t = refl
main_margins screen.Alternate t = refl
main_margins screen.Cleared t = refl
main_margins screen.WithCursor t = refl

main_saved : (s : Screen) (t : Terminal) → (with_main s t).saved ≡ t.saved
main_saved screen.Main t = refl
main_saved screen.Alternate t = refl
main_saved screen.Cleared t = refl
main_saved screen.WithCursor t = refl

same_by : (d k : Bool) (t : Terminal) → is_cursor_due t ≡ d
    → text_given_back (d && k) t ≡ text_given_back k t
same_by true k t h = refl
same_by false k t h =
    let none = or_no t.margins _ h in
    let m : (on_main t).margins ≡ false = main_margins t.screen t ∙ none.0 in
    let s : is_changed_saved (on_main t).saved ≡ false =
    ap is_changed_saved (main_saved t.screen t) ∙ none.1 in
    rw (m, s) refl

pub same_text : (k : Bool) (t : Terminal)
    → text_given_back (is_cursor_due t && k) t ≡ text_given_back k t
same_text k t = same_by (is_cursor_due t) k t refl

module _ {A : Type 0} where
  pub closed_writable : (admits : Value A → Bool) (vs : List (Value A)) → AreWritable vs
      → AreWritable (closed_values admits vs)
  closed_writable admits vs h =
      both_from A false vs (closing admits vs) h
      (back_writable A (keeps_cursor admits) (after_values vs as_at_start))

  pub closing_text : (admits : Value A → Bool) (vs : List (Value A)) → list_text (closing admits vs)
      ≡ text_given_back (keeps_cursor admits) (after_values vs as_at_start)
  closing_text admits vs = back_text A (keeps_cursor admits) (after_values vs as_at_start) false

  pub closed_more : (admits : Value A → Bool) (vs : List (Value A))
      → list_text (closed_values admits vs) ≡ list_text vs ++ list_text (closing admits vs)
  closed_more admits vs =
      let k = keeps_cursor admits in
      let o = after_values vs as_at_start in
      texts_more false vs (closing admits vs)
      ∙ ap (λ t. list_text vs ++ t)
      (back_text A k o (ends_in_string false vs) ∙ sym (back_text A k o false))
