-- A fact about each value that may undo a change is one about all values that do.
use Rattle.std.proofs.Common.{◌≡◌, pos, Bool, true, false, if◌then◌else◌, List, [], ◌∷◌, ◌++◌, None, refl}
use Rattle.std.specs.List.{list_all}
use Rattle.esc_sequences.specs.Csis.{sgr, unspecified}
use Rattle.esc_sequences.specs.declared.sgr.Sgr.TheVariants.{Reset}
use Rattle.esc_values.specs.declared.csi_param.CsiParam.TheVariants.{Integer}
use Rattle.esc_osc.specs.declared.command.OperatingSystemCommand.TheVariants as command
use Rattle.esc_actions.specs.Values.{Value, control, csi, osc}
use Rattle.esc_actions.specs.declared.control_code.ControlCode.TheVariants.{ShiftIn}
use Rattle.esc_filter.specs.Closing.{after_values, ascii_in, escape, give, given_back, main_by, margins_back, private_mode, saved_by, screen_back, states_back, without_margins}
use Rattle.esc_filter.specs.Terminal.{is_changed_saved}
use Rattle.esc_filter.specs.declared.terminal.Screen.{Screen}
use Rattle.esc_filter.specs.declared.terminal.Screen.TheVariants as screen
use Rattle.esc_filter.specs.declared.terminal.Terminal.{Terminal}
use Rattle.esc_filter.proofs.ByLine.DataHasNoFeed.{both}

module _ {A : Type 0} (p : Value A → Bool) where
  -- it holds for each of these
  pub record OfEach : Type 0 where
    pub main : (p (private_mode 47 0x6c) ≡ true) × (p (private_mode 1047 0x6c) ≡ true)
        × (p (private_mode 1049 0x6c) ≡ true)
    pub sides : p (private_mode 69 0x6c) ≡ true
    pub origin : p (private_mode 6 0x6c) ≡ true
    pub insert : p (csi (unspecified (Integer (pos 4) ∷ []) false 0x6c)) ≡ true
    pub hidden : p (private_mode 25 0x68) ≡ true
    pub reverse : p (private_mode 5 0x6c) ≡ true
    pub no_wrap : p (private_mode 7 0x68) ≡ true
    pub held : p (private_mode 2026 0x6c) ≡ true
    pub rendition : p (csi (sgr Reset)) ≡ true
    pub link : p (osc (command.SetHyperlink None)) ≡ true
    pub shifted : p (control ShiftIn) ≡ true
    pub sets : (p (ascii_in 0x28) ≡ true) × (p (ascii_in 0x29) ≡ true)
        × (p (ascii_in 0x2a) ≡ true) × (p (ascii_in 0x2b) ≡ true)
    pub margins : p (csi (unspecified [] false 0x72)) ≡ true
    pub saves : p (escape None 0x37) ≡ true
    pub restores : p (escape None 0x38) ≡ true
    pub saves_by_mode : p (private_mode 1048 0x68) ≡ true

  module _ (e : OfEach) where
    abbrev All : List (Value A) → Type 0
    All vs = list_all p vs ≡ true

    give_all : (b : Bool) (v : Value A) (vs : List (Value A)) → p v ≡ true → All vs
        → All (give b v ++ vs)
    give_all true v vs h k = rw (h, k) refl
    give_all false v vs h k = k

    main_all : (s : Screen) → All (main_by s)
    main_all screen.Main = refl
    main_all screen.Alternate = rw e.main.0 refl
    main_all screen.Cleared = rw e.main.1 refl
    main_all screen.WithCursor = rw e.main.2 refl

    states_all : (t : Terminal) → All (states_back t)
    states_all t =
        give_all t.sides _ _ e.sides (give_all t.origin _ _ e.origin
        (give_all t.insert _ _ e.insert (give_all t.hidden _ _ e.hidden
        (give_all t.reverse _ _ e.reverse (give_all t.no_wrap _ _ e.no_wrap
        (give_all t.held _ _ e.held (give_all t.rendition _ _ e.rendition
        (give_all t.link _ _ e.link (give_all t.sets.shifted _ _ e.shifted
        (give_all t.sets.g0 _ _ e.sets.0 (give_all t.sets.g1 _ _ e.sets.1
        (give_all t.sets.g2 _ _ e.sets.2 (give_all t.sets.g3 _ [] e.sets.3 refl)))))))))))))

    margins_all : (k b : Bool) → All (if b then without_margins k else [])
    margins_all k false = refl
    margins_all true true = rw (e.saves, e.margins, e.restores) refl
    margins_all false true = rw e.margins refl

    saved_all : (k b : Bool) → All (give b (saved_by k))
    saved_all k false = refl
    saved_all true true = rw e.saves refl
    saved_all false true = rw e.saves_by_mode refl

    pub back_all : (k : Bool) (t : Terminal) → All (given_back k t)
    back_all k t =
        let m = after_values (screen_back {A = A} t) t in
        let q = after_values (states_back {A = A} m) m in
        let u = after_values (margins_back {A = A} k q) q in
        both p (screen_back t) _ (main_all t.screen)
        (both p (states_back m) _ (states_all m)
        (both p (margins_back k q) _ (margins_all k q.margins)
        (saved_all k (is_changed_saved u.saved))))
