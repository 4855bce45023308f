-- Values that a terminal was given.
use Rattle.std.proofs.Common.{ℕ, ◌≡◌, List, [], ◌∷◌, ◌++◌, IsSomeAnd, None, Option, Some, inl, inr, ap, sym, subst, ◌∙◌, append_assoc, append-nil, refl, true}
use Rattle.std.specs.List.{FoldsTo}
use Rattle.esc_actions.proofs.Meaning.MeaningsJoin.{meaning_more, meaning_nil}
use Rattle.esc_actions.specs.Meaning.{yield_within}
use Rattle.esc_actions.specs.Values.{Value, value_of, print, string, control, esc, csi, osc, kitty, sixel, termcap, short, enter, datum, exit}
use Rattle.esc_actions.specs.declared.action.Action.{Action}
use Rattle.esc_parse.specs.Given.{At, StopsAt}
use Rattle.esc_parse.specs.Images.{is_image}
use Rattle.esc_screen.specs.Grids.{Size, first_grid}
use Rattle.esc_screen.specs.Screens.{grid_of, size_of}
use Rattle.esc_screen.specs.Halves.{HasWholeRows}
use Rattle.esc_screen.specs.Sound.{IsSound}
use Rattle.esc_screen.proofs.Sound.StaysSound.{stays_sound}
use Rattle.esc_screen.proofs.Whole.GridsStayWhole.{stays_whole}
use Rattle.esc_terminal.specs.Fed.{HasConsumed, IsShown, Shows, Takes, TakesSteps, TakesValue, known_in, names_in, requests_in, shown_in}
use Rattle.esc_terminal.specs.Laws.{GoesOn, StandsAt}
use Rattle.esc_terminal.specs.Links.{first_known}
use Rattle.esc_terminal.specs.Requests.{requests_of}
use Rattle.esc_terminal.specs.Steps.{steps_of}
use Rattle.esc_terminal.specs.Streams.{Shown, asked_by, first_shown, no_names, shown_after, shown_by, shown_of, values_of}
use Rattle.esc_terminal.specs.declared.state.State.{State}

shown_more : {A : Type 0} (z : Size) (t : Shown) (us vs : List (Value A))
    → shown_after z t (us ++ vs) ≡ shown_after z (shown_after z t us) vs
shown_more z t [] vs = refl
shown_more z t (u ∷ us) vs = shown_more z (shown_by z t u) us vs

-- the effect of values, one after another
pub record Did {A : Type 0} (p : State A) (vs : List (Value A)) (q : State A) : Type 0 where
  pub shown : shown_in q ≡ shown_after (size_of p.screen) (shown_in p) vs
  pub size : size_of q.screen ≡ size_of p.screen
  pub requests : requests_in q ≡ requests_in p ++ asked_by vs

-- the effect of one value
pub one_shown : {A : Type 0} (p : State A) (v : Value A) (q : State A) → TakesValue p v q
    → shown_in q ≡ shown_by (size_of p.screen) (shown_in p) v
one_shown p v q k =
    let t = shown_by (size_of p.screen) (shown_in p) v in
    ap (λ x. record (shown_in q) { grid = x }) k.screen.grid
    ∙ ap (λ x. record t { known = x; names = names_in q }) k.known
    ∙ ap (λ x. record t { names = x }) k.names

all_did : {A : Type 0} (p : State A) (vs : List (Value A)) (q : State A)
    → FoldsTo (At value_of Takes) p vs q → Did p vs q
all_did p [] q e = record {
  shown = ap shown_in (sym e);
  size = ap (λ r. size_of r.screen) (sym e);
  requests = ap requests_in (sym e) ∙ sym (append-nil (requests_in p));
}
all_did p (v ∷ vs) q (j, (a, is, w), rest) =
    let z = size_of p.screen in
    let k = subst (λ x. TakesValue p x j) is w in
    let r = all_did j vs q rest in
    record {
      shown = r.shown ∙ ap (λ x. shown_after x (shown_in j) vs) k.screen.size
          ∙ ap (λ x. shown_after z x vs) (one_shown p v j k);
      size = r.size ∙ k.screen.size;
      requests = r.requests ∙ ap (λ x. x ++ asked_by vs) k.requests
          ∙ append_assoc (requests_in p) (requests_of v) (asked_by vs);
    }

pub shows_first : {A : Type 0} (z : Size) (p : State A) → grid_of p.screen ≡ first_grid z
    → size_of p.screen ≡ z → known_in p ≡ first_known → names_in p ≡ no_names → Shows z [] p
shows_first {A} z p grid size known names = record {
  shown = ap (λ x. record (shown_in p) { grid = x }) grid
      ∙ ap (λ x. record (first_shown z) { known = x; names = names_in p }) known
      ∙ ap (λ x. record (first_shown z) { names = x }) names
      ∙ ap (shown_after z (first_shown z)) (sym (meaning_nil {A = A} (Some 0x1000)));
  size = size;
}

-- the same with no requests
pub shows_cleared : {A : Type 0} (z : Size) (s : List ℕ) (p q : State A) → q.screen ≡ p.screen
    → known_in q ≡ known_in p → names_in q ≡ names_in p → Shows z s p → Shows z s q
shows_cleared z s p q screen known names h = record {
  shown = ap (λ x. record (shown_in q) { grid = grid_of x }) screen
      ∙ ap (λ x. record (shown_in p) { known = x; names = names_in q }) known
      ∙ ap (λ x. record (shown_in p) { names = x }) names ∙ h.shown;
  size = ap size_of screen ∙ h.size;
}

pub shows_more : {A : Type 0} (z : Size) (s b : List ℕ) (p q : State A) → requests_in p ≡ []
    → Shows z s p → FoldsTo (At value_of Takes) p (yield_within (Some 0x1000) s b) q
    → Shows z (s ++ b) q
    × (requests_in q ≡ asked_by (yield_within {A = A} (Some 0x1000) s b))
shows_more {A} z s b p q none h f =
    let us = values_of A s in
    let vs = yield_within {A = A} (Some 0x1000) s b in
    let r = all_did p vs q f in (
      record {
        shown = r.shown ∙ ap (λ x. shown_after x (shown_in p) vs) h.size
            ∙ ap (λ x. shown_after z x vs) h.shown ∙ sym (shown_more z (first_shown z) us vs)
            ∙ ap (shown_after z (first_shown z)) (meaning_more {A = A} (Some 0x1000) s b);
        size = r.size ∙ h.size;
      },
      r.requests ∙ ap (λ x. x ++ asked_by vs) none,
    )

-- ---- from what it shows

pub shown_cleared : {A : Type 0} (z : Size) (x : Shown) (p q : State A) → q.screen ≡ p.screen
    → known_in q ≡ known_in p → names_in q ≡ names_in p → IsShown z x p → IsShown z x q
shown_cleared z x p q screen known names h = record {
  shown = ap (λ y. record (shown_in q) { grid = grid_of y }) screen
      ∙ ap (λ y. record (shown_in p) { known = y; names = names_in q }) known
      ∙ ap (λ y. record (shown_in p) { names = y }) names ∙ h.shown;
  size = ap size_of screen ∙ h.size;
}

pub stands_more : {A : Type 0} (z : Size) (x : Shown) (s b : List ℕ) (p q : State A)
    → requests_in p ≡ [] → IsShown z x p
    → FoldsTo (At value_of Takes) p (yield_within (Some 0x1000) s b) q
    → IsShown z (shown_after z x (yield_within {A = A} (Some 0x1000) s b)) q
    × (requests_in q ≡ asked_by (yield_within {A = A} (Some 0x1000) s b))
stands_more {A} z x s b p q none h f =
    let vs = yield_within {A = A} (Some 0x1000) s b in
    let r = all_did p vs q f in (
      record {
        shown = r.shown ∙ ap (λ y. shown_after y (shown_in p) vs) h.size
            ∙ ap (λ y. shown_after z y vs) h.shown;
        size = r.size ∙ h.size;
      },
      r.requests ∙ ap (λ y. y ++ asked_by vs) none,
    )

shows_this : {A : Type 0} (z : Size) (s : List ℕ) (o : Option (State A)) → IsSomeAnd o (Shows z s)
    → IsSomeAnd o (IsShown z (shown_of A z s))
shows_this z s None h = h
shows_this z s (Some p) h = record {
  shown = h.shown;
  size = h.size;
}

pub stands_at : (A : Type 0) → StandsAt A
stands_at A = λ z s t h. record {
  parser = h.parser;
  state = shows_this z s t.state h.state;
}

-- ---- laws

pub stays_sound_after : {A : Type 0} (z : Size) (t : Shown) (vs : List (Value A))
    → IsSound z t.grid → IsSound z (shown_after z t vs).grid
stays_sound_after z t [] h = h
stays_sound_after z t (v ∷ vs) h =
    stays_sound_after z (shown_by z t v) vs
    (stays_sound z t.grid (steps_of t.known t.grid.cursor v) h)

pub stays_whole_after : {A : Type 0} (z : Size) (t : Shown) (vs : List (Value A))
    → IsSound z t.grid → HasWholeRows t.grid → HasWholeRows (shown_after z t vs).grid
stays_whole_after z t [] o h = h
stays_whole_after z t (v ∷ vs) o h =
    let xs = steps_of t.known t.grid.cursor v in
    stays_whole_after z (shown_by z t v) vs (stays_sound z t.grid xs o)
    (stays_whole z t.grid xs o h)

pub goes_on : (A : Type 0) → GoesOn A
goes_on A = λ z s b.
    ap (shown_after z (first_shown z)) (sym (meaning_more {A = A} (Some 0x1000) s b))
    ∙ shown_more z (first_shown z) (values_of A s) (yield_within (Some 0x1000) s b)

-- ---- calls

-- a giver that stops at a value, or by itself, was refused memory
pub stops_refused : {P V : Type 0} (own why : Type 0) (R Q : P → V → P → Type 0)
    → (own → why) → ((p : P) (v : V) (q : P) → Q p v q → why)
    → (p : P) (vs : List V) (q : P) → StopsAt own R Q p vs q → why
stops_refused own why R Q k says p [] q e = k e.0
stops_refused own why R Q k says p (v ∷ vs) q (inl e) = k e.0
stops_refused own why R Q k says p (v ∷ vs) q (inr (inl z)) = says p v q z
stops_refused own why R Q k says p (v ∷ vs) q (inr (inr (mid, t, rest))) =
    stops_refused own why R Q k says mid vs q rest

-- ---- images

does_nothing : {A : Type 0} (p : State A) → TakesSteps p [] p
does_nothing p = record {
  screen = record {
    grid = refl;
    size = refl;
  };
  known = refl;
  names = refl;
  requests = sym (append-nil (requests_in p));
}

takes_image : {A : Type 0} (p : State A) (v : Value A) → is_image v ≡ true → TakesValue p v p
takes_image p (kitty i) h = does_nothing p
takes_image p (sixel s) h = does_nothing p
takes_image p (print c) h = absurd cc
takes_image p (string t) h = absurd cc
takes_image p (control c) h = absurd cc
takes_image p (esc e) h = absurd cc
takes_image p (csi c) h = absurd cc
takes_image p (osc c) h = absurd cc
takes_image p (termcap ns) h = absurd cc
takes_image p (short s) h = absurd cc
takes_image p (enter e) h = absurd cc
takes_image p (datum b) h = absurd cc
takes_image p exit h = absurd cc

pub image_dropped : {A : Type 0} (p : State A) (a : Action A) → is_image (value_of a) ≡ true
    → Takes p a p
image_dropped p a h = takes_image p (value_of a) h
