-- Steps that are taken once the rows that they scroll off are handed out.
use Rattle.std.proofs.Common.{ℕ, ◌≡◌, ◌+◌, List, [], ◌∷◌, ◌++◌, None, Some, Result, Ok, Err, OnOk, true, take, replicate, refl, ap, sym, subst, ◌∙◌, append_assoc, append-nil}
use Rattle.std.specs.List.{FoldsTo}
use Rattle.std.proofs.lemmas.List.{replicate_more}
use Rattle.esc_parse.proofs.Lists.StepsOverLists.{FoldsTo-append}
use Rattle.esc_parse.specs.Given.{At}
use Rattle.esc_parse.specs.Images.{is_image}
use Rattle.esc_actions.proofs.Meaning.MeaningsJoin.{meaning_more}
use Rattle.esc_actions.specs.Meaning.{yield_within}
use Rattle.esc_actions.specs.Values.{Value, value_of, print, string, control, esc, csi, osc, kitty, sixel, termcap, short, enter, datum, exit}
use Rattle.esc_actions.specs.declared.action.Action.{Action}
use Rattle.typed_functions.specs.Functions.{Value as Function}
use Rattle.esc_terminal.specs.Links.{Known}
use Rattle.esc_screen.specs.Grids.{Grid, Size}
use Rattle.esc_screen.specs.Screens.{Becomes, grid_of, size_of}
use Rattle.esc_screen.specs.Scrolled.{gone_by, joined_by, off_by, off_each, off_from, parts_of}
use Rattle.esc_screen.specs.Steps.{grid_by, grid_from}
use Rattle.esc_screen.specs.declared.screen.Screen.{Screen}
use Rattle.esc_screen.specs.declared.step.Step.{Step}
use Rattle.esc_screen.proofs.Printing.RowGoesOnOnce.{gone_joined, joins_once}
use Rattle.esc_screen.proofs.Printing.RunsOfCharacters.{in_chunks}
use Rattle.esc_screen.proofs.Scrolled.RowsScrolledOff.{in_parts}
use Rattle.esc_terminal.specs.Fed.{Does, IsShown, Shows, Takes, TakesAll, TakesValue, known_in, names_in, requests_in, shown_in}
use Rattle.esc_terminal.specs.Kept.{HandsOut, KeepsAction, KeepsFunction, KeepsStep}
use Rattle.esc_terminal.specs.Requests.{function_request, request_list}
use Rattle.esc_terminal.specs.Scrolled.{GoesOffOn, Row, off_after, off_by_value, with_known}
use Rattle.esc_terminal.specs.Steps.{one_step}
use Rattle.esc_terminal.specs.Streams.{Shown, first_shown, shown_after, shown_by, shown_of, values_of}
use Rattle.esc_terminal.specs.declared.keeping.Keeping.{Keeping}
use Rattle.esc_terminal.specs.declared.state.State.{State}
use Rattle.esc_terminal.proofs.Handed.{function_off, one_is, part_more}
use Rattle.esc_terminal.proofs.Streams.{image_dropped, one_shown}

-- ---- the parts of a step

-- so many steps were taken
pub record Stepped {R A : Type 0} (takes : R → Row → R → Type 0) (p : Keeping R A) (x : Step)
    (n : ℕ) (q : Keeping R A) : Type 0 where
  pub screen : Becomes p.state.screen
      (grid_from (size_of p.state.screen) (grid_of p.state.screen) (replicate n x)) q.state.screen
  pub known : known_in q.state ≡ known_in p.state
  pub names : names_in q.state ≡ names_in p.state
  pub requests : requests_in q.state ≡ requests_in p.state
  pub rows : FoldsTo takes p.rows (with_known (known_in p.state)
      (off_each (size_of p.state.screen) (grid_of p.state.screen) (replicate n x))) q.rows

pub stepped_none : {R A : Type 0} (takes : R → Row → R → Type 0) (p : Keeping R A) (x : Step)
    → Stepped takes p x 0 p
stepped_none takes p x = record {
  screen = record {
    grid = refl;
    size = refl;
  };
  known = refl;
  names = refl;
  requests = refl;
  rows = refl;
}

-- the screen of a row that goes on in the next one
abbrev with_screen : {R A : Type 0} → Keeping R A → Screen A → Keeping R A
with_screen p u = record p { state = record (p.state) { screen = u } }

-- the rows that are handed out of it
joined_rows : {R A : Type 0} (takes : R → Row → R → Type 0) (j k : Keeping R A) (x : Step)
    (u : Screen A) (s : Size) (h : Grid) (ls : Known) → size_of u ≡ s
    → grid_of u ≡ joined_by s h x → known_in j.state ≡ ls
    → HandsOut takes (with_screen j u) (take (gone_by (size_of u) (grid_of u) x) u.rows.items) k
    → FoldsTo takes j.rows (with_known ls (take (gone_by s h x) (joined_by s h x).rows)) k.rows
joined_rows takes j k x u s h ls size grid known out =
    subst (λ n. FoldsTo takes j.rows (with_known ls (take n (joined_by s h x).rows)) k.rows)
    (gone_joined s h x)
    (subst (λ z. FoldsTo takes j.rows (with_known ls (take (gone_by s z x) z.rows)) k.rows) grid
    (subst (λ z. FoldsTo takes j.rows (with_known ls (take (gone_by z (grid_of u) x)
    (grid_of u).rows)) k.rows) size
    (subst (λ z. FoldsTo takes j.rows (with_known z (take (gone_by (size_of u) (grid_of u) x)
    (grid_of u).rows)) k.rows) known out.1)))

pub stepped_more : {R A : Type 0} (takes : R → Row → R → Type 0) (p j k : Keeping R A) (x : Step)
    (n : ℕ) (u t : Screen A) → Stepped takes p x n j
    → Becomes j.state.screen (joined_by (size_of j.state.screen) (grid_of j.state.screen) x) u
    → HandsOut takes (with_screen j u) (take (gone_by (size_of u) (grid_of u) x) u.rows.items) k
    → Becomes k.state.screen (grid_by (size_of k.state.screen) (grid_of k.state.screen) x) t
    → Stepped takes p x (n + 1) (with_screen k t)
stepped_more takes p j k x n u t so on out b =
    let s = size_of p.state.screen in
    let g = grid_of p.state.screen in
    let ls = known_in p.state in
    let h = grid_from s g (replicate n x) in
    let same = out.0 in
    let size = on.size ∙ so.screen.size in
    let grid = on.grid ∙ ap (λ z. joined_by z (grid_of j.state.screen) x) so.screen.size
    ∙ ap (λ z. joined_by s z x) so.screen.grid in
    let more : grid_by s h x ≡ grid_from s g (replicate (n + 1) x) =
    sym (in_chunks s g (replicate n x) (x ∷ [])) ∙ ap (grid_from s g) (replicate_more n x) in
    let last = joined_rows takes j k x u s h ls size grid so.known out in
    record {
      screen = record {
        grid = b.grid
            ∙ ap (λ z. grid_by (size_of z.screen) (grid_of z.screen) x) same
            ∙ ap (λ z. grid_by z (grid_of u) x) size
            ∙ ap (λ z. grid_by s z x) grid ∙ joins_once s h x ∙ more;
        size = b.size ∙ ap (λ z. size_of z.screen) same ∙ size;
      };
      known = ap known_in same ∙ so.known;
      names = ap names_in same ∙ so.names;
      requests = ap requests_in same ∙ so.requests;
      rows = subst (λ z. FoldsTo takes p.rows z k.rows) (part_more s g x n ls)
          (FoldsTo-append takes p.rows (with_known ls (off_each s g (replicate n x))) j.rows
          (with_known ls (take (gone_by s h x) (joined_by s h x).rows)) k.rows so.rows last);
    }

pub stepped_all : {R A : Type 0} (takes : R → Row → R → Type 0) (p q : Keeping R A) (x y : Step)
    (n : ℕ)
    → replicate n y ≡ parts_of (size_of p.state.screen) (grid_of p.state.screen) x
    → Stepped takes p y n q → KeepsStep takes p x q
stepped_all takes p q x y n is so =
    let s = size_of p.state.screen in
    let g = grid_of p.state.screen in (
      record {
        screen = record {
          grid = so.screen.grid ∙ ap (grid_from s g) is ∙ sym (in_parts s g x);
          size = so.screen.size;
        };
        known = so.known;
        names = so.names;
        requests = so.requests ∙ sym (append-nil (requests_in p.state));
      },
      subst (λ z. FoldsTo takes p.rows (with_known (known_in p.state) z) q.rows)
          (ap (off_each s g) is ∙ sym (append-nil (off_by s g x))) so.rows,
    )

-- ---- functions

pub step_kept : {R A : Type 0} (takes : R → Row → R → Type 0) (p j q : Keeping R A) (x : Step)
    (f : Function) → one_step p.state.screen.cursor f ≡ Some x → KeepsStep takes p x j
    → Does j.state [] (known_in j.state) (names_in j.state) (request_list (function_request f))
    q.state
    → q.rows ≡ j.rows → KeepsFunction takes p f q
step_kept takes p j q x f is (h, out) k rows =
    let ls = known_in p.state in
    let rs = request_list (function_request f) in
    let one = one_is ls p.state.screen.cursor f x is in
    let s = size_of p.state.screen in
    let g = grid_of p.state.screen in (
      record {
        screen = record {
          grid = k.screen.grid ∙ h.screen.grid ∙ ap (grid_from s g) (sym one.0);
          size = k.screen.size ∙ h.screen.size;
        };
        known = k.known ∙ h.known ∙ sym one.1;
        names = k.names ∙ h.names;
        requests = k.requests
            ∙ ap (λ z. z ++ rs) (h.requests ∙ append-nil (requests_in p.state));
      },
      subst (λ z. FoldsTo takes p.rows (with_known ls (off_from s g z)) q.rows) (sym one.0)
          (subst (λ z. FoldsTo takes p.rows (with_known ls (off_from s g (x ∷ []))) z) (sym rows)
          out),
    )

pub steps_kept : {R A : Type 0} (takes : R → Row → R → Type 0) (p q : Keeping R A) (f : Function)
    → None ≡ one_step p.state.screen.cursor f → TakesAll p.state f q.state → q.rows ≡ p.rows
    → KeepsFunction takes p f q
steps_kept takes p q f is h rows = (
  h,
  subst (λ z. FoldsTo takes p.rows (with_known (known_in p.state) z) q.rows)
      (sym (function_off (size_of p.state.screen) (grid_of p.state.screen) (known_in p.state)
      p.state.screen.cursor f is)) (sym rows),
)

-- ---- images

no_rows : {R A : Type 0} (takes : R → Row → R → Type 0) (p : Keeping R A) (v : Value A)
    → is_image v ≡ true
    → FoldsTo takes p.rows (off_by_value (size_of p.state.screen) (shown_in p.state) v) p.rows
no_rows takes p (kitty i) h = refl
no_rows takes p (sixel s) h = refl
no_rows takes p (print c) h = absurd cc
no_rows takes p (string t) h = absurd cc
no_rows takes p (control c) h = absurd cc
no_rows takes p (esc e) h = absurd cc
no_rows takes p (csi c) h = absurd cc
no_rows takes p (osc c) h = absurd cc
no_rows takes p (termcap ns) h = absurd cc
no_rows takes p (short s) h = absurd cc
no_rows takes p (enter e) h = absurd cc
no_rows takes p (datum b) h = absurd cc
no_rows takes p exit h = absurd cc

pub image_kept : {R A : Type 0} (takes : R → Row → R → Type 0) (p : Keeping R A) (a : Action A)
    → is_image (value_of a) ≡ true → KeepsAction takes p a p
image_kept takes p a h = (image_dropped p.state a h, no_rows takes p (value_of a) h)

-- ---- streams

pub all_kept : {R A : Type 0} (takes : R → Row → R → Type 0) (p : Keeping R A)
    (vs : List (Value A)) (q : Keeping R A) → FoldsTo (At value_of (KeepsAction takes)) p vs q
    → FoldsTo (At value_of Takes) p.state vs q.state
    × FoldsTo takes p.rows (off_after (size_of p.state.screen) (shown_in p.state) vs) q.rows
all_kept takes p [] q e = (ap (λ z. z.state) e, ap (λ z. z.rows) e)
all_kept takes p (v ∷ vs) q (j, (a, is, w), rest) =
    let z = size_of p.state.screen in
    let t = shown_in p.state in
    let r = all_kept takes j vs q rest in
    let k = subst (λ x. TakesValue p.state x j.state) is w.0 in
    let later : off_after (size_of j.state.screen) (shown_in j.state) vs
    ≡ off_after z (shown_by z t v) vs =
    ap (λ x. off_after x (shown_in j.state) vs) k.screen.size
    ∙ ap (λ x. off_after z x vs) (one_shown p.state v j.state k) in (
      (j.state, (a, is, w.0), r.0),
      FoldsTo-append takes p.rows (off_by_value z t v) j.rows (off_after z (shown_by z t v) vs)
          q.rows (subst (λ x. FoldsTo takes p.rows (off_by_value z t x) j.rows) is w.1)
          (subst (λ x. FoldsTo takes j.rows x q.rows) later r.1),
    )

-- the rows of what a terminal shows
pub rows_given : {R A : Type 0} (takes : R → Row → R → Type 0) (z : Size) (s b : List ℕ)
    (p : State A) (r q : R) → Shows z s p
    → FoldsTo takes r (off_after (size_of p.screen) (shown_in p)
    (yield_within {A = A} (Some 0x1000) s b)) q
    → FoldsTo takes r (off_after z (shown_of A z s) (yield_within {A = A} (Some 0x1000) s b)) q
rows_given {A = A} takes z s b p r q h f =
    let vs = yield_within {A = A} (Some 0x1000) s b in
    subst (λ x. FoldsTo takes r x q)
    (ap (λ x. off_after x (shown_in p) vs) h.size ∙ ap (λ x. off_after z x vs) h.shown) f

pub rows_from : {R A : Type 0} (takes : R → Row → R → Type 0) (z : Size) (x : Shown)
    (s b : List ℕ) (p : State A) (r q : R) → IsShown z x p
    → FoldsTo takes r (off_after (size_of p.screen) (shown_in p)
    (yield_within {A = A} (Some 0x1000) s b)) q
    → FoldsTo takes r (off_after z x (yield_within {A = A} (Some 0x1000) s b)) q
rows_from {A = A} takes z x s b p r q h f =
    let vs = yield_within {A = A} (Some 0x1000) s b in
    subst (λ y. FoldsTo takes r y q)
    (ap (λ y. off_after y (shown_in p) vs) h.size ∙ ap (λ y. off_after z y vs) h.shown) f

off_more : {A : Type 0} (z : Size) (t : Shown) (us vs : List (Value A))
    → off_after z t (us ++ vs) ≡ off_after z t us ++ off_after z (shown_after z t us) vs
off_more z t [] vs = refl
off_more z t (u ∷ us) vs =
    let k = shown_by z t u in
    ap (λ x. off_by_value z t u ++ x) (off_more z k us vs)
    ∙ sym (append_assoc (off_by_value z t u) (off_after z k us)
    (off_after z (shown_after z k us) vs))

pub goes_off_on : (A : Type 0) → GoesOffOn A
goes_off_on A = λ z s b.
    ap (off_after z (first_shown z)) (sym (meaning_more {A = A} (Some 0x1000) s b))
    ∙ off_more z (first_shown z) (values_of A s) (yield_within (Some 0x1000) s b)

-- ---- results

pub ok_then : {U E X Y : Type 0} (r : Result U E) → (X → Y) → OnOk r X → OnOk r Y
ok_then (Ok u) f x = f x
ok_then (Err e) f x = tt
