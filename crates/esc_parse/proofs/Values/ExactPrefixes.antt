-- Exact prefixes: the facts that a turn of a loop that looks for one knows.
use Rattle.std.proofs.Common.{◌≡◌, ◌≢◌, ℕ, zero, suc, ◌+◌, ◌-◌, ◌<◌, ◌≤◌, List, [], ◌∷◌, ◌++◌, length, take, drop, Option, Some, None, IfSome, refl, ap, sym, ◌∙◌}
use Rattle.std.proofs.Common.{subst, append_assoc, take-append-drop, take_all, length-drop, arith, ◌⊎◌, inl, inr}
use Rattle.std.proofs.Math.Seq.{take-add}
use Rattle.std.proofs.Math.Nat.{eq-or-lt_of_le}
use Rattle.std.proofs.lemmas.Bool.{cases_lt}
use Rattle.std.proofs.lemmas.List.{append-nil, append_cancel_left, take-take}
use Rattle.std.specs.List.{FoldsTo}
use Rattle.std.specs.Option.{option_map}
use Rattle.esc_frame.specs.Events.{Event}
use Rattle.esc_frame.specs.Events.Event.{Execute, Print}
use Rattle.esc_frame.specs.Memory.{MayTake}
use Rattle.esc_frame.specs.Stream.{added_within, events_within, IsAtGround, IsQuietWithin}
use Rattle.esc_parse.proofs.Lists.ListTakesActions.{adds_more, adds_none, adds_some}
use Rattle.esc_parse.proofs.Lists.PrefixOfRest.{rest_is}
use Rattle.esc_frame.specs.Parses.{AddsOne}
use Rattle.esc_parse.proofs.Values.EventsGiveValues.{hooks_by}
use Rattle.esc_parse.specs.Calls.{Yields}
use Rattle.esc_parse.specs.Fed.{ParserHasConsumedWithin}
use Rattle.esc_parse.specs.declared.parser.Parser.{Parser}
use Rattle.esc_parse.specs.Collected.{Adds, AddsSome}
use Rattle.esc_actions.proofs.Meaning.MeaningsJoin.{meaning_more, yield_is}
use Rattle.esc_parse.specs.Firsts.{first, IsFirst, IsFirstStop, IsSilentWithin, IsStop}
use Rattle.esc_parse.specs.Given.{At, StopsAt, first_of}
use Rattle.esc_actions.specs.Meaning.{MayWant, meaning_within, mode_from, values_from, yield_within}
use Rattle.esc_actions.specs.Values.{plain, value_of, Value}
use Rattle.esc_actions.specs.Values.Value.{control, print}
use Rattle.esc_actions.specs.Writable.{EmittedAreWritable, IsHandedOut}
use Rattle.esc_actions.specs.ControlCodes.{code_of}
use Rattle.esc_actions.specs.declared.action.Action.{Action}
use Rattle.esc_actions.specs.declared.control_code.ControlCode.{ControlCode}
use Rattle.esc_parse.specs.declared.sink.First.{First}

-- the first of the actions that a sink was given
keeps : {A : Type 0} (p : First A) (a : Action A) (vs : List (Value A)) (q : First A)
    → FoldsTo (At value_of (λ p a q. q.action ≡ first_of p.action a)) p vs q
    → p.action ≡ Some a → q.action ≡ Some a
keeps p a [] q e h = ap (λ x. x.action) (sym e) ∙ h
keeps p a (v ∷ vs) q (j, (b, is, w), rest) h = keeps j a vs q rest (w ∙ ap (λ o. first_of o b) h)

pub keeps_first : {A : Type 0} (p : First A) (vs : List (Value A)) (q : First A)
    → FoldsTo (At value_of (λ p a q. q.action ≡ first_of p.action a)) p vs q
    → p.action ≡ None → option_map value_of q.action ≡ first vs
keeps_first p [] q e h = ap (λ x. option_map value_of x.action) (sym e) ∙ ap (option_map value_of) h
keeps_first p (v ∷ vs) q (j, (b, is, w), rest) h =
    ap (option_map value_of) (keeps j b vs q rest (w ∙ ap (λ o. first_of o b) h)) ∙ ap Some is

-- a sink that takes every action is stopped by the giver alone
pub stops_itself : {P T V : Type 0} (f : T → V) (takes : P → T → P → Type 0) (own : Type 0) (p : P)
    (vs : List V) (q : P)
    → StopsAt own (At f takes) (At f (λ p a q. ⊥)) p vs q → own
stops_itself f takes own p [] q h = h.0
stops_itself f takes own p (v ∷ vs) q (inl h) = h.0
stops_itself f takes own p (v ∷ vs) q (inr (inl r)) = absurd r.2
stops_itself f takes own p (v ∷ vs) q (inr (inr (mid, t, rest))) =
    stops_itself f takes own mid vs q rest

-- the values that bytes yield, one after another
pub yield_append : {A : Type 0} (limit : Option ℕ) (s b c : List ℕ)
    → yield_within {A = A} limit s (b ++ c)
    ≡ yield_within limit s b ++ yield_within limit (s ++ b) c
yield_append limit s b c =
    append_cancel_left (meaning_within limit s) (yield_within limit s (b ++ c))
    (yield_within limit s b ++ yield_within limit (s ++ b) c)
    (meaning_more limit s (b ++ c) ∙ ap (meaning_within limit) (sym (append_assoc s b c))
    ∙ sym (meaning_more limit (s ++ b) c)
    ∙ ap (λ x. x ++ yield_within limit (s ++ b) c) (sym (meaning_more limit s b))
    ∙ append_assoc (meaning_within limit s) (yield_within limit s b)
    (yield_within limit (s ++ b) c))

-- bytes that add no event yield nothing
pub yield_quiet : {A : Type 0} (limit : Option ℕ) (s b : List ℕ) → added_within limit s b ≡ []
    → yield_within {A = A} limit s b ≡ []
yield_quiet limit s b e =
    yield_is limit s b ∙ ap (values_from limit (mode_from plain (events_within limit s))) e

pub quiet_silent : (A : Type 0) (limit : Option ℕ) (s b : List ℕ) (n : ℕ)
    → IsQuietWithin limit s b n → IsSilentWithin A limit s b n
quiet_silent A limit s b n q =
    λ k some few. let w = q k some few in (yield_quiet limit s (take k b) w.0, w.1)

left_empty : {X : Type 0} (xs ys : List X) → xs ++ ys ≡ [] → xs ≡ []
left_empty [] ys e = refl
left_empty (x ∷ xs) ys e = absurd cc

prefix_empty : {A : Type 0} (limit : Option ℕ) (s b c : List ℕ)
    → yield_within {A = A} limit s (b ++ c) ≡ [] → yield_within {A = A} limit s b ≡ []
prefix_empty limit s b c e =
    left_empty (yield_within limit s b) (yield_within limit (s ++ b) c)
    (sym (yield_append limit s b c) ∙ e)

-- the number of bytes is that of the bytes that were taken, and then n of the rest, which is at
-- least one if there are any
pub least : (n : ℕ) → 0 ≤ n
least n = omega arith

pub none_left : (at len : ℕ) → len ≡ 0 → len - at ≡ 0
none_left at len none = omega arith

pub more_within : (at n rest len : ℕ) → rest ≡ len - at → n ≤ rest → at ≤ len → at + n ≤ len
more_within at n rest len is few within = omega arith

pub some_more : (at n rest len : ℕ) → rest ≡ len - at → (n ≤ rest) × (0 < rest → 0 < n)
    → at + n ≢ len → at + n ≡ 0 → ⊥
some_more at n rest len is (few, some) other none = omega arith

pub fewer_left : (at n rest len : ℕ) → rest ≡ len - at → (n ≤ rest) × (0 < rest → 0 < n)
    → at + n ≢ len → at ≤ len → len - (at + n) < len - at
fewer_left at n rest len is (few, some) other within = omega arith

-- at bytes were taken, and k of the rest are
more_is : (bs : List ℕ) (at k : ℕ)
    → take at bs ++ take k (take (length bs - at) (drop at bs)) ≡ take (at + k) bs
more_is bs at k = ap (λ x. take at bs ++ take k x) (rest_is bs at) ∙ sym (take-add at k bs)

pub fed_more : (s bs : List ℕ) (at k : ℕ)
    → (s ++ take at bs) ++ take k (take (length bs - at) (drop at bs)) ≡ s ++ take (at + k) bs
fed_more s bs at k =
    append_assoc s (take at bs) (take k (take (length bs - at) (drop at bs)))
    ∙ ap (λ x. s ++ x) (more_is bs at k)

pub yield_more : {A : Type 0} (limit : Option ℕ) (s bs : List ℕ) (at k : ℕ)
    → yield_within {A = A} limit s (take (at + k) bs)
    ≡ yield_within limit s (take at bs) ++ yield_within limit (s ++ take at bs)
    (take k (take (length bs - at) (drop at bs)))
yield_more limit s bs at k =
    ap (yield_within limit s) (sym (more_is bs at k))
    ∙ yield_append limit s (take at bs) (take k (take (length bs - at) (drop at bs)))

pub yield_rest : {A : Type 0} (limit : Option ℕ) (s bs : List ℕ) (at k : ℕ)
    → yield_within {A = A} limit s (take at bs) ≡ []
    → yield_within {A = A} limit s (take (at + k) bs)
    ≡ yield_within limit (s ++ take at bs) (take k (take (length bs - at) (drop at bs)))
yield_rest limit s bs at k e =
    yield_more limit s bs at k
    ∙ ap (λ x. x ++ yield_within limit (s ++ take at bs)
    (take k (take (length bs - at) (drop at bs)))) e

into_rest : (P : ℕ → Type 0) (at n k : ℕ) → k < at + n → at < k
    → ((j : ℕ) → 0 < j → j < n → P (at + j)) → P k
into_rest P at n k h l later = let e : at + (k - at) ≡ k =
    omega arith in subst P e (later (k - at) (omega arith) (omega arith))

prefix_by : (P : ℕ → Type 0) (at n k : ℕ) → k < at + n → ((j : ℕ) → j ≤ at → P j)
    → ((j : ℕ) → 0 < j → j < n → P (at + j)) → (at < k) ⊎ (k ≤ at) → P k
prefix_by P at n k h before later (inl l) = into_rest P at n k h l later
prefix_by P at n k h before later (inr l) = before k l

-- a prefix lies in the taken bytes, or reaches into the rest
prefix_cases : (P : ℕ → Type 0) (at n k : ℕ) → k < at + n → ((j : ℕ) → j ≤ at → P j)
    → ((j : ℕ) → 0 < j → j < n → P (at + j)) → P k
prefix_cases P at n k h before later = prefix_by P at n k h before later (cases_lt at k)

prefix_shorter : {A : Type 0} (limit : Option ℕ) (s bs : List ℕ) (at j : ℕ) → j ≤ at
    → yield_within {A = A} limit s (take at bs) ≡ []
    → yield_within {A = A} limit s (take j bs) ≡ []
prefix_shorter limit s bs at j h e =
    prefix_empty limit s (take j bs) (drop j (take at bs))
    (ap (yield_within limit s)
    (ap (λ x. x ++ drop j (take at bs)) (sym (take-take j at bs h))
    ∙ take-append-drop j (take at bs)) ∙ e)

none_within : {A : Type 0} (limit : Option ℕ) (s bs : List ℕ) (at n : ℕ)
    → yield_within {A = A} limit s (take at bs) ≡ []
    → IsSilentWithin A limit (s ++ take at bs) (take (length bs - at) (drop at bs)) n
    → (k : ℕ) → k < at + n → yield_within {A = A} limit s (take k bs) ≡ []
none_within {A = A} limit s bs at n e q k h =
    let P : ℕ → Type 0 = λ j. yield_within {A = A} limit s (take j bs) ≡ [] in
    prefix_cases P at n k h (λ j l. prefix_shorter limit s bs at j l e)
    (λ j l m. yield_rest limit s bs at j e ∙ (q j l m).0)

some_same : {X : Type 0} (x y : X) → Some x ≡ Some y → x ≡ y
some_same x y e = cc

-- the first of a list that has one
first_is : {A : Type 0} (vs : List (Value A)) (v : Value A) → Some v ≡ first vs
    → (others : List (Value A)) × (vs ≡ v ∷ others)
first_is [] v e = absurd cc
first_is (x ∷ vs) v e = (vs, ap (λ y. y ∷ vs) (some_same x v (sym e)))

none_is : {A : Type 0} (vs : List (Value A)) → None ≡ first vs → vs ≡ []
none_is [] e = refl
none_is (x ∷ vs) e = absurd cc

-- n bytes of the rest have the first value
pub finds_first : {A : Type 0} (limit : Option ℕ) (s bs : List ℕ) (at n : ℕ) (v : Value A)
    → at + n ≤ length bs → yield_within {A = A} limit s (take at bs) ≡ []
    → IsSilentWithin A limit (s ++ take at bs) (take (length bs - at) (drop at bs)) n
    → Some v ≡ first
    (yield_within limit (s ++ take at bs) (take n (take (length bs - at) (drop at bs))))
    → IsFirst limit s bs v (at + n)
finds_first limit s bs at n v l e q f = let o =
    first_is (yield_within limit (s ++ take at bs) (take n (take (length bs - at) (drop at bs)))) v
    f in record {
      within = l;
      others = o.0;
      first = yield_rest limit s bs at n e ∙ o.1;
      none_before = none_within limit s bs at n e q;
    }

-- or none
pub finds_none : {A : Type 0} (limit : Option ℕ) (s bs : List ℕ) (at n : ℕ)
    → yield_within {A = A} limit s (take at bs) ≡ []
    → None ≡ first {T = Value A}
    (yield_within limit (s ++ take at bs) (take n (take (length bs - at) (drop at bs))))
    → yield_within {A = A} limit s (take (at + n) bs) ≡ []
finds_none limit s bs at n e f =
    yield_rest limit s bs at n e
    ∙ none_is (yield_within limit (s ++ take at bs) (take n (take (length bs - at) (drop at bs)))) f

-- no stop before the last of n bytes
pub no_stop_within : (A : Type 0) (limit : Option ℕ) (s bs : List ℕ) (at n : ℕ)
    → ((k : ℕ) → k ≤ at → IsStop A limit s (take k bs) → ⊥)
    → IsSilentWithin A limit (s ++ take at bs) (take (length bs - at) (drop at bs)) n
    → (k : ℕ) → k < at + n → IsStop A limit s (take k bs) → ⊥
no_stop_within A limit s bs at n before q k h =
    let P : ℕ → Type 0 = λ j. IsStop A limit s (take j bs) → ⊥ in
    prefix_cases P at n k h before
    (λ j l m stop. (q j l m).1 (subst IsAtGround (sym (fed_more s bs at j)) stop.1))

up_by : (A : Type 0) (limit : Option ℕ) (s bs : List ℕ) (at : ℕ)
    → ((k : ℕ) → k < at → IsStop A limit s (take k bs) → ⊥) → (IsStop A limit s (take at bs) → ⊥)
    → (k : ℕ) → (k ≡ at) ⊎ (k < at)
    → IsStop A limit s (take k bs) → ⊥
up_by A limit s bs at before here k (inl e) = let P : ℕ → Type 0 =
    λ j. IsStop A limit s (take j bs) → ⊥ in subst P (sym e) here
up_by A limit s bs at before here k (inr l) = before k l

pub no_stop_up_to : (A : Type 0) (limit : Option ℕ) (s bs : List ℕ) (at : ℕ)
    → ((k : ℕ) → k < at → IsStop A limit s (take k bs) → ⊥)
    → (IsStop A limit s (take at bs) → ⊥) → (k : ℕ) → k ≤ at
    → IsStop A limit s (take k bs) → ⊥
no_stop_up_to A limit s bs at before here k h =
    up_by A limit s bs at before here k (eq-or-lt_of_le h)

pub rest_length : (xs : List ℕ) (n : ℕ) → length (take (length xs - n) (drop n xs)) ≡ length xs - n
rest_length xs n = ap length (rest_is xs n) ∙ length-drop n xs

pub yield_nil : {A : Type 0} (limit : Option ℕ) (s : List ℕ) → yield_within {A = A} limit s [] ≡ []
yield_nil limit s = append_cancel_left (meaning_within limit s) (yield_within limit s []) []
    (meaning_more limit s [] ∙ ap (meaning_within limit) (append-nil s)
    ∙ sym (append-nil (meaning_within limit s)))

none_in_quiet : {A : Type 0} (limit : Option ℕ) (s bs : List ℕ) (n : ℕ) → IsQuietWithin limit s bs n
    → (k : ℕ) → k < n
    → yield_within {A = A} limit s (take k bs) ≡ []
none_in_quiet limit s bs n q zero h = yield_nil limit s
none_in_quiet limit s bs n q (suc k) h =
    yield_quiet limit s (take (suc k) bs) (q (suc k) (omega arith) h).0

-- n bytes yield one value
pub finds_one : {A : Type 0} (limit : Option ℕ) (s bs : List ℕ) (n : ℕ) (v : Value A)
    → n ≤ length bs → v ∷ [] ≡ yield_within limit s (take n bs)
    → IsQuietWithin limit s bs n → IsFirst limit s bs v n
finds_one limit s bs n v l e q = record {
  within = l;
  others = [];
  first = sym e;
  none_before = none_in_quiet limit s bs n q;
}

-- in ground, so they are a stop
pub stops_one : {A : Type 0} (limit : Option ℕ) (s bs : List ℕ) (n : ℕ) (v : Value A)
    → n ≤ length bs → v ∷ [] ≡ yield_within limit s (take n bs)
    → IsQuietWithin limit s bs n → IsAtGround (s ++ take n bs)
    → IsFirstStop {A = A} limit s bs (yield_within limit s (take n bs)) n
stops_one {A = A} limit s bs n v l e q ground = record {
  within = l;
  values = refl;
  stop = (λ none. (let same = e ∙ none in absurd cc), ground);
  none_before = λ k h stop. stop.0 (none_in_quiet {A = A} limit s bs n q k h);
}

pub yields_by : {A : Type 0} (limit : Option ℕ) (s b : List ℕ) (x : Event)
    → added_within limit s b ≡ x ∷ []
    → yield_within {A = A} limit s b
    ≡ values_from limit (mode_from plain (events_within limit s)) (x ∷ [])
yields_by limit s b x e =
    yield_is limit s b ∙ ap (values_from limit (mode_from plain (events_within limit s))) e

pub char_yields : {A : Type 0} (limit : Option ℕ) (s b : List ℕ) (c : ℕ) (p : Parser A)
    → ParserHasConsumedWithin limit s p → AddsOne limit s b (Print c) p.framer
    → Yields limit s b p (print c ∷ [])
unfolding ParserHasConsumedWithin
char_yields limit s b c p h given = (
  (given.0, hooks_by limit p.unfinished s b (Print c) given.1 refl h.1),
  sym (yields_by limit s b (Print c) given.1),
)

pub control_found : (A : Type 0) (limit : Option ℕ) (s bs : List ℕ) (b : ℕ) (W : Type 0)
    (o : Option ControlCode) → W → added_within limit s bs ≡ Execute b ∷ [] → o ≡ code_of b
    → IfSome o (λ c. W × (control c ∷ [] ≡ yield_within {A = A} limit s bs))
control_found A limit s bs b W None w e is = tt
control_found A limit s bs b W (Some c) w e is =
    (w, sym (yields_by limit s bs (Execute b) e ∙ rw (sym is) refl))

-- the taken bytes and n bytes of the rest, if these are all
pub fed_all : (s bs : List ℕ) (at n : ℕ) → length bs ≤ at + n → s ++ take (at + n) bs ≡ s ++ bs
fed_all s bs at n h = ap (λ x. s ++ x) (take_all (at + n) bs h)

-- no bytes are no stop
pub no_stop_yet : (A : Type 0) (limit : Option ℕ) (s bs : List ℕ) (k : ℕ) → k ≤ 0
    → IsStop A limit s (take k bs) → ⊥
no_stop_yet A limit s bs k h stop =
    let z : k ≡ 0 = omega arith in
    let e : take k bs ≡ [] =
    ap (λ n. take n bs) z in stop.0 (ap (yield_within limit s) e ∙ yield_nil limit s)

pub adds_nothing : {A : Type 0} (limit : Option ℕ) (s : List ℕ) (had : List (Action A))
    → Adds had (yield_within limit s []) had
adds_nothing {A = A} limit s had =
    let P : List (Value A) → Type 0 = λ vs. Adds had vs had in
    subst P (sym (yield_nil limit s)) (adds_none had had refl)

-- the values so far, and those of n bytes of the rest
pub values_more : {A : Type 0} (limit : Option ℕ) (s bs : List ℕ) (at n : ℕ)
    (had mid all : List (Action A)) → Adds had (yield_within limit s (take at bs)) mid
    → Adds mid
    (yield_within limit (s ++ take at bs) (take n (take (length bs - at) (drop at bs)))) all
    → Adds had (yield_within limit s (take (at + n) bs)) all
values_more {A = A} limit s bs at n had mid all one two =
    let P : List (Value A) → Type 0 = λ vs. Adds had vs all in
    subst P (sym (yield_more limit s bs at n)) (adds_more had mid all _ _ one two)

-- memory that the rest may want, the whole may want
right_empty : {X : Type 0} (xs ys : List X) → xs ++ ys ≡ [] → ys ≡ []
right_empty [] ys e = e
right_empty (x ∷ xs) ys e = absurd cc

whole_is : (bs : List ℕ) (at : ℕ) → take at bs ++ take (length bs - at) (drop at bs) ≡ bs
whole_is bs at = ap (λ l. take at bs ++ l) (rest_is bs at) ∙ take-append-drop at bs

pub takes_rest : (s bs : List ℕ) (at : ℕ)
    → MayTake ((s ++ take at bs) ++ take (length bs - at) (drop at bs)) → MayTake (s ++ bs)
takes_rest s bs at =
    subst MayTake (append_assoc s (take at bs) (take (length bs - at) (drop at bs))
    ∙ ap (λ l. s ++ l) (whole_is bs at))

yield_whole : {A : Type 0} (limit : Option ℕ) (s bs : List ℕ) (at : ℕ)
    → yield_within {A = A} limit s bs ≡ yield_within limit s (take at bs)
    ++ yield_within limit (s ++ take at bs) (take (length bs - at) (drop at bs))
yield_whole limit s bs at =
    ap (yield_within limit s) (sym (whole_is bs at))
    ∙ yield_append limit s (take at bs) (take (length bs - at) (drop at bs))

pub wants_rest : (A : Type 0) (limit : Option ℕ) (s bs : List ℕ) (at : ℕ)
    → MayWant A limit (s ++ take at bs) (take (length bs - at) (drop at bs))
    → MayWant A limit s bs
wants_rest A limit s bs at (inl g) = inl (takes_rest s bs at g)
wants_rest A limit s bs at (inr some) = inr (λ none.
    some (right_empty (yield_within limit s (take at bs))
    (yield_within limit (s ++ take at bs) (take (length bs - at) (drop at bs)))
    (sym (yield_whole limit s bs at) ∙ none)))

pub some_of_rest : {A : Type 0} (limit : Option ℕ) (s bs : List ℕ) (at : ℕ)
    (had mid all : List (Action A)) → Adds had (yield_within limit s (take at bs)) mid
    → AddsSome mid
    (yield_within limit (s ++ take at bs) (take (length bs - at) (drop at bs))) all
    → AddsSome had (yield_within limit s bs) all
some_of_rest {A = A} limit s bs at had mid all one two =
    let P : List (Value A) → Type 0 = λ vs. AddsSome had vs all in
    subst P (sym (yield_whole limit s bs at)) (adds_some had mid all _ _ one two)

-- such values are handed out
module _ (A : Type 0)
    (handed : (limit : Option ℕ) (s b : List ℕ)
    → EmittedAreWritable {A = A} (yield_within limit s b)) where
  pub first_handed : (limit : Option ℕ) (s bs : List ℕ) (v : Value A) (n : ℕ)
      → IsFirst limit s bs v n → IsHandedOut v
  first_handed limit s bs v n is = let P : List (Value A) → Type 0 =
      λ vs. EmittedAreWritable vs in (subst P is.first (handed limit s (take n bs))).0

-- a prefix that holds something was taken of something
pub prefix_some : (len at n had have : ℕ) → (0 < len - at → 0 < n) → had < have
    → (len ≡ 0 → at ≡ 0 → have ≡ had) → 0 < at + n
prefix_some zero zero n had have count some none = let e =
    none refl refl in absurd (omega (arith, e, some))
prefix_some (suc len) zero n had have count some none = omega (arith, count (omega arith))
prefix_some len (suc at) n had have count some none = omega arith
