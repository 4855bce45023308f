-- The promises of calls that read a stream as borrowed actions.
use Rattle.std.specs.Prelude.{ℕ, ◌≡◌, ◌⊎◌, List, ◌++◌, Option, Result, Err, OnOk}
use Rattle.std.specs.Fn.{Called, Mut, always_mut}
use Rattle.esc_frame.specs.Memory.{MayTake}
use Rattle.esc_frame.specs.declared.error.ParseError.{ParseError}
use Rattle.esc_frame.specs.declared.error.ParseError.TheVariants.{Failed}
use Rattle.esc_actions.specs.Meaning.{yield_within}
use Rattle.esc_actions.specs.Values.{Value}
use Rattle.esc_actions.specs.Writable.{EmittedAreWritable}
use Rattle.esc_actions.specs.declared.action.Action.{Action}
use Rattle.esc_parse.specs.Calls.{After, IsRefused, IsStopped, OneOf, StaysBroken}
use Rattle.esc_parse.specs.Fed.{IsBroken, ParserHasConsumedWithin}
use Rattle.esc_parse.specs.declared.parser.Parser.{Parser}
use Rattle.escape_stream.specs.Borrowed.{Awaits, Gets, GetsSome, Stops}
use Rattle.escape_stream.specs.declared.borrowed.ActionRef.{ActionRef}
use Rattle.escape_stream.specs.declared.borrowing.BorrowingSink.{Ghosts as Sinks}
use Rattle.fallible_alloc.specs.Refusals.{Refused}

-- A receiver need not be ready for every borrowed action: either the parser has failed, and gives
-- none; or the receiver awaits the values that b adds to a stream that the parser may have been
-- fed.
abbrev pub MayParse : {A S : Type 0} → (S → ActionRef (Action A) → Type 0)
    → (S → ActionRef (Action A) → S → Type 0) → Parser A → S → List ℕ
    → Type 0
MayParse may takes p old b =
    IsBroken p ⊎ ((limit : Option ℕ) × (s : List ℕ) × ParserHasConsumedWithin limit s p
    × Awaits may takes old (yield_within limit s b))

-- the sink is ready for any borrowed action, or for these
abbrev pub MayFeed : {A S : Type 0} → Sinks S (Action A) → Parser A → S → List ℕ → Type 0
MayFeed T old sink b = T.is_ready sink ⊎ MayParse T.may T.takes old sink b

-- the calls of a closure that takes a borrowed action and returns nothing
abbrev pub Callback : Type 0 → Type 0 → Type 1
Callback A F = Mut F (ActionRef (Action A) × Unit {0}) (Unit {0})

-- the closure may be called on this borrowed action
abbrev pub MayCallOn : {A F : Type 0} → Callback A F → F → ActionRef (Action A) → Type 0
MayCallOn calls f a = calls.pre f (a, tt)

-- it was called on this borrowed action, and became g
abbrev pub CallsOn : {A F : Type 0} → Callback A F → F → ActionRef (Action A) → F → Type 0
CallsOn calls f a g = Called calls f (a, tt) tt g

-- The closure may be called: always; or, if the parser was fed a stream, on borrowed actions that
-- together are the actions that b adds, in order, and on no others; or, if the parser has failed,
-- never.
abbrev pub MayCall : {A F : Type 0} → Callback A F → Parser A → F → List ℕ → Type 0
MayCall calls p f b =
    OneOf (always_mut calls f) (MayParse (MayCallOn calls) (CallsOn calls) p f b)

-- it was called on borrowed actions that together mean these values, in order
abbrev pub CallsOnAll : {A F : Type 0} → Callback A F → F → List (Value A) → Type 0
CallsOnAll {F = F} calls f vs = (last : F) × Gets (CallsOn calls) f vs last

-- or a prefix of them
abbrev pub CallsOnPrefix : {A F : Type 0} → Callback A F → F → List (Value A) → Type 0
CallsOnPrefix {F = F} calls f vs = (last : F) × GetsSome (CallsOn calls) f vs last

-- The promises of a call that gives a sink borrowed actions, which together are the actions that
-- the bytes b add, and hands the sink back.
pub record GivesBorrowed {A S : Type 0} (T : Sinks S (Action A)) (old : Parser A) (b : List ℕ)
    (sink : S) (result : Result (Unit {0}) ParseError) (new : Parser A) (back : S) : Type 0 where
  -- they were fed, and the sink was given these, in order
  pub given : After old (λ limit s. OnOk result (ParserHasConsumedWithin limit (s ++ b) new
      × Gets T.takes sink (yield_within limit s b) back))
  -- an error says that memory was refused, and the sink was given a prefix of them
  pub refused : After old (λ limit s. IsStopped result new
      (Stops (MayTake (s ++ b) × Refused A) T.takes T.refuses sink (yield_within limit s b) back))
  -- a parser that has failed says so, and the sink is as it was
  pub failed : IsBroken old → (result ≡ Err Failed) × IsBroken new × (back ≡ sink)
  -- after any other call the sink is ready for any borrowed action, if it was before
  pub ready : T.is_ready sink → OnOk result (T.is_ready back)

-- The promises of a call that calls a closure on borrowed actions, which together are the actions
-- that the bytes b add.
pub record CallsBorrowed {A F : Type 0} (calls : Callback A F) (old : Parser A) (b : List ℕ) (f : F)
    (result : Result (Unit {0}) ParseError) (new : Parser A) : Type 0 where
  -- they were fed, and the closure was called on these, in order
  pub given : After old (λ limit s. OnOk result
      (ParserHasConsumedWithin limit (s ++ b) new × CallsOnAll calls f (yield_within limit s b)))
  -- the actions that they add can be written, but for the exceptions
  pub handed_out : After old (λ limit s. EmittedAreWritable {A = A} (yield_within limit s b))
  -- an error says that memory was refused, and the closure was called on a prefix of these
  pub refused : After old (λ limit s. IsRefused result new
      (MayTake (s ++ b) × CallsOnPrefix calls f (yield_within limit s b)))
  -- a parser that has failed says so
  pub failed : StaysBroken old result new
