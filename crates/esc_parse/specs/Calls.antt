-- The promises of a parser's calls, in the words that their clauses share.
use Rattle.std.specs.Prelude.{ℕ, ◌≡◌, ◌<◌, ◌≤◌, ◌+◌, ◌⊎◌, List, [], ◌++◌, length, map, take, Option, Result, Err, IfErr, IfNone, IfOk, IfSome, OnOk}
use Rattle.std.specs.Fn.{Called, Mut, always_mut}
use Rattle.std.specs.List.{FoldsTo}
use Rattle.esc_frame.specs.Events.{Awaits}
use Rattle.esc_frame.specs.Memory.{MayTake}
use Rattle.esc_frame.specs.declared.error.ParseError.{ParseError}
use Rattle.esc_frame.specs.declared.error.ParseError.TheVariants.{Failed, Memory}
use Rattle.esc_actions.specs.Meaning.{MayWant, yield_within}
use Rattle.esc_actions.specs.Values.{Value, value_of}
use Rattle.esc_actions.specs.Writable.{EmittedAreWritable, IsHandedOut}
use Rattle.esc_actions.specs.declared.action.Action.{Action}
use Rattle.esc_parse.specs.Collected.{Adds, AddsSome}
use Rattle.esc_parse.specs.Fed.{IsBroken, ParserHasConsumedWithin}
use Rattle.esc_parse.specs.Firsts.{IsFirst, IsFirstStop, IsSilentWithin, IsStop}
use Rattle.esc_parse.specs.Given.{AnyAt, At, GetsAll, GetsPrefix, StopsAt}
use Rattle.esc_parse.specs.declared.parser.Parser.{Parser}
use Rattle.esc_parse.specs.declared.sink.Sink.{Ghosts as Sinks}
use Rattle.fallible_alloc.specs.Refusals.{Refused}

-- this holds for each stream that the parser may have been fed, under its limit
abbrev pub After : {A : Type 0} → Parser A → (Option ℕ → List ℕ → Type 0) → Type 0
After p P = (limit : Option ℕ) (s : List ℕ) → ParserHasConsumedWithin limit s p → P limit s

-- A receiver need not be ready for every action: either the parser has failed, and gives none; or
-- the receiver awaits the values that b adds to a stream that the parser may have been fed.
abbrev pub MayParse : {A P : Type 0} → (P → Action A → Type 0) → (P → Action A → P → Type 0)
    → Parser A → P → List ℕ
    → Type 0
MayParse may takes p old b =
    IsBroken p ⊎ ((limit : Option ℕ) × (s : List ℕ) × ParserHasConsumedWithin limit s p
    × Awaits (AnyAt value_of may) (At value_of takes) old (yield_within limit s b))

-- the sink is ready for any action, or for these
abbrev pub MayFeed : {A S : Type 0} → Sinks S (Action A) → Parser A → S → List ℕ → Type 0
MayFeed T old sink b = T.is_ready sink ⊎ MayParse T.may T.takes old sink b

-- One of two holds. It begins with an arrow, since a caller's proof that a closure can be called
-- always is found there, and not on a side of a sum.
abbrev pub OneOf : Type 0 → Type 0 → Type 0
OneOf P Q = (P → P ⊎ Q) → (Q → P ⊎ Q) → P ⊎ Q

-- the calls of a closure that takes an action and returns nothing
abbrev pub Callback : Type 0 → Type 0 → Type 1
Callback A F = Mut F (Action A × Unit {0}) (Unit {0})

-- the closure may be called on this action
abbrev pub MayCallOn : {A F : Type 0} → Callback A F → F → Action A → Type 0
MayCallOn calls f a = calls.pre f (a, tt)

-- it was called on this action, and became g
abbrev pub CallsOn : {A F : Type 0} → Callback A F → F → Action A → F → Type 0
CallsOn calls f a g = Called calls f (a, tt) tt g

-- The closure may be called: always; or, if the parser was fed a stream, on the actions that b
-- adds, in this order, and on no others; or, if the parser has failed, never.
abbrev pub MayCall : {A F : Type 0} → Callback A F → Parser A → F → List ℕ → Type 0
MayCall calls p f b =
    OneOf (always_mut calls f) (MayParse (MayCallOn calls) (CallsOn calls) p f b)

-- it was called on actions of these values, one after another
abbrev pub CallsOnAll : {A F : Type 0} → Callback A F → F → List (Value A) → Type 0
CallsOnAll calls f vs = GetsAll (At value_of (CallsOn calls)) f vs

-- or on those of a prefix of them
abbrev pub CallsOnPrefix : {A F : Type 0} → Callback A F → F → List (Value A) → Type 0
CallsOnPrefix calls f vs = GetsPrefix (At value_of (CallsOn calls)) f vs

-- P holds for each limit, stream s and bytes b that the parser may have been fed, if b yields as
-- many values as there are more now than before
abbrev pub AfterMore : {A : Type 0} → Parser A → ℕ → ℕ → (Option ℕ → List ℕ → List ℕ → Type 0)
    → Type 0
AfterMore {A} p had have P =
    (limit : Option ℕ) (s b : List ℕ) → ParserHasConsumedWithin limit (s ++ b) p
    → have ≡ had + length (yield_within {A = A} limit s b) → P limit s b

-- an error is `Memory`, the parser has failed then, and the call stopped so
abbrev pub IsStopped : {A T : Type 0} → Result T ParseError → Parser A → Type 0 → Type 0
IsStopped result p stopped = IfErr result (λ e. (e ≡ Memory) × IsBroken p × stopped)

-- an error is `Memory`: the parser has failed then, and a request for memory was refused, which the
-- call made only if `wants` holds
abbrev pub IsRefused : {A T : Type 0} → Result T ParseError → Parser A → Type 0 → Type 0
IsRefused {A} result p wants =
    IfErr result (λ e. (e ≡ Memory) × IsBroken p × wants × Refused A)

-- a parser that had failed before the call says so, and stays so
abbrev pub StaysBroken : {A T : Type 0} → Parser A → Result T ParseError → Parser A → Type 0
StaysBroken old result new = IsBroken old → (result ≡ Err Failed) × IsBroken new

-- The sink `old` was given a prefix of the values that b adds to s; then it refused the next
-- action, or the parser was refused memory. The parser stops by itself only if the cut of s and b
-- holds a string or a control sequence, whole or cut short.
abbrev pub StopsIn : {A P : Type 0} → (P → Action A → P → Type 0) → (P → Action A → P → Type 0)
    → Option ℕ → List ℕ → List ℕ → P → P → Type 0
StopsIn {A} takes refuses limit s b old new =
    StopsAt (MayTake (s ++ b) × Refused A) (At value_of takes) (At value_of refuses) old
    (yield_within limit s b) new

-- after s, the parser was fed b too, which yields these values
abbrev pub Yields : {A : Type 0} → Option ℕ → List ℕ → List ℕ → Parser A → List (Value A) → Type 0
Yields limit s b p vs = ParserHasConsumedWithin limit (s ++ b) p × (vs ≡ yield_within limit s b)

-- after s, the parser was fed b too, which yields nothing
abbrev pub YieldsNone : {A : Type 0} → Option ℕ → List ℕ → List ℕ → Parser A → Type 0
YieldsNone {A} limit s b p =
    ParserHasConsumedWithin limit (s ++ b) p × (yield_within {A = A} limit s b ≡ [])

-- after s, the parser was fed the shortest prefix of b that yields a value, and this is the first
abbrev pub YieldsFirst : {A : Type 0} → Option ℕ → List ℕ → List ℕ → Parser A → Value A → ℕ
    → Type 0
YieldsFirst limit s b p v n = ParserHasConsumedWithin limit (s ++ take n b) p
    × IsFirst limit s b v n

-- this holds for the thing found, if there is one
abbrev pub IfFound : {T E : Type 0} → Result (Option T) E → (T → Type 0) → Type 0
IfFound result P = IfOk result (λ r. IfSome r P)

-- this holds if nothing was found
abbrev pub IfNoneFound : {T E : Type 0} → Result (Option T) E → Type 0 → Type 0
IfNoneFound result P = IfOk result (λ r. IfNone r P)

-- the length of a prefix of the bytes, which is not empty
abbrev pub IsSomeOf : ℕ → List ℕ → Type 0
IsSomeOf n b = (0 < n) × (n ≤ length b)

-- the length of a prefix of the bytes, which is empty only if there are none
abbrev pub IsTaken : ℕ → List ℕ → Type 0
IsTaken n b = (n ≤ length b) × (0 < length b → 0 < n)

-- The promises of a call that gives a sink the values that the bytes b add, and hands the sink
-- back.
pub record GivesAll {A S : Type 0} (T : Sinks S (Action A)) (old : Parser A) (b : List ℕ)
    (sink : S) (result : Result (Unit {0}) ParseError) (new : Parser A) (back : S) : Type 0 where
  -- they were fed, and the sink was given the actions that they add, in order
  pub given : After old (λ limit s. OnOk result (ParserHasConsumedWithin limit (s ++ b) new
      × FoldsTo (At value_of T.takes) sink (yield_within limit s b) back))
  -- an error says that memory was refused, and the sink was given a prefix of these actions
  pub refused : After old (λ limit s. IsStopped result new
      (StopsIn T.takes T.refuses limit s b sink back))
  -- a parser that has failed says so, and the sink is as it was
  pub failed : IsBroken old → (result ≡ Err Failed) × IsBroken new × (back ≡ sink)
  -- after any other call the sink is ready for any action, if it was before
  pub ready : T.is_ready sink → OnOk result (T.is_ready back)

-- The promises of a call that calls a closure on the values that the bytes b add.
pub record CallsBack {A F : Type 0} (calls : Callback A F) (old : Parser A) (b : List ℕ) (f : F)
    (result : Result (Unit {0}) ParseError) (new : Parser A) : Type 0 where
  -- they were fed, and the closure was called on the actions that they add, in order
  pub given : After old (λ limit s. OnOk result
      (ParserHasConsumedWithin limit (s ++ b) new × CallsOnAll calls f (yield_within limit s b)))
  -- these can be written, but for the exceptions
  pub handed_out : After old (λ limit s. EmittedAreWritable {A = A} (yield_within limit s b))
  -- an error says that memory was refused, and the closure was called on a prefix of these actions
  pub refused : After old (λ limit s. IsRefused result new
      (MayTake (s ++ b) × CallsOnPrefix calls f (yield_within limit s b)))
  -- a parser that has failed says so
  pub failed : StaysBroken old result new

-- The promises of a call that takes a prefix of the bytes b: `got` holds for the values that it
-- yields, `nothing` if no byte was taken, and `stopped` if memory was refused.
pub record TakesPrefix {A : Type 0} (old : Parser A) (b : List ℕ) (result : Result ℕ ParseError)
    (new : Parser A) (nothing : Type 0) (got : List (Value A) → Type 0)
    (stopped : Option ℕ → List ℕ → Type 0) : Type 0 where
  -- the length of the prefix
  pub count : IfOk result (λ n. IsTaken n b)
  -- if there are no bytes, `nothing` holds, also after an error
  pub empty : length b ≡ 0 → nothing
  -- it was fed, and the values that it yields were got
  pub given : After old (λ limit s. IfOk result
      (λ n. ParserHasConsumedWithin limit (s ++ take n b) new
      × got (yield_within limit s (take n b))))
  -- all but its last byte yield nothing, and leave a segment unfinished
  pub quiet : After old (λ limit s. IfOk result (λ n. IsSilentWithin A limit s b n))
  -- an error says that memory was refused
  pub refused : After old (λ limit s. IsStopped result new (stopped limit s))
  -- a parser that has failed says so
  pub failed : IsBroken old → (result ≡ Err Failed) × IsBroken new × nothing

-- the same for a sink that gets the values of the prefix, and is handed back
abbrev pub GivesPrefix : {A S : Type 0} → Sinks S (Action A) → Parser A → List ℕ → S
    → Result ℕ ParseError → Parser A → S → Type 0
GivesPrefix T old b sink result new back =
    TakesPrefix old b result new (back ≡ sink) (λ vs. FoldsTo (At value_of T.takes) sink vs back)
    (λ limit s. StopsIn T.takes T.refuses limit s b sink back)

-- The promises of a call for the first action, given the bytes b.
pub record FindsFirst {A : Type 0} (old : Parser A) (b : List ℕ)
    (result : Result (Option (Action A × ℕ)) ParseError) (new : Parser A) : Type 0 where
  -- it was found in a prefix of them, of this length
  pub count : IfFound result (λ x. IsSomeOf x.1 b)
  -- it is the first that they add, and this prefix, which was fed, is the shortest that adds one
  pub some : After old (λ limit s. IfFound result
      (λ x. YieldsFirst limit s b new (value_of x.0) x.1))
  -- it can be written, but for the exceptions
  pub handed_out : After old (λ limit s. IfFound result (λ x. IsHandedOut (value_of x.0)))
  -- if none was found all were fed, and they add none
  pub none : After old (λ limit s. IfNoneFound result (YieldsNone limit s b new))
  -- an error says that memory was refused
  pub refused : After old (λ limit s. IsRefused result new (MayTake (s ++ b)))
  -- a parser that has failed says so
  pub failed : StaysBroken old result new

-- The promises of a call that makes a list of the first actions, given the bytes b.
pub record FindsFirstList {A L : Type 0} (items : L → List (Action A)) (old : Parser A) (b : List ℕ)
    (result : Result (Option (L × ℕ)) ParseError) (new : Parser A) : Type 0 where
  -- they were found in a prefix of the bytes, of this length
  pub count : IfFound result (λ x. IsSomeOf x.1 b)
  -- this prefix, which was fed, is the shortest that adds an action and leaves no segment
  -- unfinished, and they are the actions that it adds
  pub some : After old (λ limit s. IfFound result
      (λ x. ParserHasConsumedWithin limit (s ++ take x.1 b) new
      × IsFirstStop limit s b (map value_of (items x.0)) x.1))
  -- they can be written, but for the exceptions
  pub handed_out : After old
      (λ limit s. IfFound result (λ x. EmittedAreWritable (map value_of (items x.0))))
  -- if none were found all bytes were fed, and no prefix is such
  pub none : After old (λ limit s. IfNoneFound result (ParserHasConsumedWithin limit (s ++ b) new
      × ((k : ℕ) → k ≤ length b → IsStop A limit s (take k b) → ⊥)))
  -- an error says that memory was refused
  pub refused : After old (λ limit s. IsRefused result new (MayWant A limit s b))
  -- a parser that has failed says so
  pub failed : StaysBroken old result new

-- The promises of a call that appends the first actions, given the bytes b and a list of the
-- actions `had`; it leaves the list `all`.
pub record FindsFirsts {A : Type 0} (old : Parser A) (b : List ℕ) (had : List (Action A))
    (result : Result (Option ℕ) ParseError) (new : Parser A) (all : List (Action A)) : Type 0 where
  -- they were found in a prefix of the bytes, of this length
  pub count : IfFound result (λ n. IsSomeOf n b)
  -- this prefix, which was fed, is the shortest that adds an action and leaves no segment
  -- unfinished, and the actions that it adds, no others, were appended
  pub some : After old (λ limit s. IfFound result
      (λ n. ParserHasConsumedWithin limit (s ++ take n b) new
      × IsFirstStop limit s b (yield_within {A = A} limit s (take n b)) n
      × Adds had (yield_within limit s (take n b)) all))
  -- the actions that any prefix adds, and so those that were appended, can be written, but for the
  -- exceptions
  pub handed_out : After old
      (λ limit s. (n : ℕ) → EmittedAreWritable {A = A} (yield_within limit s (take n b)))
  -- if none were found all bytes were fed, no prefix is such, and the actions that they add were
  -- appended
  pub none : After old (λ limit s. IfNoneFound result (ParserHasConsumedWithin limit (s ++ b) new
      × Adds had (yield_within limit s b) all
      × ((k : ℕ) → k ≤ length b → IsStop A limit s (take k b) → ⊥)))
  -- an error says that memory was refused, and a prefix of the actions that the bytes add was
  -- appended
  pub refused : After old (λ limit s. IsRefused result new
      (MayWant A limit s b × AddsSome had (yield_within limit s b) all))
  -- a parser that has failed says so, and the list is as it was
  pub failed : IsBroken old → (result ≡ Err Failed) × IsBroken new × (all ≡ had)
