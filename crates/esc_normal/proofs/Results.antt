-- Results, and bytes that were read and written.
use Rattle.std.proofs.Common.{◌≡◌, ◌↔◌, Bool, true, false, IsTrue, ◌≤◌, ◌<◌, ◌+◌, ℕ, List, [], ◌++◌, Option, refl, sym, subst, ap, ◌∙◌, append-nil, append_assoc, arith, length, length-append, take, Ok, Err, IfErr, IsErrOf, OnOk, Result, ◌||◌, is_err}
use Rattle.std.proofs.lemmas.Bool.{true≢false}
use Rattle.std.proofs.KnownBytes.{Appends-nil, Appends-trans, Consumes-trans}
use Rattle.std.specs.Io.KnownBytes.{Appends, Consumes}
use Rattle.esc_normal.specs.Io.{AppendsPrefix}
use Rattle.esc_normal.specs.declared.filter_error.FilterError.{FilterError}
use Rattle.esc_normal.specs.declared.filter_error.FilterError.TheVariants as fault

-- the error of a result
pub err_is : {T E : Type 0} (r : Result T E) (e x : E) → r ≡ Err e → IsErrOf r x → e ≡ x
err_is (Ok t) e x is h = cc
err_is (Err f) e x is h = cc

-- a call that has not failed does not fail with an error that did not come
pub not_failed : {T E : Type 0} (r : Result T E) (e : E) (failed : Bool) → (IsErrOf r e → ⊥)
    → failed ≡ false → (IsErrOf r e ↔ IsTrue failed)
not_failed r e true other h = absurd cc
not_failed r e false other h = (λ k. absurd (other k), λ t. absurd cc)

-- a prefix of a text is one of a text that begins with it
pub prefix_after : (a b c : Option (List ℕ)) (before more whole : List ℕ) → Appends a b before
    → AppendsPrefix b c more → whole ≡ before ++ more
    → AppendsPrefix a c whole
prefix_after a b c before more whole h (p, r, is, w) e = (
  before ++ p,
  r,
  e ∙ ap (λ x. before ++ x) is
      ∙ sym (append_assoc before p r),
  Appends-trans a b c before p h w,
)

-- a prefix of a text is one of a longer text
pub prefix_longer : (a b : Option (List ℕ)) (t u : List ℕ) → (more : List ℕ) × (u ≡ t ++ more)
    → AppendsPrefix a b t → AppendsPrefix a b u
prefix_longer a b t u (more, e) (p, r, is, w) =
    (p, r ++ more, e ∙ ap (λ x. x ++ more) is ∙ append_assoc p r more, w)

-- all of it is one
pub prefix_whole : (a b : Option (List ℕ)) (t : List ℕ) → Appends a b t → AppendsPrefix a b t
prefix_whole a b t h = (t, [], sym (append-nil t), h)

-- and so is nothing
pub prefix_none : (a : Option (List ℕ)) (t : List ℕ) → AppendsPrefix a a t
prefix_none a t = ([], t, refl, Appends-nil a)

-- a read that took nothing
pub read_none : (a b c : Option (List ℕ)) (s : List ℕ) (n : ℕ) (buf : List ℕ) → n ≡ 0
    → Consumes a b s → Consumes b c (take n buf) → Consumes a c s
read_none a b c s n buf e h k = subst (λ x. Consumes a c x) (append-nil s)
    (Consumes-trans a b c s [] h (subst (λ m. Consumes b c (take m buf)) e k))

-- one more chunk was read, and its text written
pub written_more : (a b c : Option (List ℕ)) (before more whole : List ℕ) → Appends a b before
    → Appends b c more → whole ≡ before ++ more → Appends a c whole
written_more a b c before more whole h k e = subst (λ x. Appends a c x) (sym e)
    (Appends-trans a b c before more h k)

-- a read that took a byte at least
pub one_more : (n k : ℕ) (s buf : List ℕ) → n ≤ length s → 0 < k → k ≡ length (take k buf)
    → n + 1 ≤ length (s ++ take k buf)
one_more n k s buf h some is = omega (arith, length-append s (take k buf))

-- no bytes are few enough
pub none_within : (n : ℕ) → length {A = ℕ} [] ≤ n
none_within n = omega arith

-- a true statement is true on Ok
pub ok_any : {T E X : Type 0} (r : Result T E) → X → OnOk r X
ok_any (Ok t) x = x
ok_any (Err e) x = tt

-- a call that fails exactly with an error has not failed if the error did not come
pub unfailed : {T E : Type 0} (t : T) (e : E) (failed : Bool)
    → (IsErrOf (Ok t) e ↔ IsTrue failed) → failed ≡ false
unfailed t e true h = let k = h.1 refl in absurd cc
unfailed t e false h = refl

-- whether a result is this fault
abbrev pub is_fault : {T : Type 0} → FilterError → Result T FilterError → Bool
is_fault fault.Read (Err fault.Read) = true
is_fault fault.Write (Err fault.Write) = true
is_fault fault.Memory (Err fault.Memory) = true
is_fault fault.Endless (Err fault.Endless) = true
is_fault e r = false

is_itself : (T : Type 0) (e : FilterError) → is_fault {T = T} e (Err e) ≡ true
is_itself T fault.Read = refl
is_itself T fault.Write = refl
is_itself T fault.Memory = refl
is_itself T fault.Endless = refl

-- a result that is not a fault
pub other : {T : Type 0} (r : Result T FilterError) (e : FilterError) → IsErrOf r e
    → is_fault e r ≡ false → ⊥
other {T} r e h not = true≢false (sym (ap (is_fault e) h ∙ is_itself T e) ∙ not)

-- nor is one whose error is another fault
pub no_other : {T : Type 0} (r : Result T FilterError) (e f : FilterError) → IfErr r (λ x. x ≡ f)
    → IsErrOf r e → is_fault {T = T} e (Err f) ≡ false → ⊥
no_other (Ok t) e f is h not = absurd cc
no_other {T} (Err x) e f is h not =
    other (Err x) e h (ap (λ y. is_fault {T = T} e (Err y)) is ∙ not)

-- if it had not failed, it has not after a call that did not
pub stays_sound : {T E : Type 0} (r : Result T E) (t : T) (old new : Bool) → new ≡ old || is_err r
    → r ≡ Ok t → old ≡ false → new ≡ false
stays_sound r t false new e is h = e ∙ ap is_err is
stays_sound r t true new e is h = absurd (true≢false h)

-- if a failed call returned its error, it has failed
pub now_failed : {T E : Type 0} (r : Result T E) (f : E) (old new : Bool) → new ≡ old || is_err r
    → r ≡ Err f → IsTrue new
now_failed r f false new e is = e ∙ ap is_err is
now_failed r f true new e is = e
