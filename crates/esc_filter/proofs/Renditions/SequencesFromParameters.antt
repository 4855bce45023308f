-- Control sequences that are taken from their parameters.
use Rattle.std.proofs.Common.{◌≡◌, ℕ, Bool, true, false, not, ◌&&◌, ◌==◌, if◌then◌else◌, List, [], ◌∷◌, Option, Some, None, refl, sym, subst, ap, ◌∙◌, inl, inr}
use Rattle.std.proofs.Common.{IfOk, OnErr, Result, ◌||◌}
use Rattle.std.specs.Prelude.{IsTrue, unwrap_or}
use Rattle.std.specs.List.{FoldsTo, list_all, list_any, slice_split}
use Rattle.std.proofs.lemmas.Bool.{and_parts}
use Rattle.esc_sequences.specs.Csis.{CsiValue, csi_of, is_separator, put_first, rendition, renditions, sgr, unspecified}
use Rattle.esc_sequences.specs.declared.csi.CSI.TheVariants as csi_variant
use Rattle.esc_values.specs.declared.csi_param.CsiParam.{CsiParam}
use Rattle.esc_sequences.specs.declared.sgr.Sgr.{Sgr}
use Rattle.esc_actions.specs.Texts.{has_text}
use Rattle.esc_actions.specs.Values.{Value, csi, osc, value_of}
use Rattle.esc_actions.specs.Writable.{is_truncated}
use Rattle.esc_actions.specs.declared.action.Action.{Action}
use Rattle.esc_actions.specs.declared.action.Action.TheVariants as action
use Rattle.esc_parse.specs.Given.{By, StopsAt}
use Rattle.esc_filter.specs.Noted.{Notes, WriteDenies, Writes, WritesLink, WritesRendition, written_of}
use Rattle.esc_filter.specs.declared.written.Written.{Written}
use Rattle.esc_osc.specs.Reading.{meaning as command_meant}
use Rattle.esc_parse.proofs.Lists.StepsOverLists.{if_ok_more}
use Rattle.esc_normal.proofs.Spelling.{IsCommand, IsSequence}
use Rattle.esc_filter.proofs.Results.{stops_for}
use Rattle.std.proofs.lemmas.Result.{on_err_weaker}
use Rattle.esc_filter.specs.Rules.{admits, is_plain_param, is_rendition, is_screen_body, is_screen_sequence}
use Rattle.esc_filter.specs.declared.policy.Policy.{Policy}
use Rattle.esc_filter.specs.declared.policy.Policy.TheVariants as policy
use Rattle.esc_filter.specs.Passing.{passes}
use Rattle.esc_filter.specs.declared.passing.Passing.{Passing}
use Rattle.esc_filter.specs.Fed.{Refuses, TakesBy}
use Rattle.fallible_alloc.specs.Refusals.{Refused}

-- if a test passes renditions and a sequence of no name, it passes the values of any parameters
module _ (t : CsiValue → Bool) (named : (s : Sgr) → t (sgr s) ≡ true) where
  each_put : (o : Option Sgr) (more : Option (List CsiValue)) (vs : List CsiValue)
      → ((ws : List CsiValue) → more ≡ Some ws → list_all t ws ≡ true)
      → put_first o more ≡ Some vs → list_all t vs ≡ true
  each_put None more vs f h = absurd cc
  each_put (Some s) None vs f h = absurd cc
  each_put (Some s) (Some ws) vs f h = let e : sgr s ∷ ws ≡ vs = cc in
      subst (λ l. list_all t l ≡ true) e (rw (named s, f ws refl) refl)

  each_rendition : (is : List (List CsiParam)) (vs : List CsiValue) → renditions is ≡ Some vs
      → list_all t vs ≡ true
  each_rendition [] vs h = let e : [] ≡ vs = cc in subst (λ l. list_all t l ≡ true) e refl
  each_rendition (i ∷ is) vs h = each_put (rendition i) (renditions is) vs (each_rendition is) h

  each_unwrapped : (o : Option (List CsiValue)) (u : CsiValue)
      → ((vs : List CsiValue) → o ≡ Some vs → list_all t vs ≡ true) → t u ≡ true
      → list_all t (unwrap_or o (u ∷ [])) ≡ true
  each_unwrapped None u f h = rw h refl
  each_unwrapped (Some vs) u f h = f vs refl

  each_by : (b : Bool) (o : Option (List CsiValue)) (u : CsiValue)
      → ((vs : List CsiValue) → o ≡ Some vs → list_all t vs ≡ true) → t u ≡ true
      → list_all t (if b && not false then unwrap_or o (u ∷ []) else u ∷ []) ≡ true
  each_by true o u f h = each_unwrapped o u f h
  each_by false o u f h = rw h refl

  pub each_of : (es : List CsiParam) (f : ℕ) → t (unspecified es false f) ≡ true
      → list_all t (csi_of es false f) ≡ true
  each_of es f h = each_by (f == 0x6d) (renditions (slice_split is_separator es))
      (unspecified es false f) (each_rendition (slice_split is_separator es)) h

-- with another final byte than `m` it is one sequence of no name
pub nameless : (es : List CsiParam) (f : ℕ) → (f == 0x6d) ≡ false
    → csi_of es false f ≡ unspecified es false f ∷ []
nameless es f h = rw h refl

pub none_of : (t : CsiValue → Bool) → ((c : CsiValue) → t c ≡ false) → (vs : List CsiValue)
    → list_any t vs ≡ false
none_of t f [] = refl
none_of t f (v ∷ vs) = rw (f v, none_of t f vs) refl

-- none of them is truncated
pub each_whole : (es : List CsiParam) (f : ℕ)
    → list_all (λ c. not (is_truncated c)) (csi_of es false f) ≡ true
each_whole es f = each_of (λ c. not (is_truncated c)) (λ s. refl) es f refl

-- an action that is this sequence
sequence_action : {A : Type 0} (c : CsiValue) → (a : Action A) × IsSequence a c
sequence_action (sgr s) = (action.CSI (csi_variant.Sgr s), refl)
sequence_action (unspecified es more f) = (
  action.CSI
      (csi_variant.Unspecified (record { params = es; parameters_truncated = more; control = f })),
  refl,
)

module _ {A : Type 0} where
  -- a rendition that was written
  pub one_taken : (p q : Written A) (es : List CsiParam) → WritesRendition p es q
      → FoldsTo (By IsSequence Notes) p (csi_of es false 0x6d) q
  one_taken p q es (plain, (v, one, w)) =
      let a = sequence_action v in
      subst (λ vs. FoldsTo (By IsSequence Notes) p vs q) (sym one) (
        q,
        (
          a.0,
          a.1,
          subst (λ x. Writes p (written_of p.by_lines p.guard p.before x) q) (sym a.1)
              w,
        ),
        refl,
      )

  -- a link that was
  pub link_taken : (p q : Written A) (ps : List (List ℕ)) → WritesLink p ps q
      → FoldsTo (By IsCommand Notes) p (ps ∷ []) q
  link_taken p q ps (is, w) = (q, (action.OperatingSystemCommand (command_meant ps), refl, w), refl)

  pub link_denied : (p q : Written A) (ps : List (List ℕ)) → Refused A
      → StopsAt ⊥ (By IsCommand Notes) (By IsCommand WriteDenies) p (ps ∷ []) q
  link_denied p q ps r =
      inr (inl (action.OperatingSystemCommand (command_meant ps), refl, λ _. r))

module _ {P A : Type 0} (allows : P → Value A → Bool) where
  abbrev with_written : Passing P A → Written A → Passing P A
  with_written p s = record p { written = s }

  passed_one : (v w : Value A) (k : P) (p q : Written A) (a : Action A) → w ≡ v
      → passes (allows k) v ≡ true → Notes p a q
      → (passes (allows k) w ≡ true → Notes p a q) × (passes (allows k) w ≡ false → q ≡ p)
  passed_one v w k p q a is h t = (
    λ _. t,
    λ e. let no : passes (allows k) w ≡ true =
        ap (passes (allows k)) is ∙ h in absurd cc,
  )

  stayed_one : (v w : Value A) (k : P) (p : Written A) (a : Action A) → w ≡ v
      → passes (allows k) v ≡ false
      → (passes (allows k) w ≡ true → Notes p a p) × (passes (allows k) w ≡ false → p ≡ p)
  stayed_one v w k p a is h = (
    λ e. let no : passes (allows k) w ≡ false = ap (passes (allows k)) is
        ∙ h in absurd cc,
    λ _. refl,
  )

  whole_passes : (c : CsiValue) (k : P) → not (is_truncated c) ≡ true → allows k (csi c) ≡ true
      → passes (allows k) (csi c) ≡ true
  whole_passes c k e h = rw (e, h) refl

  unadmitted : (c : CsiValue) (k : P) → allows k (csi c) ≡ false → passes (allows k) (csi c) ≡ false
  unadmitted (sgr s) k h = h
  unadmitted (unspecified es true f) k h = refl
  unadmitted (unspecified es false f) k h = h

  -- each is admitted, and was added
  pub all_pass : (vs : List CsiValue) (p : Passing P A) (s : Written A)
      → list_all (λ c. not (is_truncated c)) vs ≡ true
      → list_all (λ c. allows p.policy.now (csi c)) vs ≡ true
      → FoldsTo (By IsSequence Notes) p.written vs s
      → FoldsTo (By IsSequence (TakesBy allows)) p vs (record p { written = s })
  all_pass [] p s w h e = ap (with_written p) e
  all_pass (v ∷ vs) p s w h (j, (a, is, t), rest) =
      let l = and_parts (not (is_truncated v)) (list_all (λ c. not (is_truncated c)) vs) w in
      let k = and_parts (allows p.policy.now (csi v))
      (list_all (λ c. allows p.policy.now (csi c)) vs) h in (
        record p { written = j },
        (
          a,
          is,
          (
            passed_one (csi v) (value_of a) p.policy.now p.written j a is
                (whole_passes v p.policy.now l.0 k.0) t,
            refl,
          ),
        ),
        all_pass vs (record p { written = j }) s l.1 k.1 rest,
      )

  any_parts : (a b : Bool) → (a || b) ≡ false → (a ≡ false) × (b ≡ false)
  any_parts true b h = absurd cc
  any_parts false b h = (refl, h)

  -- none is admitted
  pub none_pass : (vs : List CsiValue) (p : Passing P A)
      → list_any (λ c. allows p.policy.now (csi c)) vs ≡ false
      → FoldsTo (By IsSequence (TakesBy allows)) p vs p
  none_pass [] p h = refl
  none_pass (v ∷ vs) p h =
      let k = any_parts (allows p.policy.now (csi v))
      (list_any (λ c. allows p.policy.now (csi c)) vs) h in
      let a = sequence_action v in (
        p,
        (
          a.0,
          a.1,
          (
            stayed_one (csi v) (value_of a.0) p.policy.now p.written a.0 a.1
                (unadmitted v p.policy.now k.0),
            refl,
          ),
        ),
        none_pass vs p k.1,
      )

  -- a value is refused for want of memory, as each has a text
  sequence_why : (p : Written A) (v : CsiValue) (q : Written A)
      → By IsSequence WriteDenies p v q → Refused A
  sequence_why p v q (a, is, denied) = denied (ap has_text is)

  pub one_refused : (vs : List CsiValue) (p : Passing P A) (s : Written A)
      → StopsAt ⊥ (By IsSequence Notes) (By IsSequence WriteDenies) p.written vs s
      → StopsAt ⊥ (By IsSequence (TakesBy allows)) (By IsSequence Refuses) p vs
      (record p { written = s })
  one_refused [] p s e = absurd e.0
  one_refused (v ∷ vs) p s e =
      inr
      (inl (
        (sequence_action v).0,
        (sequence_action v).1,
        λ _.
            stops_for (By IsSequence Notes) (By IsSequence WriteDenies) (Refused A) sequence_why
            p.written (v ∷ vs) s e,
      ))

  -- a statement about a call on the text holds for the receiver
  pub passes_taken : {E : Type 0} (r : Result Bool E) (es : List CsiParam) (more : Bool) (f : ℕ)
      (p : Passing P A) (s : Written A) → more ≡ false
      → list_all (λ c. allows p.policy.now (csi c)) (csi_of es false f) ≡ true
      → IfOk r (λ b. IsTrue b → FoldsTo (By IsSequence Notes) p.written (csi_of es more f) s)
      → IfOk r (λ b. IsTrue b → FoldsTo (By IsSequence (TakesBy allows)) p (csi_of es more f)
      (record p { written = s }))
  passes_taken r es more f p s m h t =
      if_ok_more _ _ r
      (λ b k e.
      subst (λ x. FoldsTo (By IsSequence (TakesBy allows)) p (csi_of es x f)
      (record p { written = s })) (sym m)
      (all_pass (csi_of es false f) p s (each_whole es f) h
      (subst (λ x. FoldsTo (By IsSequence Notes) p.written (csi_of es x f) s) m (k e))))
      t

  pub stays_taken : (es : List CsiParam) (more : Bool) (f : ℕ) (p : Passing P A) → more ≡ false
      → list_any (λ c. allows p.policy.now (csi c)) (csi_of es false f) ≡ false
      → FoldsTo (By IsSequence (TakesBy allows)) p (csi_of es more f) p
  stays_taken es more f p m h = subst (λ x. FoldsTo (By IsSequence (TakesBy allows)) p
      (csi_of es x f) p) (sym m) (none_pass (csi_of es false f) p h)

  pub left_alone : {E : Type 0} (r : Result Bool E) (p : Passing P A) (s : Written A)
      → IfOk r (λ b. b ≡ false → s ≡ p.written)
      → IfOk r (λ b. b ≡ false → record p { written = s } ≡ p)
  left_alone r p s t = if_ok_more _ _ r (λ b k e. ap (with_written p) (k e)) t

  pub refused_taken : {E : Type 0} (r : Result Bool E) (vs : List CsiValue) (p : Passing P A)
      (s : Written A)
      → OnErr r (StopsAt ⊥ (By IsSequence Notes) (By IsSequence WriteDenies) p.written vs s)
      → OnErr r (StopsAt ⊥ (By IsSequence (TakesBy allows)) (By IsSequence Refuses) p vs
      (record p { written = s }))
  refused_taken r vs p s t = on_err_weaker r (one_refused vs p s) t

  -- the same for a command
  pub command_passes : {E : Type 0} (r : Result Bool E) (ps : List (List ℕ)) (p : Passing P A)
      (s : Written A)
      → allows p.policy.now (osc (command_meant ps)) ≡ true
      → IfOk r (λ b. IsTrue b → FoldsTo (By IsCommand Notes) p.written (ps ∷ []) s)
      → IfOk r (λ b. IsTrue b → FoldsTo (By IsCommand (TakesBy allows)) p (ps ∷ [])
      (record p { written = s }))
  command_passes r ps p s h t =
      if_ok_more _ _ r
      (λ b k e.
      let w = k e in (
        record p { written = w.0 },
        (
          w.1.0,
          w.1.1,
          (
            passed_one (osc (command_meant ps))
                (value_of w.1.0) p.policy.now p.written w.0 w.1.0 w.1.1 h w.1.2,
            refl,
          ),
        ),
        ap (with_written p) w.2,
      ))
      t

  pub command_stays : (ps : List (List ℕ)) (p : Passing P A)
      → allows p.policy.now (osc (command_meant ps)) ≡ false
      → FoldsTo (By IsCommand (TakesBy allows)) p (ps ∷ []) p
  command_stays ps p h =
      let a : Action A = action.OperatingSystemCommand (command_meant ps) in (
        p,
        (
          a,
          refl,
          (
            stayed_one (osc (command_meant ps)) (value_of a) p.policy.now p.written a refl h,
            refl,
          ),
        ),
        refl,
      )

  command_why : (p : Written A) (ps : List (List ℕ)) (q : Written A)
      → By IsCommand WriteDenies p ps q → Refused A
  command_why p ps q (a, is, denied) = denied (ap has_text is)

  pub command_refused : {E : Type 0} (r : Result Bool E) (ps : List (List ℕ)) (p : Passing P A)
      (s : Written A)
      → OnErr r (StopsAt ⊥ (By IsCommand Notes) (By IsCommand WriteDenies) p.written (ps ∷ []) s)
      → OnErr r (StopsAt ⊥ (By IsCommand (TakesBy allows)) (By IsCommand Refuses) p (ps ∷ [])
      (record p { written = s }))
  command_refused r ps p s t =
      on_err_weaker r
      (λ e. inr
      (inl (
        action.OperatingSystemCommand (command_meant ps),
        refl,
        λ _.
            stops_for (By IsCommand Notes) (By IsCommand WriteDenies) (Refused A) command_why
            p.written (ps ∷ []) s e,
      ))) t

-- the decisions of a policy about control sequences
pub text_sequences : (A : Type 0) (p : Policy) (vs : List CsiValue) → p ≡ policy.Text
    → list_any (λ c. admits {A = A} p (csi c)) vs ≡ false
text_sequences A p vs e = subst (λ x. list_any (λ c. admits {A = A} x (csi c)) vs ≡ false) (sym e)
    (none_of (λ c. false) (λ c. refl) vs)

every : (vs : List CsiValue) → list_all (λ c. true) vs ≡ true
every [] = refl
every (v ∷ vs) = every vs

pub all_sequences : (A : Type 0) (p : Policy) (vs : List CsiValue) → p ≡ policy.All
    → list_all (λ c. admits {A = A} p (csi c)) vs ≡ true
all_sequences A p vs e = subst (λ x. list_all (λ c. admits {A = A} x (csi c)) vs ≡ true) (sym e)
    (every vs)

-- renditions pass, and so do functions that change the screen alone
pub renditions_pass : (es : List CsiParam) (f : ℕ) → f ≡ 0x6d → list_all is_plain_param es ≡ true
    → list_all is_rendition (csi_of es false f) ≡ true
renditions_pass es f m h = each_of is_rendition (λ s. refl) es f (rw (m, h) refl)

pub no_rendition : (es : List CsiParam) (f : ℕ) → (f == 0x6d) ≡ false
    → list_any is_rendition (csi_of es false f) ≡ false
no_rendition es f h = rw (nameless es f h, h) refl

pub screen_all : (es : List CsiParam) (f : ℕ) → f ≡ 0x6d → list_all is_plain_param es ≡ true
    → list_all (λ c. is_rendition c || is_screen_sequence c) (csi_of es false f) ≡ true
screen_all es f m h = each_of (λ c. is_rendition c || is_screen_sequence c) (λ s. refl) es f
    (rw (m, h) refl)

pub screen_one : (es : List CsiParam) (f : ℕ) → (f == 0x6d) ≡ false → is_screen_body es f ≡ true
    → list_all (λ c. is_rendition c || is_screen_sequence c) (csi_of es false f) ≡ true
screen_one es f h k = rw (nameless es f h, h, k) refl

pub screen_none : (es : List CsiParam) (f : ℕ) → (f == 0x6d) ≡ false → is_screen_body es f ≡ false
    → list_any (λ c. is_rendition c || is_screen_sequence c) (csi_of es false f) ≡ false
screen_none es f h k = rw (nameless es f h, h, k) refl

-- sequences that pass as a colour, for `grind`
pub ruleset colours = (renditions_pass, no_rendition)

-- sequences that pass as changes of the screen, for `grind`
pub ruleset screens = (screen_all, screen_one, screen_none)
