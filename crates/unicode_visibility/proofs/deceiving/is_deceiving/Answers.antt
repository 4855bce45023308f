use Rattle.std.proofs.Common.{rules, ◌≡◌, ◌==◌, ◌||◌, Bool, true, false, refl, sym, ◌∙◌}
use Rattle.ucd_derived.specs.Binary.{is_default_ignorable_code_point}
use Rattle.ucd_props.specs.Binary.{is_bidi_control}
use Rattle.unicode_visibility.proofs.deceiving.is_deceiving.Goals as goal
use Rattle.unicode_visibility.specs.Characters.{is_deceiving}

neither : (a b x : Bool) → a ≡ false → b ≡ false → (a || (b || x)) ≡ x
neither true b x h k = absurd cc
neither false true x h k = absurd cc
neither false false x h k = refl

first : (a x : Bool) → a ≡ true → (a || x) ≡ true
first true x h = refl
first false x h = absurd cc

second : (a b x : Bool) → b ≡ true → (a || (b || x)) ≡ true
second true b x h = refl
second false true x h = refl
second false false x h = absurd cc

pub returns-then-is_default_ignorable_code_point
    : goal.returns-then-is_default_ignorable_code_point
unfolding is_deceiving
returns-then-is_default_ignorable_code_point c =
    let a : is_default_ignorable_code_point c.args.c ≡ true = search rules in
    sym (first _ _ a)

pub returns-then-is_bidi_control : goal.returns-then-is_bidi_control
unfolding is_deceiving
returns-then-is_bidi_control c =
    let b : is_bidi_control c.args.c ≡ true = search rules in
    sym (second _ _ _ b)

pub returns-then-c-eq8232 : goal.returns-then-c-eq8232
unfolding is_deceiving
returns-then-c-eq8232 c =
    let n = c.args.c in
    let a : is_default_ignorable_code_point n ≡ false = search rules in
    let b : is_bidi_control n ≡ false = search rules in
    let e : (n == 0x2028) ≡ true = search rules in
    sym (neither _ _ _ a b ∙ rw e refl)

pub returns-else-c-eq8232 : goal.returns-else-c-eq8232
unfolding is_deceiving
returns-else-c-eq8232 c =
    let n = c.args.c in
    let a : is_default_ignorable_code_point n ≡ false = search rules in
    let b : is_bidi_control n ≡ false = search rules in
    let e : (n == 0x2028) ≡ false = search rules in
    sym (neither _ _ _ a b ∙ rw e refl)
