use Rattle.std.proofs.Common.{rules, ◌≡◌, ◌++◌, ◌==◌, ◌&&◌, [], true, false, eq-eqb, not, refl, subst, ap}
use Rattle.std.specs.Fmt.{HasWritten}
use Rattle.std.specs.Str.{chars}
use Rattle.std.specs.Str.Iter.{chars_rest}
use Rattle.std.proofs.Output.{has_written_append}
use Rattle.std.proofs.lemmas.Bool.{ne_eqb}
use Rattle.std.proofs.lemmas.Str.{IsUtf8-past_char}
use Rattle.command_line.specs.ShownWords.{shown_character, shown_from}
use Rattle.command_line.proofs.ShownWords.{shown_end, shown_step}
use Rattle.command_line.proofs.showing.ShownDisplay.fmt.Goals as goal

pub loop-c-init : goal.loop-c-init
loop-c-init g c =
    let word = c.args.self.now.0.now in
    let all : word ≡ chars_rest c.into_iter-c-iterator.result = search rules in
    ([], ap (λ z. shown_from false (chars z)) all, search rules, search rules)

pub loop-c-preserved-then-c-eq0 : goal.loop-c-preserved-then-c-eq0
loop-c-preserved-then-c-eq0 g c =
    let held = c.loop-c.invariant in
    let b = c.loop-c.is_byte in
    let x = c.in-Some.c in
    let before = chars_rest c.loop-c.c-iterator in
    let after = chars_rest c.next.new.self in
    let step = c.in-Some.ensures.steps.0 in
    let is : (x == 0) ≡ true = eq-eqb x 0 c.if-c-eq0.true in
    let goes_on : not b ≡ ((x == 0) && not b) = rw is refl in (
      held.0 ++ shown_character b x,
      shown_step b (not b) x _ held.0 before after held.2 step goes_on held.1,
      IsUtf8-past_char before after x held.2 step,
      λ p. has_written_append _ _ _ _ _ _ (held.3 p) (search rules),
    )

pub loop-c-preserved : goal.loop-c-preserved
loop-c-preserved g c =
    let held = c.loop-c.invariant in
    let b = c.loop-c.is_byte in
    let x = c.in-Some.c in
    let before = chars_rest c.loop-c.c-iterator in
    let after = chars_rest c.next.new.self in
    let step = c.in-Some.ensures.steps.0 in
    let is : (x == 0) ≡ false = ne_eqb x 0 c.if-c-eq0.false in
    let goes_on : (x == 0) ≡ ((x == 0) && not b) = rw is refl in (
      held.0 ++ shown_character b x,
      shown_step b (x == 0) x _ held.0 before after held.2 step goes_on held.1,
      IsUtf8-past_char before after x held.2 step,
      λ p. has_written_append _ _ _ _ _ _ (held.3 p) (search rules),
    )

pub returns-clause-writes : goal.returns-clause-writes
returns-clause-writes g c = λ p _.
    let held = c.loop-c.invariant in
    subst (λ z. HasWritten g.W.Write.write_str_gives c.args.f.now z c.loop-c.f)
    (shown_end c.loop-c.is_byte _ held.0 _ c.in-None.ensures.steps.0.0 held.1) (held.3 p)
