use Rattle.std.proofs.Common.{◌∙◌, ap, map, refl, string_bytes, sym}
use Rattle.command_line.specs.Given.{said_option}
use Rattle.command_line.proofs.Words.{files_step, options_step, right_step, wrong_step}
use Rattle.command_line.proofs.reading.read_into.Goals as goal

pub loop-word-preserved : goal.loop-word-preserved
loop-word-preserved g c =
    let w = c.as_str.result.now in
    let word = c.in-Some.word.now in
    let all = c.loop-word.rest.now in
    let after = c.in-Some.after.now in
    let rest = c.in-Ok.more.now in
    let old = c.loop-word.found in
    let new = c.add_next.new.found in
    let last = c.in-Ok.ensures.files.0 in
    let file = c.in-Ok.ensures.files.1 in
    let option = c.in-Ok.ensures.option in
    let files = c.in-Ok.ensures.kept.0 in
    let options = c.in-Ok.ensures.kept.1 in (
      files_step string_bytes c.args.known.now (map (λ f. f.now) old.files.items)
          (map (λ f. f.now) new.files.items) w word all after rest
          c.as_str.ensures.value c.in-Some.ensures.cases.0 last file
          (λ e is. ((option e is).0, ap (λ f. map (λ s. s.now) f.items) (files e is)))
          ∙ c.loop-word.invariant.0,
      options_step string_bytes c.args.known.now (map said_option old.options.items)
          (map said_option new.options.items) w word all after rest
          c.as_str.ensures.value c.in-Some.ensures.cases.0
          (λ e. ((last e).0, ap (λ o. map said_option o.items) (options (rw e refl))))
          (λ e is. ((file e is).0, ap (λ o. map said_option o.items) (options (rw (e, is) refl))))
          option
          ∙ c.loop-word.invariant.1,
      right_step string_bytes c.args.known.now w word all after rest
          c.as_str.ensures.value c.in-Some.ensures.cases.0
          (λ e. (last e).0) (λ e is. (file e is).0) (λ e is. (option e is).0)
          c.in-Ok.ensures.right.1
          ∙ c.loop-word.invariant.2,
    )

pub returns-in-Err-clause-right : goal.returns-in-Err-clause-right
returns-in-Err-clause-right g c = λ n.
    sym c.loop-word.invariant.2
    ∙ wrong_step string_bytes c.args.known.now c.as_str.result.now c.in-Some.word.now
    c.loop-word.rest.now c.in-Some.after.now c.as_str.ensures.value
    c.in-Some.ensures.cases.0 (c.in-Err.ensures.right.1 n)
