use Rattle.std.proofs.Common.{◌≡◌, [], None, sym, ap, ◌∙◌, arith}
use Rattle.std.specs.List.{slice_split}
use Rattle.esc_links.specs.Hyperlinks.{is_colon, params_of}
use Rattle.esc_links.proofs.PairsRead.{reading, reading_stretch, reading_none, cut_some, cut_none, handed_on}
use Rattle.esc_links.proofs.hyperlink.read_params.Goals as goal

pub returns-in_err-put_stretch-clause-invalid : goal.returns-in_err-put_stretch-clause-invalid
returns-in_err-put_stretch-clause-invalid g c =
    handed_on (params_of c.args.text.now ≡ None) c.from_residual.result
    c.in_err-put_stretch.field-0.0
    c.from_residual.ensures.1 (λ is.
    c.loop-stretch.invariant
    ∙ ap (reading c.loop-stretch.params) (cut_some c.loop-stretch.rest.now (
      c.in-Some.stretch.now,
      c.in-Some.more.now,
    ) (sym c.in-Some.ensures)).0
    ∙ reading_none c.loop-stretch.params c.in-Some.stretch.now
    (slice_split is_colon c.in-Some.more.now)
    (c.in_err-put_stretch.ensures.invalid is))

pub loop-stretch-smaller : goal.loop-stretch-smaller
loop-stretch-smaller g c =
    omega (
      arith,
      (cut_some c.loop-stretch.rest.now (
        c.in-Some.stretch.now,
        c.in-Some.more.now,
      ) (sym c.in-Some.ensures)).1,
    )

pub loop-stretch-preserved : goal.loop-stretch-preserved
loop-stretch-preserved g c =
    c.loop-stretch.invariant
    ∙ ap (reading c.loop-stretch.params) (cut_some c.loop-stretch.rest.now (
      c.in-Some.stretch.now,
      c.in-Some.more.now,
    ) (sym c.in-Some.ensures)).0
    ∙ reading_stretch c.loop-stretch.params c.put_stretch.new.params c.in-Some.stretch.now
    (slice_split is_colon c.in-Some.more.now) c.in_ok-put_stretch.ensures.read

pub returns-in_err-put_stretch-2-clause-invalid : goal.returns-in_err-put_stretch-2-clause-invalid
returns-in_err-put_stretch-2-clause-invalid g c =
    handed_on
    (params_of c.args.text.now ≡ None) c.from_residual-in_err-put_stretch-2.result
    c.in_err-put_stretch-2.field-0.0
    c.from_residual-in_err-put_stretch-2.ensures.1 (λ is.
    c.loop-stretch.invariant
    ∙ ap (reading c.loop-stretch.params)
    (cut_none c.loop-stretch.rest.now (sym c.in_default.ensures))
    ∙ reading_none c.loop-stretch.params c.loop-stretch.rest.now []
    (c.in_err-put_stretch-2.ensures.invalid is))

pub returns-clause-read : goal.returns-clause-read
returns-clause-read g c =
    c.loop-stretch.invariant
    ∙ ap (reading c.loop-stretch.params)
    (cut_none c.loop-stretch.rest.now (sym c.in_default.ensures))
    ∙ reading_stretch c.loop-stretch.params c.put_stretch-2.new.params c.loop-stretch.rest.now []
    c.in_ok-put_stretch-2.ensures.read
