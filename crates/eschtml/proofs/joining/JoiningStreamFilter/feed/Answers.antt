use Rattle.std.proofs.Common.{ap, ◌∙◌}
use Rattle.std.proofs.lemmas.Result.{on_ok_weaker}
use Rattle.eschtml.proofs.Joined.{joins_fed, joins_longer}
use Rattle.eschtml.specs.Joined.{text_without_pairs}
use Rattle.eschtml.proofs.joining.JoiningStreamFilter.feed.Goals as goal

pub returns-in_err-held-clause-longer : goal.returns-in_err-held-clause-longer
returns-in_err-held-clause-longer g c = λ m e s h.
    joins_longer g.F.StreamFilter _ _ m e s h c.args.bytes.now

pub returns-clause-given : goal.returns-clause-given
returns-clause-given g c = λ m e s h.
    let new = c.feed.new.self in
    let x = c.deref.result.now in
    let ok = c.in_ok-held.ensures.ok in
    on_ok_weaker c.feed.result
    (λ k. joins_fed g.F.StreamFilter _ _ m e s h c.args.bytes.now x (g.F.StreamFilter.added new)
    c.in_ok-held.held new (c.deref.ensures.value ∙ ok.0) ok.1 k.0 k.1)
    (c.feed.ensures.given h.inner h.inner_end (text_without_pairs s) h.given)

pub returns-clause-longer : goal.returns-clause-longer
returns-clause-longer g c = λ m e s h.
    joins_longer g.F.StreamFilter _ _ m e s h c.args.bytes.now
