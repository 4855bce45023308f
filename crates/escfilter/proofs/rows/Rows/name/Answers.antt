use Rattle.std.proofs.Common.{◌≡◌, Some, sym, ◌∙◌}
use Rattle.esc_account.specs.Brief.{brief}
use Rattle.esc_actions.specs.Readings.{reading_within}
use Rattle.esc_frame.specs.Segments.{is_finished, joined_bytes}
use Rattle.escfilter.specs.Names.{kind_title, title_of}
use Rattle.escfilter.specs.Rows.{first_out, title_by, title_or, writes}
use Rattle.escfilter.proofs.AtOnce.{ok_more, title_meant}
use Rattle.escfilter.proofs.rows.Rows.name.Goals as goal

pub returns-in-Some-clause-given : goal.returns-in-Some-clause-given
returns-in-Some-clause-given c = λ s gs each item judge.
    title_meant (writes c.args.self.now.options.filter) c.args.fate c.args.segment.kind
    c.args.segment.bytes.now _ (title_of c.in-Some.name)
    (sym c.is_meant.ensures ∙ c.if-not-is_meant.false)
    (c.in-Some.ensures s gs (kind_title c.args.segment.kind c.args.segment.bytes.now) each item)

pub returns-in-None-clause-given : goal.returns-in-None-clause-given
returns-in-None-clause-given c = λ s gs each item judge.
    let o = c.args.self.now.options.filter in
    let vs = brief (reading_within (Some o.limit) s (is_finished s (joined_bytes gs))) in
    let i = c.args.segment in
    ok_more (λ n. title_of n ≡ title_or (kind_title i.kind i.bytes.now) (first_out (writes o) vs))
    (λ n. title_of n ≡ title_by (writes o) c.args.fate i.kind i.bytes.now vs)
    c.name_by_actions.result
    (λ n h. title_meant (writes o) c.args.fate i.kind i.bytes.now vs (title_of n)
    (sym c.is_meant.ensures ∙ c.if-not-is_meant.false) h)
    (c.name_by_actions.ensures.given s gs each item judge)
