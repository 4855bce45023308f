use Rattle.std.proofs.Common.{refl}
use Rattle.esc_account.specs.Entries.{as_entry}
use Rattle.esc_account.specs.Rows.{under}
use Rattle.esc_account.proofs.Rows.NewRowBegins.{begins_one}
use Rattle.esc_account.proofs.Rows.TableHasAll.{one_added, same_all}
use Rattle.esc_account.proofs.Rows.WhereEntryGoes.{added_rows}
use Rattle.esc_account.proofs.table.Table.add.Goals as goal

pub returns-clause-all : goal.returns-clause-all
returns-clause-all g c = λ es all.
    let rows = c.row_of.new.self.rows.items in
    let found = c.in_ok-at.ensures.found in
    one_added rows c.grow.new.self.rows.items c.in_ok-at.at es (as_entry c.args.made)
    c.things.result _
    (same_all c.args.self.now.rows.items rows es all c.in_ok-at.ensures.same) found
    c.things.ensures refl
    (c.grow.ensures found.before found.after found.row found.whole found.place)

pub returns-clause-rows : goal.returns-clause-rows
returns-clause-rows g c = λ es has.
    let to = c.in_ok-at.ensures.goes es has in
    added_rows g.N.PartialEq.eq g.met.N.Eq.laws c.args.self.now es has
    (under c.args.name (as_entry c.args.made)) c.row_of.new.self.rows.items c.in_ok-at.at
    c.things.result _ (record { rows = c.grow.new.self.rows; last = c.in_ok-at.at }) to
    (c.grow.ensures to.row.before to.row.after to.row.row to.row.whole to.row.place) refl
    c.things.ensures refl

pub returns-clause-begins : goal.returns-clause-begins
returns-clause-begins g c = λ es has.
    begins_one g.N.PartialEq.eq g.met.N.Eq.laws c.args.self.now
    (record { rows = c.grow.new.self.rows; last = c.in_ok-at.at }) es
    (under c.args.name (as_entry c.args.made)) has (returns-clause-rows g c es has)
