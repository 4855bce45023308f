use Rattle.std.proofs.Common.{refl, subst}
use Rattle.std.specs.List.{FoldsTo}
use Rattle.esc_device.specs.Leads.{Pushes as PushesShort}
use Rattle.esc_parse.proofs.Lists.StepsOverLists.{on_ok_more}
use Rattle.esc_parse.proofs.Runs.RunsOfData.{idle_run, short_run, sixel_run, termcap_run}
use Rattle.esc_parse.specs.Sixels.{Pushes as PushesSixel}
use Rattle.esc_parse.proofs.unfinished.Unfinished.push_whole.Goals as goal

pub returns-in-Sixel-clause-ok : goal.returns-in-Sixel-clause-ok
returns-in-Sixel-clause-ok g c =
    let new = c.push_run.new.self in
    on_ok_more _ _ c.push_run.result
    (λ h. sixel_run c.args.bytes.now c.args.self.now _ c.in-Sixel.text new c.in-Sixel.is c.requires
    (subst (λ b. FoldsTo PushesSixel b c.args.bytes.now new) c.deref_mut.ensures.value h) refl)
    c.push_run.ensures.ok

pub returns-in-Termcap-clause-ok : goal.returns-in-Termcap-clause-ok
returns-in-Termcap-clause-ok g c =
    let call = c.push_run-in-Termcap in
    on_ok_more _ _ call.result
    (λ h. termcap_run c.args.bytes.now c.args.self.now _ c.in-Termcap.builder call.new.self
    c.in-Termcap.is c.requires h refl)
    call.ensures.each

pub returns-in-Short-clause-ok : goal.returns-in-Short-clause-ok
returns-in-Short-clause-ok g c =
    let call = c.push_run-in-Short in
    on_ok_more _ _ call.result
    (λ h. short_run c.args.bytes.now c.args.self.now _ c.in-Short.builder call.new.self
    c.in-Short.is c.requires
    (subst (λ b. FoldsTo PushesShort b c.args.bytes.now call.new.self)
    c.deref_mut-in-Short.ensures.value h) refl)
    call.ensures.each

pub returns-in-Nothing-clause-ok : goal.returns-in-Nothing-clause-ok
returns-in-Nothing-clause-ok g c =
    idle_run c.args.bytes.now c.args.self.now _ c.requires c.in-Nothing.is refl

pub returns-in-Nothing-2-clause-ok : goal.returns-in-Nothing-2-clause-ok
returns-in-Nothing-2-clause-ok g c =
    idle_run c.args.bytes.now c.args.self.now _ c.requires c.in-Nothing.is refl

pub returns-in-Nothing-3-clause-ok : goal.returns-in-Nothing-3-clause-ok
returns-in-Nothing-3-clause-ok g c =
    idle_run c.args.bytes.now c.args.self.now _ c.requires c.in-Nothing.is refl
