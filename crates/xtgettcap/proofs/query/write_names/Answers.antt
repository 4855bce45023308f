use Rattle.std.proofs.Common.{refl, sym, ap}
use Rattle.std.proofs.lemmas.Grind.{put_two}
use Rattle.xtgettcap.specs.Names.{names_text}
use Rattle.xtgettcap.proofs.query.write_names.Goals as goal

pub returns : goal.returns
returns g c plain ok =
    let w = c.in_ok-write.ensures.writes plain refl in
    let more = c.write_more.ensures w.plain ok in
    put_two g.W.Write.write_str_gives c.args.f.now c.write.new.self c.write_more.new.f _ _
    (names_text c.args.names.now) w more (sym (ap names_text c.in-Some.ensures.cases.0))
