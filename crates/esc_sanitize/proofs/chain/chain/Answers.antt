use Rattle.std.proofs.Common.{◌++◌}
use Rattle.esc_sanitize.proofs.Beginning.{begins_alone, begins_shown}
use Rattle.esc_sanitize.proofs.chain.chain.Goals as goal

pub returns-in-None : goal.returns-in-None
returns-in-None g c =
    let b = c.framed-filter.ensures in
    let k = begins_alone _ g.P.Admit c.framed-filter.result c.args.options b c.in-None.is in
    record {
      going = k.going;
      closed = k.closed;
      given = k.given;
      adds = k.adds;
      empty = k.empty;
      goes_on = k.goes_on;
      ends = k.ends;
    }

pub returns-in-Some : goal.returns-in-Some
returns-in-Some g c =
    let o = c.args.options in
    let b = c.framed-filter.ensures in
    let r = c.with_marking-reveal in
    let rule = r.result.rule in
    let given = c.new.ensures.begins b.going b.closed b.given
    (record { more = λ f s x k. b.adds.more s x; end = λ f s x k. b.adds.end (s ++ x) })
    r.ensures.fed in
    begins_shown _ g.P.Admit c.framed-filter.result o b _ _ rule c.in-Some.marking c.in-Some.is
    r.ensures.limit r.ensures.lines r.ensures.policy given
