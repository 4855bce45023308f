use Rattle.std.proofs.Common.{◌≡◌, if◌then◌else◌, ap, sym, ◌∙◌}
use Rattle.std.proofs.lemmas.Result.{on_ok_weaker}
use Rattle.esc_frame.specs.Machine.Prefixes.{prefix_of}
use Rattle.esc_decode.proofs.StreamFilter.{feed_longer, feeds}
use Rattle.esc_decode.specs.Decodings.{decoded_stream, decoded_after}
use Rattle.esc_decode.proofs.decoding.Decoding.feed.Goals as goal

pub returns-in_err-begun-clause-longer : goal.returns-in_err-begun-clause-longer
returns-in_err-begun-clause-longer g c = λ m e s h.
    let d = c.args.self.now in
    feed_longer g.F.StreamFilter d.encoding d.begun d.filter m e s h c.args.bytes.now

pub returns-then-stays-clause-given : goal.returns-then-stays-clause-given
returns-then-stays-clause-given g c = λ m e s h.
    let d = c.args.self.now in
    let b = c.args.bytes.now in
    let p = c.decode.new.chunk.items in
    let new = c.feed.new.self in
    let is : b ≡ decoded_after d.encoding (prefix_of d.begun) b =
    sym (ap (λ t. if t then b else p) c.if-stays.true) ∙ c.in_ok-begun.ensures.becomes in
    on_ok_weaker c.feed.result
    (λ k. feeds g.F.StreamFilter d.encoding d.begun d.filter m e s h b b
    (g.F.StreamFilter.added new)
    c.in_ok-begun.begun new is c.in_ok-begun.ensures.begun k.0 k.1)
    (c.feed.ensures.given h.inner h.inner_end (decoded_stream d.encoding s) h.given)

pub returns-then-stays-clause-longer : goal.returns-then-stays-clause-longer
returns-then-stays-clause-longer g c = λ m e s h.
    let d = c.args.self.now in
    feed_longer g.F.StreamFilter d.encoding d.begun d.filter m e s h c.args.bytes.now

pub returns-else-stays-clause-given : goal.returns-else-stays-clause-given
returns-else-stays-clause-given g c = λ m e s h.
    let d = c.args.self.now in
    let b = c.args.bytes.now in
    let p = c.decode.new.chunk.items in
    let x = c.deref.result.now in
    let new = c.feed-else-stays.new.self in
    let is : x ≡ decoded_after d.encoding (prefix_of d.begun) b =
    c.deref.ensures.value ∙ sym (ap (λ t. if t then b else p) c.if-stays.false)
    ∙ c.in_ok-begun.ensures.becomes in
    on_ok_weaker c.feed-else-stays.result
    (λ k. feeds g.F.StreamFilter d.encoding d.begun d.filter m e s h b x
    (g.F.StreamFilter.added new)
    c.in_ok-begun.begun new is c.in_ok-begun.ensures.begun k.0 k.1)
    (c.feed-else-stays.ensures.given h.inner h.inner_end (decoded_stream d.encoding s)
    h.given)

pub returns-else-stays-clause-longer : goal.returns-else-stays-clause-longer
returns-else-stays-clause-longer g c = λ m e s h.
    let d = c.args.self.now in
    feed_longer g.F.StreamFilter d.encoding d.begun d.filter m e s h c.args.bytes.now
