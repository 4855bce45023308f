use Rattle.std.proofs.Common.{◌++◌, Some, ap, sym, ◌∙◌}
use Rattle.std.proofs.lemmas.Result.{on_ok_weaker}
use Rattle.esc_calls.proofs.Sanitizing.{decoded_more, feeds, undecoded, undecoded_by}
use Rattle.esc_calls.specs.SanitizerStates.{going_bytes}
use Rattle.esc_calls.specs.declared.sanitizer_state.SanitizerState.{SanitizerState}
use Rattle.esc_calls.proofs.sanitizer_state.SanitizerState.feed.Goals as goal

pub returns-in_default-clause-taken : goal.returns-in_default-clause-taken
returns-in_default-clause-taken c = λ o s h.
    let z = c.args.self.now in
    let b = c.args.bytes.now in
    let none = undecoded_by o.order s z.decoder h.decoder c.in_default.not-Some in
    let before = undecoded o.order s s none in
    let later = undecoded o.order s (s ++ b) none in
    let new : SanitizerState = record {
      sanitizer = c.feed.new.self;
      decoder = z.decoder;
      decoded = z.decoded;
      text = z.text;
      is_closing = z.is_closing;
    } in
    on_ok_weaker c.feed.result
    (feeds o s b b z new h (later.0 ∙ ap (λ y. y ++ b) (sym before.0))
    (h.decoder ∙ none ∙ sym later.2) h.goes_on c.feed.ensures.after.1)
    (c.feed.ensures.given (going_bytes o.order s) h.fed)

pub returns-clause-taken : goal.returns-clause-taken
returns-clause-taken c = λ o s h.
    let z = c.args.self.now in
    let b = c.args.bytes.now in
    let x = c.deref.result.now in
    let new : SanitizerState = record {
      sanitizer = c.feed-2.new.self;
      decoder = Some c.push.new.self;
      decoded = c.push.new.text;
      text = z.text;
      is_closing = z.is_closing;
    } in
    let more = decoded_more o.order s b c.push.new.text.items c.in-Some.decoder
    c.push.new.self (sym h.decoder ∙ c.in-Some.is)
    (λ j r is. let k = c.in-Ok.ensures.decoded j r is in
    (k.0, k.1 ∙ ap (λ y. y ++ k.0) c.clear.ensures.items, k.2)) in
    let is = more.0 ∙ ap (λ y. going_bytes o.order s ++ y) (sym c.deref.ensures.value) in
    on_ok_weaker c.feed-2.result
    (feeds o s b x z new h is (sym more.1) h.goes_on c.feed-2.ensures.after.1)
    (c.feed-2.ensures.given (going_bytes o.order s) h.fed)

pub returns-in_default-clause-memory : goal.returns-in_default-clause-memory
returns-in_default-clause-memory c = λ o s h.
    c.feed.ensures.refused (going_bytes o.order s) h.fed

pub returns-clause-memory : goal.returns-clause-memory
returns-clause-memory c = λ o s h. c.feed-2.ensures.refused (going_bytes o.order s) h.fed
