use Rattle.std.proofs.Common.{◌-◌, ap, arith, ◌∙◌}
use Rattle.std.proofs.KnownBytes.{Consumes-nil}
use Rattle.page_input.proofs.Lines.{first_read, nothing_left, read_ends}
use Rattle.page_input.proofs.window.Window.read_first.Goals as goal

pub returns-then-left-eq0-clause-bytes : goal.returns-then-left-eq0-clause-bytes
returns-then-left-eq0-clause-bytes g c = (
  Consumes-nil _,
  λ zero room. nothing_left c.args.self.now.left c.in-Some.left _ c.in-Some.is c.if-left-eq0.true,
)

pub returns-clause-bytes : goal.returns-clause-bytes
returns-clause-bytes g c =
    let h = c.args.self.now.left in
    let n = c.in-Some.left in
    let old = g.R.Read.remaining c.args.self.now.inner in
    let new = g.R.Read.remaining c.read_some-2.new.reader in
    let b = c.read_some-2.new.buf in
    let count = c.in_ok-count.count in
    let first = c.length_of_first-first.result in
    let reads = c.in_ok-count.ensures.bytes in
    let few = c.in_ok-count.ensures.bound.0 in
    let taken = c.length_of_first-first.ensures in
    let left = c.saturating_sub.ensures ∙ ap (λ m. n - m) c.count_feeds.ensures in (
      first_read h n count first c.saturating_sub.result old new b c.in-Some.is (omega arith)
          reads.0 few taken.within taken.first left,
      read_ends h n count first c.saturating_sub.result old new b c.in-Some.is (omega arith)
          reads.0 few taken.within taken.first left reads.1,
    )
