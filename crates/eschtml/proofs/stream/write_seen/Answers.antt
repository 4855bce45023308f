use Rattle.std.proofs.Common.{◌++◌, true, false, ap, ◌∙◌}
use Rattle.esc_decode.specs.Decodings.{decoded_stream, through}
use Rattle.esc_filter.specs.declared.admit.Admit.{Ghosts as Admitter}
use Rattle.caret_notation.proofs.Filters.BeginsAsOneFilter.{through_nothing}
use Rattle.caret_notation.specs.Through.{through as revealed_through, through_whole}
use Rattle.eschtml.specs.Joined.{through_joined}
use Rattle.eschtml.specs.Written.{is_kept, seen_by}
use Rattle.eschtml.specs.declared.kept.Kept.{Kept}
use Rattle.eschtml.proofs.Joined.{joined_adds}
use Rattle.eschtml.proofs.Same.{same_texts}
use Rattle.eschtml.proofs.Seen.{going_same, going_shown, nothing_decoded, through_adds, whole_same, whole_shown}
use Rattle.eschtml.proofs.stream.write_seen.Goals as goal

pub returns-then-shows-clause-holds : goal.returns-then-shows-clause-holds
returns-then-shows-clause-holds g c = λ m e fresh none only.
    let a = g.row.A.Denot in
    let o = c.args.options.now in
    let moves = c.args.moves in
    let rule = c.with_marking-reveal.result.rule in
    let V : Admitter Kept a = record {
      admits = λ k v. is_kept {A = a} k.moves v;
    } in
    let n = through_joined m in
    let d = through_joined e in
    let adding = joined_adds m e only in
    let shown = c.new-shown.ensures.begins n d (c.new-joining.ensures.begins m e fresh only)
    (record { more = λ f s b k. adding.more s b; end = λ f s b k. adding.end (s ++ b) })
    c.with_marking-reveal.ensures.fed in
    let adds = through_adds V rule n d adding in
    let new = c.new-filter.ensures.begins _ _ shown adds in
    let admits = ap (λ p. is_kept {A = a} p.moves) c.with_marking-reveal.ensures.policy in
    let f = same_texts (through o.encoding (through_whole V rule d))
    (through o.encoding (revealed_through V rule n)) (λ s. e (seen_by a o moves true s))
    (λ s. m (seen_by a o moves false s))
    (λ s. ap e (whole_shown V rule o.limit moves c.with_marking-reveal.ensures.limit
    c.with_marking-reveal.ensures.lines admits o.shows c.if-shows.true
    (decoded_stream o.encoding s)))
    (λ s. ap m (going_shown V rule o.limit moves c.with_marking-reveal.ensures.limit
    c.with_marking-reveal.ensures.lines admits o.shows c.if-shows.true
    (decoded_stream o.encoding s))) _ _ _
    (c.pump.ensures.holds _ _ new
    (ap (revealed_through V rule n) (nothing_decoded o.encoding)
    ∙ through_nothing V rule n d none) (λ s. adds.end (decoded_stream o.encoding s))) in
    record {
      read_all = f.read_all;
      written = f.written;
      decided = f.decided;
      endless = f.endless;
      until_refused = f.until_refused;
      beginning = f.beginning;
      read_fault = f.read_fault;
      write_fault = f.write_fault;
    }

pub returns-then-shows-clause-refused : goal.returns-then-shows-clause-refused
returns-then-shows-clause-refused g c = λ m e fresh none only.
    let o = c.args.options.now in
    let rule = c.with_marking-reveal.result.rule in
    let V : Admitter Kept g.row.A.Denot = record {
      admits = λ k v. is_kept {A = g.row.A.Denot} k.moves v;
    } in
    let n = through_joined m in
    let d = through_joined e in
    let adding = joined_adds m e only in
    let shown = c.new-shown.ensures.begins n d (c.new-joining.ensures.begins m e fresh only)
    (record { more = λ f s b k. adding.more s b; end = λ f s b k. adding.end (s ++ b) })
    c.with_marking-reveal.ensures.fed in
    let adds = through_adds V rule n d adding in
    let new = c.new-filter.ensures.begins _ _ shown adds in
    c.pump.ensures.refused _ _ new
    (ap (revealed_through V rule n) (nothing_decoded o.encoding)
    ∙ through_nothing V rule n d none) (λ s. adds.end (decoded_stream o.encoding s))

pub returns-else-shows-clause-holds : goal.returns-else-shows-clause-holds
returns-else-shows-clause-holds g c = λ m e fresh none only.
    let a = g.row.A.Denot in
    let o = c.args.options.now in
    let moves = c.args.moves in
    let new = c.new-filter-else-shows.ensures.begins m e fresh only in
    let f = same_texts (through o.encoding e) (through o.encoding m)
    (λ s. e (seen_by a o moves true s)) (λ s. m (seen_by a o moves false s))
    (λ s. ap e (whole_same a o.shows o.limit moves c.if-shows.false (decoded_stream o.encoding s)))
    (λ s. ap m (going_same a o.shows o.limit moves c.if-shows.false (decoded_stream o.encoding s)))
    _ _ _
    (c.pump-else-shows.ensures.holds _ _ new (ap m (nothing_decoded o.encoding) ∙ none)
    (λ s. only.end (decoded_stream o.encoding s))) in
    record {
      read_all = f.read_all;
      written = f.written;
      decided = f.decided;
      endless = f.endless;
      until_refused = f.until_refused;
      beginning = f.beginning;
      read_fault = f.read_fault;
      write_fault = f.write_fault;
    }

pub returns-else-shows-clause-refused : goal.returns-else-shows-clause-refused
returns-else-shows-clause-refused g c = λ m e fresh none only.
    let o = c.args.options.now in
    let new = c.new-filter-else-shows.ensures.begins m e fresh only in
    c.pump-else-shows.ensures.refused _ _ new (ap m (nothing_decoded o.encoding) ∙ none)
    (λ s. only.end (decoded_stream o.encoding s))
