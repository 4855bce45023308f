use Rattle.std.proofs.Common.{rules, ◌≡◌, ◌++◌, subst}
use Rattle.std.specs.Prelude.{OnOk}
use Rattle.std.specs.Str.Chunks.{utf8_chunk_invalid, utf8_chunk_valid}
use Rattle.dump_page.specs.Quoted.{Quotes}
use Rattle.dump_page.proofs.Quoting.{on_ok, quotes_more}
use Rattle.dump_page.proofs.quoted.push_chunk.Goals as goal

pub returns : goal.returns
returns c =
    let valid : c.valid.result.now ++ c.invalid.result.now
    ≡ utf8_chunk_valid c.args.chunk ++ utf8_chunk_invalid c.args.chunk = search rules in
    subst (λ z. OnOk c.push_bytes.result (Quotes c.args.to.now c.push_bytes.new.to z)) valid
    (on_ok c.push_bytes.result
    (λ k. quotes_more _ _ _ _ _ c.in_ok-push_text.ensures k) c.push_bytes.ensures)
