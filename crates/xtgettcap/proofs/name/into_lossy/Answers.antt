use Rattle.std.proofs.Common.{◌≡◌, ap, sym, ◌∙◌, string_bytes}
use Rattle.std.specs.Str.Lossy.{utf8_lossy}
use Rattle.std.proofs.lemmas.Str.{IsUtf8-string_bytes, utf8_lossy-IsUtf8}
use Rattle.xtgettcap.proofs.name.into_lossy.Goals as goal

pub returns-in-Ok-clause-ok : goal.returns-in-Ok-clause-ok
returns-in-Ok-clause-ok g c =
    let e : string_bytes c.in-Ok.string ≡ c.args.bytes.items =
    ap (λ v. v.items) c.in-Ok.ensures.ok in
    c.from_string.ensures ∙ sym (utf8_lossy-IsUtf8 _ (IsUtf8-string_bytes c.in-Ok.string))
    ∙ ap utf8_lossy e
