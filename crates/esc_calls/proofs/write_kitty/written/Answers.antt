use Rattle.std.proofs.Common.{rules, ℕ, ◌≡◌, ◌++◌, true, Some, ap, drop, sym, subst, ◌∙◌, List}
use Rattle.std.proofs.lemmas.Bool.{true≢false}
use Rattle.std.specs.Global.{Global}
use Rattle.std.specs.List.{list_all}
use Rattle.flat_values.specs.Fields.{Table}
use Rattle.flat_values.specs.HeldImages.{HasImage}
use Rattle.esc_kitty.specs.Texts.{image_body}
use Rattle.esc_kitty.specs.Writable.{IsWritableImage, is_kept}
use Rattle.esc_kitty.specs.declared.image.KittyImage.{KittyImage}
use Rattle.esc_calls.proofs.ImagesWritten.{image_written, none_writable}
use Rattle.esc_calls.specs.ImageValues.{image_read}
use Rattle.esc_values.specs.Clear.{string_terminator}
use Rattle.esc_calls.proofs.write_kitty.written.Goals as goal

-- a text that is an image that has them
abbrev IsBack : ℕ → Table → List ℕ → Type 0
IsBack k t s = (list_all is_kept s ≡ true) × HasImage k t (image_read s)

pub returns-clause-text : goal.returns-clause-text
returns-clause-text c =
    let k = c.args.kind in
    let t : Table = (c.args.fields.now, c.args.text.now) in
    let said = c.in_ok-written.ensures.text in
    let body_is : c.body_in.result.now ≡ image_body said.0 =
    c.body_in.ensures ∙ ap (drop 2) (c.as_bytes.ensures ∙ said.2) in
    let back =
    subst (IsBack k t) body_is (c.in_ok-is_back.ensures.back.0 c.if-not-branch.false) in (
      said.0,
      image_written k t said.0 said.1 back.0 back.1,
      c.in_ok-ended.ensures.text ∙ ap (λ x. x ++ string_terminator) said.2,
    )

pub returns-then-not-branch-clause-refused : goal.returns-then-not-branch-clause-refused
returns-then-not-branch-clause-refused c =
    let k = c.args.kind in
    let t : Table = (c.args.fields.now, c.args.text.now) in
    let said = c.in_ok-written.ensures.text in
    let body_is : c.body_in.result.now ≡ image_body said.0 =
    c.body_in.ensures ∙ ap (drop 2) (c.as_bytes.ensures ∙ said.2) in
    let unwritable : (j : KittyImage Global) → IsWritableImage j → HasImage k t (Some j) → ⊥ =
    none_writable k t said.0 said.1 (λ back. true≢false (sym (c.in_ok-is_back.ensures.back.1
    (subst (IsBack k t) (sym body_is) back)) ∙ c.if-not-branch.true)) in
    search (rules, unwritable)
