-- The parts of a machine, and the numbers that a parser keeps of them.
use Rattle.std.proofs.Common.{ℕ, ◌≡◌, ◌≤◌, List, map, take, length, min, ap, sym, ◌∙◌, Some, None, Option, nat_lt, arith, length-take}
use Rattle.esc_frame.specs.declared.unfinished.intermediates.Intermediates.{Intermediates}
use Rattle.esc_frame.specs.declared.unfinished.body.CsiBody.{CsiBody}
use Rattle.esc_frame.specs.Machine.Keeps.{Keeps, KeepsBody, IsNumber, closed_of, number_of_run}
use Rattle.heapless_parser.specs.declared.parser.EscParser.{EscParser}
use Rattle.heapless_parser.specs.States.{FirstIn, BodyIn, NumberIn}
use Rattle.heapless_parser.specs.Numbers.{form_numbered}
use Rattle.heapless_parser.specs.Emitted.{param_of}

pub first_loaded : (p : EscParser) (i : Intermediates) (x : List ℕ) → i.bytes ≡ p.intermediates
    → i.kept ≡ min p.kept 2 → i.ignored ≡ p.has_more → FirstIn p x
    → Keeps i x
first_loaded p i x b k m h =
    let few : p.kept ≤ 2 = omega (arith, length-take 2 x, h.2) in
    let same : i.kept ≡ p.kept = omega arith in
    (rw (b, same) h.0, m ∙ h.1, same ∙ h.2)

pub first_stored : (p : EscParser) (i : Intermediates) (x : List ℕ) → p.intermediates ≡ i.bytes
    → p.kept ≡ i.kept → p.has_more ≡ i.ignored → Keeps i x
    → FirstIn p x
first_stored p i x b k m h = (rw (b, k) h.0, m ∙ h.1, k ∙ h.2)

-- ---- the body of a control sequence

number_loaded : (p : EscParser) (b : CsiBody) (o : Option ℕ) → b.csi_params.is_open ≡ p.is_open
    → b.csi_params.number ≡ min p.number 0x7fff_ffff_ffff_ffff
    → NumberIn p o → IsNumber b.csi_params o
number_loaded p b None e n h = e ∙ h
number_loaded p b (Some k) e n h = (e ∙ h.0, omega (arith, h.1))

pub body_loaded : (p : EscParser) (b : CsiBody) (x : List ℕ)
    → b.csi_params.items ≡ map param_of (take (min p.count 256) p.csi_params)
    → b.csi_params.limit ≡ 256
    → b.csi_params.is_truncated ≡ p.is_truncated → b.csi_params.is_open ≡ p.is_open
    → b.csi_params.number ≡ min p.number 0x7fff_ffff_ffff_ffff
    → b.form ≡ form_numbered p.form → BodyIn p x → KeepsBody b x
body_loaded p b x items limit more opened number form h =
    let few : min p.count 256 ≡ p.count = omega (arith, h.0) in (
      (
        record {
          kept = items ∙ ap (λ n. map param_of (take n p.csi_params)) few ∙ h.1.kept
              ∙ ap (λ n. take n (closed_of None x)) (sym limit);
          more = more ∙ h.1.more ∙ ap (λ n. nat_lt n (length (closed_of None x))) (sym limit);
        },
        number_loaded p b (number_of_run None x) opened number h.2,
        limit,
      ),
      form ∙ h.3,
    )
