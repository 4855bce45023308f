use Rattle.std.proofs.Common.{rules, ◌∙◌, ◌&&◌, ap, sym}
use Rattle.esc_frame.specs.Leads.Unfinished.{InOsc}
use Rattle.esc_frame.specs.Machine.Moves.{borrows}
use Rattle.esc_frame.specs.Segments.{text_of}
use Rattle.esc_frame.proofs.Borrow.KeptStrings.{empty_is}
use Rattle.esc_frame.proofs.machine.Machine.parse_in_osc.Goals as goal

pub returns-then-is_new : goal.returns-then-is_new
returns-then-is_new g c = record {
  took = λ o ps k.
      c.parse_osc_text.ensures.took o ps
      (empty_is (text_of ps) (sym (c.is_new.ensures c.args.self.now.limit (text_of ps) k)
      ∙ c.if-is_new.true));
  quiet = search rules;
  count = search rules;
}

pub returns : goal.returns
returns g c = record {
  took = λ o ps k.
      c.parse_units.ensures.took o ps k
      (ap (λ t. t && borrows (InOsc o ps) c.args.rest.now)
      (sym (c.is_new.ensures c.args.self.now.limit (text_of ps) k) ∙ c.if-is_new.false));
  quiet = search rules;
  count = search rules;
}
