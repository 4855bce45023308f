use Rattle.std.proofs.Common.{◌++◌, Some, refl, false, ap, ◌∙◌}
use Rattle.esc_filter.proofs.Output.DeceivingCharacters.{writes_number}
use Rattle.esc_filter.proofs.written.Written.append_number.Goals as goal

pub returns-in-Ok-clause-ok : goal.returns-in-Ok-clause-ok
returns-in-Ok-clause-ok g c =
    writes_number c.args.self.now
    (record c.args.self.now {
      spell = record c.args.self.now.spell {
        text = c.push_str.new.self;
        follows_string = false;
      };
      before = Some 0x3e;
    })
    c.args.c
    (c.in-Ok.ensures.ok ∙ ap (λ x. c.args.self.now.spell.text ++ x)
    (c.as_str.ensures.value ∙ c.number_text.ensures))
    refl refl refl refl refl refl
