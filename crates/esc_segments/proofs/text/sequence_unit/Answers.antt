use Rattle.esc_segments.proofs.Texts.{whole_unit, broken_unit, control_unit}
use Rattle.esc_segments.proofs.text.sequence_unit.Goals as goal

pub returns-in-Whole : goal.returns-in-Whole
returns-in-Whole c = whole_unit c.args.text.now c.in-Whole.count c.in-Whole.ensures

pub returns-in-Broken : goal.returns-in-Broken
returns-in-Broken c = broken_unit c.args.text.now c.in-Broken.count c.in-Broken.ensures

pub returns-in-Control : goal.returns-in-Control
returns-in-Control c = control_unit c.args.text.now _ c.in-Control.ensures
