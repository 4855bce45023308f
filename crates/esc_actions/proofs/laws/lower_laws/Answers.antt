use Rattle.esc_actions.proofs.laws.lower_laws.Goals as goal

pub returns : goal.returns
returns g c = record {
  prints = c.says_print.ensures;
  executes = c.says_control.ensures;
  executes_high = c.says_high_control.ensures;
  one_segment = c.says_itself.ensures;
  command = c.says_osc.ensures;
  application = c.says_apc.ensures;
  events_fit = c.events_fit_within.ensures;
  command_clear = c.writes_clear.ensures;
  command_back = c.reads_back.ensures;
  command_writable = c.clear_is_writable.ensures;
  image_back = c.reads_back-2.ensures;
  image_writable = c.kept_is_writable.ensures;
  csi_back = c.csi_reads_back.ensures;
  csi_truncated = c.csi_truncated.ensures;
  mode_says = c.enter_says.ensures;
  short_says = c.short_says.ensures;
  sixel_says = c.sixel_says.ensures;
  query_says = c.query_says.ensures;
  header_natural = c.params_are_natural.ensures;
  header_writable = c.hook_is_writable.ensures;
  short_writable = c.short_is_writable.ensures;
  sixel_writable = c.data_is_writable.ensures;
  names_writable = c.data_is_writable-2.ensures;
}
