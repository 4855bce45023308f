-- Files beside the output that cannot be written whole.
use Rattle.std.specs.Prelude.{Bool, false, Option, None, Some, is_some}
use Rattle.escfilter.specs.declared.aside.Aside.{Aside}
use Rattle.escfilter.specs.declared.events.Events.{Events}

-- something could not be written to it
abbrev pub is_lost : Option Aside → Bool
is_lost None = false
is_lost (Some a) = is_some a.fault

-- the file of events
abbrev pub aside_in : Option Events → Option Aside
aside_in None = None
aside_in (Some e) = Some e.aside
