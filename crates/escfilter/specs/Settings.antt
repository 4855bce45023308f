-- The settings that the program's words ask for.
use Rattle.std.specs.Prelude.{◌||◌, Bool, is_some}
use Rattle.escfilter.specs.declared.options.Options.{Options}

-- names are asked for of what did not pass
abbrev pub has_names : Options → Bool
has_names o = is_some o.report || o.has_events

-- somebody asks for an account: for the names, or for whether some fate is a failure
abbrev pub is_audited : Options → Bool
is_audited o = (has_names o || o.is_list) || is_some o.fails
